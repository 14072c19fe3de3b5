-- A loop that reads what the indexes of a constant pool hold.
use Rattle.std.proofs.Common.{◌≡◌, ℕ, suc, ◌+◌, ◌-◌, ◌<◌, Bool, List, [], ◌∷◌, ◌++◌, Ok, refl, arith}
use Rattle.fp_model.specs.declared.fault.FileFault.{FileFault}
use Rattle.fp_model.specs.declared.raw.pool.Entry.{Entry}
use Rattle.fp_model.specs.Pool.{is_wide, slot_at, slots_at}
use Rattle.fp_model.specs.Reading.{Fails}
use Rattle.fp_model.proofs.Many.{Fails-bind}

first : (last left at : ℕ) (before : List Entry) (empty : Bool) (bytes : List ℕ) (x : Entry × ℕ) → slot_at last left empty bytes at ≡ Ok x → slots_at last (suc left) before empty bytes at ≡ slots_at last left (before ++ x.0 ∷ []) (is_wide x.0) bytes x.1
unfolding slots_at
first last left at before empty bytes x e = rw e refl

-- the loop goes on behind what an index holds
pub slots-next : (count i at : ℕ) (before : List Entry) (empty : Bool) (bytes : List ℕ) (x : Entry × ℕ) → i < count → slot_at (count - 1) (count - 1 - i) empty bytes at ≡ Ok x → slots_at (count - 1) (count - i) before empty bytes at ≡ slots_at (count - 1) (count - (i + 1)) (before ++ x.0 ∷ []) (is_wide x.0) bytes x.1
slots-next count i at before empty bytes x lt e =
    let k : count - i ≡ suc (count - 1 - i) = omega arith in
    let l : count - (i + 1) ≡ count - 1 - i = omega arith in
    rw (k, l) (first (count - 1) (count - 1 - i) at before empty bytes x e)

-- no index is left
pub slots-end : (count i at : ℕ) (before : List Entry) (empty : Bool) (bytes : List ℕ) → count ≡ i → slots_at (count - 1) (count - i) before empty bytes at ≡ Ok (before, at)
unfolding slots_at
slots-end count i at before empty bytes e = let k : count - i ≡ 0 = omega arith in rw k refl

fails_first : (e : FileFault) (last left at : ℕ) (before : List Entry) (empty : Bool) (bytes : List ℕ) → Fails e (slot_at last left empty bytes at) → Fails e (slots_at last (suc left) before empty bytes at)
unfolding slots_at
fails_first e last left at before empty bytes h = Fails-bind e (slot_at last left empty bytes at) (λ x. slots_at last left (before ++ x.0 ∷ []) (is_wide x.0) bytes x.1) h

-- the loop fails where an index does
pub slots-fail : (e : FileFault) (count i at : ℕ) (before : List Entry) (empty : Bool) (bytes : List ℕ) → i < count → Fails e (slot_at (count - 1) (count - 1 - i) empty bytes at) → Fails e (slots_at (count - 1) (count - i) before empty bytes at)
slots-fail e count i at before empty bytes lt h =
    let k : count - i ≡ suc (count - 1 - i) = omega arith in
    rw k (fails_first e (count - 1) (count - 1 - i) at before empty bytes h)
