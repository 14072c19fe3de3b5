-- Loops that read one thing after the other.
use Rattle.std.proofs.Common.{◌≡◌, ℕ, suc, ◌+◌, ◌-◌, ◌<◌, ◌≤◌, List, [], ◌∷◌, ◌++◌, length, Result, Ok, refl, arith}
use Rattle.std.proofs.lemmas.Bool.{le-leb, lt-leb}
use Rattle.fp_model.specs.declared.fault.FileFault.{FileFault}
use Rattle.fp_model.specs.Reading.{Fails}
use Rattle.fp_model.specs.Decoding.{pair_at, pairs_end, all_at}
use Rattle.fp_model.proofs.Many.{Fails-bind}

-- ---- the pairs of a switch

first_pair : (op_at left least : ℕ) (bytes : List ℕ) (at : ℕ) (x : ℕ × ℕ) → pair_at op_at least bytes at ≡ Ok x → pairs_end op_at (suc left) least bytes at ≡ pairs_end op_at left x.0 bytes x.1
unfolding pairs_end
first_pair op_at left least bytes at x e = rw e refl

pub pairs_end-next : (op_at count i least : ℕ) (bytes : List ℕ) (at : ℕ) (x : ℕ × ℕ) → i < count → pair_at op_at least bytes at ≡ Ok x → pairs_end op_at (count - i) least bytes at ≡ pairs_end op_at (count - (i + 1)) x.0 bytes x.1
pairs_end-next op_at count i least bytes at x lt e =
    let k : count - i ≡ suc (count - (i + 1)) = omega arith in
    rw k (first_pair op_at (count - (i + 1)) least bytes at x e)

pub pairs_end-end : (op_at count i least : ℕ) (bytes : List ℕ) (at : ℕ) → count ≡ i → pairs_end op_at (count - i) least bytes at ≡ Ok at
unfolding pairs_end
pairs_end-end op_at count i least bytes at e = let k : count - i ≡ 0 = omega arith in rw k refl

fails_first_pair : (e : FileFault) (op_at left least : ℕ) (bytes : List ℕ) (at : ℕ) → Fails e (pair_at op_at least bytes at) → Fails e (pairs_end op_at (suc left) least bytes at)
unfolding pairs_end
fails_first_pair e op_at left least bytes at h = Fails-bind e (pair_at op_at least bytes at) (λ x. pairs_end op_at left x.0 bytes x.1) h

pub Fails-pairs_end : (e : FileFault) (op_at count i least : ℕ) (bytes : List ℕ) (at : ℕ) → i < count → Fails e (pair_at op_at least bytes at) → Fails e (pairs_end op_at (count - i) least bytes at)
Fails-pairs_end e op_at count i least bytes at lt h =
    let k : count - i ≡ suc (count - (i + 1)) = omega arith in
    rw k (fails_first_pair e op_at (count - (i + 1)) least bytes at h)

-- ---- all up to the end of the bytes

next_of_all : {A : Type 0} (read : ℕ → Result (A × ℕ) FileFault) (bytes : List ℕ) (left at : ℕ) (before : List A) (x : A × ℕ) → at < length bytes → read at ≡ Ok x → all_at read bytes (suc left) before at ≡ all_at read bytes left (before ++ x.0 ∷ []) x.1
unfolding all_at
next_of_all read bytes left at before x lt e = rw (lt-leb (length bytes) at lt, e) refl

pub all_at-next : {A : Type 0} (read : ℕ → Result (A × ℕ) FileFault) (bytes : List ℕ) (count i at : ℕ) (before : List A) (x : A × ℕ) → i < count → at < length bytes → read at ≡ Ok x → all_at read bytes (count - i) before at ≡ all_at read bytes (count - (i + 1)) (before ++ x.0 ∷ []) x.1
all_at-next read bytes count i at before x lt inside e =
    let k : count - i ≡ suc (count - (i + 1)) = omega arith in
    rw k (next_of_all read bytes (count - (i + 1)) at before x inside e)

pub all_at-spent : {A : Type 0} (read : ℕ → Result (A × ℕ) FileFault) (bytes : List ℕ) (count i at : ℕ) (before : List A) → count ≡ i → all_at read bytes (count - i) before at ≡ Ok before
unfolding all_at
all_at-spent read bytes count i at before e = let k : count - i ≡ 0 = omega arith in rw k refl

end_of_all : {A : Type 0} (read : ℕ → Result (A × ℕ) FileFault) (bytes : List ℕ) (left at : ℕ) (before : List A) → length bytes ≤ at → all_at read bytes (suc left) before at ≡ Ok before
unfolding all_at
end_of_all read bytes left at before le = rw (le-leb (length bytes) at le) refl

pub all_at-end : {A : Type 0} (read : ℕ → Result (A × ℕ) FileFault) (bytes : List ℕ) (count i at : ℕ) (before : List A) → i < count → length bytes ≤ at → all_at read bytes (count - i) before at ≡ Ok before
all_at-end read bytes count i at before lt le =
    let k : count - i ≡ suc (count - (i + 1)) = omega arith in
    rw k (end_of_all read bytes (count - (i + 1)) at before le)

fails_first_of_all : {A : Type 0} (e : FileFault) (read : ℕ → Result (A × ℕ) FileFault) (bytes : List ℕ) (left at : ℕ) (before : List A) → at < length bytes → Fails e (read at) → Fails e (all_at read bytes (suc left) before at)
unfolding all_at
fails_first_of_all e read bytes left at before lt h =
    rw (lt-leb (length bytes) at lt) (Fails-bind e (read at) (λ x. all_at read bytes left (before ++ x.0 ∷ []) x.1) h)

pub Fails-all_at : {A : Type 0} (e : FileFault) (read : ℕ → Result (A × ℕ) FileFault) (bytes : List ℕ) (count i at : ℕ) (before : List A) → i < count → at < length bytes → Fails e (read at) → Fails e (all_at read bytes (count - i) before at)
Fails-all_at e read bytes count i at before lt inside h =
    let k : count - i ≡ suc (count - (i + 1)) = omega arith in
    rw k (fails_first_of_all e read bytes (count - (i + 1)) at before inside h)
