-- Loops that read so many things of one kind, one after the other.
use Rattle.std.proofs.Common.{◌≡◌, ℕ, suc, ◌+◌, ◌-◌, ◌<◌, List, [], ◌∷◌, ◌++◌, Result, Ok, refl, arith}
use Rattle.fp_model.specs.declared.fault.FileFault.{FileFault}
use Rattle.fp_model.specs.declared.fault.FileFault.TheVariants as fault
use Rattle.fp_model.specs.Reading.{◌>>=◌, Fails, many_at}

-- the first step of a loop, where it gave something
first : {A : Type 0} (read : ℕ → Result (A × ℕ) FileFault) (left at : ℕ) (before : List A) (x : A × ℕ) → read at ≡ Ok x → many_at read (suc left) before at ≡ many_at read left (before ++ x.0 ∷ []) x.1
unfolding many_at
first read left at before x e = rw e refl

-- a loop goes on behind what a step gave
pub many_at-next : {A : Type 0} (read : ℕ → Result (A × ℕ) FileFault) (count i at : ℕ) (before : List A) (x : A × ℕ) → i < count → read at ≡ Ok x → many_at read (count - i) before at ≡ many_at read (count - (i + 1)) (before ++ x.0 ∷ []) x.1
many_at-next read count i at before x lt e =
    let k : count - i ≡ suc (count - (i + 1)) = omega arith in
    rw k (first read (count - (i + 1)) at before x e)

-- nothing is left to read
pub many_at-end : {A : Type 0} (read : ℕ → Result (A × ℕ) FileFault) (count i at : ℕ) (before : List A) → count ≡ i → many_at read (count - i) before at ≡ Ok (before, at)
unfolding many_at
many_at-end read count i at before e = let k : count - i ≡ 0 = omega arith in rw k refl

-- a call that fails where a step does, fails where the loop does
pub Fails-bind : {A B : Type 0} (e : FileFault) (read : Result A FileFault) (next : A → Result B FileFault) → Fails e read → Fails e (read >>= next)
Fails-bind (fault.Truncated at) read next h = rw h refl
Fails-bind fault.Magic read next h = rw h refl
Fails-bind (fault.Version major minor) read next h = rw h refl
Fails-bind (fault.Tag at tag) read next h = rw h refl
Fails-bind (fault.Index at index) read next h = rw h refl
Fails-bind (fault.Descriptor at) read next h = rw h refl
Fails-bind (fault.Opcode at byte) read next h = rw h refl
Fails-bind (fault.Subroutine at) read next h = rw h refl
Fails-bind (fault.Bounds at) read next h = rw h refl
Fails-bind (fault.CodeCount method) read next h = rw h refl
Fails-bind (fault.Repeat at) read next h = rw h refl
Fails-bind (fault.Trailing at) read next h = rw h refl
Fails-bind fault.Memory read next h = tt

fails_first : {A : Type 0} (e : FileFault) (read : ℕ → Result (A × ℕ) FileFault) (left at : ℕ) (before : List A) → Fails e (read at) → Fails e (many_at read (suc left) before at)
unfolding many_at
fails_first e read left at before h = Fails-bind e (read at) (λ x. many_at read left (before ++ x.0 ∷ []) x.1) h

pub Fails-many_at : {A : Type 0} (e : FileFault) (read : ℕ → Result (A × ℕ) FileFault) (count i at : ℕ) (before : List A) → i < count → Fails e (read at) → Fails e (many_at read (count - i) before at)
Fails-many_at e read count i at before lt h =
    let k : count - i ≡ suc (count - (i + 1)) = omega arith in
    rw k (fails_first e read (count - (i + 1)) at before h)
