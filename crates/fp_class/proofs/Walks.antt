-- Loops that pass over so many things, and loops that read so many of which each may depend on those before it.
use Rattle.std.proofs.Common.{◌≡◌, ℕ, suc, ◌+◌, ◌-◌, ◌<◌, List, [], ◌∷◌, ◌++◌, Result, Ok, refl, arith}
use Rattle.fp_model.specs.declared.fault.FileFault.{FileFault}
use Rattle.fp_model.specs.Reading.{Fails}
use Rattle.fp_model.proofs.Many.{Fails-bind}
use Rattle.fp_class.specs.Layout.{many_skipped}
use Rattle.fp_class.specs.Members.{many_after}

-- ---- passing over

skipped_first : (skip : ℕ → Result ℕ FileFault) (left at next : ℕ) → skip at ≡ Ok next → many_skipped skip (suc left) at ≡ many_skipped skip left next
unfolding many_skipped
skipped_first skip left at next e = rw e refl

pub many_skipped-next : (skip : ℕ → Result ℕ FileFault) (count i at next : ℕ) → i < count → skip at ≡ Ok next → many_skipped skip (count - i) at ≡ many_skipped skip (count - (i + 1)) next
many_skipped-next skip count i at next lt e =
    let k : count - i ≡ suc (count - (i + 1)) = omega arith in
    rw k (skipped_first skip (count - (i + 1)) at next e)

pub many_skipped-end : (skip : ℕ → Result ℕ FileFault) (count i at : ℕ) → count ≡ i → many_skipped skip (count - i) at ≡ Ok at
unfolding many_skipped
many_skipped-end skip count i at e = let k : count - i ≡ 0 = omega arith in rw k refl

fails_skipped : (e : FileFault) (skip : ℕ → Result ℕ FileFault) (left at : ℕ) → Fails e (skip at) → Fails e (many_skipped skip (suc left) at)
unfolding many_skipped
fails_skipped e skip left at h = Fails-bind e (skip at) (λ next. many_skipped skip left next) h

pub Fails-many_skipped : (e : FileFault) (skip : ℕ → Result ℕ FileFault) (count i at : ℕ) → i < count → Fails e (skip at) → Fails e (many_skipped skip (count - i) at)
Fails-many_skipped e skip count i at lt h =
    let k : count - i ≡ suc (count - (i + 1)) = omega arith in
    rw k (fails_skipped e skip (count - (i + 1)) at h)

-- ---- reading behind what is there

after_first : {A : Type 0} (read : List A → ℕ → Result (A × ℕ) FileFault) (left at : ℕ) (before : List A) (x : A × ℕ) → read before at ≡ Ok x → many_after read (suc left) before at ≡ many_after read left (before ++ x.0 ∷ []) x.1
unfolding many_after
after_first read left at before x e = rw e refl

pub many_after-next : {A : Type 0} (read : List A → ℕ → Result (A × ℕ) FileFault) (count i at : ℕ) (before : List A) (x : A × ℕ) → i < count → read before at ≡ Ok x → many_after read (count - i) before at ≡ many_after read (count - (i + 1)) (before ++ x.0 ∷ []) x.1
many_after-next read count i at before x lt e =
    let k : count - i ≡ suc (count - (i + 1)) = omega arith in
    rw k (after_first read (count - (i + 1)) at before x e)

pub many_after-end : {A : Type 0} (read : List A → ℕ → Result (A × ℕ) FileFault) (count i at : ℕ) (before : List A) → count ≡ i → many_after read (count - i) before at ≡ Ok (before, at)
unfolding many_after
many_after-end read count i at before e = let k : count - i ≡ 0 = omega arith in rw k refl

fails_after : {A : Type 0} (e : FileFault) (read : List A → ℕ → Result (A × ℕ) FileFault) (left at : ℕ) (before : List A) → Fails e (read before at) → Fails e (many_after read (suc left) before at)
unfolding many_after
fails_after e read left at before h = Fails-bind e (read before at) (λ x. many_after read left (before ++ x.0 ∷ []) x.1) h

pub Fails-many_after : {A : Type 0} (e : FileFault) (read : List A → ℕ → Result (A × ℕ) FileFault) (count i at : ℕ) (before : List A) → i < count → Fails e (read before at) → Fails e (many_after read (count - i) before at)
Fails-many_after e read count i at before lt h =
    let k : count - i ≡ suc (count - (i + 1)) = omega arith in
    rw k (fails_after e read (count - (i + 1)) at before h)
