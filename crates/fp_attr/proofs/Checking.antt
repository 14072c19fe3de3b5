-- A loop that checks one thing after the other.
use Rattle.std.proofs.Common.{◌≡◌, ℕ, ◌+◌, ◌*◌, ◌<◌, List, [], ◌∷◌, length, get_or, drop, Result, Ok, refl, ap, ◌∙◌, length-append, arith}
use Rattle.std.specs.List.{flat_map}
use Rattle.fp_model.specs.declared.fault.FileFault.{FileFault}
use Rattle.fp_model.specs.Reading.{Fails}
use Rattle.fp_model.specs.References.{each_checked}
use Rattle.fp_model.specs.Spelling.{u2}
use Rattle.fp_model.proofs.Many.{Fails-bind}
use Rattle.fp_ops.proofs.Walking.{next_of}

pub ok_is : {A : Type 0} (a b : A) → (let given : Result A FileFault = Ok a in given) ≡ Ok b → a ≡ b
ok_is a b e = cc

-- it fails where the next thing does
pub each_fails : {A : Type 0} (spelled : A → List ℕ) (check : ℕ → A → Result (Unit {0}) FileFault) (at : ℕ) (xs : List A) (i : ℕ) (x : A) (e : FileFault) → i < length xs → x ≡ get_or xs i x → Fails e (check at x) → Fails e (each_checked spelled check at (drop i xs))
unfolding each_checked
each_fails spelled check at xs i x e lt is failed =
    rw (next_of xs i x lt is) (Fails-bind e (check at x) (λ _. each_checked spelled check (at + length (spelled x)) (drop (i + 1) xs)) failed)

-- what is left is the next thing, and what is left behind it
pub each_size : {A : Type 0} (spelled : A → List ℕ) (xs : List A) (i : ℕ) (x : A) → i < length xs → x ≡ get_or xs i x → length (flat_map spelled (drop i xs)) ≡ length (spelled x) + length (flat_map spelled (drop (i + 1) xs))
each_size spelled xs i x lt is = ap (λ l. length (flat_map spelled l)) (next_of xs i x lt is) ∙ length-append (spelled x) (flat_map spelled (drop (i + 1) xs))

-- how many bytes indexes take
pub u2s_size : (indexes : List ℕ) → length (flat_map u2 indexes) ≡ 2 * length indexes
u2s_size [] = refl
u2s_size (index ∷ indexes) = omega (arith, u2s_size indexes)
