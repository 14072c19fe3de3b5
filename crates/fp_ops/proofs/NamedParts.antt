-- What is there, and lists place by place.
use Rattle.std.proofs.Common.{◌≡◌, inl, inr, ℕ, ◌+◌, List, [], ◌∷◌, ◌++◌, Bool, true, Option, Some, None, length, drop, refl, ap, ◌∙◌, arith}
use Rattle.std.proofs.lemmas.Bool.{both_ways, cases_lt}
use Rattle.std.proofs.lemmas.List.{take-append-drop}
use Rattle.std.specs.List.{AllZip}
use Rattle.std.specs.Option.{is_some}
use Rattle.fp_model.specs.Descriptor.{StopsAt}
use Rattle.fp_model.specs.Entries.{passes}

-- ---- lists place by place

pub AllZip-to : {A B : Type 0} (P Q : A → B → Type 0) (xs : List A) (ys : List B) → ((x : A) (y : B) → P x y → Q x y) → AllZip P xs ys → AllZip Q xs ys
AllZip-to P Q [] [] f all = tt
AllZip-to P Q [] (y ∷ ys) f all = absurd all
AllZip-to P Q (x ∷ xs) [] f all = absurd all
AllZip-to P Q (x ∷ xs) (y ∷ ys) f all = (f x y all.0, AllZip-to P Q xs ys f all.1)

pub AllZip-more : {A B : Type 0} (P : A → B → Type 0) (xs : List A) (ys : List B) (x : A) (y : B) → AllZip P xs ys → P x y → AllZip P (xs ++ x ∷ []) (ys ++ y ∷ [])
AllZip-more P [] [] x y all one = (one, tt)
AllZip-more P [] (b ∷ ys) x y all one = absurd all
AllZip-more P (a ∷ xs) [] x y all one = absurd all
AllZip-more P (a ∷ xs) (b ∷ ys) x y all one = (all.0, AllZip-more P xs ys x y all.1 one)

-- ---- what is there

-- what passes a test is there
pub passes-is_some : {A : Type 0} (test : A → Bool) (o : Option A) → passes test o ≡ true → is_some o ≡ true
passes-is_some test None h = absurd (cc)
passes-is_some test (Some x) h = refl

-- a text that passes the test has no bad place
pub not_bad : (test : List ℕ → Bool) (text : List ℕ) (at : ℕ) → test text ≡ true → StopsAt test text at → ⊥
not_bad test text at passes bad =
    elim (cases_lt at (length text)) [
      | inl lt ↦ bad.after lt (drop (at + 1) text, ap test (take-append-drop (at + 1) text) ∙ passes)
      | inr ge ↦ both_ways (test text) (bad.whole (omega (arith, bad.within))) passes
    ]
