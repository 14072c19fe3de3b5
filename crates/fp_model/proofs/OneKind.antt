-- A text says at most one kind.
use Rattle.std.proofs.Common.{◌≡◌, ℕ, zero, suc, ◌+◌, ◌<◌, true, false, cond, List, [], ◌∷◌, ◌++◌, Some, None, length, drop, replicate, codes, refl, sym, ap, ◌∙◌, arith, length-append}
use Rattle.std.specs.Prelude.{◌==◌, nat_le, slice_get, unwrap_or}
use Rattle.std.proofs.lemmas.List.{append-nil, append_cancel_right, length-replicate, replicate_more}
use Rattle.std.proofs.Math.Seq.{drop-append_seam}
use Rattle.std.proofs.lemmas.Bool.{and_parts, and_right, both_ways, eqb-true, ne_eqb}
use Rattle.std.proofs.lemmas.Bool.Decides.{nat_tests}
use Rattle.fp_base.specs.Names.{AreDistinct}
use Rattle.fp_model.specs.declared.kind.Kind.{Kind}
use Rattle.fp_model.specs.declared.kind.Kind.TheVariants as kind
use Rattle.fp_model.specs.declared.kind.Elem.{Elem}
use Rattle.fp_model.specs.declared.kind.Elem.TheVariants as elem
use Rattle.fp_model.specs.Descriptor.{dimensions, element_text, is_among, is_element, is_field_descriptor, is_proper, kind_text, text_of, IsKindOf}
use Rattle.fp_model.specs.Kinds.{kind_of_element}
use Rattle.fp_model.proofs.ArrayTypes.{dimensions-other, dimensions-replicate, is_field_descriptor-brackets}
use Rattle.fp_model.proofs.ElementTexts.{name_parts}

-- ---- a kind by its dimensions and the type of its element

pub dims_of : Kind → ℕ
dims_of (kind.Array dims element) = dims
dims_of _ = 0

pub element_of : Kind → Elem
element_of (kind.Int letter) = elem.Prim letter
element_of kind.Long = elem.Prim 74
element_of kind.Float = elem.Prim 70
element_of kind.Double = elem.Prim 68
element_of (kind.Class name) = elem.Class name
element_of (kind.Array dims element) = element

pub kind_from : ℕ → Elem → Kind
kind_from zero element = kind_of_element element
kind_from (suc dims) element = kind.Array (suc dims) element

written : (names : List (List ℕ)) (k : Kind) → kind_text names k ≡ replicate (dims_of k) 91 ++ element_text names (element_of k)
unfolding dims_of element_of
written names (kind.Int letter) = refl
written names kind.Long = refl
written names kind.Float = refl
written names kind.Double = refl
written names (kind.Class name) = refl
written names (kind.Array dims element) = refl

int_letter : (letter : ℕ) → is_among (codes "BCISZ") letter ≡ true → kind_from zero (elem.Prim letter) ≡ kind.Int letter
unfolding kind_from
int_letter letter proper = grind (arith, nat_tests)

pub made : (k : Kind) → is_proper k ≡ true → kind_from (dims_of k) (element_of k) ≡ k
unfolding dims_of element_of kind_from
made (kind.Int letter) proper = int_letter letter proper
made kind.Long proper = refl
made kind.Float proper = refl
made kind.Double proper = refl
made (kind.Class name) proper = refl
made (kind.Array zero element) proper = absurd cc
made (kind.Array (suc dims) element) proper = refl

-- a kind by the dimensions that are counted
pub kind_from-count : (dims : ℕ) (element inner : Elem) → (dims ≡ 0 → element ≡ inner) → cond (dims == 0) (kind_of_element element) (kind.Array dims inner) ≡ kind_from dims inner
unfolding kind_from
kind_from-count zero element inner same = ap kind_of_element (same refl)
kind_from-count (suc dims) element inner same = ap (λ b. cond b (kind_of_element element) (kind.Array (suc dims) inner)) (ne_eqb (suc dims) 0 (λ e. omega arith))

-- ---- the dimensions

bracket_alone : (dims : ℕ) → is_field_descriptor (replicate dims 91 ++ 91 ∷ []) ≡ true → ⊥
bracket_alone dims passes =
    let all : replicate dims 91 ++ 91 ∷ [] ≡ replicate (dims + 1) 91 ++ [] = replicate_more dims 91 ∙ sym (append-nil (replicate (dims + 1) 91)) in
    let fails : is_field_descriptor (replicate (dims + 1) 91 ++ []) ≡ false = is_field_descriptor-brackets (dims + 1) [] refl ∙ and_right (nat_le (dims + 1) 255) false refl in
    both_ways (is_field_descriptor (replicate dims 91 ++ 91 ∷ [])) (ap is_field_descriptor all ∙ fails) passes

-- the '[' of a text end where the type of its element begins
no_bracket : (names : List (List ℕ)) (dims : ℕ) (element : Elem) → is_field_descriptor (replicate dims 91 ++ element_text names element) ≡ true → dimensions (element_text names element) ≡ 0
no_bracket names dims (elem.Class name) passes = refl
no_bracket names dims (elem.Prim letter) passes =
    elim (letter == 91) as (λ b. (letter == 91) ≡ b → dimensions (letter ∷ []) ≡ 0) [
      | true ↦ λ h. absurd (bracket_alone dims (ap (λ l. is_field_descriptor (replicate dims 91 ++ l ∷ [])) (sym (eqb-true letter 91 h)) ∙ passes))
      | false ↦ λ h. dimensions-other letter [] h
    ] refl

-- what a text says of the parts of its kind
pub seen : (names : List (List ℕ)) (text : List ℕ) (k : Kind) → IsKindOf names text k → (dims_of k ≡ dimensions text) × (element_text names (element_of k) ≡ drop (dimensions text) text)
seen names text k is =
    let whole : replicate (dims_of k) 91 ++ element_text names (element_of k) ≡ text = sym (written names k) ∙ is.written in
    let passes : is_field_descriptor (kind_text names k) ≡ true = (and_parts (is_proper k) (is_field_descriptor (kind_text names k)) is.kind).1 in
    let none : dimensions (element_text names (element_of k)) ≡ 0 = no_bracket names (dims_of k) (element_of k) (ap is_field_descriptor (sym (written names k)) ∙ passes) in
    let count : dims_of k ≡ dimensions text = omega (arith, ap dimensions whole, dimensions-replicate (dims_of k) (element_text names (element_of k))) in
    let rest : element_text names (element_of k) ≡ drop (dims_of k) text =
    sym (drop-append_seam (replicate (dims_of k) 91) (element_text names (element_of k)))
    ∙ ap (λ n. drop n (replicate (dims_of k) 91 ++ element_text names (element_of k))) (length-replicate (dims_of k) 91)
    ∙ ap (drop (dims_of k)) whole in
    (count, rest ∙ ap (λ n. drop n text) count)

-- ---- the type of an element

-- a text that is not empty stands in the table
pub stands : (names : List (List ℕ)) (n : ℕ) → 0 < length (text_of names n) → slice_get names n ≡ Some (text_of names n)
stands names n some =
    elim (slice_get names n) as (λ o. 0 < length (unwrap_or o []) → o ≡ Some (unwrap_or o [])) [
      | Some text ↦ λ _. refl
      | None ↦ λ some. absurd (omega arith)
    ] some

same_name : (names : List (List ℕ)) (m n : ℕ) → AreDistinct names → text_of names m ≡ text_of names n → 0 < length (text_of names m) → m ≡ n
same_name names m n distinct same some =
    let also : 0 < length (text_of names n) = omega (arith, ap length same) in
    distinct.same_number m n (text_of names n) (stands names m some ∙ ap Some same) (stands names n also)

same_element : (names : List (List ℕ)) (a b : Elem) → AreDistinct names → element_text names a ≡ element_text names b → is_element (element_text names a) ≡ true → a ≡ b
same_element names (elem.Prim x) (elem.Prim y) distinct same passes = ap elem.Prim cc
same_element names (elem.Prim x) (elem.Class n) distinct same passes = absurd (omega (arith, ap length same, length-append (text_of names n) (59 ∷ [])))
same_element names (elem.Class m) (elem.Prim y) distinct same passes = absurd (omega (arith, ap length same, length-append (text_of names m) (59 ∷ [])))
same_element names (elem.Class m) (elem.Class n) distinct same passes =
    let name : text_of names m ≡ text_of names n = append_cancel_right (text_of names m) (text_of names n) (59 ∷ []) (ap (drop 1) same) in
    ap elem.Class (same_name names m n distinct name (name_parts (text_of names m) 59 passes).0)

-- ---- the law

pub one_kind : (names : List (List ℕ)) (text : List ℕ) (a b : Kind) → AreDistinct names → IsKindOf names text a → IsKindOf names text b → a ≡ b
one_kind names text a b distinct is also =
    let left = seen names text a is in
    let right = seen names text b also in
    let whole = and_parts (is_proper a) (is_field_descriptor (kind_text names a)) is.kind in
    let descriptor : is_field_descriptor text ≡ true = ap is_field_descriptor (sym is.written) ∙ whole.1 in
    let passes : is_element (element_text names (element_of a)) ≡ true = ap is_element left.1 ∙ (and_parts (nat_le (dimensions text) 255) (is_element (drop (dimensions text) text)) descriptor).1 in
    let dims : dims_of a ≡ dims_of b = left.0 ∙ sym right.0 in
    let element : element_of a ≡ element_of b = same_element names (element_of a) (element_of b) distinct (left.1 ∙ sym right.1) passes in
    sym (made a whole.0)
    ∙ ap (λ d. kind_from d (element_of a)) dims
    ∙ ap (kind_from (dims_of b)) element
    ∙ made b (and_parts (is_proper b) (is_field_descriptor (kind_text names b)) also.kind).0
