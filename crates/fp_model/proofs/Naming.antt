-- The first name of the classes that are marked, from the last class to the first.
use Rattle.std.proofs.Common.{◌≡◌, ℕ, ◌+◌, ◌<◌, ◌≤◌, Bool, true, false, cond, List, [], ◌∷◌, length, map, filter, zip, get_or, drop, Option, Some, None, unwrap_or, option_copied, slice_get, IsSome, refl, sym, ap, ap₂, ◌∙◌, arith}
use Rattle.std.specs.Borrow.{Bor}
use Rattle.std.proofs.lemmas.List.{drop_more, drop_all}
use Rattle.std.proofs.lemmas.Option.{none-some, slice_get-get_or}
use Rattle.fp_base.specs.Escape.{escaped_name}
use Rattle.fp_model.specs.declared.class.Class.{Class}
use Rattle.fp_model.specs.Descriptor.{text_of}
use Rattle.fp_model.specs.ClassSet.{earlier, least_text, marked_names}

-- no class is left
pub least_none : (names : List (List ℕ)) (classes : List Class) (marks : List Bool) (i : ℕ) → length classes ≤ i → None ≡ least_text (marked_names names (drop i classes) (drop i marks))
unfolding least_text
least_none names classes marks i past = rw (drop_all i classes past) refl

-- one class more, with its mark
least_more : (names : List (List ℕ)) (classes : List Class) (marks : List Bool) (i : ℕ) (d : Class) (b : Bool) → i < length classes → length marks ≡ length classes → get_or marks i false ≡ b → marked_names names (drop i classes) (drop i marks) ≡ map (λ e. escaped_name (text_of names e.0.name)) (cond b ((get_or classes i d, b) ∷ filter (λ e. e.1) (zip (drop (i + 1) classes) (drop (i + 1) marks))) (filter (λ e. e.1) (zip (drop (i + 1) classes) (drop (i + 1) marks))))
least_more names classes marks i d b within long is =
    ap₂ (marked_names names) (drop_more classes i d within) (drop_more marks i false (omega arith) ∙ ap (λ m. m ∷ drop (i + 1) marks) is)

pub least_marked : (names : List (List ℕ)) (classes : List Class) (marks : List Bool) (i j : ℕ) (d : Class) → i + 1 ≡ j → i < length classes → length marks ≡ length classes → get_or marks i false ≡ true → Some (earlier (escaped_name (text_of names (get_or classes i d).name)) (least_text (marked_names names (drop j classes) (drop j marks)))) ≡ least_text (marked_names names (drop i classes) (drop i marks))
unfolding least_text
least_marked names classes marks i j d next within long is =
    ap (λ k. Some (earlier (escaped_name (text_of names (get_or classes i d).name)) (least_text (marked_names names (drop k classes) (drop k marks))))) (sym next)
    ∙ sym (ap least_text (least_more names classes marks i d true within long is))

pub least_unmarked : (names : List (List ℕ)) (classes : List Class) (marks : List Bool) (i j : ℕ) → i + 1 ≡ j → i < length classes → length marks ≡ length classes → get_or marks i false ≡ false → least_text (marked_names names (drop j classes) (drop j marks)) ≡ least_text (marked_names names (drop i classes) (drop i marks))
least_unmarked names [] marks i j next within long is = absurd (omega arith)
least_unmarked names (d ∷ rest) marks i j next within long is =
    ap (λ k. least_text (marked_names names (drop k (d ∷ rest)) (drop k marks))) (sym next)
    ∙ sym (ap least_text (least_more names (d ∷ rest) marks i d false within long is))

-- the text of a number that the table has
pub text_found : (names : List (List ℕ)) (n : ℕ) (found : Option (Bor (List ℕ))) (text : Bor (List ℕ)) → option_copied found ≡ slice_get names n → found ≡ Some text → text.now ≡ text_of names n
text_found names n found text copied is = ap (λ o. unwrap_or o []) (ap option_copied (sym is) ∙ copied)

pub text_known : (names : List (List ℕ)) (n : ℕ) (found : Option (Bor (List ℕ))) → option_copied found ≡ slice_get names n → n < length names → IsSome found
text_known names n None copied small = absurd (none-some (get_or names n []) (copied ∙ slice_get-get_or names n [] small))
text_known names n (Some text) copied small = refl
