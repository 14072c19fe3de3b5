-- Items that are kept once.
use Rattle.std.proofs.Common.{◌≡◌, ℕ, ◌+◌, ◌<◌, Bool, true, false, not, ◌||◌, cond, is_some, Some, None, List, [], ◌∷◌, ◌++◌, map, length, get_or, drop, refl, sym, ap, ◌∙◌, add-one}
use Rattle.std.proofs.Math.Seq.{drop-cons}
use Rattle.std.proofs.lemmas.List.{map-append}
use Rattle.std.specs.List.{list_any, fold}
use Rattle.std.specs.Str.{bytes_eq}
use Rattle.std.specs.Borrow.{Bor}
use Rattle.fp_words.specs.Lists.{with_item}

-- where no item is empty, there is a list
pub is_list-from : (empty result : Bool) (items : List (List ℕ)) → result ≡ empty → not result ≡ is_some (cond empty None (Some items))
is_list-from true result items e = ap not e
is_list-from false result items e = ap not e

any-map : (test : List ℕ → Bool) (keys : List (Bor (List ℕ))) → list_any test (map (λ k. k.now) keys) ≡ list_any (λ k. test k.now) keys
any-map test [] = refl
any-map test (key ∷ keys) = ap (λ b. test key.now || b) (any-map test keys)

-- a set of texts after one more is put in
pub map-inserted : (keys longer : List (Bor (List ℕ))) (key : Bor (List ℕ)) → longer ≡ cond (list_any (λ k. bytes_eq key.now k.now) keys) keys (keys ++ key ∷ []) → map (λ k. k.now) longer ≡ with_item (map (λ k. k.now) keys) key.now
map-inserted keys longer key e =
    ap (map (λ k. k.now)) e ∙ by_case (list_any (λ k. bytes_eq key.now k.now) keys)
    ∙ ap (λ b. cond b (map (λ k. k.now) keys) (map (λ k. k.now) keys ++ key.now ∷ [])) (sym (any-map (bytes_eq key.now) keys))
  where
    by_case : (b : Bool) → map (λ k. k.now) (cond b keys (keys ++ key ∷ [])) ≡ cond b (map (λ k. k.now) keys) (map (λ k. k.now) keys ++ key.now ∷ [])
    by_case true = refl
    by_case false = map-append (λ k. k.now) keys (key ∷ [])

-- what is left begins with the next item
pub fold-next : (all kept : List (List ℕ)) (items : List (Bor (List ℕ))) (i : ℕ) (d : Bor (List ℕ)) → i < length items → fold with_item kept (map (λ k. k.now) (drop i items)) ≡ all → fold with_item (with_item kept (get_or items i d).now) (map (λ k. k.now) (drop (i + 1) items)) ≡ all
fold-next all kept items i d within e =
    let next : drop i items ≡ get_or items i d ∷ drop (i + 1) items = rw add-one (drop-cons items i d within) in
    sym (ap (λ rest. fold with_item kept (map (λ k. k.now) rest)) next) ∙ e
