-- The first of texts by their bytes is one of them, and none comes before it.
use Rattle.std.proofs.Common.{◌≡◌, ℕ, suc, false, List, [], ◌∷◌, Option, Some, None, ⊎_elim, refl, sym, subst, ◌∙◌, arith}
use Rattle.std.proofs.lemmas.Bool.{cases_Bool, cond-true, cond-false}
use Rattle.std.proofs.lemmas.List.Elements.{All-nil, All-cons, All-weaker}
use Rattle.std.proofs.lemmas.Option.{none-some, same_Some}
use Rattle.fp_base.specs.Order.{is_before}
use Rattle.fp_base.proofs.OrderLemmas.{not_before_itself, not_before, before_one_way}
use Rattle.fp_model.specs.ClassSet.{earlier, least_text, IsFirstOf}

pub least_text-None : (texts : List (List ℕ)) → least_text texts ≡ None → texts ≡ []
unfolding least_text
least_text-None [] e = refl
least_text-None (text ∷ texts) e = absurd (none-some _ (sym e))

pub least_text-Some : (texts : List (List ℕ)) (text : List ℕ) → least_text texts ≡ Some text → IsFirstOf texts text
unfolding least_text
least_text-Some [] text e = absurd (none-some text e)
least_text-Some (t ∷ ts) text e = with_rest (λ m. least_text-Some ts m) (least_text ts) refl (same_Some (earlier t (least_text ts)) text e)
  where
    with_rest : ((m : List ℕ) → least_text ts ≡ Some m → IsFirstOf ts m) → (rest : Option (List ℕ)) → least_text ts ≡ rest → earlier t rest ≡ text → IsFirstOf (t ∷ ts) text
    with_rest below None none is =
        subst (λ l. IsFirstOf (t ∷ ts) l) is (subst (λ rest. IsFirstOf (t ∷ rest) t) (sym (least_text-None ts none)) (record {
          among = (0, omega arith, refl);
          first = All-cons (λ other. is_before other t ≡ false) t [] (not_before_itself t) (All-nil (λ other. is_before other t ≡ false));
        }))
    with_rest below (Some m) least is =
        let found = below m least in
        ⊎_elim
        (λ earlier_one. subst (λ l. IsFirstOf (t ∷ ts) l) (sym (cond-true (is_before m t) m t earlier_one) ∙ is) (record {
          among = (suc found.among.0, omega arith, found.among.2);
          first = All-cons (λ other. is_before other m ≡ false) t ts (before_one_way m t earlier_one) found.first;
        }))
        (λ later. subst (λ l. IsFirstOf (t ∷ ts) l) (sym (cond-false (is_before m t) m t later) ∙ is) (record {
          among = (0, omega arith, refl);
          first = All-cons (λ other. is_before other t ≡ false) t ts (not_before_itself t)
              (All-weaker (λ other. is_before other m ≡ false) (λ other. is_before other t ≡ false) (λ other no. not_before t m other later no) ts found.first);
        }))
        (cases_Bool (is_before m t))
