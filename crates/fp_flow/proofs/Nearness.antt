-- The handlers that are near a block of instructions have all that are active at one of them.
use Rattle.std.proofs.Common.{◌≡◌, ◌≤◌, ◌<◌, ◌-◌, nat_le, nat_lt, ℕ, Bool, true, false, List, [], ◌∷◌, filter, cond, length, get_or, refl, sym, ap, ◌∙◌, inl, inr, arith}
use Rattle.std.proofs.lemmas.Bool.{and_parts, and_from, leb-true, ltb-true, le-leb, lt-ltb, both_ways, cases_Bool, false_from_ne_true}
use Rattle.fp_model.specs.SoundCode.{ascend_from_0}
use Rattle.fp_flow.specs.declared.control.handlers.Handler.{Handler}
use Rattle.fp_flow.specs.Handlers.{HasActive, is_active, is_near}
use Rattle.fp_flow.proofs.RisingOffsets.{offsets-not_fall}

-- what the wider test keeps has all that the narrower one keeps
filter-wider : {X : Type 0} (p q : X → Bool) (wider : (x : X) → p x ≡ true → q x ≡ true) (xs : List X) → filter p (filter q xs) ≡ filter p xs
filter-wider p q wider [] = refl
filter-wider p q wider (x ∷ xs) =
    let rest : filter p (filter q xs) ≡ filter p xs = filter-wider p q wider xs in
    elim (cases_Bool (q x)) [
      | inl kept ↦
          ap (λ b. filter p (cond b (x ∷ filter q xs) (filter q xs))) kept ∙ ap (λ l. cond (p x) (x ∷ l) l) rest
      | inr left ↦
          let fails : p x ≡ false = false_from_ne_true (p x) (λ h. both_ways (q x) left (wider x h)) in
          ap (λ b. filter p (cond b (x ∷ filter q xs) (filter q xs))) left ∙ rest ∙ ap (λ b. cond b (x ∷ filter p xs) (filter p xs)) (sym fails)
    ]

active-near : (first last pc : ℕ) (h : Handler) → first ≤ pc → pc ≤ last → is_active pc h ≡ true → is_near first last h ≡ true
active-near first last pc h above below active =
    let known = and_parts (nat_le h.start pc) (nat_lt pc h.end) active in
    and_from (nat_le h.start last) (nat_lt first h.end) (le-leb h.start last (omega (arith, leb-true h.start pc known.0))) (lt-ltb first h.end (omega (arith, ltb-true pc h.end known.1)))

pub block-has_active : (handlers : List Handler) (pcs : List ℕ) (k until : ℕ) → ascend_from_0 pcs ≡ true → until ≤ length pcs → (j : ℕ) → k ≤ j → j < until →
    HasActive handlers pcs (filter (is_near (get_or pcs k 0) (get_or pcs (until - 1) 0)) handlers) j
block-has_active handlers pcs k until ascend most j from to =
    let above : get_or pcs k 0 ≤ get_or pcs j 0 = offsets-not_fall pcs ascend k j from (omega arith) in
    let below : get_or pcs j 0 ≤ get_or pcs (until - 1) 0 = offsets-not_fall pcs ascend j (until - 1) (omega arith) (omega arith) in
    filter-wider (is_active (get_or pcs j 0)) (is_near (get_or pcs k 0) (get_or pcs (until - 1) 0)) (λ h active. active-near _ _ (get_or pcs j 0) h above below active) handlers
