-- Texts taken into a table of names, one after the other.
use Rattle.std.proofs.Common.{◌≡◌, ℕ, cond, ◌+◌, ◌≤◌, Bool, true, false, ◌||◌, not, List, [], ◌∷◌, ◌++◌, Result, Ok, Err, IfOk, OnErr, Some, length, refl, sym, ap, ◌∙◌, subst, length-append, arith}
use Rattle.std.specs.Result.{IsErrOf}
use Rattle.std.specs.List.{list_any, slice_get}
use Rattle.std.proofs.lemmas.Bool.{or_left, or_right}
use Rattle.std.proofs.lemmas.List.{append-nil, append_assoc}
use Rattle.std.proofs.lemmas.List.Folds.{list_any-append}
use Rattle.fp_base.specs.Names.{has_name, with_name, with_names}
use Rattle.fp_base.specs.declared.names.NameFault.{NameFault}
use Rattle.fp_base.specs.declared.names.NameFault.TheVariants as fault
use Rattle.fp_base.proofs.NameLemmas.{with_name-extends, with_names-extends, with_names-append, slice_get-append}
use Rattle.fp_model.specs.Descriptor.{LacksRoom}
use Rattle.fp_model.proofs.Crowded.{crowded, crowded_later, crowded_sooner}
use Rattle.fp_model.proofs.LongerTables.{Keeps}
use Rattle.fp_model.specs.Interning.{Interned}

-- ---- room

lacks_first : (names a b : List (List ℕ)) → LacksRoom names a → LacksRoom names (a ++ b)
lacks_first names a b lacks = (lacks.0, list_any-append (λ text. not (has_name names text)) a b ∙ or_left (list_any (λ text. not (has_name names text)) a) (list_any (λ text. not (has_name names text)) b) lacks.1)

lacks_rest : (names a b : List (List ℕ)) → LacksRoom names b → LacksRoom names (a ++ b)
lacks_rest names a b lacks = (lacks.0, list_any-append (λ text. not (has_name names text)) a b ∙ or_right (list_any (λ text. not (has_name names text)) a) (list_any (λ text. not (has_name names text)) b) lacks.1)

one_more : (names : List (List ℕ)) (text : List ℕ) (has : Bool) → length (cond has names (names ++ text ∷ [])) ≤ length names + 1
one_more names text true = omega arith
one_more names text false = omega (arith, length-append names (text ∷ []))

length-with_name-le : (names : List (List ℕ)) (text : List ℕ) → length (with_name names text) ≤ length names + 1
unfolding with_name
length-with_name-le names text = one_more names text (has_name names text)

-- a table gains no more names than there are texts
length-with_names-le : (names texts : List (List ℕ)) → length (with_names names texts) ≤ length names + length texts
length-with_names-le names [] = omega arith
length-with_names-le names (text ∷ texts) = omega (arith, length-with_name-le names text, length-with_names-le (with_name names text) texts)

-- ---- steps

-- one text
pub interned_one : (result : Result ℕ NameFault) (old new : List (List ℕ)) (text : List ℕ) → IfOk result (λ id. new ≡ with_name old text) → OnErr result (new ≡ old) → (IsErrOf result fault.Full → (has_name old text ≡ false) × (length old ≡ 16777216)) → Interned result old new (text ∷ [])
interned_one (Ok id) old new text named same full =
    let longer = with_name-extends old text in
    record { names = named; grown = (longer.0, named ∙ longer.1); full = λ e. absurd (cc) }
interned_one (Err e) old new text named same full = record {
  names = tt;
  grown = ([], same ∙ sym (append-nil old));
  full = λ is.
      let lacks = full is in
      record {
        lacks = subst (λ t. LacksRoom t (text ∷ [])) (sym same) (lacks.1, ap (λ b. not b || false) lacks.0);
        few = omega (arith, ap length same);
        many = crowded old (text ∷ []) (lacks.1, ap (λ b. not b || false) lacks.0);
      };
}

-- texts that don't fit, before one of them was taken
pub interned_full : {X : Type 0} (old new texts : List (List ℕ)) → new ≡ old → LacksRoom old texts → Interned {X = X} (Err fault.Full) old new texts
interned_full old new texts same lacks = record {
  names = tt;
  grown = ([], same ∙ sym (append-nil old));
  full = λ is. record {
    lacks = subst (λ t. LacksRoom t texts) (sym same) lacks;
    few = omega (arith, ap length same);
    many = crowded old texts lacks;
  };
}

-- none
pub interned_none : {X : Type 0} (x : X) (old : List (List ℕ)) → Interned (Ok x) old old []
interned_none x old = record { names = refl; grown = ([], sym (append-nil old)); full = λ e. absurd (cc) }

-- a call behind others that took their texts
pub interned_then : {X : Type 0} (result : Result X NameFault) (old mid new a b : List (List ℕ)) → mid ≡ with_names old a → Interned result mid new b → Interned result old new (a ++ b)
interned_then (Ok x) old mid new a b is then =
    let first = with_names-extends old a in
    record {
      names = then.names ∙ ap (λ t. with_names t b) is ∙ sym (with_names-append old a b);
      grown = (first.0 ++ then.grown.0, then.grown.1 ∙ ap (λ t. t ++ then.grown.0) (is ∙ first.1) ∙ append_assoc old first.0 then.grown.0);
      full = λ e. absurd (cc);
    }
interned_then (Err f) old mid new a b is then =
    let first = with_names-extends old a in
    record {
      names = tt;
      grown = (first.0 ++ then.grown.0, then.grown.1 ∙ ap (λ t. t ++ then.grown.0) (is ∙ first.1) ∙ append_assoc old first.0 then.grown.0);
      full = λ e.
          let late = then.full e in
          record {
            lacks = lacks_rest new a b late.lacks;
            few = omega (arith, late.few, ap length is, length-with_names-le old a, length-append a b);
            many = crowded_later old mid a b is late.many;
          };
    }

-- a call that failed, and others that don't come to pass
pub interned_stop : {X Y : Type 0} (f : NameFault) (old new a b : List (List ℕ)) → Interned {X = X} (Err f) old new a → Interned {X = Y} (Err f) old new (a ++ b)
interned_stop f old new a b stopped = record {
  names = tt;
  grown = stopped.grown;
  full = λ e.
      let is : f ≡ fault.Full = cc in
      let early = stopped.full (ap Err is) in
      record {
        lacks = lacks_first new a b early.lacks;
        few = omega (arith, early.few, length-append a b);
        many = crowded_sooner old a b early.many;
      };
}

-- the same fault of a call that answers something else
pub interned_as : {X Y : Type 0} (f : NameFault) (old new a : List (List ℕ)) → Interned {X = X} (Err f) old new a → Interned {X = Y} (Err f) old new a
interned_as f old new a stopped = record {
  names = tt;
  grown = stopped.grown;
  full = λ e. let is : f ≡ fault.Full = cc in stopped.full (ap Err is);
}

-- memory ran out behind calls that took their texts
pub interned_lost : {X : Type 0} (old new a texts : List (List ℕ)) → new ≡ with_names old a → Interned {X = X} (Err fault.Memory) old new texts
interned_lost old new a texts is =
    let longer = with_names-extends old a in
    record { names = tt; grown = (longer.0, is ∙ longer.1); full = λ e. absurd (cc) }

-- a call that took its texts
pub interned_ok : {X : Type 0} (x : X) (old new texts : List (List ℕ)) → new ≡ with_names old texts → Interned (Ok x) old new texts
interned_ok x old new texts is =
    let longer = with_names-extends old texts in
    record { names = is; grown = (longer.0, is ∙ longer.1); full = λ e. absurd (cc) }

-- a call that failed behind one, two or three others
pub after_one : {X Y : Type 0} (f : NameFault) (n0 n1 n2 a b rest : List (List ℕ)) → n1 ≡ with_names n0 a → Interned {X = X} (Err f) n1 n2 b → Interned {X = Y} (Err f) n0 n2 (a ++ (b ++ rest))
after_one {X} {Y} f n0 n1 n2 a b rest first stopped = interned_then (Err f) n0 n1 n2 a (b ++ rest) first (interned_stop {X = X} {Y = Y} f n1 n2 b rest stopped)

pub after_two : {X Y : Type 0} (f : NameFault) (n0 n1 n2 n3 a b d rest : List (List ℕ)) → n1 ≡ with_names n0 a → n2 ≡ with_names n1 b → Interned {X = X} (Err f) n2 n3 d → Interned {X = Y} (Err f) n0 n3 (a ++ (b ++ (d ++ rest)))
after_two {X} {Y} f n0 n1 n2 n3 a b d rest first second stopped = interned_then (Err f) n0 n1 n3 a (b ++ (d ++ rest)) first (after_one {X = X} {Y = Y} f n1 n2 n3 b d rest second stopped)

pub after_three : {X Y : Type 0} (f : NameFault) (n0 n1 n2 n3 n4 a b d e : List (List ℕ)) → n1 ≡ with_names n0 a → n2 ≡ with_names n1 b → n3 ≡ with_names n2 d → Interned {X = X} (Err f) n3 n4 e → Interned {X = Y} (Err f) n0 n4 (a ++ (b ++ (d ++ e)))
after_three {X} {Y} f n0 n1 n2 n3 n4 a b d e first second third stopped =
    interned_then (Err f) n0 n1 n4 a (b ++ (d ++ e)) first
    (interned_then (Err f) n1 n2 n4 b (d ++ e) second
    (interned_then (Err f) n2 n3 n4 d e third (interned_as {X = X} {Y = Y} f n3 n4 e stopped)))

-- four calls that took their texts
pub all_four : {X : Type 0} (x : X) (n0 n1 n2 n3 n4 a b d e : List (List ℕ)) → n1 ≡ with_names n0 a → n2 ≡ with_names n1 b → n3 ≡ with_names n2 d → n4 ≡ with_names n3 e → Interned (Ok x) n0 n4 (a ++ (b ++ (d ++ e)))
all_four x n0 n1 n2 n3 n4 a b d e first second third fourth =
    interned_then (Ok x) n0 n1 n4 a (b ++ (d ++ e)) first
    (interned_then (Ok x) n1 n2 n4 b (d ++ e) second
    (interned_then (Ok x) n2 n3 n4 d e third (interned_ok x n3 n4 e fourth)))

-- what a table had, it has
pub kept_by : {X : Type 0} (result : Result X NameFault) (old new texts : List (List ℕ)) → Interned result old new texts → Keeps old new
kept_by result old new texts taken = record {
  stands = λ i text at. let longer = taken.grown in subst (λ t. slice_get t i ≡ Some text) (sym longer.1) (slice_get-append old longer.0 i text at);
}

pub Keeps-then : (a b d : List (List ℕ)) → Keeps a b → Keeps b d → Keeps a d
Keeps-then a b d first second = record { stands = λ i text at. second.stands i text (first.stands i text at) }
