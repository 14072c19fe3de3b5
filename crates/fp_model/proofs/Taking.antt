-- Calls that take texts into a table of names, one after the other.
use Rattle.std.proofs.Common.{◌≡◌, ℕ, cond, false, not, List, [], ◌∷◌, ◌++◌, Result, Ok, Err, Some, refl, sym, ap, ◌∙◌, subst}
use Rattle.std.specs.Result.{is_ok, is_err}
use Rattle.std.specs.List.{list_any, flat_map, slice_get}
use Rattle.std.proofs.lemmas.Bool.{or_left, or_right}
use Rattle.std.proofs.lemmas.Grind.{flat_map-append}
use Rattle.std.proofs.lemmas.List.{append-nil, append_assoc}
use Rattle.std.proofs.lemmas.List.Folds.{list_any-append}
use Rattle.fp_base.specs.Names.{has_name, with_names}
use Rattle.fp_base.specs.declared.names.NameFault.{NameFault}
use Rattle.fp_base.specs.declared.names.NameFault.TheVariants as fault
use Rattle.fp_base.proofs.NameLemmas.{with_names-extends, with_names-append, slice_get-append}
use Rattle.fp_model.specs.Descriptor.{kind_names, LacksRoom}
use Rattle.fp_model.specs.Taking.{Taken}
use Rattle.fp_model.proofs.Crowded.{crowded, crowded_later, crowded_sooner}
use Rattle.fp_model.proofs.LongerTables.{Keeps}

lacks_first : (names a b : List (List ℕ)) → LacksRoom names a → LacksRoom names (a ++ b)
lacks_first names a b lacks = (lacks.0, list_any-append (λ text. not (has_name names text)) a b ∙ or_left (list_any (λ text. not (has_name names text)) a) (list_any (λ text. not (has_name names text)) b) lacks.1)

lacks_rest : (names a b : List (List ℕ)) → LacksRoom names b → LacksRoom names (a ++ b)
lacks_rest names a b lacks = (lacks.0, list_any-append (λ text. not (has_name names text)) a b ∙ or_right (list_any (λ text. not (has_name names text)) a) (list_any (λ text. not (has_name names text)) b) lacks.1)

-- a call that took its texts
pub taken_ok : {X : Type 0} (x : X) (old new texts : List (List ℕ)) → new ≡ with_names old texts → Taken (Ok x) old new texts
taken_ok x old new texts is =
    let longer = with_names-extends old texts in
    record { names = is; grown = (longer.0, is ∙ longer.1); full = λ e. absurd (cc); many = λ e. absurd (cc) }

-- one whose table was full, or memory ran out, before anything was taken
pub taken_full : {X : Type 0} (old new texts : List (List ℕ)) → new ≡ old → LacksRoom old texts → Taken {X = X} (Err fault.Full) old new texts
taken_full old new texts same lacks = record {
  names = tt;
  grown = ([], same ∙ sym (append-nil old));
  full = λ e. subst (λ t. LacksRoom t texts) (sym same) lacks;
  many = λ e. crowded old texts lacks;
}

pub taken_lost : {X : Type 0} (old new texts : List (List ℕ)) → new ≡ old → Taken {X = X} (Err fault.Memory) old new texts
taken_lost old new texts same = record { names = tt; grown = ([], same ∙ sym (append-nil old)); full = λ e. absurd (cc); many = λ e. absurd (cc) }

-- memory ran out behind calls that took theirs
pub taken_late : {X : Type 0} (old new a texts : List (List ℕ)) → new ≡ with_names old a → Taken {X = X} (Err fault.Memory) old new texts
taken_late old new a texts is =
    let longer = with_names-extends old a in
    record { names = tt; grown = (longer.0, is ∙ longer.1); full = λ e. absurd (cc); many = λ e. absurd (cc) }

-- the same fault of a call that answers something else
pub taken_as : {X Y : Type 0} (f : NameFault) (old new texts : List (List ℕ)) → Taken {X = X} (Err f) old new texts → Taken {X = Y} (Err f) old new texts
taken_as f old new texts stopped = record {
  names = tt;
  grown = stopped.grown;
  full = λ e. let is : f ≡ fault.Full = cc in stopped.full (ap Err is);
  many = λ e. let is : f ≡ fault.Full = cc in stopped.many (ap Err is);
}

-- a call that failed behind others, and some that don't come to pass
pub taken_stop : {X Y : Type 0} (f : NameFault) (old mid new a b c : List (List ℕ)) → mid ≡ with_names old a → Taken {X = X} (Err f) mid new b → Taken {X = Y} (Err f) old new (a ++ (b ++ c))
taken_stop f old mid new a b c is stopped =
    let first = with_names-extends old a in
    record {
      names = tt;
      grown = (first.0 ++ stopped.grown.0, stopped.grown.1 ∙ ap (λ t. t ++ stopped.grown.0) (is ∙ first.1) ∙ append_assoc old first.0 stopped.grown.0);
      full = λ e. let full : f ≡ fault.Full = cc in lacks_rest new a (b ++ c) (lacks_first new b c (stopped.full (ap Err full)));
      many = λ e. let full : f ≡ fault.Full = cc in crowded_later old mid a (b ++ c) is (crowded_sooner mid b c (stopped.many (ap Err full)));
    }

-- one that failed before others, which don't come to pass
pub taken_first : {X Y : Type 0} (f : NameFault) (old new a b : List (List ℕ)) → Taken {X = X} (Err f) old new a → Taken {X = Y} (Err f) old new (a ++ b)
taken_first {X} {Y} f old new a b stopped = taken_stop {X = X} {Y = Y} f old old new [] a b refl stopped

-- two calls that took theirs
pub taken_both : (old mid new a b : List (List ℕ)) → mid ≡ with_names old a → new ≡ with_names mid b → new ≡ with_names old (a ++ b)
taken_both old mid new a b first second = second ∙ ap (λ t. with_names t b) first ∙ sym (with_names-append old a b)

-- what a table had, it has
pub kept_by : {X : Type 0} (result : Result X NameFault) (old new texts : List (List ℕ)) → Taken result old new texts → Keeps old new
kept_by result old new texts taken = record {
  stands = λ i text at. let longer = taken.grown in subst (λ t. slice_get t i ≡ Some text) (sym longer.1) (slice_get-append old longer.0 i text at);
}

-- what a push that didn't fail leaves
pub pushed : {A E : Type 0} {B : Type 0} (r : Result A E) (new with without : B) → is_err r ≡ false → new ≡ cond (is_ok r) with without → new ≡ with
pushed (Ok x) new with without h is = is
pushed (Err e) new with without h is = absurd (cc)

-- ---- the names of field descriptors

module _ (done : List (List ℕ)) (field : List ℕ) (left all : List (List ℕ)) (is : done ++ field ∷ left ≡ all) where
  names_split : flat_map kind_names done ++ (kind_names field ++ flat_map kind_names left) ≡ flat_map kind_names all
  names_split = sym (flat_map-append kind_names done (field ∷ left)) ∙ ap (flat_map kind_names) is

  pub one_stops : {X Y : Type 0} (f : NameFault) (old mid new : List (List ℕ)) → mid ≡ with_names old (flat_map kind_names done) → Taken {X = X} (Err f) mid new (kind_names field) → Taken {X = Y} (Err f) old new (flat_map kind_names all)
  one_stops {X} {Y} f old mid new before stopped =
      subst (Taken {X = Y} (Err f) old new) names_split (taken_stop {X = X} {Y = Y} f old mid new (flat_map kind_names done) (kind_names field) (flat_map kind_names left) before stopped)

pub names_more : (done : List (List ℕ)) (field : List ℕ) (old mid new : List (List ℕ)) → mid ≡ with_names old (flat_map kind_names done) → new ≡ with_names mid (kind_names field) → new ≡ with_names old (flat_map kind_names (done ++ field ∷ []))
names_more done field old mid new before one =
    taken_both old mid new (flat_map kind_names done) (kind_names field) before one
    ∙ ap (with_names old) (ap (λ l. flat_map kind_names done ++ l) (sym (append-nil (kind_names field))) ∙ sym (flat_map-append kind_names done (field ∷ [])))

-- a call that failed behind another, which took its texts
pub taken_last : {X Y : Type 0} (f : NameFault) (old mid new a b c : List (List ℕ)) → mid ≡ with_names old a → b ≡ c → Taken {X = X} (Err f) mid new b → Taken {X = Y} (Err f) old new (a ++ c)
taken_last {X} {Y} f old mid new a b c is same stopped =
    subst (λ t. Taken {X = Y} (Err f) old new (a ++ t)) (append-nil b ∙ same) (taken_stop {X = X} {Y = Y} f old mid new a b [] is stopped)
