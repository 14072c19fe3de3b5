-- What a file adds to what is gathered.
use Rattle.std.proofs.Common.{◌≡◌, ℕ, ◌<◌, Bool, true, false, not, List, [], ◌∷◌, ◌++◌, Some, length, sym, ap, subst, ◌∙◌, arith}
use Rattle.std.specs.Prelude.{◌↔◌, IsNone}
use Rattle.std.specs.List.{flat_map, AllZip}
use Rattle.std.proofs.lemmas.Bool.{cond-false, cond-true, false_from_ne_true}
use Rattle.std.proofs.lemmas.Grind.{flat_map-append}
use Rattle.std.proofs.lemmas.List.{append-nil}
use Rattle.std.proofs.lemmas.List.Elements.{All-push, filter-append}
use Rattle.fp_base.specs.Names.{with_names}
use Rattle.fp_base.proofs.NameLemmas.{length-le-with_names, with_names-append}
use Rattle.fp_model.specs.declared.class.Class.{Class}
use Rattle.fp_model.specs.declared.raw.Raw.{Raw}
use Rattle.fp_model.proofs.LongerTables.{Keeps}
use Rattle.fp_class.specs.ClassFile.{is_module, IsWellFormed}
use Rattle.fp_class.specs.Classes.{raw_names, IsClassOf}
use Rattle.fp_class.specs.Naming.{taken_names}
use Rattle.fp_class.proofs.LongerClasses.{classes_more}
use Rattle.fp_load.specs.Gathering.{path_of, with_class, AreNumbered, IsNamed}
use Rattle.fp_load.specs.Load.{most_names, names_of}

-- the texts of one class file more
pub names_more : (raws : List Raw) (raw : Raw) → names_of (raws ++ raw ∷ []) ≡ with_names (names_of raws) (taken_names raw)
names_more raws raw =
    ap (with_names []) (flat_map-append taken_names raws (raw ∷ []) ∙ ap (λ l. flat_map taken_names raws ++ l) (append-nil (taken_names raw)))
    ∙ with_names-append [] (flat_map taken_names raws) (taken_names raw)

-- one more class file that is no module
with_class_more : (raws : List Raw) (raw : Raw) → is_module raw.flags ≡ false → with_class (raws ++ raw ∷ []) ≡ with_class raws ++ raw ∷ []
with_class_more raws raw no_module =
    filter-append (λ r. not (is_module r.flags)) raws (raw ∷ [])
    ∙ ap (λ l. with_class raws ++ l) (cond-true (not (is_module raw.flags)) (raw ∷ []) [] (ap not no_module))

no_module : (c : Class) (raw : Raw) → IsNone (Some c) ↔ (is_module raw.flags ≡ true) → is_module raw.flags ≡ false
no_module c raw none = false_from_ne_true (is_module raw.flags) (λ is. let wrong : IsNone (Some c) = none.1 is in absurd cc)

-- its class, over the table that has its texts too
pub class_named : (raws : List Raw) (raw : Raw) (names longer : List (List ℕ)) (classes more : List Class) (c : Class) → Keeps names longer → longer ≡ with_names names (taken_names raw) → IsClassOf longer c raw → IsNone (Some c) ↔ (is_module raw.flags ≡ true) → more ≡ classes ++ c ∷ []
    → IsNamed raws names classes → IsNamed (raws ++ raw ∷ []) longer more
class_named raws raw names longer classes more c kept taken is none pushed named = record {
  names_are = taken ∙ ap (λ n. with_names n (taken_names raw)) named.names_are ∙ sym (names_more raws raw);
  classes_are =
      subst (λ cs. AllZip (IsClassOf longer) cs (with_class (raws ++ raw ∷ []))) (sym pushed)
      (subst (AllZip (IsClassOf longer) (classes ++ c ∷ [])) (sym (with_class_more raws raw (no_module c raw none)))
      (classes_more names longer kept classes (with_class raws) c raw named.classes_are is));
}

-- a module gives no text and no class
pub module_named : (raws : List Raw) (raw : Raw) (names longer : List (List ℕ)) (classes : List Class) → is_module raw.flags ≡ true → longer ≡ with_names names (taken_names raw)
    → IsNamed raws names classes → IsNamed (raws ++ raw ∷ []) longer classes
module_named raws raw names longer classes module_ taken named =
    let none : with_class (raws ++ raw ∷ []) ≡ with_class raws =
    filter-append (λ r. not (is_module r.flags)) raws (raw ∷ [])
    ∙ ap (λ l. with_class raws ++ l) (cond-false (not (is_module raw.flags)) (raw ∷ []) [] (ap not module_))
    ∙ append-nil (with_class raws) in
    let same : longer ≡ names = taken ∙ ap (with_names names) (cond-true (is_module raw.flags) [] (raw_names raw) module_) in
    record {
      names_are = taken ∙ ap (λ n. with_names n (taken_names raw)) named.names_are ∙ sym (names_more raws raw);
      classes_are = subst (AllZip (IsClassOf longer) classes) (sym none) (subst (λ n. AllZip (IsClassOf n) classes (with_class raws)) (sym same) named.classes_are);
    }

-- the path of a file that has a class, and of one that has none
pub path_with_class : (path : List ℕ) (raw : Raw) (c : Class) → IsNone (Some c) ↔ (is_module raw.flags ≡ true) → path_of path raw ≡ path ∷ []
path_with_class path raw c none = cond-false (is_module raw.flags) [] (path ∷ []) (no_module c raw none)

pub path_without_class : (path : List ℕ) (raw : Raw) → is_module raw.flags ≡ true → path_of path raw ≡ []
path_without_class path raw module_ = cond-true (is_module raw.flags) [] (path ∷ []) module_

-- ---- a full table

pub full_named : (raws : List Raw) (raw : Raw) (names : List (List ℕ)) (classes : List Class) → most_names < length (with_names names (taken_names raw))
    → IsNamed raws names classes → most_names < length (names_of (raws ++ raw ∷ []))
full_named raws raw names classes many named =
    subst (λ t. most_names < length t) (ap (λ n. with_names n (taken_names raw)) named.names_are ∙ sym (names_more raws raw)) many

-- too many texts stay too many
crowded_more : (raws : List Raw) (raw : Raw) → most_names < length (names_of raws) → most_names < length (names_of (raws ++ raw ∷ []))
crowded_more raws raw many = omega (arith, length-le-with_names (names_of raws) (taken_names raw), ap length (names_more raws raw))

pub stays_full : (raws : List Raw) (raw : Raw) (names : List (List ℕ)) (classes : List Class) (full : Bool) → full ≡ true → IsWellFormed raw → AreNumbered raws names classes full → AreNumbered (raws ++ raw ∷ []) names classes full
stays_full raws raw names classes full is one numbered = record {
  formed = All-push IsWellFormed raws raw numbered.formed one;
  named = λ no_. absurd cc;
  crowded = λ _. crowded_more raws raw (numbered.crowded is);
}

pub has_room : (raws : List Raw) (raw : Raw) (names longer : List (List ℕ)) (classes more : List Class) (full : Bool) → full ≡ false → IsWellFormed raw → ((raws : List Raw) → IsNamed raws names classes → IsNamed (raws ++ raw ∷ []) longer more) → AreNumbered raws names classes full → AreNumbered (raws ++ raw ∷ []) longer more full
has_room raws raw names longer classes more full room one adds numbered = record {
  formed = All-push IsWellFormed raws raw numbered.formed one;
  named = λ _. adds raws (numbered.named room);
  crowded = λ is. absurd cc;
}

pub gets_full : (raws : List Raw) (raw : Raw) (names longer : List (List ℕ)) (classes more : List Class) (full : Bool) → full ≡ false → IsWellFormed raw → ((raws : List Raw) → IsNamed raws names classes → most_names < length (names_of (raws ++ raw ∷ []))) → AreNumbered raws names classes full → AreNumbered (raws ++ raw ∷ []) longer more true
gets_full raws raw names longer classes more full room one crowds numbered = record {
  formed = All-push IsWellFormed raws raw numbered.formed one;
  named = λ no_. absurd cc;
  crowded = λ _. crowds raws (numbered.named room);
}
