-- What direct steps from classes to their superclasses and superinterfaces keep holds of all names that a class goes by.
use Rattle.std.proofs.Common.{◌≡◌, ◌==◌, ◌+◌, ℕ, zero, suc, Bool, true, false, IsTrue, IfSome, List, [], ◌∷◌, ◌++◌, Option, Some, None, length, refl, ap, subst, ◌∙◌, inl, inr, if◌then◌else◌}
use Rattle.std.specs.Prelude.{fold, slice_get, option_and_then}
use Rattle.std.specs.List.{flat_map}
use Rattle.std.specs.Option.{option_map_or, option_to_list}
use Rattle.fp_model.specs.declared.class.Class.{Class}
use Rattle.fp_model.specs.ClassSet.{class_named}
use Rattle.fp_eqs.specs.Tests.{either, left, right, same-place, place-here}
use Rattle.fp_facts.specs.Hierarchy.{ancestors, class_and_above, class_of_name, classes_among, fits, has_number, met_from, superclasses, superclasses_from, superinterfaces, superinterfaces_at, superinterfaces_of}
use Rattle.fp_facts.proofs.ListedNumbers.{any-from, has-append, has-flat}

-- ---- classes among names

pub record IsNamedAmong (classes : List Class) (names : List ℕ) (place : ℕ) : Type 0 where
  pub name : ℕ
  pub listed : IsTrue (has_number names name)
  pub named : class_named classes name ≡ Some place

pub named-among : (classes : List Class) (names : List ℕ) (place : ℕ) → IsTrue (has_number (classes_among classes names) place) → IsNamedAmong classes names place
named-among classes names place h =
    let r = any-from (λ n. has_number (option_to_list (class_named classes n)) place) names (subst (λ b. IsTrue b) (has-flat (λ n. option_to_list (class_named classes n)) names place) h) in
    by-place r.number r.listed (class_named classes r.number) refl r.passes
  where
    by-place : (name : ℕ) → IsTrue (has_number names name) → (found : Option ℕ) → class_named classes name ≡ found → IsTrue (has_number (option_to_list found) place) → IsNamedAmong classes names place
    by-place name listed None is h = let wrong : false ≡ true = h in absurd cc
    by-place name listed (Some p) is h =
        elim (either (p == place) false h) [
          | inl here ↦ record { name = name; listed = listed; named = is ∙ ap Some (same-place p place here) }
          | inr none ↦ (let wrong : false ≡ true = none in absurd cc)
        ]

module _ (classes : List Class) where
  -- ---- superclasses

  module _ (P : ℕ → Type 0) (kept : (name above : ℕ) (d : Class) → P name → class_of_name classes name ≡ Some d → d.parent ≡ Some above → P above) where
    parent-kept : (name : ℕ) → P name → (found : Option Class) → class_of_name classes name ≡ found → IfSome (option_and_then (λ (c : Class). c.parent) found) P
    parent-kept name here None is = tt
    parent-kept name here (Some d) is = by-parent d.parent refl
      where
        by-parent : (parent : Option ℕ) → d.parent ≡ parent → IfSome parent P
        by-parent None none = tt
        by-parent (Some above) up = kept name above d here is up

    superclasses_from-keep : (most : ℕ) (first : Option ℕ) → IfSome first P → (name : ℕ) → IsTrue (has_number (superclasses_from classes most first) name) → P name
    unfolding superclasses_from
    superclasses_from-keep zero first here name h = let wrong : false ≡ true = h in absurd cc
    superclasses_from-keep (suc most) None here name h = let wrong : false ≡ true = h in absurd cc
    superclasses_from-keep (suc most) (Some n) here name h =
        elim (either (n == name) (has_number (superclasses_from classes most (option_and_then (λ (c : Class). c.parent) (class_of_name classes n))) name) h) [
          | inl same ↦ subst P (same-place n name same) here
          | inr later ↦ superclasses_from-keep most (option_and_then (λ (c : Class). c.parent) (class_of_name classes n)) (parent-kept n here (class_of_name classes n) refl) name later
        ]

    -- what holds of a class's own name holds of its superclasses
    pub superclasses-keep : (c : Class) → class_of_name classes c.name ≡ Some c → P c.name → (name : ℕ) → IsTrue (has_number (superclasses classes c) name) → P name
    superclasses-keep c own here name h =
        superclasses_from-keep (length classes) c.parent (parent-kept c.name here (Some c) own) name h

  -- ---- superinterfaces

  fold-kept : (S : List ℕ → Type 0) (P : ℕ → Type 0) (f : List ℕ → ℕ → List ℕ) → ((s : List ℕ) (x : ℕ) → P x → S s → S (f s x)) →
      (xs : List ℕ) → ((n : ℕ) → IsTrue (has_number xs n) → P n) → (s : List ℕ) → S s → S (fold f s xs)
  fold-kept S P f kept [] all s here = here
  fold-kept S P f kept (x ∷ xs) all s here =
      fold-kept S P f kept xs (λ n h. all n (right (x == n) (has_number xs n) h)) (f s x) (kept s x (all x (left (x == x) (has_number xs x) (place-here x))) here)

  if-kept : {A : Type 0} (S : A → Type 0) (b : Bool) (x y : A) → S x → S y → S (if b then x else y)
  if-kept S true x y here there = here
  if-kept S false x y here there = there

  module _ (P : ℕ → Type 0) (kept : (name above : ℕ) (d : Class) → P name → class_of_name classes name ≡ Some d → IsTrue (has_number d.interfaces above) → P above) where
    interfaces-kept : (name : ℕ) → P name → (found : Option Class) → class_of_name classes name ≡ found → (above : ℕ) → IsTrue (has_number (option_map_or (λ (c : Class). c.interfaces) found []) above) → P above
    interfaces-kept name here None is above h = let wrong : false ≡ true = h in absurd cc
    interfaces-kept name here (Some d) is above h = kept name above d here is h

    pushed-kept : (names : List ℕ) (x : ℕ) → ((n : ℕ) → IsTrue (has_number names n) → P n) → P x → (n : ℕ) → IsTrue (has_number (names ++ x ∷ []) n) → P n
    pushed-kept names x all here n h =
        elim (either (has_number names n) (has_number (x ∷ []) n) (subst (λ b. IsTrue b) (has-append names (x ∷ []) n) h)) [
          | inl before ↦ all n before
          | inr last ↦ elim (either (x == n) false last) [
            | inl same ↦ subst P (same-place x n same) here
            | inr none ↦ (let wrong : false ≡ true = none in absurd cc)
          ]
        ]

    met-keep : (levels : ℕ) (met names : List ℕ) → ((n : ℕ) → IsTrue (has_number met n) → P n) → ((n : ℕ) → IsTrue (has_number names n) → P n) →
        (n : ℕ) → IsTrue (has_number (met_from classes levels met names) n) → P n
    unfolding met_from
    met-keep zero met names before all = before
    met-keep (suc levels) met names before all =
        fold-kept (λ s. (n : ℕ) → IsTrue (has_number s n) → P n) P
        (λ seen name. if has_number seen name then seen else met_from classes levels (seen ++ name ∷ []) (superinterfaces_of classes name))
        (λ seen name here so_far. if-kept (λ (s : List ℕ). (n : ℕ) → IsTrue (has_number s n) → P n) (has_number seen name) seen (met_from classes levels (seen ++ name ∷ []) (superinterfaces_of classes name)) so_far
        (met-keep levels (seen ++ name ∷ []) (superinterfaces_of classes name) (pushed-kept seen name so_far here) (interfaces-kept name here (class_of_name classes name) refl)))
        names all met before

    -- what holds of the names of superinterfaces that a class lists holds of all its superinterfaces
    superinterfaces-keep : (c : Class) → ((n : ℕ) → IsTrue (has_number c.interfaces n) → P n) → (n : ℕ) → IsTrue (has_number (superinterfaces classes c) n) → P n
    superinterfaces-keep c all n h = met-keep (length classes + 1) [] c.interfaces (λ m none. let wrong : false ≡ true = none in absurd cc) all n h

  -- ---- all names

  -- superclasses keep the first test, superinterfaces the second one, which the first implies
  module _ (S P : ℕ → Type 0)
      (kept_above : (name above : ℕ) (d : Class) → S name → class_of_name classes name ≡ Some d → d.parent ≡ Some above → S above)
      (implied : (name : ℕ) → S name → P name)
      (kept : (name above : ℕ) (d : Class) → P name → class_of_name classes name ≡ Some d → IsTrue (has_number d.interfaces above) → P above)
      (c : Class) (own : class_of_name classes c.name ≡ Some c) (here : S c.name) where
    class-or-above : (name : ℕ) → IsTrue (has_number (c.name ∷ superclasses classes c) name) → S name
    class-or-above name h =
        elim (either (c.name == name) (has_number (superclasses classes c) name) h) [
          | inl same ↦ subst S (same-place c.name name same) here
          | inr above ↦ superclasses-keep S kept_above c own here name above
        ]

    by-class : (class : ℕ) → IsTrue (has_number (class_and_above classes c) class) → (found : Option Class) → slice_get classes class ≡ found →
        (name : ℕ) → IsTrue (has_number (option_map_or (superinterfaces classes) found []) name) → P name
    by-class class among None is name h = let wrong : false ≡ true = h in absurd cc
    by-class class among (Some d) is name h =
        let r = named-among classes (c.name ∷ superclasses classes c) class among in
        let there : class_of_name classes r.name ≡ Some d = ap (option_and_then (slice_get classes)) r.named ∙ is in
        superinterfaces-keep P kept d (λ n listed. kept r.name n d (implied r.name (class-or-above r.name r.listed)) there listed) name h

    pub fits-keep : (name : ℕ) → IsTrue (fits classes c name) → P name
    fits-keep name h =
        elim (either (c.name == name) (has_number (ancestors classes c) name) h) [
          | inl same ↦ implied name (subst S (same-place c.name name same) here)
          | inr above ↦
              elim (either (has_number (superclasses classes c) name) (has_number (flat_map (superinterfaces_at classes) (class_and_above classes c)) name)
              (subst (λ b. IsTrue b) (has-append (superclasses classes c) (flat_map (superinterfaces_at classes) (class_and_above classes c)) name) above)) [
                | inl super ↦ implied name (superclasses-keep S kept_above c own here name super)
                | inr by ↦ (let r = any-from (λ class. has_number (superinterfaces_at classes class) name) (class_and_above classes c)
                    (subst (λ b. IsTrue b) (has-flat (superinterfaces_at classes) (class_and_above classes c) name) by) in
                    by-class r.number r.listed (slice_get classes r.number) refl name r.passes)
              ]
        ]
