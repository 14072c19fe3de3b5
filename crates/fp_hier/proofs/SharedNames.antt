-- Lists that are parts of one list, as it grows.
use Rattle.std.proofs.Common.{◌≡◌, ℕ, ◌+◌, ◌-◌, ◌<◌, ◌≤◌, min, nat_lt, false, List, [], ◌∷◌, ◌++◌, All, inl, inr, subst, drop, get_or, length, map, take, refl, sym, ap, ◌∙◌, arith, append-nil, append_assoc, length-append}
use Rattle.std.specs.Prelude.{Option}
use Rattle.std.specs.Option.{option_map_or}
use Rattle.std.proofs.lemmas.Bool.{cases_lt, false≢true, lt-ltb}
use Rattle.std.proofs.lemmas.List.{drop-append-le, drop_all, get_or-map, length-drop, length-map, length-take, length-take-le, map-append, take-append-drop, take-append-le, take_all, take_more}
use Rattle.std.proofs.lemmas.List.Elements.{All-push, All-weaker, All-head, All-tail}
use Rattle.std.proofs.lemmas.List.FromFn.{get_or-map-range_with_len, length-map-range_with_len}
use Rattle.std.proofs.lemmas.Option.{slice_get_past}
use Rattle.fp_model.specs.declared.class.Class.{Class}
use Rattle.fp_facts.specs.Hierarchy.{superinterfaces, superinterfaces_at}
use Rattle.fp_hier.specs.Parts.{AreParts, IsWithin, part_of}
use Rattle.fp_hier.specs.Tables.{all_superinterfaces}
use Rattle.fp_hier.specs.declared.superinterfaces.Part.{Part}

-- ---- names behind the others

within-longer : (n m : ℕ) → n ≤ m → (p : Part) → IsWithin n p → IsWithin m p
within-longer n m more p within = record {
  ordered = within.ordered;
  ended = omega (arith, within.ended, more);
}

part-longer : (names more : List ℕ) (p : Part) → IsWithin (length names) p → part_of (names ++ more) p ≡ part_of names p
part-longer names more p within =
    ap (take (p.end - p.first)) (drop-append-le p.first names more (omega (arith, within.ordered, within.ended)))
    ∙ take-append-le (p.end - p.first) (drop p.first names) more (omega (arith, length-drop p.first names, within.ended))

parts-longer : (names more : List ℕ) (parts : List Part) → All (IsWithin (length names)) parts → map (part_of (names ++ more)) parts ≡ map (part_of names) parts
parts-longer names more [] within = refl
parts-longer names more (p ∷ parts) within =
    ap (λ (l : List ℕ). l ∷ map (part_of (names ++ more)) parts) (part-longer names more p (All-head (IsWithin (length names)) p parts within))
    ∙ ap (λ (l : List (List ℕ)). part_of names p ∷ l) (parts-longer names more parts (All-tail (IsWithin (length names)) p parts within))

-- ---- a list more

-- what stands from a place on, and what is added behind, is the list
whole-list : (here list : List ℕ) → take (length list) here ≡ take (length here) list → take (length list) (here ++ drop (length here) list) ≡ list
whole-list here list alike = elim (cases_lt (length here) (length list)) [
  | inl short ↦
      let front : here ≡ take (length here) list = sym (take_all (length list) here (omega (arith, short))) ∙ alike in
      ap (λ (l : List ℕ). take (length list) (l ++ drop (length here) list)) front
      ∙ ap (take (length list)) (take-append-drop (length here) list)
      ∙ take_all (length list) list (omega arith)
  | inr long ↦
      ap (λ (l : List ℕ). take (length list) (here ++ l)) (drop_all (length here) list long)
      ∙ ap (take (length list)) (append-nil here)
      ∙ alike
      ∙ take_all (length here) list long
]

module _ (names list more : List ℕ) (parts : List Part) (first : ℕ) (within : first ≤ length names) (alike : take (length list) (drop first names) ≡ take (length names - first) list)
    (added : more ≡ names ++ drop (length names - first) list) where
  rest-long : length (drop first names) ≡ length names - first
  rest-long = length-drop first names

  -- there is room for the list
  pub part-ends : first + length list ≤ length more
  part-ends = omega (arith, within, ap length added, length-append names (drop (length names - first) list), length-drop (length names - first) list)

  part-new : take (length list) (drop first more) ≡ list
  part-new =
      ap (λ (l : List ℕ). take (length list) (drop first l)) added
      ∙ ap (take (length list)) (drop-append-le first names (drop (length names - first) list) within)
      ∙ ap (λ (n : ℕ). take (length list) (drop first names ++ drop n list)) (sym rest-long)
      ∙ whole-list (drop first names) list (alike ∙ ap (λ (n : ℕ). take n list) (sym rest-long))

  pub list-added : (lists : List (List ℕ)) (now : List Part) (p : Part) → p.first ≡ first → p.end ≡ first + length list → AreParts lists names parts → now ≡ parts ++ p ∷ [] → AreParts (lists ++ list ∷ []) more now
  list-added lists now p begins ends are pushed =
      let one : part_of more p ≡ list =
      ap (λ (n : ℕ). take n (drop p.first more)) (omega (arith, begins, ends)) ∙ ap (λ (n : ℕ). take (length list) (drop n more)) begins ∙ part-new in
      let longer : length names ≤ length more = omega (arith, ap length added, length-append names (drop (length names - first) list)) in
      record {
        told = ap (map (part_of more)) pushed
            ∙ map-append (part_of more) parts (p ∷ [])
            ∙ ap (λ (l : List ℕ). map (part_of more) parts ++ l ∷ []) one
            ∙ ap (λ (l : List (List ℕ)). l ++ list ∷ []) (ap (λ (l : List ℕ). map (part_of l) parts) added ∙ parts-longer names (drop (length names - first) list) parts are.within ∙ are.told);
        within = subst (All (IsWithin (length more))) (sym pushed)
            (All-push (IsWithin (length more)) parts p (All-weaker (IsWithin (length names)) (IsWithin (length more)) (within-longer (length names) (length more) longer) parts are.within)
            (record {
              ordered = omega (arith, begins, ends);
              ended = omega (arith, ends, part-ends);
            }));
      }

-- ---- the list of a class

module _ (classes : List Class) (names : List ℕ) (parts : List Part) (are : AreParts (all_superinterfaces classes) names parts) (class : ℕ) where
  parts-long : length parts ≡ length classes
  parts-long = sym (length-map parts (part_of names)) ∙ ap length are.told ∙ length-map-range_with_len (superinterfaces_at classes) 0 (length classes)

  pub list-there : (p : Part) → class < length parts → p ≡ get_or parts class p → part_of names p ≡ superinterfaces_at classes class
  list-there p within at =
      let nothing : List ℕ = [] in
      ap (part_of names) at
      ∙ sym (get_or-map (part_of names) parts class p nothing within)
      ∙ ap (λ (l : List (List ℕ)). get_or l class nothing) are.told
      ∙ get_or-map-range_with_len (superinterfaces_at classes) 0 (length classes) class class nothing (omega (arith, within, parts-long)) (omega arith)

  pub list-nowhere : length parts ≤ class → [] ≡ superinterfaces_at classes class
  list-nowhere past =
      let nothing : List ℕ = [] in
      sym (ap (λ (o : Option Class). option_map_or (superinterfaces classes) o nothing) (slice_get_past classes class (omega (arith, past, parts-long))))

pub not-below : (i n : ℕ) → false ≡ nat_lt i n → n ≤ i
not-below i n is = elim (cases_lt i n) [
  | inl less ↦ absurd (false≢true (is ∙ lt-ltb i n less))
  | inr past ↦ past
]

-- ---- where a list may begin

pub begins-alike : (names list : List ℕ) (place count : ℕ) → count ≡ min (length list) (length names - place) → take (place + count - place) (drop place names) ≡ take count list →
    take (length list) (drop place names) ≡ take (length names - place) list
begins-alike names list place count is same = elim (cases_lt (length names - place) (length list)) [
  | inl short ↦
      let so : count ≡ length names - place = omega (arith, is, short) in
      take_all (length list) (drop place names) (omega (arith, short, length-drop place names))
      ∙ sym (take_all (place + count - place) (drop place names) (omega (arith, so, length-drop place names)))
      ∙ same
      ∙ ap (λ (n : ℕ). take n list) so
  | inr long ↦
      let so : count ≡ length list = omega (arith, is, long) in
      ap (λ (n : ℕ). take n (drop place names)) (omega (arith, so))
      ∙ same
      ∙ take_all count list (omega (arith, so))
      ∙ sym (take_all (length names - place) list long)
]

-- ---- names that are added one by one

pub none-behind : (list old : List ℕ) (but : ℕ) → old ≡ old ++ drop but (take but list)
none-behind list old but =
    sym (ap (λ (l : List ℕ). old ++ l) (drop_all but (take but list) (omega (arith, length-take but list))) ∙ append-nil old)

pub one-behind : (list old now more : List ℕ) (but i : ℕ) → but ≤ i → i < length list → now ≡ old ++ drop but (take i list) → more ≡ now ++ get_or list i 0 ∷ [] → more ≡ old ++ drop but (take (i + 1) list)
one-behind list old now more but i past within so_far pushed =
    pushed
    ∙ ap (λ (l : List ℕ). l ++ get_or list i 0 ∷ []) so_far
    ∙ append_assoc old (drop but (take i list)) (get_or list i 0 ∷ [])
    ∙ ap (λ (l : List ℕ). old ++ l)
    (sym (drop-append-le but (take i list) (get_or list i 0 ∷ []) (omega (arith, past, length-take-le i list (omega (arith, within)))))
    ∙ ap (drop but) (sym (take_more list i 0 within)))

pub all-behind : (list old now : List ℕ) (but i : ℕ) → length list ≤ i → now ≡ old ++ drop but (take i list) → now ≡ old ++ drop but list
all-behind list old now but i past so_far = so_far ∙ ap (λ (l : List ℕ). old ++ drop but l) (take_all i list past)
