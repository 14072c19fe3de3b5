-- The origins that are read off a method's descriptor and its instructions are those that its words may come from.
use Rattle.std.proofs.Common.{◌≡◌, ℕ, ◌+◌, ◌≤◌, ◌<◌, Bool, true, false, List, [], ◌∷◌, ◌++◌, length, map, filter, refl, sym, ap, subst, ◌∙◌, cond, arith, append_assoc}
use Rattle.std.specs.Prelude.{Option, Some, None, IfSome}
use Rattle.std.specs.List.{flat_map}
use Rattle.std.specs.Option.{option_to_list}
use Rattle.std.proofs.lemmas.List.Elements.{filter-append}
use Rattle.std.proofs.lemmas.Grind.{flat_map-append}
use Rattle.fp_model.specs.declared.class.Code.{Code}
use Rattle.fp_model.specs.declared.class.Method.{Method}
use Rattle.fp_model.specs.declared.class.instr.Instr.{Instr}
use Rattle.fp_model.specs.declared.class.instr.Instr.TheVariants as instr
use Rattle.fp_model.specs.declared.kind.Kind.{Kind}
use Rattle.fp_model.specs.declared.kind.Kind.TheVariants as kind
use Rattle.fp_model.specs.declared.kind.Sort.{Sort}
use Rattle.fp_model.specs.declared.kind.Sort.TheVariants.{Ref}
use Rattle.fp_model.specs.Flags.{is_static}
use Rattle.fp_model.specs.SoundCode.{IsSoundMethod, kind_words, kind_words_all, method_words}
use Rattle.fp_facts.specs.declared.origin.Origin.{Origin}
use Rattle.fp_facts.specs.declared.origin.Origin.TheVariants as origin
use Rattle.fp_facts.specs.Effects.{effect_of}
use Rattle.fp_facts.specs.Origins.{argument_origins, arguments_from, entry_origins, given_origins, is_allocation, is_result, made_in, made_origin, made_sorts, made_words, origins_of}
use Rattle.fp_facts.specs.Sorts.{result_words, same_sort}
use Rattle.fp_origin.specs.Numbering.{allocates, allocation_origins, is_reference, is_reference_result, method_origins, param_origins, result_origins, returns_reference}

-- ---- arguments

given-argument : (number : ℕ) (k : Kind) → given_origins (argument_origins number k) ≡ cond (is_reference k) (origin.Param number ∷ []) []
given-argument number (kind.Int letter) = refl
given-argument number kind.Long = refl
given-argument number kind.Float = refl
given-argument number kind.Double = refl
given-argument number (kind.Class name) = refl
given-argument number (kind.Array dims element) = refl

given-arguments : (number : ℕ) (kinds : List Kind) → given_origins (arguments_from number kinds) ≡ param_origins number kinds
given-arguments number [] = refl
given-arguments number (k ∷ kinds) =
    let parts : given_origins (argument_origins number k ++ arguments_from (number + 1) kinds) ≡ given_origins (argument_origins number k) ++ given_origins (arguments_from (number + 1) kinds) =
    flat_map-append option_to_list (argument_origins number k) (arguments_from (number + 1) kinds) in
    parts ∙ ap (λ (l : List Origin). l ++ given_origins (arguments_from (number + 1) kinds)) (given-argument number k) ∙
    ap (λ (l : List Origin). cond (is_reference k) (origin.Param number ∷ []) [] ++ l) (given-arguments (number + 1) kinds)

given-entry : (m : Method) → given_origins (entry_origins m) ≡ method_origins m
given-entry m =
    elim (is_static m.flags) as (λ b. given_origins (cond b (arguments_from 0 m.kinds.args) (Some (origin.Param 0) ∷ arguments_from 1 m.kinds.args)) ≡ cond b (param_origins 0 m.kinds.args) (origin.Param 0 ∷ param_origins 1 m.kinds.args)) [
      | true ↦ given-arguments 0 m.kinds.args
      | false ↦ ap (λ (l : List Origin). origin.Param 0 ∷ l) (given-arguments 1 m.kinds.args)
    ]

kinds-few : (kinds : List Kind) → length kinds ≤ kind_words_all kinds
unfolding kind_words_all
kinds-few [] = omega arith
kinds-few (k ∷ kinds) =
    let rest = kinds-few kinds in
    let one : 1 ≤ kind_words k = elim k as (λ v. 1 ≤ kind_words v) [ kind.Int l ↦ omega arith | kind.Long ↦ omega arith | kind.Float ↦ omega arith | kind.Double ↦ omega arith | kind.Class n ↦ omega arith | kind.Array d e ↦ omega arith ] in
    omega arith

-- the numbers of a method's arguments are those of local variables
pub arguments-few : (m : Method) (code : Code) → IsSoundMethod m → m.code ≡ Some code → code.max_locals < 65536 → length m.kinds.args + cond (is_static m.flags) 0 1 < 65536
arguments-few m code sound is few =
    let P : Option Code → Type 0 = λ v. IfSome v (λ c. method_words m ≤ c.max_locals) in
    let room : method_words m ≤ code.max_locals = subst P is sound.arguments in
    omega (arith, kinds-few m.kinds.args, room)

-- ---- instructions

-- the words of an instruction that a filter leaves out
none-kept : (test : Origin → Bool) (o : Option Origin) (sorts : List Sort) → filter test (option_to_list o) ≡ [] →
    filter test (given_origins (map (λ s. cond (same_sort s Ref) o None) sorts)) ≡ []
none-kept test o [] none = refl
none-kept test o (s ∷ sorts) none =
    let rest : List (Option Origin) = map (λ r. cond (same_sort r Ref) o None) sorts in
    let first : filter test (option_to_list (cond (same_sort s Ref) o None)) ≡ [] = elim (same_sort s Ref) as (λ b. filter test (option_to_list (cond b o None)) ≡ []) [ true ↦ none | false ↦ refl ] in
    filter-append test (option_to_list (cond (same_sort s Ref) o None)) (given_origins rest) ∙
    ap (λ (l : List Origin). l ++ filter test (given_origins rest)) first ∙ none-kept test o sorts none

abbrev made_by : ℕ → Instr → List Origin
made_by pc i = given_origins (made_words pc i)

made-allocation : (pc : ℕ) (i : Instr) → filter is_allocation (made_by pc i) ≡ cond (allocates i) (origin.New pc ∷ []) []
made-allocation pc (instr.New class) = refl
made-allocation pc (instr.NewArray dims element) = refl
made-allocation pc (instr.InvokeVirtual class name descr kinds) = none-kept is_allocation (Some (origin.Result pc)) (result_words kinds.result) refl
made-allocation pc (instr.InvokeSpecial class name descr kinds) = none-kept is_allocation (Some (origin.Result pc)) (result_words kinds.result) refl
made-allocation pc (instr.InvokeStatic class name descr kinds) = none-kept is_allocation (Some (origin.Result pc)) (result_words kinds.result) refl
made-allocation pc (instr.InvokeInterface class name descr kinds) = none-kept is_allocation (Some (origin.Result pc)) (result_words kinds.result) refl
made-allocation pc (instr.InvokeDynamic name descr boot args) = none-kept is_allocation (Some (origin.Result pc)) (result_words descr.result) refl
made-allocation pc i = none-kept is_allocation (made_origin pc i) (made_sorts (effect_of i)) refl

result-kept : (pc : ℕ) (r : Option Kind) →
    filter is_result (given_origins (map (λ s. cond (same_sort s Ref) (Some (origin.Result pc)) None) (result_words r))) ≡ cond (is_reference_result r) (origin.Result pc ∷ []) []
result-kept pc None = refl
result-kept pc (Some (kind.Int letter)) = refl
result-kept pc (Some kind.Long) = refl
result-kept pc (Some kind.Float) = refl
result-kept pc (Some kind.Double) = refl
result-kept pc (Some (kind.Class name)) = refl
result-kept pc (Some (kind.Array dims element)) = refl

made-result : (pc : ℕ) (i : Instr) → filter is_result (made_by pc i) ≡ cond (returns_reference i) (origin.Result pc ∷ []) []
made-result pc (instr.InvokeVirtual class name descr kinds) = result-kept pc kinds.result
made-result pc (instr.InvokeSpecial class name descr kinds) = result-kept pc kinds.result
made-result pc (instr.InvokeStatic class name descr kinds) = result-kept pc kinds.result
made-result pc (instr.InvokeInterface class name descr kinds) = result-kept pc kinds.result
made-result pc (instr.InvokeDynamic name descr boot args) = result-kept pc descr.result
made-result pc i = none-kept is_result (made_origin pc i) (made_sorts (effect_of i)) refl

abbrev made_in_all : List (ℕ × Instr) → List Origin
made_in_all instrs = flat_map (λ i. made_by i.0 i.1) instrs

allocations-kept : (instrs : List (ℕ × Instr)) → filter is_allocation (made_in_all instrs) ≡ allocation_origins instrs
allocations-kept [] = refl
allocations-kept (i ∷ instrs) =
    filter-append is_allocation (made_by i.0 i.1) (made_in_all instrs) ∙
    ap (λ (l : List Origin). l ++ filter is_allocation (made_in_all instrs)) (made-allocation i.0 i.1) ∙
    ap (λ (l : List Origin). cond (allocates i.1) (origin.New i.0 ∷ []) [] ++ l) (allocations-kept instrs) ∙
    (elim (allocates i.1) as (λ b. cond b (origin.New i.0 ∷ []) [] ++ allocation_origins instrs ≡ map (λ (j : ℕ × Instr). origin.New j.0) (cond b (i ∷ filter (λ j. allocates j.1) instrs) (filter (λ j. allocates j.1) instrs))) [ true ↦ refl | false ↦ refl ])

results-kept : (instrs : List (ℕ × Instr)) → filter is_result (made_in_all instrs) ≡ result_origins instrs
results-kept [] = refl
results-kept (i ∷ instrs) =
    filter-append is_result (made_by i.0 i.1) (made_in_all instrs) ∙
    ap (λ (l : List Origin). l ++ filter is_result (made_in_all instrs)) (made-result i.0 i.1) ∙
    ap (λ (l : List Origin). cond (returns_reference i.1) (origin.Result i.0 ∷ []) [] ++ l) (results-kept instrs) ∙
    (elim (returns_reference i.1) as (λ b. cond b (origin.Result i.0 ∷ []) [] ++ result_origins instrs ≡ map (λ (j : ℕ × Instr). origin.Result j.0) (cond b (i ∷ filter (λ j. returns_reference j.1) instrs) (filter (λ j. returns_reference j.1) instrs))) [ true ↦ refl | false ↦ refl ])

-- ---- all of them

pub all-known : (m : Method) (code : Code) (nothing arguments allocations results all : List Origin) → nothing ≡ [] → arguments ≡ nothing ++ method_origins m →
    allocations ≡ arguments ++ allocation_origins code.instrs → results ≡ allocations ++ result_origins code.instrs → all ≡ results ++ origin.Other ∷ [] → all ≡ origins_of m code
all-known m code nothing arguments allocations results all none first second third last =
    let other : List Origin = origin.Other ∷ [] in
    let entry : List Origin = method_origins m in
    let made : List Origin = allocation_origins code.instrs in
    let given : List Origin = result_origins code.instrs in
    let start : arguments ≡ entry = first ∙ ap (λ (l : List Origin). l ++ entry) none in
    last ∙ ap (λ (l : List Origin). l ++ other) (third ∙ ap (λ (l : List Origin). l ++ given) (second ∙ ap (λ (l : List Origin). l ++ made) start)) ∙
    append_assoc (entry ++ made) given other ∙ append_assoc entry made (given ++ other) ∙
    ap (λ (l : List Origin). l ++ (made ++ (given ++ other))) (sym (given-entry m)) ∙
    ap (λ (l : List Origin). given_origins (entry_origins m) ++ (l ++ (given ++ other))) (sym (allocations-kept code.instrs)) ∙
    ap (λ (l : List Origin). given_origins (entry_origins m) ++ (filter is_allocation (made_in code) ++ (l ++ other))) (sym (results-kept code.instrs))
