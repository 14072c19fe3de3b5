-- The kinds of the words of frames, and their order (JVMS SE 21 sections 2.6.1, 2.6.2 and 4.10.1.2).
use Rattle.std.specs.Prelude.{ℕ, ◌==◌, Bool, true, false, List, [], ◌∷◌, ◌++◌, Option, Some, None, if◌then◌else◌}
use Rattle.std.specs.List.{flat_map, list_any}
use Rattle.fp_model.specs.declared.class.Method.{Method}
use Rattle.fp_model.specs.declared.kind.Kind.{Kind}
use Rattle.fp_model.specs.declared.kind.Kind.TheVariants as kind
use Rattle.fp_model.specs.declared.kind.Sort.{Sort}
use Rattle.fp_model.specs.declared.kind.Sort.TheVariants.{Int, Long, Float, Double, Ref, Half, Unset}
use Rattle.fp_model.specs.Flags.{is_static}
use Rattle.fp_facts.specs.Lattices.{Lattice}

-- ---- comparing

abbrev pub sort_number : Sort → ℕ
sort_number Int = 0
sort_number Long = 1
sort_number Float = 2
sort_number Double = 3
sort_number Ref = 4
sort_number Half = 5
sort_number Unset = 6

abbrev pub same_sort : Sort → Sort → Bool
same_sort a b = sort_number a == sort_number b

-- the sorts one by one, and as many of them
abbrev pub same_sorts : List Sort → List Sort → Bool
same_sorts [] [] = true
same_sorts [] (b ∷ bs) = false
same_sorts (a ∷ as') [] = false
same_sorts (a ∷ as') (b ∷ bs) = if same_sort a b then same_sorts as' bs else false

abbrev pub has_unset : List Sort → Bool
has_unset sorts = list_any (λ s. same_sort s Unset) sorts

-- ---- the order: a word of two sorts holds no value that may be used

abbrev pub join_sorts : Sort → Sort → Sort
join_sorts a b = if same_sort a b then a else Unset

abbrev pub sort_height : Sort → ℕ
sort_height Unset = 1
sort_height _ = 0

abbrev pub sorts : Lattice Sort
sorts = record {
  join = join_sorts;
  height = sort_height;
  most = 1;
  fits = λ _. true;
}

-- ---- the words of values

-- a long and a double take two words (section 2.6.1)
abbrev pub is_wide : Sort → Bool
is_wide Long = true
is_wide Double = true
is_wide _ = false

abbrev pub words_of : Sort → List Sort
words_of s = if is_wide s then s ∷ Half ∷ [] else s ∷ []

abbrev pub sort_of : Kind → Sort
sort_of (kind.Int letter) = Int
sort_of kind.Long = Long
sort_of kind.Float = Float
sort_of kind.Double = Double
sort_of (kind.Class name) = Ref
sort_of (kind.Array dims element) = Ref

-- the words of values of types, the first lowest
abbrev pub words_of_kinds : List Kind → List Sort
words_of_kinds kinds = flat_map (λ k. words_of (sort_of k)) kinds

-- those of a result, none for `void`
abbrev pub result_words : Option Kind → List Sort
result_words None = []
result_words (Some k) = words_of (sort_of k)

-- those of a method's arguments, the receiver of an instance method first
abbrev pub argument_words : Method → List Sort
argument_words m = (if is_static m.flags then [] else Ref ∷ []) ++ words_of_kinds m.kinds.args
