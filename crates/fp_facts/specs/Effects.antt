-- What each form of instruction takes and leaves (JVMS SE 21 section 6.5).
use Rattle.std.specs.Prelude.{ℕ, ◌+◌, ◌-◌, ◌/◌, ◌%◌, ◌==◌, nat_lt, List, [], ◌∷◌, ◌++◌, replicate, if◌then◌else◌}
use Rattle.fp_model.specs.declared.class.instr.Instr.{Instr}
use Rattle.fp_model.specs.declared.class.instr.Instr.TheVariants as instr
use Rattle.fp_model.specs.declared.kind.Sort.{Sort}
use Rattle.fp_model.specs.declared.kind.Sort.TheVariants.{Int, Long, Float, Double, Ref}
use Rattle.fp_facts.specs.declared.effect.Effect.{Effect}
use Rattle.fp_facts.specs.declared.effect.Effect.TheVariants.{Loads, Stores, Counts, Keeps, Shuffles, Takes}
use Rattle.fp_facts.specs.declared.effect.Shuffling.{Shuffling}
use Rattle.fp_facts.specs.Sorts.{result_words, sort_of, words_of, words_of_kinds}

-- ---- numbers

-- the sorts of numbers in the order of the opcodes
abbrev pub number_sort : ℕ → Sort
number_sort n = if n == 0 then Int else if n == 1 then Long else if n == 2 then Float else Double

-- those other than one, in that order
abbrev pub other_number : (number other : ℕ) → Sort
other_number number other = number_sort (if nat_lt other number then other else other + 1)

abbrev pub twice : List Sort → List Sort
twice words = words ++ words

-- The operands and results of `iadd` to `lxor` and `i2l` to `dcmpg`.

unfoldable pub op_takes : ℕ → List Sort
op_takes op =
    if nat_lt op 116 then twice (words_of (number_sort ((op - 96) % 4)))  -- iadd to drem
    else if nat_lt op 120 then words_of (number_sort (op - 116))  -- ineg to dneg
    else if nat_lt op 126 then words_of (number_sort (op % 2)) ++ Int ∷ []  -- ishl to lushr
    else if nat_lt op 132 then twice (words_of (number_sort (op % 2)))  -- iand to lxor
    else if nat_lt op 145 then words_of (number_sort ((op - 133) / 3))  -- i2l to d2f
    else if nat_lt op 148 then Int ∷ []  -- i2b to i2s
    else if op == 148 then twice (words_of Long)  -- lcmp
    else if nat_lt op 151 then twice (words_of Float)  -- fcmpl, fcmpg
    else twice (words_of Double)  -- dcmpl, dcmpg

unfoldable pub op_gives : ℕ → List Sort
op_gives op =
    if nat_lt op 116 then words_of (number_sort ((op - 96) % 4))
    else if nat_lt op 120 then words_of (number_sort (op - 116))
    else if nat_lt op 132 then words_of (number_sort (op % 2))
    else if nat_lt op 145 then words_of (other_number ((op - 133) / 3) ((op - 133) % 3))
    else Int ∷ []

-- ---- arrays, branches and returns

-- the sorts of array elements in the order of the opcodes: those of `iaload` to `saload`, and of `iastore` to `sastore`
abbrev pub element_sort : ℕ → Sort
element_sort n = if nat_lt n 4 then number_sort n else if n == 4 then Ref else Int

-- the operands of a branch on a comparison
unfoldable pub if_takes : ℕ → List Sort
if_takes op =
    if nat_lt op 159 then Int ∷ []  -- ifeq to ifle
    else if nat_lt op 165 then Int ∷ Int ∷ []  -- if_icmpeq to if_icmple
    else if nat_lt op 167 then Ref ∷ Ref ∷ []  -- if_acmpeq, if_acmpne
    else Ref ∷ []  -- ifnull, ifnonnull

-- the words that `ireturn` to `return` return
unfoldable pub return_takes : ℕ → List Sort
return_takes op =
    if nat_lt op 176 then words_of (number_sort (op - 172))
    else if op == 176 then Ref ∷ []
    else []

-- ---- the words on the stack

-- how many words from the top are taken, below which of them no value of two words may be cut, by their depths (1 is the top),
-- and which of them are put back, the lowest first
unfoldable pub shuffling : ℕ → Shuffling
shuffling op =
    if op == 87 then record { takes = 1; cuts = 1 ∷ []; order = [] }  -- pop
    else if op == 88 then record { takes = 2; cuts = 2 ∷ []; order = [] }  -- pop2
    else if op == 89 then record { takes = 1; cuts = 1 ∷ []; order = 1 ∷ 1 ∷ [] }  -- dup
    else if op == 90 then record { takes = 2; cuts = 1 ∷ 2 ∷ []; order = 1 ∷ 2 ∷ 1 ∷ [] }  -- dup_x1
    else if op == 91 then record { takes = 3; cuts = 1 ∷ 3 ∷ []; order = 1 ∷ 3 ∷ 2 ∷ 1 ∷ [] }  -- dup_x2
    else if op == 92 then record { takes = 2; cuts = 2 ∷ []; order = 2 ∷ 1 ∷ 2 ∷ 1 ∷ [] }  -- dup2
    else if op == 93 then record { takes = 3; cuts = 2 ∷ 3 ∷ []; order = 2 ∷ 1 ∷ 3 ∷ 2 ∷ 1 ∷ [] }  -- dup2_x1
    else if op == 94 then record { takes = 4; cuts = 2 ∷ 4 ∷ []; order = 2 ∷ 1 ∷ 4 ∷ 3 ∷ 2 ∷ 1 ∷ [] }  -- dup2_x2
    else record { takes = 2; cuts = 1 ∷ 2 ∷ []; order = 1 ∷ 2 ∷ [] }  -- swap

-- ---- all forms

abbrev pub effect_of : Instr → Effect
effect_of instr.Nop = Takes [] []
effect_of instr.Null = Takes [] (Ref ∷ [])
effect_of (instr.Const s) = Takes [] (words_of s)
effect_of instr.ConstRef = Takes [] (Ref ∷ [])
effect_of (instr.Load s at) = Loads s at
effect_of (instr.Store s at) = Stores s at
effect_of (instr.ArrayLoad op) = Takes (Ref ∷ Int ∷ []) (words_of (element_sort (op - 46)))
effect_of (instr.ArrayStore op) = Takes (Ref ∷ Int ∷ [] ++ words_of (element_sort (op - 79))) []
effect_of (instr.Shuffle op) = Shuffles (shuffling op)
effect_of (instr.Op op) = Takes (op_takes op) (op_gives op)
effect_of (instr.Inc at) = Counts at
effect_of (instr.If op to) = Takes (if_takes op) []
effect_of (instr.Goto to) = Takes [] []
effect_of (instr.Switch to) = Takes (Int ∷ []) []
effect_of (instr.Return op) = Takes (return_takes op) []
effect_of (instr.GetStatic class name descr k) = Takes [] (words_of (sort_of k))
effect_of (instr.PutStatic class name descr k) = Takes (words_of (sort_of k)) []
effect_of (instr.GetField class name descr k) = Takes (Ref ∷ []) (words_of (sort_of k))
effect_of (instr.PutField class name descr k) = Takes (Ref ∷ words_of (sort_of k)) []
effect_of (instr.InvokeVirtual class name descr kinds) = Takes (Ref ∷ words_of_kinds kinds.args) (result_words kinds.result)
effect_of (instr.InvokeSpecial class name descr kinds) = Takes (Ref ∷ words_of_kinds kinds.args) (result_words kinds.result)
effect_of (instr.InvokeStatic class name descr kinds) = Takes (words_of_kinds kinds.args) (result_words kinds.result)
effect_of (instr.InvokeInterface class name descr kinds) = Takes (Ref ∷ words_of_kinds kinds.args) (result_words kinds.result)
effect_of (instr.InvokeDynamic name descr boot args) = Takes (words_of_kinds descr.args) (result_words descr.result)
effect_of (instr.New class) = Takes [] (Ref ∷ [])
effect_of (instr.NewArray dims element) = Takes (replicate dims Int) (Ref ∷ [])
effect_of instr.ArrayLength = Takes (Ref ∷ []) (Int ∷ [])
effect_of instr.Throw = Takes (Ref ∷ []) []
effect_of (instr.CheckCast class) = Keeps
effect_of (instr.InstanceOf class) = Takes (Ref ∷ []) (Int ∷ [])
effect_of instr.Monitor = Takes (Ref ∷ []) []
