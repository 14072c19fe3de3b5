-- Reading options, a pair of words at a time.
use Rattle.std.proofs.Common.{◌≡◌, ℕ, ◌+◌, ◌-◌, ◌<◌, ◌≤◌, Bool, true, false, not, ◌&&◌, cond, is_some, Option, Some, None, List, [], ◌∷◌, length, take, drop, zero, suc, refl, sym, ap, ◌∙◌, arith, nat_lt, option_map}
use Rattle.std.specs.Prelude.{String, option_and_then, string_bytes}
use Rattle.std.specs.declared.alloc.Global.{Global}
use Rattle.std.specs.List.{list_all}
use Rattle.std.proofs.lemmas.Bool.{ltb-true, lt-ltb}
use Rattle.std.proofs.lemmas.List.{take_all, drop-map, length-drop, length-map}
use Rattle.fp_base.specs.Files.{texts}
use Rattle.fp_words.specs.Asked.{word_at, has_option, has_values}
use Rattle.fp_words.specs.Words.{Given, is_plain, options_of, with_option, run_of, run_with, one_worker, asked}
use Rattle.fp_words.specs.Lists.{list_items}

-- an option stands at a place: it is taken with the next word
pub options-next : (given : Given) (words : List (List ℕ)) (at : ℕ) → at + 1 < length words → is_plain (word_at words at) ≡ false → options_of given (drop at words) ≡ option_and_then (λ more. options_of more (drop (suc (suc at)) words)) (with_option given (word_at words at) (word_at words (suc at)))
options-next given [] at within plain = absurd (omega arith)
options-next given (word ∷ []) at within plain = absurd (omega arith)
options-next given (word ∷ value ∷ rest) zero within plain = rw plain refl
options-next given (word ∷ value ∷ rest) (suc at) within plain = options-next given (value ∷ rest) at (omega arith) plain

-- no option stands at a place: there the words after the options begin
pub options-end : (given : Given) (words : List (List ℕ)) (at : ℕ) → at ≤ length words → (at + 1 < length words → is_plain (word_at words at) ≡ true) → options_of given (drop at words) ≡ Some (given, drop at words)
options-end given [] zero within plain = refl
options-end given [] (suc at) within plain = refl
options-end given (word ∷ []) zero within plain = refl
options-end given (word ∷ []) (suc at) within plain = options-end given [] at (omega arith) (λ lt. absurd (omega arith))
options-end given (word ∷ value ∷ rest) zero within plain = rw (plain (omega arith)) refl
options-end given (word ∷ value ∷ rest) (suc at) within plain = options-end given (value ∷ rest) at (omega arith) (λ lt. plain (omega arith))

-- what a test for an option says
pub option-here : (words : List (List ℕ)) (at : ℕ) → has_option words at ≡ true → (at + 1 < length words) × (is_plain (word_at words at) ≡ false)
option-here words at e = by_case (nat_lt (at + 1) (length words)) (is_plain (word_at words at)) refl refl e
  where
    by_case : (within plain : Bool) → nat_lt (at + 1) (length words) ≡ within → is_plain (word_at words at) ≡ plain → (within && not plain) ≡ true → (at + 1 < length words) × (is_plain (word_at words at) ≡ false)
    by_case true false w p t = (ltb-true _ _ w, p)
    by_case true true w p t = cc
    by_case false plain w p t = cc

pub no_option-here : (words : List (List ℕ)) (at : ℕ) → has_option words at ≡ false → at + 1 < length words → is_plain (word_at words at) ≡ true
no_option-here words at e lt = by_case (is_plain (word_at words at)) refl (rw (lt-ltb (at + 1) (length words) lt) at e)
  where
    by_case : (plain : Bool) → is_plain (word_at words at) ≡ plain → not plain ≡ false → is_plain (word_at words at) ≡ true
    by_case true p t = p
    by_case false p t = cc

-- the same, with what the code has at hand
module _ (given : Given) (words : List (List ℕ)) (at : ℕ) (option value : List ℕ) (here : has_option words at ≡ true) (is : option ≡ word_at words at) (next : value ≡ word_at words (at + 1)) where
  taken : options_of given (drop at words) ≡ option_and_then (λ more. options_of more (drop (at + 2) words)) (with_option given option value)
  taken =
      let one : suc at ≡ at + 1 = omega arith in
      let two : suc (suc at) ≡ at + 2 = omega arith in
      options-next given words at (option-here words at here).0 (option-here words at here).1
      ∙ ap (λ n. option_and_then (λ more. options_of more (drop n words)) (with_option given (word_at words at) (word_at words (suc at)))) two
      ∙ ap (λ n. option_and_then (λ more. options_of more (drop (at + 2) words)) (with_option given (word_at words at) (word_at words n))) one
      ∙ ap (λ v. option_and_then (λ more. options_of more (drop (at + 2) words)) (with_option given (word_at words at) v)) (sym next)
      ∙ ap (λ o. option_and_then (λ more. options_of more (drop (at + 2) words)) (with_option given o value)) (sym is)

  pub option-taken : (more : Given) → with_option given option value ≡ Some more → options_of given (drop at words) ≡ options_of more (drop (at + 2) words)
  option-taken more e = taken ∙ ap (option_and_then (λ more. options_of more (drop (at + 2) words))) e

  pub option-refused : with_option given option value ≡ None → options_of given (drop at words) ≡ None
  option-refused e = taken ∙ ap (option_and_then (λ more. options_of more (drop (at + 2) words))) e

-- the texts of the strings from a place on
pub texts-from : (strings : List (String Global)) (at : ℕ) → texts (take (length strings - at) (drop at strings)) ≡ drop at (texts strings)
texts-from strings at =
    let all : take (length strings - at) (drop at strings) ≡ drop at strings = take_all _ _ (omega (arith, length-drop {A = String Global})) in
    ap texts all ∙ sym (drop-map string_bytes at strings)

-- where no option stands, the options and the strings from there on are those of the words
pub options-rest : (given : Given) (strings : List (String Global)) (at : ℕ) (all : Option (Given × List (List ℕ))) → at ≤ length strings → has_option (texts strings) at ≡ false → options_of given (drop at (texts strings)) ≡ all → Some (given, texts (take (length strings - at) (drop at strings))) ≡ all
options-rest given strings at all within none is =
    let long : length (texts strings) ≡ length strings = length-map strings string_bytes in
    ap (λ rest. Some (given, rest)) (texts-from strings at) ∙ sym (options-end given (texts strings) at (omega arith) (no_option-here (texts strings) at none)) ∙ is

-- ---- what the words after the options are

each-some : {A B C D : Type 0} (f : A → B → C → D) (a : Option A) (b : Option B) (c : Option C) → is_some (option_and_then (λ x. option_and_then (λ y. option_map (f x y) c) b) a) ≡ is_some a && (is_some b && is_some c)
each-some f None b c = refl
each-some f (Some x) None c = refl
each-some f (Some x) (Some y) None = refl
each-some f (Some x) (Some y) (Some z) = refl

pub run-complete : (given : Given) (strings : List (String Global)) → (strings ≡ [] → ⊥) → list_all is_plain (texts strings) ≡ true → has_values given ≡ is_some (run_of given (texts strings))
run-complete given [] some e = absurd (some refl)
run-complete given (dir ∷ roots) some e =
    sym (each-some (λ analyses show workers. asked (string_bytes dir) (texts roots) analyses show workers) (option_and_then list_items given.analyses) (option_and_then list_items given.show) (option_and_then one_worker given.workers))
    ∙ ap (λ b. is_some (cond b (run_with given (string_bytes dir) (texts roots)) None)) (sym e)
