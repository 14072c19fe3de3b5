-- The command of a run, and the job of the values that were read.
use Rattle.std.proofs.Common.{◌≡◌, ℕ, ap₂, ◌∙◌, false, List, [], Option, Some, None, Result, Ok, Err, IfOk, refl}
use Rattle.std.specs.Prelude.{String, option_map, unwrap_or}
use Rattle.std.specs.declared.alloc.Global.{Global}
use Rattle.fp_base.specs.Files.{texts}
use Rattle.std.specs.Borrow.{Bor}
use Rattle.clap.specs.Built.{AddsArg}
use Rattle.clap.specs.Simple.{App, app_of, with_rule}
use Rattle.clap.specs.Walk.{Rule, rule_of}
use Rattle.clap.specs.declared.builder.arg.Arg.{Arg}
use Rattle.clap.specs.declared.builder.command.Command.{Command}
use Rattle.fp_words.specs.Words.{asked}

-- a command with one more argument
pub with_arg : (old new : Command) (a : Arg) (app : App) (rule : Rule) → AddsArg old a new → a.global ≡ false → app_of old ≡ app → rule_of a ≡ rule → app_of new ≡ with_rule app rule
with_arg old new a app rule adds local before is = adds.shape local ∙ ap₂ with_rule before is

pub one_more : {E : Type 0} (result : Result Command E) (old : Command) (a : Arg) (app : App) (rule : Rule) → IfOk result (λ new. AddsArg old a new) → a.global ≡ false → app_of old ≡ app → rule_of a ≡ rule → IfOk result (λ new. app_of new ≡ with_rule app rule)
one_more (Ok new) old a app rule adds local before is = with_arg old new a app rule adds local before is
one_more (Err fault) old a app rule adds local before is = tt

-- runs with the same parts are the same
pub same_run : {dir dir' : List ℕ} {roots roots' analyses analyses' show show' : List (List ℕ)} {workers workers' : ℕ} → dir ≡ dir' → roots ≡ roots' → analyses ≡ analyses' → show ≡ show' → workers ≡ workers' → asked dir roots analyses show workers ≡ asked dir' roots' analyses' show' workers'
same_run d r a s w = λ i. asked (d i) (r i) (a i) (s i) (w i)

-- the bytes of a text, or of none
pub text_or_none : (o : Option (Bor (List ℕ))) (other : Bor (List ℕ)) → other.now ≡ [] → (unwrap_or o other).now ≡ unwrap_or (option_map (λ text. text.now) o) []
text_or_none None other e = e
text_or_none (Some text) other e = refl

-- what holds of a value, holds of what equals it
pub texts_along : {E : Type 0} (result : Result (List (String Global)) E) (before after : List (List ℕ)) → IfOk result (λ copies. texts copies ≡ before) → before ≡ after → IfOk result (λ copies. texts copies ≡ after)
texts_along (Ok copies) before after e is = e ∙ is
texts_along (Err fault) before after e is = e
