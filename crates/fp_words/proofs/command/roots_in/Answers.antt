use Rattle.std.proofs.Common.{◌≡◌, ap, ◌∙◌, sym, map, Some, None, []}
use Rattle.std.specs.Prelude.{unwrap_or, option_map, codes}
use Rattle.clap.proofs.WalkLemmas.{raw_values-rows}
use Rattle.clap.specs.Walk.{all_of, rows_of}
use Rattle.clap.specs.Words.{found_of}
use Rattle.fp_base.specs.Files.{texts}
use Rattle.fp_words.proofs.CommandLemmas.{texts_along}
use Rattle.fp_words.proofs.command.roots_in.Goals as goal

pub returns-in-Some : goal.returns-in-Some
returns-in-Some c =
    let given : Some (map (λ v. v.now) c.in-Some.roots.now) ≡ all_of (codes "root") (rows_of (found_of c.args.matches.now)) =
    sym (ap (option_map (λ s. map (λ v. v.now) s.now)) c.in-Some.is) ∙ c.get_strs.ensures ∙ raw_values-rows (found_of c.args.matches.now) (codes "root") in
    texts_along c.copies.result _ _ c.copies.ensures (ap (λ o. unwrap_or o []) given)

pub returns-in-None : goal.returns-in-None
returns-in-None c =
    let none : None ≡ all_of (codes "root") (rows_of (found_of c.args.matches.now)) =
    sym (ap (option_map (λ s. map (λ v. v.now) s.now)) c.in-None.is) ∙ c.get_strs.ensures ∙ raw_values-rows (found_of c.args.matches.now) (codes "root") in
    ap texts c.new.ensures ∙ ap (λ o. unwrap_or o []) none
