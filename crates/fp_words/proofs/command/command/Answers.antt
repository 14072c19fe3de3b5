use Rattle.std.proofs.Common.{◌≡◌, ap, ◌∙◌, true}
use Rattle.clap.specs.Simple.{app_of, app_of_fields, on_top}
use Rattle.std.specs.Prelude.{codes}
use Rattle.fp_words.specs.Command.{bare_app, option_rule, dir_rule, root_rule}
use Rattle.fp_words.proofs.CommandLemmas.{with_arg, one_more}
use Rattle.fp_words.proofs.command.command.Goals as goal

pub returns : goal.returns
returns c =
    let named = c.new.ensures.app in
    let bare : app_of c.disable_version_flag-command.result ≡ bare_app =
    ap app_of_fields c.disable_version_flag-command.ensures
    ∙ ap (λ app. on_top (λ top. record top { disable_version_flag = true }) app) (ap app_of_fields c.disable_help_flag.ensures)
    ∙ ap (λ app. on_top (λ top. record top { disable_help_flag = true; disable_version_flag = true }) app) (ap app_of_fields c.no_binary_name.ensures)
    ∙ ap (λ app. on_top (λ top. record top { no_binary_name = true; disable_help_flag = true; disable_version_flag = true }) app) c.new.ensures.app in
    let one = with_arg _ _ _ bare_app (option_rule (codes "analyses")) c.in_ok-command.ensures c.option.ensures.local bare c.option.ensures.rule in
    let two = with_arg _ _ _ _ (option_rule (codes "show")) c.in_ok-command-2.ensures c.option-2.ensures.local one c.option-2.ensures.rule in
    let three = with_arg _ _ _ _ (option_rule (codes "workers")) c.in_ok-command-3.ensures c.option-3.ensures.local two c.option-3.ensures.rule in
    let four = with_arg _ _ _ _ dir_rule c.in_ok-command-4.ensures c.new-2.ensures.optional.1 three c.new-2.ensures.rule in
    one_more c.arg-5.result _ _ _ root_rule c.arg-5.ensures c.roots.ensures.local four c.roots.ensures.rule
