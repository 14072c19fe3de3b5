use Rattle.std.proofs.Common.{◌∙◌, sym, subst, ap}
use Rattle.std.proofs.lemmas.Result.{err_from_is_err_and}
use Rattle.fp_base.specs.Files.{texts}
use Rattle.fp_cells.specs.Cells.{total_places}
use Rattle.fp_system.specs.declared.words.check.Word.TheVariants as word
use Rattle.fp_system.specs.Faults.{TellsLimit, TellsWord}
use Rattle.fp_system.specs.Java.{java_cells, places_refusal}
use Rattle.fp_system.proofs.BuildLemmas.{if_err, none_refused, on_ok, tells_analysis, tells_item, tells_limit, tells_root}
use Rattle.fp_system.proofs.SurveyLemmas.{refusal-told}
use Rattle.fp_system.proofs.words.check.check_words.Goals as goal

pub returns-in_err-check_sort-clause-refused : goal.returns-in_err-check_sort-clause-refused
returns-in_err-check_sort-clause-refused c =
    let p = err_from_is_err_and c.from_residual.result c.from_residual.ensures.1 in
    rw (p.1, p.2) (tells_analysis c.args.set.now (texts c.args.analyses.now) (texts c.args.roots.now) (texts c.args.show.now) c.in_err-check_sort.field-0.0 c.in_err-check_sort.ensures.refused)

pub returns-in_err-check_sort-2-clause-refused : goal.returns-in_err-check_sort-2-clause-refused
returns-in_err-check_sort-2-clause-refused c =
    let p = err_from_is_err_and c.from_residual-in_err-check_sort-2.result c.from_residual-in_err-check_sort-2.ensures.1 in
    let fault = c.in_err-check_sort-2.field-0.0 in
    let told = subst (λ o. TellsWord word.Root o fault) c.requires.roots c.in_err-check_sort-2.ensures.refused in
    rw (p.1, p.2) (tells_root c.args.set.now (texts c.args.analyses.now) (texts c.args.roots.now) (texts c.args.show.now) fault c.in_ok-check_sort.ensures.accepted told)

pub returns-in_err-check_sort-3-clause-refused : goal.returns-in_err-check_sort-3-clause-refused
returns-in_err-check_sort-3-clause-refused c =
    let p = err_from_is_err_and c.from_residual-in_err-check_sort-3.result c.from_residual-in_err-check_sort-3.ensures.1 in
    let fault = c.in_err-check_sort-3.field-0.0 in
    let rooted = sym c.requires.roots ∙ c.in_ok-check_sort-2.ensures.accepted in
    let told = subst (λ o. TellsWord word.Item o fault) c.requires.items c.in_err-check_sort-3.ensures.refused in
    rw (p.1, p.2) (tells_item c.args.set.now (texts c.args.analyses.now) (texts c.args.roots.now) (texts c.args.show.now) fault c.in_ok-check_sort.ensures.accepted rooted told)

pub returns-clause-accepted : goal.returns-clause-accepted
returns-clause-accepted c =
    let total = total_places (java_cells c.args.set.now.classes) in
    let rooted = sym c.requires.roots ∙ c.in_ok-check_sort-2.ensures.accepted in
    let known = sym c.requires.items ∙ c.in_ok-check_sort-3.ensures.accepted in
    on_ok c.check_places.result
    (λ few. none_refused c.args.set.now (texts c.args.analyses.now) (texts c.args.roots.now) (texts c.args.show.now) c.in_ok-check_sort.ensures.accepted rooted known (sym (refusal-told total) ∙ sym (ap places_refusal c.requires.places) ∙ few))
    c.check_places.ensures.accepted

pub returns-clause-refused : goal.returns-clause-refused
returns-clause-refused c =
    let total = total_places (java_cells c.args.set.now.classes) in
    let rooted = sym c.requires.roots ∙ c.in_ok-check_sort-2.ensures.accepted in
    let known = sym c.requires.items ∙ c.in_ok-check_sort-3.ensures.accepted in
    if_err c.check_places.result _ _
    (λ fault h. tells_limit c.args.set.now (texts c.args.analyses.now) (texts c.args.roots.now) (texts c.args.show.now) fault c.in_ok-check_sort.ensures.accepted rooted known
    (subst (λ o. TellsLimit o fault) (ap places_refusal c.requires.places ∙ refusal-told total) h))
    c.check_places.ensures.refused
