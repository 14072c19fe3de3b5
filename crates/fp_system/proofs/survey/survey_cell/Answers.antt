use Rattle.std.proofs.Common.{◌∙◌}
use Rattle.fp_system.proofs.SurveyLemmas.{surveyed_more}
use Rattle.fp_system.proofs.survey.survey_cell.Goals as goal

pub returns : goal.returns
returns c = λ before h.
    surveyed_more c.args.set.now c.args.show.now.items.texts c.args.survey.now.places c.add_places-survey.result c.from.result c.args.bits c.args.survey.now.found c.mark.new.found before c.args.kind c.args.entity
    c.add_places-survey.ensures c.in_ok-mark.ensures.found (c.from.ensures ∙ c.count_places.ensures) h
