use Rattle.std.proofs.Common.{◌≡◌, ◌==◌, ◌||◌, ℕ, Bool, Vec, Global, ap, sym, ◌∙◌}
use Rattle.fp_eqs.specs.Makers.{is_maker}
use Rattle.fp_eqs.specs.Solved.{flag_at}
use Rattle.fp_eqs.proofs.Flags.{mark-one}
use Rattle.fp_solo.proofs.AgendaLemmas.{started-more}
use Rattle.fp_solo.proofs.agenda.want.Goals as goal

pub returns-clause-starts : goal.returns-clause-starts
returns-clause-starts g c t lt =
    let e = g.S.System.equations c.args.system.now.system in
    let flags = c.args.agenda.now.wanted.items in
    let new = c.begin_makers.new.agenda in
    let told = c.in_ok-begin_makers.ensures in
    let wanted : (p : ℕ) → flag_at new.wanted.items p ≡ (flag_at flags p || c.args.place == p) =
    λ p. ap (λ (v : Vec Bool Global). flag_at v.items p) told.wanted ∙ mark-one flags c.args.place (rw c.requires.agenda.wanted c.requires.place) p in
    told.started t lt ∙ ap (λ b. b || is_maker c.args.place (e.task t)) (c.requires.starts t lt)
    ∙ sym (started-more e (flag_at flags) (flag_at new.wanted.items) c.args.place wanted c.requires.place t)
