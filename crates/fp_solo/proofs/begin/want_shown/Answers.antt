use Rattle.std.proofs.Common.{◌≡◌, ◌==◌, ◌&&◌, IsTrue, sym, subst, inl, inr, arith}
use Rattle.std.proofs.lemmas.Bool.{cases_lt}
use Rattle.fp_eqs.specs.Solved.{flag_at}
use Rattle.fp_eqs.specs.Tests.{left, right, either, both, parts, place-here}
use Rattle.fp_solo.proofs.AgendaLemmas.{begun-both, begun-none}
use Rattle.fp_solo.proofs.begin.want_shown.Goals as goal

pub loop-place-init : goal.loop-place-init
loop-place-init g c = record {
  agenda = c.requires.agenda;
  starts = c.requires.starts;
  more = begun-none (flag_at c.args.agenda.now.started.items) (flag_at c.args.agenda.now.due.flags.items);
  shown = λ p lt h. absurd (omega arith);
  only = λ p h. let none = c.requires.none p in cc;
}

pub loop-place-preserved : goal.loop-place-preserved
loop-place-preserved g c =
    let e = g.S.System.equations c.args.system.now.system in
    let l = c.loop-place.invariant in
    let place = c.loop-place.place in
    let old = c.args.agenda.now in
    let now = c.loop-place.agenda in
    let new = c.want_if_shown.new.agenda in
    let told = c.in_ok-want_if_shown.ensures in
    record {
      agenda = told.agenda;
      starts = told.starts;
      more = begun-both (flag_at old.started.items) (flag_at now.started.items) (flag_at new.started.items) (flag_at old.due.flags.items) (flag_at now.due.flags.items) (flag_at new.due.flags.items) l.more told.more;
      shown = λ p lt h. elim (cases_lt p place) [
        | inl less ↦ subst (λ b. IsTrue b) (sym (told.wanted p)) (left (flag_at now.wanted.items p) (place == p && e.shown p) (l.shown p less h))
        | inr past ↦
            (let is : place ≡ p = omega arith in
            let same : IsTrue (place == p) = subst (λ q. IsTrue (place == q)) is (place-here place) in
            subst (λ b. IsTrue b) (sym (told.wanted p)) (right (flag_at now.wanted.items p) (place == p && e.shown p) (both (place == p) (e.shown p) same h)))
      ];
      only = λ p h. elim (either (flag_at now.wanted.items p) (place == p && e.shown p) (subst (λ b. IsTrue b) (told.wanted p) h)) [
        | inl before ↦ l.only p before
        | inr here ↦ (parts (place == p) (e.shown p) here).1
      ];
    }

pub returns-clause-shown : goal.returns-clause-shown
returns-clause-shown g c p h =
    let laws = g.S.System.monotone c.args.system.now.system in
    c.loop-place.invariant.shown p (omega (arith, laws.shown_places p h, c.loop-place-test.false, c.places-place-end.ensures)) h
