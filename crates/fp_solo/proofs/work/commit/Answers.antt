use Rattle.std.proofs.Common.{◌≡◌, ◌<◌, ℕ, List, IsTrue, slice_index, ap, sym, subst, ◌∙◌, arith}
use Rattle.fp_eqs.specs.Answers.{asked, distinct}
use Rattle.fp_eqs.proofs.Joins.{given-made}
use Rattle.fp_eqs.proofs.Told.{asked-contains}
use Rattle.fp_solo.proofs.CountLemmas.{counts-kept, still-kept}
use Rattle.fp_solo.proofs.WorkLemmas.{readers-kept}
use Rattle.fp_solo.proofs.work.commit.Goals as goal

pub record_reads-requires-clause-before : goal.record_reads-requires-clause-before
record_reads-requires-clause-before g c p h =
    rw c.as_slice-answers.ensures.value (subst (λ b. IsTrue b) (sym (c.requires.asks p)) (c.requires.work.still c.args.task p h))

pub record_reads-requires-clause-places : goal.record_reads-requires-clause-places
record_reads-requires-clause-places g c p w h =
    let e = g.S.System.equations c.args.system.now.system in
    let law = (g.S.System.monotone c.args.system.now.system).lawful c.args.task c.requires.task in
    let inside : p < e.places = law.uses_places (slice_index c.args.work.now.values.items) p
    (subst (λ b. IsTrue b) (c.requires.asks p) (asked-contains c.args.work.now.page.questions.answers.items p w (rw c.as_slice-answers.ensures.value at h))) in
    omega (arith, inside, c.requires.work.reads.places)

pub want_answers-requires-clause-places : goal.want_answers-requires-clause-places
want_answers-requires-clause-places g c p w h =
    let law = (g.S.System.monotone c.args.system.now.system).lawful c.args.task c.requires.task in
    law.uses_places (slice_index c.args.work.now.values.items) p
    (subst (λ b. IsTrue b) (c.requires.asks p) (asked-contains c.args.work.now.page.questions.answers.items p w (rw c.as_slice-answers.ensures.value at h)))

pub join_all-requires-clause-places : goal.join_all-requires-clause-places
join_all-requires-clause-places g c p w h =
    let law = (g.S.System.monotone c.args.system.now.system).lawful c.args.task c.requires.task in
    law.makes_places p (given-made _ _ _ _ c.requires.gives p w (rw c.list-given.ensures at h))

pub returns-clause-work : goal.returns-clause-work
returns-clause-work g c =
    let e = g.S.System.equations c.args.system.now.system in
    let laws = g.S.System.monotone c.args.system.now.system in
    let was = c.requires.work in
    let old = c.args.work.now in
    let links = c.record_reads.new.reads.links in
    let recorded = c.in_ok-record_reads.ensures in
    let wanted = c.in_ok-want_answers.ensures in
    let joined = c.in_ok-join_all.ensures in
    let es = c.as_slice-answers.result.now in
    let once : IsTrue (distinct es) = subst (λ (xs : List (ℕ × ℕ)). IsTrue (distinct xs)) (sym c.as_slice-answers.ensures.value) c.requires.once in
    let asks : (p : ℕ) → asked es p ≡ (e.task c.args.task).uses (slice_index old.values.items) p = λ p. ap (λ (xs : List (ℕ × ℕ)). asked xs p) c.as_slice-answers.ensures.value ∙ c.requires.asks p in
    record {
      values = joined.long;
      agenda = record { wanted = wanted.agenda.wanted; started = wanted.agenda.started; due = joined.due };
      starts = wanted.starts;
      reads = record {
        places = omega (arith, recorded.places, was.reads.places);
        tasks = omega (arith, recorded.tasks, was.reads.tasks);
        readers = readers-kept e old.reads.links links c.args.task (asked es) c.requires.task was.reads.readers recorded.reads;
      };
      counts = record {
        long = recorded.long ∙ was.counts.long;
        counts = counts-kept old.reads.links links c.args.task es old.reads.counts.items c.record_reads.new.reads.counts.items e.tasks once was.counts.counts recorded.reads recorded.counts;
      };
      still = still-kept e laws (slice_index old.values.items) (slice_index c.join_all.new.values.items) old.reads.links links c.args.task (asked es) c.requires.task joined.wakes.grows
          was.reads.readers was.still asks recorded.reads;
      questions = was.questions;
    }
