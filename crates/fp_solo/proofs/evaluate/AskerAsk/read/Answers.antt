-- A place that is asked is used at the values, so its answer has room; one that was asked has its value as its answer.
use Rattle.std.proofs.Common.{◌≡◌, ◌<◌, ◌==◌, ◌||◌, ℕ, true, false, Contains, length, get_or, slice_index, refl, ap, sym, subst, ◌∙◌, arith}
use Rattle.std.proofs.Math.ListN.{length-set}
use Rattle.std.proofs.lemmas.List.{get_or_read}
use Rattle.std.proofs.lemmas.List.Elements.{Contains-push}
use Rattle.fp_eqs.specs.Answers.{asked}
use Rattle.fp_eqs.specs.Solved.{flag_at}
use Rattle.fp_eqs.proofs.Flags.{mark-one}
use Rattle.fp_eqs.proofs.ReadingLemmas.{agrees-push, asked-push, distinct-push, used-push, room-left}
use Rattle.fp_eqs.proofs.Told.{asked-answer}
use Rattle.fp_solo.proofs.evaluate.AskerAsk.read.Goals as goal

pub returns-then-index-clause-answer : goal.returns-then-index-clause-answer
returns-then-index-clause-answer g c =
    let r = c.args.self.now in
    let es = r.questions.answers.items in
    let place = c.args.place in
    let uses = c.requires (slice_index r.values.now) r.same in
    let inside : place < length r.questions.seen.items = rw r.seen.long ((g.N.Naming.monotone.lawful r.task r.task_in).uses_places (slice_index r.values.now) place uses) in
    let flag : c.index.result.now ≡ flag_at r.questions.seen.items place = get_or_read r.questions.seen.items place _ inside c.index.ensures false in
    let was : asked es place ≡ true = sym (r.seen.seen place) ∙ sym flag ∙ c.if-index.true in
    let told = asked-answer es place was in
    subst (λ w. Contains {X = ℕ × ℕ} es (place, w)) (sym (r.same place told.answer told.given)) told.given

pub push_reserved-requires : goal.push_reserved-requires
push_reserved-requires g c =
    let r = c.args.self.now in
    let es = r.questions.answers.items in
    let a = slice_index r.values.now in
    let place = c.args.place in
    let law = g.N.Naming.monotone.lawful r.task r.task_in in
    let uses = c.requires a r.same in
    let inside : place < length r.questions.seen.items = rw r.seen.long (law.uses_places a place uses) in
    let flag : c.index.result.now ≡ flag_at r.questions.seen.items place = get_or_read r.questions.seen.items place _ inside c.index.ensures false in
    let new : asked es place ≡ false = sym (r.seen.seen place) ∙ sym flag ∙ c.if-index.false in
    let room = room-left g.N.Naming.equations.places (g.N.Naming.equations.task r.task) a es place law r.once r.used uses new in
    omega (arith, room, r.room)

pub invariant_of-self : goal.invariant_of-self
invariant_of-self g c =
    let r = c.args.self.now in
    let es = r.questions.answers.items in
    let a = slice_index r.values.now in
    let place = c.args.place in
    let law = g.N.Naming.monotone.lawful r.task r.task_in in
    let uses = c.requires a r.same in
    let inside : place < length r.questions.seen.items = rw r.seen.long (law.uses_places a place uses) in
    let flag : c.index.result.now ≡ flag_at r.questions.seen.items place = get_or_read r.questions.seen.items place _ inside c.index.ensures false in
    let new : asked es place ≡ false = sym (r.seen.seen place) ∙ sym flag ∙ c.if-index.false in
    record {
      task_in = r.task_in;
      long = r.long;
      seen = record {
        long = length-set r.questions.seen.items place true ∙ r.seen.long;
        seen = λ p. rw c.push_reserved.ensures.items (mark-one r.questions.seen.items place inside p ∙ ap (λ b. b || place == p) (r.seen.seen p) ∙ sym (asked-push es place (get_or r.values.now place 0) p));
      };
      same = rw c.push_reserved.ensures.items (agrees-push a es place _ r.same refl);
      used = rw c.push_reserved.ensures.items (used-push ((g.N.Naming.equations.task r.task).uses a) es place _ r.used uses);
      once = rw c.push_reserved.ensures.items (distinct-push es place _ r.once new);
      room = omega (arith, r.room, c.push_reserved.ensures);
    }

pub returns-clause-answer : goal.returns-clause-answer
returns-clause-answer g c =
    let r = c.args.self.now in
    rw c.push_reserved.ensures.items (Contains-push r.questions.answers.items (c.args.place, get_or r.values.now c.args.place 0))
