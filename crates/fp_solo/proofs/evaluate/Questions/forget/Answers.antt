use Rattle.std.proofs.Common.{arith, ◌∙◌}
use Rattle.std.proofs.Math.ListN.{length-set}
use Rattle.fp_solo.proofs.QuestionLemmas.{asked-before, asked-last, flag-back}
use Rattle.fp_solo.proofs.evaluate.Questions.forget.Goals as goal

pub index_mut-requires : goal.index_mut-requires
index_mut-requires c =
    let inside = c.loop-place.invariant.inside c.in-Some.place (asked-last c.loop-place.self.answers.items c.pop.new.self.items c.in-Some.place c.in-Some._value c.in-Some.ensures.items) in
    omega (arith, inside, c.loop-place.self.seen.ok.0)

pub loop-place-preserved : goal.loop-place-preserved
loop-place-preserved c =
    let l = c.loop-place.invariant in
    let flags = c.loop-place.self.seen.items in
    let es = c.loop-place.self.answers.items in
    let rest = c.pop.new.self.items in
    let place = c.in-Some.place in
    let value = c.in-Some._value in
    let popped = c.in-Some.ensures.items in
    let inside = l.inside place (asked-last es rest place value popped) in
    record {
      long = length-set flags place _ ∙ l.long;
      inside = λ p h. rw (length-set flags place _) (l.inside p (asked-before es rest place value p popped h));
      seen = λ p h. flag-back flags es rest place value p inside popped l.seen h;
    }
