use Rattle.std.proofs.Common.{◌∙◌, sym, subst, arith}
use Rattle.fp_rta.proofs.CallPairs.{asked-more_of, given-more, source-among}
use Rattle.fp_rta.specs.Contributions.{is_on}
use Rattle.fp_rta.proofs.call.give_candidates.Goals as goal

pub is_on-on-requires : goal.is_on-on-requires
is_on-on-requires g c =
    let k = c.index-candidates-bit.result in
    let ks = c.args.candidates.now in
    record {
      may = λ es p later h.
          let among = source-among ks c.loop-bit.bit k p c.loop-bit-test.true c.index-candidates-bit.is h in
          subst (λ base. g.A.Ask.allows base es p) (sym c.loop-bit.invariant.base) (c.requires.may es p (λ a agrees. c.loop-bit.invariant.later a (later a agrees)) among);
    }

pub loop-bit-preserved : goal.loop-bit-preserved
loop-bit-preserved g c =
    let k = c.index-candidates-bit.result in
    let ks = c.args.candidates.now in
    let i = c.loop-bit.bit in
    let lt = c.loop-bit-test.true in
    let item = c.index-candidates-bit.is in
    let l = c.loop-bit.invariant in
    let before = g.A.Ask.answers c.args.ask.now in
    let now = g.A.Ask.answers c.loop-bit.ask in
    let after = g.A.Ask.answers c.is_on-on.new.ask in
    let seen = c.is_on-on.ensures in
    let told = c.give_bit.ensures in
    record {
      base = seen.base ∙ l.base;
      later = λ a h. l.later a (seen.later a h);
      asked = asked-more_of before now after ks i k lt item l.asked seen.asked;
      given = λ a h. given-more c.args.give.now.list c.loop-bit.give.list c.give_bit.new.give.list (is_on a) c.args.callees ks i k c.is_on-on.result lt item (seen.on a h) (l.given a (seen.later a h)) told.list;
      spare = omega (arith, l.spare, told.room);
      kept = told.kept ∙ l.kept;
    }
