use Rattle.std.proofs.Common.{◌∙◌, ap, sym, arith}
use Rattle.fp_links.specs.Linked.{Linked}
use Rattle.fp_links.proofs.RowLemmas.{rows-without-nothing}
use Rattle.fp_links.proofs.links.Links.unlink_task.Goals as goal

pub returns : goal.returns
returns c =
    let last = c.drop_newest.ensures.none c.loop-test.false in
    let same = ap (λ (v : Linked). v.rows) last.0 in
    let none = last.1 in
    record {
      rows = same ∙ sym (rows-without-nothing c.args.task c.loop.self.rows none) ∙ c.loop.invariant.others;
      tasks = ap (λ (v : Linked). v.tasks) last.0 ∙ c.loop.invariant.tasks;
      spare = ap (λ (v : Linked). v.spare) last.0 ∙ (let sum = c.loop.invariant.spare in omega arith);
    }
