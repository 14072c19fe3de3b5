use Rattle.fp_tests.proofs.tests.links.readers.Goals as goal

pub loop-next-preserved : goal.loop-next-preserved
loop-next-preserved c = c.next_of_place-next.ensures.edge c.args.place (c.loop-next.invariant c.in-Some.edge c.in-Some.is)
