use Rattle.fp_solo.proofs.evaluate.evaluate.Given as goal

abbrev pub ghosts-run : goal.ghosts-run
ghosts-run g a = record { equations = g.S.System.equations a.system.now.system; monotone = g.S.System.monotone a.system.now.system }
