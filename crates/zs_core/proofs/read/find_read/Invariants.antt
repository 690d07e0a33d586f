-- None of the reads so far is the client's with the plan.
use Rattle.zs_core.proofs.Finding.{ArePassed}
use Rattle.zs_core.proofs.read.find_read.Given as goal

abbrev pub invariant-loop-i : goal.invariant-loop-i
invariant-loop-i l = ArePassed l.reads l.by l.plan l.i
