use Rattle.std.proofs.Common.{◌≡◌, map, take}
use Rattle.zs_machine.specs.Told.{issued_of}
use Rattle.zs_session.proofs.batches.issued.Given as goal

abbrev pub invariant-loop-entry : goal.invariant-loop-entry
invariant-loop-entry l = l.shown.items ≡ map issued_of (take l.entry-index l.entries)
