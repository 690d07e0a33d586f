use Rattle.std.proofs.Common.{◌≡◌, ◌++◌, take}
use Rattle.zs_plain.specs.Tests.{pieces_held}
use Rattle.zs_plain.proofs.graph.put_held.Given as goal

abbrev pub invariant-loop-entry : goal.invariant-loop-entry
invariant-loop-entry l = l.out.items ≡ l.fn.out.items ++ pieces_held (take l.entry-index l.entries)
