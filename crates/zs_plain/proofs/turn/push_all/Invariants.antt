use Rattle.std.proofs.Common.{◌≡◌, ◌++◌, take}
use Rattle.zs_plain.proofs.turn.push_all.Given as goal

abbrev pub invariant-loop-entry : goal.invariant-loop-entry
invariant-loop-entry l = l.queue ≡ l.fn.queue ++ take l.entry-index l.more
