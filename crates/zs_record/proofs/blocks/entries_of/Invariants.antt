use Rattle.std.proofs.Common.{◌≡◌, ◌-◌, None}
use Rattle.zs_record.specs.Blocks.{entries_of}
use Rattle.zs_record.proofs.Loops.{with_front}
use Rattle.zs_record.proofs.blocks.entries_of.Given as goal

abbrev pub invariant-loop : goal.invariant-loop
invariant-loop l = with_front l.entries.items (entries_of (l.count - l.counter) l.last l.rest) ≡ entries_of l.count None l.bytes
