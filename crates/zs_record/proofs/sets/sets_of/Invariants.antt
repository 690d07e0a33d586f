use Rattle.std.proofs.Common.{◌≡◌, ◌-◌, None}
use Rattle.zs_record.specs.Sets.{sets_of}
use Rattle.zs_record.proofs.Loops.{with_front}
use Rattle.zs_record.proofs.sets.sets_of.Given as goal

abbrev pub invariant-loop : goal.invariant-loop
invariant-loop l = with_front l.sets.items (sets_of (l.count - l.counter) l.last l.rest) ≡ sets_of l.count None l.bytes
