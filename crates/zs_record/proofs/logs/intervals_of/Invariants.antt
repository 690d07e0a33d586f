use Rattle.std.proofs.Common.{◌≡◌, ◌-◌}
use Rattle.zs_record.specs.Logs.{intervals_of}
use Rattle.zs_record.proofs.Loops.{with_front}
use Rattle.zs_record.proofs.logs.intervals_of.Given as goal

abbrev pub invariant-loop : goal.invariant-loop
invariant-loop l = with_front l.spans.items (intervals_of l.last (l.count - l.counter) l.from l.rest) ≡ intervals_of l.last l.count 0 l.bytes
