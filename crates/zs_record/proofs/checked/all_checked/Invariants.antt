use Rattle.std.proofs.Common.{◌≡◌, ◌-◌, []}
use Rattle.zs_record.specs.Checked.{all_checked}
use Rattle.zs_record.proofs.Loops.{with_front}
use Rattle.zs_record.proofs.checked.all_checked.Given as goal

abbrev pub invariant-loop : goal.invariant-loop
invariant-loop l = with_front l.ledger.entries (all_checked l.mirrors l.last (l.count - l.counter) l.ledger.entries l.rest) ≡ all_checked l.mirrors l.last l.count [] l.bytes
