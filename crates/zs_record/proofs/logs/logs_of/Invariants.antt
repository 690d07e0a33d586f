use Rattle.std.proofs.Common.{◌≡◌, ◌-◌, ◌+◌, ℕ}
use Rattle.zs_record.specs.Reading.{items_of}
use Rattle.zs_record.specs.Logs.{logs_of, set_of}
use Rattle.zs_record.proofs.Loops.{with_front}
use Rattle.zs_record.proofs.logs.logs_of.Given as goal

abbrev pub invariant-loop : goal.invariant-loop
invariant-loop l = with_front l.logs.items (items_of (λ (dev : ℕ). set_of l.most l.last) (λ dev spans. dev + 1) (l.count - l.counter) l.counter l.rest) ≡ logs_of l.most l.last l.count l.bytes
