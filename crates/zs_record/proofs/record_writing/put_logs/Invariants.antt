use Rattle.std.proofs.Common.{◌≡◌, ◌++◌, take}
use Rattle.std.specs.List.{flat_map}
use Rattle.zs_record.specs.Spelling.{set_bytes}
use Rattle.zs_record.proofs.record_writing.put_logs.Given as goal

abbrev pub invariant-loop-spans : goal.invariant-loop-spans
invariant-loop-spans l = l.out.items ≡ l.initial.out.items ++ flat_map set_bytes (take l.spans-index l.logs)
