use Rattle.std.proofs.Common.{◌≡◌, ◌++◌, take}
use Rattle.std.specs.List.{flat_map}
use Rattle.zs_record.specs.Spelling.{interval_bytes}
use Rattle.zs_record.proofs.writing.put_intervals.Given as goal

abbrev pub invariant-loop-span : goal.invariant-loop-span
invariant-loop-span l = l.out.items ≡ l.initial.out.items ++ flat_map interval_bytes (take l.span-index l.spans)
