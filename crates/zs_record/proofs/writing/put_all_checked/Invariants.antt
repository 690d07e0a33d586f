use Rattle.std.proofs.Common.{◌≡◌, ◌++◌, take}
use Rattle.std.specs.List.{flat_map}
use Rattle.zs_record.specs.Spelling.{checked_bytes}
use Rattle.zs_record.proofs.writing.put_all_checked.Given as goal

abbrev pub invariant-loop-entry : goal.invariant-loop-entry
invariant-loop-entry l = l.out.items ≡ l.initial.out.items ++ flat_map checked_bytes (take l.entry-index l.entries)
