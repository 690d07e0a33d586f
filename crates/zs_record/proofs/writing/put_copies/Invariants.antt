use Rattle.std.proofs.Common.{◌≡◌, ◌++◌, take}
use Rattle.std.specs.List.{flat_map}
use Rattle.zs_record.specs.Spelling.{copy_bytes}
use Rattle.zs_record.proofs.writing.put_copies.Given as goal

abbrev pub invariant-loop-copy : goal.invariant-loop-copy
invariant-loop-copy l = l.out.items ≡ l.initial.out.items ++ flat_map copy_bytes (take l.copy-index l.copies)
