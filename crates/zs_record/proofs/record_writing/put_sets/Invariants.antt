use Rattle.std.proofs.Common.{◌≡◌, ◌++◌, take}
use Rattle.std.specs.List.{flat_map}
use Rattle.zs_record.specs.Spelling.{stored_set_bytes}
use Rattle.zs_record.proofs.record_writing.put_sets.Given as goal

abbrev pub invariant-loop-set : goal.invariant-loop-set
invariant-loop-set l = l.out.items ≡ l.initial.out.items ++ flat_map stored_set_bytes (take l.set-index l.sets)
