-- The changes that are left make of this map what all make of the first, and it differs from the first at most at their keys.
use Rattle.std.proofs.Common.{◌≡◌, drop}
use Rattle.zs_ids.specs.Blocks.{entries_with}
use Rattle.zs_flat.specs.Restoring.{Differs}
use Rattle.zs_flat.proofs.FlatBlocks.replace_all.Given as goal

abbrev pub invariant-loop-key : goal.invariant-loop-key
invariant-loop-key l =
    Differs l.fn.self.map.entries l.self.map.entries l.fn.changes
    × (entries_with l.self.map.entries (drop l.key-index l.changes) ≡ entries_with l.fn.self.map.entries l.fn.changes)
