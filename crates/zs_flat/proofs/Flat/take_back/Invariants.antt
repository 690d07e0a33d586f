-- What is left to take back differs at most at the keys that are left.
use Rattle.std.proofs.Common.{◌≡◌, map}
use Rattle.std.specs.BTreeMap.{BTreeMap, IsOrdered}
use Rattle.zs_ids.specs.declared.key.Key.{Key}
use Rattle.zs_ids.specs.declared.block.Bp.{Bp}
use Rattle.zs_ids.specs.Key.{key_cmp}
use Rattle.zs_ids.specs.Blocks.{bp_at}
use Rattle.zs_flat.specs.Restoring.{Differs}
use Rattle.zs_flat.proofs.Flat.take_back.Given as goal

abbrev pub invariant-loop-key : goal.invariant-loop-key
invariant-loop-key l = (before : BTreeMap Key Bp) → IsOrdered key_cmp before → Differs before.entries l.fn.self.map.entries l.fn.changes
    → l.fn.before ≡ map (λ c. bp_at before.entries c.0) l.fn.changes
    → Differs before.entries l.self.map.entries l.key-iterator.a.rest.now × (l.key-iterator.b.rest.now ≡ map (λ c. bp_at before.entries c.0) l.key-iterator.a.rest.now)
