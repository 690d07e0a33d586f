use Rattle.std.proofs.Common.{◌≡◌, max, drop}
use Rattle.zs_want.specs.Picking.{most_sectors}
use Rattle.zs_want.proofs.picking.most_sectors.Given as goal

abbrev pub invariant-loop-span : goal.invariant-loop-span
invariant-loop-span l = max l.most (most_sectors (drop l.span-index l.spans)) ≡ most_sectors l.spans
