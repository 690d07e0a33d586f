-- The next piece is freed; once all are, the scan is the datasets' own.
use Rattle.std.proofs.Common.{◌<◌, ◌≤◌, length, arith}
use Rattle.zs_scan.proofs.FreedPieces.{freed_none, freed_next, freed_all, freed_all_keeps}
use Rattle.zs_scan.proofs.scan.Scan.freed_all.Goals as goal

pub loop-item-init : goal.loop-item-init
loop-item-init c = freed_none _

pub loop-item-preserved : goal.loop-item-preserved
loop-item-preserved c =
    let below : c.loop-item.item-index < length c.args.items.now = omega arith in
    freed_next _ _ _ c.args.items.now c.loop-item.item-index _ below c.loop-item.invariant c.freed.ensures.freed

pub returns-clause-keeps : goal.returns-clause-keeps
returns-clause-keeps c =
    let over : length c.args.items.now ≤ c.loop-item.item-index = omega arith in
    freed_all_keeps _ _ c.args.items.now c.facts.ensures (freed_all _ _ c.args.items.now c.loop-item.item-index over c.loop-item.invariant)
