use Rattle.std.proofs.Common.{◌<◌, List, length, arith, subst, sym}
use Rattle.std.proofs.lemmas.List.{take_more}
use Rattle.zs_ids.specs.declared.block.Item.{Item}
use Rattle.zs_scan.proofs.Flights.{HaveFlown, fly_marks, waits_still}
use Rattle.zs_scan.proofs.taking.fly_all.Goals as goal

pub fly-requires : goal.fly-requires
fly-requires c =
    let below : c.loop-item.item-index < length c.args.items.now = omega arith in
    waits_still _ _ c.args.number c.args.items.now c.loop-item.item-index _ c.loop-item.invariant.marks c.requires.rising c.requires.wait below

pub loop-item-preserved : goal.loop-item-preserved
loop-item-preserved c =
    let below : c.loop-item.item-index < length c.args.items.now = omega arith in
    let more = take_more c.args.items.now c.loop-item.item-index _ below in
    record {
      marks = subst (λ (l : List Item). HaveFlown c.args.marks.now c.fly.new.self c.args.number l) (sym more) (fly_marks _ _ _ c.args.number _ _ c.loop-item.invariant.marks c.fly.ensures.mark);
      flying = omega (arith, c.fly.ensures.flying, c.loop-item.invariant.flying);
    }
