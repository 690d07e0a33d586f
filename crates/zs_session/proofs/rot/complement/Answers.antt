use Rattle.std.proofs.Common.{arith, get_or}
use Rattle.std.proofs.lemmas.List.{get_or_default}
use Rattle.std.proofs.lemmas.List.Edits.{map_over_more}
use Rattle.zs_session.specs.Plays.{complement}
use Rattle.zs_session.proofs.rot.complement.Goals as goal

pub loop-at-preserved : goal.loop-at-preserved
loop-at-preserved c =
    let old = get_or c.loop-at.bytes c.loop-at.at 0 in
    map_over_more complement c.args.bytes.now c.loop-at.bytes c.loop-at.at old c.loop-at-test.true c.loop-at.invariant (get_or_default c.loop-at.bytes c.loop-at.at 0 old (omega arith))
