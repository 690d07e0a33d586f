-- A further change is put.
use Rattle.zs_flat.proofs.Restored.{put_next}
use Rattle.zs_flat.proofs.FlatBlocks.replace_all.Goals as goal

pub loop-key-preserved : goal.loop-key-preserved
loop-key-preserved c = put_next _ _ c.loop-key.self.map c.insert.new.self c.args.changes.now c.loop-key.key-index _ c.loop-key-test.true c.in-Ok.ensures.updates c.in-Ok.ensures.entries c.loop-key.invariant
