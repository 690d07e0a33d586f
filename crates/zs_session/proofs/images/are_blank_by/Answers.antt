use Rattle.std.proofs.Common.{◌∙◌, rules}
use Rattle.zs_session.proofs.Heads.{blank_done, blank_failed, blank_next, reads_next}
use Rattle.zs_session.proofs.images.are_blank_by.Goals as goal

pub returns-in-Ok-false-clause-calls : goal.returns-in-Ok-false-clause-calls
returns-in-Ok-false-clause-calls g c =
    blank_done g.D.Device c.loop-dev.dev c.args.lanes.now.items c.loop-dev.lanes.items c.is_blank.new.lanes.items _ _ c.loop-dev.invariant.reads c.in-Ok-false.ensures.calls

pub returns-in-Err-clause-calls : goal.returns-in-Err-clause-calls
returns-in-Err-clause-calls g c =
    blank_failed g.D.Device c.loop-dev.dev c.args.lanes.now.items c.loop-dev.lanes.items c.is_blank.new.lanes.items _ c.loop-dev.invariant.reads c.in-Err.ensures.calls

pub loop-dev-preserved : goal.loop-dev-preserved
loop-dev-preserved g c = record {
  count = c.is_blank.ensures.calls.kept.set.count ∙ c.loop-dev.invariant.count;
  reads = reads_next g.D.Device c.loop-dev.dev c.args.lanes.now.items c.loop-dev.lanes.items c.is_blank.new.lanes.items _ c.loop-dev.invariant.reads c.in-Ok-true.ensures.calls;
  blank = blank_next g.D.Device c.loop-dev.dev c.args.lanes.now.items c.loop-dev.lanes.items _ c.loop-dev.invariant.reads.kept (search rules) c.in-Ok-true.ensures.blank c.loop-dev.invariant.blank;
}
