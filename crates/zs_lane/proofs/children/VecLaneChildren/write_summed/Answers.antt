use Rattle.zs_lane.proofs.Set.{written, called, unchanged, only_on}
use Rattle.zs_lane.proofs.children.VecLaneChildren.write_summed.Goals as goal

pub returns-clause-written : goal.returns-clause-written
returns-clause-written g c = written g.D.Device c.args.self.now _ _ c.write_summed.new.self c.requires.dev c.index_mut-lane.ensures.value c.write_summed.result _ _ c.write_summed.ensures.written c.write_summed.ensures.torn c.write_summed.ensures.crash

pub returns-clause-call : goal.returns-clause-call
returns-clause-call g c = called g.D.Device c.args.self.now _ _ c.write_summed.new.self c.requires.dev c.index_mut-lane.ensures.value c.write_summed.result _ (λ is. absurd cc) c.write_summed.ensures.mark c.write_summed.ensures.err c.write_summed.ensures.cause c.write_summed.ensures.time c.write_summed.ensures.keeps

pub returns-clause-memory : goal.returns-clause-memory
returns-clause-memory g c failed = unchanged g.D.Device c.args.self.now _ _ c.write_summed.new.self c.requires.dev c.index_mut-lane.ensures.value c.write_summed.result (c.write_summed.ensures.memory failed)

pub returns-clause-only : goal.returns-clause-only
returns-clause-only g c = only_on g.D.Device c.args.self.now _ _ c.write_summed.new.self c.requires.dev c.index_mut-lane.ensures.value c.write_summed.result c.write_summed.ensures.size
