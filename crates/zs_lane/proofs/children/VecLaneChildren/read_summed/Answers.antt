use Rattle.zs_lane.proofs.Set.{unwritten, called, unchanged, only_on}
use Rattle.zs_lane.proofs.children.VecLaneChildren.read_summed.Goals as goal

pub returns-clause-unwritten : goal.returns-clause-unwritten
returns-clause-unwritten g c = unwritten g.D.Device c.args.self.now _ _ c.read_summed.new.self c.requires.dev c.index_mut-lane.ensures.value c.read_summed.result c.read_summed.ensures.told c.read_summed.ensures.crash

pub returns-clause-call : goal.returns-clause-call
returns-clause-call g c = called g.D.Device c.args.self.now _ _ c.read_summed.new.self c.requires.dev c.index_mut-lane.ensures.value c.read_summed.result _ (λ is. absurd cc) c.read_summed.ensures.mark c.read_summed.ensures.err c.read_summed.ensures.cause c.read_summed.ensures.time c.read_summed.ensures.keeps

pub returns-clause-memory : goal.returns-clause-memory
returns-clause-memory g c failed = unchanged g.D.Device c.args.self.now _ _ c.read_summed.new.self c.requires.dev c.index_mut-lane.ensures.value c.read_summed.result (c.read_summed.ensures.memory failed)

pub returns-clause-only : goal.returns-clause-only
returns-clause-only g c = only_on g.D.Device c.args.self.now _ _ c.read_summed.new.self c.requires.dev c.index_mut-lane.ensures.value c.read_summed.result c.read_summed.ensures.size
