use Rattle.zs_lane.proofs.Set.{durable, unwritten, called, unchanged, only_on}
use Rattle.zs_lane.proofs.children.VecLaneChildren.sync.Goals as goal

pub returns-clause-durable : goal.returns-clause-durable
returns-clause-durable g c = durable g.D.Device c.args.self.now _ _ c.sync.new.self c.requires c.index_mut-lane.ensures.value c.sync.result c.sync.ensures.durable

pub returns-clause-unwritten : goal.returns-clause-unwritten
returns-clause-unwritten g c = unwritten g.D.Device c.args.self.now _ _ c.sync.new.self c.requires c.index_mut-lane.ensures.value c.sync.result c.sync.ensures.told c.sync.ensures.crash

pub returns-clause-call : goal.returns-clause-call
returns-clause-call g c = called g.D.Device c.args.self.now _ _ c.sync.new.self c.requires c.index_mut-lane.ensures.value c.sync.result _ (λ is. absurd cc) c.sync.ensures.mark c.sync.ensures.err c.sync.ensures.cause c.sync.ensures.time c.sync.ensures.keeps

pub returns-clause-memory : goal.returns-clause-memory
returns-clause-memory g c failed = unchanged g.D.Device c.args.self.now _ _ c.sync.new.self c.requires c.index_mut-lane.ensures.value c.sync.result (c.sync.ensures.memory failed)

pub returns-clause-only : goal.returns-clause-only
returns-clause-only g c = only_on g.D.Device c.args.self.now _ _ c.sync.new.self c.requires c.index_mut-lane.ensures.value c.sync.result c.sync.ensures.size
