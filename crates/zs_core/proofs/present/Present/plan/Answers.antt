use Rattle.std.proofs.Common.{rules}
use Rattle.zs_core.proofs.TaskRan.{id_at}
use Rattle.zs_core.proofs.present.Present.plan.Goals as goal

pub returns-in-Some-clause-plan : goal.returns-in-Some-clause-plan
returns-in-Some-clause-plan c d here = let same = id_at c.args.self.now.state.graph c.args.ds d here in search (rules, same, here)

pub returns-clause-plan : goal.returns-clause-plan
returns-clause-plan c d here = let same = id_at c.args.self.now.state.graph c.args.ds d here in search (rules, same, here)
