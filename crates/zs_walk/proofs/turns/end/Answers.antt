use Rattle.std.proofs.Common.{ap, ◌∙◌}
use Rattle.std.specs.Prelude.{unwrap_or}
use Rattle.zs_walk.proofs.Ends.{least_is, end_is}
use Rattle.zs_walk.proofs.turns.end.Goals as goal

pub returns-else-phys : goal.returns-else-phys
returns-else-phys g c =
    end_is _ c.args.phys.now c.leave-else-phys.new.phys c.args.id c.unwrap_or-min.result _ c.if-phys.false (c.unwrap_or-min.ensures ∙ ap (λ o. unwrap_or o 0) c.creation.ensures ∙ least_is (g.G.Datasets.datasets c.args.graph.now) c.args.id c.requires.heads) c.leave-else-phys.ensures c.queue_children.ensures
