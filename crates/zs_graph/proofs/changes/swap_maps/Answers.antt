-- Each of the two has the map of the other.
use Rattle.std.proofs.Common.{◌<◌, subst, ◌∙◌}
use Rattle.zs_graph.proofs.PutAt.{swap_at}
use Rattle.zs_graph.proofs.changes.swap_maps.Goals as goal

pub returns : goal.returns
returns g c =
    swap_at g.T.Blocks.entries c.args.sets.now.items c.args.first c.args.second c.index_mut.result.now c.index_mut-2.result.now c.index_mut-3.result.now c.replace-moved.new.dest c.replace-back.new.dest c.replace-back.result (subst (λ n. c.args.first < n) c.args.sets.now.ok.0 c.requires.first) (subst (λ n. c.args.second < n) c.args.sets.now.ok.0 c.requires.second) c.requires.two c.index_mut.ensures.value c.index_mut-2.ensures.value c.index_mut-3.ensures.value (c.replace-back.ensures.after ∙ c.replace-moved.ensures.value) c.replace-back.ensures.value
