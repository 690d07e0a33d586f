-- A test of the datasets as contracts see them.
use Rattle.std.proofs.Common.{◌&&◌, sym, ◌∙◌}
use Rattle.zs_ids.specs.GraphTree.{same_name}
use Rattle.zs_graph.specs.View.{dataset_of}
use Rattle.zs_graph.proofs.Seen.{any-mapped}
use Rattle.zs_graph.proofs.graph.Graph.has_head_named.Goals as goal

pub returns : goal.returns
returns g c = rw (← c.self.view_is, ← c.deref.ensures.value) (c.has_head.ensures ∙ sym (any-mapped (dataset_of g.T.Blocks.entries) (λ d. d.head && same_name d.owner c.args.name.now) c.deref.result.now))
