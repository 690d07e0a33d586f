-- The ids are those of the datasets as contracts see them.
use Rattle.std.proofs.Common.{◌∙◌, sym}
use Rattle.std.specs.Prelude.{map}
use Rattle.std.proofs.lemmas.Simd.{map-map}
use Rattle.zs_graph.specs.View.{dataset_of}
use Rattle.zs_graph.proofs.graph.Graph.ids.Goals as goal

pub returns : goal.returns
returns g c =
    let see = dataset_of g.T.Blocks.entries in
    let sets = c.deref.result.now in
    rw (← c.self.view_is, ← c.deref.ensures.value) (c.in_ok-ids.ensures ∙ sym (map-map (λ d. d.id) see sets))
