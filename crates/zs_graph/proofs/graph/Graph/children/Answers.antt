-- The children are counted as contracts see the datasets.
use Rattle.std.proofs.Common.{length, sym, ap, ◌∙◌}
use Rattle.std.specs.Prelude.{filter, map}
use Rattle.std.proofs.lemmas.List.{length-map}
use Rattle.zs_ids.specs.GraphTree.{stands_on}
use Rattle.zs_graph.specs.View.{dataset_of}
use Rattle.zs_graph.proofs.Seen.{filter-mapped}
use Rattle.zs_graph.proofs.graph.Graph.children.Goals as goal

pub returns : goal.returns
returns g c =
    let see = dataset_of g.T.Blocks.entries in
    let sets = c.deref.result.now in
    rw (← c.self.view_is, ← c.deref.ensures.value) (c.count_children.ensures ∙ sym (length-map (filter (λ s. stands_on c.args.id (see s).parent) sets) see) ∙ ap (λ l. length l) (sym (filter-mapped see (λ d. stands_on c.args.id d.parent) sets)) ∙ sym (length-map (filter (λ d. stands_on c.args.id d.parent) (map see sets)) (λ d. d.id)))
