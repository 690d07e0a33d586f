-- The first of that name, as contracts see the datasets.
use Rattle.std.proofs.Common.{sym, ap, ◌∙◌}
use Rattle.std.specs.Prelude.{find, option_map}
use Rattle.zs_ids.specs.GraphTree.{is_named}
use Rattle.zs_graph.specs.View.{dataset_of}
use Rattle.zs_graph.proofs.Seen.{find-mapped, map-map-option}
use Rattle.zs_graph.proofs.graph.Graph.find.Goals as goal

pub returns : goal.returns
returns g c =
    let see = dataset_of g.T.Blocks.entries in
    let sets = c.deref.result.now in
    rw (← c.self.view_is, ← c.deref.ensures.value) (c.first_named.ensures ∙ map-map-option see (λ d. d.id) (find (λ s. is_named c.args.name.now (see s)) sets) ∙ sym (ap (λ o. option_map (λ d. d.id) o) (find-mapped see (is_named c.args.name.now) sets)))
