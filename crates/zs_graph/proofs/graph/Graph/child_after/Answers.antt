-- The first child among the datasets behind the last one.
use Rattle.std.proofs.Common.{sym, ap, ◌∙◌}
use Rattle.std.specs.Prelude.{find, option_map}
use Rattle.zs_ids.specs.GraphTree.{is_above, stands_on}
use Rattle.zs_graph.specs.View.{dataset_of}
use Rattle.zs_graph.proofs.Seen.{find-mapped, find-both, map-map-option}
use Rattle.zs_graph.proofs.graph.Graph.child_after.Goals as goal

pub returns : goal.returns
returns g c =
    let see = dataset_of g.T.Blocks.entries in
    let sets = c.behind.result.now in
    c.first_child.ensures ∙ map-map-option see (λ d. d.id) (find (λ s. stands_on c.args.id (see s).parent) sets) ∙ ap (λ o. option_map (λ d. d.id) o) (sym (find-mapped see (λ d. stands_on c.args.id d.parent) sets) ∙ ap (λ l. find (λ d. stands_on c.args.id d.parent) l) c.behind.ensures) ∙ sym (find-both (λ d. d.id) (λ d. stands_on c.args.id d.parent) (is_above c.args.after) c.args.self.now.sets)
