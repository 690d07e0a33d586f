-- The first dataset behind the last one.
use Rattle.std.proofs.Common.{sym, ap, ◌∙◌}
use Rattle.std.specs.Prelude.{option_map, slice_get}
use Rattle.std.proofs.lemmas.Option.{slice_get-map}
use Rattle.zs_ids.specs.GraphTree.{is_above}
use Rattle.zs_graph.specs.View.{dataset_of}
use Rattle.zs_graph.proofs.Seen.{find-filtered, map-map-option}
use Rattle.zs_graph.proofs.graph.Graph.id_after.Goals as goal

pub returns : goal.returns
returns g c =
    let see = dataset_of g.T.Blocks.entries in
    let sets = c.behind.result.now in
    c.first_id.ensures ∙ map-map-option see (λ d. d.id) (slice_get sets 0) ∙ ap (λ o. option_map (λ d. d.id) o) (sym (slice_get-map see sets 0) ∙ ap (λ l. slice_get l 0) c.behind.ensures) ∙ sym (find-filtered (λ d. d.id) (is_above c.args.after) c.args.self.now.sets)
