-- All datasets, or those behind the place where the search ends.
use Rattle.std.proofs.Common.{rules}
use Rattle.std.specs.Prelude.{map, nat_le}
use Rattle.std.proofs.lemmas.Fn.{always_returns_same}
use Rattle.zs_graph.specs.View.{dataset_of}
use Rattle.zs_graph.proofs.Searches.{all_above, behind_part, by_id}
use Rattle.zs_graph.proofs.graph.Graph.behind.Goals as goal

pub returns-in-None : goal.returns-in-None
returns-in-None g c =
    rw (c.in-None.is, ← c.self.view_is, ← c.deref.ensures.value) (all_above (map (dataset_of g.T.Blocks.entries) c.deref.result.now))

pub returns-in-Some : goal.returns-in-Some
returns-in-Some g c =
    let sets = c.self.inside.sets.items in
    let order = c.self.invariant.valid.tree.in_order in
    let point = c.partition_point-start.ensures in
    rw (c.in-Some.is, ← c.self.view_is, c.deref-in-Some-2.ensures.value) (behind_part g.T.Blocks.entries sets order c.in-Some.after c.partition_point-start.result (rw (← c.deref-in-Some.ensures.value) point.bound) (rw (← c.deref-in-Some.ensures.value) (point.partitioned (λ s. nat_le s.id.0 c.in-Some.after.0) (always_returns_same _ _ _ (λ a r h called. (search rules, search rules))) (rw c.deref-in-Some.ensures.value (by_id g.T.Blocks.entries sets order c.in-Some.after)))))
