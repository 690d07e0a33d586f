-- The search is by the number of the id.
use Rattle.std.proofs.Common.{rules}
use Rattle.std.proofs.lemmas.List.Sorted.{answers_always}
use Rattle.zs_graph.proofs.Searches.{index_found, index_absent, comparisons_rise}
use Rattle.zs_graph.proofs.graph.Graph.index_of.Goals as goal

pub returns-in-Ok : goal.returns-in-Ok
returns-in-Ok g c =
    rw (← c.self.view_is, ← c.deref.ensures.value) (index_found g.T.Blocks.entries c.deref.result.now (rw c.deref.ensures.value c.self.invariant.valid.tree.in_order) c.args.id c.in-Ok.at c.in-Ok.ensures.bound (c.in-Ok.ensures.position (λ s. s.id.0) (answers_always _ _ _ (λ f a r h called. search rules))))

pub returns-in-Err : goal.returns-in-Err
returns-in-Err g c =
    rw (← c.self.view_is, ← c.deref.ensures.value) (index_absent g.T.Blocks.entries c.deref.result.now (rw c.deref.ensures.value c.self.invariant.valid.tree.in_order) c.args.id c.in-Err.field-0 (c.in-Err.ensures.position (λ s. s.id.0) (answers_always _ _ _ (λ f a r h called. search rules)) (comparisons_rise g.T.Blocks.entries c.deref.result.now (rw c.deref.ensures.value c.self.invariant.valid.tree.in_order) c.args.id)))
