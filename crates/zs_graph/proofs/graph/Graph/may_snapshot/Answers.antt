-- Where no other reason holds, the last one is that there is no room.
use Rattle.std.proofs.Common.{◌≡◌, ◌<◌, ◌==◌, length, Some, None, false, ap, sym, subst, ◌∙◌}
use Rattle.std.specs.Prelude.{slice_get, if◌then◌else◌}
use Rattle.std.proofs.lemmas.Bool.{ne_eqb}
use Rattle.zs_graph.specs.declared.fault.GraphFault.TheVariants.{TooMany}
use Rattle.zs_graph.specs.View.{dataset_of}
use Rattle.zs_graph.proofs.Allowed.{snapshot_is}
use Rattle.zs_graph.proofs.Seen.{read_at}
use Rattle.zs_graph.proofs.graph.Graph.may_snapshot.Goals as goal

pub returns-clause-ok : goal.returns-clause-ok
returns-clause-ok g c =
    let of = dataset_of g.T.Blocks.entries c.index-of.result.now in
    let there = subst (λ v. slice_get v.sets c.in-Some.at ≡ Some of) c.self.view_is (read_at (dataset_of g.T.Blocks.entries) c.self.inside.sets.items c.in-Some.at c.index-of.result.now c.index-of.ensures (subst (λ v. c.in-Some.at < length v.sets) (sym c.self.view_is) c.in-Some.ensures.0)) in
    snapshot_is c.args.self.now c.args.head c.args.label.now c.args.t of (sym c.in-Some.ensures.1 ∙ there) (sym c.has_snapshot_named.ensures ∙ c.if-has_snapshot_named.false) c.if-not-of.false (subst (λ n. (n == c.args.t) ≡ false) c.start.ensures (ne_eqb c.start.result c.args.t c.if-start-t.false)) ∙ ap (λ b. if b then Some TooMany else None) (sym c.if-is_full.ensures)
