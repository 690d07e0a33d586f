-- What is planned lies in the pool's space.
use Rattle.std.proofs.Common.{◌≡◌, ◌∙◌, Option, sym, ap, subst}
use Rattle.zs_ids.specs.Blocks.{bp_at}
use Rattle.zs_ids.specs.declared.dataset.DsId.{DsId}
use Rattle.zs_ids.specs.Graph.{Dataset}
use Rattle.zs_ids.specs.GraphTree.{dataset_at, entries_of}
use Rattle.zs_ids.specs.Key.{record_key}
use Rattle.zs_machine.specs.Machine.{staged_record}
use Rattle.zs_machine.specs.Steps.{plan_in}
use Rattle.zs_core.specs.Kept.{view_of}
use Rattle.zs_core.specs.Reading.{IsPlacedAt}
use Rattle.zs_core.proofs.Closing.{by_id}
use Rattle.zs_core.proofs.Planned.{read_in_room}
use Rattle.zs_core.proofs.present.Present.read_begin.Goals as goal

pub returns-clause-within : goal.returns-clause-within
returns-clause-within c =
    let d : Dataset = c.in-Ok.ensures.1 in
    let at = ap (λ v. dataset_at v.state.graph c.in-Ok.id) c.self.view_is ∙ c.in-Ok.ensures.3 in
    let named : d.id ≡ c.in-Ok.id = by_id c.self.inside.graph.sets c.in-Ok.id d at in
    let is = c.plan-plan.ensures.plan d c.in-Ok.ensures.3 ∙ ap (λ v. plan_in v.state d c.args.object c.args.leaf) (sym c.self.view_is) in
    rw (← c.self.view_is) (read_in_room c.self.inside c.self.invariant d c.in-Ok.id c.args.object c.args.leaf c.plan-plan.result at is (λ none.
    subst (λ (o : Option Dataset). IsPlacedAt (bp_at (entries_of o) (record_key c.args.object c.args.leaf))) c.in-Ok.ensures.3
    (c.plan-plan.ensures.placed (ap (λ v. staged_record v.state c.in-Ok.id (record_key c.args.object c.args.leaf)) (sym c.self.view_is)
    ∙ ap (λ (i : DsId). staged_record (view_of c.self.inside).state i (record_key c.args.object c.args.leaf)) (sym named) ∙ none))))
