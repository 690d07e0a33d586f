-- The blocks are those that are staged, lie in the space, and share no sector.
use Rattle.std.proofs.Common.{◌∙◌, ap}
use Rattle.zs_machine.specs.Shapes.{data_start}
use Rattle.zs_core.specs.Kept.{Facts, born_by}
use Rattle.zs_core.proofs.Closing.{datasets_open}
use Rattle.zs_core.proofs.Writing.{are_staged, are_in_room, are_apart}
use Rattle.zs_core.proofs.present.Present.begin.Goals as goal

pub returns-clause-blocks : goal.returns-clause-blocks
returns-clause-blocks c = rw (← c.self.view_is) (are_staged c.self.inside.graph.sets c.self.inside.open c.in_ok-blocks.blocks.items c.in_ok-blocks.ensures.made)

pub returns-clause-within : goal.returns-clause-within
returns-clause-within c =
    let f : Facts c.self.inside = c.self.invariant in
    let sets = datasets_open c.self.inside f (ap (λ v. v.state.suspended) c.self.view_is ∙ c.requires.up) (ap (λ v. v.state.stage) c.self.view_is ∙ c.requires.between) in
    rw (← c.self.view_is) (are_in_room c.self.inside.shape c.self.inside.graph.sets (born_by c.self.inside.applied) c.self.inside.next_sector c.self.inside.end_sector c.self.inside.open c.in_ok-blocks.blocks.items f.space sets c.in_ok-blocks.ensures.made)

pub returns-clause-apart : goal.returns-clause-apart
returns-clause-apart c =
    let f : Facts c.self.inside = c.self.invariant in
    let sets = datasets_open c.self.inside f (ap (λ v. v.state.suspended) c.self.view_is ∙ c.requires.up) (ap (λ v. v.state.stage) c.self.view_is ∙ c.requires.between) in
    are_apart c.self.inside.graph.sets (born_by c.self.inside.applied) (data_start c.self.inside.shape.blocks) c.self.inside.next_sector c.self.inside.open c.in_ok-blocks.blocks.items f.scan.covered.valid.graph.tree.in_order sets c.in_ok-blocks.ensures.made
