-- Nothing is left to take back.
use Rattle.std.proofs.Common.{length, sym, ap, ◌∙◌}
use Rattle.std.proofs.lemmas.Iterator.{empty_from_Zip}
use Rattle.std.proofs.lemmas.List.{length-map}
use Rattle.zs_flat.proofs.Restored.{taken_back}
use Rattle.zs_flat.proofs.Flat.take_back.Goals as goal

pub returns : goal.returns
returns c = λ before ordered differs was.
    let left = c.loop-key.invariant before ordered differs was in
    let none = empty_from_Zip c.loop-key.key-iterator c.next.new.self c.next.result c.in-None.is c.next.ensures.steps (sym (ap length left.1 ∙ length-map _ _)) in
    taken_back before c.loop-key.self.map c.loop-key.key-iterator.a.rest.now ordered c.loop-key.self.ordered none.0 left.0
