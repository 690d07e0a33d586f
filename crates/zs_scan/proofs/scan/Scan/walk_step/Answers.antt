use Rattle.std.proofs.Common.{sym, ◌∙◌, refl}
use Rattle.std.proofs.lemmas.Bool.{true≢false}
use Rattle.zs_scan.specs.Walks.{item_put}
use Rattle.zs_scan.proofs.Full.{draining_is, full_is, not_drained}
use Rattle.zs_scan.proofs.scan.Scan.walk_step.Goals as goal

pub returns-clause-draining : goal.returns-clause-draining
returns-clause-draining g c = (
  λ e. absurd (not_drained c.make_turn.result c.make_turn.ensures.why e),
  λ drains.
      let is = draining_is _ c.args.synced _ c.args.self.now c.visit-step.result c.self.view_is c.requires c.visit-step.ensures.turn drains in
      absurd (true≢false (sym (c.drains.ensures.1 (is.1, is.0)) ∙ c.if-drains.false)),
)

pub returns-clause-refuses : goal.returns-clause-refuses
returns-clause-refuses g c full =
    let is = full_is _ c.args.synced _ c.args.self.now c.visit-step.result (item_put c.args.self.now c.visit-step.result) c.self.view_is c.requires c.visit-step.ensures.turn refl full in
    c.make_turn.ensures.refuses is.0 is.1
