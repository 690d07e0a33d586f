-- The record is staged, or else mapped.
use Rattle.std.proofs.Common.{◌∙◌, ap}
use Rattle.zs_ids.specs.Blocks.{bp_at}
use Rattle.zs_ids.specs.GraphTree.{dataset_at, entries_of}
use Rattle.zs_machine.specs.Machine.{staged_record}
use Rattle.zs_core.proofs.Named.{has_staged, has_mapped}
use Rattle.zs_core.proofs.present.Present.has_object.Goals as goal

pub returns-then-is_some : goal.returns-then-is_some
returns-then-is_some c = λ d at.
    has_staged c.args.self.now.state c.args.ds d at c.args.object c.staging.result c.is_some.result
    (c.staging.ensures ∙ ap (λ k. staged_record c.args.self.now.state c.args.ds k) c.record_key-key.ensures) c.is_some.ensures c.if-is_some.true

pub returns-else-is_some : goal.returns-else-is_some
returns-else-is_some c = λ d at.
    has_mapped c.args.self.now.state c.args.ds d at c.args.object c.staging.result c.pointer_at.result c.is_some.result c.is_some-else-is_some.result
    (c.staging.ensures ∙ ap (λ k. staged_record c.args.self.now.state c.args.ds k) c.record_key-key.ensures) c.is_some.ensures c.if-is_some.false
    (c.pointer_at.ensures ∙ ap (λ k. bp_at (entries_of (dataset_at c.args.self.now.state.graph c.args.ds)) k) c.record_key-key.ensures) c.is_some-else-is_some.ensures
