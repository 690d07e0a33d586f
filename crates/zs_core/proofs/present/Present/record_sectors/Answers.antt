-- The size is that of the record that is staged, or else mapped.
use Rattle.std.proofs.Common.{◌∙◌, ap, refl, Some, None}
use Rattle.zs_ids.specs.Blocks.{bp_at}
use Rattle.zs_ids.specs.GraphTree.{dataset_at, entries_of}
use Rattle.zs_machine.specs.Machine.{staged_record}
use Rattle.zs_core.proofs.Named.{sectors_by}
use Rattle.zs_core.proofs.present.Present.record_sectors.Goals as goal

pub returns-in-Some : goal.returns-in-Some
returns-in-Some c = λ d at.
    sectors_by c.args.self.now.state c.args.ds d at c.args.object (Some c.in-Some.staging) _ (c.in-Some.ensures ∙ ap (λ k. staged_record c.args.self.now.state c.args.ds k) c.record_key-key.ensures) refl

pub returns-in-Some-pointer_at : goal.returns-in-Some-pointer_at
returns-in-Some-pointer_at c = λ d at.
    sectors_by c.args.self.now.state c.args.ds d at c.args.object None (Some c.in-Some-pointer_at.bp) (c.in_default.ensures ∙ ap (λ k. staged_record c.args.self.now.state c.args.ds k) c.record_key-key.ensures)
    (c.in-Some-pointer_at.ensures ∙ ap (λ k. bp_at (entries_of (dataset_at c.args.self.now.state.graph c.args.ds)) k) c.record_key-key.ensures)

pub returns-in-None : goal.returns-in-None
returns-in-None c = λ d at.
    sectors_by c.args.self.now.state c.args.ds d at c.args.object None None (c.in_default.ensures ∙ ap (λ k. staged_record c.args.self.now.state c.args.ds k) c.record_key-key.ensures)
    (c.in-None.ensures ∙ ap (λ k. bp_at (entries_of (dataset_at c.args.self.now.state.graph c.args.ds)) k) c.record_key-key.ensures)
