use Rattle.std.proofs.Common.{subst, sym}
use Rattle.std.specs.List.{AllPass}
use Rattle.zs_label.specs.Label.{is_valid}
use Rattle.zs_label.proofs.Reading.{best_none, is_memory, found_valid}
use Rattle.zs_label.proofs.images.best_label.Goals as goal

pub returns-in_err-slots : goal.returns-in_err-slots
returns-in_err-slots g c = best_none (g.C.Children.count c.args.set.now) c.args.devices (g.C.Children.device c.args.set.now) c.from_residual.result
    (is_memory c.from_residual.result c.from_residual.ensures.1)

pub choose-requires-clause-valid : goal.choose-requires-clause-valid
choose-requires-clause-valid g c = subst (λ l. AllPass (λ f. is_valid f.label) l) (sym c.deref.ensures.value)
    (found_valid _ _ _ _ _ c.read_all.new.found.items _ c.in_ok-read_all.ensures.done)
