use Rattle.std.proofs.Common.{take}
use Rattle.zs_ledger.specs.Entry.{HaveCopies}
use Rattle.zs_session.specs.Plays.{AreChecks}
use Rattle.zs_session.specs.Devices.{SetGoesOn, journals}
use Rattle.zs_session.proofs.batches.check_items.Given as goal

abbrev pub invariant-loop-item : goal.invariant-loop-item
invariant-loop-item g l = record {
  checks : AreChecks l.width l.online (take l.item-index l.items) (journals (g.C.Children.device l.initial.rig.set)) l.entries.items (journals (g.C.Children.device l.rig.set));
  copies : HaveCopies l.width l.entries.items;
  calls : SetGoesOn (g.C.Children.count l.initial.rig.set) (g.C.Children.count l.rig.set) (g.C.Children.device l.initial.rig.set) (g.C.Children.device l.rig.set);
}
