use Rattle.std.proofs.Common.{sym, arith}
use Rattle.zs_label.proofs.Puts.{gate_is}
use Rattle.zs_label.proofs.put.close_slot.Goals as goal

pub returns-clause-closed : goal.returns-clause-closed
returns-clause-closed g c = rw (sym c.gate_at-at.ensures)
    (gate_is c.gate_at-at.result 0 _ (g.C.Children.device c.args.set.now c.args.dev) (g.C.Children.device c.write_synced.new.set c.args.dev)
    c.in_ok-place.ensures.made c.in_ok-place.ensures.durable
    (λ x is. omega (arith, c.requires.size, c.gate_at-at.ensures, (g.met.C.Children.told_is c.args.set.now c.args.dev x is).0)))
