use Rattle.std.proofs.Common.{sym, arith}
use Rattle.zs_label.proofs.Puts.{gate_is, opened_now}
use Rattle.zs_label.proofs.put.open_slot.Goals as goal

pub returns-clause-opened : goal.returns-clause-opened
returns-clause-opened g c label rec here filled =
    opened_now label rec _ (g.C.Children.device c.args.set.now c.args.dev) (g.C.Children.device c.write_synced.new.set c.args.dev) here
    (rw (sym c.gate_at-at.ensures) c.write_synced.ensures.leaves)
    (rw (sym c.gate_at-at.ensures)
    (gate_is c.gate_at-at.result 1 _ (g.C.Children.device c.args.set.now c.args.dev) (g.C.Children.device c.write_synced.new.set c.args.dev)
    c.in_ok-place.ensures.made c.in_ok-place.ensures.durable
    (λ x is. omega (arith, c.requires.size, c.gate_at-at.ensures, (g.met.C.Children.told_is c.args.set.now c.args.dev x is).0))))
    filled
