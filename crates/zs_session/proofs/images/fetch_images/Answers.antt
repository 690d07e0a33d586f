use Rattle.std.proofs.Common.{◌+◌, ◌∷◌, ◌∙◌, ap, sym, option_map, arith}
use Rattle.std.proofs.lemmas.Grind.{common_steps}
use Rattle.zs_session.proofs.Fetching.{asks_failed, asks_first, asks_next, left_next, new_next}
use Rattle.zs_session.proofs.images.fetch_images.Goals as goal

pub returns-in-Err-clause-asked_cut : goal.returns-in-Err-clause-asked_cut
returns-in-Err-clause-asked_cut g c =
    asks_failed c.args.names.now c.loop-name.name-index c.name-item.result c.in-Err.fault (g.B.Bay.asked c.args.bay.now) (g.B.Bay.asked c.loop-name.bay) (g.B.Bay.asked c.fetch.new.self)
    c.name-item.is c.loop-name-test.true c.loop-name.invariant.asked (rw (c.as_str.ensures.value, c.in-Err.is) at c.fetch.ensures.asked)

pub returns-in-Err-push-clause-asked_cut : goal.returns-in-Err-push-clause-asked_cut
returns-in-Err-push-clause-asked_cut g c =
    asks_first c.args.names.now (c.loop-name.name-index + 1) (g.B.Bay.asked c.args.bay.now) (g.B.Bay.asked c.fetch.new.self)
    (asks_next c.args.names.now c.loop-name.name-index c.name-item.result (g.B.Bay.asked c.args.bay.now) (g.B.Bay.asked c.loop-name.bay) (g.B.Bay.asked c.fetch.new.self)
    c.loop-name-test.true c.loop-name.invariant.asked (rw (c.as_str.ensures.value, c.name-item.is) at c.in-Ok.ensures.asked.ok))

pub loop-name-preserved : goal.loop-name-preserved
loop-name-preserved g c = record {
  left = left_next (g.B.Bay.left c.args.bay.now) (g.B.Bay.left c.loop-name.bay) (g.B.Bay.left c.fetch.new.self) c.loop-name.lanes.items c.push.new.self.items c.new.result
      c.in-Ok-push.ensures.items c.loop-name.invariant.left
      (c.in-Ok.ensures.first ∙ ap (λ (d : _). option_map (λ rest. d ∷ rest) (g.B.Bay.left c.fetch.new.self)) (sym c.new.ensures.device));
  asked = asks_next c.args.names.now c.loop-name.name-index c.name-item.result (g.B.Bay.asked c.args.bay.now) (g.B.Bay.asked c.loop-name.bay) (g.B.Bay.asked c.fetch.new.self)
      c.loop-name-test.true c.loop-name.invariant.asked (rw (c.as_str.ensures.value, c.name-item.is) at c.in-Ok.ensures.asked.ok);
  count = grind (arith, common_steps);
  new = new_next g.B.Dev.Device.faults c.loop-name.lanes.items c.push.new.self.items c.new.result c.in-Ok-push.ensures.items c.loop-name.invariant.new c.new.ensures.journal
      (ap g.B.Dev.Device.faults c.new.ensures.device ∙ c.in-Ok.ensures.fresh);
  faults = c.in-Ok.ensures.cause.ok ∙ c.loop-name.invariant.faults;
}
