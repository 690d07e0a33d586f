use Rattle.std.proofs.Common.{Err, List, ap, arith, subst, sym, ◌∙◌, rules}
use Rattle.zs_lane.specs.Lane.{LaneView}
use Rattle.zs_session.specs.Images.{HasFailed, of_each}
use Rattle.zs_session.proofs.Keeping.{counts_new, counts_on, failed_of}
use Rattle.zs_session.proofs.Running.{borne_out, counts_tested, counts_unread, keeps_tested, keeps_twice, plays_on, refuses_made, refuses_unread, runs_script, uses_none}
use Rattle.zs_session.proofs.Refusals.{refuses_nothing}
use Rattle.zs_session.proofs.session.step_session.Goals as goal

pub run_session-requires-clause-counted : goal.run_session-requires-clause-counted
run_session-requires-clause-counted g c =
    counts_on g.D.Device c.args.lanes.items _ c.make_pool.ensures.calls.kept.set (counts_new g.D.Device.faults c.args.lanes.items c.requires.new)

pub returns-in-Ok-clause-lines : goal.returns-in-Ok-clause-lines
returns-in-Ok-clause-lines g c = runs_script _ c.in-Some.first.now c.in-Some.others.now c.args.lines.now c.run_session.result c.run_session.ensures.pool.made c.in-Some.ensures.cases.0
    c.in-Ok.ensures.pool.commands c.run_session.ensures.lines

pub returns-in-Ok-clause-images : goal.returns-in-Ok-clause-images
returns-in-Ok-clause-images g c =
    let kept = keeps_twice g.D.Device c.args.lanes.items _ c.run_session.result c.make_pool.ensures.calls.kept c.run_session.ensures.pool.made c.run_session.ensures.lanes in
    record {
      fit = λ some. search rules;
      kept = kept;
      matches = borne_out _ c.in-Some.others.now c.run_session.result c.in-Ok.ensures.pool.made c.in-Ok.ensures.pool.width c.run_session.ensures.lines;
      plays = plays_on g.D.Device c.args.lanes.items _ c.in-Some.others.now c.run_session.result c.in-Ok.ensures.pool.made c.requires.new c.in-Ok.ensures.calls.heads kept.sizes c.run_session.ensures.lines;
    }

pub returns-in-Ok-clause-refused : goal.returns-in-Ok-clause-refused
returns-in-Ok-clause-refused g c = refuses_made g.D.Device c.args.lines.now _ _ c.run_session.result c.run_session.ensures.pool

pub returns-in-Err-Unfit-clause-images : goal.returns-in-Err-Unfit-clause-images
returns-in-Err-Unfit-clause-images g c =
    uses_none g.D.Device c.args.lines.now (g.K.Sink.told c.args.out.now) (g.K.Sink.told c.refuse.new.out) c.refuse.result c.args.lanes.items c.refuse.ensures.session
    (keeps_tested g.D.Device c.args.lanes.items _ c.refuse.result c.refuse.ensures.session c.refuse.ensures.lanes c.make_pool.ensures.calls.kept)

pub returns-in-Err-Unfit-clause-devices : goal.returns-in-Err-Unfit-clause-devices
returns-in-Err-Unfit-clause-devices g c =
    counts_tested g.D.Device c.args.lanes.items _ c.refuse.result c.refuse.ensures.session c.refuse.ensures.lanes c.make_pool.ensures.calls.kept c.requires.new
    (λ four. grind (arith, c.refuse.ensures.status)) (c.make_pool.ensures.calls.counts (λ h. let no_way = sym (c.in-Err-Unfit.is ∙ ap Err c.in-Err-Unfit.field-0-is) ∙ h in cc))

pub returns-in-Err-Unread-clause-images : goal.returns-in-Err-Unread-clause-images
returns-in-Err-Unread-clause-images g c =
    uses_none g.D.Device c.args.lines.now (g.K.Sink.told c.args.out.now) (g.K.Sink.told c.refuse-in-Err-Unread.new.out) c.refuse-in-Err-Unread.result c.args.lanes.items c.refuse-in-Err-Unread.ensures.session
    (keeps_tested g.D.Device c.args.lanes.items _ c.refuse-in-Err-Unread.result c.refuse-in-Err-Unread.ensures.session c.refuse-in-Err-Unread.ensures.lanes c.make_pool.ensures.calls.kept)

pub returns-in-Err-Unread-clause-refused : goal.returns-in-Err-Unread-clause-refused
returns-in-Err-Unread-clause-refused g c =
    let rose = c.make_pool.ensures.calls.unread (c.in-Err-Unread.is ∙ ap Err c.in-Err-Unread.field-0-is) in
    refuses_unread g.D.Device c.args.lines.now (g.K.Sink.told c.args.out.now) (g.K.Sink.told c.refuse-in-Err-Unread.new.out) c.refuse-in-Err-Unread.result c.refuse-in-Err-Unread.ensures.status
    (subst (λ (ls : List (LaneView _)). HasFailed (of_each g.D.Device.faults ls)) (sym c.refuse-in-Err-Unread.ensures.lanes) (failed_of g.D.Device c.args.lanes.items _ rose))
    c.refuse-in-Err-Unread.ensures.text

pub returns-in-Err-Unread-clause-devices : goal.returns-in-Err-Unread-clause-devices
returns-in-Err-Unread-clause-devices g c =
    counts_unread g.D.Device c.args.lanes.items _ c.refuse-in-Err-Unread.result c.refuse-in-Err-Unread.ensures.session c.refuse-in-Err-Unread.ensures.lanes c.make_pool.ensures.calls.kept c.requires.new
    c.refuse-in-Err-Unread.ensures.status (c.make_pool.ensures.calls.unread (c.in-Err-Unread.is ∙ ap Err c.in-Err-Unread.field-0-is))

pub returns-in-Err-Memory-clause-images : goal.returns-in-Err-Memory-clause-images
returns-in-Err-Memory-clause-images g c =
    uses_none g.D.Device c.args.lines.now (g.K.Sink.told c.args.out.now) (g.K.Sink.told c.args.out.now) c.without.result c.args.lanes.items c.without.ensures.session
    (keeps_tested g.D.Device c.args.lanes.items _ c.without.result c.without.ensures.session c.without.ensures.lanes c.make_pool.ensures.calls.kept)

pub returns-in-Err-Memory-clause-refused : goal.returns-in-Err-Memory-clause-refused
returns-in-Err-Memory-clause-refused g c = refuses_nothing _ _ _ _ _ _ c.without.ensures.status

pub returns-in-Err-Memory-clause-devices : goal.returns-in-Err-Memory-clause-devices
returns-in-Err-Memory-clause-devices g c =
    counts_tested g.D.Device c.args.lanes.items _ c.without.result c.without.ensures.session c.without.ensures.lanes c.make_pool.ensures.calls.kept c.requires.new
    (λ four. omega (arith, four, c.without.ensures.status)) (c.make_pool.ensures.calls.counts (λ h. let no_way = sym (c.in-Err-Memory.is ∙ ap Err c.in-Err-Memory.field-0-is) ∙ h in cc))
