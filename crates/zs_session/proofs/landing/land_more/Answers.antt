use Rattle.std.proofs.Common.{◌∙◌, ℕ, subst}
use Rattle.std.specs.Prelude.{Option, IfSome}
use Rattle.zs_session.specs.Batches.{LandsFirst}
use Rattle.zs_session.proofs.Landed.{landed_more}
use Rattle.zs_session.proofs.Sets.{longer_of}
use Rattle.zs_session.proofs.Histories.{passes_same}
use Rattle.zs_session.proofs.landing.land_more.Goals as goal

pub returns-clause-landed : goal.returns-clause-landed
returns-clause-landed g c =
    let lands : LandsFirst c.args.by c.args.pool.now c.in-Some.many c.land_next.new.pool =
    subst (λ (next : Option ℕ). IfSome next (λ many. LandsFirst c.args.by c.args.pool.now many c.land_next.new.pool)) c.in-Some.is c.in_ok-many.ensures.next.verdict in
    landed_more c.args.by c.args.made c.in-Some.many c.args.landed.now.items c.show_last.new.landed.items c.args.pool.now c.land_next.new.pool lands c.facts.ensures.safe.orderly c.facts.ensures.flight c.requires.landed
    (c.in_ok-show_last.ensures _ _ (c.history.ensures ∙ lands.verdict.event))

pub returns-in_err-many-clause-passes : goal.returns-in_err-many-clause-passes
returns-in_err-many-clause-passes g c = passes_same _ _ _ _ _ c.in_err-many.ensures.err (longer_of _ _ _ _ c.land_next.ensures.calls.set)
