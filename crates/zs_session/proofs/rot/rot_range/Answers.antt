use Rattle.std.proofs.Common.{rules, ◌≡◌, ℕ, List, length, subst}
use Rattle.zs_sum.specs.Sum.{sha256}
use Rattle.zs_io.specs.Told.{BothTold}
use Rattle.zs_lane.specs.declared.mark.Mark.TheVariants as marks
use Rattle.zs_lane.specs.declared.fault.LaneFault.{LaneFault}
use Rattle.zs_lane.specs.declared.fault.LaneFault.TheVariants.{Failed}
use Rattle.zs_lane.specs.Lane.{Refused}
use Rattle.zs_lane.specs.Children.{Marked}
use Rattle.zs_session.proofs.Sets.{set_twice}
use Rattle.zs_session.proofs.Rotten.{set_on, stops_third, rots_on}
use Rattle.zs_session.proofs.rot.rot_range.Goals as goal

pub returns-in_err-read-clause-set : goal.returns-in_err-read-clause-set
returns-in_err-read-clause-set g c = set_on _ _ _ _ _ _ c.read.ensures.only c.read.ensures.call

pub returns-in_err-write-clause-set : goal.returns-in_err-write-clause-set
returns-in_err-write-clause-set g c =
    set_twice _ _ _ _ _ _ (set_on _ _ _ _ _ _ c.read.ensures.only c.read.ensures.call) (set_on _ _ _ _ _ _ c.write.ensures.only c.write.ensures.call)

pub returns-in_err-sync-clause-stops : goal.returns-in_err-sync-clause-stops
returns-in_err-sync-clause-stops g c place failed =
    let which : c.in_err-sync.field-0.0 ≡ Failed place = search rules in
    stops_third _ place _ _ _ _ _ _ _ _ _ _ c.in_ok-read.ensures.mark c.read.ensures.only c.in_ok-write.ensures.mark c.write.ensures.only
    (subst (λ (e : LaneFault). BothTold (Refused e) (g.C.Children.device c.write.new.self c.args.dev).journal (g.C.Children.device c.sync.new.self c.args.dev).journal) which c.in_err-sync.ensures.call.err) c.sync.ensures.only

pub returns-in_err-sync-clause-set : goal.returns-in_err-sync-clause-set
returns-in_err-sync-clause-set g c =
    set_twice _ _ _ _ _ _ (set_on _ _ _ _ _ _ c.read.ensures.only c.read.ensures.call)
    (set_twice _ _ _ _ _ _ (set_on _ _ _ _ _ _ c.write.ensures.only c.write.ensures.call) (set_on _ _ _ _ _ _ c.sync.ensures.only c.sync.ensures.call))

pub returns-clause-rots : goal.returns-clause-rots
returns-clause-rots g c =
    rots_on _ _ _ _ _ _ _ c.read.new.buf _ _ _ _ (search rules) c.in_ok-read.ensures.mark c.read.ensures.only
    (subst (λ (b : List ℕ). Marked (marks.Wrote c.args.at (length b) (sha256 b)) (g.C.Children.device c.read.new.self c.args.dev) (g.C.Children.device c.write.new.self c.args.dev)) c.complement.ensures c.in_ok-write.ensures.mark)
    c.write.ensures.only c.in_ok-sync.ensures.mark c.sync.ensures.only

pub returns-clause-set : goal.returns-clause-set
returns-clause-set g c =
    set_twice _ _ _ _ _ _ (set_on _ _ _ _ _ _ c.read.ensures.only c.read.ensures.call)
    (set_twice _ _ _ _ _ _ (set_on _ _ _ _ _ _ c.write.ensures.only c.write.ensures.call) (set_on _ _ _ _ _ _ c.sync.ensures.only c.sync.ensures.call))
