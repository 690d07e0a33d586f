use Rattle.zs_scan.proofs.Orderly.{started_is}
use Rattle.zs_scan.proofs.scan.Scan.begin_scrub.Goals as goal

pub returns : goal.returns
returns c =
    started_is _ _ c.args.t c.args.away _ _ _ _ _ _ _ _ c.self.view_is c.become_scrub.ensures c.begin_walk.ensures c.copy_from.ensures c.clear.ensures.entries c.clear-2.ensures.items c.clear-2.ensures.limit c.clear-3.ensures
