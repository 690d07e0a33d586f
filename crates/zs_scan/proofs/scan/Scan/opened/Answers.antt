use Rattle.std.proofs.Common.{rules}
use Rattle.zs_scan.proofs.Opens.{opened_own}
use Rattle.zs_scan.proofs.scan.Scan.opened.Goals as goal

pub returns-clause-keeps : goal.returns-clause-keeps
returns-clause-keeps c = opened_own _ c.args.scope c.args.kept c.args.ledger.entries c.args.queue.limit c.args.saved c.args.every c.args.ledger.room (search rules)
