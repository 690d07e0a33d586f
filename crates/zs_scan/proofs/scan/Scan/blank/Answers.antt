use Rattle.std.proofs.Common.{rules}
use Rattle.zs_scan.proofs.Blanks.{blank_if}
use Rattle.zs_scan.proofs.scan.Scan.blank.Goals as goal

pub returns-clause-fresh : goal.returns-clause-fresh
returns-clause-fresh c = blank_if c.opened.result c.args.devices c.args.width c.args.limit c.args.every (search rules)
