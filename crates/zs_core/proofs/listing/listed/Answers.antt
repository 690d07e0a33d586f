use Rattle.std.proofs.Common.{rules}
use Rattle.zs_core.proofs.Told.{told_by_id}
use Rattle.zs_core.proofs.listing.listed.Goals as goal

pub returns : goal.returns
returns c = let told = told_by_id c.args.graph.now.sets c.facts.ensures.valid.tree.in_order in search (rules, told)
