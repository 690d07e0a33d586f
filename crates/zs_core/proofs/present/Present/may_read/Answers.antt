use Rattle.std.proofs.Common.{rules}
use Rattle.zs_core.proofs.TaskRan.{found_at}
use Rattle.zs_core.proofs.present.Present.may_read.Goals as goal

pub returns-then-not-has_object : goal.returns-then-not-has_object
returns-then-not-has_object c = let at = found_at c.self.inside.graph c.facts.ensures c.args.name.now c.in-Some.id c.in-Some.ensures in search (rules, at.1, at.2, at.3)

pub returns-then-leaf-ne0 : goal.returns-then-leaf-ne0
returns-then-leaf-ne0 c = let at = found_at c.self.inside.graph c.facts.ensures c.args.name.now c.in-Some.id c.in-Some.ensures in search (rules, at.1, at.2, at.3)

pub returns : goal.returns
returns c = let at = found_at c.self.inside.graph c.facts.ensures c.args.name.now c.in-Some.id c.in-Some.ensures in search (rules, at.1, at.2, at.3)
