use Rattle.zs_session.proofs.Checks.{checks_item}
use Rattle.zs_session.proofs.batches.check_item.Goals as goal

pub returns-clause-checked : goal.returns-clause-checked
returns-clause-checked g c = checks_item _ _ _ _ _ _ _ _ c.in_ok-check.ensures.entry c.in_ok-check.ensures.checked c.check.ensures.leaves c.requires.lies
