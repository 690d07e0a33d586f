-- The space that was handed out.
use Rattle.zs_core.proofs.present.Present.apply.Given as goal

abbrev pub ghost-apply_group : goal.ghost-apply_group
ghost-apply_group g a = g.space
