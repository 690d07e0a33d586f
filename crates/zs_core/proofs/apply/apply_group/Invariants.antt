use Rattle.zs_core.proofs.apply.apply_group.Given as goal

abbrev pub ghost-put_all : goal.ghost-put_all
ghost-put_all g a = g.space
