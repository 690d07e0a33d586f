-- The bytes that were got are handed on.
use Rattle.zs_core.proofs.pool.Pool.read_end.Given as goal

abbrev pub ghost-read_end : goal.ghost-read_end
ghost-read_end g a = g.bytes
