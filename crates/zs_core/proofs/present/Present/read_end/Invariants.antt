-- The bytes that were got are handed on.
use Rattle.zs_core.proofs.present.Present.read_end.Given as goal

abbrev pub ghost-answer_of : goal.ghost-answer_of
ghost-answer_of g a = g.bytes
