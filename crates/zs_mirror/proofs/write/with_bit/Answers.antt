use Rattle.std.proofs.Common.{◌==◌, ◌∙◌, ap, sym, arith, w32}
use Rattle.std.proofs.lemmas.Nat.Bits.{bit_at_set_same, bit_at_set_other}
use Rattle.zs_mirror.proofs.write.with_bit.Goals as goal

pub returns-then-set-clause-same : goal.returns-then-set-clause-same
returns-then-set-clause-same c = ap (λ n. n == 1) (bit_at_set_same w32 c.args.mask c.args.dev (omega (arith, c.requires.few))) ∙ sym c.if-set.true

pub returns-then-set-clause-other : goal.returns-then-set-clause-other
returns-then-set-clause-other c e other = ap (λ n. n == 1) (bit_at_set_other w32 c.args.mask c.args.dev (omega (arith, c.requires.few)) e other)
