-- The value of the digits so far and those that are left is that of all.
use Rattle.std.proofs.Common.{◌≡◌, drop}
use Rattle.zs_script.specs.Fields.{digits_from}
use Rattle.zs_script.proofs.fields.digits.Given as goal

abbrev pub invariant-loop-b : goal.invariant-loop-b
invariant-loop-b l = digits_from l.n (drop l.b-index l.word) ≡ digits_from 0 l.word
