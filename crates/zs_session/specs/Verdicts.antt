-- The numbers of the batches that had their verdicts in a line.
use Rattle.std.specs.Prelude.{ℕ, ◌+◌, List, [], ◌∷◌}
use Rattle.zs_machine.specs.declared.event.Step.{Step}
use Rattle.zs_machine.specs.declared.event.Step.TheVariants as step

-- the least number that a batch may have which has its verdict behind these steps: one more than the last of theirs, or `least`
abbrev pub next_number : ℕ → List Step → ℕ
next_number least [] = least
next_number least (step.Verdict number pieces entries ∷ ss) = next_number (number + 1) ss
next_number least (s ∷ ss) = next_number least ss
