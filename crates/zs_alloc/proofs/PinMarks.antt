-- A range with one pin more is not over.
use Rattle.std.proofs.Common.{◌≡◌, ◌+◌, ◌∙◌, ℕ, Bool, false, ap, arith}
use Rattle.std.specs.Prelude.{◌==◌, ◌&&◌}
use Rattle.std.proofs.Math.Bool.{and-false}
use Rattle.std.proofs.lemmas.Bool.Decides.{nat_tests}
use Rattle.zs_alloc.specs.declared.taken.Taken.{Taken}
use Rattle.zs_alloc.specs.Space.{pinned, is_over, is_settled}

more_than_none : (n : ℕ) → (n + 1 == 0) ≡ false
more_than_none n = grind (arith, nat_tests)

pub pinned_stays : (e : Taken) → is_over (pinned e) ≡ false
pinned_stays e = ap (λ (b : Bool). is_settled e.freed && b) (more_than_none e.pins) ∙ and-false (is_settled e.freed)

pub pinned_with : (e : Taken) (n : ℕ) → n ≡ e.pins + 1 → record e { pins = n } ≡ pinned e
pinned_with e n is = ap (λ k. with_pins k) is
  where
    with_pins : ℕ → Taken
    with_pins k = record e { pins = k }
