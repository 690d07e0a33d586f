-- The command word of two words or more.
use Rattle.std.proofs.Common.{◌≡◌, ℕ, ◌≤◌, List, [], ◌∷◌, map, length, get_or, refl, arith, Bor}
use Rattle.zs_script.specs.Verbs.{verb_before, verb_of}

pub verb_more : (words : List (Bor (List ℕ))) (d : Bor (List ℕ)) → 2 ≤ length words → verb_before (get_or words 0 d).now ≡ verb_of (map (λ w. w.now) words)
unfolding verb_of
verb_more [] d far = absurd (omega (arith, far))
verb_more (a ∷ []) d far = absurd (omega (arith, far))
verb_more (a ∷ b ∷ rest) d far = refl
