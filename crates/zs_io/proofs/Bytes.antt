-- Parts of lists of bytes.
use Rattle.std.proofs.Common.{◌≡◌, ℕ, ◌+◌, List, ◌++◌, length, take, drop, sym, ◌∙◌, ap}
use Rattle.std.proofs.lemmas.List.{take_at, drop-drop, take-append-drop}

-- the next n bytes were copied to the front of a buffer
pub next_and_rest : (bytes front back : List ℕ) (taken n : ℕ) → front ≡ take n (drop taken bytes) → length front ≡ n
    → drop taken bytes ≡ take n (front ++ back) ++ drop (taken + n) bytes
next_and_rest bytes front back taken n copied long =
    sym (take-append-drop n (drop taken bytes))
    ∙ ap (λ (l : List ℕ). l ++ drop n (drop taken bytes)) (sym copied ∙ sym (take_at front back n long))
    ∙ ap (λ (l : List ℕ). take n (front ++ back) ++ l) (drop-drop n taken bytes)
