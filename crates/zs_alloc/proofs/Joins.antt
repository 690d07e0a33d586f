-- The runs of two parts together, and the lowest run of some length in them.
use Rattle.std.proofs.Common.{◌≡◌, ◌≤◌, ◌<◌, ◌+◌, ◌-◌, ◌∙◌, ℕ, Bool, true, false, List, ◌++◌, length, arith, refl, ap, sym, subst, inl, inr, length-append}
use Rattle.std.specs.Prelude.{◌==◌, max, if◌then◌else◌}
use Rattle.std.proofs.lemmas.Bool.{eqb-true, eq-eqb, false_from_ne_true, cases_Bool}
use Rattle.zs_alloc.specs.declared.tree.Runs.{Runs}
use Rattle.zs_alloc.specs.Runs.{is_set, HasRun, HasSomeRun, IsFirstRun, IsRunUpTo, IsRuns, joined}
use Rattle.zs_alloc.proofs.Runs.{order, at_left, at_right, run_within, run_part, run_left, left_run, run_right, right_run, seam_run, run_near, run_far, tail_most, lead_most}

module _ (xs ys : List Bool) (a b : Runs) (near : IsRuns xs a) (far : IsRuns ys b) where
  both : length (xs ++ ys) ≡ length xs + length ys
  both = length-append xs ys

  -- a run lies in the one part, in the other, or over the seam
  most : (s n : ℕ) → 0 < n → HasRun (xs ++ ys) s n → n ≤ max (max a.longest b.longest) (a.behind + b.before)
  most s n some run = elim (order (s + n) (length xs)) [
    | inl left ↦ let le : n ≤ a.longest = near.most s n some (run_left xs ys s n left run) in omega (arith, le)
    | inr over ↦ elim (order (length xs) s) [
      | inl right ↦ let le : n ≤ b.longest = far.most (s - length xs) n some (run_right xs ys s n right run) in omega (arith, le)
      | inr seam ↦
          let end : n - (s + n - length xs) ≤ a.behind = tail_most xs (length xs) a.behind s (n - (s + n - length xs)) near.behind (run_part xs s (length xs - s) s (n - (s + n - length xs)) (run_near xs ys s n (omega arith) (omega arith) run) (omega arith) (omega arith)) (omega arith) in
          let within : s + n ≤ length (xs ++ ys) = run_within (xs ++ ys) s n some run in
          let begin : s + n - length xs ≤ b.before = lead_most ys b.before (s + n - length xs) far.before_ends (omega (arith, within, both)) (run_far xs ys s n (omega arith) (omega arith) run) in
          omega (arith, end, begin, over, seam)
    ]
  ]

  -- the runs at the beginning
  before_at : (t : Bool) → (a.before == a.len) ≡ t → HasRun (xs ++ ys) 0 (if t then a.len + b.before else a.before)
  before_at true is =
      let whole : a.before ≡ a.len = eqb-true a.before a.len is in
      let len : a.len ≡ length xs = near.len in
      seam_run xs ys 0 (a.len + b.before) (omega arith) (omega (arith, len)) (run_part xs 0 a.before 0 (length xs - 0) near.before (omega arith) (omega (arith, whole, len))) (run_part ys 0 b.before 0 (0 + (a.len + b.before) - length xs) far.before (omega arith) (omega (arith, len)))
  before_at false is = left_run xs ys 0 a.before (let le : a.before ≤ length xs = near.before_bound in omega (arith, le)) near.before

  before_bound_at : (t : Bool) → (if t then a.len + b.before else a.before) ≤ length (xs ++ ys)
  before_bound_at true = let len : a.len ≡ length xs = near.len in let le : b.before ≤ length ys = far.before_bound in omega (arith, both, len, le)
  before_bound_at false = let le : a.before ≤ length xs = near.before_bound in omega (arith, both, le)

  before_ends_at : (t : Bool) → (a.before == a.len) ≡ t → (if t then a.len + b.before else a.before) < length (xs ++ ys) → is_set (xs ++ ys) (if t then a.len + b.before else a.before) ≡ false
  before_ends_at true is lt =
      let len : a.len ≡ length xs = near.len in
      let place : a.len + b.before - length xs ≡ b.before = omega (arith, len) in
      at_right xs ys (a.len + b.before) (omega (arith, len)) ∙ ap (λ (k : ℕ). is_set ys k) place ∙ far.before_ends (omega (arith, lt, both, len))
  before_ends_at false is lt =
      let len : a.len ≡ length xs = near.len in
      let le : a.before ≤ length xs = near.before_bound in
      let ne : a.before < length xs = less is le len in
      at_left xs ys a.before ne ∙ near.before_ends ne
    where
      less : (a.before == a.len) ≡ false → a.before ≤ length xs → a.len ≡ length xs → a.before < length xs
      less is le len = elim (order (length xs) a.before) [
        | inl ge ↦ let same : a.before ≡ a.len = omega (arith, ge, le, len) in absurd (Rattle.std.proofs.lemmas.Bool.true≢false (sym (eq-eqb a.before a.len same) ∙ is))
        | inr lt ↦ lt
      ]

  -- the run at the end
  behind_at : (t : Bool) → (b.behind == b.len) ≡ t → IsRunUpTo (xs ++ ys) (length (xs ++ ys)) (if t then b.len + a.behind else b.behind)
  behind_at true is =
      let whole : b.behind ≡ b.len = eqb-true b.behind b.len is in
      let len : b.len ≡ length ys = far.len in
      let le : a.behind ≤ length xs = near.behind.bound in
      record {
        bound = omega (arith, both, len, le);
        free = seam_run xs ys (length (xs ++ ys) - (b.len + a.behind)) (b.len + a.behind) (omega (arith, both, len, le)) (omega (arith, both, len, le))
            (run_part xs (length xs - a.behind) a.behind (length (xs ++ ys) - (b.len + a.behind)) (length xs - (length (xs ++ ys) - (b.len + a.behind))) near.behind.free (omega (arith, both, len, le)) (omega (arith, both, len, le)))
            (run_part ys (length ys - b.behind) b.behind 0 (length (xs ++ ys) - (b.len + a.behind) + (b.len + a.behind) - length xs) far.behind.free (omega (arith, whole, len)) (omega (arith, both, whole, len, le)));
        ends = λ lt.
            let place : length (xs ++ ys) - (b.len + a.behind) - 1 ≡ length xs - a.behind - 1 = omega (arith, both, len) in
            let short : a.behind < length xs = omega (arith, lt, both, len) in
            ap (λ (k : ℕ). is_set (xs ++ ys) k) place ∙ at_left xs ys (length xs - a.behind - 1) (omega (arith, short)) ∙ near.behind.ends short;
      }
  behind_at false is =
      let len : b.len ≡ length ys = far.len in
      let le : b.behind ≤ length ys = far.behind.bound in
      let lt : b.behind < length ys = less is le len in
      let place : length (xs ++ ys) - b.behind - length xs ≡ length ys - b.behind = omega (arith, both, le) in
      let last : length (xs ++ ys) - b.behind - 1 - length xs ≡ length ys - b.behind - 1 = omega (arith, both, lt) in
      record {
        bound = omega (arith, both, le);
        free = right_run xs ys (length (xs ++ ys) - b.behind) b.behind (omega (arith, both, le)) (subst (λ (k : ℕ). HasRun ys k b.behind) (sym place) far.behind.free);
        ends = λ _. at_right xs ys (length (xs ++ ys) - b.behind - 1) (omega (arith, both, lt)) ∙ ap (λ (k : ℕ). is_set ys k) last ∙ far.behind.ends lt;
      }
    where
      less : (b.behind == b.len) ≡ false → b.behind ≤ length ys → b.len ≡ length ys → b.behind < length ys
      less is le len = elim (order (length ys) b.behind) [
        | inl ge ↦ let same : b.behind ≡ b.len = omega (arith, ge, le, len) in absurd (Rattle.std.proofs.lemmas.Bool.true≢false (sym (eq-eqb b.behind b.len same) ∙ is))
        | inr lt ↦ lt
      ]

  seam : HasRun (xs ++ ys) (length xs - a.behind) (a.behind + b.before)
  seam =
      let le : a.behind ≤ length xs = near.behind.bound in
      seam_run xs ys (length xs - a.behind) (a.behind + b.before) (omega arith) (omega (arith, le))
      (run_part xs (length xs - a.behind) a.behind (length xs - a.behind) (length xs - (length xs - a.behind)) near.behind.free (omega arith) (omega (arith, le)))
      (run_part ys 0 b.before 0 (length xs - a.behind + (a.behind + b.before) - length xs) far.before (omega arith) (omega (arith, le)))

  -- a run as long as the longest one
  record Longest (n : ℕ) : Type 0 where
    from : ℕ
    run : HasRun (xs ++ ys) from n
    bound : from + n ≤ length (xs ++ ys)

  longest_near : Longest a.longest
  longest_near =
      let le : near.from + a.longest ≤ length xs = near.longest_bound in
      record { from = near.from; run = left_run xs ys near.from a.longest le near.longest; bound = omega (arith, both, le) }

  longest_far : Longest b.longest
  longest_far =
      let le : far.from + b.longest ≤ length ys = far.longest_bound in
      let place : length xs + far.from - length xs ≡ far.from = omega arith in
      record { from = length xs + far.from; run = right_run xs ys (length xs + far.from) b.longest (omega arith) (subst (λ (k : ℕ). HasRun ys k b.longest) (sym place) far.longest); bound = omega (arith, both, le) }

  longest_seam : Longest (a.behind + b.before)
  longest_seam =
      let le : a.behind ≤ length xs = near.behind.bound in
      let less : b.before ≤ length ys = far.before_bound in
      record { from = length xs - a.behind; run = seam; bound = omega (arith, both, le, less) }

  greater : (m n : ℕ) → Longest m → Longest n → Longest (max m n)
  greater m n p q = elim (order m n) [
    | inl le ↦ let is : n ≡ max m n = omega (arith, le) in subst Longest is q
    | inr lt ↦ let is : m ≡ max m n = omega (arith, lt) in subst Longest is p
  ]

  longest_both : Longest (max (max a.longest b.longest) (a.behind + b.before))
  longest_both = greater (max a.longest b.longest) (a.behind + b.before) (greater a.longest b.longest longest_near longest_far) longest_seam

  pub joined_runs : IsRuns (xs ++ ys) (joined a b)
  joined_runs = record {
    len = let p : a.len ≡ length xs = near.len in let q : b.len ≡ length ys = far.len in omega (arith, both, p, q);
    before_bound = before_bound_at (a.before == a.len);
    before = before_at (a.before == a.len) refl;
    before_ends = before_ends_at (a.before == a.len) refl;
    behind = behind_at (b.behind == b.len) refl;
    most = most;
    from = longest_both.from;
    longest = longest_both.run;
    longest_bound = longest_both.bound;
  }

  -- the lowest run is one of the first part where that has one
  pub first_near : (n k : ℕ) → 0 < n → IsFirstRun xs n k → IsFirstRun (xs ++ ys) n k
  first_near n k some first =
      let le : k + n ≤ length xs = run_within xs k n some first.free in
      record {
        free = left_run xs ys k n le first.free;
        lowest = λ s run. elim (order (s + n) (length xs)) [
          | inl left ↦ first.lowest s (run_left xs ys s n left run)
          | inr over ↦ omega (arith, le, over)
        ];
      }

  -- else the one over the seam, where there is one
  pub first_seam : (n : ℕ) → 0 < n → a.longest < n → n ≤ a.behind + b.before → IsFirstRun (xs ++ ys) n (a.len - a.behind)
  first_seam n some short fits =
      let len : a.len ≡ length xs = near.len in
      let place : length xs - a.behind ≡ a.len - a.behind = omega (arith, len) in
      record {
        free = subst (λ (k : ℕ). HasRun (xs ++ ys) k n) place (run_part (xs ++ ys) (length xs - a.behind) (a.behind + b.before) (length xs - a.behind) n seam (omega arith) (omega (arith, fits)));
        lowest = λ s run. subst (λ (k : ℕ). k ≤ s) place (low s run);
      }
    where
      low : (s : ℕ) → HasRun (xs ++ ys) s n → length xs - a.behind ≤ s
      low s run = elim (order (s + n) (length xs)) [
        | inl left ↦ let le : n ≤ a.longest = near.most s n some (run_left xs ys s n left run) in absurd (omega (arith, le, short))
        | inr over ↦ elim (order (length xs) s) [
          | inl right ↦ omega (arith, right)
          | inr here ↦
              let end : length xs - s ≤ a.behind = tail_most xs (length xs) a.behind s (length xs - s) near.behind (run_near xs ys s n (omega arith) (omega arith) run) (omega arith) in
              omega (arith, end)
        ]
      ]

  -- else the lowest one of the second part
  pub first_far : (n k : ℕ) → 0 < n → a.longest < n → a.behind + b.before < n → IsFirstRun ys n k → IsFirstRun (xs ++ ys) n (a.len + k)
  first_far n k some short seamless first =
      let len : a.len ≡ length xs = near.len in
      let place : a.len + k - length xs ≡ k = omega (arith, len) in
      record {
        free = right_run xs ys (a.len + k) n (omega (arith, len)) (subst (λ (j : ℕ). HasRun ys j n) (sym place) first.free);
        lowest = λ s run. elim (order (length xs) s) [
          | inl right ↦ let le : k ≤ s - length xs = first.lowest (s - length xs) (run_right xs ys s n right run) in omega (arith, le, len, right)
          | inr here ↦ elim (order (s + n) (length xs)) [
            | inl left ↦ let le : n ≤ a.longest = near.most s n some (run_left xs ys s n left run) in absurd (omega (arith, le, short))
            | inr over ↦
                let end : length xs - s ≤ a.behind = tail_most xs (length xs) a.behind s (length xs - s) near.behind (run_near xs ys s n (omega arith) (omega arith) run) (omega arith) in
                let within : s + n ≤ length (xs ++ ys) = run_within (xs ++ ys) s n some run in
                let begin : s + n - length xs ≤ b.before = lead_most ys b.before (s + n - length xs) far.before_ends (omega (arith, within, both)) (run_far xs ys s n (omega arith) (omega arith) run) in
                absurd (omega (arith, end, begin, seamless, here, over))
          ]
        ];
      }

  -- the second part has one then, where the whole has
  pub some_far : (n : ℕ) → 0 < n → a.longest < n → a.behind + b.before < n → HasSomeRun (xs ++ ys) n → HasSomeRun ys n
  some_far n some short seamless has = elim (order (length xs) has.from) [
    | inl right ↦ record { from = has.from - length xs; run = run_right xs ys has.from n right has.run }
    | inr here ↦ elim (order (has.from + n) (length xs)) [
      | inl left ↦ let le : n ≤ a.longest = near.most has.from n some (run_left xs ys has.from n left has.run) in absurd (omega (arith, le, short))
      | inr over ↦
          let s : ℕ = has.from in
          let end : length xs - s ≤ a.behind = tail_most xs (length xs) a.behind s (length xs - s) near.behind (run_near xs ys s n (omega arith) (omega arith) has.run) (omega arith) in
          let within : s + n ≤ length (xs ++ ys) = run_within (xs ++ ys) s n some has.run in
          let begin : s + n - length xs ≤ b.before = lead_most ys b.before (s + n - length xs) far.before_ends (omega (arith, within, both)) (run_far xs ys s n (omega arith) (omega arith) has.run) in
          absurd (omega (arith, end, begin, seamless, here, over))
    ]
  ]
