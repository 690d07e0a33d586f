-- The runs of a few sectors, sector by sector.
use Rattle.std.proofs.Common.{◌≡◌, ◌≤◌, ◌<◌, ◌+◌, ◌-◌, ◌∙◌, ◌⊎◌, ℕ, zero, suc, Bool, true, false, List, [], ◌∷◌, length, set, arith, refl, ap, sym, subst, inl, inr}
use Rattle.std.specs.Prelude.{max, if◌then◌else◌}
use Rattle.std.proofs.lemmas.Bool.Decides.{nat_tests}
use Rattle.zs_alloc.specs.Free.{is_within}
use Rattle.zs_alloc.specs.Runs.{is_set, HasRun, HasSomeRun, IsFirstRun, IsRunUpTo, IsRuns, IsSet}
use Rattle.zs_alloc.proofs.Runs.{order, no_run, run_within, tail_most}

pub run_none : (xs : List Bool) → IsRunUpTo xs 0 0
run_none xs = record { bound = omega arith; free = no_run xs (0 - 0); ends = λ lt. absurd (omega (arith, lt)) }

-- the next sector is free: the run is longer by it
pub run_more : (xs : List Bool) (end run : ℕ) → IsRunUpTo xs end run → is_set xs end ≡ true → IsRunUpTo xs (end + 1) (run + 1)
run_more xs end run up free =
    let bound : run ≤ end = up.bound in
    record {
      bound = omega (arith, bound);
      free = record {
        each = λ k p q. elim (order end k) [
          | inl past ↦ let is : k ≡ end = omega (arith, past, q, bound) in subst (λ (j : ℕ). is_set xs j ≡ true) (sym is) free
          | inr within ↦ up.free.each k (omega (arith, p, bound)) (omega (arith, within, bound))
        ];
      };
      ends = λ lt. let place : end + 1 - (run + 1) - 1 ≡ end - run - 1 = omega arith in ap (λ (k : ℕ). is_set xs k) place ∙ up.ends (omega (arith, lt));
    }

-- it is not: no run ends behind it
pub run_over : (xs : List Bool) (end : ℕ) → is_set xs end ≡ false → IsRunUpTo xs (end + 1) 0
run_over xs end taken = record { bound = omega arith; free = no_run xs (end + 1 - 0); ends = λ _. let place : end + 1 - 0 - 1 ≡ end = omega arith in ap (λ (k : ℕ). is_set xs k) place ∙ taken }

-- every run of n sectors ends behind the sector `index`
pub record NoneUpTo (xs : List Bool) (n index : ℕ) : Type 0 where
  pub each : (s : ℕ) → HasRun xs s n → index < s + n

pub none_at_first : (xs : List Bool) (n : ℕ) → 0 < n → NoneUpTo xs n 0
none_at_first xs n some = record { each = λ s run. omega (arith, some) }

pub none_more : (xs : List Bool) (n index run : ℕ) → IsRunUpTo xs (index + 1) run → run < n → NoneUpTo xs n index → NoneUpTo xs n (index + 1)
none_more xs n index run up short none = record {
  each = λ s has.
      let past : index < s + n = none.each s has in
      elim (order (s + n) (index + 1)) [
        | inl le ↦ let most : n ≤ run = tail_most xs (index + 1) run s n up has (omega (arith, le, past)) in absurd (omega (arith, most, short))
        | inr lt ↦ lt
      ];
}

pub first_here : (xs : List Bool) (n index run : ℕ) → IsRunUpTo xs (index + 1) run → run ≡ n → NoneUpTo xs n index → IsFirstRun xs n (index + 1 - n)
first_here xs n index run up is none = record {
  free = subst (λ (m : ℕ). HasRun xs (index + 1 - m) m) is up.free;
  lowest = λ s has. let past : index < s + n = none.each s has in omega (arith, past);
}

pub none_at_all : (xs : List Bool) (n index : ℕ) → 0 < n → length xs ≤ index → NoneUpTo xs n index → HasSomeRun xs n → ⊥
none_at_all xs n index some le none has =
    let past : index < has.from + n = none.each has.from has.run in
    let within : has.from + n ≤ length xs = run_within xs has.from n some has.run in
    omega (arith, past, within, le)

-- the runs that end by the sector `index`
pub record RunsUpTo (xs : List Bool) (index behind longest : ℕ) : Type 0 where
  pub last : IsRunUpTo xs index behind
  pub most : (s n : ℕ) → 0 < n → HasRun xs s n → s + n ≤ index → n ≤ longest
  pub from : ℕ
  pub run : HasRun xs from longest
  pub bound : from + longest ≤ index

pub runs_at_first : (xs : List Bool) → RunsUpTo xs 0 0 0
runs_at_first xs = record { last = run_none xs; most = λ s n some run le. omega (arith, some, le); from = 0; run = no_run xs 0; bound = omega arith }

pub runs_more : (xs : List Bool) (index behind longest next : ℕ) → RunsUpTo xs index behind longest → IsRunUpTo xs (index + 1) next → RunsUpTo xs (index + 1) next (max longest next)
runs_more xs index behind longest next r up = elim (order longest next) [
  | inl le ↦
      let is : next ≡ max longest next = omega (arith, le) in
      let bound : next ≤ index + 1 = up.bound in
      record {
        last = up;
        most = most;
        from = index + 1 - next;
        run = subst (λ (n : ℕ). HasRun xs (index + 1 - next) n) is up.free;
        bound = omega (arith, bound, le);
      }
  | inr lt ↦
      let is : longest ≡ max longest next = omega (arith, lt) in
      let bound : r.from + longest ≤ index = r.bound in
      record { last = up; most = most; from = r.from; run = subst (λ (n : ℕ). HasRun xs r.from n) is r.run; bound = omega (arith, bound, lt) }
]
  where
    most : (s n : ℕ) → 0 < n → HasRun xs s n → s + n ≤ index + 1 → n ≤ max longest next
    most s n some run le = elim (order (s + n) index) [
      | inl before ↦ let old : n ≤ longest = r.most s n some run before in omega (arith, old)
      | inr at ↦ let new : n ≤ next = tail_most xs (index + 1) next s n up run (omega (arith, le, at)) in omega (arith, new)
    ]

pub runs_all : (xs : List Bool) (index behind longest before len : ℕ) → length xs ≡ index → RunsUpTo xs index behind longest → len ≡ length xs → before ≤ length xs → HasRun xs 0 before → (before < length xs → is_set xs before ≡ false) → IsRuns xs (record { len = len; before = before; behind = behind; longest = longest })
runs_all xs index behind longest before len is r long bound lead ends = record {
  len = long;
  before_bound = bound;
  before = lead;
  before_ends = ends;
  behind = subst (λ (k : ℕ). IsRunUpTo xs k behind) (sym is) r.last;
  most = λ s n some run. let within : s + n ≤ length xs = run_within xs s n some run in r.most s n some run (omega (arith, within, is));
  from = r.from;
  longest = r.run;
  longest_bound = let le : r.from + longest ≤ index = r.bound in omega (arith, le, is);
}

-- one sector is set
at_same : (xs : List Bool) (i : ℕ) (b : Bool) → i < length xs → is_set (set xs i b) i ≡ b
at_same [] i b lt = absurd (omega (arith, lt))
at_same (x ∷ xs) zero b lt = refl
at_same (x ∷ xs) (suc i) b lt = at_same xs i b (omega (arith, lt))

at_other : (xs : List Bool) (i s : ℕ) (b : Bool) → (s ≡ i → ⊥) → is_set (set xs i b) s ≡ is_set xs s
at_other [] i s b ne = refl
at_other (x ∷ xs) zero zero b ne = absurd (ne refl)
at_other (x ∷ xs) zero (suc s) b ne = refl
at_other (x ∷ xs) (suc i) zero b ne = refl
at_other (x ∷ xs) (suc i) (suc s) b ne = at_other xs i s b (λ e. ne (ap suc e))

pub within_is : (a b s : ℕ) → a ≤ s → s < b → is_within a b s ≡ true
within_is a b s p q = grind (arith, nat_tests)

pub below_is : (a b s : ℕ) → s < a → is_within a b s ≡ false
below_is a b s p = grind (arith, nat_tests)

pub above_is : (a b s : ℕ) → b ≤ s → is_within a b s ≡ false
above_is a b s p = grind (arith, nat_tests)

pub set_none : (xs : List Bool) (first end : ℕ) (free : Bool) → end ≤ first → IsSet xs first end free xs
set_none xs first end free le = record { len = refl; each = λ s. sym (ap (λ (b : Bool). if b then free else is_set xs s) (outside s)) }
  where
    outside : (s : ℕ) → is_within first end s ≡ false
    outside s = elim (order first s) [ inl p ↦ above_is first end s (omega (arith, p, le)) | inr q ↦ below_is first end s q ]

pub set_more : (old now new : List Bool) (first index : ℕ) (free : Bool) → first ≤ index → index < length old → IsSet old first index free now → new ≡ set now index free → length new ≡ length now → IsSet old first (index + 1) free new
set_more old now new first index free le lt is step long = record {
  len = long ∙ is.len;
  each = λ s. at s (order index s);
}
  where
    at : (s : ℕ) → (index ≤ s) ⊎ (s < index) → is_set new s ≡ (if is_within first (index + 1) s then free else is_set old s)
    at s (inl past) = elim (order s index) [
      | inl here ↦
          let same : s ≡ index = omega (arith, past, here) in
          let short : index < length now = (let long : length now ≡ length old = is.len in omega (arith, lt, long)) in
          ap (λ (l : List Bool). is_set l s) step ∙ ap (λ (k : ℕ). is_set (set now index free) k) same ∙ at_same now index free short
          ∙ sym (ap (λ (b : Bool). if b then free else is_set old s) (within_is first (index + 1) s (omega (arith, le, past)) (omega (arith, here))))
      | inr above ↦
          ap (λ (l : List Bool). is_set l s) step ∙ at_other now index s free (λ e. (omega (arith, above, e))) ∙ is.each s
          ∙ ap (λ (b : Bool). if b then free else is_set old s) (above_is first index s past ∙ sym (above_is first (index + 1) s (omega (arith, above))))
    ]
    at s (inr below) =
        ap (λ (l : List Bool). is_set l s) step ∙ at_other now index s free (λ e. (omega (arith, below, e))) ∙ is.each s ∙ ap (λ (b : Bool). if b then free else is_set old s) (elim (order first s) [
          | inl p ↦ within_is first index s p below ∙ sym (within_is first (index + 1) s p (omega (arith, below)))
          | inr q ↦ below_is first index s q ∙ sym (below_is first (index + 1) s q)
        ])

-- a run of the sectors from `first` up to `index`
pub run_so_far : (xs : List Bool) (first index : ℕ) → first ≤ index → HasRun xs first (index - first) → is_set xs index ≡ true → HasRun xs first (index + 1 - first)
run_so_far xs first index le run free = record {
  each = λ k p q. elim (order index k) [
    | inl past ↦ let is : k ≡ index = omega (arith, past, q, le) in subst (λ (j : ℕ). is_set xs j ≡ true) (sym is) free
    | inr within ↦ run.each k p (omega (arith, within, le))
  ];
}

-- nothing more is set once the end is reached
pub set_stop : (old new : List Bool) (first index end : ℕ) (free : Bool) → end ≤ index → index ≤ end → IsSet old first index free new → IsSet old first end free new
set_stop old new first index end free past by is =
    let same : index ≡ end = omega (arith, past, by) in
    subst (λ (k : ℕ). IsSet old first k free new) same is
