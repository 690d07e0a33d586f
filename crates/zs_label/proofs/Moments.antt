-- Calls one after another: which images a crash leaves at each of their moments.
use Rattle.std.proofs.Common.{◌≡◌, inl, inr, ℕ, List, refl, ◌∙◌, arith}
use Rattle.zs_io.specs.Crash.{Follows, NoMore, Elapses}
use Rattle.zs_lane.specs.Children.{DeviceView, Stays, OnlyOn}
use Rattle.zs_label.specs.Leaving.{Leaves}

-- one call, by the step that it makes
pub leaves_one : (S : List ℕ → List ℕ → Type 0) (a b : DeviceView) → Elapses a.moment b.moment a.left_since b.left_since b.may_leave
    → Follows S a.may_leave b.may_leave → Leaves S a b
leaves_one S a b time step = record {
  later = time.later;
  now = step;
  since = λ t c le left. elim (time.nothing_else t c le left) [
    | inl past ↦ inl past
    | inr here ↦ inr (step c here)
  ];
}

-- a call that changes no image
pub leaves_same : (a b : DeviceView) → Elapses a.moment b.moment a.left_since b.left_since b.may_leave → NoMore a.may_leave b.may_leave → Leaves (λ d c. c ≡ d) a b
leaves_same a b time no_more = leaves_one (λ d c. c ≡ d) a b time (λ c left. (c, no_more c left, refl))

-- what is true of each step
pub leaves_more : (S U : List ℕ → List ℕ → Type 0) (a b : DeviceView) → ((d c : List ℕ) → a.may_leave d → S d c → U d c) → Leaves S a b → Leaves U a b
leaves_more S U a b more one = record {
  later = one.later;
  now = λ c left. step c (one.now c left);
  since = λ t c le left. elim (one.since t c le left) [
    | inl past ↦ inl past
    | inr here ↦ inr (step c here)
  ];
}
  where
    step : (c : List ℕ) → ((d : List ℕ) × a.may_leave d × S d c) → (d : List ℕ) × a.may_leave d × U d c
    step c from = (from.0, from.1, more from.0 c from.1 from.2)

-- calls, and then others
pub leaves_both : (S T U : List ℕ → List ℕ → Type 0) (a b c : DeviceView) → ((d x : List ℕ) → a.may_leave d → S d x → U d x)
    → ((d m x : List ℕ) → a.may_leave d → b.may_leave m → S d m → T m x → U d x) → Leaves S a b → Leaves T b c → Leaves U a c
leaves_both S T U a b c first both one two = record {
  later = omega (arith, one.later, two.later);
  now = λ x left. after x (two.now x left);
  since = λ t x le left. elim (two.since t x (omega (arith, le, one.later)) left) [
    | inl past ↦ elim (one.since t x le past) [
      | inl before ↦ inl before
      | inr here ↦ inr (here.0, here.1, first here.0 x here.1 here.2)
    ]
    | inr here ↦ inr (after x here)
  ];
}
  where
    after : (x : List ℕ) → ((m : List ℕ) × b.may_leave m × T m x) → (d : List ℕ) × a.may_leave d × U d x
    after x from =
        let mid = one.now from.0 from.1 in
        (mid.0, mid.1, both mid.0 from.0 x mid.1 from.1 mid.2 from.2)

-- devices that no call was made on
pub stays_both : (a b c : DeviceView) → Stays a b → Stays b c → Stays a c
stays_both a b c first then = record {
  journal = then.journal ∙ first.journal;
  told = then.told ∙ first.told;
  faults = then.faults ∙ first.faults;
  moment = then.moment ∙ first.moment;
  no_more = λ x left. first.no_more x (then.no_more x left);
  no_less = λ x left. then.no_less x (first.no_less x left);
  since_no_more = λ t x left. first.since_no_more t x (then.since_no_more t x left);
  since_no_less = λ t x left. then.since_no_less t x (first.since_no_less t x left);
}

pub only_both : (dev n m k : ℕ) (a b c : ℕ → DeviceView) → OnlyOn dev n m a b → OnlyOn dev m k b c → OnlyOn dev n k a c
only_both dev n m k a b c first then = record {
  count = then.count ∙ first.count;
  sizes = λ e. then.sizes e ∙ first.sizes e;
  others = λ e other. stays_both (a e) (b e) (c e) (first.others e other) (then.others e other);
}
