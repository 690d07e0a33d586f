-- The heads of images are read through their lanes.
use Rattle.std.proofs.Common.{◌≡◌, inl, inr, Bool, true, ℕ, zero, suc, ◌+◌, ◌<◌, ◌≤◌, min, List, [], ◌∷◌, ◌++◌, length, Option, option_map, Ok, Err, refl, sym, ◌∙◌, ap, subst, arith}
use Rattle.std.specs.Prelude.{Result, IsErrOf, slice_index}
use Rattle.std.proofs.lemmas.Bool.{cases_eq}
use Rattle.zs_io.specs.declared.device.Device.{Ghosts}
use Rattle.zs_io.specs.Told.{Told}
use Rattle.zs_io.specs.declared.fault.BayFault.{BayFault}
use Rattle.zs_io.specs.declared.fault.BayFault.TheVariants.{Failed, Memory}
use Rattle.zs_lane.specs.declared.mark.Mark.TheVariants.{Read}
use Rattle.zs_lane.specs.declared.fault.LaneFault.TheVariants as faults
use Rattle.zs_lane.specs.Children.{DeviceView, OnlyOn, GoesOn, Called, Marked, of_lane, Unwritten as Unchanged}
use Rattle.zs_lane.specs.Lane.{LaneView}
use Rattle.zs_lane.proofs.GoingOn.{goes_on_stays}
use Rattle.zs_session.specs.Devices.{SetGoesOn}
use Rattle.zs_session.specs.Images.{of_each, views_of, told_at, is_zero, head_of, Unwritten, ReadsHead, ReadsFirst, HeadCalls, BlankCalls}
use Rattle.zs_session.proofs.Sets.{set_none, set_twice, some_rose}

module _ {D : Type 0} (dev : Ghosts D) where
  -- what holds of each device of two sets holds of the lists of what they have
  each_same : {A : Type 0} (f : D → A) (g : DeviceView → A) → ((l : LaneView D) → g (of_lane dev l) ≡ f l.device) → (xs ys : List (LaneView D)) → length ys ≡ length xs
      → ((k : ℕ) → g (views_of dev ys k) ≡ g (views_of dev xs k)) → of_each f ys ≡ of_each f xs
  each_same f g is [] [] long same = refl
  each_same f g is (x ∷ xs) [] long same = absurd (omega (arith, long))
  each_same f g is [] (y ∷ ys) long same = absurd (omega (arith, long))
  each_same f g is (x ∷ xs) (y ∷ ys) long same =
      ap (λ (a : _). a ∷ of_each f ys) (sym (is y) ∙ (same zero ∙ is x))
      ∙ ap (λ (l : List _). f x.device ∷ l) (each_same f g is xs ys (omega (arith, long)) (λ k. same (suc k)))

  -- the size of a device, by its number
  pub size_is : (xs : List (LaneView D)) (k : ℕ) → (views_of dev xs k).size ≡ slice_index (of_each dev.size xs) k
  size_is [] zero = refl
  size_is [] (suc k) = refl
  size_is (x ∷ xs) zero = refl
  size_is (x ∷ xs) (suc k) = size_is xs k

  -- the sizes of a set that went on
  pub sizes_same : (xs ys : List (LaneView D)) → SetGoesOn (length xs) (length ys) (views_of dev xs) (views_of dev ys) → of_each dev.size ys ≡ of_each dev.size xs
  sizes_same xs ys set = each_same dev.size (λ d. d.size) (λ l. refl) xs ys set.count set.sizes

  -- a call on one device that writes nothing
  pub kept_by : (k : ℕ) (xs ys : List (LaneView D)) → OnlyOn k (length xs) (length ys) (views_of dev xs) (views_of dev ys)
      → Unchanged (views_of dev xs k) (views_of dev ys k) → GoesOn (views_of dev xs k) (views_of dev ys k) → Unwritten dev xs ys
  kept_by k xs ys only unwritten goes_on = record {
    set = record { count = only.count; sizes = only.sizes; each = each };
    sizes = each_same dev.size (λ d. d.size) (λ l. refl) xs ys only.count only.sizes;
    told = each_same dev.told (λ d. d.told) (λ l. refl) xs ys only.count told;
  }
    where
      each : (e : ℕ) → GoesOn (views_of dev xs e) (views_of dev ys e)
      each e = elim (cases_eq e k) [
        | inl is ↦ subst (λ (n : ℕ). GoesOn (views_of dev xs n) (views_of dev ys n)) (sym is) goes_on
        | inr other ↦ goes_on_stays (views_of dev xs e) (views_of dev ys e) (only.others e other)
      ]

      told : (e : ℕ) → (views_of dev ys e).told ≡ (views_of dev xs e).told
      told e = elim (cases_eq e k) [
        | inl is ↦ subst (λ (n : ℕ). (views_of dev ys n).told ≡ (views_of dev xs n).told) (sym is) unwritten.told
        | inr other ↦ (only.others e other).told
      ]

  -- the counts of all stay where that of the one does
  counts_by : (k : ℕ) (xs ys : List (LaneView D)) → OnlyOn k (length xs) (length ys) (views_of dev xs) (views_of dev ys)
      → (views_of dev ys k).faults ≡ (views_of dev xs k).faults → of_each dev.faults ys ≡ of_each dev.faults xs
  counts_by k xs ys only same = each_same dev.faults (λ d. d.faults) (λ l. refl) xs ys only.count (λ e. elim (cases_eq e k) [
    | inl is ↦ subst (λ (n : ℕ). (views_of dev ys n).faults ≡ (views_of dev xs n).faults) (sym is) same
    | inr other ↦ (only.others e other).faults
  ])

  -- the head was read
  pub head_done : {T U : Type 0} (k len : ℕ) (sum : List ℕ) (xs ys : List (LaneView D)) (x : T) (z : U) → OnlyOn k (length xs) (length ys) (views_of dev xs) (views_of dev ys)
      → Unchanged (views_of dev xs k) (views_of dev ys k) → Called (views_of dev xs k) (views_of dev ys k) (Ok x)
      → Marked (Read 0 len sum) (views_of dev xs k) (views_of dev ys k) → len ≡ min (views_of dev xs k).size 2048 → HeadCalls dev k xs ys (Ok z)
  head_done k len sum xs ys x z only unwritten called marked long = record {
    kept = kept_by k xs ys only unwritten called.goes_on;
    failed = λ h. cc;
    counts = λ h. counts_by k xs ys only called.cause.ok;
    head = (Read 0 len sum ∷ [], (sum, ap (λ (n : ℕ). Read 0 n sum ∷ []) long), marked);
    others = λ e other. (only.others e other).journal;
  }

  -- it could not be read
  pub head_failed : {T U : Type 0} (k place : ℕ) (xs ys : List (LaneView D)) → OnlyOn k (length xs) (length ys) (views_of dev xs) (views_of dev ys)
      → Unchanged (views_of dev xs k) (views_of dev ys k) → Called {T = T} (views_of dev xs k) (views_of dev ys k) (Err (faults.Failed place))
      → HeadCalls {T = U} dev k xs ys (Err Failed)
  head_failed k place xs ys only unwritten called = record {
    kept = kept_by k xs ys only unwritten called.goes_on;
    failed = λ h. (k, called.cause.err);
    counts = λ h. absurd (h refl);
    head = tt;
    others = tt;
  }

  -- memory was wanting for its mark
  pub head_wanting : {T U : Type 0} (k : ℕ) (xs ys : List (LaneView D)) → OnlyOn k (length xs) (length ys) (views_of dev xs) (views_of dev ys)
      → Unchanged (views_of dev xs k) (views_of dev ys k) → Called {T = T} (views_of dev xs k) (views_of dev ys k) (Err faults.Memory)
      → HeadCalls {T = U} dev k xs ys (Err Memory)
  head_wanting k xs ys only unwritten called = record {
    kept = kept_by k xs ys only unwritten called.goes_on;
    failed = λ h. cc;
    counts = λ h. counts_by k xs ys only called.cause.err;
    head = tt;
    others = tt;
  }

  -- nothing was called
  pub kept_none : (xs : List (LaneView D)) → Unwritten dev xs xs
  kept_none xs = record { set = set_none (length xs) (views_of dev xs); sizes = refl; told = refl }

  kept_twice : (xs ys zs : List (LaneView D)) → Unwritten dev xs ys → Unwritten dev ys zs → Unwritten dev xs zs
  kept_twice xs ys zs one two = record {
    set = set_twice _ _ _ (views_of dev xs) (views_of dev ys) (views_of dev zs) one.set two.set;
    sizes = two.sizes ∙ one.sizes;
    told = two.told ∙ one.told;
  }

  -- no head was read yet
  pub reads_none : (xs : List (LaneView D)) → ReadsFirst dev 0 xs xs
  reads_none xs = record { kept = kept_none xs; counts = refl; heads = record { each = λ k lt. absurd (omega (arith, lt)); others = λ k le. refl } }

  -- the next head was read
  pub reads_next : {T : Type 0} (k : ℕ) (xs ys zs : List (LaneView D)) (x : T) → ReadsFirst dev k xs ys → HeadCalls dev k ys zs (Ok x) → ReadsFirst dev (k + 1) xs zs
  reads_next k xs ys zs x first next = record {
    kept = kept_twice xs ys zs first.kept next.kept;
    counts = next.counts (λ h. let no_way = h in cc) ∙ first.counts;
    heads = record { each = each; others = others };
  }
    where
      ahead : (e : ℕ) → e < k → ReadsHead (views_of dev xs e).size (views_of dev xs e).journal (views_of dev zs e).journal
      ahead e lt =
          let was = first.heads.each e lt in
          (was.0, was.1, next.others e (λ is. absurd (omega (arith, is, lt))) ∙ was.2)

      here : (e : ℕ) → e ≡ k → ReadsHead (views_of dev xs e).size (views_of dev xs e).journal (views_of dev zs e).journal
      here e is =
          let read : ReadsHead (views_of dev ys e).size (views_of dev ys e).journal (views_of dev zs e).journal =
          subst (λ (n : ℕ). ReadsHead (views_of dev ys n).size (views_of dev ys n).journal (views_of dev zs n).journal) (sym is) next.head in (
            read.0,
            (read.1.0, read.1.1 ∙ ap (λ (n : ℕ). Read 0 (min n 2048) read.1.0 ∷ []) (first.kept.set.sizes e)),
            read.2 ∙ ap (option_map (λ j. j ++ read.0)) (first.heads.others e (omega (arith, is))),
          )

      each : (e : ℕ) → e < k + 1 → ReadsHead (views_of dev xs e).size (views_of dev xs e).journal (views_of dev zs e).journal
      each e lt = elim (cases_eq e k) [ inl is ↦ here e is | inr other ↦ ahead e (omega (arith, lt, other)) ]

      others : (e : ℕ) → k + 1 ≤ e → (views_of dev zs e).journal ≡ (views_of dev xs e).journal
      others e le = next.others e (λ is. absurd (omega (arith, is, le))) ∙ first.heads.others e (omega (arith, le))

  same_fault : {T U : Type 0} {e f : BayFault} → IsErrOf {T = U} (Err e) f → IsErrOf {T = T} (Err e) f
  same_fault h = cc

  -- the reads of heads end with one that was done
  pub blank_done : {T U : Type 0} (k : ℕ) (xs ys zs : List (LaneView D)) (x : T) (z : U) → ReadsFirst dev k xs ys → HeadCalls dev k ys zs (Ok x) → BlankCalls dev xs zs (Ok z)
  blank_done k xs ys zs x z first next = record {
    kept = kept_twice xs ys zs first.kept next.kept;
    failed = λ h. cc;
    counts = λ h. next.counts (λ e. let no_way = e in cc) ∙ first.counts;
  }

  -- or after some, with none more
  pub blank_all : {U : Type 0} (k : ℕ) (xs ys : List (LaneView D)) (z : U) → ReadsFirst dev k xs ys → BlankCalls dev xs ys (Ok z)
  blank_all k xs ys z first = record { kept = first.kept; failed = λ h. cc; counts = λ h. first.counts }

  -- or with one that was not
  pub blank_failed : {T U : Type 0} (k : ℕ) (xs ys zs : List (LaneView D)) (e : BayFault) → ReadsFirst dev k xs ys → HeadCalls {T = T} dev k ys zs (Err e) → BlankCalls {T = U} dev xs zs (Err e)
  blank_failed k xs ys zs e first next = record {
    kept = kept_twice xs ys zs first.kept next.kept;
    failed = λ h. some_rose (length xs) (length ys) (views_of dev xs) (views_of dev ys) (views_of dev zs) first.kept.set (next.failed (same_fault h));
    counts = λ h. next.counts (λ is. absurd (h (ap Err (err_is is)))) ∙ first.counts;
  }
    where
      err_is : {A : Type 0} {a b : BayFault} → ◌≡◌ {A = Result A BayFault} (Err a) (Err b) → a ≡ b
      err_is is = cc

  -- a head was blank, and so were those before it
  pub blank_next : (i : ℕ) (xs ys : List (LaneView D)) (blank : Bool) → Unwritten dev xs ys → blank ≡ true
      → Told (told_at (of_each dev.told ys) i) (λ bytes. blank ≡ is_zero (head_of (slice_index (of_each dev.size ys) i) bytes))
      → ((k : ℕ) → k < i → Told (told_at (of_each dev.told xs) k) (λ bytes. is_zero (head_of (slice_index (of_each dev.size xs) k) bytes) ≡ true))
      → (k : ℕ) → k < i + 1 → Told (told_at (of_each dev.told xs) k) (λ bytes. is_zero (head_of (slice_index (of_each dev.size xs) k) bytes) ≡ true)
  blank_next i xs ys blank kept is next first k lt = elim (cases_eq k i) [
    | inl at ↦ subst (λ (n : ℕ). Told (told_at (of_each dev.told xs) n) (λ bytes. is_zero (head_of (slice_index (of_each dev.size xs) n) bytes) ≡ true)) (sym at) here
    | inr other ↦ first k (omega (arith, lt, other))
  ]
    where
      now : Told (told_at (of_each dev.told xs) i) (λ bytes. blank ≡ is_zero (head_of (slice_index (of_each dev.size xs) i) bytes))
      now = subst (λ (ts : List (Option (List ℕ))). Told (told_at ts i) (λ bytes. blank ≡ is_zero (head_of (slice_index (of_each dev.size xs) i) bytes))) kept.told
          (subst (λ (ss : List ℕ). Told (told_at (of_each dev.told ys) i) (λ bytes. blank ≡ is_zero (head_of (slice_index ss i) bytes))) kept.sizes next)

      here : Told (told_at (of_each dev.told xs) i) (λ bytes. is_zero (head_of (slice_index (of_each dev.size xs) i) bytes) ≡ true)
      here bytes at = sym (now bytes at) ∙ is
