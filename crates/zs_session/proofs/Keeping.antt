-- What calls leave of the lanes of a session: the laws of their journals, their counts, and the reads of their heads.
use Rattle.std.proofs.Common.{◌≡◌, ◌⊎◌, inl, inr, ℕ, zero, suc, ◌+◌, ◌<◌, List, [], ◌∷◌, ◌++◌, length, take, Option, None, Some, option_map, refl, sym, ◌∙◌, ap, subst, arith}
use Rattle.std.specs.Prelude.{IsSome, is_some, slice_get, slice_index, slice_range}
use Rattle.zs_ids.specs.Graph.{Has}
use Rattle.zs_io.specs.Told.{Told}
use Rattle.zs_io.specs.Faults.{Rose}
use Rattle.zs_io.specs.declared.device.Device.{Ghosts}
use Rattle.zs_lane.specs.declared.mark.Mark.{Mark}
use Rattle.zs_lane.specs.declared.mark.Mark.TheVariants.{Failed}
use Rattle.zs_lane.specs.Children.{GoesOn, of_lane, device_at}
use Rattle.zs_lane.specs.Journal.{Keeps}
use Rattle.zs_lane.specs.Lane.{LaneView}
use Rattle.zs_lane.proofs.GoingOn.{in_first, in_second, in_either}
use Rattle.zs_session.specs.Devices.{SetGoesOn, SomeRose, journals}
use Rattle.zs_session.specs.Images.{AreFresh, AreNew, AreFirstOf, HasFailed, ReadsHead, ReadsHeads, devices_of, of_each, views_of}
use Rattle.zs_session.specs.Ending.{CountsItsFaults, CountFaults, StayLawful, journals_in}
use Rattle.zs_session.specs.Runs.{AreLawful}

-- an empty journal is lawful, and fits the bytes at the opening
pub keeps_empty : (told : Option (List ℕ)) → Keeps told [] told
keeps_empty told = record {
  tells = refl;
  lawful = λ b is. record { reads = λ k at len s get. cc };
  tracks = λ b c was is. record { ranges = λ at len within. fits at len (same (sym was ∙ is)) };
}
  where
    same : {b c : List ℕ} → ◌≡◌ {A = Option (List ℕ)} (Some b) (Some c) → b ≡ c
    same e = cc

    fits : {b c : List ℕ} (at len : ℕ) → b ≡ c → slice_range c at (at + len) ≡ slice_range b at (at + len)
    fits at len e = sym (ap (λ x. slice_range x at (at + len)) e)

module _ {A : Type 0} where
  -- what stands at a place of a list is in it, and the place is within
  pub has_get : (xs : List A) (k : ℕ) (x : A) → slice_get xs k ≡ Some x → Has xs x
  has_get [] k x is = cc
  has_get (y ∷ ys) zero x is = inl (some is)
    where
      some : ◌≡◌ {A = Option A} (Some y) (Some x) → y ≡ x
      some e = cc
  has_get (y ∷ ys) (suc k) x is = inr (has_get ys k x is)

  pub get_below : (xs : List A) (k : ℕ) (x : A) → slice_get xs k ≡ Some x → k < length xs
  get_below [] k x is = cc
  get_below (y ∷ ys) zero x is = omega arith
  get_below (y ∷ ys) (suc k) x is = omega (arith, get_below ys k x is)

  pub get_within : (xs : List A) (k : ℕ) → k < length xs → (x : A) × (slice_get xs k ≡ Some x)
  get_within [] k lt = absurd (omega (arith, lt))
  get_within (y ∷ ys) zero lt = (y, refl)
  get_within (y ∷ ys) (suc k) lt = get_within ys k (omega (arith, lt))

  get_take : (n : ℕ) (xs : List A) (k : ℕ) (x : A) → slice_get (take n xs) k ≡ Some x → slice_get xs k ≡ Some x
  get_take zero xs k x is = cc
  get_take (suc n) [] k x is = is
  get_take (suc n) (y ∷ ys) zero x is = is
  get_take (suc n) (y ∷ ys) (suc k) x is = get_take n ys k x is

get_each : {D A : Type 0} (f : D → A) (lanes : List (LaneView D)) (k : ℕ) → slice_get (of_each f lanes) k ≡ option_map (λ l. f l.device) (slice_get lanes k)
get_each f [] k = refl
get_each f (l ∷ ls) zero = refl
get_each f (l ∷ ls) (suc k) = get_each f ls k

-- the lanes are lawful for the images of which they were made
pub lawful_new : {D : Type 0} (told : D → Option (List ℕ)) (faults : D → ℕ) (bay : Option (List D)) (lanes : List (LaneView D)) → AreNew faults lanes
    → AreFirstOf bay (devices_of lanes) → Told bay (λ images. AreLawful told images lanes)
lawful_new told faults bay lanes are first images is k l at = (l.device, stands, subst (λ (j : List Mark). Keeps (told l.device) j (told l.device)) (sym (are.empty l (has_get lanes k l at))) (keeps_empty (told l.device)))
  where
    stands : slice_get images k ≡ Some l.device
    stands = get_take (length (devices_of lanes)) images k l.device
        (subst (λ (ds : List _). slice_get ds k ≡ Some l.device) (first images is) (get_each (λ d. d) lanes k ∙ ap (option_map (λ x. x.device)) at))

-- and stay so
pub lawful_on : {D : Type 0} (told : D → Option (List ℕ)) (images : List D) (began lanes : List (LaneView D)) → StayLawful told began lanes → AreLawful told images began → AreLawful told images lanes
lawful_on told images began lanes stay are k l at =
    let was = stay k l at in
    let from = are k was.0 was.1 in
    (from.0, from.1, was.2 (told from.0) from.2)

pub stay_twice : {D : Type 0} (told : D → Option (List ℕ)) (a b c : List (LaneView D)) → StayLawful told a b → StayLawful told b c → StayLawful told a c
stay_twice told a b c one two k l at =
    let mid = two k l at in
    let was = one k mid.0 mid.1 in
    (was.0, was.1, λ opening keeps. mid.2 opening (was.2 opening keeps))

module _ {D : Type 0} (dev : Ghosts D) where
  journal_is : (o : Option (LaneView D)) → (device_at (of_lane dev) o).journal ≡ option_map (λ l. l.journal) o
  journal_is None = refl
  journal_is (Some l) = refl

  -- the journals of lanes are those of the set
  pub journals_are : (lanes : List (LaneView D)) → journals (views_of dev lanes) ≡ journals_in lanes
  journals_are lanes = λ i. λ k. journal_is (slice_get lanes k) i

  lawful_at : (a b : Option (LaneView D)) (l was : LaneView D) → GoesOn (device_at (of_lane dev) a) (device_at (of_lane dev) b) → a ≡ Some was → b ≡ Some l
      → (opening : Option (List ℕ)) → Keeps opening was.journal (dev.told was.device) → Keeps opening l.journal (dev.told l.device)
  lawful_at a b l was goes is_was is opening keeps =
      go (subst (λ (x : Option (LaneView D)). GoesOn (device_at (of_lane dev) x) (device_at (of_lane dev) (Some l))) is_was
      (subst (λ (x : Option (LaneView D)). GoesOn (device_at (of_lane dev) a) (device_at (of_lane dev) x)) is goes))
    where
      go : GoesOn (of_lane dev was) (of_lane dev l) → Keeps opening l.journal (dev.told l.device)
      go on = on.lawful opening (λ j at. subst (λ (x : List Mark). Keeps opening x (dev.told was.device)) (some at) keeps) l.journal refl
        where
          some : {x y : List Mark} → ◌≡◌ {A = Option (List Mark)} (Some x) (Some y) → x ≡ y
          some e = cc

  -- the lanes of a set that went on stay lawful
  pub stay_lawful : (old new : List (LaneView D)) → SetGoesOn (length old) (length new) (views_of dev old) (views_of dev new) → StayLawful dev.told old new
  stay_lawful old new set k l at =
      let was = get_within old k (omega (arith, get_below new k l at, set.count)) in
      (was.0, was.1, lawful_at (slice_get old k) (slice_get new k) l was.0 (set.each k) was.1 at)

  counted_at : (a b : Option (LaneView D)) (l was : LaneView D) → GoesOn (device_at (of_lane dev) a) (device_at (of_lane dev) b) → a ≡ Some was → b ≡ Some l
      → CountsItsFaults dev.faults was → CountsItsFaults dev.faults l
  counted_at a b l was goes is_was is counts =
      go (subst (λ (x : Option (LaneView D)). GoesOn (device_at (of_lane dev) x) (device_at (of_lane dev) (Some l))) is_was
      (subst (λ (x : Option (LaneView D)). GoesOn (device_at (of_lane dev) a) (device_at (of_lane dev) x)) is goes))
    where
      go : GoesOn (of_lane dev was) (of_lane dev l) → CountsItsFaults dev.faults l
      go on = record { none = none on.counted counts.none; some = λ h. some (in_either was.journal on.more Failed (subst (λ (j : List Mark). Has j Failed) journal h)) }
        where
          journal : l.journal ≡ was.journal ++ on.more
          journal = unwrap on.journal
            where
              unwrap : {x y : List Mark} → ◌≡◌ {A = Option (List Mark)} (Some x) (Some y) → x ≡ y
              unwrap e = cc

          none : (dev.faults l.device ≡ dev.faults was.device) ⊎ Has on.more Failed → (dev.faults was.device ≡ 0) ⊎ Has was.journal Failed → (dev.faults l.device ≡ 0) ⊎ Has l.journal Failed
          none (inl same) (inl zero_was) = inl (same ∙ zero_was)
          none (inl same) (inr had) = inr (subst (λ (j : List Mark). Has j Failed) (sym journal) (in_first was.journal on.more Failed had))
          none (inr came) any = inr (subst (λ (j : List Mark). Has j Failed) (sym journal) (in_second was.journal on.more Failed came))

          above : (n m : ℕ) → Rose n m → 0 < m
          above n m rose = grind arith

          some : Has was.journal Failed ⊎ Has on.more Failed → 0 < dev.faults l.device
          some (inl had) = omega (arith, counts.some had, on.later)
          some (inr came) = above (dev.faults was.device) (dev.faults l.device) (on.rose came)

  -- the counts of a set that went on still tell of the failed calls
  pub counts_on : (old new : List (LaneView D)) → SetGoesOn (length old) (length new) (views_of dev old) (views_of dev new) → CountFaults dev.faults old → CountFaults dev.faults new
  counts_on old new set counts k l at =
      let was = get_within old k (omega (arith, get_below new k l at, set.count)) in
      counted_at (slice_get old k) (slice_get new k) l was.0 (set.each k) was.1 at (counts k was.0 was.1)

  -- the count of a device, by its number
  faults_are : (xs : List (LaneView D)) (k : ℕ) → (views_of dev xs k).faults ≡ slice_index (of_each dev.faults xs) k
  faults_are [] zero = refl
  faults_are [] (suc k) = refl
  faults_are (x ∷ xs) zero = refl
  faults_are (x ∷ xs) (suc k) = faults_are xs k

  above_none : (before now : ℕ) → Rose before now → 0 < now
  above_none before now rose = grind arith

  -- where a count rose a call has failed
  pub failed_of : (old new : List (LaneView D)) → SomeRose (views_of dev old) (views_of dev new) → HasFailed (of_each dev.faults new)
  failed_of old new rose = (rose.0, subst (λ (n : ℕ). 0 < n) (faults_are new rose.0) (above_none _ _ rose.1))

  -- what was read of the heads, in the journals that began empty
  pub heads_read : (old mid now : List (LaneView D)) → AreNew dev.faults old → ReadsHeads (length old) (views_of dev old) (views_of dev mid) → of_each dev.size now ≡ of_each dev.size old
      → (k : ℕ) (l : LaneView D) → slice_get now k ≡ Some l → ReadsHead (dev.size l.device) (Some []) (journals_in mid k)
  heads_read old mid now are heads sizes k l at = go (get_within old k below)
    where
      same : option_map (λ x. dev.size x.device) (slice_get old k) ≡ Some (dev.size l.device)
      same = sym (get_each dev.size old k) ∙ (ap (λ (ss : List ℕ). slice_get ss k) (sym sizes) ∙ (get_each dev.size now k ∙ ap (option_map (λ x. dev.size x.device)) at))

      below : k < length old
      below = some (slice_get old k) refl same
        where
          some : (o : Option (LaneView D)) → slice_get old k ≡ o → option_map (λ x. dev.size x.device) o ≡ Some (dev.size l.device) → k < length old
          some None is e = cc
          some (Some x) is e = get_below old k x is

      go : (was : LaneView D) × (slice_get old k ≡ Some was) → ReadsHead (dev.size l.device) (Some []) (journals_in mid k)
      go (was, is) =
          let read : ReadsHead (dev.size was.device) (Some was.journal) (views_of dev mid k).journal =
          subst (λ (o : Option (LaneView D)). ReadsHead (device_at (of_lane dev) o).size (device_at (of_lane dev) o).journal (views_of dev mid k).journal) is (heads.each k below) in
          let sized : ReadsHead (dev.size l.device) (Some was.journal) (views_of dev mid k).journal =
          subst (λ (n : ℕ). ReadsHead n (Some was.journal) (views_of dev mid k).journal) (some (sym (ap (option_map (λ x. dev.size x.device)) is) ∙ same)) read in
          subst (λ (j : List Mark). ReadsHead (dev.size l.device) (Some j) (journals_in mid k)) (are.empty was (has_get old k was is))
          (subst (λ (o : Option (List Mark)). ReadsHead (dev.size l.device) (Some was.journal) o) (journal_is (slice_get mid k)) sized)
        where
          some : {n m : ℕ} → ◌≡◌ {A = Option ℕ} (Some n) (Some m) → n ≡ m
          some e = cc

-- no call of new lanes has failed
pub fresh_new : {D : Type 0} (faults : D → ℕ) (lanes : List (LaneView D)) → AreNew faults lanes → AreFresh (of_each faults lanes)
fresh_new faults lanes are k = go lanes k are.fresh
  where
    go : (ls : List (LaneView _)) (n : ℕ) → ((l : LaneView _) → Has ls l → faults l.device ≡ 0) → slice_index (of_each faults ls) n ≡ 0
    go [] zero all = refl
    go [] (suc n) all = refl
    go (x ∷ xs) zero all = all x (inl refl)
    go (x ∷ xs) (suc n) all = go xs n (λ l here. all l (inr here))

-- and their counts tell of no failed calls
pub counts_new : {D : Type 0} (faults : D → ℕ) (lanes : List (LaneView D)) → AreNew faults lanes → CountFaults faults lanes
counts_new faults lanes are k l at =
    let here = has_get lanes k l at in
    record { none = inl (are.fresh l here); some = λ had. absurd (subst (λ (j : List Mark). Has j Failed) (are.empty l here) had) }

-- each lane of a list is told
pub told_in : {D : Type 0} (lanes : List (LaneView D)) (k : ℕ) → k < length lanes → IsSome (journals_in lanes k)
told_in lanes k lt =
    let is = get_within lanes k lt in
    ap (λ o. is_some (option_map (λ l. l.journal) o)) is.1
