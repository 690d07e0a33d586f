-- One lane of a list is changed, and the others stay.
use denote.Struct.Props.{props}
use Rattle.std.proofs.Common.{◌≡◌, ◌≢◌, ℕ, zero, suc, ◌<◌, ◌≤◌, inl, inr, List, [], ◌∷◌, ◌++◌, append-nil, length, get_or, slice_set, Option, Some, option_map, Result, Ok, Err, IfErr, OnOk, OnErr, refl, sym, ◌∙◌, ap, subst, arith, rules, Vec}
use Rattle.std.proofs.lemmas.Bool.{cases_eq}
use Rattle.std.proofs.lemmas.Option.{slice_get_read}
use Rattle.std.specs.List.{slice_get}
use Rattle.std.specs.Vec.{with_item}
use Rattle.zs_io.specs.Crash.{Follows, NoMore, Only, Elapses}
use Rattle.zs_io.specs.Told.{Told, BothTold, Torn, over}
use Rattle.zs_io.specs.declared.device.Device.{Ghosts}
use Rattle.zs_lane.specs.Children.{DeviceView, Stays, OnlyOn, GoesOn, Called, Unwritten, Written, of_lane, device_at}
use Rattle.zs_lane.specs.Journal.{Keeps}
use Rattle.zs_ids.specs.Graph.{Has}
use Rattle.zs_lane.specs.Lane.{LaneView, Refused, HasLaneCause}
use Rattle.zs_lane.specs.declared.fault.LaneFault.{LaneFault}
use Rattle.zs_lane.specs.declared.fault.LaneFault.TheVariants.{Failed, Memory}
use Rattle.zs_lane.specs.declared.mark.Mark.{Mark}
use Rattle.zs_lane.specs.declared.mark.Mark.TheVariants.{Failed as FailedMark}

module _ {X : Type 0} where
  get-set_same : (xs : List X) (i : ℕ) (w : X) → i < length xs → slice_get (slice_set xs i w) i ≡ Some w
  get-set_same [] i w lt = absurd (omega arith)
  get-set_same (x ∷ xs) zero w lt = refl
  get-set_same (x ∷ xs) (suc i) w lt = get-set_same xs i w (omega arith)

  get-set_other : (xs : List X) (i j : ℕ) (w : X) → j ≢ i → slice_get (slice_set xs i w) j ≡ slice_get xs j
  get-set_other [] i j w ne = refl
  get-set_other (x ∷ xs) zero zero w ne = absurd (ne refl)
  get-set_other (x ∷ xs) zero (suc j) w ne = refl
  get-set_other (x ∷ xs) (suc i) zero w ne = refl
  get-set_other (x ∷ xs) (suc i) (suc j) w ne = get-set_other xs i j w (λ is. ne (ap suc is))

  set-get : (xs : List X) (i : ℕ) (w : X) → slice_get xs i ≡ Some w → slice_set xs i w ≡ xs
  set-get [] i w is = refl
  set-get (x ∷ xs) zero w is = ap (λ (y : X). y ∷ xs) (same is)
    where
      same : ◌≡◌ {A = Option X} (Some x) (Some w) → w ≡ x
      same e = cc
  set-get (x ∷ xs) (suc i) w is = ap (λ (l : List X). x ∷ l) (set-get xs i w is)

-- a list in which an element was replaced by itself
module _ {X Z : Type 0} (v : Vec X Z) where
  refilled : (items : List X) → (v.len ≡ length items) × (v.len ≤ v.cap) → Vec X Z
  refilled items ok = record { ptr = v.ptr; len = v.len; cap = v.cap; alloc = v.alloc; items = items; ok = ok; small = v.small }

  one_ok : IsProp ((v.len ≡ length v.items) × (v.len ≤ v.cap))
  one_ok = hlevel props

  refilled_same : (items : List X) → v.items ≡ items → (ok : (v.len ≡ length items) × (v.len ≤ v.cap)) → refilled items ok ≡ v
  unfolding refilled
  refilled_same items is =
      subst (λ (l : List X). (ok : (v.len ≡ length l) × (v.len ≤ v.cap)) → refilled l ok ≡ v) is (λ ok. ap (λ o. refilled v.items o) (one_ok ok v.ok))

  with_item_same : (i : ℕ) (w : X) → slice_get v.items i ≡ Some w → with_item v i w ≡ v
  unfolding refilled
  with_item_same i w is = refilled_same (slice_set v.items i w) (sym (set-get v.items i w is)) (with_item v i w).ok

-- the device is not touched
stays : (d : DeviceView) → Stays d d
stays d = record {
  journal = refl;
  told = refl;
  faults = refl;
  moment = refl;
  no_more = λ c left. left;
  no_less = λ c left. left;
  since_no_more = λ t c left. left;
  since_no_less = λ t c left. left;
}

-- what a fact of the lists makes of a fact of those that are told
told_on : {A : Type 0} (x y : A) (P Q : A → Type 0) → (P x → Q y) → Told (Some x) P → Told (Some y) Q
told_on x y P Q on told z is = subst Q (some is) (on (told x refl))
  where
    some : Some y ≡ Some z → y ≡ z
    some e = cc

-- the one mark that came
only_one : (mark : Mark) → Has (mark ∷ []) FailedMark → mark ≡ FailedMark
only_one mark (inl is) = is
only_one mark (inr none) = absurd none

-- by what came of a call, what its mark is and whether the count rose
module _ {D T : Type 0} (ghosts : Ghosts D) (x y : LaneView D) where
  goes_on : (result : Result T LaneFault) (mark : Mark) → (mark ≡ FailedMark → ⊥) → OnOk result (y.journal ≡ x.journal ++ mark ∷ []) → IfErr result (λ e. Refused e x.journal y.journal)
      → HasLaneCause (ghosts.faults x.device) (ghosts.faults y.device) result
      → ((o : Option (List ℕ)) → Told (Some x.journal) (λ j. Keeps o j (ghosts.told x.device)) → Told (Some y.journal) (λ j. Keeps o j (ghosts.told y.device)))
      → GoesOn (of_lane ghosts x) (of_lane ghosts y)
  goes_on (Ok v) mark done marked err cause lawful =
      record { more = mark ∷ []; journal = ap (λ j. Some j) marked; lawful = lawful; later = cause.later; counted = inl cause.ok; rose = λ h. absurd (done (only_one mark h)) }
  goes_on (Err (Failed place)) mark done marked err cause lawful =
      record { more = FailedMark ∷ []; journal = ap (λ j. Some j) err.1; lawful = lawful; later = cause.later; counted = inr (inl refl); rose = λ h. cause.err }
  goes_on (Err Memory) mark done marked err cause lawful =
      record { more = []; journal = ap (λ j. Some j) (err ∙ sym (append-nil x.journal)); lawful = lawful; later = cause.later; counted = inl cause.err; rose = λ h. absurd h }

-- A call makes `y` of the lane `x` that stands at this place.
module _ {D Z T : Type 0} (ghosts : Ghosts D) (v : Vec (LaneView D) Z) (dev : ℕ) (x y : LaneView D) (within : dev < length v.items)
    (value : x ≡ get_or v.items dev x) (result : Result T LaneFault) where
  was : slice_get v.items dev ≡ Some x
  was = slice_get_read v.items (length v.items) dev x refl within value

  abbrev old : ℕ → DeviceView
  old e = device_at (of_lane ghosts) (slice_get v.items e)

  abbrev new : ℕ → DeviceView
  new e = device_at (of_lane ghosts) (slice_get (slice_set v.items dev y) e)

  -- what holds of the lanes holds of the device before and after
  at_dev : (P : DeviceView → DeviceView → Type 0) → P (of_lane ghosts x) (of_lane ghosts y) → P (old dev) (new dev)
  at_dev P fact = rw (was, get-set_same v.items dev y within) fact

  pub unchanged : y ≡ x → with_item v dev y ≡ v
  unchanged same = with_item_same v dev y (was ∙ ap (λ l. Some l) (sym same))

  pub only_on : ghosts.size y.device ≡ ghosts.size x.device → OnlyOn dev (length v.items) (length (slice_set v.items dev y)) old new
  only_on size = record {
    count = search rules;
    sizes = λ e. elim (cases_eq e dev) [
      | inl here ↦ subst (λ (k : ℕ). (new k).size ≡ (old k).size) (sym here) (at_dev (λ a b. b.size ≡ a.size) size)
      | inr other ↦ ap (λ o. (device_at (of_lane ghosts) o).size) (get-set_other v.items dev e y other)
    ];
    others = λ e other. subst (λ o. Stays (old e) (device_at (of_lane ghosts) o)) (sym (get-set_other v.items dev e y other)) (stays (old e));
  }

  pub called : (mark : Mark) → (mark ≡ FailedMark → ⊥) → OnOk result (y.journal ≡ x.journal ++ mark ∷ []) → IfErr result (λ e. Refused e x.journal y.journal) → HasLaneCause (ghosts.faults x.device) (ghosts.faults y.device) result
      → Elapses (ghosts.moment x.device) (ghosts.moment y.device) (ghosts.left_since x.device) (ghosts.left_since y.device) (ghosts.may_leave y.device)
      → ((o : Option (List ℕ)) → Keeps o x.journal (ghosts.told x.device) → Keeps o y.journal (ghosts.told y.device)) → Called (old dev) (new dev) result
  called mark done marked err cause time keeps = at_dev (λ a b. Called a b result) (record {
    err = err;
    cause = cause;
    time = time;
    goes_on = goes_on ghosts x y result mark done marked err cause (λ o. told_on x.journal y.journal (λ j. Keeps o j (ghosts.told x.device)) (λ j. Keeps o j (ghosts.told y.device)) (keeps o));
  })

  pub unwritten : ghosts.told y.device ≡ ghosts.told x.device → NoMore (ghosts.may_leave x.device) (ghosts.may_leave y.device) → Unwritten (old dev) (new dev)
  unwritten told crash = at_dev Unwritten (record { told = told; crash = crash })

  pub written : (at : ℕ) (bytes : List ℕ) → OnOk result (ghosts.told y.device ≡ option_map (over at bytes) (ghosts.told x.device))
      → OnErr result (BothTold (Torn at bytes) (ghosts.told x.device) (ghosts.told y.device))
      → Follows (Torn at bytes) (ghosts.may_leave x.device) (ghosts.may_leave y.device) → Written at bytes (old dev) (new dev) result
  written at bytes done torn crash = at_dev (λ a b. Written at bytes a b result) (record { done = done; torn = torn; crash = crash })

  pub durable : OnOk result (Told (ghosts.told x.device) (λ b. Only b (ghosts.may_leave y.device))) → OnOk result (Told (old dev).told (λ b. Only b (new dev).may_leave))
  durable fact = at_dev (λ a b. OnOk result (Told a.told (λ c. Only c b.may_leave))) fact
