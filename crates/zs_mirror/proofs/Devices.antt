-- A device that stays, before and after calls that tell of it.
use Rattle.std.proofs.Common.{◌≡◌, ℕ, ◌+◌, ◌≤◌, inl, inr, Bool, true, false, List, ◌++◌, length, Option, None, Some, option_map, ◌∷◌, [], append_assoc, length-append, refl, sym, ◌∙◌, ap, subst, arith}
use Rattle.zs_io.specs.Told.{Told, BothTold, Torn, over}
use Rattle.zs_io.specs.Crash.{Follows, NoMore, Elapses}
use Rattle.zs_io.specs.Faults.{Rose}
use Rattle.zs_io.specs.Ranges.{over_torn}
use Rattle.zs_lane.specs.declared.mark.Mark.{Mark}
use Rattle.zs_lane.specs.Children.{DeviceView, Stays, Unwritten}
use Rattle.zs_mirror.specs.Mirror.{Untouched, Change, Tells, Reaches, Crashes, Counts, Went, Uncalled, Touched, IsDurable}
use Rattle.zs_mirror.specs.Mirror.Change.{Kept, Put, Opened}

pub stays : (d : DeviceView) → Stays d d
stays d = record {
  journal = refl;
  told = refl;
  faults = refl;
  moment = refl;
  no_more = λ c left. left;
  no_less = λ c left. left;
  since_no_more = λ t c left. left;
  since_no_less = λ t c left. left;
}

pub stays_on : (a b c : DeviceView) → Stays a b → Stays b c → Stays a c
stays_on a b c first then = record {
  journal = then.journal ∙ first.journal;
  told = then.told ∙ first.told;
  faults = then.faults ∙ first.faults;
  moment = then.moment ∙ first.moment;
  no_more = λ x left. first.no_more x (then.no_more x left);
  no_less = λ x left. then.no_less x (first.no_less x left);
  since_no_more = λ t x left. first.since_no_more t x (then.since_no_more t x left);
  since_no_less = λ t x left. then.since_no_less t x (first.since_no_less t x left);
}

tells_between : (change : Change) (a b c d : Option (List ℕ)) → b ≡ a → Tells change b c → d ≡ c → Tells change a d
tells_between Kept a b c d first tells then = then ∙ tells ∙ first
tells_between (Put at bytes) a b c d first tells then = then ∙ tells ∙ ap (option_map (over at bytes)) first
tells_between (Opened at bytes) a b c d first tells then =
    subst (λ (x : Option (List ℕ)). BothTold (Torn at bytes) x d) first (subst (λ (x : Option (List ℕ)). BothTold (Torn at bytes) b x) (sym then) tells)

-- what a write leaves as it is, is within what it may tear
torn_same : (at : ℕ) (bytes old : List ℕ) → Torn at bytes old old
torn_same at bytes old = record { long = refl; before = refl; after = refl; single = λ one. inl refl; values = λ new was. was }

reaches_kept : (change : Change) (a : List ℕ → Type 0) (c : List ℕ) → a c → Reaches change a c
reaches_kept Kept a c left = left
reaches_kept (Put at bytes) a c left = (c, left, torn_same at bytes c)
reaches_kept (Opened at bytes) a c left = (c, left, torn_same at bytes c)

reaches_more : (change : Change) (a b : List ℕ → Type 0) (c : List ℕ) → NoMore a b → Reaches change b c → Reaches change a c
reaches_more Kept a b c more left = more c left
reaches_more (Put at bytes) a b c more left = (left.0, more left.0 left.1, left.2)
reaches_more (Opened at bytes) a b c more left = (left.0, more left.0 left.1, left.2)

-- one call
pub crashes_of : (change : Change) (a b : DeviceView) → Elapses a.moment b.moment a.left_since b.left_since b.may_leave
    → ((c : List ℕ) → b.may_leave c → Reaches change a.may_leave c) → Crashes change a b
crashes_of change a b time leave = record {
  now = leave;
  later = time.later;
  since = λ t c le left. elim (time.nothing_else t c le left) [
    | inl past ↦ inl past
    | inr here ↦ inr (leave c here)
  ];
}

pub untouched_of : (a b : DeviceView) → Elapses a.moment b.moment a.left_since b.left_since b.may_leave → Unwritten a b → Untouched a b
untouched_of a b time unwritten = record { told = unwritten.told; crash = crashes_of Kept a b time unwritten.crash }

crashes_stays : (change : Change) (a b : DeviceView) → Stays a b → Crashes change a b
crashes_stays change a b same = record {
  now = λ c left. reaches_kept change a.may_leave c (same.no_more c left);
  later = omega (arith, same.moment);
  since = λ t c le left. inl (same.since_no_more t c left);
}

-- calls that write nothing, and then others
crashes_after : (change : Change) (a b c : DeviceView) → Crashes Kept a b → Crashes change b c → Crashes change a c
crashes_after change a b c one two = record {
  now = λ x left. reaches_more change a.may_leave b.may_leave x one.now (two.now x left);
  later = omega (arith, one.later, two.later);
  since = λ t x le left. elim (two.since t x (omega (arith, le, one.later)) left) [
    | inl past ↦ elim (one.since t x le past) [
      | inl before ↦ inl before
      | inr here ↦ inr (reaches_kept change a.may_leave x here)
    ]
    | inr here ↦ inr (reaches_more change a.may_leave b.may_leave x one.now here)
  ];
}

-- calls, and then others that write nothing
pub crashes_then : (change : Change) (a b c : DeviceView) → Crashes change a b → Crashes Kept b c → Crashes change a c
crashes_then change a b c one two = record {
  now = λ x left. one.now x (two.now x left);
  later = omega (arith, one.later, two.later);
  since = λ t x le left. elim (two.since t x (omega (arith, le, one.later)) left) [
    | inl past ↦ one.since t x le past
    | inr here ↦ inr (one.now x here)
  ];
}

crashes_between : (change : Change) (a b c d : DeviceView) → Stays a b → Crashes change b c → Stays c d → Crashes change a d
crashes_between change a b c d first crash then =
    crashes_after change a b d (crashes_stays Kept a b first) (crashes_then change b c d crash (crashes_stays Kept c d then))

crashes_opened : (at : ℕ) (bytes : List ℕ) (a b : DeviceView) → Crashes (Put at bytes) a b → Crashes (Opened at bytes) a b
crashes_opened at bytes a b crash = record { now = crash.now; later = crash.later; since = crash.since }

counts_between : (failed : Bool) (a b c d : ℕ) → b ≡ a → Counts failed b c → d ≡ c → Counts failed a d
counts_between false a b c d first counts then = then ∙ counts ∙ first
counts_between true a b c d first counts then = subst (λ (x : ℕ). Rose x d) first (subst (λ (x : ℕ). Rose b x) (sym then) counts)

pub went_between : (change : Change) (marks : List Mark) (failed : Bool) (place : ℕ) (a b c d : DeviceView) → Stays a b → Went change marks failed place b c → Stays c d → Went change marks failed place a d
went_between change marks failed place a b c d first went then = record {
  journal = then.journal ∙ went.journal ∙ ap (option_map (λ j. j ++ marks)) first.journal;
  last = λ j is. went.last j (first.journal ∙ is);
  told = tells_between change a.told b.told c.told d.told first.told went.told then.told;
  crash = crashes_between change a b c d first went.crash then;
  faults = counts_between failed a.faults b.faults c.faults d.faults first.faults went.faults then.faults;
}

pub uncalled_between : (place : ℕ) (a b c d : DeviceView) → Stays a b → Uncalled place b c → Stays c d → Uncalled place a d
uncalled_between place a b c d first uncalled then = record {
  place_is = uncalled.place_is;
  stays = stays_on a c d (stays_on a b c first uncalled.stays) then;
}

both_same : (at : ℕ) (bytes : List ℕ) (old new : Option (List ℕ)) → new ≡ old → BothTold (Torn at bytes) old new
both_same at bytes None new is = subst (λ (x : Option (List ℕ)). BothTold (Torn at bytes) None x) (sym is) tt
both_same at bytes (Some b) new is = subst (λ (x : Option (List ℕ)). BothTold (Torn at bytes) (Some b) x) (sym is) (torn_same at bytes b)

both_over : (at : ℕ) (bytes : List ℕ) (old new : Option (List ℕ)) → Told old (λ b. at + length bytes ≤ length b) → new ≡ option_map (over at bytes) old
    → BothTold (Torn at bytes) old new
both_over at bytes None new fits is = subst (λ (x : Option (List ℕ)). BothTold (Torn at bytes) None x) (sym is) tt
both_over at bytes (Some b) new fits is = subst (λ (x : Option (List ℕ)). BothTold (Torn at bytes) (Some b) x) (sym is) (over_torn at bytes b (fits b refl))

pub stays_touched : (at : ℕ) (bytes : List ℕ) (a b : DeviceView) → Stays a b → Touched at bytes a b
stays_touched at bytes a b same = record {
  told = both_same at bytes a.told b.told same.told;
  crash = crashes_stays (Opened at bytes) a b same;
}

pub put_touched : (at : ℕ) (bytes : List ℕ) (marks : List Mark) (failed : Bool) (place : ℕ) (a b : DeviceView) → Told a.told (λ c. at + length bytes ≤ length c)
    → Went (Put at bytes) marks failed place a b → Touched at bytes a b
put_touched at bytes marks failed place a b fits went = record {
  told = both_over at bytes a.told b.told fits went.told;
  crash = crashes_opened at bytes a b went.crash;
}

pub opened_touched : (at : ℕ) (bytes : List ℕ) (marks : List Mark) (failed : Bool) (place : ℕ) (a b : DeviceView)
    → Went (Opened at bytes) marks failed place a b → Touched at bytes a b
opened_touched at bytes marks failed place a b went = record { told = went.told; crash = went.crash }

-- a write, and then nothing more
pub touched_then : (at : ℕ) (bytes : List ℕ) (a b c : DeviceView) → Told a.told (λ x. at + length bytes ≤ length x) → b.told ≡ option_map (over at bytes) a.told
    → Elapses a.moment b.moment a.left_since b.left_since b.may_leave → Follows (Torn at bytes) a.may_leave b.may_leave → Stays b c → Touched at bytes a c
touched_then at bytes a b c fits told time crash then = record {
  told = both_over at bytes a.told c.told fits (then.told ∙ told);
  crash = crashes_then (Opened at bytes) a b c (crashes_of (Opened at bytes) a b time crash) (crashes_stays Kept b c then);
}

touched_both : (at : ℕ) (bytes : List ℕ) (a b c d : Option (List ℕ)) → b ≡ a → BothTold (Torn at bytes) b c → d ≡ c → BothTold (Torn at bytes) a d
touched_both at bytes a b c d first both then =
    subst (λ (x : Option (List ℕ)). BothTold (Torn at bytes) x d) first (subst (λ (x : Option (List ℕ)). BothTold (Torn at bytes) b x) (sym then) both)

-- a write after calls that write nothing
pub touched_after : (at : ℕ) (bytes : List ℕ) (a b c : DeviceView) → Untouched a b → Touched at bytes b c → Touched at bytes a c
touched_after at bytes a b c first then = record {
  told = touched_both at bytes a.told b.told c.told c.told first.told then.told refl;
  crash = crashes_after (Opened at bytes) a b c first.crash then.crash;
}

pub unwritten_stays : (a b : DeviceView) → Stays a b → Untouched a b
unwritten_stays a b same = record { told = same.told; crash = crashes_stays Kept a b same }

gained_twice : (a b c : Option (List Mark)) (first then : List Mark) → b ≡ option_map (λ j. j ++ first) a → c ≡ option_map (λ j. j ++ then) b
    → c ≡ option_map (λ j. j ++ (first ++ then)) a
gained_twice None b c first then one two = two ∙ ap (option_map (λ j. j ++ then)) one
gained_twice (Some j) b c first then one two = two ∙ ap (option_map (λ x. x ++ then)) one ∙ ap (λ (x : List Mark). Some x) (append_assoc j first then)

-- calls that write nothing, and then others
pub went_twice : (change : Change) (first then : List Mark) (failed : Bool) (place last : ℕ) (a b c : DeviceView) → Went Kept first false place a b
    → Went change then failed last b c → Went change (first ++ then) failed last a c
went_twice change first then failed place last a b c one two = record {
  journal = gained_twice a.journal b.journal c.journal first then one.journal two.journal;
  last = λ j is. omega (arith, two.last (j ++ first) (one.journal ∙ ap (option_map (λ x. x ++ first)) is), length-append j first, length-append first then);
  told = tells_between change a.told b.told c.told c.told one.told two.told refl;
  crash = crashes_after change a b c one.crash two.crash;
  faults = counts_between failed a.faults b.faults c.faults c.faults one.faults two.faults refl;
}

pub durable_stays : (a b : DeviceView) → IsDurable a → Stays a b → IsDurable b
durable_stays a b durable same x is c left = durable x (sym same.told ∙ is) c (same.no_more c left)

pub untouched_twice : (a b c : DeviceView) → Untouched a b → Untouched b c → Untouched a c
untouched_twice a b c one two = record { told = two.told ∙ one.told; crash = crashes_then Kept a b c one.crash two.crash }

-- calls, and then others that write nothing
pub went_then : (change : Change) (first then : List Mark) (failed : Bool) (place last : ℕ) (a b c : DeviceView) → Went change first false place a b
    → Went Kept then failed last b c → Went change (first ++ then) failed last a c
went_then change first then failed place last a b c one two = record {
  journal = gained_twice a.journal b.journal c.journal first then one.journal two.journal;
  last = λ j is. omega (arith, two.last (j ++ first) (one.journal ∙ ap (option_map (λ x. x ++ first)) is), length-append j first, length-append first then);
  told = tells_between change a.told a.told b.told c.told refl one.told two.told;
  crash = crashes_then change a b c one.crash two.crash;
  faults = counts_between failed a.faults b.faults c.faults c.faults one.faults two.faults refl;
}

-- one write that was done
pub went_written : (at : ℕ) (bytes : List ℕ) (mark : Mark) (place : ℕ) (a b : DeviceView) → b.journal ≡ option_map (λ j. j ++ mark ∷ []) a.journal
    → Told a.journal (λ j. place ≡ length j) → b.told ≡ option_map (over at bytes) a.told → Elapses a.moment b.moment a.left_since b.left_since b.may_leave
    → Follows (Torn at bytes) a.may_leave b.may_leave → b.faults ≡ a.faults → Went (Put at bytes) (mark ∷ []) false place a b
went_written at bytes mark place a b journal last told time crash faults = record {
  journal = journal;
  last = λ j is. omega (arith, last j is);
  told = told;
  crash = crashes_of (Put at bytes) a b time crash;
  faults = faults;
}
