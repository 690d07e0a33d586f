-- The test of a sound state decides it.
use Rattle.std.proofs.Common.{◌≡◌, ◌⊎◌, ◌≤◌, ◌+◌, ◌-◌, ◌↔◌, ℕ, Bool, true, false, not, ◌&&◌, ◌||◌, List, [], ◌∷◌, length, refl, sym, ap, subst, ◌∙◌, arith}
use Rattle.std.specs.Prelude.{nat_le, ◌==◌}
use Rattle.std.specs.Bool.{Decides}
use Rattle.std.specs.List.{list_all}
use Rattle.std.proofs.lemmas.Bool.{true≢false}
use Rattle.std.proofs.lemmas.Bool.Decides.{Decides-and, Decides-or, Decides-not, Decides-eqb}
use Rattle.zs_ids.specs.declared.key.Key.{Key}
use Rattle.zs_ids.specs.declared.dataset.DsId.{DsId}
use Rattle.zs_ids.specs.Graph.{Has, Dataset, Graph}
use Rattle.zs_ids.specs.GraphTree.{is_id, Above}
use Rattle.zs_ids.specs.GraphValid.{last_birth}
use Rattle.zs_ranges.specs.declared.set.Interval.{Interval}
use Rattle.zs_phys.specs.declared.scope.Scope.{Scope}
use Rattle.zs_phys.specs.declared.scope.Kind.{Kind}
use Rattle.zs_phys.specs.declared.scope.Kind.TheVariants.{Idle, Scrub, Resilver}
use Rattle.zs_phys.specs.declared.phys.Phys.{Phys}
use Rattle.zs_phys.specs.declared.phys.At.{At}
use Rattle.zs_phys.specs.declared.phys.At.TheVariants.{Nowhere, Destroyed}
use Rattle.zs_phys.specs.declared.phys.At.TheVariants as ats
use Rattle.zs_phys.specs.declared.phys.Status.{Status}
use Rattle.zs_phys.specs.declared.phys.Status.TheVariants.{Never, Scanning, Finished, Canceled}
use Rattle.zs_phys.specs.declared.todos.Todo.{Todo}
use Rattle.zs_phys.specs.Handlers.{is_on}
use Rattle.zs_phys.specs.Ahead.{pending, ids_at}
use Rattle.zs_phys.specs.Sound.{AreDistinct, IsOfGraph, IsPass, EndsBy, IsAtRest, HasNoPass, Sound, first_todo, pass_end}
use Rattle.zs_phys.specs.Sound.EndsBy.{past, started, canceled}
use Rattle.zs_plain.specs.Tests.{has_id}
use Rattle.zs_plain.specs.Below.{IsBelow}
use Rattle.zs_plain.specs.TurnTests.{is_scanning}
use Rattle.zs_plain.specs.SoundTests.{is_there, are_distinct, are_placed, has_low_min, is_pass, is_nowhere, is_between, is_never, is_canceled, is_first, ends_by, is_at_rest, has_no_pass, is_idle, is_scrub, is_resilver, agrees, is_of_kind, is_sound}
use Rattle.zs_plain.proofs.Decide.{like, itself, implies, at_most, some-of, each-of, same_id, has_id-is}
use Rattle.zs_plain.proofs.AheadDecides.{is_on-is}
use Rattle.zs_plain.proofs.TurnDecides.{scanning_is}
use mathlib.Core.Logic.{inl, inr}

-- a fact that is due where a test is false
pub unless : {Q : Type 0} (a b : Bool) → Decides b Q → Decides (a || b) (a ≡ false → Q)
unless true b q = (λ e f. absurd (true≢false f), λ h. refl)
unless false b q = (λ e f. q.0 e, λ h. q.1 (h refl))

otherwise : {P Q : Type 0} (a b : Bool) → Decides a P → Decides b Q → Decides (a || b) ((P → ⊥) → Q)
otherwise true b p q = (λ e n. absurd (n (p.0 refl)), λ h. refl)
otherwise false b p q = (λ e n. q.0 e, λ h. q.1 (h (λ x. true≢false (sym (p.1 x)))))

pub denies : (a : Bool) → Decides (not a) (a ≡ false)
denies true = (λ e. absurd (true≢false (sym e)), λ e. absurd (true≢false e))
denies false = (λ e. refl, λ e. refl)

-- values that a test tells apart are two
apart : {A : Type 0} (f : A → Bool) (x y : A) → f x ≡ true → f y ≡ false → x ≡ y → ⊥
apart f x y t n e = true≢false (sym t ∙ ap f e ∙ n)

pub fails : {P : Type 0} → (P → ⊥) → Decides false P
fails n = (λ e. absurd (true≢false (sym e)), λ p. absurd (n p))

nowhere_is : (x : At) → Decides (is_nowhere x) (x ≡ Nowhere)
nowhere_is Nowhere = (λ e. refl, λ e. refl)
nowhere_is Destroyed = fails (λ e. apart is_nowhere Nowhere Destroyed refl refl (sym e))
nowhere_is (ats.Dataset id k) = fails (λ e. apart is_nowhere Nowhere (ats.Dataset id k) refl refl (sym e))

between_is : (x : At) → Decides (is_between x) (ids_at x ≡ [])
between_is Nowhere = (λ e. refl, λ e. refl)
between_is Destroyed = (λ e. refl, λ e. refl)
between_is (ats.Dataset id k) = fails (λ e. subst (λ (l : List DsId). Has l id) e (inl refl))

never_is : (x : Status) → Decides (is_never x) (x ≡ Never)
never_is Never = (λ e. refl, λ e. refl)
never_is Scanning = fails (λ e. apart is_never Never Scanning refl refl (sym e))
never_is Finished = fails (λ e. apart is_never Never Finished refl refl (sym e))
never_is Canceled = fails (λ e. apart is_never Never Canceled refl refl (sym e))

canceled_is : (x : Status) → Decides (is_canceled x) (x ≡ Canceled)
canceled_is Never = fails (λ e. apart is_canceled Canceled Never refl refl (sym e))
canceled_is Scanning = fails (λ e. apart is_canceled Canceled Scanning refl refl (sym e))
canceled_is Finished = fails (λ e. apart is_canceled Canceled Finished refl refl (sym e))
canceled_is Canceled = (λ e. refl, λ e. refl)

idle_is : (x : Kind) → Decides (is_idle x) (x ≡ Idle)
idle_is Idle = (λ e. refl, λ e. refl)
idle_is Scrub = fails (λ e. apart is_idle Idle Scrub refl refl (sym e))
idle_is Resilver = fails (λ e. apart is_idle Idle Resilver refl refl (sym e))

scrub_is : (x : Kind) → Decides (is_scrub x) (x ≡ Scrub)
scrub_is Idle = fails (λ e. apart is_scrub Scrub Idle refl refl (sym e))
scrub_is Scrub = (λ e. refl, λ e. refl)
scrub_is Resilver = fails (λ e. apart is_scrub Scrub Resilver refl refl (sym e))

resilver_is : (x : Kind) → Decides (is_resilver x) (x ≡ Resilver)
resilver_is Idle = fails (λ e. apart is_resilver Resilver Idle refl refl (sym e))
resilver_is Scrub = fails (λ e. apart is_resilver Resilver Scrub refl refl (sym e))
resilver_is Resilver = (λ e. refl, λ e. refl)

-- a list of no length is empty
pub empty_is : {A : Type 0} (xs : List A) → Decides (length xs == 0) (xs ≡ [])
empty_is [] = (λ e. refl, λ e. refl)
empty_is (x ∷ xs) =
    let some : (length (x ∷ xs) ≡ 0) → ⊥ = λ (e : length (x ∷ xs) ≡ 0). omega (arith, e) in
    (λ e. absurd (some ((Decides-eqb (length (x ∷ xs)) 0).0 e)), λ e. absurd (some (ap length e)))

abbrev todo_of : ℕ → ℕ → Todo
todo_of id least = record { id = record { 0 = id }; min = least }

-- the queue has the origin alone
first_is : (x : List Todo) → Decides (is_first x) (x ≡ first_todo)
first_is [] = fails (λ e. let n : 0 ≡ 1 = ap length e in omega (arith, n))
first_is (q ∷ []) =
    like (q.id.0 == 0 && q.min == 0) (Decides-and (q.id.0 == 0) (q.min == 0) (Decides-eqb q.id.0 0) (Decides-eqb q.min 0)) (λ h. ap (λ (n : ℕ). todo_of n q.min ∷ []) h.0 ∙ ap (λ (n : ℕ). todo_of 0 n ∷ []) h.1) (λ e. (ap (λ (l : List Todo). head_id l) e, ap (λ (l : List Todo). head_min l) e))
  where
    head_id : List Todo → ℕ
    head_id [] = 0
    head_id (x ∷ xs) = x.id.0

    head_min : List Todo → ℕ
    head_min [] = 0
    head_min (x ∷ xs) = x.min
first_is (q ∷ r ∷ qs) = fails (λ e. let n : length (q ∷ r ∷ qs) ≡ 1 = ap length e in omega (arith, n))

distinct_is : (xs : List DsId) → Decides (are_distinct xs) (AreDistinct xs)
distinct_is [] = (λ e. tt, λ h. refl)
distinct_is (x ∷ xs) =
    Decides-and (not (has_id xs x)) (are_distinct xs) (Decides-not (has_id xs x) (has_id-is xs x)) (distinct_is xs)

module _ (g : Graph) (h : ℕ) (scope : Scope) (s : Phys) where
  there_is : (id : DsId) → Decides (is_there g id) (IsOfGraph g id)
  there_is id =
      like (is_there g id) (some-of (λ (d : Dataset). is_id d.id id) (λ (d : Dataset). d.id ≡ id) (λ d. same_id d.id id) g) (λ w. record { dataset = w.0; here = w.1; named = w.2 }) (λ o. (o.dataset, o.here, o.named))

  low_is : (q : Todo) → Decides (has_low_min g h q) ((d : Dataset) → Has g d → d.id ≡ q.id → q.min ≤ last_birth d h)
  low_is q =
      each-of (λ (d : Dataset). not (is_id d.id q.id) || nat_le q.min (last_birth d h)) (λ (d : Dataset). d.id ≡ q.id → q.min ≤ last_birth d h) (λ d. implies (is_id d.id q.id) (nat_le q.min (last_birth d h)) (same_id d.id q.id) (at_most q.min (last_birth d h))) g

  pass_is : (d : Dataset) → Decides (is_pass scope s d) ((k : Key) → s.at ≡ ats.Dataset d.id k → IsPass scope s d)
  pass_is d =
      like (is_pass scope s d) (implies (is_on s.at d.id) (nat_le s.curmax scope.max && ((d.head || nat_le s.curmax d.creation) && (s.again || s.curmax == pass_end d scope.max))) (is_on-is s.at d.id) (Decides-and (nat_le s.curmax scope.max) ((d.head || nat_le s.curmax d.creation) && (s.again || s.curmax == pass_end d scope.max)) (at_most s.curmax scope.max) (Decides-and (d.head || nat_le s.curmax d.creation) (s.again || s.curmax == pass_end d scope.max) (unless d.head (nat_le s.curmax d.creation) (at_most s.curmax d.creation)) (unless s.again (s.curmax == pass_end d scope.max) (Decides-eqb s.curmax (pass_end d scope.max)))))) (λ f k at. let r = f (k, at) in record { in_range = r.0; in_snapshot = r.1.0; whole = r.1.1 }) (λ f w. let p = f w.0 w.1 in (p.in_range, (p.in_snapshot, p.whole)))

  ends_is : Decides (ends_by h scope s) (EndsBy h scope s)
  ends_is =
      like (ends_by h scope s) (Decides-or (nat_le scope.max h) (is_nowhere s.at && (nat_le (scope.max - 1) h && (is_first s.todo || is_canceled s.status))) (at_most scope.max h) (Decides-and (is_nowhere s.at) (nat_le (scope.max - 1) h && (is_first s.todo || is_canceled s.status)) (nowhere_is s.at) (Decides-and (nat_le (scope.max - 1) h) (is_first s.todo || is_canceled s.status) (at_most (scope.max - 1) h) (Decides-or (is_first s.todo) (is_canceled s.status) (first_is s.todo) (canceled_is s.status))))) to from
    where
      to : ((scope.max ≤ h) ⊎ ((s.at ≡ Nowhere) × ((scope.max - 1 ≤ h) × ((s.todo ≡ first_todo) ⊎ (s.status ≡ Canceled))))) → EndsBy h scope s
      to (inl le) = past le
      to (inr w) =
          let le : scope.max ≤ h + 1 = omega (arith, w.1.0) in
          elim w.1.1 [ inl f ↦ started w.0 le f | inr x ↦ canceled w.0 le x ]

      from : EndsBy h scope s → ((scope.max ≤ h) ⊎ ((s.at ≡ Nowhere) × ((scope.max - 1 ≤ h) × ((s.todo ≡ first_todo) ⊎ (s.status ≡ Canceled)))))
      from (past le) = inl le
      from (started at le f) = inr (at, (omega (arith, le), inl f))
      from (canceled at le x) = inr (at, (omega (arith, le), inr x))

  rests_is : Decides (is_at_rest s) ((s.status ≡ Scanning → ⊥) → IsAtRest s)
  rests_is =
      otherwise (is_scanning s.status) (is_nowhere s.at && (length s.todo == 0 && not s.paused)) (scanning_is s.status) (like (is_nowhere s.at && (length s.todo == 0 && not s.paused)) (Decides-and (is_nowhere s.at) (length s.todo == 0 && not s.paused) (nowhere_is s.at) (Decides-and (length s.todo == 0) (not s.paused) (empty_is s.todo) (denies s.paused))) (λ w. record { nowhere = w.0; empty = w.1.0; goes_on = w.1.1 }) (λ r. (r.nowhere, (r.empty, r.goes_on))))

  no_pass_is : Decides (has_no_pass s) (ids_at s.at ≡ [] → HasNoPass s)
  no_pass_is =
      implies (is_between s.at) (s.curmin == 0 && (s.curmax == 0 && not s.again)) (between_is s.at) (like (s.curmin == 0 && (s.curmax == 0 && not s.again)) (Decides-and (s.curmin == 0) (s.curmax == 0 && not s.again) (Decides-eqb s.curmin 0) (Decides-and (s.curmax == 0) (not s.again) (Decides-eqb s.curmax 0) (denies s.again))) (λ w. record { no_min = w.0; no_max = w.1.0; no_again = w.1.1 }) (λ r. (r.no_min, (r.no_max, r.no_again))))

  agrees_is : Decides (agrees scope s) ((scope.kind ≡ Idle → s.status ≡ Never) × (s.status ≡ Never → scope.kind ≡ Idle))
  agrees_is =
      Decides-and (not (is_idle scope.kind) || is_never s.status) (not (is_never s.status) || is_idle scope.kind) (implies (is_idle scope.kind) (is_never s.status) (idle_is scope.kind) (never_is s.status)) (implies (is_never s.status) (is_idle scope.kind) (never_is s.status) (idle_is scope.kind))

  logs_is : Decides (list_all (λ (log : List Interval). length log == 0) scope.dirty0) ((log : List Interval) → Has scope.dirty0 log → log ≡ [])
  logs_is =
      each-of (λ (log : List Interval). length log == 0) (λ (log : List Interval). log ≡ []) (λ log. empty_is log) scope.dirty0

  kind_is : Decides (is_of_kind scope s) ((scope.kind ≡ Idle → (scope.min ≡ 0) × (scope.max ≡ 0)) × ((s.paused ≡ true → scope.kind ≡ Scrub) × ((scope.kind ≡ Resilver → ⊥) → (log : List Interval) → Has scope.dirty0 log → log ≡ [])))
  kind_is =
      Decides-and (not (is_idle scope.kind) || (scope.min == 0 && scope.max == 0)) ((not s.paused || is_scrub scope.kind) && (is_resilver scope.kind || list_all (λ (log : List Interval). length log == 0) scope.dirty0)) (implies (is_idle scope.kind) (scope.min == 0 && scope.max == 0) (idle_is scope.kind) (Decides-and (scope.min == 0) (scope.max == 0) (Decides-eqb scope.min 0) (Decides-eqb scope.max 0))) (Decides-and (not s.paused || is_scrub scope.kind) (is_resilver scope.kind || list_all (λ (log : List Interval). length log == 0) scope.dirty0) (implies s.paused (is_scrub scope.kind) (itself s.paused) (scrub_is scope.kind)) (otherwise (is_resilver scope.kind) (list_all (λ (log : List Interval). length log == 0) scope.dirty0) (resilver_is scope.kind) logs_is))

  module _ (below : List DsId) (is_below : (id : DsId) → Has below id ↔ IsBelow g (pending s) id) where
    unrelated_is : Decides (list_all (λ (id : DsId). not (has_id below id)) (pending s)) ((a b : DsId) → Has (pending s) a → Has (pending s) b → Above g a b → ⊥)
    unrelated_is =
        like (list_all (λ (id : DsId). not (has_id below id)) (pending s)) (each-of (λ (id : DsId). not (has_id below id)) (λ (id : DsId). IsBelow g (pending s) id → ⊥) (λ id. Decides-not (has_id below id) (like (has_id below id) (has_id-is below id) (is_below id).0 (is_below id).1)) (pending s)) (λ f a b ha hb above. f b hb (record { root = a; is_root = ha; above = above })) (λ u b hb x. u x.root b x.is_root hb x.above)

    placed_is : Decides (are_placed g (pending s) below) (((id : DsId) → Has (pending s) id → IsOfGraph g id) × (AreDistinct (pending s) × ((a b : DsId) → Has (pending s) a → Has (pending s) b → Above g a b → ⊥)))
    placed_is =
        Decides-and (list_all (λ (id : DsId). is_there g id) (pending s)) (are_distinct (pending s) && list_all (λ (id : DsId). not (has_id below id)) (pending s)) (each-of (λ (id : DsId). is_there g id) (λ (id : DsId). IsOfGraph g id) (λ id. there_is id) (pending s)) (Decides-and (are_distinct (pending s)) (list_all (λ (id : DsId). not (has_id below id)) (pending s)) (distinct_is (pending s)) unrelated_is)

    mins_is : Decides (list_all (λ (q : Todo). has_low_min g h q) s.todo) ((q : Todo) → Has s.todo q → (d : Dataset) → Has g d → d.id ≡ q.id → q.min ≤ last_birth d h)
    mins_is =
        each-of (λ (q : Todo). has_low_min g h q) (λ (q : Todo). (d : Dataset) → Has g d → d.id ≡ q.id → q.min ≤ last_birth d h) (λ q. low_is q) s.todo

    passes_is : Decides (list_all (λ (d : Dataset). is_pass scope s d) g) ((d : Dataset) → Has g d → (k : Key) → s.at ≡ ats.Dataset d.id k → IsPass scope s d)
    passes_is =
        each-of (λ (d : Dataset). is_pass scope s d) (λ (d : Dataset). (k : Key) → s.at ≡ ats.Dataset d.id k → IsPass scope s d) (λ d. pass_is d) g

    pub sound_is : Decides (is_sound (pending s) below g h scope s) (Sound g h scope s)
    sound_is =
        like (is_sound (pending s) below g h scope s) (Decides-and (are_placed g (pending s) below && (list_all (λ (q : Todo). has_low_min g h q) s.todo && list_all (λ (d : Dataset). is_pass scope s d) g)) ((ends_by h scope s && is_at_rest s) && (has_no_pass s && (agrees scope s && is_of_kind scope s))) (Decides-and (are_placed g (pending s) below) (list_all (λ (q : Todo). has_low_min g h q) s.todo && list_all (λ (d : Dataset). is_pass scope s d) g) placed_is (Decides-and (list_all (λ (q : Todo). has_low_min g h q) s.todo) (list_all (λ (d : Dataset). is_pass scope s d) g) mins_is passes_is)) (Decides-and (ends_by h scope s && is_at_rest s) (has_no_pass s && (agrees scope s && is_of_kind scope s)) (Decides-and (ends_by h scope s) (is_at_rest s) ends_is rests_is) (Decides-and (has_no_pass s) (agrees scope s && is_of_kind scope s) no_pass_is (Decides-and (agrees scope s) (is_of_kind scope s) agrees_is kind_is)))) (λ w. record { exist = w.0.0.0; once = w.0.0.1.0; unrelated = w.0.0.1.1; mins = w.0.1.0; ends = w.1.0.0; pass = λ d k here at. w.0.1.1 d here k at; rests = w.1.0.1; between = w.1.1.0; idle = w.1.1.1.0; empty = w.1.1.1.1.0; scrubs = w.1.1.1.1.1.0; logs = w.1.1.1.1.1.1 }) (λ t. (((t.exist, (t.once, t.unrelated)), (t.mins, λ d here k at. t.pass d k here at)), ((t.ends, t.rests), (t.between, (t.idle, (t.empty, (t.scrubs, t.logs)))))))

-- as the function has it
pub sound_from : (g : Graph) (h : ℕ) (scope : Scope) (s : Phys) (ids slice slice2 below : List DsId) (below_slice : List DsId) (r : Bool) → ids ≡ pending s → slice ≡ ids → slice2 ≡ ids → ((id : DsId) → Has below id ↔ IsBelow g slice id) → below_slice ≡ below → r ≡ is_sound slice2 below_slice g h scope s → Decides r (Sound g h scope s)
sound_from g h scope s ids slice slice2 below below_slice r is same same2 all view eq =
    let at = subst (λ (l : List DsId). (id : DsId) → Has below id ↔ IsBelow g l id) (same ∙ is) all in
    let at2 = subst (λ (l : List DsId). (id : DsId) → Has l id ↔ IsBelow g (pending s) id) (sym view) at in
    let d = sound_is g h scope s below_slice at2 in
    let e = eq ∙ ap (λ (l : List DsId). is_sound l below_slice g h scope s) (same2 ∙ is) in
    (λ t. d.0 (sym e ∙ t), λ a. e ∙ d.1 a)
