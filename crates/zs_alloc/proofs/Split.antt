-- A mirror's space as free and taken ranges, when one of them goes over to the others.
use Rattle.std.proofs.Common.{◌≡◌, ◌≤◌, ◌<◌, ◌+◌, ◌-◌, ◌⊎◌, ℕ, Bool, true, false, true≢false, ◌&&◌, ◌||◌, cond, List, [], ◌∷◌, length, Option, Some, None, arith, refl, ap, sym, inl, inr}
use Rattle.std.specs.Prelude.{not}
use Rattle.std.specs.List.{list_any}
use Rattle.std.specs.Ordering.{nat_cmp, is_eq, match_ordering}
use Rattle.std.specs.declared.cmp.Ordering.{Ordering}
use Rattle.std.specs.declared.cmp.Ordering.TheVariants.{Less, Equal, Greater}
use Rattle.std.specs.Map.{keys_of}
use Rattle.std.specs.List.Sorted.{IsStrictlySortedBy}
use Rattle.std.proofs.lemmas.Map.Lookups.{exact_unsigned}
use Rattle.zs_alloc.specs.declared.taken.Taken.{Taken}
use Rattle.zs_alloc.specs.Free.{free_count, hits, is_within, AreFree, AreTaken, IsCut, IsPut}
use Rattle.zs_alloc.specs.Kept.{IsSplit, taken_count, AreSome, AreKept, IsLaidOut}
use Rattle.zs_alloc.specs.Space.{MirrorView, covers, is_free, IsFreeRun, taken_at, fresh, with_range, without_range, is_over}
use Rattle.zs_alloc.proofs.Counts.{hits_in, hits_below, hits_above, where_is}

is_equal : (r : Ordering) → is_eq r ≡ true → r ≡ Equal
is_equal Less h = absurd (true≢false (sym h))
is_equal Equal h = refl
is_equal Greater h = absurd (true≢false (sym h))

-- the counts, with a range more and with one less
insert_step : (k : ℕ) (v : Taken) (e : ℕ × Taken) (es : List (ℕ × Taken)) (s : ℕ) (r : Ordering) → nat_cmp k e.0 ≡ r → cond (is_eq r) (Some e.1) (taken_at es k) ≡ None → (taken_at es k ≡ None → taken_count (with_range es k v) s ≡ hits k (k + v.sectors) s + taken_count es s) → taken_count (match_ordering r ((k, v) ∷ e ∷ es) ((e.0, v) ∷ es) (e ∷ with_range es k v)) s ≡ hits k (k + v.sectors) s + taken_count (e ∷ es) s
insert_step k v e es s Less is absent ih = refl
insert_step k v e es s Equal is absent ih = cc
insert_step k v e es s Greater is absent ih = let rest = ih absent in omega arith

pub count_insert : (es : List (ℕ × Taken)) (k : ℕ) (v : Taken) (s : ℕ) → taken_at es k ≡ None → taken_count (with_range es k v) s ≡ hits k (k + v.sectors) s + taken_count es s
count_insert [] k v s absent = refl
count_insert (e ∷ es) k v s absent = insert_step k v e es s (nat_cmp k e.0) refl absent (count_insert es k v s)

remove_step : (k : ℕ) (v : Taken) (e : ℕ × Taken) (es : List (ℕ × Taken)) (s : ℕ) (b : Bool) → is_eq (nat_cmp k e.0) ≡ b → cond b (Some e.1) (taken_at es k) ≡ Some v → (taken_at es k ≡ Some v → taken_count (without_range es k) s + hits k (k + v.sectors) s ≡ taken_count es s) → taken_count (cond b es (e ∷ without_range es k)) s + hits k (k + v.sectors) s ≡ taken_count (e ∷ es) s
remove_step k v e es s true is there ih =
    let key : k ≡ e.0 = exact_unsigned _ _ (is_equal (nat_cmp k e.0) is) in
    let value : e.1 ≡ v = cc in
    rw (key, ← value) (omega arith)
remove_step k v e es s false is there ih = let rest = ih there in omega arith

pub count_remove : (es : List (ℕ × Taken)) (k : ℕ) (v : Taken) (s : ℕ) → taken_at es k ≡ Some v → taken_count (without_range es k) s + hits k (k + v.sectors) s ≡ taken_count es s
count_remove [] k v s there = cc
count_remove (e ∷ es) k v s there = remove_step k v e es s (is_eq (nat_cmp k e.0)) refl there (count_remove es k v s)

-- the range that is taken from a sector on has its sectors
pub at_count : (es : List (ℕ × Taken)) (k : ℕ) (v : Taken) (s : ℕ) → taken_at es k ≡ Some v → k ≤ s → s < k + v.sectors → 1 ≤ taken_count es s
at_count es k v s there le lt =
    let rest = count_remove es k v s there in
    let own = hits_in k (k + v.sectors) s le lt in
    omega arith

length_step : (k : ℕ) (v : Taken) (e : ℕ × Taken) (es : List (ℕ × Taken)) (b : Bool) → cond b (Some e.1) (taken_at es k) ≡ Some v → (taken_at es k ≡ Some v → length (without_range es k) + 1 ≡ length es) → length (cond b es (e ∷ without_range es k)) + 1 ≡ length (e ∷ es)
length_step k v e es true there ih = omega arith
length_step k v e es false there ih = let rest = ih there in omega arith

pub length_remove : (es : List (ℕ × Taken)) (k : ℕ) (v : Taken) → taken_at es k ≡ Some v → length (without_range es k) + 1 ≡ length es
length_remove [] k v there = cc
length_remove (e ∷ es) k v there = length_step k v e es (is_eq (nat_cmp k e.0)) there (length_remove es k v)

some_insert_step : (k : ℕ) (v : Taken) (e : ℕ × Taken) (es : List (ℕ × Taken)) (r : Ordering) → 0 < v.sectors → AreSome (e ∷ es) → AreSome (with_range es k v) → AreSome (match_ordering r ((k, v) ∷ e ∷ es) ((e.0, v) ∷ es) (e ∷ with_range es k v))
some_insert_step k v e es Less some all ih = (some, all)
some_insert_step k v e es Equal some all ih = (some, all.1)
some_insert_step k v e es Greater some all ih = (all.0, ih)

pub some_insert : (es : List (ℕ × Taken)) (k : ℕ) (v : Taken) → 0 < v.sectors → AreSome es → AreSome (with_range es k v)
some_insert [] k v some all = (some, tt)
some_insert (e ∷ es) k v some all = some_insert_step k v e es (nat_cmp k e.0) some all (some_insert es k v some all.1)

some_remove_step : (k : ℕ) (e : ℕ × Taken) (es : List (ℕ × Taken)) (b : Bool) → AreSome (e ∷ es) → AreSome (without_range es k) → AreSome (cond b es (e ∷ without_range es k))
some_remove_step k e es true all ih = all.1
some_remove_step k e es false all ih = (all.0, ih)

pub some_remove : (es : List (ℕ × Taken)) (k : ℕ) → AreSome es → AreSome (without_range es k)
some_remove [] k all = tt
some_remove (e ∷ es) k all = some_remove_step k e es (is_eq (nat_cmp k e.0)) all (some_remove es k all.1)

kept_insert_step : (k : ℕ) (v : Taken) (e : ℕ × Taken) (es : List (ℕ × Taken)) (r : Ordering) → is_over v ≡ false → AreKept (e ∷ es) → AreKept (with_range es k v) → AreKept (match_ordering r ((k, v) ∷ e ∷ es) ((e.0, v) ∷ es) (e ∷ with_range es k v))
kept_insert_step k v e es Less over all ih = (over, all)
kept_insert_step k v e es Equal over all ih = (over, all.1)
kept_insert_step k v e es Greater over all ih = (all.0, ih)

pub kept_insert : (es : List (ℕ × Taken)) (k : ℕ) (v : Taken) → is_over v ≡ false → AreKept es → AreKept (with_range es k v)
kept_insert [] k v over all = (over, tt)
kept_insert (e ∷ es) k v over all = kept_insert_step k v e es (nat_cmp k e.0) over all (kept_insert es k v over all.1)

kept_remove_step : (k : ℕ) (e : ℕ × Taken) (es : List (ℕ × Taken)) (b : Bool) → AreKept (e ∷ es) → AreKept (without_range es k) → AreKept (cond b es (e ∷ without_range es k))
kept_remove_step k e es true all ih = all.1
kept_remove_step k e es false all ih = (all.0, ih)

pub kept_remove : (es : List (ℕ × Taken)) (k : ℕ) → AreKept es → AreKept (without_range es k)
kept_remove [] k all = tt
kept_remove (e ∷ es) k all = kept_remove_step k e es (is_eq (nat_cmp k e.0)) all (kept_remove es k all.1)

some_at_step : (k : ℕ) (v : Taken) (e : ℕ × Taken) (es : List (ℕ × Taken)) (b : Bool) → cond b (Some e.1) (taken_at es k) ≡ Some v → AreSome (e ∷ es) → (taken_at es k ≡ Some v → 0 < v.sectors) → 0 < v.sectors
some_at_step k v e es true there all ih = let value : e.1 ≡ v = cc in rw (← value) all.0
some_at_step k v e es false there all ih = ih there

pub some_at : (es : List (ℕ × Taken)) (k : ℕ) (v : Taken) → taken_at es k ≡ Some v → AreSome es → 0 < v.sectors
some_at [] k v there all = cc
some_at (e ∷ es) k v there all = some_at_step k v e es (is_eq (nat_cmp k e.0)) there all (λ h. some_at es k v h all.1)

abbrev one : Bool → ℕ
one b = cond b 1 0

-- a sector is counted among the taken ranges where one of them has it
covered_step : (e : ℕ × Taken) (es : List (ℕ × Taken)) (s : ℕ) (b : Bool) → covers s e ≡ b → (list_any (covers s) es ≡ false → taken_count es s ≡ 0) → (b || list_any (covers s) es) ≡ false → hits e.0 (e.0 + e.1.sectors) s + taken_count es s ≡ 0
unfolding hits
covered_step e es s true is ih none = absurd (true≢false none)
covered_step e es s false is ih none = let rest = ih none in let own : hits e.0 (e.0 + e.1.sectors) s ≡ 0 = ap (λ (b : Bool). one b) is in omega arith

pub none_covered : (es : List (ℕ × Taken)) (s : ℕ) → list_any (covers s) es ≡ false → taken_count es s ≡ 0
none_covered [] s none = refl
none_covered (e ∷ es) s none = covered_step e es s (covers s e) refl (none_covered es s) none

uncovered_step : (e : ℕ × Taken) (es : List (ℕ × Taken)) (s : ℕ) (b : Bool) → covers s e ≡ b → (taken_count es s ≡ 0 → list_any (covers s) es ≡ false) → hits e.0 (e.0 + e.1.sectors) s + taken_count es s ≡ 0 → (b || list_any (covers s) es) ≡ false
unfolding hits
uncovered_step e es s true is ih none = let own : hits e.0 (e.0 + e.1.sectors) s ≡ 1 = ap (λ (b : Bool). one b) is in absurd (omega arith)
uncovered_step e es s false is ih none = ih (omega arith)

pub covered_none : (es : List (ℕ × Taken)) (s : ℕ) → taken_count es s ≡ 0 → list_any (covers s) es ≡ false
covered_none [] s none = refl
covered_none (e ∷ es) s none = uncovered_step e es s (covers s e) refl (covered_none es s) none

within_step : (b : Bool) → 1 ≤ one b → b ≡ true
within_step true h = refl
within_step false h = absurd (omega arith)

pub hits_within : (a b s : ℕ) → 1 ≤ hits a b s → is_within a b s ≡ true
unfolding hits
hits_within a b s h = within_step (is_within a b s) h

pub within_hits : (a b s : ℕ) → is_within a b s ≡ true → hits a b s ≡ 1
unfolding hits
within_hits a b s h = ap (λ t. one t) h

pub hits_most : (a b s : ℕ) → hits a b s ≤ 1
hits_most a b s = elim (where_is a b s) [
  | inl low ↦ let is = hits_below a b s low in omega arith
  | inr at ↦ elim at [
    | inl mid ↦ let is = hits_in a b s mid.0 mid.1 in omega arith
    | inr up ↦ let is = hits_above a b s up in omega arith
  ]
]

and_parts : (a b : Bool) → (a && not b) ≡ true → (a ≡ true) × (b ≡ false)
and_parts true false h = (refl, refl)
and_parts true true h = absurd (true≢false (sym h))
and_parts false b h = absurd (true≢false (sym h))

both_true : (a b : Bool) → a ≡ true → b ≡ false → (a && not b) ≡ true
both_true a b p q = rw (p, q) refl

-- the free sectors are those of the free ranges
module _ (start end : ℕ) (free : List Bool) (taken : List (ℕ × Taken)) (split : IsSplit start end free taken) where
  mirror : MirrorView
  mirror = record { start = start; end = end; taken = taken }

  pub run_free : (a n : ℕ) → IsFreeRun (record { start = start; end = end; taken = taken }) a n → AreFree free a (a + n)
  unfolding is_free
  run_free a n run = record {
    each = λ s p q.
        let both = and_parts (is_within start end s) (list_any (covers s) taken) (run.each s p q) in
        let in_ = within_hits start end s both.0 in
        let none = none_covered taken s both.1 in
        let sum = split.parts s in
        omega arith;
  }

  pub free_run : (a n : ℕ) → AreFree free a (a + n) → IsFreeRun (record { start = start; end = end; taken = taken }) a n
  unfolding is_free
  free_run a n run = record {
    each = λ s p q.
        let some = run.each s p q in
        let sum = split.parts s in
        let most = hits_most start end s in
        both_true (is_within start end s) (list_any (covers s) taken) (hits_within start end s (omega arith)) (covered_none taken s (omega arith));
  }

  -- a taken range lies in the space, and none of its sectors is free
  module _ (a : ℕ) (v : Taken) (there : taken_at taken a ≡ Some v) where
    pub taken_some : 0 < v.sectors
    taken_some = some_at taken a v there split.some

    pub taken_free : AreTaken free a (a + v.sectors)
    taken_free = record {
      each = λ s p q.
          let one_ = at_count taken a v s there p q in
          let sum = split.parts s in
          let most = hits_most start end s in
          omega arith;
    }

    pub taken_end : a + v.sectors ≤ end
    taken_end = reaches (bounds (a + v.sectors) end)
      where
        bounds : (x y : ℕ) → (x ≤ y) ⊎ (y < x)
        bounds x y = grind arith

        reaches : (a + v.sectors ≤ end) ⊎ (end < a + v.sectors) → a + v.sectors ≤ end
        reaches (inl le) = le
        reaches (inr lt) =
            let some = taken_some in
            let last = a + v.sectors - 1 in
            let one_ = at_count taken a v last there (omega arith) (omega arith) in
            let none = hits_above start end last (omega arith) in
            let sum = split.parts last in
            absurd (omega arith)

    pub split_put : (new : List Bool) (taken' : List (ℕ × Taken)) → IsPut free a (a + v.sectors) new → taken' ≡ without_range taken a → IsStrictlySortedBy nat_cmp (keys_of taken') → IsSplit start end new taken'
    split_put new taken' put is sorted = record {
      parts = λ s.
          let was = split.parts s in
          let now = put.count s in
          let less = count_remove taken a v s there in
          rw is (omega arith);
      some = rw is (some_remove taken a split.some);
      kept = rw is (kept_remove taken a split.kept);
      sorted = sorted;
    }

  free_absent : (a : ℕ) (o : Option Taken) → taken_at taken a ≡ o → 1 ≤ free_count free a → o ≡ None
  free_absent a None is some = refl
  free_absent a (Some v) is some =
      let size = taken_some a v is in
      let none = (taken_free a v is).each a (omega arith) (omega arith) in
      absurd (omega arith)

  pub split_cut : (a n : ℕ) (new : List Bool) (taken' : List (ℕ × Taken)) → 0 < n → AreFree free a (a + n) → IsCut free a (a + n) new → taken' ≡ with_range taken a (fresh n) → IsStrictlySortedBy nat_cmp (keys_of taken') → IsSplit start end new taken'
  split_cut a n new taken' some run cut is sorted =
      let absent = free_absent a (taken_at taken a) refl (run.each a (omega arith) (omega arith)) in
      record {
        parts = λ s.
            let was = split.parts s in
            let now = cut.count s in
            let more = count_insert taken a (fresh n) s absent in
            rw is (omega arith);
        some = rw is (some_insert taken a (fresh n) some split.some);
        kept = rw is (kept_insert taken a (fresh n) refl split.kept);
        sorted = sorted;
      }

-- a space of which nothing is taken
pub split_blank : (start end : ℕ) (free : List Bool) → ((s : ℕ) → free_count free s ≡ hits start end s) → IsSplit start end free []
unfolding IsStrictlySortedBy
split_blank start end free all = record { parts = λ s. let is = all s in omega arith; some = tt; kept = tt; sorted = tt }

-- a free run ends where the space does or before
pub run_end : (m : MirrorView) (a n : ℕ) → 0 < n → IsFreeRun m a n → a + n ≤ m.end
unfolding is_free
run_end m a n some run = reaches (bounds (a + n) m.end)
  where
    bounds : (x y : ℕ) → (x ≤ y) ⊎ (y < x)
    bounds x y = grind arith

    reaches : (a + n ≤ m.end) ⊎ (m.end < a + n) → a + n ≤ m.end
    reaches (inl le) = le
    reaches (inr lt) =
        let last = a + n - 1 in
        let both = and_parts (is_within m.start m.end last) (list_any (covers last) m.taken) (run.each last (omega arith) (omega arith)) in
        let in_ = within_hits m.start m.end last both.0 in
        let none = hits_above m.start m.end last (omega arith) in
        absurd (omega arith)

pub laid_out : (m : MirrorView) (free : List Bool) → IsSplit m.start m.end free m.taken → IsLaidOut m
laid_out m free split = record {
  apart = λ s. let sum = split.parts s in omega arith;
  some = split.some;
  kept = split.kept;
  sorted = split.sorted;
}
