-- A taken range changed in its place.
use Rattle.std.proofs.Common.{◌≡◌, ◌<◌, ◌+◌, ◌∙◌, ℕ, Bool, true, false, cond, List, [], ◌∷◌, length, Some, None, arith, refl, ap, sym, subst}
use Rattle.std.specs.Prelude.{not}
use Rattle.std.specs.Ordering.{nat_cmp, is_eq, match_ordering}
use Rattle.std.specs.declared.cmp.Ordering.{Ordering}
use Rattle.std.specs.declared.cmp.Ordering.TheVariants.{Less, Equal, Greater}
use Rattle.std.specs.Map.{keys_of}
use Rattle.std.specs.BTreeMap.{is_at}
use Rattle.std.specs.List.Sorted.{IsStrictlySortedBy}
use Rattle.std.proofs.lemmas.Cmp.{nat_cmp_total}
use Rattle.std.proofs.lemmas.Map.{NonePasses, lookup-none}
use Rattle.std.proofs.lemmas.Map.Entries.{none_below_head}
use Rattle.std.proofs.lemmas.Map.Keys.{sorted_head, sorted_tail}
use Rattle.std.specs.List.{AllByRecursion}
use Rattle.zs_alloc.specs.declared.taken.Taken.{Taken}
use Rattle.zs_alloc.specs.Free.{hits}
use Rattle.zs_alloc.specs.Kept.{IsSplit, IsUpdate, taken_count, AreSome, AreKept}
use Rattle.zs_alloc.specs.Space.{taken_at, with_range, without_range, changed, is_from, still_taken, is_over}
use Rattle.zs_alloc.proofs.Split.{kept_insert}

Entries : Type 0
Entries = List (ℕ × Taken)

-- keys above one are not equal to it
past_head : (k : ℕ) (es : List (ℕ × Taken)) → AllByRecursion (λ y. nat_cmp k y ≡ Less) (keys_of es) → NonePasses (is_at (nat_cmp k)) es
past_head k [] all = tt
past_head k (e ∷ es) all = (ap is_eq all.0, past_head k es all.1)

pub changed_none : (k : ℕ) (f : Taken → Taken) (es : List (ℕ × Taken)) → NonePasses (is_at (nat_cmp k)) es → changed k f es ≡ es
changed_none k f [] none = refl
changed_none k f (e ∷ es) none =
    let head : (e.0, cond (is_from k e) (f e.1) e.1) ≡ e = ap (λ (b : Bool). pair e.0 (cond b (f e.1) e.1)) none.0 in
    ap (λ (x : ℕ × Taken). x ∷ changed k f es) head ∙ ap (λ l. e ∷ l) (changed_none k f es none.1)
  where
    pair : ℕ → Taken → ℕ × Taken
    pair a b = (a, b)

equal_key : (k q : ℕ) → nat_cmp k q ≡ Equal → k ≡ q
equal_key k q h = Rattle.std.proofs.lemmas.Map.Lookups.exact_unsigned _ _ h

-- a range put over the one that is there is that one changed
insert_step : (k : ℕ) (v : Taken) (f : Taken → Taken) (e : ℕ × Taken) (es : List (ℕ × Taken)) (r : Ordering) → nat_cmp k e.0 ≡ r → IsStrictlySortedBy nat_cmp (keys_of (e ∷ es)) → cond (is_eq r) (Some e.1) (taken_at es k) ≡ Some v → (taken_at es k ≡ Some v → with_range es k (f v) ≡ changed k f es) → match_ordering r ((k, f v) ∷ e ∷ es) ((e.0, f v) ∷ es) (e ∷ with_range es k (f v)) ≡ (e.0, cond (is_eq r) (f e.1) e.1) ∷ changed k f es
insert_step k v f e es Less is sorted there ih =
    let none : taken_at (e ∷ es) k ≡ None = lookup-none (is_at (nat_cmp k)) (e ∷ es) (none_below_head nat_cmp_total k e es sorted is) in
    let some : taken_at (e ∷ es) k ≡ Some v = ap (λ (b : Ordering). cond (is_eq b) (Some e.1) (taken_at es k)) is ∙ there in
    absurd (none_some (sym none ∙ some))
  where
    none_some : None ≡ Some v → ⊥
    none_some h = cc
insert_step k v f e es Equal is sorted there ih =
    let value : e.1 ≡ v = cc in
    let key = equal_key k e.0 is in
    let none = past_head k es (subst (λ q. AllByRecursion (λ y. nat_cmp q y ≡ Less) (keys_of es)) (sym key) (sorted_head nat_cmp e.0 (keys_of es) sorted)) in
    ap (λ w. (e.0, f w) ∷ es) (sym value) ∙ ap (λ l. (e.0, f e.1) ∷ l) (sym (changed_none k f es none))
insert_step k v f e es Greater is sorted there ih = ap (λ l. e ∷ l) (ih there)

pub insert_changed : (es : List (ℕ × Taken)) (k : ℕ) (v : Taken) (f : Taken → Taken) → IsStrictlySortedBy nat_cmp (keys_of es) → taken_at es k ≡ Some v → with_range es k (f v) ≡ changed k f es
insert_changed [] k v f sorted there = cc
insert_changed (e ∷ es) k v f sorted there = insert_step k v f e es (nat_cmp k e.0) refl sorted there (insert_changed es k v f (sorted_tail nat_cmp e.0 (keys_of es) sorted))

pub count_changed : (es : List (ℕ × Taken)) (k : ℕ) (f : Taken → Taken) (s : ℕ) → ((e : Taken) → (f e).sectors ≡ e.sectors) → taken_count (changed k f es) s ≡ taken_count es s
count_changed [] k f s same = refl
count_changed (e ∷ es) k f s same = ap (λ n. n + taken_count (changed k f es) s) (ap (λ n. hits e.0 (e.0 + n) s) (size (is_from k e))) ∙ ap (λ n. hits e.0 (e.0 + e.1.sectors) s + n) (count_changed es k f s same)
  where
    size : (b : Bool) → (cond b (f e.1) e.1).sectors ≡ e.1.sectors
    size true = same e.1
    size false = refl

pub some_changed : (es : List (ℕ × Taken)) (k : ℕ) (f : Taken → Taken) → ((e : Taken) → (f e).sectors ≡ e.sectors) → AreSome es → AreSome (changed k f es)
some_changed [] k f same all = tt
some_changed (e ∷ es) k f same all = (some (is_from k e), some_changed es k f same all.1)
  where
    some : (b : Bool) → 0 < (cond b (f e.1) e.1).sectors
    some true = rw (same e.1) all.0
    some false = all.0

pub length_changed : (es : List (ℕ × Taken)) (k : ℕ) (f : Taken → Taken) → length (changed k f es) ≡ length es
length_changed [] k f = refl
length_changed (e ∷ es) k f = let rest = length_changed es k f in omega arith

pub kept_changed : (es : List (ℕ × Taken)) (k : ℕ) (f : Taken → Taken) → ((e : Taken) → is_over (f e) ≡ false) → AreKept es → AreKept (changed k f es)
kept_changed [] k f none all = tt
kept_changed (e ∷ es) k f none all = (kept (is_from k e), kept_changed es k f none all.1)
  where
    kept : (b : Bool) → is_over (cond b (f e.1) e.1) ≡ false
    kept true = none e.1
    kept false = all.0

pub still_same : (es : List (ℕ × Taken)) → AreKept es → still_taken es ≡ es
still_same [] all = refl
still_same (e ∷ es) all = ap (λ (b : Bool). cond (not b) (e ∷ still_taken es) (still_taken es)) all.0 ∙ ap (λ l. e ∷ l) (still_same es all.1)

-- a range that is over goes
over_step : (k : ℕ) (v w : Taken) (e : ℕ × Taken) (es : List (ℕ × Taken)) (r : Ordering) → nat_cmp k e.0 ≡ r → is_over w ≡ true → IsStrictlySortedBy nat_cmp (keys_of (e ∷ es)) → AreKept (e ∷ es) → cond (is_eq r) (Some e.1) (taken_at es k) ≡ Some v → (taken_at es k ≡ Some v → still_taken (with_range es k w) ≡ without_range es k) → still_taken (match_ordering r ((k, w) ∷ e ∷ es) ((e.0, w) ∷ es) (e ∷ with_range es k w)) ≡ cond (is_eq r) es (e ∷ without_range es k)
over_step k v w e es Less is over sorted kept there ih =
    let none : taken_at (e ∷ es) k ≡ None = lookup-none (is_at (nat_cmp k)) (e ∷ es) (none_below_head nat_cmp_total k e es sorted is) in
    let some : taken_at (e ∷ es) k ≡ Some v = ap (λ (b : Ordering). cond (is_eq b) (Some e.1) (taken_at es k)) is ∙ there in
    absurd (none_some (sym none ∙ some))
  where
    none_some : None ≡ Some v → ⊥
    none_some h = cc
over_step k v w e es Equal is over sorted kept there ih = ap (λ (b : Bool). cond (not b) ((e.0, w) ∷ still_taken es) (still_taken es)) over ∙ still_same es kept.1
over_step k v w e es Greater is over sorted kept there ih = ap (λ (b : Bool). cond (not b) (e ∷ still_taken (with_range es k w)) (still_taken (with_range es k w))) kept.0 ∙ ap (λ l. e ∷ l) (ih there)

pub over_goes : (es : List (ℕ × Taken)) (k : ℕ) (v w : Taken) → is_over w ≡ true → IsStrictlySortedBy nat_cmp (keys_of es) → AreKept es → taken_at es k ≡ Some v → still_taken (with_range es k w) ≡ without_range es k
over_goes [] k v w over sorted kept there = cc
over_goes (e ∷ es) k v w over sorted kept there = over_step k v w e es (nat_cmp k e.0) refl over sorted kept there (over_goes es k v w over (sorted_tail nat_cmp e.0 (keys_of es) sorted) kept.1)

pub not_over : (es : List (ℕ × Taken)) (k : ℕ) (w : Taken) → is_over w ≡ false → AreKept es → still_taken (with_range es k w) ≡ with_range es k w
not_over es k w over kept = still_same (with_range es k w) (kept_insert es k w over kept)

-- the space when a taken range is changed and does not go
pub split_update : (start end : ℕ) (free : List Bool) (taken : List (ℕ × Taken)) (k : ℕ) (w : Taken) (taken' : List (ℕ × Taken)) → IsSplit start end free taken → IsUpdate taken k w → is_over w ≡ false → taken' ≡ with_range taken k w → IsStrictlySortedBy nat_cmp (keys_of taken') → IsSplit start end free taken'
split_update start end free taken k w taken' split update over is sorted =
    let f : Taken → Taken = λ e. record e { pins = w.pins; freed = w.freed } in
    let whole : f update.was ≡ w = ap (λ n. made n) update.size in
    let put : taken' ≡ changed k f taken = is ∙ ap (λ x. with_range taken k x) (sym whole) ∙ insert_changed taken k update.was f split.sorted update.there in
    record {
      parts = λ s. let was = split.parts s in let same = count_changed taken k f s (λ e. refl) in rw put (omega arith);
      some = rw put (some_changed taken k f (λ e. refl) split.some);
      kept = rw is (kept_insert taken k w over split.kept);
      sorted = sorted;
    }
  where
    made : ℕ → Taken
    made n = record { sectors = n; pins = w.pins; freed = w.freed }
