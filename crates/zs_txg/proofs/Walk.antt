-- A walk over what is staged, from one entry to the next above it.
use Rattle.std.proofs.Common.{◌≡◌, ◌∙◌, sym, ap, subst, refl, arith, true≢false, ℕ, ◌<◌, ◌==◌, Bool, true, false, cond, List, [], ◌∷◌, ◌++◌, map, length, Option, Some, None, find, filter, eqb-true, lt-ltb, ltb-true, nat_lt, append-nil, append_assoc}
use Rattle.std.specs.declared.cmp.Ordering.TheVariants.{Less, Equal, Greater}
use Rattle.std.specs.Ordering.{is_lt, nat_cmp, ordering_then, ordering_reverse}
use Rattle.std.proofs.lemmas.Cmp.{tied_itself, nat_cmp_total}
use Rattle.std.specs.Map.{keys_of}
use Rattle.std.specs.List.{AllByRecursion}
use Rattle.std.specs.List.Sorted.{IsStrictlySortedBy}
use Rattle.zs_ids.specs.Key.{key_cmp}
use Rattle.zs_ids.specs.declared.dataset.DsId.{DsId}
use Rattle.zs_txg.specs.declared.staged.Staging.{Staging}
use Rattle.zs_txg.specs.Txg.{Slot, slot_cmp, is_after, first_after, staged_for, entry_of, IsInSlotOrder}
use Rattle.zs_txg.proofs.Slots.{slot_total, after_up}

some_same : (e x : Slot × Staging) → Some x ≡ Some e → x ≡ e
some_same e x h = ap (λ o. elim o as (λ _. Slot × Staging) [ Some y ↦ y | None ↦ e ]) h

not_some : (e : Slot × Staging) → None ≡ Some e → ⊥
not_some e h = true≢false (ap (λ o. elim o as (λ _. Bool) [ Some y ↦ false | None ↦ true ]) h)

-- all above a slot are kept
keep_all : (p : Slot → Bool) (es : List (Slot × Staging)) → AllByRecursion (λ k. p k ≡ true) (keys_of es) → filter (λ x. p x.0) es ≡ es
keep_all p [] h = refl
keep_all p (x ∷ es) h = ap (λ b. cond b (x ∷ filter (λ y. p y.0) es) (filter (λ y. p y.0) es)) h.0 ∙ ap (λ l. x ∷ l) (keep_all p es h.1)

all_up : (P Q : Slot → Type 0) (ks : List Slot) → ((k : Slot) → P k → Q k) → AllByRecursion P ks → AllByRecursion Q ks
all_up P Q [] f h = tt
all_up P Q (k ∷ ks) f h = (f k h.0, all_up P Q ks f h.1)

found_case : (P : Slot → Type 0) (x e : Slot × Staging) (b : Bool) (f : Option (Slot × Staging)) → P x.0 → (f ≡ Some e → P e.0) → cond b (Some x) f ≡ Some e → P e.0
found_case P x e true f h g q = subst (λ (y : Slot × Staging). P y.0) (some_same e x q) h
found_case P x e false f h g q = g q

found_all : (P : Slot → Type 0) (p : Slot → Bool) (es : List (Slot × Staging)) (e : Slot × Staging) → AllByRecursion P (keys_of es) → find (λ x. p x.0) es ≡ Some e → P e.0
found_all P p [] e h f = absurd (not_some e f)
found_all P p (x ∷ es) e h f = found_case P x e (p x.0) (find (λ y. p y.0) es) h.0 (found_all P p es e h.1) f

self_not : (k : Slot) → is_lt (slot_cmp k k) ≡ false
self_not k = ap is_lt (tied_itself slot_total k)

flip_not : (x e : Slot) → slot_cmp x e ≡ Less → is_lt (slot_cmp e x) ≡ false
flip_not x e h = ap is_lt (slot_total.antisymm e x ∙ ap ordering_reverse h)

rest_case : (after : Option Slot) (x e : Slot × Staging) (es : List (Slot × Staging)) (b : Bool) → is_after after x.0 ≡ b → IsInSlotOrder (x ∷ es) → (find (λ y. is_after after y.0) es ≡ Some e → filter (λ y. is_after after y.0) es ≡ e ∷ filter (λ y. is_lt (slot_cmp e.0 y.0)) es) → cond b (Some x) (find (λ y. is_after after y.0) es) ≡ Some e → cond b (x ∷ filter (λ y. is_after after y.0) es) (filter (λ y. is_after after y.0) es) ≡ e ∷ cond (is_lt (slot_cmp e.0 x.0)) (x ∷ filter (λ y. is_lt (slot_cmp e.0 y.0)) es) (filter (λ y. is_lt (slot_cmp e.0 y.0)) es)
unfolding IsStrictlySortedBy
rest_case after x e es true t s ih h =
    let all : AllByRecursion (λ k. is_after after k ≡ true) (keys_of es) = all_up (λ k. slot_cmp x.0 k ≡ Less) (λ k. is_after after k ≡ true) (keys_of es) (λ k l. after_up after x.0 k t l) s.0 in
    let more : AllByRecursion (λ k. is_lt (slot_cmp x.0 k) ≡ true) (keys_of es) = all_up (λ k. slot_cmp x.0 k ≡ Less) (λ k. is_lt (slot_cmp x.0 k) ≡ true) (keys_of es) (λ k l. ap is_lt l) s.0 in
    subst (λ (z : Slot × Staging). x ∷ filter (λ y. is_after after y.0) es ≡ z ∷ cond (is_lt (slot_cmp z.0 x.0)) (x ∷ filter (λ y. is_lt (slot_cmp z.0 y.0)) es) (filter (λ y. is_lt (slot_cmp z.0 y.0)) es)) (some_same e x h)
    (ap (λ l. x ∷ l) (keep_all (is_after after) es all ∙ sym (keep_all (λ k. is_lt (slot_cmp x.0 k)) es more)
    ∙ sym (ap (λ b. cond b (x ∷ filter (λ y. is_lt (slot_cmp x.0 y.0)) es) (filter (λ y. is_lt (slot_cmp x.0 y.0)) es)) (self_not x.0))))
rest_case after x e es false t s ih h =
    ih h ∙ ap (λ l. e ∷ l) (sym (ap (λ b. cond b (x ∷ filter (λ y. is_lt (slot_cmp e.0 y.0)) es) (filter (λ y. is_lt (slot_cmp e.0 y.0)) es)) (flip_not x.0 e.0 (found_all (λ k. slot_cmp x.0 k ≡ Less) (is_after after) es e s.0 h))))

-- what is above a slot is its first and what is above that
pub rest_is : (after : Option Slot) (es : List (Slot × Staging)) (e : Slot × Staging) → IsInSlotOrder es → first_after es after ≡ Some e → filter (λ y. is_after after y.0) es ≡ e ∷ filter (λ y. is_after (Some e.0) y.0) es
unfolding IsStrictlySortedBy
rest_is after [] e s h = absurd (not_some e h)
rest_is after (x ∷ es) e s h = rest_case after x e es (is_after after x.0) refl s (rest_is after es e s.1) h

none_case : (p : Slot → Bool) (x : Slot × Staging) (es : List (Slot × Staging)) (b : Bool) → (find (λ y. p y.0) es ≡ None → filter (λ y. p y.0) es ≡ []) → cond b (Some x) (find (λ y. p y.0) es) ≡ None → cond b (x ∷ filter (λ y. p y.0) es) (filter (λ y. p y.0) es) ≡ []
none_case p x es true ih h = absurd (not_some x (sym h))
none_case p x es false ih h = ih h

pub none_is : (p : Slot → Bool) (es : List (Slot × Staging)) → find (λ y. p y.0) es ≡ None → filter (λ y. p y.0) es ≡ []
none_is p [] h = refl
none_is p (x ∷ es) h = none_case p x es (p x.0) (none_is p es) h

-- ---- the staged blocks of one dataset, from a slot on

abbrev pub rest_for : List (Slot × Staging) → Option Slot → DsId → List (Slot × Staging)
rest_for es after ds = staged_for (filter (λ y. is_after after y.0) es) ds

append_for : (ds : DsId) (b : Bool) (e : Slot × Staging) (f : List (Slot × Staging)) → map entry_of (cond b (e ∷ f) f) ≡ map entry_of (cond b (e ∷ []) []) ++ map entry_of f
append_for ds true e f = refl
append_for ds false e f = refl

pub walk_step : (after : Option Slot) (es : List (Slot × Staging)) (e : Slot × Staging) (ds : DsId) → IsInSlotOrder es → first_after es after ≡ Some e → map entry_of (rest_for es after ds) ≡ map entry_of (staged_for (e ∷ []) ds) ++ map entry_of (rest_for es (Some e.0) ds)
walk_step after es e ds s h = ap (λ l. map entry_of (staged_for l ds)) (rest_is after es e s h) ∙ append_for ds (e.0.0.0 == ds.0) e (rest_for es (Some e.0) ds)

pub walk_shorter : (after : Option Slot) (es : List (Slot × Staging)) (e : Slot × Staging) → IsInSlotOrder es → first_after es after ≡ Some e → length (filter (λ y. is_after (Some e.0) y.0) es) < length (filter (λ y. is_after after y.0) es)
walk_shorter after es e s h = subst (λ l. length (filter (λ y. is_after (Some e.0) y.0) es) < length l) (sym (rest_is after es e s h)) (omega arith)

pub walk_ends : (after : Option Slot) (es : List (Slot × Staging)) (ds : DsId) → first_after es after ≡ None → map entry_of (rest_for es after ds) ≡ []
walk_ends after es ds h = ap (λ l. map entry_of (staged_for l ds)) (none_is (is_after after) es h)

begin_true : (x : Slot × Staging) (f g : List (Slot × Staging)) (ds : DsId) (b : Bool) → staged_for f ds ≡ g → cond b (x ∷ staged_for f ds) (staged_for f ds) ≡ cond b (x ∷ g) g
begin_true x f g ds b h = ap (λ l. cond b (x ∷ l) l) h

begin_case : (x : Slot × Staging) (f g : List (Slot × Staging)) (ds : DsId) (a b : Bool) → (x.0.0.0 == ds.0) ≡ b → (b ≡ true → a ≡ true) → staged_for f ds ≡ g → staged_for (cond a (x ∷ f) f) ds ≡ cond b (x ∷ g) g
begin_case x f g ds true b q h ih = ap (λ c. cond c (x ∷ staged_for f ds) (staged_for f ds)) q ∙ begin_true x f g ds b ih
begin_case x f g ds false true q h ih = absurd (true≢false (sym (h refl)))
begin_case x f g ds false false q h ih = ih

pub walk_begins : (after : Option Slot) (es : List (Slot × Staging)) (ds : DsId) → ((x : Slot) → (x.0.0 == ds.0) ≡ true → is_after after x ≡ true) → rest_for es after ds ≡ staged_for es ds
walk_begins after [] ds h = refl
walk_begins after (x ∷ es) ds h = begin_case x (filter (λ y. is_after after y.0) es) (staged_for es ds) ds (is_after after x.0) (x.0.0.0 == ds.0) refl (h x.0) (walk_begins after es ds h)

-- past a dataset nothing of it is left
past_case : (x : Slot × Staging) (f : List (Slot × Staging)) (ds : DsId) (a b : Bool) → (x.0.0.0 == ds.0) ≡ b → (a ≡ true → b ≡ true → ⊥) → staged_for f ds ≡ [] → staged_for (cond a (x ∷ f) f) ds ≡ []
past_case x f ds true true q h ih = absurd (h refl refl)
past_case x f ds true false q h ih = ap (λ c. cond c (x ∷ staged_for f ds) (staged_for f ds)) q ∙ ih
past_case x f ds false b q h ih = ih

nothing_for : (p : Slot → Bool) (es : List (Slot × Staging)) (ds : DsId) → ((x : Slot) → p x ≡ true → (x.0.0 == ds.0) ≡ true → ⊥) → staged_for (filter (λ y. p y.0) es) ds ≡ []
nothing_for p [] ds h = refl
nothing_for p (x ∷ es) ds h = past_case x (filter (λ y. p y.0) es) ds (p x.0) (x.0.0.0 == ds.0) refl (h x.0) (nothing_for p es ds h)

is_less : (a b : ℕ) → a < b → nat_cmp a b ≡ Less
is_less a b l = ap (λ t. cond t Less (cond (a == b) Equal Greater)) (lt-ltb a b l)

is_greater : (a b : ℕ) → b < a → nat_cmp a b ≡ Greater
is_greater a b l = nat_cmp_total.antisymm a b ∙ ap ordering_reverse (is_less b a l)

past_lt : (e x d : ℕ) → d < e → (x == d) ≡ true → x < e
past_lt e x d l h = let q : x ≡ d = eqb-true x d h in omega arith

not_past : (e : Slot) (x : Slot) (ds : DsId) → ds.0 < e.0.0 → is_lt (slot_cmp e x) ≡ true → (x.0.0 == ds.0) ≡ true → ⊥
not_past e x ds l a b =
    true≢false (sym a ∙ ap (λ r. is_lt (ordering_then r (key_cmp e.1 x.1))) (is_greater e.0.0 x.0.0 (past_lt e.0.0 x.0.0 ds.0 l b)))

no_first : (e : Slot × Staging) (ds : DsId) (b : Bool) → (e.0.0.0 == ds.0) ≡ b → ds.0 < e.0.0.0 → cond b (e ∷ []) [] ≡ []
no_first e ds true h l = absurd (true≢false (ap is_lt (sym (is_less ds.0 e.0.0.0 l)) ∙ ap is_lt (ap (λ n. nat_cmp ds.0 n) (eqb-true e.0.0.0 ds.0 h)) ∙ ap is_lt (tied_itself nat_cmp_total ds.0)))
no_first e ds false h l = refl

pub walk_past : (after : Option Slot) (es : List (Slot × Staging)) (e : Slot × Staging) (ds : DsId) → IsInSlotOrder es → first_after es after ≡ Some e → ds.0 < e.0.0.0 → map entry_of (rest_for es after ds) ≡ []
walk_past after es e ds s h l =
    walk_step after es e ds s h
    ∙ ap (λ f. map entry_of f ++ map entry_of (rest_for es (Some e.0) ds)) (no_first e ds (e.0.0.0 == ds.0) refl l)
    ∙ ap (λ f. map entry_of f) (nothing_for (λ y. is_lt (slot_cmp e.0 y)) es ds (λ x a b. not_past e.0 x ds l a b))

-- what was found so far and what is left
pub found_end : {X : Type 0} (f r m : List X) → f ++ r ≡ m → r ≡ [] → f ≡ m
found_end f r m h e = sym (append-nil f) ∙ ap (λ l. f ++ l) (sym e) ∙ h

pub found_more : {X : Type 0} (f g a r s m : List X) → g ≡ f ++ a → r ≡ a ++ s → f ++ r ≡ m → g ++ s ≡ m
found_more f g a r s m h e i = ap (λ l. l ++ s) h ∙ append_assoc f a s ∙ ap (λ l. f ++ l) (sym e) ∙ i

lt_by : (a b : ℕ) (s t : Bool) → nat_lt a b ≡ s → true ≡ is_lt (cond s Less (cond t Equal Greater)) → a < b
lt_by a b true t h e = ltb-true a b h
lt_by a b false true h e = absurd (true≢false e)
lt_by a b false false h e = absurd (true≢false e)

pub lt_from : (a b : ℕ) → true ≡ is_lt (nat_cmp a b) → a < b
lt_from a b e = lt_by a b (nat_lt a b) (a == b) refl e
