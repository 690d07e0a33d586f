-- What is staged for one dataset: its part of a list of staged blocks, and that part once one more block is staged.
use Rattle.std.specs.Prelude.{◌≡◌, ◌≢◌, Bool, true, false, cond, List, [], ◌∷◌, Option, Some, refl}
use Rattle.std.specs.Ordering.{is_eq, match_ordering}
use Rattle.std.specs.declared.cmp.Ordering.{Ordering}
use Rattle.std.specs.declared.cmp.Ordering.TheVariants.{Less, Equal, Greater}
use Rattle.std.specs.List.{AllByRecursion}
use Rattle.std.specs.List.Sorted.{IsStrictlySortedBy}
use Rattle.std.specs.Map.{keys_of}
use Rattle.std.proofs.Common.{sym, ◌∙◌, ap}
use Rattle.std.proofs.lemmas.Bool.{true≢false, false_from_ne_true}
use Rattle.zs_ids.specs.declared.dataset.DsId.{DsId}
use Rattle.zs_ids.specs.declared.key.Key.{Key}
use Rattle.zs_ids.specs.Graph.{Has}
use Rattle.zs_ids.specs.GraphTree.{is_id}
use Rattle.zs_txg.specs.declared.staged.Staging.{Staging}
use Rattle.zs_txg.specs.Txg.{Slot, slot_cmp, staged_at, put_staged, staged_for, IsInSlotOrder}
use Rattle.zs_txg.proofs.Slots.{slot_total, same_slot}
use Rattle.zs_graph.proofs.Graphs.{id_is, is_id-same, is_id-other}
use Rattle.zs_graph.proofs.Lists.{has-filter, from-filter}

-- whether a block is staged for the dataset
abbrev is_own : DsId → Slot × Staging → Bool
is_own id e = is_id e.0.0 id

-- a dataset's own part has what is staged for it, and nothing else
pub from_own : (staged : List (Slot × Staging)) (id : DsId) (e : Slot × Staging) → Has (staged_for staged id) e → Has staged e × (e.0.0 ≡ id)
from_own staged id e h = let found = from-filter (is_own id) staged e h in (found.0, id_is e.0.0 id found.1)

pub has_own : (staged : List (Slot × Staging)) (id : DsId) (e : Slot × Staging) → Has staged e → e.0.0 ≡ id → Has (staged_for staged id) e
has_own staged id e h is = has-filter (is_own id) staged e h (is_id-same e.0.0 id is)

-- what holds of all slots holds of those of the own part
all_own : (P : Slot → Type 0) (staged : List (Slot × Staging)) (id : DsId) → AllByRecursion P (keys_of staged) → AllByRecursion P (keys_of (staged_for staged id))
all_own P [] id all = tt
all_own P (x ∷ xs) id all = go (is_own id x) (all_own P xs id all.1)
  where
    go : (b : Bool) → AllByRecursion P (keys_of (staged_for xs id)) → AllByRecursion P (keys_of (cond b (x ∷ staged_for xs id) (staged_for xs id)))
    go true rest = (all.0, rest)
    go false rest = rest

-- the own part is in order
pub own_in_order : (staged : List (Slot × Staging)) (id : DsId) → IsInSlotOrder staged → IsInSlotOrder (staged_for staged id)
unfolding IsStrictlySortedBy
own_in_order [] id s = tt
own_in_order (x ∷ xs) id s = go (is_own id x) (own_in_order xs id s.1)
  where
    go : (b : Bool) → IsInSlotOrder (staged_for xs id) → IsInSlotOrder (cond b (x ∷ staged_for xs id) (staged_for xs id))
    go true rest = (all_own (λ k. slot_cmp x.0 k ≡ Less) xs id s.0, rest)
    go false rest = rest

-- slots of two datasets are not equal
not_tied : (a b : Slot) → is_id a.0 b.0 ≡ false → is_eq (slot_cmp b a) ≡ false
not_tied a b other = false_from_ne_true (is_eq (slot_cmp b a)) (λ tied. true≢false (sym (is_id-same a.0 b.0 (ap (λ (s : Slot). s.0) (sym (same_slot b a (equal (slot_cmp b a) tied))))) ∙ other))
  where
    equal : (r : Ordering) → is_eq r ≡ true → r ≡ Equal
    equal Less e = absurd (true≢false (sym e))
    equal Equal e = refl
    equal Greater e = absurd (true≢false (sym e))

-- what is staged at a slot of the dataset is what its own part has there
pub own_at : (staged : List (Slot × Staging)) (id : DsId) (key : Key) → staged_at (staged_for staged id) (id, key) ≡ staged_at staged (id, key)
own_at [] id key = refl
own_at (x ∷ xs) id key = go (is_own id x) refl (own_at xs id key)
  where
    go : (b : Bool) → is_own id x ≡ b → staged_at (staged_for xs id) (id, key) ≡ staged_at xs (id, key) → staged_at (cond b (x ∷ staged_for xs id) (staged_for xs id)) (id, key) ≡ staged_at (x ∷ xs) (id, key)
    go true is rest = ap (λ (f : Option Staging). cond (is_eq (slot_cmp (id, key) x.0)) (Some x.1) f) rest
    go false is rest = rest ∙ sym (ap (λ (b : Bool). cond b (Some x.1) (staged_at xs (id, key))) (not_tied x.0 (id, key) is))

-- one block is staged for the dataset
module _ (id : DsId) (key : Key) (what : Staging) where
  abbrev slot : Slot
  slot = (id, key)

  abbrev new : Slot × Staging
  new = ((id, key), what)

  -- a block that is staged for it leads its part of what follows
  led : (x : Slot × Staging) (l : List (Slot × Staging)) → is_own id x ≡ true → staged_for (x ∷ l) id ≡ x ∷ staged_for l id
  led x l is = ap (λ (b : Bool). cond b (x ∷ staged_for l id) (staged_for l id)) is

  passed : (of : DsId) (x : Slot × Staging) (l : List (Slot × Staging)) → is_own of x ≡ false → staged_for (x ∷ l) of ≡ staged_for l of
  passed of x l is = ap (λ (b : Bool). cond b (x ∷ staged_for l of) (staged_for l of)) is

  mine : is_own id new ≡ true
  mine = is_id-same id id refl

  -- before slots that are above it, it stands first
  put_first : (l : List (Slot × Staging)) → AllByRecursion (λ k. slot_cmp slot k ≡ Less) (keys_of l) → put_staged l slot what ≡ new ∷ l
  put_first [] all = refl
  put_first (y ∷ ys) all = ap (λ (r : Ordering). match_ordering r (new ∷ y ∷ ys) ((y.0, what) ∷ ys) (y ∷ put_staged ys slot what)) all.0

  all_above : (x : Slot) (ks : List Slot) → slot_cmp slot x ≡ Less → AllByRecursion (λ k. slot_cmp x k ≡ Less) ks → AllByRecursion (λ k. slot_cmp slot k ≡ Less) ks
  all_above x [] less all = tt
  all_above x (k ∷ ks) less all = (slot_total.trans slot x k less all.0, all_above x ks less all.1)

  -- its part is the part that was, with the block
  pub own_put : (staged : List (Slot × Staging)) → IsInSlotOrder staged → staged_for (put_staged staged slot what) id ≡ put_staged (staged_for staged id) slot what
  unfolding IsStrictlySortedBy
  own_put [] s = led new [] mine
  own_put (x ∷ xs) s = by (is_own id x) (slot_cmp slot x.0) refl refl (own_put xs s.1)
    where
      own_by : (r : Ordering) → is_own id x ≡ true → staged_for (put_staged xs slot what) id ≡ put_staged (staged_for xs id) slot what
          → staged_for (match_ordering r (new ∷ x ∷ xs) ((x.0, what) ∷ xs) (x ∷ put_staged xs slot what)) id
          ≡ match_ordering r (new ∷ x ∷ staged_for xs id) ((x.0, what) ∷ staged_for xs id) (x ∷ put_staged (staged_for xs id) slot what)
      own_by Less is rest = led new (x ∷ xs) mine ∙ ap (λ (l : List (Slot × Staging)). new ∷ l) (led x xs is)
      own_by Equal is rest = led (x.0, what) xs is
      own_by Greater is rest = led x (put_staged xs slot what) is ∙ ap (λ (l : List (Slot × Staging)). x ∷ l) rest

      other_by : (r : Ordering) → slot_cmp slot x.0 ≡ r → is_own id x ≡ false → staged_for (put_staged xs slot what) id ≡ put_staged (staged_for xs id) slot what
          → staged_for (match_ordering r (new ∷ x ∷ xs) ((x.0, what) ∷ xs) (x ∷ put_staged xs slot what)) id ≡ put_staged (staged_for xs id) slot what
      other_by Less less is rest =
          led new (x ∷ xs) mine
          ∙ (ap (λ (l : List (Slot × Staging)). new ∷ l) (passed id x xs is)
          ∙ sym (put_first (staged_for xs id) (all_own (λ k. slot_cmp slot k ≡ Less) xs id (all_above x.0 (keys_of xs) less s.0))))
      other_by Equal tied is rest = absurd (true≢false (ap is_eq (sym tied) ∙ not_tied x.0 slot is))
      other_by Greater more is rest = passed id x (put_staged xs slot what) is ∙ rest

      by : (b : Bool) (r : Ordering) → is_own id x ≡ b → slot_cmp slot x.0 ≡ r → staged_for (put_staged xs slot what) id ≡ put_staged (staged_for xs id) slot what
          → staged_for (put_staged (x ∷ xs) slot what) id ≡ put_staged (staged_for (x ∷ xs) id) slot what
      by true r is at rest = own_by (slot_cmp slot x.0) is rest ∙ ap (λ (l : List (Slot × Staging)). put_staged l slot what) (sym (led x xs is))
      by false r is at rest = other_by (slot_cmp slot x.0) refl is rest ∙ ap (λ (l : List (Slot × Staging)). put_staged l slot what) (sym (passed id x xs is))

  -- the part of another dataset is as it was
  pub other_put : (other : DsId) → id ≢ other → (staged : List (Slot × Staging)) → staged_for (put_staged staged slot what) other ≡ staged_for staged other
  other_put other ne [] = passed other new [] (is_id-other id other ne)
  other_put other ne (x ∷ xs) = by (slot_cmp slot x.0) refl (other_put other ne xs)
    where
      by : (r : Ordering) → slot_cmp slot x.0 ≡ r → staged_for (put_staged xs slot what) other ≡ staged_for xs other
          → staged_for (match_ordering r (new ∷ x ∷ xs) ((x.0, what) ∷ xs) (x ∷ put_staged xs slot what)) other ≡ staged_for (x ∷ xs) other
      by Less at rest = passed other new (x ∷ xs) (is_id-other id other ne)
      by Equal at rest =
          let theirs : is_own other x ≡ false = is_id-other x.0.0 other (λ is. ne (ap (λ (s : Slot). s.0) (same_slot slot x.0 at) ∙ is)) in
          passed other (x.0, what) xs theirs ∙ sym (passed other x xs theirs)
      by Greater at rest = ap (λ (l : List (Slot × Staging)). cond (is_own other x) (x ∷ l) l) rest
