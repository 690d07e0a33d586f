-- The keys of what is staged for one dataset rise.
use Rattle.std.proofs.Common.{◌≡◌, ◌∙◌, sym, ap, refl, ℕ, ◌==◌, Bool, true, false, cond, List, [], ◌∷◌, map, eqb-true}
use Rattle.std.specs.declared.cmp.Ordering.TheVariants.{Less}
use Rattle.std.specs.Ordering.{nat_cmp, ordering_then}
use Rattle.std.proofs.lemmas.Cmp.{tied_itself, nat_cmp_total}
use Rattle.std.specs.Map.{keys_of}
use Rattle.std.specs.List.{AllByRecursion}
use Rattle.std.specs.List.Sorted.{IsStrictlySortedBy}
use Rattle.zs_ids.specs.declared.dataset.DsId.{DsId}
use Rattle.zs_ids.specs.declared.key.Key.{Key}
use Rattle.zs_ids.specs.Key.{key_cmp}
use Rattle.zs_txg.specs.declared.staged.Staging.{Staging}
use Rattle.zs_txg.specs.declared.staged.StagedEntry.{StagedEntry}
use Rattle.zs_txg.specs.Txg.{Slot, slot_cmp, staged_for, entry_of, entries_for, IsInSlotOrder}

abbrev pub key_list : List StagedEntry → List Key
key_list entries = map (λ e. e.key) entries

same_ds : (x k : Slot) (ds : ℕ) → x.0.0 ≡ ds → k.0.0 ≡ ds → slot_cmp x k ≡ Less → key_cmp x.1 k.1 ≡ Less
same_ds x k ds a b h =
    sym (ap (λ r. ordering_then r (key_cmp x.1 k.1)) (ap (λ n. nat_cmp x.0.0 n) (b ∙ sym a) ∙ tied_itself nat_cmp_total x.0.0)) ∙ h

all_case : (x : Slot) (e : Slot × Staging) (es : List (Slot × Staging)) (ds : DsId) (b : Bool) → (e.0.0.0 == ds.0) ≡ b → x.0.0 ≡ ds.0 → slot_cmp x e.0 ≡ Less → AllByRecursion (λ k. key_cmp x.1 k ≡ Less) (key_list (entries_for es ds)) → AllByRecursion (λ k. key_cmp x.1 k ≡ Less) (key_list (map entry_of (cond b (e ∷ staged_for es ds) (staged_for es ds))))
all_case x e es ds true q a l h = (same_ds x e.0 ds.0 a (eqb-true e.0.0.0 ds.0 q) l, h)
all_case x e es ds false q a l h = h

all_keys : (x : Slot) (es : List (Slot × Staging)) (ds : DsId) → x.0.0 ≡ ds.0 → AllByRecursion (λ k. slot_cmp x k ≡ Less) (keys_of es) → AllByRecursion (λ k. key_cmp x.1 k ≡ Less) (key_list (entries_for es ds))
all_keys x [] ds a h = tt
all_keys x (e ∷ es) ds a h = all_case x e es ds (e.0.0.0 == ds.0) refl a h.0 (all_keys x es ds a h.1)

order_case : (e : Slot × Staging) (es : List (Slot × Staging)) (ds : DsId) (b : Bool) → (e.0.0.0 == ds.0) ≡ b → AllByRecursion (λ k. slot_cmp e.0 k ≡ Less) (keys_of es) → IsStrictlySortedBy key_cmp (key_list (entries_for es ds)) → IsStrictlySortedBy key_cmp (key_list (map entry_of (cond b (e ∷ staged_for es ds) (staged_for es ds))))
unfolding IsStrictlySortedBy
order_case e es ds true q a h = (all_keys e.0 es ds (eqb-true e.0.0.0 ds.0 q) a, h)
order_case e es ds false q a h = h

pub keys_rise : (es : List (Slot × Staging)) (ds : DsId) → IsInSlotOrder es → IsStrictlySortedBy key_cmp (key_list (entries_for es ds))
unfolding IsStrictlySortedBy
keys_rise [] ds s = tt
keys_rise (e ∷ es) ds s = order_case e es ds (e.0.0.0 == ds.0) refl s.0 (keys_rise es ds s.1)
