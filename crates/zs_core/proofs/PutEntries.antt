-- The pointers to what is staged for a dataset, and its entries once these are put over them.
use Rattle.std.specs.Prelude.{◌≡◌, ◌≢◌, ◌⊎◌, ◌==◌, ℕ, Bool, cond, List, [], ◌∷◌, drop, map, Option, refl}
use Rattle.std.specs.List.{AllByRecursion}
use Rattle.std.specs.Ordering.{is_lt}
use Rattle.std.specs.declared.cmp.Ordering.TheVariants.{Less, Equal}
use Rattle.std.specs.List.Sorted.{IsStrictlySortedBy}
use Rattle.std.specs.Map.{keys_of}
use Rattle.std.proofs.Common.{sym, ◌∙◌, ap, subst, inl, inr, true}
use Rattle.std.proofs.lemmas.Bool.{true≢false, eq-eqb}
use Rattle.std.proofs.lemmas.Cmp.{tied_itself}
use Rattle.zs_ids.specs.declared.key.Key.{Key}
use Rattle.zs_ids.specs.declared.block.Bp.{Bp}
use Rattle.zs_ids.specs.declared.block.Piece.{Piece}
use Rattle.zs_ids.specs.declared.block.Place.{Place}
use Rattle.zs_ids.specs.declared.dataset.DsId.{DsId}
use Rattle.zs_ids.specs.Key.{key_cmp}
use Rattle.zs_ids.specs.Blocks.{bp_at, entries_with, replaced, IsInKeyOrder}
use Rattle.zs_ids.specs.Graph.{Has, pieces_of}
use Rattle.zs_scan.specs.Walks.{item_of}
use Rattle.zs_txg.specs.declared.staged.Staging.{Staging}
use Rattle.zs_txg.specs.declared.staged.StagedEntry.{StagedEntry}
use Rattle.zs_txg.specs.Txg.{Slot, staged_for, entry_of}
use Rattle.zs_txg.proofs.Order.{keys_rise}
use Rattle.zs_txg.proofs.Entries.{sorted-insert_entry}
use Rattle.zs_txg.proofs.Slots.{same_slot, key_total}
use Rattle.zs_objset.specs.Staged.{pointers_of, block_of, level_of, no_place, over}
use Rattle.zs_machine.specs.Steps.{AreChanges}
use Rattle.zs_core.specs.Placed.{AreStaged}
use Rattle.zs_core.proofs.Inserting.{from_put, put_new, put_old}

pub same_key : (a b : Key) → key_cmp a b ≡ Equal → a ≡ b
same_key a b h = ap (λ (s : Slot). s.1) (same_slot (record { 0 = 0 }, a) (record { 0 = 0 }, b) h)

-- no change is at the key
abbrev pub NoneAt : List (Key × Bp) → Key → Type 0
NoneAt changes k = (c : Key × Bp) → Has changes c → c.0 ≢ k

-- what there is after changes: one of the changes, or what there was at another key
pub from_all : (es cs : List (Key × Bp)) (e : Key × Bp) → IsInKeyOrder es → Has (entries_with es cs) e → Has cs e ⊎ (Has es e × NoneAt cs e.0)
from_all es [] e s h = inr (h, λ c i. absurd i)
from_all es (c ∷ cs) e s h = elim (from_all (replaced es c.0 c.1) cs e (sorted-insert_entry key_total c.0 c.1 es s) h) [
  | inl more ↦ inl (inr more)
  | inr was ↦ elim (from_put key_cmp key_total same_key es c.0 c.1 e s was.0) [
    | inl is ↦ inl (inl is)
    | inr old ↦ inr (old.0, λ d i. elim i [ inl first ↦ λ same. old.1 (sym same ∙ ap (λ (y : Key × Bp). y.0) (sym first)) | inr more ↦ was.1 d more ])
  ]
]

-- the keys are in order after changes
pub all_in_order : (es cs : List (Key × Bp)) → IsInKeyOrder es → IsInKeyOrder (entries_with es cs)
all_in_order es [] s = s
all_in_order es (c ∷ cs) s = all_in_order (replaced es c.0 c.1) cs (sorted-insert_entry key_total c.0 c.1 es s)

-- what is at a key without a change stays
pub all_old : (es cs : List (Key × Bp)) (e : Key × Bp) → Has es e → NoneAt cs e.0 → Has (entries_with es cs) e
all_old es [] e h none = h
all_old es (c ∷ cs) e h none =
    all_old (replaced es c.0 c.1) cs e (put_old key_cmp key_total same_key es c.0 c.1 e h (λ same. none c (inl refl) (sym same))) (λ d i. none d (inr i))

-- keys above one are others
pub key_above : (k : Key) (cs : List (Key × Bp)) → AllByRecursion (λ y. key_cmp k y ≡ Less) (keys_of cs) → NoneAt cs k
key_above k [] all c h = absurd h
key_above k (x ∷ xs) all c (inl first) = λ is. true≢false (ap is_lt (sym all.0 ∙ ap (λ (y : Key). key_cmp k y) (ap (λ (y : Key × Bp). y.0) first ∙ is) ∙ tied_itself key_total k))
key_above k (x ∷ xs) all c (inr more) = key_above k xs all.1 c more

-- each change is there
pub all_new : (es cs : List (Key × Bp)) (c : Key × Bp) → IsInKeyOrder cs → Has cs c → Has (entries_with es cs) c
unfolding IsStrictlySortedBy
all_new es [] c s h = absurd h
all_new es (x ∷ xs) c s (inl first) =
    all_old (replaced es x.0 x.1) xs c (subst (λ (y : Key × Bp). Has (replaced es x.0 x.1) y) first (put_new key_cmp key_total same_key es x.0 x.1)) (subst (λ (y : Key × Bp). NoneAt xs y.0) first (key_above x.0 xs s.0))
all_new es (x ∷ xs) c s (inr more) = all_new (replaced es x.0 x.1) xs c s.1 more

-- the pointer of a staged block
pub record IsChangeOf (t : ℕ) (e : Slot × Staging) (c : Key × Bp) : Type 0 where
  pub key : c.0 ≡ e.0.1
  pub sectors : c.1.sectors ≡ e.1.sectors
  pub height : c.1.level ≡ level_of c.0
  pub single : c.1.count ≡ 1
  pub unused : (p : Place) → Has (drop 1 c.1.places) p → p ≡ no_place
  pub born : c.1.birth ≡ t
  pub piece : (p : Piece) → Has (pieces_of c.1) p → p.place ≡ e.1.place
  pub first : Has (pieces_of c.1) (item_of c.1).piece

abbrev made : (Key → Option Bp) → ℕ → List (Slot × Staging) → List (Key × Bp)
made get t own = pointers_of (map (block_of get t) (map entry_of own))

change_of : (get : Key → Option Bp) (t : ℕ) (e : Slot × Staging) → IsChangeOf t e ((block_of get t (entry_of e)).key, (block_of get t (entry_of e)).bp)
change_of get t e = record {
  key = refl;
  sectors = refl;
  height = refl;
  single = refl;
  unused = λ p h. elim h [ inl is ↦ sym is | inr more ↦ elim more [ inl is ↦ sym is | inr none ↦ absurd none ] ];
  born = refl;
  first = inl refl;
  piece = λ p h. elim h [ inl is ↦ ap (λ (q : Piece). q.place) (sym is) | inr none ↦ absurd none ];
}

from_made : (get : Key → Option Bp) (t : ℕ) (own : List (Slot × Staging)) (c : Key × Bp) → Has (made get t own) c → (e : Slot × Staging) × Has own e × IsChangeOf t e c
from_made get t [] c h = absurd h
from_made get t (e ∷ es) c (inl is) = (e, inl refl, subst (λ (y : Key × Bp). IsChangeOf t e y) is (change_of get t e))
from_made get t (e ∷ es) c (inr more) = let r = from_made get t es c more in (r.0, inr r.1, r.2)

to_made : (get : Key → Option Bp) (t : ℕ) (own : List (Slot × Staging)) (e : Slot × Staging) → Has own e → (c : Key × Bp) × Has (made get t own) c × IsChangeOf t e c
to_made get t [] e h = absurd h
to_made get t (x ∷ xs) e (inl is) =
    (((block_of get t (entry_of x)).key, (block_of get t (entry_of x)).bp), inl refl, subst (λ (y : Slot × Staging). IsChangeOf t y ((block_of get t (entry_of x)).key, (block_of get t (entry_of x)).bp)) is (change_of get t x))
to_made get t (x ∷ xs) e (inr more) = let r = to_made get t xs e more in (r.0, inr r.1, r.2)

keys_made : (get : Key → Option Bp) (t : ℕ) (es : List StagedEntry) → keys_of (pointers_of (map (block_of get t) es)) ≡ map (λ e. e.key) es
keys_made get t [] = refl
keys_made get t (e ∷ es) = ap (λ (ks : List Key). e.key ∷ ks) (keys_made get t es)

-- all of a list is for the dataset
all_for : (id : DsId) (own : List (Slot × Staging)) → ((e : Slot × Staging) → Has own e → e.0.0 ≡ id) → staged_for own id ≡ own
all_for id [] for_head = refl
all_for id (x ∷ xs) for_head =
    let rest : staged_for xs id ≡ xs = all_for id xs (λ e h. for_head e (inr h)) in
    let passes : (x.0.0.0 == id.0) ≡ true = eq-eqb x.0.0.0 id.0 (ap (λ (d : DsId). d.0) (for_head x (inl refl))) in
    ap (λ (b : Bool). cond b (x ∷ staged_for xs id) (staged_for xs id)) passes ∙ ap (λ (l : List (Slot × Staging)). x ∷ l) rest

-- the changes are the pointers to what is staged for the dataset, in order of key
pub record AreMade (t : ℕ) (own : List (Slot × Staging)) (changes : List (Key × Bp)) : Type 0 where
  pub in_order : IsInKeyOrder changes
  pub from : (c : Key × Bp) → Has changes c → (e : Slot × Staging) × Has own e × IsChangeOf t e c
  pub to : (e : Slot × Staging) → Has own e → (c : Key × Bp) × Has changes c × IsChangeOf t e c

made_by : (size : ℕ → ℕ) (id : DsId) (get : Key → Option Bp) (own : List (Slot × Staging)) (t : ℕ) (changes : List (Key × Bp)) → AreStaged size id own → changes ≡ made get t own → AreMade t own changes
made_by size id get own t changes s is =
    let rise : IsStrictlySortedBy key_cmp (map (λ e. e.key) (map entry_of own)) = subst (λ (l : List (Slot × Staging)). IsStrictlySortedBy key_cmp (map (λ e. e.key) (map entry_of l))) (all_for id own s.for_head) (keys_rise own id s.in_order) in
    let ordered : IsInKeyOrder (made get t own) = subst (λ (ks : List Key). IsStrictlySortedBy key_cmp ks) (sym (keys_made get t (map entry_of own))) rise in
    record {
      in_order = subst (λ (l : List (Key × Bp)). IsInKeyOrder l) (sym is) ordered;
      from = λ c h. from_made get t own c (subst (λ (l : List (Key × Bp)). Has l c) is h);
      to = λ e h. let r = to_made get t own e h in (r.0, subst (λ (l : List (Key × Bp)). Has l r.0) (sym is) r.1, r.2);
    }

pub are_made : (size : ℕ → ℕ) (id : DsId) (entries : List (Key × Bp)) (own : List (Slot × Staging)) (t : ℕ) (changes : List (Key × Bp)) → AreStaged size id own → AreChanges entries own t changes → AreMade t own changes
are_made size id entries own t changes s are =
    made_by size id (over (pointers_of are.blocks) (bp_at entries)) own t changes s (are.pointers ∙ ap pointers_of are.made)

-- where nothing is staged there are no changes
pub none_made : (entries : List (Key × Bp)) (t : ℕ) (changes : List (Key × Bp)) → AreChanges entries [] t changes → changes ≡ []
none_made entries t changes are = are.pointers ∙ ap pointers_of are.made
