-- What is staged stays formed and placed when one more block is staged for a head.
use Rattle.std.specs.Prelude.{◌≡◌, ◌≢◌, ◌⊎◌, ◌<◌, ◌≤◌, ◌+◌, ℕ, Bool, true, false, cond, List, is_some, Option, Some, None, refl}
use Rattle.std.specs.Ordering.{is_eq}
use Rattle.std.proofs.Common.{sym, ◌∙◌, ap, subst, inl, inr, arith}
use Rattle.zs_ids.specs.declared.key.Key.{Key}
use Rattle.zs_ids.specs.declared.block.Piece.{Piece}
use Rattle.zs_ids.specs.declared.block.Place.{Place}
use Rattle.zs_ids.specs.declared.dataset.DsId.{DsId}
use Rattle.zs_ids.specs.Key.{parent_of}
use Rattle.zs_ids.specs.Graph.{Has, Dataset, Graph, IsOfBlock}
use Rattle.zs_txg.specs.declared.staged.Staging.{Staging}
use Rattle.zs_txg.specs.Txg.{Slot, slot_cmp, staged_at, put_staged, staged_for, IsInSlotOrder}
use Rattle.zs_txg.proofs.Entries.{sorted-insert_entry, lookup-insert_entry}
use Rattle.zs_txg.proofs.Slots.{slot_total, same_slot}
use Rattle.zs_core.specs.Placed.{IsFormed, AreStaged, Meet, LiesBetween, sector_at}
use Rattle.zs_core.specs.Datasets.{IsHeadsId, IsFormedWith}
use Rattle.zs_core.proofs.Inserting.{from_put, at_some}
use Rattle.zs_core.proofs.Owned.{own_at, own_put, other_put}

some_put : (b : Bool) (what : Staging) (f : Option Staging) → is_some f ≡ true → is_some (cond b (Some what) f) ≡ true
some_put true what f h = refl
some_put false what f h = h

-- what is staged somewhere is staged there once another block is
pub some_stays : (staged : List (Slot × Staging)) (slot at : Slot) (what : Staging) → is_some (staged_at staged at) ≡ true
    → is_some (staged_at (put_staged staged slot what) at) ≡ true
some_stays staged slot at what h =
    subst (λ (f : Option Staging). is_some f ≡ true) (sym (lookup-insert_entry slot_total slot what at staged)) (some_put (is_eq (slot_cmp at slot)) what (staged_at staged at) h)

-- one block is staged for a dataset, at a slot whose parent is staged
module _ (size : ℕ → ℕ) (id : DsId) (staged : List (Slot × Staging)) (s : AreStaged size id staged) (key : Key) (what : Staging) where
  -- what is staged then: the block, or what was staged at another slot
  from_own_new : (e : Slot × Staging) → Has (put_staged staged (id, key) what) e → (((id, key), what) ≡ e) ⊎ (Has staged e × (e.0 ≢ (id, key)))
  from_own_new e h = from_put slot_cmp slot_total same_slot staged (id, key) what e s.in_order h

  -- it stays formed
  pub staged_put : IsFormed size key what.sectors → (what.fill ≡ None → what.sectors ≡ 8)
      → ((k : Key) → parent_of key 1 ≡ Some k → is_some (staged_at staged (id, k)) ≡ true) → AreStaged size id (put_staged staged (id, key) what)
  staged_put formed eight above = record {
    in_order = sorted-insert_entry slot_total (id, key) what staged s.in_order;
    for_head = λ e h. elim (from_own_new e h) [ inl is ↦ ap (λ (y : Slot × Staging). y.0.0) (sym is) | inr old ↦ s.for_head e old.0 ];
    formed = λ e h. elim (from_own_new e h) [ inl is ↦ subst (λ (y : Slot × Staging). IsFormed size y.0.1 y.1.sectors) is formed | inr old ↦ s.formed e old.0 ];
    sized = λ e h none. elim (from_own_new e h) [ inl is ↦ subst (λ (y : Slot × Staging). y.1.sectors ≡ 8) is (eight (ap (λ (y : Slot × Staging). y.1.fill) is ∙ none)) | inr old ↦ s.sized e old.0 none ];
    parents = λ e h k up. some_stays staged (id, key) (id, k) what (elim (from_own_new e h) [ inl is ↦ above k (ap (λ (y : Slot × Staging). parent_of y.0.1 1) is ∙ up) | inr old ↦ s.parents e old.0 k up ]);
  }

-- what is staged for the dataset `id` is formed with these record sizes, what is staged for the others with some, and all of it
-- lies in the space that was handed out, apart
pub record ArePlaced (g : Graph) (n start next : ℕ) (size : ℕ → ℕ) (id : DsId) (staged : List (Slot × Staging)) : Type 0 where
  pub begun : start ≤ next
  pub in_order : IsInSlotOrder staged
  pub heads : (e : Slot × Staging) → Has staged e → IsHeadsId g e.0.0
  pub own : AreStaged size id (staged_for staged id)
  pub others : (d : Dataset) → Has g d → d.id ≢ id → IsFormedWith n d (staged_for staged d.id)
  pub live : (p : Piece) (sectors : ℕ) (sum : List ℕ) → IsOfBlock g p sectors sum → LiesBetween start next p.place sectors
  pub new : (e : Slot × Staging) → Has staged e → LiesBetween start next e.1.place e.1.sectors
  pub new_apart : (e f : Slot × Staging) → Has staged e → Has staged f → Meet e.1.place e.1.sectors f.1.place f.1.sectors → e.0 ≡ f.0
  pub between : (e : Slot × Staging) (p : Piece) (sectors : ℕ) (sum : List ℕ) → Has staged e → IsOfBlock g p sectors sum
      → Meet e.1.place e.1.sectors p.place sectors → ⊥

-- the same with the sizes of a dataset that has other ones, where its part is formed with these
pub placed_with : (g : Graph) (n start next : ℕ) (size sizes : ℕ → ℕ) (id : DsId) (staged : List (Slot × Staging)) → ArePlaced g n start next size id staged
    → AreStaged sizes id (staged_for staged id) → ArePlaced g n start next sizes id staged
placed_with g n start next size sizes id staged p own = record {
  begun = p.begun;
  in_order = p.in_order;
  heads = p.heads;
  own = own;
  others = p.others;
  live = p.live;
  new = p.new;
  new_apart = p.new_apart;
  between = p.between;
}

-- one block is staged for a head, at a slot whose parent is staged
module _ (g : Graph) (n start next : ℕ) (size : ℕ → ℕ) (id : DsId) (staged : List (Slot × Staging)) (p : ArePlaced g n start next size id staged) (is_head : IsHeadsId g id) (key : Key) (what : Staging) where
  abbrev after : List (Slot × Staging)
  after = put_staged staged (id, key) what

  -- what is staged then: the block, or what was staged at another slot
  from_new : (e : Slot × Staging) → Has after e → (((id, key), what) ≡ e) ⊎ (Has staged e × (e.0 ≢ (id, key)))
  from_new e h = from_put slot_cmp slot_total same_slot staged (id, key) what e p.in_order h

  -- what may be staged: a block of the dataset
  abbrev MayStage : Type 0
  MayStage = IsFormed size key what.sectors × (what.fill ≡ None → what.sectors ≡ 8) × ((k : Key) → parent_of key 1 ≡ Some k → is_some (staged_at staged (id, k)) ≡ true)

  own_after : MayStage → AreStaged size id (staged_for after id)
  own_after may =
      subst (λ (l : List (Slot × Staging)). AreStaged size id l) (sym (own_put id key what staged p.in_order))
      (staged_put size id (staged_for staged id) p.own key what may.0 may.1 (λ k up. subst (λ (f : Option Staging). is_some f ≡ true) (sym (own_at staged id k)) (may.2 k up)))

  others_after : (d : Dataset) → Has g d → d.id ≢ id → IsFormedWith n d (staged_for after d.id)
  others_after d h ne = subst (λ (l : List (Slot × Staging)). IsFormedWith n d l) (sym (other_put id key what d.id (λ is. ne (sym is)) staged)) (p.others d h ne)

  heads_after : (e : Slot × Staging) → Has after e → IsHeadsId g e.0.0
  heads_after e h = elim (from_new e h) [ inl is ↦ subst (λ (y : Slot × Staging). IsHeadsId g y.0.0) is is_head | inr old ↦ p.heads e old.0 ]

  wider : (place : Place) (sectors : ℕ) → LiesBetween start next place sectors → LiesBetween start (next + what.sectors) place sectors
  wider place sectors l = let to : place.sector + sectors ≤ next = l.to in record { mirror = l.mirror; from = l.from; to = omega (arith, to) }

  -- what lies before the next sector does not meet what begins there
  behind_all : (place : Place) (sectors : ℕ) → what.place ≡ sector_at next → LiesBetween start next place sectors → Meet what.place what.sectors place sectors → ⊥
  behind_all place sectors is l meet =
      let at : what.place.sector ≡ next = ap (λ (q : Place). q.sector) is in
      let to : place.sector + sectors ≤ next = l.to in
      let before : what.place.sector < place.sector + sectors = meet.before in
      omega (arith, at, to, before)

  turned : (a : Place) (m : ℕ) (b : Place) (k : ℕ) → Meet a m b k → Meet b k a m
  turned a m b k meet = record { mirror = sym meet.mirror; before = meet.behind; behind = meet.before }

  -- the block lies behind all others where it begins at the next sector
  pub placed_next : MayStage → what.place ≡ sector_at next → ArePlaced g n start (next + what.sectors) size id after
  placed_next may is = record {
    begun = let from : start ≤ next = p.begun in omega (arith, from);
    in_order = sorted-insert_entry slot_total (id, key) what staged p.in_order;
    heads = heads_after;
    own = own_after may;
    others = others_after;
    live = λ q sectors sum i. wider q.place sectors (p.live q sectors sum i);
    new = λ e h. elim (from_new e h) [ inl same ↦ subst (λ (y : Slot × Staging). LiesBetween start (next + what.sectors) y.1.place y.1.sectors) same here | inr old ↦ wider e.1.place e.1.sectors (p.new e old.0) ];
    new_apart = λ e f h i meet. elim (from_new e h) [
      | inl x ↦ elim (from_new f i) [
        | inl y ↦ ap (λ (z : Slot × Staging). z.0) (sym x ∙ y)
        | inr y ↦ absurd (behind_all f.1.place f.1.sectors is (p.new f y.0) (subst (λ (z : Slot × Staging). Meet z.1.place z.1.sectors f.1.place f.1.sectors) (sym x) meet))
      ]
      | inr x ↦ elim (from_new f i) [
        | inl y ↦ absurd (behind_all e.1.place e.1.sectors is (p.new e x.0) (turned e.1.place e.1.sectors what.place what.sectors (subst (λ (z : Slot × Staging). Meet e.1.place e.1.sectors z.1.place z.1.sectors) (sym y) meet)))
        | inr y ↦ p.new_apart e f x.0 y.0 meet
      ]
    ];
    between = λ e q sectors sum h i meet. elim (from_new e h) [
      | inl x ↦ behind_all q.place sectors is (p.live q sectors sum i) (subst (λ (z : Slot × Staging). Meet z.1.place z.1.sectors q.place sectors) (sym x) meet)
      | inr x ↦ p.between e q sectors sum x.0 i meet
    ];
  }
    where
      here : LiesBetween start (next + what.sectors) what.place what.sectors
      here = subst (λ (q : Place). LiesBetween start (next + what.sectors) q what.sectors) (sym is) (let from : start ≤ next = p.begun in record { mirror = refl; from = from; to = omega arith })

  -- the block lies as one that was staged at the slot, where it has its place and size
  pub placed_again : MayStage → (old : Staging) → staged_at staged (id, key) ≡ Some old → what.place ≡ old.place → what.sectors ≡ old.sectors → ArePlaced g n start next size id after
  placed_again may old found place sectors = record {
    begun = p.begun;
    in_order = sorted-insert_entry slot_total (id, key) what staged p.in_order;
    heads = heads_after;
    own = own_after may;
    others = others_after;
    live = p.live;
    new = λ e h. elim (from_new e h) [ inl same ↦ subst (λ (y : Slot × Staging). LiesBetween start next y.1.place y.1.sectors) same here | inr other ↦ p.new e other.0 ];
    new_apart = λ e f h i meet. elim (from_new e h) [
      | inl x ↦ elim (from_new f i) [
        | inl y ↦ ap (λ (z : Slot × Staging). z.0) (sym x ∙ y)
        | inr y ↦ ap (λ (z : Slot × Staging). z.0) (sym x) ∙ p.new_apart ((id, key), old) f was y.0 (as_old f.1.place f.1.sectors (subst (λ (z : Slot × Staging). Meet z.1.place z.1.sectors f.1.place f.1.sectors) (sym x) meet))
      ]
      | inr x ↦ elim (from_new f i) [
        | inl y ↦ sym (p.new_apart ((id, key), old) e was x.0 (as_old e.1.place e.1.sectors (turned e.1.place e.1.sectors what.place what.sectors (subst (λ (z : Slot × Staging). Meet e.1.place e.1.sectors z.1.place z.1.sectors) (sym y) meet)))) ∙ ap (λ (z : Slot × Staging). z.0) y
        | inr y ↦ p.new_apart e f x.0 y.0 meet
      ]
    ];
    between = λ e q many sum h i meet. elim (from_new e h) [
      | inl x ↦ p.between ((id, key), old) q many sum was i (as_old q.place many (subst (λ (z : Slot × Staging). Meet z.1.place z.1.sectors q.place many) (sym x) meet))
      | inr x ↦ p.between e q many sum x.0 i meet
    ];
  }
    where
      was : Has staged ((id, key), old)
      was = at_some slot_cmp slot_total same_slot staged (id, key) old found

      here : LiesBetween start next what.place what.sectors
      here = subst (λ (q : Place). LiesBetween start next q what.sectors) (sym place) (subst (λ (k : ℕ). LiesBetween start next old.place k) (sym sectors) (p.new ((id, key), old) was))

      as_old : (q : Place) (k : ℕ) → Meet what.place what.sectors q k → Meet old.place old.sectors q k
      as_old q k meet = subst (λ (w : Place). Meet w old.sectors q k) place (subst (λ (m : ℕ). Meet what.place m q k) sectors meet)
