-- The items of all changes, in order of place, are those of the pieces that are born in the transaction group and live.
use Rattle.std.specs.Prelude.{◌≡◌, ◌⊎◌, ◌<◌, ℕ, true, List, [], ◌∷◌, map, take, refl}
use Rattle.std.specs.List.Sorted.{IsStrictlySortedBy, IsSortedByKey, IsPermutation}
use Rattle.std.proofs.Common.{sym, ◌∙◌, ap, subst, inl, inr, arith}
use Rattle.std.proofs.lemmas.List.Sorted.{IsPermutation-sym}
use Rattle.zs_ids.specs.declared.key.Key.{Key}
use Rattle.zs_ids.specs.declared.block.Bp.{Bp}
use Rattle.zs_ids.specs.declared.block.Item.{Item}
use Rattle.zs_ids.specs.declared.block.Piece.{Piece}
use Rattle.zs_ids.specs.declared.block.Place.{Place}
use Rattle.zs_ids.specs.declared.dataset.DsId.{DsId}
use Rattle.zs_ids.specs.Blocks.{IsInKeyOrder}
use Rattle.zs_ids.specs.Graph.{Dataset, Graph, Has, IsLive, IsOfBlock, pieces_of}
use Rattle.zs_ids.specs.GraphValid.{IsInIdOrder}
use Rattle.zs_ids.specs.Piece.{piece_cmp}
use Rattle.zs_graph.proofs.Lists.{has-left, has-right, from-append, from-map, has-map}
use Rattle.zs_graph.proofs.Homes.{piece_birth}
use Rattle.zs_txg.specs.declared.staged.Staging.{Staging}
use Rattle.zs_txg.specs.Txg.{Open, Slot, staged_for}
use Rattle.zs_scan.specs.View.{has_item, pieces_in}
use Rattle.zs_scan.specs.Walks.{item_of, first_place}
use Rattle.zs_machine.specs.Born.{AreBornItems}
use Rattle.zs_machine.specs.Steps.{AreChanges}
use Rattle.zs_core.specs.declared.parts.Changes.{Changes}
use Rattle.zs_core.specs.Datasets.{AreDatasets, IsFormedWith}
use Rattle.zs_core.specs.Kept.{AreChangesOf}
use Rattle.zs_core.specs.View.{pointers_of_all}
use Rattle.zs_core.proofs.PutEntries.{from_all, all_new, key_above, IsChangeOf, AreMade, are_made}
use Rattle.zs_core.proofs.PutFormed.{has_sectors}
use Rattle.zs_core.proofs.PutOver.{with_own, put_over}
use Rattle.zs_core.proofs.PutApart.{staged_is}
use Rattle.zs_core.proofs.PutLost.{is_one, items_one}
use Rattle.zs_core.proofs.PutOnce.{item, AreOnce, once_both, once_order, has_moved}

-- the one piece of a block that has one is that of its item
piece_is : (bp : Bp) (p : Piece) → bp.count ≡ 1 → Has (pieces_of bp) p → (item_of bp).piece ≡ p
piece_is bp p single h = go bp.places (subst (λ (n : ℕ). Has (map piece (take n bp.places)) p) single h)
  where
    piece : Place → Piece
    piece q = record { place = q; birth = bp.birth }

    go : (places : List Place) → Has (map piece (take 1 places)) p → piece (first_place places) ≡ p
    go [] i = absurd i
    go (q ∷ qs) (inl is) = is
    go (q ∷ qs) (inr none) = absurd none

-- an item of the piece is found
found : (items : List Item) (i : Item) (p : Piece) → Has items i → i.piece ≡ p → has_item items p ≡ true
found items i p h is =
    items_one items p ∙ is_one (pieces_in items) p (subst (λ (q : Piece). Has (pieces_in items) q) is (has-map (λ (x : Item). x.piece) items i h))

-- a pointer to what was staged for one of the datasets
record FromStaged (o : Open) (ds : Graph) (c : Key × Bp) : Type 0 where
  d : Dataset
  here : Has ds d
  s : Slot × Staging
  staged : Has (staged_for o.staged d.id) s
  is : IsChangeOf o.txg s c

module _ (g : Graph) (o : Open) (start next : ℕ) (datasets : AreDatasets g o.txg start next o.staged) where
  -- a part of the datasets
  abbrev IsPart : Graph → Type 0
  IsPart ds = (d : Dataset) → Has ds d → Has g d

  made : (d : Dataset) → Has g d → (cs : List (Key × Bp)) → AreChanges d.entries (staged_for o.staged d.id) o.txg cs → AreMade o.txg (staged_for o.staged d.id) cs
  made d here cs are =
      let f : IsFormedWith o.txg d (staged_for o.staged d.id) = datasets.formed d here in
      are_made f.size d.id d.entries (staged_for o.staged d.id) o.txg cs f.staged are

  -- what is staged has a sector
  wide : (d : Dataset) (s : Slot × Staging) → Has g d → Has (staged_for o.staged d.id) s → 0 < s.1.sectors
  wide d s here h =
      let f : IsFormedWith o.txg d (staged_for o.staged d.id) = datasets.formed d here in
      has_sectors f.size s.0.1 s.1.sectors f.formed.sizes (f.staged.formed s h)

  -- pointers with one piece are to what was staged at one slot
  one_slot : (c x : Key × Bp) (r s : Slot × Staging) → Has o.staged r → Has o.staged s → 0 < r.1.sectors → 0 < s.1.sectors → IsChangeOf o.txg r c → IsChangeOf o.txg s x → (item c).piece ≡ (item x).piece → r.0 ≡ s.0
  one_slot c x r s hr hs broad also is that same =
      let place : r.1.place ≡ s.1.place = sym (is.piece (item c).piece is.first) ∙ ap (λ (p : Piece). p.place) same ∙ that.piece (item x).piece that.first in
      let sector : r.1.place.sector ≡ s.1.place.sector = ap (λ (p : Place). p.sector) place in
      datasets.new_apart r s hr hs (record { mirror = ap (λ (p : Place). p.vdev) place; before = omega (arith, sector, also); behind = omega (arith, sector, broad) })

  from_pointers : (ds : Graph) (cs : List Changes) → IsPart ds → AreChangesOf ds o cs → (x : Key × Bp) → Has (pointers_of_all cs) x → FromStaged o ds x
  from_pointers [] [] part are x h = absurd h
  from_pointers [] (c ∷ cs) part are x h = absurd are
  from_pointers (d ∷ ds) [] part are x h = absurd are
  from_pointers (d ∷ ds) (c ∷ cs) part are x h = elim (from-append c.blocks.items (pointers_of_all cs) x h) [
    | inl own ↦ (let r = (made d (part d (inl refl)) c.blocks.items are.1).from x own in record { d = d; here = inl refl; s = r.0; staged = r.1; is = r.2 })
    | inr more ↦ (let r = from_pointers ds cs (λ y i. part y (inr i)) are.2 x more in record { d = r.d; here = inr r.here; s = r.s; staged = r.staged; is = r.is })
  ]

  -- no two pointers of a dataset have one piece
  own_once : (d : Dataset) → Has g d → (cs : List (Key × Bp)) → IsInKeyOrder cs → ((c : Key × Bp) → Has cs c → (s : Slot × Staging) × Has (staged_for o.staged d.id) s × IsChangeOf o.txg s c) → AreOnce cs
  unfolding IsStrictlySortedBy
  own_once d here [] rise from = tt
  own_once d here (c ∷ cs) rise from = (
    λ x h same.
        let r = from c (inl refl) in
        let s = from x (inr h) in
        let slot : (r.0).0 ≡ (s.0).0 = one_slot c x r.0 s.0 (staged_is o.staged d.id r.0 r.1).0 (staged_is o.staged d.id s.0 s.1).0 (wide d r.0 here r.1) (wide d s.0 here s.1) r.2 s.2 same in
        key_above c.0 cs rise.0 x h ((s.2).key ∙ ap (λ (z : Slot). z.1) (sym slot) ∙ sym (r.2).key),
    own_once d here cs rise.1 (λ x h. from x (inr h)),
  )

  -- nor have those of several
  all_once : (ds : Graph) (cs : List Changes) → IsPart ds → IsInIdOrder ds → AreChangesOf ds o cs → AreOnce (pointers_of_all cs)
  all_once [] [] part order are = tt
  all_once [] (c ∷ cs) part order are = absurd are
  all_once (d ∷ ds) [] part order are = absurd are
  all_once (d ∷ ds) (c ∷ cs) part order are =
      once_both c.blocks.items (pointers_of_all cs) (own_once d (part d (inl refl)) c.blocks.items own.in_order own.from) (all_once ds cs rest order.1 are.2) cross
    where
      rest : IsPart ds
      rest y i = part y (inr i)

      own : AreMade o.txg (staged_for o.staged d.id) c.blocks.items
      own = made d (part d (inl refl)) c.blocks.items are.1

      cross : (x y : Key × Bp) → Has c.blocks.items x → Has (pointers_of_all cs) y → (item x).piece ≡ (item y).piece → ⊥
      cross x y h i same =
          let r = own.from x h in
          let s = from_pointers ds cs rest are.2 y i in
          let a = staged_is o.staged d.id r.0 r.1 in
          let b = staged_is o.staged s.d.id s.s s.staged in
          let slot : (r.0).0 ≡ (s.s).0 = one_slot x y r.0 s.s a.0 b.0 (wide d r.0 (part d (inl refl)) r.1) (wide s.d s.s (rest s.d s.here) s.staged) r.2 s.is same in
          let id : d.id.0 ≡ s.d.id.0 = ap (λ (z : DsId). z.0) (sym a.1 ∙ ap (λ (z : Slot). z.0) slot ∙ b.1) in
          let less : d.id.0 < s.d.id.0 = order.0 s.d s.here in
          omega (arith, id, less)

  -- each pointer is an entry then
  in_entries : (ds : Graph) (cs : List Changes) → IsPart ds → AreChangesOf ds o cs → (x : Key × Bp) → Has (pointers_of_all cs) x → (e : Dataset) × Has (put_over ds cs) e × Has e.entries x
  in_entries [] [] part are x h = absurd h
  in_entries [] (c ∷ cs) part are x h = absurd are
  in_entries (d ∷ ds) [] part are x h = absurd are
  in_entries (d ∷ ds) (c ∷ cs) part are x h = elim (from-append c.blocks.items (pointers_of_all cs) x h) [
    | inl own ↦ (with_own d c, inl refl, all_new d.entries c.blocks.items x (made d (part d (inl refl)) c.blocks.items are.1).in_order own)
    | inr more ↦ (let r = in_entries ds cs (λ y i. part y (inr i)) are.2 x more in (r.0, inr r.1, r.2))
  ]

  -- and each entry is one of them, or was one before
  from_entries : (ds : Graph) (cs : List Changes) → IsPart ds → AreChangesOf ds o cs → (x : Dataset) (e : Key × Bp) → Has (put_over ds cs) x → Has x.entries e → Has (pointers_of_all cs) e ⊎ ((d : Dataset) × Has ds d × Has d.entries e)
  from_entries [] cs part are x e h i = absurd h
  from_entries (d ∷ ds) [] part are x e h i = absurd are
  from_entries (d ∷ ds) (c ∷ cs) part are x e (inl is) i = elim (from_all d.entries c.blocks.items e (datasets.formed d (part d (inl refl))).formed.in_order (subst (λ (y : Dataset). Has y.entries e) (sym is) i)) [
    | inl new ↦ inl (has-left c.blocks.items (pointers_of_all cs) e new)
    | inr old ↦ inr (d, inl refl, old.0)
  ]
  from_entries (d ∷ ds) (c ∷ cs) part are x e (inr more) i = elim (from_entries ds cs (λ y j. part y (inr j)) are.2 x e more i) [
    | inl new ↦ inl (has-right c.blocks.items (pointers_of_all cs) e new)
    | inr old ↦ inr (old.0, inr old.1, old.2)
  ]

  -- the items of all changes, in order of place, are those of the pieces that are born in the transaction group and live
  pub all_born : ((d : Dataset) (e : Key × Bp) → Has g d → Has d.entries e → e.1.birth < o.txg) → IsInIdOrder g → (changes : List Changes) → AreChangesOf g o changes → (items : List Item) → IsPermutation (map (λ (c : Key × Bp). item_of c.1) (pointers_of_all changes)) items → IsSortedByKey (λ (i : Item). i.piece) piece_cmp items → AreBornItems (put_over g changes) o.txg items
  all_born older order changes are items same sorted = record {
    in_order = once_order items (pointers_of_all changes) same sorted (all_once g changes (λ d h. h) order are);
    each = λ i h. let r = from i h in subst (λ (x : Item). IsOfBlock (put_over g changes) x.piece x.sectors x.sum) r.2 (block r.0 r.1);
    births = λ i h. let r = from i h in ap (λ (x : Item). x.piece.birth) (sym r.2) ∙ (from_pointers g changes (λ d j. j) are r.0 r.1).is.born;
    all = all;
  }
    where
      from : (i : Item) → Has items i → (c : Key × Bp) × Has (pointers_of_all changes) c × (item c ≡ i)
      from i h = from-map item (pointers_of_all changes) i (has_moved (map item (pointers_of_all changes)) items i same h)

      block : (c : Key × Bp) → Has (pointers_of_all changes) c → IsOfBlock (put_over g changes) (item c).piece (item c).sectors (item c).sum
      block c h =
          let x = in_entries g changes (λ d i. i) are c h in
          record { holder = x.0; is_dataset = x.1; at = c; is_entry = x.2; is_piece = (from_pointers g changes (λ d i. i) are c h).is.first; size = refl; same_sum = refl }

      all : (p : Piece) → IsLive (put_over g changes) p → p.birth ≡ o.txg → has_item items p ≡ true
      all p live born =
          let e : Key × Bp = (live.holds).entry in
          let is : Has (pieces_of e.1) p = (live.holds).is_piece in
          elim (from_entries g changes (λ d i. i) are live.holder e live.is_dataset (live.holds).is_entry) [
            | inl new ↦ found items (item e) p (has_moved items (map item (pointers_of_all changes)) (item e) (IsPermutation-sym (map item (pointers_of_all changes)) items same) (has-map item (pointers_of_all changes) e new)) (piece_is e.1 p (from_pointers g changes (λ d i. i) are e new).is.single is)
            | inr old ↦ absurd (let early : e.1.birth < o.txg = older old.0 e old.1 old.2 in let at : p.birth ≡ e.1.birth = piece_birth e.1 p is in omega (arith, early, at, born))
          ]
