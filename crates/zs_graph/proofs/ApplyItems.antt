-- The items that are found where blocks are put over those of a head are those that this frees.
use Rattle.std.proofs.Common.{◌≡◌, ◌⊎◌, ◌<◌, ◌≤◌, ◌+◌, ℕ, Bool, true, false, List, [], Option, refl, sym, ap, subst, ◌∙◌, arith}
use Rattle.std.specs.Prelude.{slice_get, nat_lt, Some, None, if◌then◌else◌}
use Rattle.std.specs.List.Sorted.{IsPermutation, IsSortedByKey}
use Rattle.std.proofs.lemmas.Bool.{ltb-true, lt-ltb}
use Rattle.std.proofs.lemmas.List.Sorted.{IsPermutation-sym}
use Rattle.zs_ids.specs.declared.key.Key.{Key}
use Rattle.zs_ids.specs.declared.block.Bp.{Bp}
use Rattle.zs_ids.specs.declared.block.Piece.{Piece}
use Rattle.zs_ids.specs.declared.block.Item.{Item}
use Rattle.zs_ids.specs.Blocks.{bp_at, entries_with}
use Rattle.zs_ids.specs.Piece.{piece_cmp}
use Rattle.zs_ids.specs.Graph.{Has, Dataset, Graph, pieces_of}
use Rattle.zs_ids.specs.GraphTree.{start_of, IsHome}
use Rattle.zs_ids.specs.GraphValid.{IsValid}
use Rattle.zs_ids.specs.GraphChange.{applied, MayPut, AreFreed}
use Rattle.zs_graph.specs.View.{IsGraph, GraphView}
use Rattle.zs_graph.specs.ByIndex.{applied_at}
use Rattle.zs_graph.specs.Frees.{IsPieceOf, IsPieceIn, IsFreedByApply}
use Rattle.zs_graph.specs.Freeing.{items_of, items_after, items_at}
use Rattle.zs_graph.proofs.Climbs.{one_home}
use Rattle.zs_graph.proofs.Homes.{piece_birth}
use Rattle.zs_graph.proofs.UsedPlaces.{AreOnce, pieces_once}
use Rattle.zs_graph.proofs.ItemsOf.{pieces_in, block_pieces, from_block, to_block, from-flat, has-flat, keys_once, once-flat}
use Rattle.zs_graph.proofs.SortedItems.{strictly, has_moved}
use Rattle.zs_graph.proofs.Found.{at_some, entry_at}
use Rattle.zs_graph.proofs.Searches.{changed_at}
use Rattle.zs_graph.proofs.FreeingApply.{apply_frees}
use Rattle.zs_graph.proofs.Lists.{from-map}
use mathlib.Core.Logic.{inl, inr}

-- the items of a change are those of a block at its key that is born after `start`
record IsAt (es : List (Key × Bp)) (start : ℕ) (c : Key × Bp) (items : List Item) : Type 0 where
  bp : Bp
  here : Has es (c.0, bp)
  born : start < bp.birth
  are : items ≡ items_of bp

-- or there are none
given : (es : List (Key × Bp)) (start : ℕ) (c : Key × Bp) → (items_after start (bp_at es c.0) ≡ []) ⊎ IsAt es start c (items_after start (bp_at es c.0))
given es start c = at (bp_at es c.0) refl
  where
    at : (o : Option Bp) → bp_at es c.0 ≡ o → (items_after start o ≡ []) ⊎ IsAt es start c (items_after start o)
    at None is = inl refl
    at (Some bp) is = test (nat_lt start bp.birth) refl
      where
        test : (b : Bool) → nat_lt start bp.birth ≡ b → ((if b then items_of bp else []) ≡ []) ⊎ IsAt es start c (if b then items_of bp else [])
        test true young = inr (record { bp = bp; here = at_some es c.0 bp is; born = ltb-true start bp.birth young; are = refl })
        test false old = inl refl

module _ (g : Graph) (n t last : ℕ) (early : n ≤ last) (late : t ≤ last) (valid : IsValid g n) (head : Dataset) (changes : List (Key × Bp)) (may : MayPut g head changes t) where
  abbrev start : ℕ
  start = start_of g head.parent

  abbrev of_change : Key × Bp → List Item
  of_change c = items_after start (bp_at head.entries c.0)

  abbrev pub found : List Item
  found = items_at head.entries start changes

  -- the block that an item of a change is of
  record IsOf (c : Key × Bp) (i : Item) : Type 0 where
    bp : Bp
    home : IsHome g head (c.0, bp)
    of : IsPieceOf (c.0, bp) i.piece i.sectors i.sum

  from_change : (c : Key × Bp) (i : Item) → Has (of_change c) i → IsOf c i
  from_change c i h = elim (given head.entries start c) [
    | inl none ↦ absurd (subst (λ (l : List Item). Has l i) none h)
    | inr a ↦ record { bp = a.bp; home = record { here = may.here; holds = a.here; born = a.born }; of = from_block (c.0, a.bp) i (subst (λ (l : List Item). Has l i) a.are h) }
  ]

  -- a change frees no piece twice
  once : (c : Key × Bp) → AreOnce (pieces_in (of_change c))
  once c = elim (given head.entries start c) [
    | inl none ↦ subst (λ (l : List Item). AreOnce (pieces_in l)) (sym none) tt
    | inr a ↦ subst (λ (l : List Item). AreOnce (pieces_in l)) (sym a.are) (subst AreOnce (sym (block_pieces a.bp)) (pieces_once g n valid head (c.0, a.bp) may.here a.here))
  ]

  -- changes that free one piece have one key
  share : (c d : Key × Bp) (p : Piece) → Has (pieces_in (of_change c)) p → Has (pieces_in (of_change d)) p → c.0 ≡ d.0
  share c d p hc hd =
      let ic = from-map (λ (i : Item). i.piece) (of_change c) p hc in
      let id = from-map (λ (i : Item). i.piece) (of_change d) p hd in
      let bc = from_change c ic.0 ic.1 in
      let bd = from_change d id.0 id.1 in
      let pc : Has (pieces_of bc.bp) p = subst (λ (q : Piece). Has (pieces_of bc.bp) q) ic.2 bc.of.is_piece in
      let pd : Has (pieces_of bd.bp) p = subst (λ (q : Piece). Has (pieces_of bd.bp) q) id.2 bd.of.is_piece in
      ap (λ (e : Key × Bp). e.0) (one_home g n valid head head (d.0, bd.bp) (c.0, bc.bp) p bd.home bc.home pd pc).1

  found_once : AreOnce (pieces_in found)
  found_once = once-flat of_change changes (keys_once changes may.in_order) (λ c h. once c) (λ c d p hc hd k l. share c d p k l)

  -- no piece of the changes is freed
  younger : (e : Key × Bp) (p : Piece) → Has head.entries e → Has (pieces_of e.1) p → IsPieceIn changes p → ⊥
  younger e p h is put =
      let of_old : p.birth ≡ e.1.birth = piece_birth e.1 p is in
      let of_new : p.birth ≡ put.entry.1.birth = piece_birth put.entry.1 p put.is_piece in
      let born : put.entry.1.birth ≡ t = may.born put.entry put.here in
      let low : e.1.birth < t = may.older e h in
      omega (arith, of_old, of_new, born, low)

  -- what is found is freed
  are_freed : (i : Item) → Has found i → IsFreedByApply g head changes i.piece i.sectors i.sum
  are_freed i h =
      let r = from-flat of_change changes i h in
      let c = r.0 in
      let b = from_change c i r.2 in
      record { entry = (c.0, b.bp); home = b.home; change = c; is_change = r.1; same_key = refl; of = b.of; unkept = younger (c.0, b.bp) i.piece b.home.holds b.of.is_piece }

  -- and what is freed is found
  are_found : (i : Item) → IsFreedByApply g head changes i.piece i.sectors i.sum → Has found i
  are_found i f =
      let at : bp_at head.entries f.change.0 ≡ Some f.entry.1 = entry_at head.entries f.entry f.change.0 (valid.holds head may.here).in_order f.home.holds f.same_key in
      let young : nat_lt start f.entry.1.birth ≡ true = lt-ltb start f.entry.1.birth f.home.born in
      let are : of_change f.change ≡ items_of f.entry.1 = ap (λ (o : Option Bp). items_after start o) at ∙ ap (λ (b : Bool). if b then items_of f.entry.1 else []) young in
      has-flat of_change changes f.change i f.is_change (subst (λ (l : List Item). Has l i) (sym are) (to_block f.entry i f.of))

  -- in order of piece they are what is freed
  pub put_frees : (items : List Item) → IsPermutation found items → IsSortedByKey (λ (i : Item). i.piece) piece_cmp items → AreFreed g (applied g head changes) items
  put_frees items same sorted =
      apply_frees g n t last early late valid head changes may may.older items (strictly found items same sorted found_once) (λ i. (λ h. are_freed i (has_moved items found i (IsPermutation-sym found items same) h), λ f. has_moved found items i same (are_found i f)))

-- as the call finds them, for a head that is named by its index
pub put_items : (v : GraphView) (facts : IsGraph v) (at : ℕ) (head : Dataset) → slice_get v.sets at ≡ Some head → (changes : List (Key × Bp)) (t : ℕ) → MayPut v.sets head changes t → (from : ℕ) → from ≡ start_of v.sets head.parent → (found items : List Item) → found ≡ items_at head.entries from changes → IsPermutation found items → IsSortedByKey (λ (i : Item). i.piece) piece_cmp items → AreFreed v.sets (applied_at v.sets at changes) items
put_items v facts at head there changes t may from begins found items is same sorted =
    let by_id : applied_at v.sets at changes ≡ applied v.sets head changes = rw there (changed_at v.sets facts.valid.tree.in_order at head (λ (d : Dataset). record d { entries = entries_with head.entries changes }) there) in
    let are : found ≡ items_at head.entries (start_of v.sets head.parent) changes = is ∙ ap (λ (n : ℕ). items_at head.entries n changes) begins in
    subst (λ (h : Graph). AreFreed v.sets h items) (sym by_id) (put_frees v.sets facts.last t (facts.last + t) (omega arith) (omega arith) facts.valid head changes may items (subst (λ (l : List Item). IsPermutation l items) are same) sorted)
