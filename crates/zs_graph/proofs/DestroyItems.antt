-- The items that are found where a dataset is destroyed are those that this frees.
use Rattle.std.proofs.Common.{◌≡◌, ◌≤◌, ℕ, Bool, true, false, List, [], Option, refl, sym, ap, subst, ◌∙◌, arith}
use Rattle.std.specs.Prelude.{filter, nat_lt, option_to_list, slice_get, Some, None, if◌then◌else◌}
use Rattle.std.specs.Ordering.{is_le}
use Rattle.std.specs.List.Sorted.{IsPermutation, IsSortedByKey}
use Rattle.std.proofs.lemmas.Bool.{true≢false, ltb-true, lt-ltb, eqb-true, eq-eqb}
use Rattle.std.proofs.lemmas.List.Sorted.{IsPermutation-sym}
use Rattle.zs_ids.specs.declared.key.Key.{Key}
use Rattle.zs_ids.specs.declared.block.Bp.{Bp}
use Rattle.zs_ids.specs.declared.block.Piece.{Piece}
use Rattle.zs_ids.specs.declared.block.Item.{Item}
use Rattle.zs_ids.specs.declared.dataset.DsId.{DsId}
use Rattle.zs_ids.specs.Key.{key_cmp, root_key}
use Rattle.zs_ids.specs.Blocks.{bp_at}
use Rattle.zs_ids.specs.Piece.{piece_cmp}
use Rattle.zs_ids.specs.Graph.{Has, Dataset, Graph, pieces_of}
use Rattle.zs_ids.specs.GraphTree.{start_of, entries_of, IsHome}
use Rattle.zs_ids.specs.GraphValid.{IsValid}
use Rattle.zs_ids.specs.GraphChange.{destroyed, MayDestroy, AreFreed}
use Rattle.zs_graph.specs.View.{GraphView, IsGraph}
use Rattle.zs_graph.specs.Frees.{IsPieceOf, held_by, IsFreedByDestroy}
use Rattle.zs_graph.specs.Freeing.{items_of, is_born, items_unheld, blocks_from, items_from}
use Rattle.zs_graph.proofs.Lists.{from-map, has-filter, from-filter, some_is}
use Rattle.zs_graph.proofs.Graphs.{dataset_is, from-children}
use Rattle.zs_graph.proofs.Climbs.{one_home}
use Rattle.zs_graph.proofs.Keys.{one_key, root_first}
use Rattle.zs_graph.proofs.UsedPlaces.{AreOnce, pieces_once}
use Rattle.zs_graph.proofs.ItemsOf.{pieces_in, block_pieces, from_block, to_block, from-flat, has-flat, keys_once, keys_once-filter, once-flat}
use Rattle.zs_graph.proofs.SortedItems.{strictly, has_moved}
use Rattle.zs_graph.proofs.Found.{at_some, entry_at}
use Rattle.zs_graph.proofs.FreeingDestroy.{destroy_frees, gone_births}
use mathlib.Core.Logic.{inl}

module _ (g : Graph) (n : ℕ) (valid : IsValid g n) (gone : Dataset) (next : Option DsId) (may : MayDestroy g gone next) where
  abbrev start : ℕ
  start = start_of g gone.parent

  abbrev held : List (Key × Bp)
  held = held_by g next

  abbrev own : List (Key × Bp)
  own = blocks_from gone.entries root_key start

  abbrev pub found : List Item
  found = items_from gone.entries root_key start held

  -- the blocks that the code comes to are those at home
  at_home : (e : Key × Bp) → Has own e → IsHome g gone e
  at_home e h =
      let r = from-filter (λ (x : Key × Bp). nat_lt start x.1.birth) (filter (λ (x : Key × Bp). is_le (key_cmp root_key x.0)) gone.entries) e h in
      let s = from-filter (λ (x : Key × Bp). is_le (key_cmp root_key x.0)) gone.entries e r.0 in
      record { here = may.here; holds = s.0; born = ltb-true start e.1.birth r.1 }

  is_own : (e : Key × Bp) → IsHome g gone e → Has own e
  is_own e h =
      has-filter (λ (x : Key × Bp). nat_lt start x.1.birth) (filter (λ (x : Key × Bp). is_le (key_cmp root_key x.0)) gone.entries) e (has-filter (λ (x : Key × Bp). is_le (key_cmp root_key x.0)) gone.entries e h.holds (root_first e.0)) (lt-ltb start e.1.birth h.born)

  -- what the child holds, as the dataset that it is
  record IsChild (c : DsId) : Type 0 where
    child : Dataset
    here : Has g child
    stands : child.parent ≡ Some gone.id
    are : held ≡ child.entries

  the_child : (c : DsId) → next ≡ Some c → IsChild c
  the_child c is =
      let p = from-children g gone.id c (subst (λ (l : List DsId). Has l c) (sym may.only) (subst (λ (o : Option DsId). Has (option_to_list o) c) (sym is) (inl refl))) in
      record { child = p.child; here = p.here; stands = p.stands; are = ap (λ (o : Option DsId). held_by g o) is ∙ ap (λ (o : Option Dataset). entries_of o) (dataset_is g valid.tree.in_order p.child c p.here p.named) }

  -- an entry that the child holds is born with what is at its key there
  held_born : (e : Key × Bp) → Has held e → is_born (bp_at held e.0) e.1.birth ≡ true
  held_born e h = go next refl
    where
      go : (o : Option DsId) → next ≡ o → is_born (bp_at held e.0) e.1.birth ≡ true
      go None is = absurd (subst (λ (p : Option DsId). Has (held_by g p) e) is h)
      go (Some c) is =
          let k = the_child c is in
          let at : bp_at held e.0 ≡ Some e.1 = ap (λ (l : List (Key × Bp)). bp_at l e.0) k.are ∙ entry_at k.child.entries e e.0 (valid.holds k.child k.here).in_order (subst (λ (l : List (Key × Bp)). Has l e) k.are h) refl in
          ap (λ (o : Option Bp). is_born o e.1.birth) at ∙ eq-eqb e.1.birth e.1.birth refl

  -- and an entry that is born with what is at its key there is held
  born_held : (e : Key × Bp) → Has gone.entries e → is_born (bp_at held e.0) e.1.birth ≡ true → Has held e
  born_held e h born = at (bp_at held e.0) refl born
    where
      at : (o : Option Bp) → bp_at held e.0 ≡ o → is_born o e.1.birth ≡ true → Has held e
      at None is t = absurd (true≢false (sym t))
      at (Some bp) is t = go next refl
        where
          there : Has held (e.0, bp)
          there = at_some held e.0 bp is

          same : bp.birth ≡ e.1.birth
          same = eqb-true bp.birth e.1.birth t

          go : (o : Option DsId) → next ≡ o → Has held e
          go None none = absurd (subst (λ (p : Option DsId). Has (held_by g p) (e.0, bp)) none there)
          go (Some c) some =
              let k = the_child c some in
              let low : e.1.birth ≤ gone.creation = gone_births g n valid gone next may k.child k.here k.stands e h in
              let in_child : Has k.child.entries (e.0, bp) = subst (λ (l : List (Key × Bp)). Has l (e.0, bp)) k.are there in
              let shared : Has gone.entries (e.0, bp) = (valid.shares k.child gone k.here may.here k.stands).shared (e.0, bp) in_child (omega (arith, low, same)) in
              subst (λ (x : Key × Bp). Has held x) (one_key gone.entries (valid.holds gone may.here).in_order (e.0, bp) e shared h refl) there

  -- an item of an entry is one of its block's, and the child does not hold the entry
  from_entry : (e : Key × Bp) (i : Item) → Has (items_unheld held e) i → IsPieceOf e i.piece i.sectors i.sum × (Has held e → ⊥)
  from_entry e i h = go (is_born (bp_at held e.0) e.1.birth) refl h
    where
      go : (b : Bool) → is_born (bp_at held e.0) e.1.birth ≡ b → Has (if b then [] else items_of e.1) i → IsPieceOf e i.piece i.sectors i.sum × (Has held e → ⊥)
      go true is none = absurd none
      go false is own_item = (from_block e i own_item, λ there. true≢false (sym (held_born e there) ∙ is))

  once : (e : Key × Bp) → Has own e → AreOnce (pieces_in (items_unheld held e))
  once e h = go (is_born (bp_at held e.0) e.1.birth)
    where
      go : (b : Bool) → AreOnce (pieces_in (if b then [] else items_of e.1))
      go true = tt
      go false = subst AreOnce (sym (block_pieces e.1)) (pieces_once g n valid gone e may.here (at_home e h).holds)

  share : (c d : Key × Bp) (p : Piece) → Has own c → Has own d → Has (pieces_in (items_unheld held c)) p → Has (pieces_in (items_unheld held d)) p → c.0 ≡ d.0
  share c d p hc hd pc pd =
      let ic = from-map (λ (i : Item). i.piece) (items_unheld held c) p pc in
      let id = from-map (λ (i : Item). i.piece) (items_unheld held d) p pd in
      let is_c : Has (pieces_of c.1) p = subst (λ (q : Piece). Has (pieces_of c.1) q) ic.2 (from_entry c ic.0 ic.1).0.is_piece in
      let is_d : Has (pieces_of d.1) p = subst (λ (q : Piece). Has (pieces_of d.1) q) id.2 (from_entry d id.0 id.1).0.is_piece in
      ap (λ (e : Key × Bp). e.0) (one_home g n valid gone gone d c p (at_home d hd) (at_home c hc) is_d is_c).1

  own_once : AreOnce (pieces_in found)
  own_once =
      once-flat (items_unheld held) own (keys_once-filter (λ (x : Key × Bp). nat_lt start x.1.birth) (filter (λ (x : Key × Bp). is_le (key_cmp root_key x.0)) gone.entries) (keys_once-filter (λ (x : Key × Bp). is_le (key_cmp root_key x.0)) gone.entries (keys_once gone.entries (valid.holds gone may.here).in_order))) once share

  -- what is found is freed
  are_freed : (i : Item) → Has found i → IsFreedByDestroy g gone next i.piece i.sectors i.sum
  are_freed i h =
      let r = from-flat (items_unheld held) own i h in
      let f = from_entry r.0 i r.2 in
      record { entry = r.0; home = at_home r.0 r.1; unheld = f.1; of = f.0 }

  -- and what is freed is found
  are_found : (i : Item) → IsFreedByDestroy g gone next i.piece i.sectors i.sum → Has found i
  are_found i f = has-flat (items_unheld held) own f.entry i (is_own f.entry f.home) (go (is_born (bp_at held f.entry.0) f.entry.1.birth) refl)
    where
      go : (b : Bool) → is_born (bp_at held f.entry.0) f.entry.1.birth ≡ b → Has (if b then [] else items_of f.entry.1) i
      go true is = absurd (f.unheld (born_held f.entry f.home.holds is))
      go false is = to_block f.entry i f.of

  -- in order of piece they are what is freed
  pub removal_frees : (items : List Item) → IsPermutation found items → IsSortedByKey (λ (i : Item). i.piece) piece_cmp items → AreFreed g (destroyed g gone) items
  removal_frees items same sorted =
      destroy_frees g n valid gone next may items (strictly found items same sorted own_once) (λ i. (λ h. are_freed i (has_moved items found i (IsPermutation-sym found items same) h), λ f. has_moved found items i same (are_found i f)))

-- as the call finds them, for a dataset that is named by its index
pub removal_items : (v : GraphView) (facts : IsGraph v) (at : ℕ) (gone : Dataset) → slice_get v.sets at ≡ Some gone → (next : Option DsId) → MayDestroy v.sets gone next → (from : ℕ) → from ≡ start_of v.sets gone.parent → (held : List (Key × Bp)) → held ≡ held_by v.sets next → (found items : List Item) → found ≡ items_from gone.entries root_key from held → IsPermutation found items → IsSortedByKey (λ (i : Item). i.piece) piece_cmp items → (d : Dataset) → slice_get v.sets at ≡ Some d → AreFreed v.sets (destroyed v.sets d) items
removal_items v facts at gone there next may from begins held holds found items is same sorted d named =
    let are : found ≡ items_from gone.entries root_key (start_of v.sets gone.parent) (held_by v.sets next) = is ∙ ap (λ (n : ℕ). items_from gone.entries root_key n held) begins ∙ ap (λ (l : List (Key × Bp)). items_from gone.entries root_key (start_of v.sets gone.parent) l) holds in
    subst (λ (x : Dataset). AreFreed v.sets (destroyed v.sets x) items) (some_is gone d (sym there ∙ named)) (removal_frees v.sets facts.last facts.valid gone next may items (subst (λ (l : List Item). IsPermutation l items) are same) sorted)
