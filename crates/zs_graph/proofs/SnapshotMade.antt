-- A snapshot is taken: the datasets stay valid, and nothing is freed.
use Rattle.std.proofs.Common.{◌≡◌, ◌<◌, ◌≤◌, ◌+◌, ℕ, Bool, true, false, cond, refl, sym, ap, subst, ◌∙◌, arith, List}
use Rattle.std.specs.Prelude.{◌++◌, ◌∷◌, [], map, slice_get, Some, None}
use Rattle.zs_ids.specs.declared.key.Key.{Key}
use Rattle.zs_ids.specs.declared.block.Bp.{Bp}
use Rattle.zs_ids.specs.declared.block.Piece.{Piece}
use Rattle.zs_ids.specs.declared.dataset.DsId.{DsId}
use Rattle.zs_ids.specs.declared.dataset.Name.{Name}
use Rattle.zs_ids.specs.Graph.{Has, Dataset, Graph, IsOfBlock}
use Rattle.zs_ids.specs.GraphTree.{dataset_at}
use Rattle.zs_ids.specs.GraphValid.{IsInIdOrder, IsValid, last_birth}
use Rattle.zs_ids.specs.GraphChange.{MaySnapshot, moved_onto, with_snapshot}
use Rattle.zs_graph.specs.View.{GraphView, IsGraph}
use Rattle.zs_graph.specs.ByIndex.{below_at, with_snapshot_at}
use Rattle.zs_graph.specs.Refusals.{snapshot_refusal}
use Rattle.zs_graph.specs.Made.{IsUpTo, IsAdded, IsSnapshotTaken}
use Rattle.zs_graph.proofs.Graphs.{cases_id, one_dataset}
use Rattle.zs_graph.proofs.Kept.{within_kept, blocks_kept, last_same}
use Rattle.zs_graph.proofs.SnapshotTree as tree
use Rattle.zs_graph.proofs.SnapshotTree.Now.{is_snap, is_above, is_other}
use Rattle.zs_graph.proofs.Allowed.{snapshot_allowed}
use Rattle.zs_graph.proofs.Searches.{changed_at}
use mathlib.Core.Logic.{inl, inr}

-- datasets that are valid are so up to a group after which nothing is born
last_up : (d : Dataset) (n t birth : ℕ) → birth ≤ last_birth d n → birth ≤ t → birth ≤ last_birth d t
last_up d n t birth by up = go d.head by
  where
    go : (b : Bool) → birth ≤ cond b n d.creation → birth ≤ cond b t d.creation
    go true le = up
    go false le = le

pub valid_up_to : (g : Graph) (n t : ℕ) → IsValid g n → IsUpTo g t → IsValid g t
valid_up_to g n t valid up = record {
  tree = record {
    root = valid.tree.root;
    stands = valid.tree.stands;
    in_order = valid.tree.in_order;
    few = valid.tree.few;
    names = valid.tree.names;
    created = up.creations;
    heads = valid.tree.heads;
  };
  holds = λ d h. let b = valid.holds d h in record {
    in_order = b.in_order;
    births = λ e i. last_up d n t e.1.birth (b.births e i) (up.births d e h i);
    levels = b.levels;
    at_most_four = b.at_most_four;
    size = b.size;
    is_size = b.is_size;
    blocks = b.blocks;
    parents = b.parents;
  };
  shares = valid.shares;
  apart = valid.apart;
}

-- and up to each later group
pub valid_later : (g : Graph) (n h : ℕ) → n ≤ h → IsValid g n → IsValid g h
valid_later g n h early valid = record {
  tree = record {
    root = valid.tree.root;
    stands = valid.tree.stands;
    in_order = valid.tree.in_order;
    few = valid.tree.few;
    names = valid.tree.names;
    created = λ d i. let c : d.creation ≤ n = valid.tree.created d i in omega (arith, c, early);
    heads = valid.tree.heads;
  };
  holds = λ d i. blocks_kept d d n h refl (last_same d d n h refl refl early) (valid.holds d i);
  shares = valid.shares;
  apart = valid.apart;
}

module _ (v : GraphView) (facts : IsGraph v) (head : Dataset) (id : DsId) (label : Name) (t : ℕ) (is : id.0 ≡ v.next) (may : MaySnapshot v.sets head id label t) (up : IsUpTo v.sets t) where
  abbrev new : Graph
  new = with_snapshot v.sets head id label t

  abbrev taken : GraphView
  taken = record { sets = new; next = v.next + 1 }

  valid_now : IsValid v.sets t
  valid_now = valid_up_to v.sets facts.last t facts.valid up

  pub snapshot_kept : IsGraph taken
  snapshot_kept = record {
    last = t;
    valid = tree.new_valid v.sets t t (omega arith) valid_now head id label may;
    below = λ d h. elim (tree.now v.sets t t (omega arith) valid_now head id label may d h) [
      | is_snap e ↦ let s : id.0 ≡ d.id.0 = ap (λ (x : Dataset). x.id.0) e in omega (arith, is, s)
      | is_above e ↦ let s : head.id.0 ≡ d.id.0 = ap (λ (x : Dataset). x.id.0) e in let b : head.id.0 < v.next = facts.below head may.here in omega (arith, b, s)
      | is_other i ne ↦ let b : d.id.0 < v.next = facts.below d i in omega (arith, b)
    ];
  }

  block_stays : (p : Piece) (sectors : ℕ) (sum : List ℕ) → IsOfBlock v.sets p sectors sum → IsOfBlock new p sectors sum
  block_stays p sectors sum b = elim (cases_id b.holder.id head.id) [
    | inl e ↦
        let same : b.holder ≡ head = one_dataset v.sets facts.valid.tree.in_order b.holder head b.is_dataset may.here e in
        record { holder = tree.above_snap v.sets t t (omega arith) valid_now head id label may; is_dataset = tree.has_above v.sets t t (omega arith) valid_now head id label may; at = b.at; is_entry = subst (λ (d : Dataset). Has d.entries b.at) same b.is_entry; is_piece = b.is_piece; size = b.size; same_sum = b.same_sum }
    | inr ne ↦ record { holder = b.holder; is_dataset = tree.has_other v.sets t t (omega arith) valid_now head id label may b.holder b.is_dataset ne; at = b.at; is_entry = b.is_entry; is_piece = b.is_piece; size = b.size; same_sum = b.same_sum }
  ]

  pub snapshot_added : IsAdded t v id taken
  snapshot_added = record {
    number = is;
    next = refl;
    valid = λ room n h early from valid. record {
      graph = valid_later new t h from (tree.new_valid v.sets t t (omega arith) valid_now head id label may);
      within = within_kept room v.sets new (tree.holds v.sets t t (omega arith) valid_now head id label may) valid.within;
    };
    frees_none = record { kept = block_stays };
  }

module _ (v : GraphView) (facts : IsGraph v) (head : DsId) (of : Dataset) (at : dataset_at v.sets head ≡ Some of) (id : DsId) (label : Name) (t : ℕ) (is : id.0 ≡ v.next) (up : IsUpTo v.sets t) (none : snapshot_refusal v head label t ≡ None) where
  pub snapshot_stays : IsGraph (taken v facts of id label t is (snapshot_allowed v facts head of id label t at is none).0 up)
  snapshot_stays = snapshot_kept v facts of id label t is (snapshot_allowed v facts head of id label t at is none).0 up

  pub snapshot_made : (new : GraphView) → new ≡ record { sets = with_snapshot v.sets of id label t; next = v.next + 1 } → IsSnapshotTaken v head label t id new
  snapshot_made new e =
      let may = (snapshot_allowed v facts head of id label t at is none).0 in
      record { of = of; here = at; may = may; now = ap (λ (x : GraphView). x.sets) e; added = subst (λ (x : GraphView). IsAdded t v id x) (sym e) (snapshot_added v facts of id label t is may up) }

-- the head named by its index
pub below_by_index : (g : Graph) → IsInIdOrder g → (at : ℕ) (of : Dataset) (id : DsId) (label : Name) (t : ℕ) (es : List (Key × Bp)) → slice_get g at ≡ Some of → es ≡ of.entries → below_at g at id label t es ≡ with_snapshot g of id label t
below_by_index g order at of id label t es there same =
    let snap : List (Key × Bp) → Dataset = λ l. record { id = id; head = false; owner = of.owner; label = label; parent = of.parent; creation = t; entries = l } in
    rw there (ap (λ (l : Graph). l ++ snap es ∷ []) (changed_at g order at of (λ d. record d { parent = Some id }) there) ∙ ap (λ (l : List (Key × Bp)). map (moved_onto of.id (Some id)) g ++ snap l ∷ []) same)

module _ (v : GraphView) (facts : IsGraph v) (head : DsId) (at : ℕ) (of : Dataset) (there : slice_get v.sets at ≡ Some of) (place : slice_get v.sets at ≡ dataset_at v.sets head) (id : DsId) (label : Name) (t : ℕ) (is : id.0 ≡ v.next) (up : IsUpTo v.sets t) (none : snapshot_refusal v head label t ≡ None) (es : List (Key × Bp)) (same : es ≡ of.entries) where
  is_taken : with_snapshot_at v at id label t es ≡ record { sets = with_snapshot v.sets of id label t; next = v.next + 1 }
  is_taken =
      ap (λ (g : Graph). let w : GraphView = record { sets = g; next = v.next + 1 } in w) (below_by_index v.sets facts.valid.tree.in_order at of id label t es there same)

  pub snapshot_at_kept : IsGraph (with_snapshot_at v at id label t es)
  snapshot_at_kept = subst IsGraph (sym is_taken) (snapshot_stays v facts head of (sym place ∙ there) id label t is up none)

  pub snapshot_at_made : (new : GraphView) → new ≡ with_snapshot_at v at id label t es → IsSnapshotTaken v head label t id new
  snapshot_at_made new e = snapshot_made v facts head of (sym place ∙ there) id label t is up none new (e ∙ is_taken)
