-- A destroyed dataset frees just the pieces of its entries at home that its one child does not hold.
use Rattle.std.proofs.Common.{◌≡◌, ◌≢◌, ◌⊎◌, ◌≤◌, ℕ, false, List, refl, sym, ap, subst, ◌∙◌, arith, map}
use Rattle.std.specs.Prelude.{◌↔◌, Option, Some, None, option_to_list}
use Rattle.std.specs.List.Sorted.{IsStrictlySortedBy}
use Rattle.std.proofs.lemmas.Bool.{cases_lt}
use Rattle.zs_ids.specs.declared.key.Key.{Key}
use Rattle.zs_ids.specs.declared.block.Bp.{Bp}
use Rattle.zs_ids.specs.declared.block.Piece.{Piece}
use Rattle.zs_ids.specs.declared.block.Item.{Item}
use Rattle.zs_ids.specs.declared.dataset.DsId.{DsId}
use Rattle.zs_ids.specs.Piece.{piece_cmp}
use Rattle.zs_ids.specs.Graph.{Has, Dataset, Graph, IsLive, IsOfBlock}
use Rattle.zs_ids.specs.GraphTree.{IsParent, Above, dataset_at, entries_of, start_of}
use Rattle.zs_ids.specs.GraphTree.Above.{direct}
use Rattle.zs_ids.specs.GraphValid.{IsValid}
use Rattle.zs_ids.specs.GraphChange.{destroyed, MayDestroy, AreFreed}
use Rattle.zs_graph.specs.Climbing.{AtOrAbove, IsFoundFrom}
use Rattle.zs_graph.specs.Frees.{IsPieceOf, held_by, IsFreedByDestroy}
use Rattle.zs_graph.proofs.Graphs.{cases_id, one_dataset, dataset_is, start_is, has-child, from-children, below_child, acyclic}
use Rattle.zs_graph.proofs.Keys.{one_key}
use Rattle.zs_graph.proofs.Births.{last_in_snapshot}
use Rattle.zs_graph.proofs.Climbs.{has_home, one_home}
use Rattle.zs_graph.proofs.FreedItems.{freed_items}
use Rattle.zs_graph.proofs.DestroyTree as tree
use mathlib.Core.Logic.{inl, inr}

-- the one child, or where there is none the id of the dataset that is destroyed
abbrev child_or : DsId → Option DsId → DsId
child_or gone None = gone
child_or gone (Some child) = child

-- the ids of a list of at most one
listed : (id : DsId) (next : Option DsId) → Has (option_to_list next) id → next ≡ Some id
listed id None h = absurd h
listed id (Some x) (inl is) = ap Some is
listed id (Some x) (inr none) = absurd none

-- what is held by the dataset with an id
holds_there : (g : Graph) (next : Option DsId) (id : DsId) (d : Dataset) (e : Key × Bp) → next ≡ Some id → dataset_at g id ≡ Some d → Has d.entries e → Has (held_by g next) e
holds_there g next id d e is found h =
    subst (λ (o : Option DsId). Has (held_by g o) e) (sym is) (subst (λ (o : Option Dataset). Has (entries_of o) e) (sym found) h)

itself : (n : ℕ) → n ≤ n
itself n = omega arith

module _ (g : Graph) (n : ℕ) (valid : IsValid g n) (gone : Dataset) (next : Option DsId) (may : MayDestroy g gone next) where
  abbrev pub new : Graph
  new = destroyed g gone

  -- what stands on it is the one child
  next_is : (c : DsId) → IsParent g gone.id c → next ≡ Some c
  next_is c p = listed c next (subst (λ (l : List DsId). Has l c) may.only (has-child g gone.id c p))

  only : (c : DsId) → IsParent g gone.id c → c ≡ child_or gone.id next
  only c p = sym (ap (λ (o : Option DsId). child_or gone.id o) (next_is c p))

  -- a dataset that is not destroyed, and holds an entry at home in the one that is, stands below the child, which holds it too
  child_holds : (y : Dataset) (e : Key × Bp) → Has g y → y.id ≢ gone.id → IsFoundFrom g gone.id e y → Has (held_by g next) e
  child_holds y e i other found = elim found.upward [
    | inl same ↦ absurd (other (sym same))
    | inr above ↦ elim (below_child g gone.id y.id above) [
      | inl child ↦ through y.id (inl refl) (from-children g gone.id y.id child)
      | inr r ↦ through r.0 (inr r.2) (from-children g gone.id r.0 r.1)
    ]
  ]
    where
      through : (c : DsId) → AtOrAbove g c y.id → IsParent g gone.id c → Has (held_by g next) e
      through c up p =
          let d = p.child in
          let down : AtOrAbove g gone.id d.id = subst (λ (x : DsId). AtOrAbove g gone.id x) (sym p.named) (inr (direct c p)) in
          let holds : Has d.entries e = found.way d p.here down (subst (λ (x : DsId). AtOrAbove g x y.id) (sym p.named) up) in
          holds_there g next c d e (next_is c p) (dataset_is g valid.tree.in_order d c p.here p.named) holds

  -- what is freed was a piece of a block
  pub destroy_was : (p : Piece) (sectors : ℕ) (sum : List ℕ) → IsFreedByDestroy g gone next p sectors sum → IsOfBlock g p sectors sum
  destroy_was p sectors sum f = record {
    holder = gone;
    is_dataset = may.here;
    at = f.entry;
    is_entry = f.home.holds;
    is_piece = f.of.is_piece;
    size = f.of.size;
    same_sum = f.of.same_sum;
  }

  -- and is not live any more
  pub destroy_gone : (p : Piece) (sectors : ℕ) (sum : List ℕ) → IsFreedByDestroy g gone next p sectors sum → IsLive new p → ⊥
  destroy_gone p sectors sum f live =
      let w = tree.was g n n (itself n) valid gone may.here may.not_origin (child_or gone.id next) only live.holder live.is_dataset in
      let kept = (tree.was_same g n n (itself n) valid gone may.here may.not_origin (child_or gone.id next) only live.holder w).entries in
      let held : Has w.old.entries live.holds.entry = subst (λ (l : List (Key × Bp)). Has l live.holds.entry) kept live.holds.is_entry in
      let z = has_home g n valid w.old live.holds.entry w.there held in
      let one = one_home g n valid gone z.0 f.entry live.holds.entry p f.home z.1 f.of.is_piece live.holds.is_piece in
      let found : IsFoundFrom g gone.id f.entry w.old = subst (λ (id : DsId). IsFoundFrom g id f.entry w.old) one.0 (subst (λ (e : Key × Bp). IsFoundFrom g (z.0).id e w.old) one.1 z.2) in
      f.unheld (child_holds w.old f.entry w.there w.stays found)

  -- a block of a dataset that is not destroyed stays
  stays_in : (y : Dataset) (e : Key × Bp) (p : Piece) (sectors : ℕ) (sum : List ℕ) → Has g y → y.id ≢ gone.id → Has y.entries e → IsPieceOf e p sectors sum → IsOfBlock new p sectors sum
  stays_in y e p sectors sum i other h of = record {
    holder = tree.put g n n (itself n) valid gone may.here may.not_origin (child_or gone.id next) only y;
    is_dataset = tree.has_new g n n (itself n) valid gone may.here may.not_origin (child_or gone.id next) only y i other;
    at = e;
    is_entry = subst (λ (l : List (Key × Bp)). Has l e) (sym (tree.put_same g n n (itself n) valid gone may.here may.not_origin (child_or gone.id next) only y).entries) h;
    is_piece = of.is_piece;
    size = of.size;
    same_sum = of.same_sum;
  }

  no_loop : (x : DsId) → IsParent g x gone.id → x ≢ gone.id
  no_loop x p e = acyclic g n valid.tree gone.id (subst (λ (y : DsId). Above g y gone.id) e (direct gone.id p))

  -- a dataset on which another one stands is a snapshot, so that its blocks are born by its creation
  pub gone_births : (d : Dataset) → Has g d → d.parent ≡ Some gone.id → (e : Key × Bp) → Has gone.entries e → e.1.birth ≤ gone.creation
  gone_births d i on e h =
      let off : gone.head ≡ false = tree.gone_snapshot g n n (itself n) valid gone may.here may.not_origin (child_or gone.id next) only d i on in
      subst (λ (k : ℕ). e.1.birth ≤ k) (last_in_snapshot gone n off) ((valid.holds gone may.here).births e h)

  -- an entry at home in the destroyed dataset: the child holds it, or does not
  held_or_not : (e : Key × Bp) → Has gone.entries e → (o : Option DsId) → next ≡ o → (Has (held_by g next) e → ⊥) ⊎ ((d : Dataset) × Has g d × (d.id ≢ gone.id) × Has d.entries e)
  held_or_not e h None is = inl (λ held. subst (λ (o : Option DsId). Has (held_by g o) e) is held)
  held_or_not e h (Some c) is = by p.child refl
    where
      p : IsParent g gone.id c
      p = from-children g gone.id c (subst (λ (l : List DsId). Has l c) (sym may.only) (subst (λ (o : Option DsId). Has (option_to_list o) c) (sym is) (inl refl)))

      by : (d : Dataset) → d ≡ p.child → (Has (held_by g next) e → ⊥) ⊎ ((d : Dataset) × Has g d × (d.id ≢ gone.id) × Has d.entries e)
      by d same =
          let here : Has g d = subst (λ (x : Dataset). Has g x) (sym same) p.here in
          let on : d.parent ≡ Some gone.id = ap (λ (x : Dataset). x.parent) same ∙ p.stands in
          let named : d.id ≡ c = ap (λ (x : Dataset). x.id) same ∙ p.named in
          let shares = valid.shares d gone here may.here on in
          let b = shares.keys e h in
          elim (cases_lt gone.creation b.entry.1.birth) [
            | inl young ↦ inl (λ held.
                let found = dataset_is g valid.tree.in_order d c here named in
                let is_held : Has d.entries e = subst (λ (o : Option Dataset). Has (entries_of o) e) found (subst (λ (o : Option DsId). Has (held_by g o) e) is held) in
                let one : b.entry ≡ e = one_key d.entries (valid.holds d here).in_order b.entry e b.is_entry is_held b.is_key in
                let birth : b.entry.1.birth ≡ e.1.birth = ap (λ (x : Key × Bp). x.1.birth) one in
                let low : e.1.birth ≤ gone.creation = gone_births p.child p.here p.stands e h in
                absurd (omega (arith, young, birth, low)))
            | inr old ↦
                let there : Has gone.entries b.entry = shares.shared b.entry b.is_entry old in
                let one : b.entry ≡ e = one_key gone.entries (valid.holds gone may.here).in_order b.entry e there h b.is_key in
                let other : d.id ≢ gone.id = (λ x. acyclic g n valid.tree gone.id (subst (λ (y : DsId). Above g gone.id y) (sym named ∙ x) (direct c p))) in
                inr (d, here, other, subst (λ (x : Key × Bp). Has d.entries x) one b.is_entry)
          ]

  -- what was a piece of a block is freed, or one of a block still
  pub destroy_rest : (p : Piece) (sectors : ℕ) (sum : List ℕ) → IsOfBlock g p sectors sum → IsFreedByDestroy g gone next p sectors sum ⊎ IsOfBlock new p sectors sum
  destroy_rest p sectors sum b = elim (cases_id b.holder.id gone.id) [
    | inr other ↦ inr (stays_in b.holder b.at p sectors sum b.is_dataset other b.is_entry of)
    | inl e ↦ in_gone (subst (λ (d : Dataset). Has d.entries b.at) (one_dataset g valid.tree.in_order b.holder gone b.is_dataset may.here e) b.is_entry)
  ]
    where
      of : IsPieceOf b.at p sectors sum
      of = record { is_piece = b.is_piece; size = b.size; same_sum = b.same_sum }

      in_gone : Has gone.entries b.at → IsFreedByDestroy g gone next p sectors sum ⊎ IsOfBlock new p sectors sum
      in_gone h = elim (cases_lt (start_of g gone.parent) b.at.1.birth) [
        | inl born ↦ elim (held_or_not b.at h next refl) [
          | inl unheld ↦ inl (record { entry = b.at; home = record { here = may.here; holds = h; born = born }; unheld = unheld; of = of })
          | inr d ↦ inr (stays_in d.0 b.at p sectors sum d.1 d.2 d.3 of)
        ]
        | inr old ↦
            let s = tree.gone_stands g n n (itself n) valid gone may.here may.not_origin (child_or gone.id next) only in
            let start : start_of g gone.parent ≡ s.below.creation = start_is g valid.tree.in_order s.below gone.parent s.here s.is_parent in
            let there : Has s.below.entries b.at = (valid.shares gone s.below may.here s.here s.is_parent).shared b.at h (omega (arith, old, start)) in
            inr (stays_in s.below b.at p sectors sum s.here (no_loop s.below.id (record { child = gone; here = may.here; named = refl; stands = s.is_parent })) there of)
      ]

  -- the items of a destroyed dataset
  pub destroy_frees : (items : List Item) → IsStrictlySortedBy piece_cmp (map (λ (i : Item). i.piece) items) → ((i : Item) → Has items i ↔ IsFreedByDestroy g gone next i.piece i.sectors i.sum) → AreFreed g new items
  destroy_frees items sorted are =
      freed_items g new (λ (p : Piece) (sectors : ℕ) (sum : List ℕ). IsFreedByDestroy g gone next p sectors sum) items destroy_was destroy_gone destroy_rest sorted are
