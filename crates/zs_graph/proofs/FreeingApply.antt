-- Blocks that are applied to a head free just the pieces of the head's entries at home that they replace, but those that are
-- pieces of the blocks too.
use Rattle.std.proofs.Common.{◌≡◌, ◌≢◌, ◌⊎◌, ◌<◌, ◌≤◌, ℕ, false, List, [], ◌∷◌, refl, sym, ap, subst, ◌∙◌, arith, map}
use Rattle.std.specs.Prelude.{◌↔◌}
use Rattle.std.specs.List.Sorted.{IsStrictlySortedBy}
use Rattle.std.proofs.lemmas.Bool.{cases_lt, true≢false}
use Rattle.zs_ids.specs.declared.key.Key.{Key}
use Rattle.zs_ids.specs.declared.block.Bp.{Bp}
use Rattle.zs_ids.specs.declared.block.Piece.{Piece}
use Rattle.zs_ids.specs.declared.block.Item.{Item}
use Rattle.zs_ids.specs.declared.dataset.DsId.{DsId}
use Rattle.zs_ids.specs.Piece.{piece_cmp}
use Rattle.zs_ids.specs.Blocks.{entries_with}
use Rattle.zs_ids.specs.Graph.{Has, Dataset, Graph, pieces_of, IsLive, IsOfBlock}
use Rattle.zs_ids.specs.GraphTree.{start_of}
use Rattle.zs_ids.specs.GraphValid.{StandsOnSnapshot, last_birth, IsValid}
use Rattle.zs_ids.specs.GraphChange.{applied, MayPut, AreFreed}
use Rattle.zs_graph.specs.Climbing.{IsFoundFrom}
use Rattle.zs_graph.specs.Frees.{IsPieceOf, IsPieceIn, IsFreedByApply}
use Rattle.zs_graph.proofs.Graphs.{cases_id, one_dataset, start_is, ancestor}
use Rattle.zs_graph.proofs.Keys.{one_key}
use Rattle.zs_graph.proofs.KeyCases.{cases_has}
use Rattle.zs_graph.proofs.Births.{last_at_most}
use Rattle.zs_graph.proofs.Homes.{piece_birth}
use Rattle.zs_graph.proofs.Climbs.{has_home, one_home}
use Rattle.zs_graph.proofs.Replacing.{with-other, has-with, cases_at}
use Rattle.zs_graph.proofs.FreedItems.{freed_items}
use Rattle.zs_graph.proofs.ApplyTree.{from-with}
use Rattle.zs_graph.proofs.ApplyTree as tree
use Rattle.zs_graph.proofs.ApplyTree.Now.{is_head, is_other}
use mathlib.Core.Logic.{inl, inr}

-- some entry has the piece, or none
cases_in : (entries : List (Key × Bp)) (p : Piece) → IsPieceIn entries p ⊎ (IsPieceIn entries p → ⊥)
cases_in [] p = inr (λ i. i.here)
cases_in (e ∷ es) p = elim (cases_has (pieces_of e.1) p) [
  | inl h ↦ inl (record { entry = e; here = inl refl; is_piece = h })
  | inr none ↦ elim (cases_in es p) [
    | inl i ↦ inl (record { entry = i.entry; here = inr i.here; is_piece = i.is_piece })
    | inr more ↦ inr (λ i. go i.entry i.here i.is_piece none more)
  ]
]
  where
    go : (f : Key × Bp) → Has (e ∷ es) f → Has (pieces_of f.1) p → (Has (pieces_of e.1) p → ⊥) → (IsPieceIn es p → ⊥) → ⊥
    go f (inl is) has none more = none (subst (λ (x : Key × Bp). Has (pieces_of x.1) p) (sym is) has)
    go f (inr h) has none more = more (record { entry = f; here = h; is_piece = has })

module _ (g : Graph) (n t last : ℕ) (early : n ≤ last) (late : t ≤ last) (valid : IsValid g n) (head : Dataset) (changes : List (Key × Bp)) (may : MayPut g head changes t) where
  abbrev pub new : Graph
  new = applied g head changes

  abbrev with_changes : List (Key × Bp)
  with_changes = entries_with head.entries changes

  -- an entry of the head that stays is at no key of the changes, or is one of them
  kept_at : (e k : Key × Bp) → Has with_changes e → Has changes k → k.0 ≡ e.0 → Has changes e
  kept_at e k h i same =
      subst (λ (x : Key × Bp). Has changes x) (one_key with_changes may.blocks.in_order k e (has-with head.entries changes k may.in_order i) h same) i

  -- what is found from a dataset is at home in the head for the head alone
  not_below : (x : Dataset) (e : Key × Bp) → x.id ≢ head.id → IsFoundFrom g head.id e x → ⊥
  not_below x e other found = elim found.upward [
    | inl same ↦ other (sym same)
    | inr above ↦
        let a = ancestor g n valid.tree head.id x.id above in
        let is : a.0 ≡ head = one_dataset g valid.tree.in_order a.0 head a.1 may.here a.2 in
        true≢false (sym may.is_head ∙ sym (ap (λ (d : Dataset). d.head) is) ∙ a.3)
  ]

  -- what is freed was a piece of a block
  pub apply_was : (p : Piece) (sectors : ℕ) (sum : List ℕ) → IsFreedByApply g head changes p sectors sum → IsOfBlock g p sectors sum
  apply_was p sectors sum f = record {
    holder = head;
    is_dataset = may.here;
    at = f.entry;
    is_entry = f.home.holds;
    is_piece = f.of.is_piece;
    size = f.of.size;
    same_sum = f.of.same_sum;
  }

  -- and is not live any more
  pub apply_gone : (p : Piece) (sectors : ℕ) (sum : List ℕ) → IsFreedByApply g head changes p sectors sum → IsLive new p → ⊥
  apply_gone p sectors sum f live = by live.holder live.holds.entry live.holds.is_entry live.holds.is_piece (tree.now g n t last early late valid head changes may live.holder live.is_dataset)
    where
      by : (x : Dataset) (e : Key × Bp) → Has x.entries e → Has (pieces_of e.1) p → tree.Now g n t last early late valid head changes may x → ⊥
      by x e h is (is_head same) = elim (from-with head.entries changes e put) [
        | inl c ↦ f.unkept (record { entry = e; here = c; is_piece = is })
        | inr old ↦
            let z = has_home g n valid head e may.here old in
            let one = one_home g n valid head z.0 f.entry e p f.home z.1 f.of.is_piece is in
            let key : f.change.0 ≡ e.0 = f.same_key ∙ sym (ap (λ (y : Key × Bp). y.0) one.1) in
            f.unkept (record { entry = e; here = kept_at e f.change put f.is_change key; is_piece = is })
      ]
        where
          put : Has with_changes e
          put = subst (λ (d : Dataset). Has d.entries e) (sym same) h
      by x e h is (is_other i other) =
          let z = has_home g n valid x e i h in
          let one = one_home g n valid head z.0 f.entry e p f.home z.1 f.of.is_piece is in
          not_below x e other (subst (λ (id : DsId). IsFoundFrom g id e x) one.0 z.2)

  -- the piece is one of the head's, and one of the changes: both are born in their transaction group
  abbrev pub IsInBoth : Piece → Type 0
  IsInBoth p = IsPieceIn head.entries p × IsPieceIn changes p

  -- a piece of the changes is live
  pub change_live : (p : Piece) → IsPieceIn changes p → IsLive new p
  change_live p i = record {
    holder = tree.head_with g n t last early late valid head changes may;
    is_dataset = tree.has_head g n t last early late valid head changes may;
    holds = record { entry = i.entry; is_entry = has-with head.entries changes i.entry may.in_order i.here; is_piece = i.is_piece };
  }

  -- an entry of a dataset that stays
  stays_in : (x : Dataset) (e : Key × Bp) (p : Piece) (sectors : ℕ) (sum : List ℕ) → Has new x → Has x.entries e → IsPieceOf e p sectors sum → IsOfBlock new p sectors sum
  stays_in x e p sectors sum i h of = record { holder = x; is_dataset = i; at = e; is_entry = h; is_piece = of.is_piece; size = of.size; same_sum = of.same_sum }

  -- what was a piece of a block is freed, or one of a block still, or one of the head's that is one of the changes too
  pub apply_rest : (p : Piece) (sectors : ℕ) (sum : List ℕ) → IsOfBlock g p sectors sum → IsFreedByApply g head changes p sectors sum ⊎ (IsOfBlock new p sectors sum ⊎ IsInBoth p)
  apply_rest p sectors sum b = elim (cases_id b.holder.id head.id) [
    | inr other ↦ inr (inl (stays_in b.holder b.at p sectors sum (tree.has_other g n t last early late valid head changes may b.holder b.is_dataset other) b.is_entry of))
    | inl e ↦ in_head (subst (λ (d : Dataset). Has d.entries b.at) (one_dataset g valid.tree.in_order b.holder head b.is_dataset may.here e) b.is_entry)
  ]
    where
      of : IsPieceOf b.at p sectors sum
      of = record { is_piece = b.is_piece; size = b.size; same_sum = b.same_sum }

      s : StandsOnSnapshot g head
      s = tree.head_stands g n t last early late valid head changes may

      -- at home and replaced
      at_home : Has head.entries b.at → start_of g head.parent < b.at.1.birth → (k : Key × Bp) → Has changes k → k.0 ≡ b.at.0 → IsFreedByApply g head changes p sectors sum ⊎ (IsOfBlock new p sectors sum ⊎ IsInBoth p)
      at_home h born k i same = elim (cases_in changes p) [
        | inl put ↦ inr (inr (record { entry = b.at; here = h; is_piece = b.is_piece }, put))
        | inr unkept ↦ inl (record { entry = b.at; home = record { here = may.here; holds = h; born = born }; change = k; is_change = i; same_key = same; of = of; unkept = unkept })
      ]

      in_head : Has head.entries b.at → IsFreedByApply g head changes p sectors sum ⊎ (IsOfBlock new p sectors sum ⊎ IsInBoth p)
      in_head h = elim (cases_at changes b.at.0) [
        | inr none ↦ inr (inl (stays_in (tree.head_with g n t last early late valid head changes may) b.at p sectors sum (tree.has_head g n t last early late valid head changes may) (with-other head.entries changes b.at h none) of))
        | inl k ↦ elim (cases_lt (start_of g head.parent) b.at.1.birth) [
          | inl born ↦ at_home h born k.0 k.1 k.2
          | inr old ↦
              let start : start_of g head.parent ≡ s.below.creation = start_is g valid.tree.in_order s.below head.parent s.here s.is_parent in
              let there : Has s.below.entries b.at = (valid.shares head s.below may.here s.here s.is_parent).shared b.at h (omega (arith, old, start)) in
              inr (inl (stays_in s.below b.at p sectors sum (tree.has_other g n t last early late valid head changes may s.below s.here (other s.is_snapshot)) there of))
        ]
      ]
        where
          other : s.below.head ≡ false → s.below.id ≢ head.id
          other off same = true≢false (sym may.is_head ∙ sym (ap (λ (d : Dataset). d.head) (one_dataset g valid.tree.in_order s.below head s.here may.here same)) ∙ off)

  -- what was live is freed, or is live
  pub apply_live : (p : Piece) (sectors : ℕ) (sum : List ℕ) → IsOfBlock g p sectors sum → IsFreedByApply g head changes p sectors sum ⊎ IsLive new p
  apply_live p sectors sum b = elim (apply_rest p sectors sum b) [
    | inl freed ↦ inl freed
    | inr kept ↦ elim kept [
      | inl stays ↦ inr (record { holder = stays.holder; is_dataset = stays.is_dataset; holds = record { entry = stays.at; is_entry = stays.is_entry; is_piece = stays.is_piece } })
      | inr both ↦ inr (change_live p both.1)
    ]
  ]

  -- all that the head holds is older than the changes
  abbrev pub IsOlder : Type 0
  IsOlder = (e : Key × Bp) → Has head.entries e → e.1.birth < t

  -- so it is where the graph is whole up to an earlier transaction group
  pub is_older : n < t → IsOlder
  is_older before e h =
      let low : e.1.birth ≤ last_birth head n = (valid.holds head may.here).births e h in
      let most : last_birth head n ≤ n = last_at_most head n (valid.tree.created head may.here) in
      omega (arith, low, most, before)

  -- where the head is older, no piece of it is one of the changes
  pub apply_rest_older : IsOlder → (p : Piece) (sectors : ℕ) (sum : List ℕ) → IsOfBlock g p sectors sum → IsFreedByApply g head changes p sectors sum ⊎ IsOfBlock new p sectors sum
  apply_rest_older older p sectors sum b = elim (apply_rest p sectors sum b) [
    | inl freed ↦ inl freed
    | inr kept ↦ elim kept [ inl stays ↦ inr stays | inr both ↦ absurd (apart both.0 both.1) ]
  ]
    where
      apart : IsPieceIn head.entries p → IsPieceIn changes p → ⊥
      apart i c =
          let of_old : p.birth ≡ i.entry.1.birth = piece_birth i.entry.1 p i.is_piece in
          let of_new : p.birth ≡ c.entry.1.birth = piece_birth c.entry.1 p c.is_piece in
          let born : c.entry.1.birth ≡ t = may.born c.entry c.here in
          let low : i.entry.1.birth < t = older i.entry i.here in
          absurd (omega (arith, of_old, of_new, born, low))

  -- the items of blocks that are applied to a head that is older
  pub apply_frees : IsOlder → (items : List Item) → IsStrictlySortedBy piece_cmp (map (λ (i : Item). i.piece) items) → ((i : Item) → Has items i ↔ IsFreedByApply g head changes i.piece i.sectors i.sum) → AreFreed g new items
  apply_frees older items sorted are =
      freed_items g new (λ (p : Piece) (sectors : ℕ) (sum : List ℕ). IsFreedByApply g head changes p sectors sum) items apply_was apply_gone (apply_rest_older older) sorted are
