-- What one dataset's blocks make of the datasets, when they are put over its own.
use Rattle.std.specs.Prelude.{◌≡◌, ◌⊎◌, ◌<◌, ℕ, Bool, List, map, take, if◌then◌else◌}
use Rattle.std.proofs.Common.{sym, ◌∙◌, ap, subst, inl, inr, arith, suc}
use Rattle.zs_ids.specs.declared.key.Key.{Key}
use Rattle.zs_ids.specs.declared.block.Bp.{Bp}
use Rattle.zs_ids.specs.declared.block.Piece.{Piece}
use Rattle.zs_ids.specs.Blocks.{entries_with}
use Rattle.zs_ids.specs.Graph.{Dataset, Graph, Has, IsLive, pieces_of}
use Rattle.zs_ids.specs.GraphValid.{IsInIdOrder}
use Rattle.zs_ids.specs.GraphChange.{holding}
use Rattle.zs_graph.proofs.Lists.{from-map, has-map}
use Rattle.zs_graph.proofs.Graphs.{one_dataset, cases_id, is_id-same, is_id-other}
use Rattle.zs_graph.proofs.Homes.{piece_birth}
use Rattle.zs_txg.specs.Txg.{Open, staged_for}
use Rattle.zs_core.specs.declared.parts.Changes.{Changes}
use Rattle.zs_core.specs.Datasets.{AreDatasets, IsFormedWith}
use Rattle.zs_core.proofs.PutEntries.{from_all, AreMade, are_made}
use Rattle.zs_core.proofs.PutOver.{put_over, order_over, IsNext}

-- an entry with a piece makes it live
live_in : (g : Graph) (d : Dataset) (e : Key × Bp) (p : Piece) → Has g d → Has d.entries e → Has (pieces_of e.1) p → IsLive g p
live_in g d e p h i is = record { holder = d; is_dataset = h; holds = record { entry = e; is_entry = i; is_piece = is } }

module _ (g : Graph) (o : Open) (changes : List Changes) (start next : ℕ) (datasets : AreDatasets g o.txg start next o.staged) (older : (d : Dataset) (e : Key × Bp) → Has g d → Has d.entries e → e.1.birth < o.txg) (order : IsInIdOrder g) (i : ℕ) (c : Changes) (n : IsNext g o changes i c) where
  abbrev mid : Graph
  mid = put_over g (take i changes)

  abbrev after : Graph
  after = put_over g (take (suc i) changes)

  abbrev entries : List (Key × Bp)
  entries = entries_with n.d.entries c.blocks.items

  ordered : IsInIdOrder mid
  ordered = order_over g (take i changes) order

  -- each dataset is one of before, or the one that was written
  from_next : (x : Dataset) → Has after x → (y : Dataset) × Has mid y × ((x ≡ y) ⊎ ((y ≡ n.d) × (x ≡ record n.d { entries = entries })))
  from_next x h =
      let r = from-map (holding n.d.id entries) mid x (subst (λ (k : Graph). Has k x) n.next h) in
      let y : Dataset = r.0 in
      elim (cases_id y.id n.d.id) [
        | inl same ↦ (let is : y ≡ n.d = one_dataset mid ordered y n.d r.1 n.now same in (y, r.1, inr (is, sym r.2 ∙ ap (λ (b : Bool). if b then record y { entries = entries } else y) (is_id-same y.id n.d.id same) ∙ ap (λ (z : Dataset). record z { entries = entries }) is)))
        | inr other ↦ (y, r.1, inl (sym r.2 ∙ ap (λ (b : Bool). if b then record y { entries = entries } else y) (is_id-other y.id n.d.id other)))
      ]

  -- each of before stays, but for that one
  to_next : (y : Dataset) → Has mid y → (y ≡ n.d) ⊎ Has after y
  to_next y h = elim (cases_id y.id n.d.id) [
    | inl same ↦ inl (one_dataset mid ordered y n.d h n.now same)
    | inr other ↦ inr (subst (λ (k : Graph). Has k y) (sym n.next) (subst (λ (z : Dataset). Has (map (holding n.d.id entries) mid) z) (ap (λ (b : Bool). if b then record y { entries = entries } else y) (is_id-other y.id n.d.id other)) (has-map (holding n.d.id entries) mid y h)))
  ]

  -- what was live at first and is live after is live before: no piece comes back
  pub back : (p : Piece) → IsLive g p → IsLive after p → IsLive mid p
  back p old live = let r = from_next live.holder live.is_dataset in go r.0 r.1 r.2
    where
      e : Key × Bp
      e = (live.holds).entry

      early : p.birth < o.txg
      early =
          let first : ((old.holds).entry).1.birth < o.txg = older old.holder (old.holds).entry old.is_dataset (old.holds).is_entry in
          let same : p.birth ≡ ((old.holds).entry).1.birth = piece_birth ((old.holds).entry).1 p (old.holds).is_piece in
          omega (arith, first, same)

      written : Has entries e → IsLive mid p
      written h =
          let f : IsFormedWith o.txg n.d (staged_for o.staged n.d.id) = datasets.formed n.d n.here in
          let m : AreMade o.txg (staged_for o.staged n.d.id) c.blocks.items = are_made f.size n.d.id n.d.entries (staged_for o.staged n.d.id) o.txg c.blocks.items f.staged n.are in
          elim (from_all n.d.entries c.blocks.items e f.formed.in_order h) [
            | inl new ↦ absurd (let born : e.1.birth ≡ o.txg = (m.from e new).2.born in let same : p.birth ≡ e.1.birth = piece_birth e.1 p (live.holds).is_piece in omega (arith, born, same, early))
            | inr was ↦ live_in mid n.d e p n.now was.0 (live.holds).is_piece
          ]

      go : (y : Dataset) → Has mid y → (live.holder ≡ y) ⊎ ((y ≡ n.d) × (live.holder ≡ record n.d { entries = entries })) → IsLive mid p
      go y h (inl is) = live_in mid y e p h (subst (λ (z : Dataset). Has z.entries e) is (live.holds).is_entry) (live.holds).is_piece
      go y h (inr is) = written (subst (λ (z : Dataset). Has z.entries e) is.1 (live.holds).is_entry)

  -- what is live before and not after was live at first
  pub before : (p : Piece) → IsLive mid p → (IsLive after p → ⊥) → IsLive g p
  before p live dead = elim (to_next live.holder live.is_dataset) [
    | inl is ↦ live_in g n.d (live.holds).entry p n.here (subst (λ (z : Dataset). Has z.entries (live.holds).entry) is (live.holds).is_entry) (live.holds).is_piece
    | inr stays ↦ absurd (dead (live_in after live.holder (live.holds).entry p stays (live.holds).is_entry (live.holds).is_piece))
  ]
