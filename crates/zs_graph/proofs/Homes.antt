-- Entries at home: when they are born, which pieces they have, and who holds them.
use Rattle.std.proofs.Common.{◌≡◌, ◌⊎◌, ◌<◌, ◌+◌, ℕ, suc, zero, take, refl, sym, ap, subst, ◌∙◌, arith}
use Rattle.std.specs.Prelude.{Some}
use Rattle.zs_ids.specs.declared.key.Key.{Key}
use Rattle.zs_ids.specs.declared.block.Bp.{Bp}
use Rattle.zs_ids.specs.declared.block.Place.{Place}
use Rattle.zs_ids.specs.declared.block.Piece.{Piece}
use Rattle.zs_ids.specs.declared.dataset.DsId.{DsId}
use Rattle.zs_ids.specs.declared.dataset.TheConstants.DsId.{ORIGIN}
use Rattle.zs_ids.specs.Graph.{Has, Dataset, Graph, pieces_of, IsLive}
use Rattle.zs_ids.specs.GraphTree.{IsHome, IsParent, Above}
use Rattle.zs_ids.specs.GraphTree.Above.{direct, up}
use Rattle.zs_ids.specs.GraphValid.{origin, IsTree, StandsOnSnapshot}
use Rattle.zs_graph.proofs.Lists.{from-map}
use Rattle.zs_graph.proofs.Graphs.{start_is, older, stands_of, parent_id, parent_is}
use mathlib.Core.Logic.{inl, inr}

-- a piece is born with its block
pub piece_birth : (bp : Bp) (p : Piece) → Has (pieces_of bp) p → p.birth ≡ bp.birth
piece_birth bp p h =
    let r = from-map (λ (q : Place). let piece : Piece = record { place = q; birth = bp.birth } in piece) (take bp.count bp.places) p h in
    ap (λ (x : Piece). x.birth) (sym r.2)

-- a piece of an entry at home is live
pub home-live : (g : Graph) (d : Dataset) (e : Key × Bp) (p : Piece) → IsHome g d e → Has (pieces_of e.1) p → IsLive g p
home-live g d e p h is = record { holder = d; is_dataset = h.here; holds = record { entry = e; is_entry = h.holds; is_piece = is } }

module _ (g : Graph) (n : ℕ) (tree : IsTree g n) where
  -- what is at home below a dataset is born after that was created
  pub after_ancestor : (a : DsId) (d : Dataset) (e : Key × Bp) (x : Dataset) → Above g a d.id → IsHome g d e → Has g x → x.id ≡ a → x.creation < e.1.birth
  after_ancestor a d e x above h hx ex = go d.id refl above
    where
      go : (c : DsId) → d.id ≡ c → Above g a c → x.creation < e.1.birth
      go _ is (direct c p) =
          let parent : d.parent ≡ Some x.id = parent_is g n tree a c p d h.here is ∙ ap Some (sym ex) in
          subst (λ (k : ℕ). k < e.1.birth) (start_is g tree.in_order x d.parent hx parent) h.born
      go _ is (up c m p above2) =
          let s = stands_of g n tree m c p in
          let below = s.below in
          let name : below.id ≡ m = parent_id g n tree m c p in
          let parent : d.parent ≡ Some below.id = parent_is g n tree m c p d h.here is ∙ ap Some (sym name) in
          let born : below.creation < e.1.birth = subst (λ (k : ℕ). k < e.1.birth) (start_is g tree.in_order below d.parent s.here parent) h.born in
          let less : x.creation < below.creation = (older g n tree a m above2 x below hx s.here ex name s.is_snapshot).1 in
          omega (arith, born, less)

  -- each dataset but the origin stands below the origin
  pub below_origin : (d : Dataset) → Has g d → (d ≡ origin) ⊎ Above g ORIGIN d.id
  below_origin d h = elim (tree.stands d h) [ inl o ↦ inl o | inr s ↦ inr (from (s.below.creation + 1) d h s (omega arith)) ]
    where
      from : (fuel : ℕ) (c : Dataset) → Has g c → (s : StandsOnSnapshot g c) → s.below.creation < fuel → Above g ORIGIN c.id
      from zero c hc s less = absurd (omega (arith, less))
      from (suc fuel) c hc s less =
          let step : IsParent g s.below.id c.id = record { child = c; here = hc; named = refl; stands = s.is_parent } in
          elim (tree.stands s.below s.here) [ inl o ↦ subst (λ (x : DsId). Above g x c.id) (ap (λ (y : Dataset). y.id) o) (direct c.id step) | inr t ↦ up c.id s.below.id step (from fuel s.below s.here t (let rises : t.below.creation < s.below.creation = t.rises s.is_snapshot in omega (arith, rises, less))) ]

  -- the origin has nothing at home
  pub origin_empty : (d : Dataset) (e : Key × Bp) → IsHome g d e → d ≡ origin → ⊥
  origin_empty d e h is = subst (λ (x : Dataset). Has x.entries e) is h.holds
