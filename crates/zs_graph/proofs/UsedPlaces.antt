-- A block of a valid graph uses one to three places, which lie apart, so that each of its pieces stands once.
use Rattle.std.proofs.Common.{◌≡◌, ◌<◌, ◌≤◌, ℕ, List, [], ◌∷◌, map, take, sym, ap, arith}
use Rattle.zs_ids.specs.declared.key.Key.{Key}
use Rattle.zs_ids.specs.declared.block.Bp.{Bp}
use Rattle.zs_ids.specs.declared.block.Place.{Place}
use Rattle.zs_ids.specs.declared.block.Piece.{Piece}
use Rattle.zs_ids.specs.Graph.{Has, Dataset, Graph, pieces_of}
use Rattle.zs_ids.specs.GraphValid.{ShareSector, ArePlacesApart, IsBlock, IsValid}
use Rattle.zs_ids.specs.GraphValid.IsBlock.{root, dnodes, inner, leaf}
use Rattle.zs_graph.proofs.Lists.{from-map}
use Rattle.zs_graph.proofs.Climbs.{sectors_of}

-- no piece stands twice
abbrev pub AreOnce : List Piece → Type 0
AreOnce [] = Unit {0}
AreOnce (p ∷ ps) = (Has ps p → ⊥) × AreOnce ps

-- the places that a pointer uses
pub record UsesPlaces (bp : Bp) : Type 0 where
  pub some : 1 ≤ bp.count
  pub few : bp.count ≤ 3
  pub apart : ArePlacesApart bp.sectors (take bp.count bp.places)

block_uses : (levels size : ℕ) (e : Key × Bp) → IsBlock levels size e → UsesPlaces e.1
block_uses levels size e block = elim block [
  | root k f ↦ record { some = f.some; few = f.few; apart = f.apart }
  | dnodes j lt k f ↦ record { some = f.some; few = f.few; apart = f.apart }
  | inner l up below k f ↦ record { some = f.some; few = f.few; apart = f.apart }
  | leaf some k f ↦ record { some = f.some; few = f.few; apart = f.apart }
]

-- a place shares a sector with itself
shares_itself : (sectors : ℕ) (p q : Place) → 0 < sectors → q ≡ p → ShareSector sectors p q
shares_itself sectors p q some is =
    let sector : q.sector ≡ p.sector = ap (λ (x : Place). x.sector) is in
    record { vdev = sym (ap (λ (x : Place). x.vdev) is); before = omega (arith, sector, some); behind = omega (arith, sector, some) }

once : (sectors birth : ℕ) (places : List Place) → 0 < sectors → ArePlacesApart sectors places → AreOnce (map (λ (p : Place). let piece : Piece = record { place = p; birth = birth } in piece) places)
once sectors birth [] some apart = tt
once sectors birth (p ∷ ps) some apart = (
  λ h. (let r = from-map (λ (q : Place). let piece : Piece = record { place = q; birth = birth } in piece) ps (record { place = p; birth = birth }) h in
      apart.0 r.0 r.1 (shares_itself sectors p r.0 some (ap (λ (x : Piece). x.place) r.2))),
  once sectors birth ps some apart.1,
)

module _ (g : Graph) (n : ℕ) (valid : IsValid g n) where
  -- a block of a valid graph
  pub uses_places : (d : Dataset) (e : Key × Bp) → Has g d → Has d.entries e → UsesPlaces e.1
  uses_places d e i h = let b = valid.holds d i in block_uses (b.levels e.0.object) (b.size e.0.object) e (b.blocks e h)

  -- each of its pieces stands once
  pub pieces_once : (d : Dataset) (e : Key × Bp) → Has g d → Has d.entries e → AreOnce (pieces_of e.1)
  pieces_once d e i h = once e.1.sectors e.1.birth (take e.1.count e.1.places) (sectors_of g n valid d e i h) (uses_places d e i h).apart
