-- A room for as many blocks as the datasets have, and a scan in one for more.
use Rattle.std.specs.Prelude.{◌≡◌, ◌≤◌, ◌+◌, ℕ, Bool, List, [], ◌∷◌, ◌++◌, length}
use Rattle.std.proofs.Common.{sym, ap, subst, inl, inr, arith}
use Rattle.zs_ids.specs.declared.key.Key.{Key}
use Rattle.zs_ids.specs.declared.block.Bp.{Bp}
use Rattle.zs_ids.specs.declared.block.Item.{Item}
use Rattle.zs_ids.specs.declared.block.Piece.{Piece}
use Rattle.zs_ids.specs.declared.block.Place.{Place}
use Rattle.zs_ids.specs.Graph.{Dataset, Graph, Has, pieces_of}
use Rattle.zs_ids.specs.GraphValid.{HasAtMost, IsWithin, LiesIn}
use Rattle.zs_graph.proofs.Lists.{has-left, has-right}
use Rattle.zs_phys.specs.declared.scope.Scope.{Scope}
use Rattle.zs_phys.specs.declared.phys.Phys.{Phys}
use Rattle.zs_cover.specs.Laws.{IsCovered}
use Rattle.zs_scan.specs.View.{ScanView, is_done, is_stored}
use Rattle.zs_scan.specs.Covered.{IsInRoom, IsScanOf}
use Rattle.zs_core.specs.Placed.{room_of, LiesBetween}
use Rattle.zs_core.specs.Datasets.{AreDatasets}
use Rattle.zs_core.proofs.PutApart.{old_block}

-- the pieces of the datasets
abbrev pieces_in_entries : List (Key × Bp) → List Piece
pieces_in_entries [] = []
pieces_in_entries (e ∷ es) = pieces_of e.1 ++ pieces_in_entries es

abbrev pub pieces_in_graph : Graph → List Piece
pieces_in_graph [] = []
pieces_in_graph (d ∷ ds) = pieces_in_entries d.entries ++ pieces_in_graph ds

in_entries : (es : List (Key × Bp)) (e : Key × Bp) (p : Piece) → Has es e → Has (pieces_of e.1) p → Has (pieces_in_entries es) p
in_entries [] e p h is = absurd h
in_entries (x ∷ xs) e p (inl same) is = has-left (pieces_of x.1) (pieces_in_entries xs) p (subst (λ (y : Key × Bp). Has (pieces_of y.1) p) (sym same) is)
in_entries (x ∷ xs) e p (inr h) is = has-right (pieces_of x.1) (pieces_in_entries xs) p (in_entries xs e p h is)

in_graph : (g : Graph) (d : Dataset) (e : Key × Bp) (p : Piece) → Has g d → Has d.entries e → Has (pieces_of e.1) p → Has (pieces_in_graph g) p
in_graph [] d e p h i is = absurd h
in_graph (x ∷ xs) d e p (inl same) i is =
    has-left (pieces_in_entries x.entries) (pieces_in_graph xs) p (in_entries x.entries e p (subst (λ (y : Dataset). Has y.entries e) (sym same) i) is)
in_graph (x ∷ xs) d e p (inr h) i is = has-right (pieces_in_entries x.entries) (pieces_in_graph xs) p (in_graph xs d e p h i is)

-- how many blocks there are room for once the datasets are these
abbrev pub blocks_with : ℕ → Graph → ℕ
blocks_with blocks g = blocks + length (pieces_in_graph g)

at_most : (blocks : ℕ) (g : Graph) → HasAtMost g (blocks_with blocks g)
at_most blocks g =
    record { all = pieces_in_graph g; few = omega arith; each = λ p live. in_graph g live.holder (live.holds).entry p live.is_dataset (live.holds).is_entry (live.holds).is_piece }

-- what lies between two sectors of the first mirror lies in a room of one mirror
lies_at : (start next end blocks : ℕ) (place : Place) (sectors : ℕ) → next ≤ end → start ≤ place.sector → place.sector + sectors ≤ next → LiesIn (room_of start end blocks) (record place { vdev = 0 }) sectors
lies_at start next end blocks place sectors ends from to = record { mirror = omega arith; from = from; to = omega (arith, to, ends) }

pub lies_in : (start next end blocks : ℕ) (place : Place) (sectors : ℕ) → next ≤ end → LiesBetween start next place sectors → LiesIn (room_of start end blocks) place sectors
lies_in start next end blocks place sectors ends l =
    let same : record place { vdev = 0 } ≡ place = ap (λ (m : ℕ). record place { vdev = m }) (sym l.mirror) in
    subst (λ (x : Place). LiesIn (room_of start end blocks) x sectors) same (lies_at start next end blocks place sectors ends l.from l.to)

-- datasets that lie between two sectors lie in such a room
pub within : (g : Graph) (n start next end blocks : ℕ) → AreDatasets g n start next [] → next ≤ end → IsWithin (room_of start end (blocks_with blocks g)) g
within g n start next end blocks datasets ends = record {
  places = λ d h e i p is. lies_in start next end (blocks_with blocks g) p.place e.1.sectors ends (datasets.live p e.1.sectors e.1.sum (old_block g d e p h i is));
  few = at_most blocks g;
}

lies_more : (start end blocks more : ℕ) (place : Place) (sectors : ℕ) → LiesIn (room_of start end blocks) place sectors → LiesIn (room_of start end more) place sectors
lies_more start end blocks more place sectors l = record { mirror = l.mirror; from = l.from; to = l.to }

in_more : (start end blocks more : ℕ) (item : Item) → IsInRoom (room_of start end blocks) item → IsInRoom (room_of start end more) item
in_more start end blocks more item h = record { lies = lies_more start end blocks more item.piece.place item.sectors h.lies; some = h.some; most = h.most }

-- what covers datasets in a room covers them in a room for more blocks
covered_with : (start end blocks more n h : ℕ) (g : Graph) (scope : Scope) (s : Phys) (done : Piece → Bool) → blocks ≤ more → IsCovered (room_of start end blocks) g n h scope s done → IsCovered (room_of start end more) g n h scope s done
covered_with start end blocks more n h g scope s done le c =
    let most = c.valid.within.few in
    let few : length most.all ≤ blocks = most.few in
    record {
      early = c.early;
      valid = record {
        graph = c.valid.graph;
        within = record {
          places = λ d k e i p is. lies_more start end blocks more p.place e.1.sectors (c.valid.within.places d k e i p is);
          few = record { all = most.all; few = omega (arith, few, le); each = most.each };
        };
      };
      sound = c.sound;
      covers = c.covers;
    }

-- a scan of datasets in a room is one in a room for more blocks
pub scan_with : (start end blocks more n h : ℕ) (g : Graph) (v : ScanView) → blocks ≤ more → IsScanOf (room_of start end blocks) g n h v → IsScanOf (room_of start end more) g n h v
scan_with start end blocks more n h g v le scan = record {
  covered = covered_with start end blocks more n h g v.scope v.run (is_done v) le scan.covered;
  stored = covered_with start end blocks more n h g v.scope v.kept (is_stored v) le scan.stored;
  live = scan.live;
  in_room = λ b i k l. in_more start end blocks more i (scan.in_room b i k l);
}
