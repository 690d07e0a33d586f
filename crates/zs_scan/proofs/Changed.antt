-- A scan after a change of the datasets: what waits or flies is live still, or was freed.
use Rattle.std.proofs.Common.{◌≡◌, ℕ, List, sym, subst, inl, inr}
use Rattle.zs_ids.specs.declared.block.Item.{Item}
use Rattle.zs_ids.specs.declared.block.Piece.{Piece}
use Rattle.zs_ids.specs.Graph.{Graph, IsLive}
use Rattle.zs_ids.specs.GraphChange.{AreBlocksKept, AreFreed}
use Rattle.zs_ids.specs.GraphValid.{Room}
use Rattle.zs_phys.specs.declared.phys.Phys.{Phys}
use Rattle.zs_cover.specs.Laws.{IsCovered}
use Rattle.zs_queue.specs.Lists.{has-map}
use Rattle.zs_scan.specs.View.{ScanView, is_done, is_stored, pieces_in}
use Rattle.zs_scan.specs.Covered.{AreLive, AreLiveBut, IsScanOf, IsScanBut}
use Rattle.zs_scan.specs.Changes.{NoneFreedLaw}

module _ (g g' : Graph) (v : ScanView) (run kept : Phys) (live : AreLive g v) where
  -- what waits or flies is live still, or was freed
  pub live_but : (items : List Item) → AreFreed g g' items → AreLiveBut (pieces_in items) g' (record v { run = run; kept = kept })
  live_but items freed = record {
    dead = λ p h. let i = has-map (λ (x : Item). x.piece) items p h in subst (λ (q : Piece). IsLive g' q → ⊥) i.2 (freed.is_gone i.0 i.1);
    waiting = λ e h. freed.rest e.1.piece e.1.sectors e.1.sum (live.waiting e h);
    flying = λ b i h k flies. freed.rest i.piece i.sectors i.sum (live.flying b i h k flies);
  }

  -- where nothing was freed it is live
  pub live_kept : AreBlocksKept g g' → AreLive g' (record v { run = run; kept = kept })
  live_kept still = record {
    waiting = λ e h. still.kept e.1.piece e.1.sectors e.1.sum (live.waiting e h);
    flying = λ b i h k flies. still.kept i.piece i.sectors i.sum (live.flying b i h k flies);
  }

module _ (room : Room) (g g' : Graph) (n h : ℕ) (old new : ScanView) (is : new ≡ record old { run = new.run; kept = new.kept }) (covered : IsCovered room g' h h old.scope new.run (is_done old))
    (stored : IsCovered room g' h h old.scope new.kept (is_stored old)) (scan : IsScanOf room g n h old) where
  -- a change of which the scan was told by its state alone leaves it the datasets' own, but for the pieces that were freed
  pub scan_but : (items : List Item) → AreFreed g g' items → IsScanBut (pieces_in items) room g' h h new
  scan_but items freed = subst (λ (o : ScanView). IsScanBut (pieces_in items) room g' h h o) (sym is) (record { covered = covered; stored = stored; live = live_but g g' old new.run new.kept scan.live items freed; in_room = scan.in_room })

  -- where nothing was freed the scan is the datasets' own
  pub scan_kept : AreBlocksKept g g' → IsScanOf room g' h h new
  scan_kept kept = subst (λ (o : ScanView). IsScanOf room g' h h o) (sym is) (record { covered = covered; stored = stored; live = live_kept g g' old new.run new.kept scan.live kept; in_room = scan.in_room })

-- a scan is the datasets' own but for no piece exactly where it is theirs
pub none_freed : NoneFreedLaw
none_freed room g n h v = (
  λ but. record {
    covered = but.covered;
    stored = but.stored;
    live = record {
      waiting = λ e i. elim (but.live.waiting e i) [ inl none ↦ absurd none | inr block ↦ block ];
      flying = λ b i k l flies. elim (but.live.flying b i k l flies) [ inl none ↦ absurd none | inr block ↦ block ];
    };
    in_room = but.in_room;
  },
  λ is. record {
    covered = is.covered;
    stored = is.stored;
    live = record {
      dead = λ p none. absurd none;
      waiting = λ e i. inr (is.live.waiting e i);
      flying = λ b i k l flies. inr (is.live.flying b i k l flies);
    };
    in_room = is.in_room;
  },
)
