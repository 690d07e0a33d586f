-- What stays true where one task runs.
use Rattle.std.proofs.Common.{◌≡◌, ◌≤◌, ◌∙◌, ℕ, List, refl, ap, subst}
use Rattle.zs_ids.specs.declared.key.Key.{Key}
use Rattle.zs_ids.specs.declared.block.Bp.{Bp}
use Rattle.zs_ids.specs.declared.block.Item.{Item}
use Rattle.zs_ids.specs.declared.block.Piece.{Piece}
use Rattle.zs_ids.specs.Graph.{Has, Dataset, Graph}
use Rattle.zs_ids.specs.GraphValid.{Room}
use Rattle.zs_ids.specs.GraphChange.{AreBlocksKept}
use Rattle.zs_graph.specs.Made.{IsUpTo}
use Rattle.zs_graph.proofs.Kept.{Holds, live_before}
use Rattle.zs_scan.specs.View.{ScanView}
use Rattle.zs_scan.specs.Covered.{IsScanOf}
use Rattle.zs_machine.specs.Born.{AreBornItems}
use Rattle.zs_queue.specs.Waiting.{without}
use Rattle.zs_core.specs.Running.{KeepsRest, RunsOn}
use Rattle.zs_core.proofs.Carried.{carried}

-- what two changes of a scan keep, both keep
pub rest_both : (u v w : ScanView) → KeepsRest u v → KeepsRest v w → KeepsRest u w
rest_both u v w first second = record { limit = second.limit ∙ first.limit; every = second.every ∙ first.every; width = second.width ∙ first.width; flight = second.flight ∙ first.flight }

-- where the walk's state and the one that is kept alone changed
pub rest_at_run : (v w : ScanView) → w ≡ record v { run = w.run; kept = w.kept } → KeepsRest v w
rest_at_run v w is = record { limit = ap (λ (x : ScanView). x.limit) is; every = ap (λ (x : ScanView). x.every) is; width = ap (λ (x : ScanView). x.scope.width) is; flight = ap (λ (x : ScanView). x.flight) is }

-- where pieces were freed
pub rest_at_freed : (v w : ScanView) (pieces : List Piece) → w ≡ record v { waiting = without v.waiting pieces; marks = w.marks; room = w.room } → KeepsRest v w
rest_at_freed v w pieces is = record { limit = ap (λ (x : ScanView). x.limit) is; every = ap (λ (x : ScanView). x.every) is; width = ap (λ (x : ScanView). x.scope.width) is; flight = ap (λ (x : ScanView). x.flight) is }

-- all stays where nothing ran
pub runs_none : (t : ℕ) (g : Graph) (v : ScanView) (items : List Item) → RunsOn t g v items g v items
runs_none t g v items = record {
  kept = λ start next a. a;
  up_to = λ up. up;
  scanned = λ room scan. scan;
  born = λ b. b;
  fewer = λ i h. h;
  rest = record { limit = refl; every = refl; width = refl; flight = refl };
}

-- what stays true over some tasks and over others stays true over both
pub runs_both : (t : ℕ) (a b c : Graph) (u v w : ScanView) (is js ks : List Item) → RunsOn t a u is b v js → RunsOn t b v js c w ks → RunsOn t a u is c w ks
runs_both t a b c u v w is js ks first second = record {
  kept = λ start next k. second.kept start next (first.kept start next k);
  up_to = λ up. second.up_to (first.up_to up);
  scanned = λ room scan. second.scanned room (first.scanned room scan);
  born = λ x. second.born (first.born x);
  fewer = λ i h. first.fewer i (second.fewer i h);
  rest = rest_both u v w first.rest second.rest;
}

-- no birth comes that was not there, and no creation above t
pub up_to_held : (old new : Graph) (t : ℕ) → Holds old new → ((d : Dataset) → Has new d → IsUpTo old t → d.creation ≤ t) → IsUpTo old t → IsUpTo new t
up_to_held old new t holds created up = record {
  births = λ d e h i. let was = holds d h in up.births was.0 e was.1 (subst (λ (es : List (Key × Bp)). Has es e) was.2 i);
  creations = λ d h. created d h up;
}

-- the items of what is born and lives stay those where each block stays and none comes
pub born_kept : (old new : Graph) (t : ℕ) (items : List Item) → Holds old new → AreBlocksKept old new → AreBornItems old t items → AreBornItems new t items
born_kept old new t items holds kept b = record {
  in_order = b.in_order;
  each = λ i h. kept.kept i.piece i.sectors i.sum (b.each i h);
  births = b.births;
  all = λ p live birth. b.all p (live_before old new holds p live) birth;
}

-- what a task leaves that frees nothing, and changes of the scan its two states alone
pub runs_kept : (t : ℕ) (old new : Graph) (v w : ScanView) (items : List Item) → Holds old new → AreBlocksKept old new
    → ((d : Dataset) → Has new d → IsUpTo old t → d.creation ≤ t)
    → ((room : Room) → IsScanOf room old t t v → IsScanOf room new t t w) → w ≡ record v { run = w.run; kept = w.kept } → RunsOn t old v items new w items
runs_kept t old new v w items holds kept created scanned rest = record {
  kept = λ start next a. carried old new t start next holds a;
  up_to = up_to_held old new t holds created;
  scanned = scanned;
  born = born_kept old new t items holds kept;
  fewer = λ i h. h;
  rest = rest_at_run v w rest;
}
