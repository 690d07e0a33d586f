-- A pool whose transaction group was closed is ready to have it applied.
use Rattle.std.proofs.Common.{◌≡◌, ◌≤◌, ◌+◌, ◌∙◌, ℕ, Bool, List, Option, refl, sym, ap, subst, arith, inl, inr}
use Rattle.std.specs.Prelude.{Some, None}
use Rattle.std.proofs.lemmas.Bool.{true≢false}
use Rattle.zs_ids.specs.declared.key.Key.{Key}
use Rattle.zs_ids.specs.declared.block.Bp.{Bp}
use Rattle.zs_ids.specs.declared.dataset.DsId.{DsId}
use Rattle.zs_ids.specs.Graph.{Has, Dataset, Graph}
use Rattle.zs_ids.specs.GraphTree.{created, dataset_at, start_of}
use Rattle.zs_ids.specs.GraphValid.{Room}
use Rattle.zs_graph.proofs.Lists.{from-find}
use Rattle.zs_graph.proofs.Origin.{is_origin, nothing_held}
use Rattle.zs_graph.proofs.SnapshotMade.{valid_later}
use Rattle.zs_txg.specs.declared.staged.Staging.{Staging}
use Rattle.zs_txg.specs.Txg.{Slot}
use Rattle.zs_ids.specs.declared.block.Piece.{Piece}
use Rattle.zs_phys.specs.declared.scope.Scope.{Scope}
use Rattle.zs_phys.specs.declared.phys.Phys.{Phys}
use Rattle.zs_cover.specs.Laws.{IsCovered}
use Rattle.zs_scan.specs.View.{ScanView, is_done, is_stored}
use Rattle.zs_scan.specs.Covered.{IsScanOf}
use Rattle.zs_machine.specs.Shapes.{data_start}
use Rattle.zs_core.specs.declared.parts.Closed.{Closed}
use Rattle.zs_core.specs.declared.present.Present.TheInside.{Inside}
use Rattle.zs_core.specs.Placed.{AreFormed, room_of}
use Rattle.zs_core.specs.Datasets.{AreDatasets}
use Rattle.zs_core.specs.Kept.{Facts, IsClosedOver, born_by, pending}
use Rattle.zs_core.specs.Applying.{IsReady, Space}

-- blocks that are formed and born by n are born by a later group
formed_later : (size : ℕ → ℕ) (n t : ℕ) (entries : List (Key × Bp)) → n ≤ t → AreFormed size n entries → AreFormed size t entries
formed_later size n t entries le f = record {
  sizes = f.sizes;
  in_order = f.in_order;
  each = λ e h. let w = f.each e h in let born : e.1.birth ≤ n = w.born in record { formed = w.formed; height = w.height; single = w.single; unused = w.unused; born = omega (arith, born, le) };
  parents = f.parents;
}

-- so are the datasets with what is staged
pub datasets_later : (g : Graph) (n t start next : ℕ) (staged : List (Slot × Staging)) → n ≤ t → AreDatasets g n start next staged → AreDatasets g t start next staged
datasets_later g n t start next staged le a = record {
  in_order = a.in_order;
  heads = a.heads;
  formed = λ d h. let f = a.formed d h in record { size = f.size; formed = formed_later f.size n t d.entries le f.formed; staged = f.staged };
  live = a.live;
  new = a.new;
  new_apart = a.new_apart;
  between = a.between;
}

-- and the scan is the datasets' own
covered_grown : (room : Room) (g : Graph) (n h : ℕ) (scope : Scope) (s : Phys) (done : Piece → Bool) → IsCovered room g n h scope s done → IsCovered room g h h scope s done
covered_grown room g n h scope s done c =
    let early : n ≤ h = c.early in
    record { early = omega arith; valid = record { graph = valid_later g n h early (c.valid).graph; within = (c.valid).within }; sound = c.sound; covers = c.covers }

pub scan_grown : (room : Room) (g : Graph) (n h : ℕ) (v : ScanView) → IsScanOf room g n h v → IsScanOf room g h h v
scan_grown room g n h v scan = record {
  covered = covered_grown room g n h v.scope v.run (is_done v) scan.covered;
  stored = covered_grown room g n h v.scope v.kept (is_stored v) scan.stored;
  live = scan.live;
  in_room = scan.in_room;
}

-- no parent was created after the last group
start_by : (g : Graph) (n : ℕ) (parent : Option DsId) → ((d : Dataset) → Has g d → d.creation ≤ n) → start_of g parent ≤ n
start_by g n None by = omega arith
start_by g n (Some id) by = go (dataset_at g id) refl
  where
    go : (o : Option Dataset) → dataset_at g id ≡ o → created o ≤ n
    go None is = omega arith
    go (Some d) is = by d (from-find _ g d is).0

-- where the space that was handed out begins and ends
abbrev pub space_of : Inside → Space
space_of p = record { start = data_start p.shape.blocks; next = p.next_sector; end = p.end_sector }

-- what is staged in a closed group is what is pending
pending_is : (p : Inside) (c : Closed) → p.closed ≡ Some c → pending p.closed p.open.staged ≡ c.txg.staged
pending_is p c is = ap (λ (o : Option Closed). pending o p.open.staged) is

pub ready : (p : Inside) (f : Facts p) (c : Closed) → p.closed ≡ Some c → IsClosedOver p.graph.sets p.applied p.open.txg c → IsReady (space_of p) c.txg c.changes.items p.graph.sets p.scan
ready p f c is over =
    let number : c.txg.txg ≡ p.applied + 1 = over.number in
    let valid = (f.scan).covered.valid.graph in
    record {
      datasets = subst (λ (t : ℕ). AreDatasets p.graph.sets t (data_start p.shape.blocks) p.next_sector c.txg.staged) (sym number)
          (datasets_later p.graph.sets (born_by p.applied) (p.applied + 1) (data_start p.shape.blocks) p.next_sector c.txg.staged (omega arith)
          (subst (λ (l : List (Slot × Staging)). AreDatasets p.graph.sets (born_by p.applied) (data_start p.shape.blocks) p.next_sector l) (pending_is p c is) f.datasets));
      in_space = f.space;
      older = λ d e h i. elim f.since [
        | inl some ↦ let whole = (((f.datasets).formed d h).formed).each e i in let born : e.1.birth ≤ born_by p.applied = whole.born in omega (arith, number, some, born)
        | inr alone ↦ absurd (nothing_held d e (subst (λ (g : Graph). Has g d) alone h) i)
      ];
      later = λ d h head. elim f.since [
        | inl some ↦ let by : start_of p.graph.sets d.parent ≤ born_by p.applied = start_by p.graph.sets (born_by p.applied) d.parent valid.tree.created in omega (arith, number, some, by)
        | inr alone ↦ absurd (true≢false (sym head ∙ sym (ap (λ (x : Dataset). x.head) (is_origin d (subst (λ (g : Graph). Has g d) alone h)))))
      ];
      made = over.changes;
      blocks = f.blocks;
      scan = subst (λ (t : ℕ). IsScanOf (room_of (data_start p.shape.blocks) p.end_sector f.blocks) p.graph.sets t t p.scan) (sym number)
          (scan_grown (room_of (data_start p.shape.blocks) p.end_sector f.blocks) p.graph.sets (born_by p.applied) (p.applied + 1) p.scan f.scan);
    }
