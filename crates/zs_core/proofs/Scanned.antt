-- What is kept of a pool's state where just the scan changes.
use Rattle.std.specs.Prelude.{◌≡◌, ◌≤◌, ◌+◌, ℕ, List, [], ◌∷◌, length, Option, Some, None, refl}
use Rattle.std.proofs.Common.{◌∙◌, ap, arith}
use Rattle.zs_scan.specs.View.{ScanView}
use Rattle.zs_scan.specs.Walks.{Walked, PutIf, item_put}
use Rattle.zs_scan.specs.Covered.{IsScanOf}
use Rattle.zs_scan.specs.Steps.{Taken}
use Rattle.zs_scan.specs.declared.batch.Batch.{Batch}
use Rattle.zs_ids.specs.declared.block.Item.{Item}
use Rattle.zs_ids.specs.Graph.{Graph}
use Rattle.zs_scan.specs.declared.batch.Turn.{Turn}
use Rattle.zs_core.specs.declared.present.Present.TheInside.{Inside}
use Rattle.zs_core.specs.Kept.{Facts, born_by}
use Rattle.zs_core.specs.Placed.{room_of}
use Rattle.zs_machine.specs.Shapes.{data_start}

-- the limit, the groups between checkpoints, the width and the end of the scope of a scan are those of another
pub record IsAlike (old new : ScanView) : Type 0 where
  pub limit : new.limit ≡ old.limit
  pub every : new.every ≡ old.every
  pub width : new.scope.width ≡ old.scope.width
  pub max : new.scope.max ≡ old.scope.max

-- another scan that is the datasets' own too, with the same limit, width and end of its scope, may stand in the scan's place
pub with_scan : (p : Inside) (v : ScanView) → Facts p → IsAlike p.scan v → ((start blocks : ℕ) → IsScanOf (room_of start p.end_sector blocks) p.graph.sets (born_by p.applied) (p.applied + 1) p.scan → IsScanOf (room_of start p.end_sector blocks) p.graph.sets (born_by p.applied) (p.applied + 1) v) → Facts (record p { scan = v })
with_scan p v f same keeps = record {
  shape = f.shape;
  online = f.online;
  end = f.end;
  width = same.width ∙ f.width;
  begun = f.begun;
  space = f.space;
  datasets = f.datasets;
  one_staged = f.one_staged;
  since = f.since;
  blocks = f.blocks;
  scan = keeps (data_start p.shape.blocks) f.blocks f.scan;
  range = let low : p.scan.scope.max ≤ p.applied + 1 = f.range in let is : v.scope.max ≡ p.scan.scope.max = same.max in omega (arith, low, is);
  may_wait = same.limit ∙ f.may_wait;
  due = same.every ∙ f.due;
  at_stage = f.at_stage;
  limit = f.limit;
}

-- a turn changes none of them
put_alike : (old new : ScanView) (item : Option Item) → PutIf old item new → IsAlike old new
put_alike old new None is = record { limit = ap (λ (v : ScanView). v.limit) is; every = ap (λ (v : ScanView). v.every) is; width = ap (λ (v : ScanView). v.scope.width) is; max = ap (λ (v : ScanView). v.scope.max) is }
put_alike old new (Some item) put = record { limit = ap (λ (v : ScanView). v.limit) put.rest; every = ap (λ (v : ScanView). v.every) put.rest; width = ap (λ (v : ScanView). v.scope.width) put.rest; max = ap (λ (v : ScanView). v.scope.max) put.rest }

pub walked_alike : (g : Graph) (old new : ScanView) (turn : Turn) → Walked g old turn new → IsAlike old new
walked_alike g old new turn w = let a = put_alike old (record new { run = old.run }) (item_put old w.step) w.puts in record { limit = a.limit; every = a.every; width = a.width; max = a.max }

-- nor does a batch that is taken
pub taken_alike : (old new : ScanView) (b : Batch) → (1 ≤ length b.items → Taken old b new) → (length b.items ≡ 0 → new ≡ record old { room = new.room }) → IsAlike old new
taken_alike old new b taken none = by b.items refl
  where
    by : (items : List Item) → b.items ≡ items → IsAlike old new
    by [] is =
        let e = none (ap (λ (l : List Item). length l) is) in
        record { limit = ap (λ (v : ScanView). v.limit) e; every = ap (λ (v : ScanView). v.every) e; width = ap (λ (v : ScanView). v.scope.width) e; max = ap (λ (v : ScanView). v.scope.max) e }
    by (i ∷ is) some =
        let many : length b.items ≡ length (i ∷ is) = ap (λ (l : List Item). length l) some in
        let e = (taken (omega (arith, many))).rest in
        record { limit = ap (λ (v : ScanView). v.limit) e; every = ap (λ (v : ScanView). v.every) e; width = ap (λ (v : ScanView). v.scope.width) e; max = ap (λ (v : ScanView). v.scope.max) e }
