-- The datasets of a pool in which an object has one record, and what is staged for its heads: how their blocks are formed, and
-- where all of these lie.
use Rattle.std.specs.Prelude.{◌≡◌, ℕ, true, List}
use Rattle.zs_ids.specs.declared.dataset.DsId.{DsId}
use Rattle.zs_ids.specs.declared.block.Piece.{Piece}
use Rattle.zs_ids.specs.Graph.{Has, Dataset, Graph, IsOfBlock}
use Rattle.zs_txg.specs.declared.staged.Staging.{Staging}
use Rattle.zs_txg.specs.Txg.{Slot, IsInSlotOrder, staged_for}
use Rattle.zs_core.specs.Placed.{AreFormed, AreStaged, LiesBetween, Meet}

-- a head has the id
pub record IsHeadsId (g : Graph) (id : DsId) : Type 0 where
  pub head : Dataset
  pub here : Has g head
  pub named : head.id ≡ id
  pub is_head : head.head ≡ true

-- the blocks of a dataset, born by n, and what is staged for it are formed, with one record size for each object
pub record IsFormedWith (n : ℕ) (d : Dataset) (own : List (Slot × Staging)) : Type 0 where
  pub size : ℕ → ℕ
  pub formed : AreFormed size n d.entries
  pub staged : AreStaged size d.id own

-- the datasets' blocks, born by n, and what is staged for the heads among them are formed; all lie in the space that was
-- handed out, from `start` to `next`; and what is staged shares no sector, nor meets a live piece
pub record AreDatasets (g : Graph) (n start next : ℕ) (staged : List (Slot × Staging)) : Type 0 where
  pub in_order : IsInSlotOrder staged
  pub heads : (e : Slot × Staging) → Has staged e → IsHeadsId g e.0.0
  pub formed : (d : Dataset) → Has g d → IsFormedWith n d (staged_for staged d.id)
  pub live : (p : Piece) (sectors : ℕ) (sum : List ℕ) → IsOfBlock g p sectors sum → LiesBetween start next p.place sectors
  pub new : (e : Slot × Staging) → Has staged e → LiesBetween start next e.1.place e.1.sectors
  pub new_apart : (e f : Slot × Staging) → Has staged e → Has staged f → Meet e.1.place e.1.sectors f.1.place f.1.sectors → e.0 ≡ f.0
  pub between : (e : Slot × Staging) (p : Piece) (sectors : ℕ) (sum : List ℕ) → Has staged e → IsOfBlock g p sectors sum
      → Meet e.1.place e.1.sectors p.place sectors → ⊥
