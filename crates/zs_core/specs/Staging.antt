-- In which head a command stages, and why it is refused; and the blocks that are made of what is staged.
use Rattle.std.specs.Prelude.{◌≡◌, ◌++◌, ◌∷◌, [], true, false, List, Option, Some, None, Result, Ok, Err}
use Rattle.zs_ids.specs.declared.dataset.DsId.{DsId}
use Rattle.zs_ids.specs.declared.dataset.DsName.{DsName}
use Rattle.zs_ids.specs.Blocks.{bp_at}
use Rattle.zs_ids.specs.Graph.{Dataset, Graph}
use Rattle.zs_ids.specs.GraphTree.{dataset_at, dataset_named}
use Rattle.zs_txg.specs.Txg.{Open, entries_for}
use Rattle.zs_objset.specs.declared.block.StagedBlock.{StagedBlock}
use Rattle.zs_objset.specs.Staged.{AreBlocksOf, AreSized, pointers_of}
use Rattle.zs_script.specs.declared.refusal.Refusal.{Refusal}
use Rattle.zs_script.specs.declared.refusal.Refusal.TheVariants.{NoDataset, NotHead, Suspended}
use Rattle.zs_machine.specs.Machine.{PoolState}
use Rattle.zs_core.specs.declared.parts.Changes.{Changes}
use Rattle.zs_core.specs.View.{pointers_of_all}
use Rattle.zs_core.specs.Kept.{AreChangesOf}

-- the dataset with this id is the head of that name
pub record IsHeadNamed (s : PoolState) (name : DsName) (id : DsId) : Type 0 where
  pub head : Dataset
  pub named : dataset_named s.graph name ≡ Some head
  pub here : dataset_at s.graph id ≡ Some head
  pub is_head : head.head ≡ true

-- the pool is suspended, or has no dataset of the name, or it is no head
abbrev pub HasNoHead : PoolState → DsName → Refusal → Type 0
HasNoHead s name Suspended = s.suspended ≡ true
HasNoHead s name NoDataset = (s.suspended ≡ false) × (dataset_named s.graph name ≡ None)
HasNoHead s name NotHead = (s.suspended ≡ false) × (d : Dataset) × (dataset_named s.graph name ≡ Some d) × (d.head ≡ false)
HasNoHead s name why = ⊥

-- the head of a name, or why none is written
abbrev pub HeadToWrite : PoolState → DsName → Result DsId Refusal → Type 0
HeadToWrite s name (Ok id) = (s.suspended ≡ false) × IsHeadNamed s name id
HeadToWrite s name (Err why) = HasNoHead s name why

-- a command that is not refused stages in the head of the name; another one has its refusal
abbrev pub StagesOr : Option Refusal → PoolState → DsName → Result DsId Refusal → Type 0
StagesOr refusal s name (Ok id) = (refusal ≡ None) × IsHeadNamed s name id
StagesOr refusal s name (Err why) = refusal ≡ Some why

-- the blocks of what is staged for a dataset, over its entries, with as many bytes as that says
pub record AreMade (d : Dataset) (o : Open) (own : List StagedBlock) : Type 0 where
  pub blocks : AreBlocksOf (bp_at d.entries) o.txg (entries_for o.staged d.id) own
  pub sized : AreSized (entries_for o.staged d.id) own

-- those of some datasets, one after another
abbrev pub AreAllMade : Graph → Open → List StagedBlock → Type 0
AreAllMade [] o blocks = blocks ≡ []
AreAllMade (d ∷ ds) o blocks = (own : List StagedBlock) × (rest : List StagedBlock) × (blocks ≡ own ++ rest) × AreMade d o own × AreAllMade ds o rest

-- the blocks that are staged for some datasets, and the pointers to them
pub record AreReady (g : Graph) (o : Open) (blocks : List StagedBlock) (those : List Changes) : Type 0 where
  pub made : AreAllMade g o blocks
  pub changes : AreChangesOf g o those
  pub pointers : pointers_of_all those ≡ pointers_of blocks

-- the blocks of one more dataset and the pointers to them stand behind those that there were
pub record AreMadeBehind (d : Dataset) (o : Open) (blocks later : List StagedBlock) (changes those : List Changes) : Type 0 where
  pub own : List StagedBlock
  pub made : AreMade d o own
  pub change : Changes
  pub named : change.ds ≡ d.id
  pub pointers : change.blocks.items ≡ pointers_of own
  pub blocks_are : later ≡ blocks ++ own
  pub changes_are : those ≡ changes ++ change ∷ []
