-- The head of a name, and what a dataset has by its id.
use Rattle.std.specs.Prelude.{◌≡◌, ◌||◌, ℕ, Bool, is_some, option_map, true, false, List, [], Option, Some, None, refl}
use Rattle.std.proofs.Common.{sym, ◌∙◌, ap}
use Rattle.zs_ids.specs.declared.key.Key.{Key}
use Rattle.zs_ids.specs.declared.block.Bp.{Bp}
use Rattle.zs_ids.specs.declared.dataset.DsId.{DsId}
use Rattle.zs_ids.specs.declared.dataset.DsName.{DsName}
use Rattle.zs_ids.specs.Blocks.{bp_at}
use Rattle.zs_ids.specs.Key.{record_key}
use Rattle.zs_ids.specs.Graph.{Has, Dataset, Graph}
use Rattle.zs_ids.specs.GraphTree.{is_id, is_named, dataset_at, dataset_named, entries_of}
use Rattle.zs_ids.specs.GraphValid.{IsInIdOrder}
use Rattle.zs_txg.specs.declared.staged.Staging.{Staging}
use Rattle.zs_graph.specs.View.{is_head}
use Rattle.zs_graph.proofs.Graphs.{id_is, dataset_is}
use Rattle.zs_graph.proofs.Lists.{from-find, some_is, some≢none}
use Rattle.zs_machine.specs.Machine.{PoolState, staged_record, has_object, record_sectors, sectors_from}

-- a dataset that was found by its name and one that was found by that one's id are the same
pub found_named : (g : Graph) → IsInIdOrder g → (name : DsName) (id : DsId) → Some id ≡ option_map (λ d. d.id) (dataset_named g name)
    → (d : Dataset) × (dataset_named g name ≡ Some d) × (dataset_at g id ≡ Some d)
found_named g order name id is = by (dataset_named g name) refl is
  where
    by : (f : Option Dataset) → dataset_named g name ≡ f → Some id ≡ option_map (λ d. d.id) f → (d : Dataset) × (dataset_named g name ≡ Some d) × (dataset_at g id ≡ Some d)
    by None found named = absurd (some≢none id named)
    by (Some d) found named =
        let here : Has g d = (from-find (is_named name) g d found).0 in
        (d, found, dataset_is g order d id here (sym (some_is id d.id named)))

-- where nothing was found there is no dataset of that name
pub none_named : (g : Graph) (name : DsName) → None ≡ option_map (λ d. d.id) (dataset_named g name) → dataset_named g name ≡ None
none_named g name is = by (dataset_named g name) refl is
  where
    by : (f : Option Dataset) → dataset_named g name ≡ f → None ≡ option_map (λ d. d.id) f → dataset_named g name ≡ None
    by None found named = found
    by (Some d) found named = absurd (some≢none d.id (sym named))

-- it is a head, or not
pub head_by : (g : Graph) (id : DsId) (d : Dataset) (test : Bool) → dataset_at g id ≡ Some d → test ≡ is_head (dataset_at g id) → d.head ≡ test
head_by g id d test at is = sym (is ∙ ap (λ (o : Option Dataset). is_head o) at)

module _ (s : PoolState) (id : DsId) (d : Dataset) (at : dataset_at s.graph id ≡ Some d) where
  same_id : d.id ≡ id
  same_id = id_is d.id id (from-find (λ x. is_id x.id id) s.graph d at).1

  -- whether it has an object
  pub object_is : (object : ℕ) → (is_some (staged_record s id (record_key object 0)) || is_some (bp_at (entries_of (dataset_at s.graph id)) (record_key object 0))) ≡ has_object s d object
  object_is object =
      ap (λ (o : Option Dataset). is_some (staged_record s id (record_key object 0)) || is_some (bp_at (entries_of o) (record_key object 0))) at
      ∙ ap (λ (x : DsId). is_some (staged_record s x (record_key object 0)) || is_some (bp_at d.entries (record_key object 0))) (sym same_id)

  -- and how many sectors each of its records has
  pub sectors_are : (object : ℕ) → sectors_from (staged_record s id (record_key object 0)) (bp_at (entries_of (dataset_at s.graph id)) (record_key object 0)) ≡ record_sectors s d object
  sectors_are object =
      ap (λ (o : Option Dataset). sectors_from (staged_record s id (record_key object 0)) (bp_at (entries_of o) (record_key object 0))) at
      ∙ ap (λ (x : DsId). sectors_from (staged_record s x (record_key object 0)) (bp_at d.entries (record_key object 0))) (sym same_id)

module _ (s : PoolState) (id : DsId) (d : Dataset) (at : dataset_at s.graph id ≡ Some d) (object : ℕ) where
  abbrev staged : Option Staging
  staged = staged_record s id (record_key object 0)

  abbrev mapped : Option Bp
  mapped = bp_at (entries_of (dataset_at s.graph id)) (record_key object 0)

  -- it has an object whose record is staged
  pub has_staged : (f : Option Staging) (test : Bool) → f ≡ staged → test ≡ is_some f → test ≡ true → test ≡ has_object s d object
  has_staged f test is tests holds =
      let there : is_some staged ≡ true = ap (λ (x : Option Staging). is_some x) (sym is) ∙ (sym tests ∙ holds) in
      holds ∙ (sym (ap (λ (b : Bool). b || is_some mapped) there) ∙ object_is s id d at object)

  -- and else one whose record is mapped
  pub has_mapped : (f : Option Staging) (m : Option Bp) (before test : Bool) → f ≡ staged → before ≡ is_some f → before ≡ false → m ≡ mapped → test ≡ is_some m → test ≡ has_object s d object
  has_mapped f m before test is tests no_record at_key maps =
      let none : is_some staged ≡ false = ap (λ (x : Option Staging). is_some x) (sym is) ∙ (sym tests ∙ no_record) in
      maps ∙ (ap (λ (x : Option Bp). is_some x) at_key ∙ (sym (ap (λ (b : Bool). b || is_some mapped) none) ∙ object_is s id d at object))

  -- its records have the size of the one that is staged, or else mapped
  pub sectors_by : (f : Option Staging) (m : Option Bp) → f ≡ staged → m ≡ mapped → sectors_from f m ≡ record_sectors s d object
  sectors_by f m is at_key = ap (λ (x : Option Staging). sectors_from x m) is ∙ (ap (λ (y : Option Bp). sectors_from staged y) at_key ∙ sectors_are s id d at object)

-- the blocks of a dataset, where there is one
pub blocks_none : (f : Option Dataset) → None ≡ option_map (λ d. d.entries) f → entries_of f ≡ []
blocks_none None is = refl
blocks_none (Some d) is = absurd (some≢none d.entries (sym is))

pub blocks_some : (f : Option Dataset) (es : List (Key × Bp)) → Some es ≡ option_map (λ d. d.entries) f → entries_of f ≡ es
blocks_some None es is = absurd (some≢none es is)
blocks_some (Some d) es is = sym (some_is es d.entries is)
