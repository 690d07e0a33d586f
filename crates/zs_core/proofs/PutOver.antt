-- The datasets with the blocks of the first of some changes put over their own.
use Rattle.std.specs.Prelude.{◌≡◌, ◌≢◌, ◌⊎◌, ◌<◌, ℕ, Bool, true, false, cond, List, [], ◌∷◌, length, map, take, Option, Some, None, refl, if◌then◌else◌}
use Rattle.std.proofs.Common.{sym, ◌∙◌, ap, inl, inr, arith, get_or, zero, suc}
use Rattle.zs_ids.specs.declared.key.Key.{Key}
use Rattle.zs_ids.specs.declared.block.Bp.{Bp}
use Rattle.zs_ids.specs.declared.dataset.DsId.{DsId}
use Rattle.zs_ids.specs.Blocks.{entries_with}
use Rattle.zs_ids.specs.Graph.{Dataset, Graph, Has}
use Rattle.zs_ids.specs.GraphTree.{is_id, dataset_at, created, start_of}
use Rattle.zs_ids.specs.GraphValid.{IsInIdOrder}
use Rattle.zs_ids.specs.GraphChange.{holding}
use Rattle.zs_graph.proofs.Graphs.{is_id-same, is_id-other}
use Rattle.zs_txg.specs.declared.staged.Staging.{Staging}
use Rattle.zs_txg.specs.Txg.{Open, Slot, staged_for}
use Rattle.zs_machine.specs.Steps.{AreChanges, IsWritten, AreWritten}
use Rattle.zs_core.specs.declared.parts.Changes.{Changes}
use Rattle.zs_core.specs.Kept.{AreChangesOf}
use Rattle.zs_core.specs.View.{txg_of}
use Rattle.zs_core.proofs.PutEntries.{none_made}

-- a dataset with the blocks of its changes put over its own
abbrev pub with_own : Dataset → Changes → Dataset
with_own d c = record d { entries = entries_with d.entries c.blocks.items }

-- each dataset so, as far as there are changes
abbrev pub put_over : Graph → List Changes → Graph
put_over [] cs = []
put_over (d ∷ ds) [] = d ∷ ds
put_over (d ∷ ds) (c ∷ cs) = with_own d c ∷ put_over ds cs

pub over_none : (g : Graph) → put_over g [] ≡ g
over_none [] = refl
over_none (d ∷ ds) = refl

-- a dataset was written: the blocks that are staged for it are put over its own
pub record IsPutOn (o : Open) (d e : Dataset) : Type 0 where
  pub changes : List (Key × Bp)
  pub are : AreChanges d.entries (staged_for o.staged d.id) o.txg changes
  pub is : e ≡ record d { entries = entries_with d.entries changes }

-- it was written, or not yet
abbrev pub IsPut : Open → Dataset → Dataset → Type 0
IsPut o d e = (e ≡ d) ⊎ IsPutOn o d e

-- each dataset is one of the old ones, written or not yet
pub from_over : (g : Graph) (o : Open) (changes : List Changes) (i : ℕ) → AreChangesOf g o changes → (e : Dataset) → Has (put_over g (take i changes)) e → (d : Dataset) × Has g d × IsPut o d e
from_over [] o changes i are e h = absurd h
from_over (d ∷ ds) o [] i are e h = absurd are
from_over (d ∷ ds) o (c ∷ cs) zero are e h = (e, h, inl refl)
from_over (d ∷ ds) o (c ∷ cs) (suc i) are e (inl is) = (d, inl refl, inr (record { changes = c.blocks.items; are = are.1; is = sym is }))
from_over (d ∷ ds) o (c ∷ cs) (suc i) are e (inr more) = let r = from_over ds o cs i are.2 e more in (r.0, inr r.1, r.2)

-- the ids stay in order
ids_from : (g : Graph) (cs : List Changes) (x : Dataset) → Has (put_over g cs) x → (d : Dataset) × Has g d × (x.id ≡ d.id)
ids_from [] cs x h = absurd h
ids_from (d ∷ ds) [] x h = (x, h, refl)
ids_from (d ∷ ds) (c ∷ cs) x (inl is) = (d, inl refl, ap (λ (y : Dataset). y.id) (sym is))
ids_from (d ∷ ds) (c ∷ cs) x (inr more) = let r = ids_from ds cs x more in (r.0, inr r.1, r.2)

pub order_over : (g : Graph) (cs : List Changes) → IsInIdOrder g → IsInIdOrder (put_over g cs)
order_over [] cs order = tt
order_over (d ∷ ds) [] order = order
order_over (d ∷ ds) (c ∷ cs) order = (
  λ x h.
      let r = ids_from ds cs x h in
      let below : d.id.0 < (r.0).id.0 = order.0 r.0 r.1 in
      let same : x.id.0 ≡ (r.0).id.0 = ap (λ (y : DsId). y.0) r.2 in
      omega (arith, below, same),
  order_over ds cs order.1,
)

-- each dataset starts where it did
created_over : (g : Graph) (cs : List Changes) (id : DsId) → created (dataset_at (put_over g cs) id) ≡ created (dataset_at g id)
created_over [] cs id = refl
created_over (d ∷ ds) [] id = refl
created_over (d ∷ ds) (c ∷ cs) id = go (is_id d.id id) (created_over ds cs id)
  where
    go : (b : Bool) → created (dataset_at (put_over ds cs) id) ≡ created (dataset_at ds id) → created (cond b (Some (with_own d c)) (dataset_at (put_over ds cs) id)) ≡ created (cond b (Some d) (dataset_at ds id))
    go true r = refl
    go false r = r

pub start_over : (g : Graph) (cs : List Changes) (parent : Option DsId) → start_of (put_over g cs) parent ≡ start_of g parent
start_over g cs None = refl
start_over g cs (Some id) = created_over g cs id

-- the dataset of the next changes: it is not written yet
pub record IsNext (g : Graph) (o : Open) (changes : List Changes) (i : ℕ) (c : Changes) : Type 0 where
  pub d : Dataset
  pub here : Has g d
  pub now : Has (put_over g (take i changes)) d
  pub named : c.ds ≡ d.id
  pub are : AreChanges d.entries (staged_for o.staged d.id) o.txg c.blocks.items
  pub next : put_over g (take (suc i) changes) ≡ map (holding d.id (entries_with d.entries c.blocks.items)) (put_over g (take i changes))

-- the datasets with other ids stay
others : (id : DsId) (entries : List (Key × Bp)) (ys : Graph) → ((y : Dataset) → Has ys y → y.id ≢ id) → map (holding id entries) ys ≡ ys
others id entries [] apart = refl
others id entries (y ∷ ys) apart =
    ap (λ (b : Bool). (if b then record y { entries = entries } else y) ∷ map (holding id entries) ys) (is_id-other y.id id (apart y (inl refl))) ∙ ap (λ (zs : Graph). y ∷ zs) (others id entries ys (λ z h. apart z (inr h)))

next_first : (d : Dataset) (ds : Graph) (o : Open) (c : Changes) (cs : List Changes) → IsInIdOrder (d ∷ ds) → AreChangesOf (d ∷ ds) o (c ∷ cs) → IsNext (d ∷ ds) o (c ∷ cs) zero c
next_first d ds o c cs order are = record { d = d; here = inl refl; now = inl refl; named = are.0; are = are.1; next = next }
  where
    entries : List (Key × Bp)
    entries = entries_with d.entries c.blocks.items

    apart : (y : Dataset) → Has ds y → y.id ≢ d.id
    apart y h same = let less : d.id.0 < y.id.0 = order.0 y h in let is : y.id.0 ≡ d.id.0 = ap (λ (x : DsId). x.0) same in omega (arith, less, is)

    next : with_own d c ∷ put_over ds [] ≡ map (holding d.id (entries_with d.entries c.blocks.items)) (d ∷ ds)
    next =
        ap (λ (ys : Graph). with_own d c ∷ ys) (over_none ds ∙ sym (others d.id entries ds apart))
        ∙ ap (λ (b : Bool). (if b then record d { entries = entries } else d) ∷ map (holding d.id entries) ds) (sym (is_id-same d.id d.id refl))

next_more : (d : Dataset) (ds : Graph) (o : Open) (c k : Changes) (cs : List Changes) (i : ℕ) → IsInIdOrder (d ∷ ds) → IsNext ds o cs i k → IsNext (d ∷ ds) o (c ∷ cs) (suc i) k
next_more d ds o c k cs i order rest = record { d = rest.d; here = inr rest.here; now = inr rest.now; named = rest.named; are = rest.are; next = next }
  where
    entries : List (Key × Bp)
    entries = entries_with rest.d.entries k.blocks.items

    apart : d.id ≢ rest.d.id
    apart same = let less : d.id.0 < rest.d.id.0 = order.0 rest.d rest.here in let is : d.id.0 ≡ rest.d.id.0 = ap (λ (x : DsId). x.0) same in omega (arith, less, is)

    next : with_own d c ∷ put_over ds (take (suc i) cs) ≡ map (holding rest.d.id entries) (with_own d c ∷ put_over ds (take i cs))
    next =
        ap (λ (ys : Graph). with_own d c ∷ ys) rest.next
        ∙ ap (λ (b : Bool). (if b then record (with_own d c) { entries = entries } else with_own d c) ∷ map (holding rest.d.id entries) (put_over ds (take i cs))) (sym (is_id-other d.id rest.d.id apart))

pub next_at : (g : Graph) (o : Open) (changes : List Changes) (i : ℕ) (none : Changes) → IsInIdOrder g → AreChangesOf g o changes → i < length changes → IsNext g o changes i (get_or changes i none)
next_at [] o [] i none order are below = absurd (omega (arith, below))
next_at [] o (c ∷ cs) i none order are below = absurd are
next_at (d ∷ ds) o [] i none order are below = absurd are
next_at (d ∷ ds) o (c ∷ cs) zero none order are below = next_first d ds o c cs order are
next_at (d ∷ ds) o (c ∷ cs) (suc i) none order are below =
    next_more d ds o c (get_or cs i none) cs i order (next_at ds o cs i none order.1 are.2 (omega (arith, below)))

-- where the next changes have no block nothing changes
pub none_next : (g : Graph) (changes : List Changes) (i : ℕ) (none : Changes) → i < length changes → (get_or changes i none).blocks.items ≡ [] → put_over g (take (suc i) changes) ≡ put_over g (take i changes)
none_next [] changes i none below is = refl
none_next (d ∷ ds) [] i none below is = absurd (omega (arith, below))
none_next (d ∷ ds) (c ∷ cs) zero none below is =
    ap (λ (l : List (Key × Bp)). record d { entries = entries_with d.entries l } ∷ put_over ds []) is ∙ ap (λ (ys : Graph). d ∷ ys) (over_none ds)
none_next (d ∷ ds) (c ∷ cs) (suc i) none below is = ap (λ (ys : Graph). with_own d c ∷ ys) (none_next ds cs i none (omega (arith, below)) is)

written_by : (txg : ℕ) (own : List (Slot × Staging)) (d : Dataset) (c : Changes) → AreChanges d.entries own txg c.blocks.items → IsWritten txg own d (with_own d c)
written_by txg [] d c are = ap (λ (l : List (Key × Bp)). record d { entries = entries_with d.entries l }) (none_made d.entries txg c.blocks.items are)
written_by txg (e ∷ es) d c are = record { changes = c.blocks.items; are_changes = are; is = refl }

-- with all changes the datasets are written
pub all_written : (g : Graph) (o : Open) (changes : List Changes) → AreChangesOf g o changes → AreWritten (txg_of o) g (put_over g changes)
all_written [] o [] are = tt
all_written [] o (c ∷ cs) are = absurd are
all_written (d ∷ ds) o [] are = absurd are
all_written (d ∷ ds) o (c ∷ cs) are = (written_by o.txg (staged_for o.staged d.id) d c are.1, all_written ds o cs are.2)
