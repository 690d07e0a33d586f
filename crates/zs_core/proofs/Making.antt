-- The record of an object is staged with the blocks above it, and what is staged stays formed and placed.
use Rattle.std.specs.Prelude.{◌≡◌, ◌≢◌, ◌≤◌, ◌+◌, ◌==◌, ℕ, Bool, true, false, cond, List, is_some, Option, Some, None, refl, if◌then◌else◌}
use Rattle.std.specs.Ordering.{is_eq}
use Rattle.std.specs.declared.cmp.Ordering.{Ordering}
use Rattle.std.specs.declared.cmp.Ordering.TheVariants.{Less, Equal, Greater}
use Rattle.std.proofs.Common.{sym, ◌∙◌, ap, subst, arith}
use Rattle.std.proofs.lemmas.Bool.{true≢false, eqb-true, eq-eqb, false_from_ne_true}
use Rattle.std.proofs.lemmas.Cmp.{tied_itself}
use Rattle.zs_ids.specs.declared.key.Key.{Key}
use Rattle.zs_ids.specs.declared.block.Bp.{Bp}
use Rattle.zs_ids.specs.declared.block.Place.{Place}
use Rattle.zs_ids.specs.declared.dataset.DsId.{DsId}
use Rattle.zs_ids.specs.Key.{key_cmp, root_key, dnode_key, record_key, parent_of}
use Rattle.zs_ids.specs.Blocks.{bp_at}
use Rattle.zs_ids.specs.Graph.{Has, Graph}
use Rattle.zs_ids.specs.GraphValid.{record_sizes}
use Rattle.zs_txg.specs.declared.staged.Staging.{Staging}
use Rattle.zs_txg.specs.Txg.{Slot, slot_cmp, staged_at, staged_for, put_staged}
use Rattle.zs_txg.proofs.Entries.{lookup-insert_entry}
use Rattle.zs_txg.proofs.Slots.{slot_total, same_slot, key_total}
use Rattle.zs_graph.proofs.Keys.{key_equal}
use Rattle.zs_machine.specs.Steps.{staged_once, IsStagedWith, KeepsPlace}
use Rattle.zs_core.specs.Placed.{IsFormed, resized, AreFormed, AreStaged, sector_at, next_after, with_root, after_root, with_above, after_above, staged_with, staged_again, place_or}
use Rattle.zs_core.specs.Placed.IsFormed.{root, dnodes, leaf}
use Rattle.zs_core.specs.Datasets.{IsHeadsId}
use Rattle.zs_core.proofs.Inserting.{at_some, at_none}
use Rattle.zs_core.proofs.Owned.{own_at}
use Rattle.zs_core.proofs.Placing.{ArePlaced, placed_next, placed_again}

is_equal : (r : Ordering) → is_eq r ≡ true → r ≡ Equal
is_equal Less e = absurd (true≢false (sym e))
is_equal Equal e = refl
is_equal Greater e = absurd (true≢false (sym e))

abbrev pointers : ℕ → Staging
pointers next = record { place = sector_at next; sectors = 8; fill = None }

here_by : (b : Bool) (f : Option Staging) (what : Staging) → b ≡ true → is_some (cond b (Some what) f) ≡ true
here_by true f what is = refl
here_by false f what is = absurd (true≢false (sym is))

-- what was just staged is staged
just_staged : (staged : List (Slot × Staging)) (slot : Slot) (what : Staging) → is_some (staged_at (put_staged staged slot what) slot) ≡ true
just_staged staged slot what =
    subst (λ (f : Option Staging). is_some f ≡ true) (sym (lookup-insert_entry slot_total slot what slot staged)) (here_by (is_eq (slot_cmp slot slot)) (staged_at staged slot) what (ap is_eq (tied_itself slot_total slot)))

-- a block of pointers is staged at the next sector, unless one is staged at its slot
module _ (g : Graph) (n start next : ℕ) (size : ℕ → ℕ) (id : DsId) (staged : List (Slot × Staging)) (is_head : IsHeadsId g id) (key : Key) (formed : IsFormed size key 8) (above : (k : Key) → parent_of key 1 ≡ Some k → is_some (staged_at staged (id, k)) ≡ true) (p : ArePlaced g n start next size id staged) where
  abbrev once_by : Bool → List (Slot × Staging)
  once_by b = if b then staged else put_staged staged (id, key) (pointers next)

  placed_by : (b : Bool) → ArePlaced g n start (if b then next else next + 8) size id (once_by b)
  placed_by true = p
  placed_by false = placed_next g n start next size id staged p is_head key (pointers next) (formed, λ is. refl, above) refl

  pub placed_once : ArePlaced g n start (next_after staged (id, key) 8 next) size id (staged_once staged (id, key) (sector_at next))
  placed_once = placed_by (is_some (staged_at staged (id, key)))

-- a slot is staged once it is staged if need be, and another one that is staged stays
pub is_once : (staged : List (Slot × Staging)) (slot : Slot) (place : Place) → is_some (staged_at (staged_once staged slot place) slot) ≡ true
is_once staged slot place = by (is_some (staged_at staged slot)) refl
  where
    by : (b : Bool) → is_some (staged_at staged slot) ≡ b → is_some (staged_at (if b then staged else put_staged staged slot (record { place = place; sectors = 8; fill = None })) slot) ≡ true
    by true is = is
    by false is = just_staged staged slot _

none_above : (k : Key) → parent_of root_key 1 ≡ Some k → ⊥
none_above k is = absurd (cc)

root_above : (object : ℕ) (k : Key) → parent_of (dnode_key object) 1 ≡ Some k → root_key ≡ k
root_above object k is = cc

dnode_above : (object : ℕ) (k : Key) → parent_of (record_key object 0) 1 ≡ Some k → dnode_key object ≡ k
dnode_above object k is = cc

module _ (g : Graph) (n start next : ℕ) (size : ℕ → ℕ) (id : DsId) (staged : List (Slot × Staging)) (is_head : IsHeadsId g id) (object : ℕ) (last : object ≤ 2047) (p : ArePlaced g n start next size id staged) where
  placed_root : ArePlaced g n start (after_root staged id next) size id (with_root staged id next)
  placed_root = placed_once g n start next size id staged is_head root_key (root refl refl) (λ k is. absurd (none_above k is)) p

  -- the blocks above a record are staged
  pub placed_above : ArePlaced g n start (after_above staged id object next) size id (with_above staged id object next)
  placed_above =
      placed_once g n start (after_root staged id next) size id (with_root staged id next) is_head (dnode_key object) (dnodes object last refl refl)
      (λ k is. subst (λ (x : Key). is_some (staged_at (with_root staged id next) (id, x)) ≡ true) (root_above object k is) (is_once staged (id, root_key) (sector_at next))) placed_root

  -- a record is staged for the first time in the group, with the blocks above it
  pub write_staged : (sectors : ℕ) (fill : Option ℕ) → (fill ≡ None → sectors ≡ 8) → 1 ≤ object → sectors ≡ size object
      → ArePlaced g n start (after_above staged id object next + sectors) size id (staged_with staged id object sectors fill next)
  write_staged sectors fill eight first is =
      let what : Staging = record { place = sector_at (after_above staged id object next); sectors = sectors; fill = fill } in
      let above : (k : Key) → parent_of (record_key object 0) 1 ≡ Some k → is_some (staged_at (with_above staged id object next) (id, k)) ≡ true = λ k up. subst (λ (x : Key). is_some (staged_at (with_above staged id object next) (id, x)) ≡ true) (dnode_above object k up) (is_once (with_root staged id next) (id, dnode_key object) (sector_at (after_root staged id next))) in
      placed_next g n start (after_above staged id object next) size id (with_above staged id object next) placed_above is_head (record_key object 0) what (leaf object first last refl is, eight, above) refl

-- a block that is staged is staged again at its place, with another fill
pub again_staged : (g : Graph) (n start next : ℕ) (size : ℕ → ℕ) (id : DsId) (staged : List (Slot × Staging)) → IsHeadsId g id → (key : Key) (old : Staging) (fill : Option ℕ)
    → (fill ≡ None → old.sectors ≡ 8) → ArePlaced g n start next size id staged → staged_at staged (id, key) ≡ Some old
    → ArePlaced g n start next size id (put_staged staged (id, key) (record { place = old.place; sectors = old.sectors; fill = fill }))
again_staged g n start next size id staged is_head key old fill eight p found =
    let was : Has (staged_for staged id) ((id, key), old) = at_some slot_cmp slot_total same_slot (staged_for staged id) (id, key) old (own_at staged id key ∙ found) in
    let what : Staging = record { place = old.place; sectors = old.sectors; fill = fill } in
    let above : (k : Key) → parent_of key 1 ≡ Some k → is_some (staged_at staged (id, k)) ≡ true = λ k up. subst (λ (f : Option Staging). is_some f ≡ true) (own_at staged id k) (p.own.parents ((id, key), old) was k up) in
    placed_again g n start next size id staged p is_head key what (p.own.formed ((id, key), old) was, eight, above) old found refl refl

-- the record of an object has the object's size
record_formed : (size : ℕ → ℕ) (object n : ℕ) → IsFormed size (record_key object 0) n → (n ≡ size object) × (1 ≤ object) × (object ≤ 2047)
record_formed size object n formed = elim formed [
  | root k is ↦ absurd (let rank : 1 ≡ 0 = ap (λ (x : Key). x.rank) k in omega (arith, rank))
  | dnodes m to k is ↦ absurd (let rank : 1 ≡ 0 = ap (λ (x : Key). x.rank) k in omega (arith, rank))
  | leaf m from to k is ↦ (let same : object ≡ m = ap (λ (x : Key). x.object) k in (is ∙ ap size (sym same), omega (arith, from, same), omega (arith, to, same)))
]

pub size_live : (size : ℕ → ℕ) (n object : ℕ) (entries : List (Key × Bp)) (bp : Bp) → AreFormed size n entries → bp_at entries (record_key object 0) ≡ Some bp → (bp.sectors ≡ size object) × (1 ≤ object) × (object ≤ 2047)
size_live size n object entries bp formed found =
    record_formed size object bp.sectors (formed.each (record_key object 0, bp) (at_some key_cmp key_total key_equal entries (record_key object 0) bp found)).formed

pub size_staged : (size : ℕ → ℕ) (id : DsId) (object : ℕ) (staged : List (Slot × Staging)) (what : Staging) → AreStaged size id staged → staged_at staged (id, record_key object 0) ≡ Some what → (what.sectors ≡ size object) × (1 ≤ object) × (object ≤ 2047)
size_staged size id object staged what s found =
    record_formed size object what.sectors (s.formed ((id, record_key object 0), what) (at_some slot_cmp slot_total same_slot staged (id, record_key object 0) what found))

-- the size of an object without a record may be set
resized_formed : (size : ℕ → ℕ) (object sectors : ℕ) (key : Key) (n : ℕ) → key ≢ record_key object 0 → IsFormed size key n → IsFormed (resized size object sectors) key n
resized_formed size object sectors key n other formed = elim formed [
  | root k is ↦ root k is
  | dnodes m to k is ↦ dnodes m to k is
  | leaf m from to k is ↦ leaf m from to k (is ∙ sym (ap (λ (b : Bool). if b then sectors else size m) (false_from_ne_true (m == object) (λ same. other (k ∙ ap (λ (x : ℕ). record_key x 0) (eqb-true m object same))))))
]

pub size_set : (size : ℕ → ℕ) (object sectors : ℕ) → sectors ≡ resized size object sectors object
size_set size object sectors = sym (ap (λ (b : Bool). if b then sectors else size object) (eq-eqb object object refl))

pub resized_entries : (size : ℕ → ℕ) (object sectors n : ℕ) (entries : List (Key × Bp)) → Has record_sizes sectors → bp_at entries (record_key object 0) ≡ None → AreFormed size n entries → AreFormed (resized size object sectors) n entries
resized_entries size object sectors n entries is_size none formed = record {
  sizes = λ m. by m (m == object);
  in_order = formed.in_order;
  each = λ e h. let w = formed.each e h in record { formed = resized_formed size object sectors e.0 e.1.sectors (at_none key_cmp key_total key_equal entries (record_key object 0) e none h) w.formed; height = w.height; single = w.single; unused = w.unused; born = w.born };
  parents = formed.parents;
}
  where
    by : (m : ℕ) (b : Bool) → Has record_sizes (if b then sectors else size m)
    by m true = is_size
    by m false = formed.sizes m

pub resized_staged : (size : ℕ → ℕ) (object sectors : ℕ) (id : DsId) (staged : List (Slot × Staging)) → staged_at staged (id, record_key object 0) ≡ None → AreStaged size id staged → AreStaged (resized size object sectors) id staged
resized_staged size object sectors id staged none s = record {
  in_order = s.in_order;
  for_head = s.for_head;
  formed = λ e h. resized_formed size object sectors e.0.1 e.1.sectors (λ same. at_none slot_cmp slot_total same_slot staged (id, record_key object 0) e none h (λ i. (s.for_head e h i, same i))) (s.formed e h);
  sized = s.sized;
  parents = s.parents;
}

-- staging the root changes nothing at another slot
other_once : (staged : List (Slot × Staging)) (slot at : Slot) (place : Place) → at ≢ slot → staged_at (staged_once staged slot place) at ≡ staged_at staged at
other_once staged slot at place other = by (is_some (staged_at staged slot))
  where
    apart : is_eq (slot_cmp at slot) ≡ false
    apart = false_from_ne_true (is_eq (slot_cmp at slot)) (λ is. other (same_slot at slot (is_equal (slot_cmp at slot) is)))

    by : (b : Bool) → staged_at (if b then staged else put_staged staged slot (record { place = place; sectors = 8; fill = None })) at ≡ staged_at staged at
    by true = refl
    by false = lookup-insert_entry slot_total slot (record { place = place; sectors = 8; fill = None }) at staged ∙ ap (λ (b : Bool). cond b (Some (record { place = place; sectors = 8; fill = None })) (staged_at staged at)) apart

-- the record of an object is staged at a slot of its own
pub other_above : (staged : List (Slot × Staging)) (id : DsId) (object next : ℕ) → staged_at (with_above staged id object next) (id, record_key object 0) ≡ staged_at staged (id, record_key object 0)
other_above staged id object next =
    other_once (with_root staged id next) (id, dnode_key object) (id, record_key object 0) (sector_at (after_root staged id next)) (λ is. let depth : 3 ≡ 1 = ap (λ (s : Slot). s.1.depth) is in omega (arith, depth))
    ∙ other_once staged (id, root_key) (id, record_key object 0) (sector_at next) (λ is. let depth : 3 ≡ 0 = ap (λ (s : Slot). s.1.depth) is in omega (arith, depth))

keeps : (f g : Option Staging) (place : Place) → g ≡ f → KeepsPlace f (place_or g place)
keeps None g place is = tt
keeps (Some e) g place is = ap (λ (x : Option Staging). place_or x place) is

-- it is a step of the machine
pub is_staged : (staged : List (Slot × Staging)) (id : DsId) (object sectors fill next : ℕ) → IsStagedWith staged id object sectors fill (staged_again staged id object sectors (Some fill) next)
is_staged staged id object sectors fill next = (sector_at next, sector_at (after_root staged id next), place_or (staged_at (with_above staged id object next) (id, record_key object 0)) (sector_at (after_above staged id object next)), keeps _ _ _ (other_above staged id object next), refl)

-- the next sector after a record is that many sectors on as it needs with the blocks above it that were not staged
pub needed_is : (staged : List (Slot × Staging)) (id : DsId) (object sectors next : ℕ) → after_above staged id object next + sectors ≡ next + ((if is_some (staged_at staged (id, root_key)) then 0 else 8) + (if is_some (staged_at staged (id, dnode_key object)) then 0 else 8) + sectors)
needed_is staged id object sectors next =
    ap (λ (f : Option Staging). (if is_some f then after_root staged id next else after_root staged id next + 8) + sectors) (other_once staged (id, root_key) (id, dnode_key object) (sector_at next) two)
    ∙ by (is_some (staged_at staged (id, root_key))) (is_some (staged_at staged (id, dnode_key object)))
  where
    two : ◌≢◌ {A = Slot} (id, dnode_key object) (id, root_key)
    two is = let depth : 1 ≡ 0 = ap (λ (s : Slot). s.1.depth) is in omega (arith, depth)

    by : (a b : Bool) → (if b then (if a then next else next + 8) else (if a then next else next + 8) + 8) + sectors ≡ next + ((if a then 0 else 8) + (if b then 0 else 8) + sectors)
    by true true = omega arith
    by true false = omega arith
    by false true = omega arith
    by false false = omega arith
