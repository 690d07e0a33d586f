-- A head stays formed where the blocks that are staged for it are put over its own.
use Rattle.std.specs.Prelude.{◌≡◌, ◌⊎◌, ◌<◌, ◌≤◌, ◌-◌, ◌*◌, ◌/◌, ◌%◌, ℕ, true, List, is_some, Option, Some, None, refl}
use Rattle.std.proofs.Common.{sym, ◌∙◌, ap, subst, inl, inr, arith}
use Rattle.std.proofs.lemmas.Bool.{true≢false}
use Rattle.zs_ids.specs.declared.key.Key.{Key}
use Rattle.zs_ids.specs.declared.block.Bp.{Bp}
use Rattle.zs_ids.specs.declared.dataset.DsId.{DsId}
use Rattle.zs_ids.specs.Key.{key_cmp, parent_of, root_key, dnode_key, record_key}
use Rattle.zs_ids.specs.Blocks.{entries_with}
use Rattle.zs_ids.specs.Graph.{Dataset, Has}
use Rattle.zs_ids.specs.GraphValid.{IsBlock, IsObjectKey, HasForm, HasBlocks, record_sizes}
use Rattle.zs_ids.specs.GraphValid.IsBlock.{root as root_block, dnodes as dnodes_block, leaf as leaf_block}
use Rattle.zs_graph.proofs.Births.{last_in_head}
use Rattle.zs_graph.proofs.OnePlaces.{one_apart}
use Rattle.zs_txg.specs.declared.staged.Staging.{Staging}
use Rattle.zs_txg.specs.Txg.{Slot, slot_cmp, staged_at}
use Rattle.zs_txg.proofs.Slots.{slot_total, same_slot, key_total}
use Rattle.zs_objset.specs.Staged.{level_of}
use Rattle.zs_machine.specs.Steps.{AreChanges}
use Rattle.zs_core.specs.Placed.{IsFormed, IsWhole, HasAt, AreFormed, AreStaged}
use Rattle.zs_core.specs.Placed.IsFormed.{root, dnodes, leaf}
use Rattle.zs_core.proofs.Inserting.{at_some, at_key}
use Rattle.zs_core.proofs.PutEntries.{same_key, NoneAt, from_all, all_in_order, all_old, all_new, IsChangeOf, AreMade, are_made}

-- something is staged where a search finds it
found_staged : (own : List (Slot × Staging)) (slot : Slot) → is_some (staged_at own slot) ≡ true → (e : Slot × Staging) × Has own e × (e.0 ≡ slot)
found_staged own slot some = go (staged_at own slot) refl some
  where
    go : (f : Option Staging) → staged_at own slot ≡ f → is_some f ≡ true → (e : Slot × Staging) × Has own e × (e.0 ≡ slot)
    go None is h = absurd (true≢false (sym h))
    go (Some w) is h = ((slot, w), at_some slot_cmp slot_total same_slot own slot w is, refl)

-- a record has a sector
some_sectors : (sectors : ℕ) → Has record_sizes sectors → 0 < sectors
some_sectors n h = elim h [
  | inl is ↦ omega (arith, is)
  | inr a ↦ elim a [ inl is ↦ omega (arith, is) | inr b ↦ elim b [ inl is ↦ omega (arith, is) | inr c ↦ elim c [ inl is ↦ omega (arith, is) | inr d ↦ elim d [ inl is ↦ omega (arith, is) | inr e ↦ elim e [ inl is ↦ omega (arith, is) | inr f ↦ elim f [ inl is ↦ omega (arith, is) | inr g ↦ elim g [ inl is ↦ omega (arith, is) | inr i ↦ elim i [ inl is ↦ omega (arith, is) | inr none ↦ absurd none ] ] ] ] ] ] ] ]
]

-- a block has a sector
pub has_sectors : (size : ℕ → ℕ) (key : Key) (sectors : ℕ) → ((object : ℕ) → Has record_sizes (size object)) → IsFormed size key sectors → 0 < sectors
has_sectors size key sectors sizes formed = elim formed [
  | root k is ↦ omega (arith, is)
  | dnodes object to k is ↦ omega (arith, is)
  | leaf object from to k is ↦ some_sectors sectors (subst (λ (n : ℕ). Has record_sizes n) (sym is) (sizes object))
]

module _ (size : ℕ → ℕ) (id : DsId) (t : ℕ) (entries changes : List (Key × Bp)) (own : List (Slot × Staging)) (formed : AreFormed size t entries) (are_staged : AreStaged size id own) (are_changes : AreChanges entries own t changes) where
  are : AreMade t own changes
  are = are_made size id entries own t changes are_staged are_changes

  -- what there is then is the pointer of what was staged, or was there at a key where nothing was staged
  now : (e : Key × Bp) → Has (entries_with entries changes) e → Has changes e ⊎ (Has entries e × NoneAt changes e.0)
  now e h = from_all entries changes e formed.in_order h

  whole_change : (c : Key × Bp) → Has changes c → IsWhole size t c
  whole_change c h =
      let r = are.from c h in
      let is : IsChangeOf t r.0 c = r.2 in
      let born : c.1.birth ≡ t = is.born in
      record {
        formed = subst (λ (k : Key). IsFormed size k c.1.sectors) (sym is.key) (subst (λ (s : ℕ). IsFormed size (r.0).0.1 s) (sym is.sectors) (are_staged.formed r.0 r.1));
        height = is.height;
        single = is.single;
        unused = is.unused;
        born = omega (arith, born);
      }

  change_at : (c : Key × Bp) (k : Key) (birth : ℕ) → Has changes c → c.0 ≡ k → birth ≤ t → HasAt (entries_with entries changes) k birth
  change_at c k birth h is below =
      let born : c.1.birth ≡ t = (are.from c h).2.born in
      record { entry = c; is_entry = all_new entries changes c are.in_order h; is_key = is; later = omega (arith, below, born) }

  -- the parent block of one that was staged was staged
  parent_new : (c : Key × Bp) (k : Key) → Has changes c → parent_of c.0 1 ≡ Some k → HasAt (entries_with entries changes) k c.1.birth
  parent_new c k h parent =
      let r = are.from c h in
      let is : IsChangeOf t r.0 c = r.2 in
      let above : parent_of (r.0).0.1 1 ≡ Some k = ap (λ (x : Key). parent_of x 1) (sym is.key) ∙ parent in
      let f = found_staged own (id, k) (are_staged.parents r.0 r.1 k above) in
      let d = are.to f.0 f.1 in
      let born : c.1.birth ≡ t = is.born in
      change_at d.0 k c.1.birth d.1 ((d.2).key ∙ ap (λ (s : Slot). s.1) f.2) (omega (arith, born))

  -- the parent block of one that stays stays, or was replaced by a later one
  parent_old : (e : Key × Bp) (k : Key) → Has entries e → parent_of e.0 1 ≡ Some k → HasAt (entries_with entries changes) k e.1.birth
  parent_old e k h parent =
      let p = formed.parents e h k parent in
      let born : e.1.birth ≤ t = (formed.each e h).born in
      elim (at_key key_cmp key_total same_key changes k) [
        | inl c ↦ change_at (k, c.0) k e.1.birth c.1 refl born
        | inr none ↦ record { entry = p.entry; is_entry = all_old entries changes p.entry p.is_entry (subst (λ (x : Key). NoneAt changes x) (sym p.is_key) none); is_key = p.is_key; later = p.later }
      ]

  -- the entries stay formed
  pub formed_after : AreFormed size t (entries_with entries changes)
  formed_after = record {
    sizes = formed.sizes;
    in_order = all_in_order entries changes formed.in_order;
    each = λ e h. elim (now e h) [ inl new ↦ whole_change e new | inr old ↦ formed.each e old.0 ];
    parents = λ e h k parent. elim (now e h) [ inl new ↦ parent_new e k new parent | inr old ↦ parent_old e k old.0 parent ];
  }

-- the block of dnodes with that of an object is one of 64
nth : (object : ℕ) → object ≤ 2047 → object / 32 < 64
nth object below = omega arith

thirty_two : (object : ℕ) → object - object % 32 ≡ 32 * (object / 32) - 32 * (object / 32) % 32
thirty_two object = omega arith

dnode_is : (object : ℕ) → dnode_key object ≡ dnode_key (32 * (object / 32))
dnode_is object = ap (λ (n : ℕ). let k : Key = record { object = n; rank = 0; leaf = 0; depth = 1 } in k) (thirty_two object)

form : (size : ℕ → ℕ) (n : ℕ) (e : Key × Bp) (sectors : ℕ) (k : Key) → IsWhole size n e → e.1.sectors ≡ sectors → e.0 ≡ k → HasForm e.1 sectors (level_of k)
form size n e sectors k w is key = record {
  size = is;
  height = w.height ∙ ap level_of key;
  some = let one : e.1.count ≡ 1 = w.single in omega (arith, one);
  few = let one : e.1.count ≡ 1 = w.single in omega (arith, one);
  apart = one_apart e.1.sectors e.1.count e.1.places w.single;
}

record_is : (object : ℕ) (k : Key) → 1 ≤ object → object ≤ 2047 → k ≡ record_key object 0 → IsObjectKey 1 0 k
record_is object k from to is =
    subst (λ (x : Key). IsObjectKey 1 0 x) (sym is) (record { from_one = from; to_last = to; rank = refl; first_leaf = refl; below_end = omega arith; depth = refl })

-- a block in the words of a pool in which an object has one record is one in those of a valid graph
is_block : (size : ℕ → ℕ) (n : ℕ) (e : Key × Bp) → IsWhole size n e → IsBlock 1 (size e.0.object) e
is_block size n e w = elim w.formed [
  | root key sectors ↦ root_block key (form size n e 8 root_key w sectors key)
  | dnodes object to key sectors ↦ dnodes_block (object / 32) (nth object to) (key ∙ dnode_is object) (form size n e 8 (dnode_key object) w sectors key)
  | leaf object from to key sectors ↦ leaf_block (omega arith) (record_is object e.0 from to key) (form size n e (size e.0.object) (record_key object 0) w (sectors ∙ ap size (sym (ap (λ (k : Key). k.object) key))) key)
]

-- a head that is formed has the blocks of a dataset
pub has_blocks : (size : ℕ → ℕ) (n : ℕ) (d : Dataset) → d.head ≡ true → AreFormed size n d.entries → HasBlocks d n
has_blocks size n d is_head formed = record {
  in_order = formed.in_order;
  births = λ e h. subst (λ (last : ℕ). e.1.birth ≤ last) (sym (last_in_head d n is_head)) (formed.each e h).born;
  levels = λ object. 1;
  at_most_four = λ object. omega arith;
  size = size;
  is_size = formed.sizes;
  blocks = λ e h. is_block size n e (formed.each e h);
  parents = λ e h k is. let p = formed.parents e h k is in record { entry = p.entry; is_entry = p.is_entry; is_key = p.is_key; later = p.later };
}
