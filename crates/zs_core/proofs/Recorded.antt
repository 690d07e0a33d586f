-- The record of an object is staged for a head, new or again, and what is true of the datasets stays.
use Rattle.std.specs.Prelude.{◌≡◌, ◌≤◌, ◌+◌, ◌||◌, ℕ, Bool, true, List, is_some, Option, Some, None, refl, if◌then◌else◌}
use Rattle.std.proofs.Common.{sym, ◌∙◌, ap, subst, inl, inr, arith}
use Rattle.std.proofs.lemmas.Bool.{true≢false}
use Rattle.zs_ids.specs.declared.block.Bp.{Bp}
use Rattle.zs_ids.specs.declared.key.Key.{Key}
use Rattle.zs_ids.specs.Key.{root_key, dnode_key, record_key, parent_of}
use Rattle.zs_ids.specs.Blocks.{bp_at}
use Rattle.zs_ids.specs.Graph.{Has, Dataset, Graph}
use Rattle.zs_ids.specs.GraphValid.{IsInIdOrder, record_sizes}
use Rattle.zs_txg.specs.declared.staged.Staging.{Staging}
use Rattle.zs_txg.specs.Txg.{Slot, slot_cmp, staged_at, staged_for, put_staged}
use Rattle.zs_txg.proofs.Slots.{slot_total, same_slot}
use Rattle.zs_graph.proofs.Graphs.{one_dataset, cases_id}
use Rattle.zs_machine.specs.Machine.{sectors_from}
use Rattle.zs_machine.specs.Steps.{staged_once}
use Rattle.zs_core.specs.Placed.{resized, AreFormed, AreStaged, sector_at, with_root, after_root, with_above, after_above, staged_with, staged_again, place_or}
use Rattle.zs_core.specs.Datasets.{IsHeadsId, IsFormedWith, AreDatasets}
use Rattle.zs_core.specs.Kept.{sectors_to_stage}
use Rattle.zs_core.proofs.Inserting.{at_some}
use Rattle.zs_core.proofs.Owned.{own_at}
use Rattle.zs_core.proofs.Placing.{ArePlaced, placed_with}
use Rattle.zs_core.proofs.Making.{write_staged, again_staged, size_live, size_set, resized_entries, resized_staged, other_above, needed_is}

-- a record has a fill
pub some_fill : (fill sectors : ℕ) → Some fill ≡ None → sectors ≡ 8
some_fill fill sectors is = absurd (true≢false (ap (λ (f : Option ℕ). is_some f) is))

-- what is there is something
something : {A : Type 0} (f : Option A) → is_some f ≡ true → (x : A) × (f ≡ Some x)
something None there = absurd (true≢false (sym there))
something (Some x) there = (x, refl)

module _ (g : Graph) (n start next : ℕ) (staged : List (Slot × Staging)) (d : Dataset) (order : IsInIdOrder g) (here : Has g d) (head : d.head ≡ true) (begun : start ≤ next) (sets : AreDatasets g n start next staged) where
  heads_id : IsHeadsId g d.id
  heads_id = record { head = d; here = here; named = refl; is_head = head }

  -- its blocks and what is staged for it
  own : IsFormedWith n d (staged_for staged d.id)
  own = sets.formed d here

  -- the datasets, seen from this one
  placed : ArePlaced g n start next own.size d.id staged
  placed = record {
    begun = begun;
    in_order = sets.in_order;
    heads = sets.heads;
    own = own.staged;
    others = λ x h ne. sets.formed x h;
    live = sets.live;
    new = sets.new;
    new_apart = sets.new_apart;
    between = sets.between;
  }

  -- and seen from all again
  from_placed : (size : ℕ → ℕ) (later : ℕ) (now : List (Slot × Staging)) → AreFormed size n d.entries → ArePlaced g n start later size d.id now → AreDatasets g n start later now
  from_placed size later now formed p = record {
    in_order = p.in_order;
    heads = p.heads;
    formed = λ x h. elim (cases_id x.id d.id) [
      | inl same ↦ subst (λ (y : Dataset). IsFormedWith n y (staged_for now y.id)) (sym (one_dataset g order x d h here same)) (record { size = size; formed = formed; staged = p.own })
      | inr other ↦ p.others x h other
    ];
    live = p.live;
    new = p.new;
    new_apart = p.new_apart;
    between = p.between;
  }

  module _ (object sectors : ℕ) (fill : Option ℕ) (eight : fill ≡ None → sectors ≡ 8) where
    -- where the record is staged
    abbrev slot : Slot
    slot = (d.id, record_key object 0)

    -- the sectors that it needs with the blocks above it
    abbrev needed : ℕ
    needed = sectors_to_stage staged d.id object sectors

    -- what is true of the datasets once the record is staged
    abbrev Kept : Type 0
    Kept = AreDatasets g n start (next + needed) (staged_again staged d.id object sectors fill next)

    -- the next sector lies behind the record where none was staged
    behind : staged_at staged slot ≡ None → after_above staged d.id object next + sectors ≡ next + needed
    behind none =
        needed_is staged d.id object sectors next
        ∙ ap (λ (f : Option Staging). next + ((if is_some (staged_at staged (d.id, root_key)) then 0 else 8) + (if is_some (staged_at staged (d.id, dnode_key object)) then 0 else 8) + (if is_some f then 0 else sectors))) (sym none)

    -- it is staged behind the blocks above it where none was staged
    as_new : staged_at staged slot ≡ None → staged_again staged d.id object sectors fill next ≡ staged_with staged d.id object sectors fill next
    as_new none =
        ap (λ (f : Option Staging). put_staged (with_above staged d.id object next) slot (record { place = place_or f (sector_at (after_above staged d.id object next)); sectors = sectors; fill = fill })) (other_above staged d.id object next ∙ none)

    -- the datasets stay as they are where the record and the blocks above it are staged
    kept_new : (size : ℕ → ℕ) → AreFormed size n d.entries → staged_at staged slot ≡ None → ArePlaced g n start (after_above staged d.id object next + sectors) size d.id (staged_with staged d.id object sectors fill next) → Kept
    kept_new size formed none p =
        let moved : ArePlaced g n start (after_above staged d.id object next + sectors) size d.id (staged_again staged d.id object sectors fill next) =
        subst (λ (l : List (Slot × Staging)). ArePlaced g n start (after_above staged d.id object next + sectors) size d.id l) (sym (as_new none)) p in
        from_placed size (next + needed) (staged_again staged d.id object sectors fill next) formed
        (subst (λ (m : ℕ). ArePlaced g n start m size d.id (staged_again staged d.id object sectors fill next)) (behind none) moved)

    -- the record of a new object is staged
    pub record_made : 1 ≤ object → object ≤ 2047 → Has record_sizes sectors → bp_at d.entries (record_key object 0) ≡ None → staged_at staged slot ≡ None → Kept
    record_made first last is_size unmapped none =
        let sizes : ℕ → ℕ = resized own.size object sectors in
        let part : AreStaged sizes d.id (staged_for staged d.id) = resized_staged own.size object sectors d.id (staged_for staged d.id) (own_at staged d.id (record_key object 0) ∙ none) own.staged in
        kept_new sizes (resized_entries own.size object sectors n d.entries is_size unmapped own.formed) none
        (write_staged g n start next sizes d.id staged heads_id object last (placed_with g n start next own.size sizes d.id staged placed part) sectors fill eight first (size_set own.size object sectors))

    -- one of an object that has its size, staged for the first time in the group
    written_new : (sectors ≡ own.size object) × (1 ≤ object) × (object ≤ 2047) → staged_at staged slot ≡ None → Kept
    written_new is none = kept_new own.size own.formed none (write_staged g n start next own.size d.id staged heads_id object is.2 placed sectors fill eight is.1 is.0)

    module _ (old : Staging) (found : staged_at staged slot ≡ Some old) (same : sectors ≡ old.sectors) where
      -- the block above one that is staged is staged
      above : (key up : Key) (e : Staging) → staged_at staged (d.id, key) ≡ Some e → parent_of key 1 ≡ Some up → is_some (staged_at staged (d.id, up)) ≡ true
      above key up e is stands =
          subst (λ (f : Option Staging). is_some f ≡ true) (own_at staged d.id up)
          (own.staged.parents ((d.id, key), e) (at_some slot_cmp slot_total same_slot (staged_for staged d.id) (d.id, key) e (own_at staged d.id key ∙ is)) up stands)

      -- the block with its dnode is staged
      dnode_there : is_some (staged_at staged (d.id, dnode_key object)) ≡ true
      dnode_there = above (record_key object 0) (dnode_key object) old found refl

      -- the root is staged
      root_there : is_some (staged_at staged (d.id, root_key)) ≡ true
      root_there =
          let dnode = something (staged_at staged (d.id, dnode_key object)) dnode_there in
          above (dnode_key object) root_key dnode.0 dnode.1 refl

      -- the blocks above it are staged
      above_there : with_above staged d.id object next ≡ staged
      above_there =
          let root : with_root staged d.id next ≡ staged = ap (λ (b : Bool). if b then staged else put_staged staged (d.id, root_key) (record { place = sector_at next; sectors = 8; fill = None })) root_there in
          ap (λ (l : List (Slot × Staging)). staged_once l (d.id, dnode_key object) (sector_at (after_root staged d.id next))) root
          ∙ ap (λ (b : Bool). if b then staged else put_staged staged (d.id, dnode_key object) (record { place = sector_at (after_root staged d.id next); sectors = 8; fill = None })) dnode_there

      -- nothing more is needed
      none_needed : next ≡ next + needed
      none_needed =
          let nothing : needed ≡ 0 = rw (root_there, dnode_there, found) refl in
          omega (arith, nothing)

      -- it is staged again at its place
      as_again : put_staged staged slot (record { place = old.place; sectors = old.sectors; fill = fill }) ≡ staged_again staged d.id object sectors fill next
      as_again =
          let place : place_or (staged_at (with_above staged d.id object next) slot) (sector_at (after_above staged d.id object next)) ≡ old.place =
          ap (λ (f : Option Staging). place_or f (sector_at (after_above staged d.id object next))) (other_above staged d.id object next ∙ found) in
          rw (place, above_there, same) refl

      -- the datasets stay as they are
      kept_again : Kept
      kept_again =
          let p : ArePlaced g n start next own.size d.id (put_staged staged slot (record { place = old.place; sectors = old.sectors; fill = fill })) =
          again_staged g n start next own.size d.id staged heads_id (record_key object 0) old fill (λ none. sym same ∙ eight none) placed found in
          let moved : ArePlaced g n start next own.size d.id (staged_again staged d.id object sectors fill next) =
          subst (λ (l : List (Slot × Staging)). ArePlaced g n start next own.size d.id l) as_again p in
          from_placed own.size (next + needed) (staged_again staged d.id object sectors fill next) own.formed
          (subst (λ (m : ℕ). ArePlaced g n start m own.size d.id (staged_again staged d.id object sectors fill next)) none_needed moved)

    -- it is staged again where it is staged; else the object's size is that of the record that is mapped
    written_by : (f : Option Staging) (b : Option Bp) → staged_at staged slot ≡ f → bp_at d.entries (record_key object 0) ≡ b → (is_some f || is_some b) ≡ true → sectors ≡ sectors_from f b → Kept
    written_by (Some old) b found mapped there is = kept_again old found is
    written_by None (Some bp) found mapped there is =
        let size : (bp.sectors ≡ own.size object) × (1 ≤ object) × (object ≤ 2047) = size_live own.size n object d.entries bp own.formed mapped in
        written_new (is ∙ size.0, size.1, size.2) found
    written_by None None found mapped there is = absurd (true≢false (sym there))

    -- the record of an object that has one, staged or mapped, is staged
    pub record_written : (is_some (staged_at staged slot) || is_some (bp_at d.entries (record_key object 0))) ≡ true
        → sectors ≡ sectors_from (staged_at staged slot) (bp_at d.entries (record_key object 0)) → Kept
    record_written there is = written_by (staged_at staged slot) (bp_at d.entries (record_key object 0)) refl refl there is
