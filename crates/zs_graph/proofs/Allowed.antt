-- What may be done where no refusal stands.
use Rattle.std.proofs.Common.{◌≡◌, ◌≢◌, ◌<◌, ◌≤◌, ◌&&◌, ◌==◌, ℕ, Bool, true, false, not, List, [], ◌∷◌, length, Option, refl, sym, subst, ◌∙◌, arith}
use Rattle.std.specs.Prelude.{Some, None, if◌then◌else◌, IsTrue}
use Rattle.std.specs.Cmp.Lexicographic.{pointwise}
use Rattle.std.proofs.lemmas.Bool.{true≢false, or_parts, eq-eqb, eqb-false}
use Rattle.zs_ids.specs.declared.dataset.DsId.{DsId}
use Rattle.zs_ids.specs.declared.dataset.Name.{Name}
use Rattle.zs_ids.specs.declared.limits.TheConstants.{DATASETS}
use Rattle.zs_ids.specs.Graph.{Has, Dataset, Graph}
use Rattle.zs_ids.specs.GraphTree.{is_id, dataset_at, start_of, same_name}
use Rattle.zs_ids.specs.GraphValid.{origin}
use Rattle.zs_ids.specs.GraphChange.{MayClone, MaySnapshot}
use Rattle.zs_graph.specs.declared.fault.GraphFault.{GraphFault}
use Rattle.zs_graph.specs.declared.fault.GraphFault.TheVariants.{Exists, NotHead, NotSnapshot, SameTxg, TooMany}
use Rattle.zs_graph.specs.View.{GraphView, IsGraph}
use Rattle.zs_graph.specs.Refusals.{has_head_named, has_snapshot_named, is_full, if_full, fs_refusal, clone_refusal, snapshot_refusal}
use Rattle.zs_graph.proofs.Lists.{from-find, some≢none}
use Rattle.zs_graph.proofs.Seen.{none_passes}

-- a reason that does not hold, and those behind it
pub unless : (b : Bool) (why : GraphFault) (rest : Option GraphFault) → (if b then Some why else rest) ≡ None → (b ≡ false) × (rest ≡ None)
unless true why rest e = absurd (some≢none why e)
unless false why rest e = (refl, e)

-- a name is itself
bytes_same : (xs : List ℕ) → pointwise ◌==◌ xs xs ≡ true
bytes_same [] = refl
bytes_same (x ∷ xs) = subst (λ (b : Bool). (b && pointwise ◌==◌ xs xs) ≡ true) (sym (eq-eqb x x refl)) (bytes_same xs)

pub names_same : (a b : Name) → a ≡ b → same_name a b ≡ true
names_same a b e = subst (λ (x : Name). same_name a x ≡ true) e (subst (λ (t : Bool). (t && pointwise ◌==◌ a.bytes a.bytes) ≡ true) (sym (eq-eqb a.len a.len refl)) (bytes_same a.bytes))

-- where no head has a name, it is free
pub free_head : (g : Graph) (name : Name) → has_head_named g name ≡ false → (d : Dataset) → Has g d → d.head ≡ true → d.owner ≢ name
free_head g name none d h is e =
    let fails = none_passes (λ (x : Dataset). x.head && same_name x.owner name) g none d h in
    true≢false (sym (subst (λ (t : Bool). (t && same_name d.owner name) ≡ true) (sym is) (names_same d.owner name e)) ∙ fails)

pub free_snapshot : (g : Graph) (owner label : Name) → has_snapshot_named g owner label ≡ false → (d : Dataset) → Has g d → d.head ≡ false → d.owner ≡ owner → d.label ≢ label
free_snapshot g owner label none d h is own e =
    let fails = none_passes (λ (x : Dataset). not x.head && (same_name x.owner owner && same_name x.label label)) g none d h in
    let passes : (not d.head && (same_name d.owner owner && same_name d.label label)) ≡ true =
    subst (λ (t : Bool). (not t && (same_name d.owner owner && same_name d.label label)) ≡ true) (sym is) (subst (λ (t : Bool). (t && same_name d.label label) ≡ true) (sym (names_same d.owner owner own)) (names_same d.label label e)) in
    true≢false (sym passes ∙ fails)

module _ (v : GraphView) (facts : IsGraph v) where
  -- there is room for one more
  pub has_room : is_full v ≡ false → (length v.sets < 255) × (v.next ≢ 4294967295)
  has_room e =
      let p = or_parts (length v.sets == DATASETS) (v.next == 4294967295) e in
      let few : length v.sets ≤ 255 = facts.valid.tree.few in
      let other : length v.sets ≢ 255 = eqb-false (length v.sets) 255 p.0 in
      (omega (arith, few, other), eqb-false v.next 4294967295 p.1)

  full_none : if_full v ≡ None → is_full v ≡ false
  full_none e = (unless (is_full v) TooMany None e).0

  pub is_new : (id : DsId) → id.0 ≡ v.next → (d : Dataset) → Has v.sets d → d.id.0 < id.0
  is_new id is d h = let b : d.id.0 < v.next = facts.below d h in omega (arith, b, is)

  -- a filesystem
  pub fs_allowed : (id : DsId) (name : Name) → id.0 ≡ v.next → fs_refusal v name ≡ None → MayClone v.sets origin id name × (v.next ≢ 4294967295)
  fs_allowed id name is none =
      let a = unless (has_head_named v.sets name) Exists (if_full v) none in
      let room = has_room (full_none a.1) in
      (record { here = facts.valid.tree.root; is_snapshot = refl; free = free_head v.sets name a.0; fresh = is_new id is; room = room.0 }, room.1)

  -- what stands at an id has it
  pub found_at : (id : DsId) (d : Dataset) → dataset_at v.sets id ≡ Some d → Has v.sets d × IsTrue (is_id d.id id)
  found_at id d at = from-find (λ (x : Dataset). is_id x.id id) v.sets d at

  -- a clone
  pub clone_allowed : (snap : DsId) (on : Dataset) (id : DsId) (name : Name) → dataset_at v.sets snap ≡ Some on → id.0 ≡ v.next → clone_refusal v snap name ≡ None → MayClone v.sets on id name × (v.next ≢ 4294967295)
  clone_allowed snap on id name at is none =
      let step : (if has_head_named v.sets name then Some Exists else (if on.head then Some NotSnapshot else if_full v)) ≡ None = rw at at none in
      let a = unless (has_head_named v.sets name) Exists (if on.head then Some NotSnapshot else if_full v) step in
      let b = unless on.head NotSnapshot (if_full v) a.1 in
      let room = has_room (full_none b.1) in
      (record { here = (found_at snap on at).0; is_snapshot = b.0; free = free_head v.sets name a.0; fresh = is_new id is; room = room.0 }, room.1)

  -- a snapshot
  pub snapshot_allowed : (head : DsId) (of : Dataset) (id : DsId) (label : Name) (t : ℕ) → dataset_at v.sets head ≡ Some of → id.0 ≡ v.next → snapshot_refusal v head label t ≡ None → MaySnapshot v.sets of id label t × (v.next ≢ 4294967295)
  snapshot_allowed head of id label t at is none =
      let last : Option GraphFault = if start_of v.sets of.parent == t then Some SameTxg else if_full v in
      let next : Option GraphFault = if not of.head then Some NotHead else last in
      let step : (if has_snapshot_named v.sets of.owner label then Some Exists else next) ≡ None = rw at at none in
      let a = unless (has_snapshot_named v.sets of.owner label) Exists next step in
      let b = unless (not of.head) NotHead last a.1 in
      let c = unless (start_of v.sets of.parent == t) SameTxg (if_full v) b.1 in
      let room = has_room (full_none c.1) in
      (record { here = (found_at head of at).0; is_head = not_not of.head b.0; free = free_snapshot v.sets of.owner label a.0; other_txg = eqb-false (start_of v.sets of.parent) t c.0; fresh = is_new id is; room = room.0 }, room.1)
    where
      not_not : (b : Bool) → not b ≡ false → b ≡ true
      not_not true e = refl
      not_not false e = absurd (true≢false e)

-- the last reason not to take a snapshot, where no other holds
pub snapshot_is : (v : GraphView) (head : DsId) (label : Name) (t : ℕ) (of : Dataset) → dataset_at v.sets head ≡ Some of → has_snapshot_named v.sets of.owner label ≡ false → of.head ≡ true → (start_of v.sets of.parent == t) ≡ false → snapshot_refusal v head label t ≡ if_full v
snapshot_is v head label t of at free is_head other = rw (at, free, is_head, other) refl
