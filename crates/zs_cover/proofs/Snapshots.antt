-- A snapshot that is taken of a head keeps coverage: the bookmark and the queue move from the head to the snapshot.
use Rattle.std.proofs.Common.{◌≡◌, ◌≢◌, ◌≤◌, min, ℕ, Bool, refl, sym, ap, subst, ◌∙◌, arith}
use Rattle.std.specs.Prelude.{Some, if◌then◌else◌}
use Rattle.std.proofs.lemmas.Bool.{true≢false}
use Rattle.zs_ids.specs.declared.key.Key.{Key}
use Rattle.zs_ids.specs.declared.block.Piece.{Piece}
use Rattle.zs_ids.specs.declared.dataset.DsId.{DsId}
use Rattle.zs_ids.specs.declared.dataset.Name.{Name}
use Rattle.zs_ids.specs.declared.dataset.TheConstants.DsId.{ORIGIN}
use Rattle.zs_ids.specs.Graph.{Has, Dataset, Graph}
use Rattle.zs_ids.specs.GraphTree.{IsParent, Above}
use Rattle.zs_ids.specs.GraphTree.Above.{direct, up}
use Rattle.zs_ids.specs.GraphValid.{origin, last_birth, IsValid}
use Rattle.zs_ids.specs.GraphChange.{MaySnapshot, with_snapshot, snapshot_of}
use Rattle.zs_phys.specs.declared.scope.Scope.{Scope}
use Rattle.zs_phys.specs.declared.phys.Phys.{Phys}
use Rattle.zs_phys.specs.declared.phys.At.TheVariants as ats
use Rattle.zs_phys.specs.declared.todos.Todo.{Todo}
use Rattle.zs_phys.specs.Handlers.{instead, snapshotted}
use Rattle.zs_phys.specs.Ahead.{pending, Ahead, Covers}
use Rattle.zs_phys.specs.Sound.{IsOfGraph, IsPass, EndsBy, Sound}
use Rattle.zs_phys.specs.Sound.EndsBy.{past, started, canceled}
use Rattle.zs_cover.specs.Laws.{IsCovered, StaysDone, SnapshotLaw}
use Rattle.zs_graph.proofs.Lists.{some_is, some≢none}
use Rattle.zs_graph.proofs.Graphs.{cases_id, one_dataset, ancestor}
use Rattle.zs_cover.proofs.States.{at≢nowhere, here-pending, queued-pending}
use Rattle.zs_graph.proofs.Births.{last_in_head}
use Rattle.zs_cover.proofs.CoversKept.{covers_kept}
use Rattle.zs_graph.proofs.Kept.{within_kept}
use Rattle.zs_cover.proofs.Renames.{IsRenamed, sound-renamed, ahead-renamed}
use Rattle.zs_graph.proofs.Places.{instead-is, instead-other}
use Rattle.zs_graph.proofs.SnapshotTree as tree
use mathlib.Core.Logic.{inl, inr}

-- a state at a dataset belongs to a scan whose scope has ended
pub ended : (h : ℕ) (scope : Scope) (s : Phys) (id : DsId) (k : Key) → s.at ≡ ats.Dataset id k → EndsBy h scope s → scope.max ≤ h
ended h scope s id k at (past by) = by
ended h scope s id k at (started now by todo) = absurd (at≢nowhere id k (sym at ∙ now))
ended h scope s id k at (canceled now by status) = absurd (at≢nowhere id k (sym at ∙ now))

module _ (g : Graph) (n h : ℕ) (early : n ≤ h) (valid : IsValid g n) (head : Dataset) (id : DsId) (label : Name) (may : MaySnapshot g head id label h) where
  abbrev new : Graph
  new = with_snapshot g head id label h

  abbrev snap : Dataset
  snap = snapshot_of head id label h

  abbrev place : DsId → DsId
  place x = instead head.id id x

  place-head : (x : DsId) → x ≡ head.id → place x ≡ id
  place-head x e = instead-is head.id id x e

  place-other : (x : DsId) → x ≢ head.id → place x ≡ x
  place-other x ne = instead-other head.id id x ne

  old_id : (x : DsId) → IsOfGraph g x → x ≢ id
  old_id x is e = tree.not_new g n h early valid head id label may is.dataset is.here (is.named ∙ e)

  head≢new : head.id ≢ id
  head≢new = tree.not_new g n h early valid head id label may head may.here

  -- a parent is a snapshot, and not the head
  parent≢head : (a c : DsId) → IsParent g a c → a ≢ head.id
  parent≢head a c p e = elim ((valid.tree).stands p.child p.here) [
    | inl o ↦ some≢none a (sym p.stands ∙ ap (λ (d : Dataset). d.parent) o)
    | inr s ↦ tree.not_head g n h early valid head id label may s.below s.here s.is_snapshot (some_is s.below.id a (sym s.is_parent ∙ p.stands) ∙ e)
  ]

  -- a parent stays a parent: what stood below the head is now also below the snapshot
  parent_stays : (a c : DsId) → IsParent g a c → IsParent new a (place c)
  parent_stays a c p = elim (cases_id (p.child).id head.id) [
    | inl e ↦ record { child = snap; here = tree.has_snap g n h early valid head id label may; named = sym (place-head c (sym p.named ∙ e)); stands = ap (λ (d : Dataset). d.parent) (sym (one_dataset g (valid.tree).in_order p.child head p.here may.here e)) ∙ p.stands }
    | inr ne ↦ record { child = p.child; here = tree.has_other g n h early valid head id label may p.child p.here ne; named = p.named ∙ sym (place-other c (λ e. ne (p.named ∙ e))); stands = p.stands }
  ]

  pub above_stays : (a c : DsId) → Above g a c → Above new (place a) (place c)
  above_stays a _ (direct c p) = direct (place c) (subst (λ (x : DsId). IsParent new x (place c)) (sym (place-other a (parent≢head a c p))) (parent_stays a c p))
  above_stays a _ (up c m p above) =
      up (place c) (place m) (subst (λ (x : DsId). IsParent new x (place c)) (sym (place-other m (parent≢head m c p))) (parent_stays m c p)) (above_stays a m above)

  -- above a dataset of the new graph stands what stood above it, where it is not the new snapshot
  above_was : (a c : DsId) → a ≢ id → Above new a c → Above g a (instead id head.id c)
  above_was a _ old (direct c p) = elim (tree.now g n h early valid head id label may p.child p.here) [
    | tree.is_snap e ↦ subst (λ (x : DsId). Above g a x) (sym (instead-is id head.id c (sym p.named ∙ ap (λ (d : Dataset). d.id) (sym e)))) (direct head.id (record { child = head; here = may.here; named = refl; stands = ap (λ (d : Dataset). d.parent) e ∙ p.stands }))
    | tree.is_above e ↦ absurd (old (sym (some_is id a (ap (λ (d : Dataset). d.parent) e ∙ p.stands))))
    | tree.is_other i ne ↦ subst (λ (x : DsId). Above g a x) (sym (instead-other id head.id c (λ e. tree.not_new g n h early valid head id label may p.child i (p.named ∙ e)))) (direct c (record { child = p.child; here = i; named = p.named; stands = p.stands }))
  ]
  above_was a _ old (up c m p above) = elim (tree.now g n h early valid head id label may p.child p.here) [
    | tree.is_snap e ↦ subst (λ (x : DsId). Above g a x) (sym (instead-is id head.id c (sym p.named ∙ ap (λ (d : Dataset). d.id) (sym e)))) (up head.id m (record { child = head; here = may.here; named = refl; stands = ap (λ (d : Dataset). d.parent) e ∙ p.stands }) (subst (λ (x : DsId). Above g a x) (middle (record { child = head; here = may.here; named = refl; stands = ap (λ (d : Dataset). d.parent) e ∙ p.stands })) (above_was a m old above)))
    | tree.is_above e ↦ let m_is : m ≡ id = sym (some_is id m (ap (λ (d : Dataset). d.parent) e ∙ p.stands)) in let c_is : c ≡ head.id = sym p.named ∙ ap (λ (d : Dataset). d.id) (sym e) in subst (λ (x : DsId). Above g a x) (instead-is id head.id m m_is ∙ sym c_is ∙ sym (instead-other id head.id c (λ x. head≢new (sym c_is ∙ x)))) (above_was a m old above)
    | tree.is_other i ne ↦ let q : IsParent g m c = record { child = p.child; here = i; named = p.named; stands = p.stands } in subst (λ (x : DsId). Above g a x) (sym (instead-other id head.id c (λ e. tree.not_new g n h early valid head id label may p.child i (p.named ∙ e)))) (up c m q (subst (λ (x : DsId). Above g a x) (middle q) (above_was a m old above)))
  ]
    where
      middle : {x : DsId} → IsParent g m x → instead id head.id m ≡ m
      middle q = instead-other id head.id m (λ e. tree.not_on_new g n h early valid head id label may q.child q.here (q.stands ∙ ap Some e))

  -- below the new snapshot stands the head alone
  below_new : (c : DsId) → Above new id c → c ≡ head.id
  below_new _ (direct c p) = elim (tree.now g n h early valid head id label may p.child p.here) [
    | tree.is_snap e ↦ absurd (tree.not_on_new g n h early valid head id label may head may.here (ap (λ (d : Dataset). d.parent) e ∙ p.stands))
    | tree.is_above e ↦ sym p.named ∙ ap (λ (d : Dataset). d.id) (sym e)
    | tree.is_other i ne ↦ absurd (tree.not_on_new g n h early valid head id label may p.child i p.stands)
  ]
  below_new _ (up c m p above) =
      let is : m ≡ head.id = below_new m above in
      let x = ancestor new h (tree.tree g n h early valid head id label may) m c (direct c p) in
      let same : x.0 ≡ tree.above_snap g n h early valid head id label may = one_dataset new (tree.tree g n h early valid head id label may).in_order x.0 (tree.above_snap g n h early valid head id label may) x.1 (tree.has_above g n h early valid head id label may) (x.2 ∙ is) in
      absurd (true≢false (sym may.is_head ∙ ap (λ (d : Dataset). d.head) (sym same) ∙ x.3))

  module _ (scope : Scope) (s : Phys) (sound : Sound g h scope s) where
    abbrev after : Phys
    after = snapshotted head.id id s

    renamed_by : IsRenamed (instead head.id id) s (snapshotted head.id id s)
    renamed_by = record { at = refl; todo = refl; status = refl; paused = refl; curmin = refl; curmax = refl; more = λ e. e; quiet = λ e. refl }

    -- what is pending is of the old graph
    old_pending : (a : DsId) → Has (pending s) a → a ≢ id
    old_pending a i = old_id a (sound.exist a i)

    -- the snapshot's own id is the place of the head alone
    new_place : (a : DsId) → Has (pending s) a → place a ≡ id → a ≡ head.id
    new_place a i e = elim (cases_id a head.id) [
      | inl is ↦ is
      | inr ne ↦ absurd (old_pending a i (sym (place-other a ne) ∙ e))
    ]

    places_differ : (a b : DsId) → Has (pending s) a → Has (pending s) b → place a ≡ place b → a ≡ b
    places_differ a b i j e = elim (cases_id a head.id) [
      | inl is ↦ is ∙ sym (new_place b j (sym e ∙ place-head a is))
      | inr ne ↦ elim (cases_id b head.id) [
        | inl is ↦ new_place a i (e ∙ place-head b is) ∙ sym is
        | inr nb ↦ sym (place-other a ne) ∙ e ∙ place-other b nb
      ]
    ]

    -- no place is above another
    unrelated : (a b : DsId) → Has (pending s) a → Has (pending s) b → Above new (place a) (place b) → ⊥
    unrelated a b i j above = elim (cases_id a head.id) [
      | inl is ↦ not_head (below_new (place b) (subst (λ (x : DsId). Above new x (place b)) (place-head a is) above))
      | inr ne ↦ sound.unrelated a b i j (subst (λ (x : DsId). Above g a x) back (above_was a (place b) (old_pending a i) (subst (λ (x : DsId). Above new x (place b)) (place-other a ne) above)))
    ]
      where
        not_head : place b ≡ head.id → ⊥
        not_head e = elim (cases_id b head.id) [ inl is ↦ head≢new (sym e ∙ place-head b is) | inr nb ↦ nb (sym (place-other b nb) ∙ e) ]

        back : instead id head.id (place b) ≡ b
        back = elim (cases_id b head.id) [
          | inl is ↦ instead-is id head.id (place b) (place-head b is) ∙ sym is
          | inr nb ↦ instead-other id head.id (place b) (λ e. old_pending b j (sym (place-other b nb) ∙ e)) ∙ place-other b nb
        ]

    -- an old id in the place of another is that one's own
    old_place : (x a : DsId) → x ≢ id → x ≡ place a → x ≡ a
    old_place x a old e = elim (cases_id a head.id) [
      | inl is ↦ absurd (old (e ∙ place-head a is))
      | inr ne ↦ e ∙ place-other a ne
    ]

    mins : (q : Todo) → Has s.todo q → (d : Dataset) → Has new d → d.id ≡ place q.id → q.min ≤ last_birth d h
    mins q i d hd name = elim (tree.now g n h early valid head id label may d hd) [
      | tree.is_snap e ↦ subst (λ (x : Dataset). q.min ≤ last_birth x h) e (at_head (sym (new_place q.id (queued-pending s q i) (sym name ∙ ap (λ (x : Dataset). x.id) (sym e)))))
      | tree.is_above e ↦ subst (λ (x : Dataset). q.min ≤ last_birth x h) e (sound.mins q i head may.here (old_place head.id q.id head≢new (ap (λ (x : Dataset). x.id) e ∙ name)))
      | tree.is_other j ne ↦ sound.mins q i d j (old_place d.id q.id (tree.not_new g n h early valid head id label may d j) name)
    ]
      where
        at_head : head.id ≡ q.id → q.min ≤ h
        at_head e = subst (λ (k : ℕ). q.min ≤ k) (last_in_head head h may.is_head) (sound.mins q i head may.here e)

    pass : (d : Dataset) (a : DsId) (k : Key) → Has new d → s.at ≡ ats.Dataset a k → place a ≡ d.id → IsPass scope (snapshotted head.id id s) d
    pass d a k hd at name = elim (tree.now g n h early valid head id label may d hd) [
      | tree.is_snap e ↦ subst (λ (x : Dataset). IsPass scope (snapshotted head.id id s) x) e (of_snapshot (new_place a (here-pending s a k at) (name ∙ ap (λ (x : Dataset). x.id) (sym e))))
      | tree.is_above e ↦ subst (λ (x : Dataset). IsPass scope (snapshotted head.id id s) x) e (let p = of_old head may.here (old_place head.id a head≢new (ap (λ (x : Dataset). x.id) e ∙ sym name)) in record { in_range = p.in_range; in_snapshot = p.in_snapshot; whole = p.whole })
      | tree.is_other j ne ↦ let p = of_old d j (old_place d.id a (tree.not_new g n h early valid head id label may d j) (sym name)) in record { in_range = p.in_range; in_snapshot = p.in_snapshot; whole = p.whole }
    ]
      where
        of_old : (c : Dataset) → Has g c → c.id ≡ a → IsPass scope s c
        of_old c i e = sound.pass c k i (at ∙ ap (λ (x : DsId). ats.Dataset x k) (sym e))

        of_snapshot : a ≡ head.id → IsPass scope (snapshotted head.id id s) snap
        of_snapshot e =
            let p = of_old head may.here (sym e) in
            let by : scope.max ≤ h = ended h scope s a k at sound.ends in
            let high : s.curmax ≤ scope.max = p.in_range in
            record {
              in_range = high;
              in_snapshot = λ off. omega (arith, high, by);
              whole = λ off. let w : s.curmax ≡ scope.max = p.whole off ∙ ap (λ (b : Bool). if b then scope.max else min scope.max head.creation) may.is_head in omega (arith, w, by);
            }

    root_stays : place ORIGIN ≡ ORIGIN
    root_stays = place-other ORIGIN (tree.not_head g n h early valid head id label may origin (valid.tree).root refl)

    exist : (a : DsId) → Has (pending s) a → IsOfGraph g a → IsOfGraph new (place a)
    exist a i o = elim (cases_id a head.id) [
      | inl is ↦ record { dataset = snap; here = tree.has_snap g n h early valid head id label may; named = sym (place-head a is) }
      | inr ne ↦ record { dataset = o.dataset; here = tree.has_other g n h early valid head id label may o.dataset o.here (λ e. ne (sym o.named ∙ e)); named = o.named ∙ sym (place-other a ne) }
    ]

    pub sound_after : Sound new h scope (snapshotted head.id id s)
    sound_after = sound-renamed g new h scope (instead head.id id) s (snapshotted head.id id s) sound renamed_by (record { exist = exist; two = places_differ; unrelated = unrelated; mins = mins; root = root_stays; pass = pass })

    pub covers_after : (done more : Piece → Bool) → Covers g scope s done → StaysDone new done more → Covers new scope (snapshotted head.id id s) more
    covers_after done more covers stays =
        covers_kept g new scope s (snapshotted head.id id s) done more covers refl stays (λ x e p home piece in_range claim. let was = tree.was_home g n h early valid head id label may x e home in (was.holder, was.home, λ ahead. subst (λ (y : DsId). Ahead new (snapshotted head.id id s) y e) (sym was.placed) (ahead-renamed (instead head.id id) s (snapshotted head.id id s) renamed_by g new was.holder.id e (λ a i above. above_stays a was.holder.id above) ahead)))

-- the law of the snapshot
pub snapshot_keeps : SnapshotLaw
snapshot_keeps room g n h scope s t done more head id label covered may handled stays =
    let valid = (covered.valid).graph in
    subst (λ (x : Phys). IsCovered room (with_snapshot g head id label h) h h scope x more) (sym handled) (record {
      early = omega arith;
      valid = record { graph = tree.new_valid g n h covered.early valid head id label may; within = within_kept room g (with_snapshot g head id label h) (tree.holds g n h covered.early valid head id label may) (covered.valid).within };
      sound = sound_after g n h covered.early valid head id label may scope s covered.sound;
      covers = covers_after g n h covered.early valid head id label may scope s covered.sound done more covered.covers stays;
    })
