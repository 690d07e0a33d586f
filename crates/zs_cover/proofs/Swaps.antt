-- Two heads that are swapped keep coverage: but for names, all stays.
use Rattle.std.proofs.Common.{◌≡◌, ◌≢◌, ◌≤◌, min, ℕ, Bool, true, refl, sym, ap, subst, ◌∙◌, arith}
use Rattle.std.specs.Prelude.{if◌then◌else◌}
use Rattle.std.proofs.lemmas.Bool.{true≢false}
use Rattle.zs_ids.specs.declared.key.Key.{Key}
use Rattle.zs_ids.specs.declared.block.Piece.{Piece}
use Rattle.zs_ids.specs.declared.dataset.DsId.{DsId}
use Rattle.zs_ids.specs.declared.dataset.TheConstants.DsId.{ORIGIN}
use Rattle.zs_ids.specs.Graph.{Has, Dataset, Graph}
use Rattle.zs_ids.specs.GraphTree.{Above}
use Rattle.zs_ids.specs.GraphTree.Above.{direct, up}
use Rattle.zs_ids.specs.GraphValid.{origin, last_birth, IsValid}
use Rattle.zs_ids.specs.GraphChange.{MaySwap, swapped}
use Rattle.zs_phys.specs.declared.scope.Scope.{Scope}
use Rattle.zs_phys.specs.declared.phys.Phys.{Phys}
use Rattle.zs_phys.specs.declared.phys.At.TheVariants as ats
use Rattle.zs_phys.specs.declared.todos.Todo.{Todo}
use Rattle.zs_phys.specs.Handlers.{exchanged, with_places}
use Rattle.zs_phys.specs.Ahead.{pending, Ahead, Covers}
use Rattle.zs_phys.specs.Sound.{IsOfGraph, IsPass, Sound}
use Rattle.zs_cover.specs.Laws.{IsCovered, StaysDone, SwapLaw}
use Rattle.zs_graph.proofs.Graphs.{cases_id, one_dataset, ancestor, parent_is}
use Rattle.zs_graph.proofs.Births.{last_in_head}
use Rattle.zs_cover.proofs.CoversKept.{covers_kept}
use Rattle.zs_graph.proofs.Kept.{within_kept, last_same}
use Rattle.zs_cover.proofs.Stays
use Rattle.zs_cover.proofs.Renames.{IsRenamed, sound-renamed, ahead-renamed}
use Rattle.zs_graph.proofs.Places.{exchanged-first, exchanged-second, exchanged-other}
use Rattle.zs_graph.proofs.SwapTree as tree
use mathlib.Core.Logic.{inl, inr}

module _ (g : Graph) (n h : ℕ) (early : n ≤ h) (valid : IsValid g n) (a b : Dataset) (may : MaySwap g a b) where
  abbrev new : Graph
  new = swapped g a b

  abbrev place : DsId → DsId
  place x = exchanged a.id b.id x

  -- where an id stands: it is one of the two, or another one
  data Which (x : DsId) : Type 0 where
    one : x ≡ a.id → place x ≡ b.id → Which x
    two : x ≡ b.id → place x ≡ a.id → Which x
    other : x ≢ a.id → x ≢ b.id → place x ≡ x → Which x

  which : (x : DsId) → Which x
  which x = elim (cases_id x a.id) [
    | inl e ↦ one e (exchanged-first a.id b.id x e)
    | inr na ↦ elim (cases_id x b.id) [
      | inl e ↦ two e (exchanged-second a.id b.id x na e)
      | inr nb ↦ other na nb (exchanged-other a.id b.id x na nb)
    ]
  ]

  back : (x : DsId) → place (place x) ≡ x
  back x = elim (which x) [
    | one e p ↦ exchanged-second a.id b.id (place x) (λ z. may.two (sym z ∙ p)) p ∙ sym e
    | two e p ↦ exchanged-first a.id b.id (place x) p ∙ sym e
    | other na nb p ↦ ap place p ∙ p
  ]

  -- a strict ancestor is a snapshot, and so none of the two
  not_above : (x c : DsId) → Above g x c → (x ≢ a.id) × (x ≢ b.id)
  not_above x c above =
      let y = ancestor g n valid.tree x c above in
      (λ e. tree.not_first g n h early valid a b may y.0 y.1 y.3 (y.2 ∙ e), λ e. tree.not_second g n h early valid a b may y.0 y.1 y.3 (y.2 ∙ e))

  -- what stands above one of two siblings stands above the other
  above_sibling : (c d : Dataset) → Has g c → Has g d → c.parent ≡ d.parent → (x : DsId) → Above g x c.id → Above g x d.id
  above_sibling c d hc hd same x above = go c.id refl above
    where
      go : (y : DsId) → c.id ≡ y → Above g x y → Above g x d.id
      go _ is (direct y p) = direct d.id (record { child = d; here = hd; named = refl; stands = sym same ∙ parent_is g n valid.tree x y p c hc is })
      go _ is (up y m p rest) = up d.id m (record { child = d; here = hd; named = refl; stands = sym same ∙ parent_is g n valid.tree m y p c hc is }) rest

  -- what stands above an id stands above its place
  above_place : (x c : DsId) → Above g x c → Above g x (place c)
  above_place x c above = elim (which c) [
    | one e p ↦ subst (λ (y : DsId). Above g x y) (sym p) (above_sibling a b may.first may.second may.siblings x (subst (λ (y : DsId). Above g x y) e above))
    | two e p ↦ subst (λ (y : DsId). Above g x y) (sym p) (above_sibling b a may.second may.first (sym may.siblings) x (subst (λ (y : DsId). Above g x y) e above))
    | other na nb p ↦ subst (λ (y : DsId). Above g x y) (sym p) above
  ]

  pub above_renamed : (x c : DsId) → Above g x c → Above new (place x) (place c)
  above_renamed x c above =
      let ne = not_above x c above in
      subst (λ (y : DsId). Above new y (place c)) (sym (exchanged-other a.id b.id x ne.0 ne.1)) (Stays.above_stays g new (tree.parent_stays g n h early valid a b may) x (place c) (above_place x c above))

  module _ (scope : Scope) (s : Phys) (sound : Sound g h scope s) where
    renamed_by : IsRenamed (exchanged a.id b.id) s (with_places (exchanged a.id b.id) s)
    renamed_by = record { at = refl; todo = refl; status = refl; paused = refl; curmin = refl; curmax = refl; more = λ e. e; quiet = λ e. refl }

    exist : (x : DsId) → Has (pending s) x → IsOfGraph g x → IsOfGraph new (place x)
    exist x i o = elim (which x) [
      | one e p ↦ record { dataset = tree.second g n h early valid a b may; here = tree.has_second g n h early valid a b may; named = sym p }
      | two e p ↦ record { dataset = tree.first g n h early valid a b may; here = tree.has_first g n h early valid a b may; named = sym p }
      | other na nb p ↦ record { dataset = o.dataset; here = tree.has_other g n h early valid a b may o.dataset o.here (λ e. na (sym o.named ∙ e)) (λ e. nb (sym o.named ∙ e)); named = o.named ∙ sym p }
    ]

    differ : (x y : DsId) → Has (pending s) x → Has (pending s) y → place x ≡ place y → x ≡ y
    differ x y i j e = sym (back x) ∙ ap place e ∙ back y

    unrelated : (x y : DsId) → Has (pending s) x → Has (pending s) y → Above new (place x) (place y) → ⊥
    unrelated x y i j above =
        let was : Above g (place x) (place y) = Stays.above_stays new g (tree.parent_was g n h early valid a b may) (place x) (place y) above in
        let ne = not_above (place x) (place y) was in
        let own : place x ≡ x = sym (exchanged-other a.id b.id (place x) ne.0 ne.1) ∙ back x in
        sound.unrelated x y i j (subst (λ (z : DsId). Above g x z) (back y) (above_place x (place y) (subst (λ (z : DsId). Above g z (place y)) own was)))

    -- a head with the place of another head
    head_min : (c d : Dataset) (q : Todo) → Has s.todo q → Has g c → c.id ≡ q.id → c.head ≡ true → d.head ≡ true → q.min ≤ last_birth d h
    head_min c d q i hc name head_c head_d =
        let low : q.min ≤ last_birth c h = sound.mins q i c hc name in
        let e : last_birth c h ≡ h = last_in_head c h head_c in
        let f : last_birth d h ≡ h = last_in_head d h head_d in
        omega (arith, low, e, f)

    mins : (q : Todo) → Has s.todo q → (d : Dataset) → Has new d → d.id ≡ place q.id → q.min ≤ last_birth d h
    mins q i d hd name =
        let w = tree.was g n h early valid a b may d hd in
        elim (which q.id) [
          | one e p ↦ head_min a d q i may.first (sym e) may.first_head (w.head ∙ ap (λ (x : Dataset). x.head) (one_dataset g (valid.tree).in_order w.old b w.here may.second (sym w.id ∙ name ∙ p)) ∙ may.second_head)
          | two e p ↦ head_min b d q i may.second (sym e) may.second_head (w.head ∙ ap (λ (x : Dataset). x.head) (one_dataset g (valid.tree).in_order w.old a w.here may.first (sym w.id ∙ name ∙ p)) ∙ may.first_head)
          | other na nb p ↦
              let low : q.min ≤ last_birth w.old h = sound.mins q i w.old w.here (sym w.id ∙ name ∙ p) in
              let le : last_birth w.old h ≤ last_birth d h = last_same d w.old h h w.head w.creation (omega arith) in
              omega (arith, low, le)
        ]

    head_pass : (c d : Dataset) (k : Key) → Has g c → s.at ≡ ats.Dataset c.id k → c.head ≡ true → d.head ≡ true → IsPass scope (with_places (exchanged a.id b.id) s) d
    head_pass c d k hc at head_c head_d =
        let p = sound.pass c k hc at in
        record { in_range = p.in_range; in_snapshot = λ off. absurd (true≢false (sym head_d ∙ off)); whole = λ off. p.whole off ∙ ap (λ (t : Bool). if t then scope.max else min scope.max c.creation) head_c ∙ sym (ap (λ (t : Bool). if t then scope.max else min scope.max d.creation) head_d) }

    pass : (d : Dataset) (x : DsId) (k : Key) → Has new d → s.at ≡ ats.Dataset x k → place x ≡ d.id → IsPass scope (with_places (exchanged a.id b.id) s) d
    pass d x k hd at name =
        let w = tree.was g n h early valid a b may d hd in
        elim (which x) [
          | one e p ↦ head_pass a d k may.first (at ∙ ap (λ (y : DsId). ats.Dataset y k) e) may.first_head (w.head ∙ ap (λ (y : Dataset). y.head) (one_dataset g (valid.tree).in_order w.old b w.here may.second (sym w.id ∙ sym name ∙ p)) ∙ may.second_head)
          | two e p ↦ head_pass b d k may.second (at ∙ ap (λ (y : DsId). ats.Dataset y k) e) may.second_head (w.head ∙ ap (λ (y : Dataset). y.head) (one_dataset g (valid.tree).in_order w.old a w.here may.first (sym w.id ∙ sym name ∙ p)) ∙ may.first_head)
          | other na nb p ↦
              let q = sound.pass w.old k w.here (at ∙ ap (λ (y : DsId). ats.Dataset y k) (sym p ∙ name ∙ w.id)) in
              record { in_range = q.in_range; in_snapshot = λ off. subst (λ (z : ℕ). s.curmax ≤ z) (sym w.creation) (q.in_snapshot (sym w.head ∙ off)); whole = λ off. q.whole off ∙ sym (ap (λ (t : Bool). if t then scope.max else min scope.max d.creation) w.head ∙ ap (λ (z : ℕ). if (w.old).head then scope.max else min scope.max z) w.creation) }
        ]

    root : place ORIGIN ≡ ORIGIN
    root = exchanged-other a.id b.id ORIGIN (tree.not_first g n h early valid a b may origin (valid.tree).root refl) (tree.not_second g n h early valid a b may origin (valid.tree).root refl)

    pub sound_after : Sound new h scope (with_places (exchanged a.id b.id) s)
    sound_after = sound-renamed g new h scope (exchanged a.id b.id) s (with_places (exchanged a.id b.id) s) sound renamed_by (record { exist = exist; two = differ; unrelated = unrelated; mins = mins; root = root; pass = pass })

    pub covers_after : (done more : Piece → Bool) → Covers g scope s done → StaysDone new done more → Covers new scope (with_places (exchanged a.id b.id) s) more
    covers_after done more covers stays =
        covers_kept g new scope s (with_places (exchanged a.id b.id) s) done more covers refl stays (λ x e p home piece in_range claim. let w = tree.was_home g n h early valid a b may x e home in (w.holder, w.home, λ ahead. subst (λ (y : DsId). Ahead new (with_places (exchanged a.id b.id) s) y e) (sym w.placed) (ahead-renamed (exchanged a.id b.id) s (with_places (exchanged a.id b.id) s) renamed_by g new (w.holder).id e (λ c i above. above_renamed c (w.holder).id above) ahead)))

-- the law of the swap
pub swap_keeps : SwapLaw
swap_keeps room g n h scope s t done more a b covered may handled stays =
    let valid = (covered.valid).graph in
    subst (λ (x : Phys). IsCovered room (swapped g a b) h h scope x more) (sym handled) (record {
      early = omega arith;
      valid = record { graph = tree.new_valid g n h covered.early valid a b may; within = within_kept room g (swapped g a b) (tree.holds g n h covered.early valid a b may) (covered.valid).within };
      sound = sound_after g n h covered.early valid a b may scope s covered.sound;
      covers = covers_after g n h covered.early valid a b may scope s covered.sound done more covered.covers stays;
    })
