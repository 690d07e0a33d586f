-- Blocks that are applied to a head keep coverage: they are born too late to be in scope, or all is still to be walked.
use Rattle.std.proofs.Common.{◌≡◌, ◌<◌, ◌≤◌, ℕ, Bool, List, ◌++◌, refl, sym, ap, subst, ◌∙◌, arith}
use Rattle.std.specs.Prelude.{IsTrue}
use Rattle.std.proofs.lemmas.Bool.{true≢false}
use Rattle.zs_ids.specs.declared.key.Key.{Key}
use Rattle.zs_ids.specs.declared.block.Bp.{Bp}
use Rattle.zs_ids.specs.declared.block.Piece.{Piece}
use Rattle.zs_ids.specs.declared.dataset.DsId.{DsId}
use Rattle.zs_ids.specs.declared.dataset.TheConstants.DsId.{ORIGIN}
use Rattle.zs_ids.specs.Graph.{Has, Dataset, Graph, pieces_of}
use Rattle.zs_ids.specs.GraphTree.{IsHome}
use Rattle.zs_ids.specs.GraphValid.{IsValid, Room}
use Rattle.zs_ids.specs.GraphChange.{MayApply, applied}
use Rattle.zs_phys.specs.declared.scope.Scope.{Scope}
use Rattle.zs_phys.specs.declared.phys.Phys.{Phys}
use Rattle.zs_phys.specs.declared.phys.At.{At}
use Rattle.zs_phys.specs.declared.phys.At.TheVariants.{Nowhere}
use Rattle.zs_phys.specs.Scope.{in_scope}
use Rattle.zs_graph.proofs.Graphs.{cases_id}
use Rattle.zs_phys.specs.declared.todos.Todo.{Todo}
use Rattle.zs_phys.specs.Ahead.{ids_at, Ahead, Covers, claims}
use Rattle.zs_phys.specs.Ahead.Ahead.{later}
use Rattle.zs_phys.specs.Sound.{IsOfGraph, EndsBy, Sound, first_todo}
use Rattle.zs_phys.specs.Sound.EndsBy.{past, started, canceled}
use Rattle.zs_cover.specs.Laws.{StaysDone, ApplyLaw}
use Rattle.zs_graph.proofs.Homes.{piece_birth, below_origin, origin_empty}
use Rattle.zs_cover.proofs.Scopes.{scope_range}
use Rattle.zs_cover.proofs.States.{ids}
use Rattle.zs_cover.proofs.CoversKept.{covers_kept}
use Rattle.zs_cover.proofs.Stays.{above_stays, ahead_stays, sound_stays}
use Rattle.zs_graph.proofs.ApplyTree as tree
use mathlib.Core.Logic.{inl, inr}

module _ (room : Room) (g : Graph) (n h : ℕ) (early : n ≤ h) (valid : IsValid g n) (head : Dataset) (changes : List (Key × Bp)) (may : MayApply room g head changes h) (scope : Scope) (s : Phys) (sound : Sound g h scope s) where
  abbrev new : Graph
  new = applied g head changes

  pub sound_after : Sound new h scope s
  sound_after =
      sound_stays g new h scope s sound (λ id i o. exist id o) (λ a b i j above. above_stays new g (tree.parent_was g n h h early (omega arith) valid head changes may.put) a b above) (λ d hd i. let w = tree.was g n h h early (omega arith) valid head changes may.put d hd in record { old = w.old; here = w.here; id = sym w.id; head = w.head; creation = w.creation })
    where
      exist : (id : DsId) → IsOfGraph g id → IsOfGraph new id
      exist id o = elim (cases_id (o.dataset).id head.id) [
        | inl e ↦ record { dataset = tree.head_with g n h h early (omega arith) valid head changes may.put; here = tree.has_head g n h h early (omega arith) valid head changes may.put; named = sym e ∙ o.named }
        | inr ne ↦ record { dataset = o.dataset; here = tree.has_other g n h h early (omega arith) valid head changes may.put o.dataset o.here ne; named = o.named }
      ]

  -- a block born in h is out of a scope that ends by h
  too_late : scope.max ≤ h → (e : Key × Bp) (p : Piece) → Has (pieces_of e.1) p → IsTrue (in_scope scope p) → e.1.birth ≡ h → ⊥
  too_late by e p piece in_range born =
      let before : p.birth < scope.max = (scope_range scope p in_range).1 in
      let same : p.birth ≡ e.1.birth = piece_birth e.1 p piece in
      omega (arith, by, before, same, born)

  -- where the walk has only the origin in its queue, all is later
  all_later : s.at ≡ Nowhere → s.todo ≡ first_todo → (x : Dataset) (e : Key × Bp) → IsHome new x e → Ahead new s x.id e
  all_later at todo x e home = elim (below_origin new h (tree.tree g n h h early (omega arith) valid head changes may.put) x home.here) [
    | inl o ↦ absurd (origin_empty new h (tree.tree g n h h early (omega arith) valid head changes may.put) x e home o)
    | inr above ↦ later (record { ancestor = ORIGIN; is_pending = subst (λ (a : At). Has (ids_at a ++ ids s.todo) ORIGIN) (sym at) (subst (λ (l : List Todo). Has (ids l) ORIGIN) (sym todo) (inl refl)); above = above })
  ]

  pub covers_after : (done more : Piece → Bool) → Covers g scope s done → StaysDone new done more → Covers new scope s more
  covers_after done more covers stays = go sound.ends
    where
      go : EndsBy h scope s → Covers new scope s more
      go (past by) =
          covers_kept g new scope s s done more covers refl stays (λ x e p home piece in_range claim. elim (tree.was_home g n h h early (omega arith) valid head changes may.put x e home) [
            | inl born ↦ absurd (too_late by e p piece in_range born)
            | inr w ↦ (w.0, w.1, λ ahead. subst (λ (y : DsId). Ahead new s y e) w.2 (ahead_stays g new s (w.0).id e (λ a above. above_stays g new (tree.parent_stays g n h h early (omega arith) valid head changes may.put) a (w.0).id above) ahead))
          ])
      go (started at by todo) = record { covered = λ claim d e p home piece in_range. inr (all_later at todo d e home) }
      go (canceled at by status) = record { covered = λ claim d e p home piece in_range. absurd (true≢false (sym claim ∙ ap claims status)) }

-- the law of applied blocks
pub apply_keeps : ApplyLaw
apply_keeps room g n h scope s done more head changes covered may stays =
    let valid = (covered.valid).graph in
    record {
      early = omega arith;
      valid = record { graph = tree.new_valid g n h h covered.early (omega arith) valid head changes may.put; within = may.within };
      sound = sound_after room g n h covered.early valid head changes may scope s covered.sound;
      covers = covers_after room g n h covered.early valid head changes may scope s covered.sound done more covered.covers stays;
    }
