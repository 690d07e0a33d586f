-- A scan at rest: it has done all, it may finish, and it stays covering later.
use Rattle.std.proofs.Common.{◌≡◌, ◌≤◌, ℕ, Bool, true, false, List, [], ◌++◌, refl, sym, subst, ◌∙◌, arith}
use Rattle.std.specs.Prelude.{IsTrue, if◌then◌else◌}
use Rattle.zs_ids.specs.declared.key.Key.{Key}
use Rattle.zs_ids.specs.declared.block.Bp.{Bp}
use Rattle.zs_ids.specs.declared.dataset.DsId.{DsId}
use Rattle.zs_ids.specs.Graph.{Has, Dataset, Graph}
use Rattle.zs_ids.specs.GraphValid.{last_birth}
use Rattle.zs_phys.specs.declared.scope.Scope.{Scope}
use Rattle.zs_phys.specs.declared.phys.Phys.{Phys}
use Rattle.zs_phys.specs.declared.phys.At.{At}
use Rattle.zs_phys.specs.declared.phys.At.TheVariants.{Nowhere}
use Rattle.zs_phys.specs.declared.phys.Status.TheVariants.{Never, Scanning, Finished, Canceled}
use Rattle.zs_phys.specs.declared.todos.Todo.{Todo}
use Rattle.zs_phys.specs.Ahead.{Ahead, claims, ids_at}
use Rattle.zs_phys.specs.Ahead.Ahead.{later, queued, passing, again}
use Rattle.zs_phys.specs.Sound.{Sound, EndsBy, IsAtRest, first_todo}
use Rattle.zs_phys.specs.Sound.EndsBy.{past, started, canceled}
use Rattle.zs_cover.specs.Laws.{RestLaw, LaterLaw, EndLaw}
use Rattle.zs_cover.proofs.Climbs.{home_is}
use Rattle.zs_graph.proofs.Homes.{home-live}
use Rattle.zs_cover.proofs.States.{ids, at≢nowhere}
use mathlib.Core.Logic.{inl, inr}

-- nothing is ahead of a state at rest
none_ahead : (g : Graph) (s : Phys) (id : DsId) (e : Key × Bp) → s.at ≡ Nowhere → s.todo ≡ [] → Ahead g s id e → ⊥
none_ahead g s id e at todo (later l) =
    subst (λ (x : List Todo). Has (ids x) l.ancestor) todo (subst (λ (a : At). Has (ids_at a ++ ids s.todo) l.ancestor) at l.is_pending)
none_ahead g s id e at todo (queued q i name born) = subst (λ (x : List Todo). Has x q) todo i
none_ahead g s id e at todo (passing k here key born old) = at≢nowhere id k (sym here ∙ at)
none_ahead g s id e at todo (again k here on born) = at≢nowhere id k (sym here ∙ at)

-- the law of the rest
pub rest_is : RestLaw
rest_is room g n h scope s done covered claim at todo p live in_range =
    let home = home_is room g n p covered.valid live in
    let own = home.2 in
    elim ((covered.covers).covered claim own.holder home.1 p own.home own.is_piece in_range) [
      | inl is_done ↦ is_done
      | inr ahead ↦ absurd (none_ahead g s (own.holder).id home.1 at todo ahead)
    ]

-- the last birth in a dataset rises with the transaction group
last_later : (d : Dataset) (h k : ℕ) → h ≤ k → last_birth d h ≤ last_birth d k
last_later d h k le = go d.head
  where
    go : (b : Bool) → (if b then h else d.creation) ≤ (if b then k else d.creation)
    go true = le
    go false = omega arith

ends_later : (h k : ℕ) (scope : Scope) (s : Phys) → h ≤ k → EndsBy h scope s → EndsBy k scope s
ends_later h k scope s le (past by) = past (omega (arith, le, by))
ends_later h k scope s le (started at by todo) = started at (omega (arith, le, by)) todo
ends_later h k scope s le (canceled at by status) = canceled at (omega (arith, le, by)) status

sound_later : (g : Graph) (h k : ℕ) (scope : Scope) (s : Phys) → h ≤ k → Sound g h scope s → Sound g k scope s
sound_later g h k scope s le sound = record {
  exist = sound.exist;
  once = sound.once;
  unrelated = sound.unrelated;
  mins = λ q i d here name. let low : q.min ≤ last_birth d h = sound.mins q i d here name in let up : last_birth d h ≤ last_birth d k = last_later d h k le in omega (arith, low, up);
  ends = ends_later h k scope s le sound.ends;
  pass = sound.pass;
  rests = sound.rests;
  between = sound.between;
  idle = sound.idle;
  empty = sound.empty;
  scrubs = sound.scrubs;
  logs = sound.logs;
}

-- the law of later groups
pub later_keeps : LaterLaw
later_keeps room g n h k scope s done more covered le stays = record {
  early = (let low : n ≤ h = covered.early in omega (arith, low, le));
  valid = covered.valid;
  sound = sound_later g h k scope s le covered.sound;
  covers = record {
    covered = λ claim d e p home piece in_range. elim ((covered.covers).covered claim d e p home piece in_range) [
      | inl is_done ↦ inl (stays p (home-live g d e p home piece) is_done)
      | inr ahead ↦ inr ahead
    ];
  };
}

-- a scan that finishes has passed all datasets, so that its scope ends in time
ends_past : (h : ℕ) (scope : Scope) (s : Phys) → s.status ≡ Scanning → s.todo ≡ [] → EndsBy h scope s → scope.max ≤ h
ends_past h scope s scans todo (past by) = by
ends_past h scope s scans todo (started at by first) = let e : first_todo ≡ [] = sym first ∙ todo in cc
ends_past h scope s scans todo (canceled at by status) = let e : Canceled ≡ Scanning = sym status ∙ scans in cc

end_sound : (g : Graph) (h : ℕ) (scope : Scope) (s : Phys) → s.status ≡ Scanning → IsAtRest s → Sound g h scope s → Sound g h scope (record s { status = Finished })
end_sound g h scope s scans rest sound = record {
  exist = sound.exist;
  once = sound.once;
  unrelated = sound.unrelated;
  mins = sound.mins;
  ends = past (ends_past h scope s scans rest.empty sound.ends);
  pass = λ d k here at. absurd (at≢nowhere d.id k (sym at ∙ rest.nowhere));
  rests = λ ne. record { nowhere = rest.nowhere; empty = rest.empty; goes_on = rest.goes_on };
  between = λ e. let b = sound.between e in record { no_min = b.no_min; no_max = b.no_max; no_again = b.no_again };
  idle = (λ kind. let e : Scanning ≡ Never = sym scans ∙ sound.idle.0 kind in cc, λ (e : Finished ≡ Never). cc);
  empty = sound.empty;
  scrubs = sound.scrubs;
  logs = sound.logs;
}

-- the law of the end
pub end_keeps : EndLaw
end_keeps room g n h scope s done covered scans rest = record {
  early = covered.early;
  valid = covered.valid;
  sound = end_sound g h scope s scans rest covered.sound;
  covers = record {
    covered = λ claim d e p home piece in_range. elim ((covered.covers).covered (subst (λ x. IsTrue (claims x)) (sym scans) refl) d e p home piece in_range) [
      | inl is_done ↦ inl is_done
      | inr ahead ↦ absurd (none_ahead g s d.id e rest.nowhere rest.empty ahead)
    ];
  };
}
