-- A state that stays as it is while the graph changes: when it stays sound, and what stays ahead of it.
use Rattle.std.proofs.Common.{◌≡◌, ◌≤◌, min, ℕ, Bool, sym, ap, subst, ◌∙◌, arith}
use Rattle.std.specs.Prelude.{if◌then◌else◌}
use Rattle.zs_ids.specs.declared.key.Key.{Key}
use Rattle.zs_ids.specs.declared.block.Bp.{Bp}
use Rattle.zs_ids.specs.declared.dataset.DsId.{DsId}
use Rattle.zs_ids.specs.Graph.{Has, Dataset, Graph}
use Rattle.zs_ids.specs.GraphTree.{IsParent, Above}
use Rattle.zs_ids.specs.GraphTree.Above.{direct, up}
use Rattle.zs_ids.specs.GraphValid.{last_birth}
use Rattle.zs_phys.specs.declared.scope.Scope.{Scope}
use Rattle.zs_phys.specs.declared.phys.Phys.{Phys}
use Rattle.zs_phys.specs.declared.phys.At.TheVariants as ats
use Rattle.zs_phys.specs.Ahead.{pending, Ahead}
use Rattle.zs_phys.specs.Ahead.Ahead.{later, queued, passing, again}
use Rattle.zs_phys.specs.Sound.{IsOfGraph, Sound}
use Rattle.zs_cover.proofs.States.{here-pending, queued-pending}
use Rattle.zs_graph.proofs.Kept.{last_same}

-- ancestors stay where parents do
pub above_stays : (g g' : Graph) → ((a c : DsId) → IsParent g a c → IsParent g' a c) → (a c : DsId) → Above g a c → Above g' a c
above_stays g g' parents a _ (direct c p) = direct c (parents a c p)
above_stays g g' parents a _ (up c m p above) = up c m (parents m c p) (above_stays g g' parents a m above)

-- what is ahead stays ahead where ancestors do
pub ahead_stays : (g g' : Graph) (s : Phys) (id : DsId) (e : Key × Bp) → ((a : DsId) → Above g a id → Above g' a id) → Ahead g s id e → Ahead g' s id e
ahead_stays g g' s id e above (later l) = later (record { ancestor = l.ancestor; is_pending = l.is_pending; above = above l.ancestor l.above })
ahead_stays g g' s id e above (queued q i name born) = queued q i name born
ahead_stays g g' s id e above (passing k here key born old) = passing k here key born old
ahead_stays g g' s id e above (again k here on born) = again k here on born

-- a dataset that was there before, of the same kind and age
pub record WasThere (g : Graph) (d : Dataset) : Type 0 where
  pub old : Dataset
  pub here : Has g old
  pub id : old.id ≡ d.id
  pub head : d.head ≡ old.head
  pub creation : d.creation ≡ old.creation

-- a state stays sound where the pending datasets are there still, and have no new ancestors among them
pub sound_stays : (g g' : Graph) (h : ℕ) (scope : Scope) (s : Phys) → Sound g h scope s → ((id : DsId) → Has (pending s) id → IsOfGraph g id → IsOfGraph g' id) → ((a b : DsId) → Has (pending s) a → Has (pending s) b → Above g' a b → Above g a b) → ((d : Dataset) → Has g' d → Has (pending s) d.id → WasThere g d) → Sound g' h scope s
sound_stays g g' h scope s sound exist back was = record {
  exist = λ x i. exist x i (sound.exist x i);
  once = sound.once;
  unrelated = λ a b i j above. sound.unrelated a b i j (back a b i j above);
  mins = λ q i d hd name. let w = was d hd (subst (λ (x : DsId). Has (pending s) x) (sym name) (queued-pending s q i)) in let low : q.min ≤ last_birth w.old h = sound.mins q i w.old w.here (w.id ∙ name) in let same : last_birth w.old h ≤ last_birth d h = last_same d w.old h h w.head w.creation (omega arith) in omega (arith, low, same);
  ends = sound.ends;
  pass = λ d k hd at. let w = was d hd (here-pending s d.id k at) in let p = sound.pass w.old k w.here (at ∙ ap (λ (x : DsId). ats.Dataset x k) (sym w.id)) in record { in_range = p.in_range; in_snapshot = λ off. subst (λ (x : ℕ). s.curmax ≤ x) (sym w.creation) (p.in_snapshot (sym w.head ∙ off)); whole = λ off. p.whole off ∙ sym (ap (λ (b : Bool). if b then scope.max else min scope.max d.creation) w.head ∙ ap (λ (x : ℕ). if (w.old).head then scope.max else min scope.max x) w.creation) };
  rests = sound.rests;
  between = sound.between;
  idle = sound.idle;
  empty = sound.empty;
  scrubs = sound.scrubs;
  logs = sound.logs;
}
