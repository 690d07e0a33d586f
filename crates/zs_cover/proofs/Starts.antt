-- A scan that starts covers: all that is live is below the origin, or in it, which has nothing.
use Rattle.std.proofs.Common.{◌≡◌, ◌≤◌, ℕ, refl, sym, ap, subst, arith}
use Rattle.std.proofs.lemmas.Bool.{true≢false}
use Rattle.zs_ids.specs.declared.key.Key.{Key}
use Rattle.zs_ids.specs.declared.block.Bp.{Bp}
use Rattle.zs_ids.specs.declared.dataset.DsId.{DsId}
use Rattle.zs_ids.specs.declared.dataset.TheConstants.DsId.{ORIGIN}
use Rattle.zs_ids.specs.Graph.{Has, Dataset, Graph}
use Rattle.zs_ids.specs.GraphTree.{Above, IsHome}
use Rattle.zs_ids.specs.GraphValid.{last_birth, origin, IsValid}
use Rattle.zs_phys.specs.declared.scope.Scope.{Scope}
use Rattle.zs_phys.specs.declared.phys.Status.TheVariants.{Never, Scanning}
use Rattle.zs_phys.specs.declared.todos.Todo.{Todo}
use Rattle.zs_phys.specs.Ahead.{Ahead, pending}
use Rattle.zs_phys.specs.Ahead.Ahead.{later}
use Rattle.zs_phys.specs.Sound.{Sound, IsOfGraph}
use Rattle.zs_phys.specs.Sound.EndsBy.{started as begun}
use Rattle.zs_cover.specs.Laws.{StartLaw, MayStart, started}
use Rattle.zs_graph.proofs.Graphs.{acyclic}
use Rattle.zs_graph.proofs.Homes.{below_origin, origin_empty}
use Rattle.zs_cover.proofs.States.{at≢nowhere}
use mathlib.Core.Logic.{inl, inr}

-- a scan that runs was started
running≢never : Scanning ≡ Never → ⊥
running≢never e = cc

module _ (g : Graph) (n h : ℕ) (scope : Scope) (away : ℕ) (valid : IsValid g n) (may : MayStart h scope) where
  -- the origin alone is pending
  one_pending : (x : DsId) → Has (pending (started away)) x → ORIGIN ≡ x
  one_pending x i = elim i [ inl e ↦ e | inr none ↦ absurd none ]

  exists : (x : DsId) → ORIGIN ≡ x → IsOfGraph g x
  exists x e = record { dataset = origin; here = valid.tree.root; named = e }

  apart : (a b : DsId) → ORIGIN ≡ a → ORIGIN ≡ b → Above g a b → ⊥
  apart a b ea eb above =
      acyclic g n valid.tree ORIGIN (subst (λ (x : DsId). Above g x ORIGIN) (sym ea) (subst (λ (x : DsId). Above g a x) (sym eb) above))

  least : (q : Todo) → Has ((started away).todo) q → (d : Dataset) → q.min ≤ last_birth d h
  least q i d = elim i [ inl e ↦ let zero : 0 ≡ q.min = ap (λ (x : Todo). x.min) e in omega (arith, zero) | inr none ↦ absurd none ]

  pub start-sound : Sound g h scope (started away)
  start-sound = record {
    exist = λ x i. exists x (one_pending x i);
    once = (λ i. i, tt);
    unrelated = λ a b i j. apart a b (one_pending a i) (one_pending b j);
    mins = λ q i d here name. least q i d;
    ends = begun refl may.ends refl;
    pass = λ d k here at. absurd (at≢nowhere d.id k (sym at));
    rests = λ ne. absurd (ne refl);
    between = λ e. record { no_min = refl; no_max = refl; no_again = refl };
    idle = (λ kind. absurd (may.runs kind), λ e. absurd (running≢never e));
    empty = λ kind. absurd (may.runs kind);
    scrubs = λ e. absurd (true≢false (sym e));
    logs = may.logs;
  }

  pub start-ahead : (d : Dataset) (e : Key × Bp) → IsHome g d e → Ahead g (started away) d.id e
  start-ahead d e home = elim (below_origin g n valid.tree d home.here) [
    | inl is ↦ absurd (origin_empty g n valid.tree d e home is)
    | inr above ↦ later (record { ancestor = ORIGIN; is_pending = inl refl; above = above })
  ]

-- the law of the start
pub start_keeps : StartLaw
start_keeps room g n h scope away done early valid may = record {
  early = early;
  valid = valid;
  sound = start-sound g n h scope away valid.graph may;
  covers = record { covered = λ claim d e p home piece in_range. inr (start-ahead g n h scope away valid.graph may d e home) };
}
