-- When the closures of a type answer by the rules.
use Rattle.std.specs.Prelude.{◌≡◌, ◌<◌, ℕ, Bool, List, length}
use Rattle.std.specs.Fn.{Shared, FnReturns}
use denote.Ref.{Bor}
use Rattle.zs_ids.specs.declared.block.Piece.{Piece}
use Rattle.zs_phys.specs.declared.scope.Scope.{Scope}
use Rattle.zs_phys.specs.Scope.{in_scope}
use Rattle.zs_want.specs.declared.picking.Span.{Span}
use Rattle.zs_want.specs.declared.picking.Order.{Order}
use Rattle.zs_want.specs.Picking.{picked}

-- each closure of the type may always be called, and answers whether the piece is in scope
pub record AreFilters {F : Type 0} (g : Shared F (Bor Scope × (Bor Piece × Unit {0})) Bool) : Type 0 where
  pub callable : (f : F) (scope : Bor Scope) (piece : Bor Piece) → g.pre f (scope, (piece, tt))
  pub says : (f : F) (scope : Bor Scope) (piece : Bor Piece) (answer : Bool)
      → FnReturns g f (scope, (piece, tt)) answer → answer ≡ in_scope scope.now piece.now

-- each closure of the type may be called with spans of which there are some, and answers the number of the one that is
-- picked by the order
pub record ArePicks {P : Type 0} (g : Shared P (Bor (List Span) × (Order × Unit {0})) ℕ) : Type 0 where
  pub callable : (p : P) (spans : Bor (List Span)) (order : Order) → 0 < length spans.now → g.pre p (spans, (order, tt))
  pub says : (p : P) (spans : Bor (List Span)) (order : Order) (answer : ℕ)
      → 0 < length spans.now → FnReturns g p (spans, (order, tt)) answer → answer ≡ picked spans.now order
