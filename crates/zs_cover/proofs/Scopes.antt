-- When a piece in scope is born.
use Rattle.std.proofs.Common.{◌<◌, ◌&&◌}
use Rattle.std.specs.Prelude.{IsTrue, nat_lt}
use Rattle.std.proofs.lemmas.Bool.{ltb-true, and_parts}
use Rattle.zs_ids.specs.declared.block.Piece.{Piece}
use Rattle.zs_phys.specs.declared.scope.Scope.{Scope}
use Rattle.zs_phys.specs.Scope.{in_scope, is_wanted}

-- a piece in scope is born in the range
pub scope_range : (scope : Scope) (p : Piece) → IsTrue (in_scope scope p) → (scope.min < p.birth) × (p.birth < scope.max)
scope_range scope p t =
    let a = and_parts (nat_lt scope.min p.birth && nat_lt p.birth scope.max) (is_wanted scope.kind scope p) t in
    let b = and_parts (nat_lt scope.min p.birth) (nat_lt p.birth scope.max) a.0 in
    (ltb-true scope.min p.birth b.0, ltb-true p.birth scope.max b.1)
