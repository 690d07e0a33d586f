-- Which pieces a scan examines: those born in a range, and for a resilver those of which a device of the mirror may
-- lack its copy. After `dsl_scan_visitbp` and `dsl_scan_need_resilver` of OpenZFS.
use Rattle.std.specs.Prelude.{ℕ, ◌*◌, Bool, true, false, ◌&&◌, nat_lt, List, take, drop}
use Rattle.std.specs.List.{list_any}
use Rattle.zs_ids.specs.declared.block.Piece.{Piece}
use Rattle.zs_ranges.specs.declared.set.Interval.{Interval}
use Rattle.zs_ranges.specs.Set.{has_txg}
use Rattle.zs_phys.specs.declared.scope.Kind.{Kind}
use Rattle.zs_phys.specs.declared.scope.Kind.TheVariants as kinds
use Rattle.zs_phys.specs.declared.scope.Scope.{Scope}

-- the logs of the devices of a mirror
abbrev pub logs_of : Scope → ℕ → List (List Interval)
logs_of scope vdev = take scope.width (drop (vdev * scope.width) scope.dirty0)

-- the kind of scan examines the piece
abbrev pub is_wanted : Kind → Scope → Piece → Bool
is_wanted kinds.Idle scope p = false
is_wanted kinds.Scrub scope p = true
is_wanted kinds.Resilver scope p = list_any (λ log. has_txg log p.birth) (logs_of scope p.place.vdev)

-- the piece is in scope
abbrev pub in_scope : Scope → Piece → Bool
in_scope scope p = nat_lt scope.min p.birth && nat_lt p.birth scope.max && is_wanted scope.kind scope p
