-- The tests by which this crate decides whether a scan state belongs to a graph.
use Rattle.std.specs.Prelude.{◌==◌, ◌&&◌, ◌||◌, ◌-◌, not, ℕ, Bool, true, false, nat_le, List, [], ◌∷◌, length}
use Rattle.std.specs.List.{list_any, list_all}
use Rattle.zs_ids.specs.declared.dataset.DsId.{DsId}
use Rattle.zs_ids.specs.Graph.{Dataset, Graph}
use Rattle.zs_ids.specs.GraphTree.{is_id}
use Rattle.zs_ids.specs.GraphValid.{last_birth}
use Rattle.zs_phys.specs.declared.scope.Scope.{Scope}
use Rattle.zs_phys.specs.declared.scope.Kind.{Kind}
use Rattle.zs_phys.specs.declared.scope.Kind.TheVariants.{Idle, Scrub, Resilver}
use Rattle.zs_phys.specs.declared.phys.Phys.{Phys}
use Rattle.zs_phys.specs.declared.phys.At.{At}
use Rattle.zs_phys.specs.declared.phys.At.TheVariants.{Nowhere, Destroyed}
use Rattle.zs_phys.specs.declared.phys.At.TheVariants as ats
use Rattle.zs_phys.specs.declared.phys.Status.{Status}
use Rattle.zs_phys.specs.declared.phys.Status.TheVariants.{Never, Scanning, Finished, Canceled}
use Rattle.zs_phys.specs.declared.todos.Todo.{Todo}
use Rattle.zs_phys.specs.Handlers.{is_on}
use Rattle.zs_phys.specs.Sound.{pass_end}
use Rattle.zs_plain.specs.Tests.{has_id}
use Rattle.zs_plain.specs.TurnTests.{is_scanning}

-- some dataset has the id
abbrev pub is_there : Graph → DsId → Bool
is_there g id = list_any (λ d. is_id d.id id) g

-- no two ids are the same
abbrev pub are_distinct : List DsId → Bool
are_distinct [] = true
are_distinct (x ∷ xs) = not (has_id xs x) && are_distinct xs

-- the pending datasets exist, are distinct, and none is below another, where `below` are those below them
abbrev pub are_placed : Graph → List DsId → List DsId → Bool
are_placed g ids below =
    list_all (λ id. is_there g id) ids && (are_distinct ids && list_all (λ id. not (has_id below id)) ids)

-- the entry's min is a transaction group of the dataset
abbrev pub has_low_min : Graph → ℕ → Todo → Bool
has_low_min g h q = list_all (λ d. not (is_id d.id q.id) || nat_le q.min (last_birth d h)) g

-- the pass over the dataset, if the state is at it, is one
abbrev pub is_pass : Scope → Phys → Dataset → Bool
is_pass scope s d =
    not (is_on s.at d.id) || (nat_le s.curmax scope.max && ((d.head || nat_le s.curmax d.creation) && (s.again || s.curmax == pass_end d scope.max)))

abbrev pub is_nowhere : At → Bool
is_nowhere Nowhere = true
is_nowhere Destroyed = false
is_nowhere (ats.Dataset id k) = false

-- the state is at no dataset
abbrev pub is_between : At → Bool
is_between Nowhere = true
is_between Destroyed = true
is_between (ats.Dataset id k) = false

abbrev pub is_never : Status → Bool
is_never Never = true
is_never Scanning = false
is_never Finished = false
is_never Canceled = false

abbrev pub is_canceled : Status → Bool
is_canceled Never = false
is_canceled Scanning = false
is_canceled Finished = false
is_canceled Canceled = true

-- the queue has the origin alone, from 0 on
abbrev pub is_first : List Todo → Bool
is_first [] = false
is_first (q ∷ []) = q.id.0 == 0 && q.min == 0
is_first (q ∷ r ∷ qs) = false

-- the scope ends by h
abbrev pub ends_by : ℕ → Scope → Phys → Bool
ends_by h scope s =
    nat_le scope.max h || (is_nowhere s.at && (nat_le (scope.max - 1) h && (is_first s.todo || is_canceled s.status)))

-- a state that does not scan is at rest, and one at no dataset has no pass
abbrev pub is_at_rest : Phys → Bool
is_at_rest s = is_scanning s.status || (is_nowhere s.at && (length s.todo == 0 && not s.paused))

abbrev pub has_no_pass : Phys → Bool
has_no_pass s = not (is_between s.at) || (s.curmin == 0 && (s.curmax == 0 && not s.again))

abbrev pub is_idle : Kind → Bool
is_idle Idle = true
is_idle Scrub = false
is_idle Resilver = false

abbrev pub is_scrub : Kind → Bool
is_scrub Idle = false
is_scrub Scrub = true
is_scrub Resilver = false

abbrev pub is_resilver : Kind → Bool
is_resilver Idle = false
is_resilver Scrub = false
is_resilver Resilver = true

-- kind and status agree
abbrev pub agrees : Scope → Phys → Bool
agrees scope s =
    (not (is_idle scope.kind) || is_never s.status) && (not (is_never s.status) || is_idle scope.kind)

-- the scope is one of its kind
abbrev pub is_of_kind : Scope → Phys → Bool
is_of_kind scope s =
    (not (is_idle scope.kind) || (scope.min == 0 && scope.max == 0)) &&
    ((not s.paused || is_scrub scope.kind) &&
    (is_resilver scope.kind || list_all (λ log. length log == 0) scope.dirty0))

-- the state belongs to the graph, where `ids` are the pending datasets and `below` those below them
abbrev pub is_sound : List DsId → List DsId → Graph → ℕ → Scope → Phys → Bool
is_sound ids below g h scope s =
    (are_placed g ids below && (list_all (λ q. has_low_min g h q) s.todo && list_all (λ d. is_pass scope s d) g)) &&
    ((ends_by h scope s && is_at_rest s) && (has_no_pass s && (agrees scope s && is_of_kind scope s)))
