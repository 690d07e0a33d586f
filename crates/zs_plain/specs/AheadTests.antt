-- The tests by which this crate decides what is ahead of a state, and whether the state covers a graph.
use Rattle.std.specs.Prelude.{◌&&◌, ◌||◌, not, ℕ, Bool, false, List, nat_lt, nat_le}
use Rattle.std.specs.List.{list_any, list_all}
use Rattle.std.specs.Ordering.{is_le}
use Rattle.zs_ids.specs.declared.key.Key.{Key}
use Rattle.zs_ids.specs.declared.block.Bp.{Bp}
use Rattle.zs_ids.specs.declared.block.Piece.{Piece}
use Rattle.zs_ids.specs.declared.dataset.DsId.{DsId}
use Rattle.zs_ids.specs.Key.{key_cmp}
use Rattle.zs_ids.specs.Graph.{Dataset, Graph, pieces_of}
use Rattle.zs_ids.specs.GraphTree.{is_id, start_of}
use Rattle.zs_phys.specs.declared.scope.Scope.{Scope}
use Rattle.zs_phys.specs.declared.phys.Phys.{Phys}
use Rattle.zs_phys.specs.declared.phys.At.{At}
use Rattle.zs_phys.specs.declared.phys.At.TheVariants.{Nowhere, Destroyed}
use Rattle.zs_phys.specs.declared.phys.At.TheVariants as ats
use Rattle.zs_phys.specs.declared.todos.Todo.{Todo}
use Rattle.zs_phys.specs.Scope.{in_scope}
use Rattle.zs_phys.specs.Handlers.{is_on}
use Rattle.zs_phys.specs.Ahead.{claims}
use Rattle.zs_plain.specs.Tests.{has_id, has_piece}

-- an entry of the queue is for the dataset, and a block born then is born after its min
abbrev pub is_queued : DsId → ℕ → Todo → Bool
is_queued id birth q = is_id q.id id && nat_lt q.min birth

-- the pass that is at `at` has the dataset's entry before it
abbrev pub is_passing : At → ℕ → ℕ → DsId → Key × Bp → Bool
is_passing Nowhere least most id e = false
is_passing Destroyed least most id e = false
is_passing (ats.Dataset here k) least most id e =
    is_id here id && (is_le (key_cmp k e.0) && (nat_lt least e.1.birth && nat_le e.1.birth most))

-- the state is at the dataset and will pass it again, and a block born then is born after the pass's end
abbrev pub is_again : Phys → DsId → ℕ → Bool
is_again s id birth = is_on s.at id && (s.again && nat_lt s.curmax birth)

-- the entry is ahead, where `later` are the ids of the later datasets
abbrev pub is_ahead : List DsId → Phys → DsId → Key × Bp → Bool
is_ahead later s id e =
    (has_id later id || list_any (is_queued id e.1.birth) s.todo) || (is_passing s.at s.curmin s.curmax id e || is_again s id e.1.birth)

-- the entry is ahead, or each piece of it in scope is done
abbrev pub is_covered_entry : List DsId → Scope → Phys → List Piece → DsId → Key × Bp → Bool
is_covered_entry later scope s done id e =
    list_all (λ p. not (in_scope scope p) || (has_piece done p || is_ahead later s id e)) (pieces_of e.1)

-- so are all entries born after the start
abbrev pub is_covered_dataset : List DsId → Scope → Phys → List Piece → ℕ → Dataset → Bool
is_covered_dataset later scope s done start d =
    list_all (λ e. not (nat_lt start e.1.birth) || is_covered_entry later scope s done d.id e) d.entries

-- so are all datasets, where the state claims to miss nothing
abbrev pub is_covering : List DsId → Graph → Scope → Phys → List Piece → Bool
is_covering later g scope s done =
    not (claims s.status) || list_all (λ d. is_covered_dataset later scope s done (start_of g d.parent) d) g
