use Rattle.std.proofs.Common.{◌≡◌, ◌∙◌, List, ℕ, [], ap, sym, subst}
use Rattle.zs_io.specs.Calls.{bytes_of, images_of, after_calls}
use Rattle.zs_io.specs.Crash.{Only}
use Rattle.zs_io.specs.declared.disk.Call.{Call}
use Rattle.zs_io.proofs.disk.Disk.new.Goals as goal

pub returns-clause-now : goal.returns-clause-now
unfolding bytes_of
returns-clause-now c = ap (λ l. after_calls l c.of.result.value.items) c.new.ensures.items ∙ ap (λ v. v.items) c.of.ensures

-- with no call, a crash leaves the first bytes
unmade : (first : List ℕ) (calls : List Call) → calls ≡ [] → Only first (images_of (record { first = first; calls = calls }))
unfolding images_of
unmade first calls none = subst (λ (l : List Call). Only first (images_of (record { first = first; calls = l }))) (sym none) (λ c left. left)

pub returns-clause-durable : goal.returns-clause-durable
returns-clause-durable c =
    subst (λ (l : List ℕ). Only l (images_of (record { first = c.of.result.value.items; calls = c.new.result.items }))) (ap (λ v. v.items) c.of.ensures) (unmade c.of.result.value.items c.new.result.items c.new.ensures.items)
