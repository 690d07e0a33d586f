use Rattle.std.proofs.Common.{◌≡◌, map, take, []}
use Rattle.zs_alloc.proofs.space.Space.new.Given as goal

abbrev pub invariant-loop-end : goal.invariant-loop-end
invariant-loop-end l = l.mirrors.items ≡ map (λ end. record { start = l.start; end = end; taken = [] }) (take l.end-index l.sectors)
