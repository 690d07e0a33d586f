use Rattle.std.proofs.Common.{subst}
use Rattle.zs_phys.specs.declared.step.Step.{Step}
use Rattle.zs_phys.specs.Turn.{Comes}
use Rattle.zs_walk.proofs.Visits.{met}
use Rattle.zs_walk.proofs.Rooms.{end_room}
use Rattle.zs_walk.proofs.turns.make.Goals as goal

pub behind-phys-requires : goal.behind-phys-requires
behind-phys-requires g c =
    (met _ _ _ c.requires.state _ (subst (λ (x : Step). Comes (g.G.Datasets.datasets c.args.graph.now) c.args.scope.now c.args.phys.now x) c.in-At.is c.requires.comes)).shallow

pub end-requires-clause-room : goal.end-requires-clause-room
end-requires-clause-room g c =
    end_room _ _ _ c.in-End.id c.requires.state (subst (λ (x : Step). Comes (g.G.Datasets.datasets c.args.graph.now) c.args.scope.now c.args.phys.now x) c.in-End.is c.requires.comes)
