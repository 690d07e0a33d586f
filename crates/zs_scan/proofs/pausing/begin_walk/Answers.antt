use Rattle.std.proofs.Common.{◌∙◌, ◌++◌, [], ◌∷◌, List, false, ap}
use Rattle.zs_ids.specs.declared.dataset.TheConstants.DsId.{ORIGIN}
use Rattle.zs_phys.specs.declared.phys.Phys.{Phys}
use Rattle.zs_phys.specs.declared.phys.At.TheVariants.{Nowhere}
use Rattle.zs_phys.specs.declared.phys.Status.TheVariants.{Scanning}
use Rattle.zs_phys.specs.declared.todos.Todo.{Todo}
use Rattle.zs_scan.proofs.pausing.begin_walk.Goals as goal

pub returns : goal.returns
returns c = ap (λ (l : List Todo). record { status = Scanning; paused = false; away = c.args.away; at = Nowhere; curmin = 0; curmax = 0; again = false; todo = l }) (c.push.ensures ∙ ap (λ (l : List Todo). l ++ record { id = ORIGIN; min = 0 } ∷ []) c.clear.ensures)
