-- What `list` tells of the datasets by their ids is what it tells of them.
use Rattle.std.specs.Prelude.{◌≡◌, List, [], ◌∷◌, map, Some, refl}
use Rattle.std.proofs.Common.{◌∙◌, ap}
use Rattle.zs_ids.specs.Graph.{Has, Dataset, Graph}
use Rattle.zs_ids.specs.GraphTree.{dataset_at}
use Rattle.zs_ids.specs.GraphValid.{IsInIdOrder}
use Rattle.zs_script.specs.declared.reply.Listed.{Listed}
use Rattle.zs_graph.proofs.Graphs.{dataset_is}
use Rattle.zs_machine.specs.Listing.{listed_of}
use Rattle.zs_core.specs.Status.{listed_at}
use mathlib.Core.Logic.{inl, inr}

pub told_by_id : (g : Graph) → IsInIdOrder g → map (listed_at g) (map (λ d. d.id) g) ≡ map listed_of g
told_by_id g order = go g (λ d h. h)
  where
    go : (ds : Graph) → ((d : Dataset) → Has ds d → Has g d) → map (listed_at g) (map (λ d. d.id) ds) ≡ map listed_of ds
    go [] within = refl
    go (d ∷ ds) within =
        let at : dataset_at g d.id ≡ Some d = dataset_is g order d d.id (within d (inl refl)) refl in
        let one : listed_at g d.id ≡ listed_of d = rw at refl in
        ap (λ (l : Listed). l ∷ map (listed_at g) (map (λ (x : Dataset). x.id) ds)) one ∙ ap (λ (l : List Listed). listed_of d ∷ l) (go ds (λ x h. within x (inr h)))
