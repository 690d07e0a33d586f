-- Each dataset of a change but an apply holds what one held before; and the one place of a pointer lies apart.
use Rattle.std.proofs.Common.{◌≡◌, ◌⊎◌, ℕ, Bool, List, [], ◌∷◌, take, refl, sym, ap, subst, ◌∙◌, true, false}
use Rattle.std.specs.Prelude.{map, not, Some, if◌then◌else◌}
use Rattle.zs_ids.specs.declared.key.Key.{Key}
use Rattle.zs_ids.specs.declared.block.Bp.{Bp}
use Rattle.zs_ids.specs.declared.block.Place.{Place}
use Rattle.zs_ids.specs.declared.dataset.DsId.{DsId}
use Rattle.zs_ids.specs.declared.dataset.Name.{Name}
use Rattle.zs_ids.specs.Graph.{Has, Dataset, Graph}
use Rattle.zs_ids.specs.GraphTree.{is_id, stands_on}
use Rattle.zs_ids.specs.GraphValid.{ArePlacesApart}
use Rattle.zs_ids.specs.GraphChange.{head_on, cloned, moved_onto, snapshot_of, with_snapshot, without, off, destroyed, holding, swapped}
use Rattle.zs_graph.proofs.Lists.{from-append, from-map, from-filter}
use Rattle.zs_graph.proofs.Kept.{same_or_moved, Holds}
use mathlib.Core.Logic.{inl, inr}

-- one place lies apart
pub one_apart : (sectors count : ℕ) (places : List Place) → count ≡ 1 → ArePlacesApart sectors (take count places)
one_apart sectors count places single = subst (λ (n : ℕ). ArePlacesApart sectors (take n places)) (sym single) (go places)
  where
    go : (ps : List Place) → ArePlacesApart sectors (take 1 ps)
    go [] = tt
    go (p ∷ ps) = (λ q none. absurd none, tt)

-- each dataset holds what one held before: where a clone is made, or a filesystem
pub clone_holds : (g : Graph) (snap : Dataset) (id : DsId) (name : Name) → Has g snap → Holds g (cloned g snap id name)
clone_holds g snap id name here x i = elim (from-append g (head_on snap id name ∷ []) x i) [
  | inl old ↦ (x, old, refl)
  | inr new ↦ elim new [ inl is ↦ (snap, here, ap (λ (d : Dataset). d.entries) (sym is)) | inr none ↦ absurd none ]
]

-- where a snapshot is taken
pub snapshot_holds : (g : Graph) (head : Dataset) (id : DsId) (label : Name) (t : ℕ) → Has g head → Holds g (with_snapshot g head id label t)
snapshot_holds g head id label t here x i = elim (from-append (map (moved_onto head.id (Some id)) g) (snapshot_of head id label t ∷ []) x i) [
  | inl old ↦ let f = from-map (moved_onto head.id (Some id)) g x old in (f.0, f.1, sym (ap (λ (d : Dataset). d.entries) f.2) ∙ (same_or_moved (is_id (f.0).id head.id) (Some id) f.0).entries)
  | inr new ↦ elim new [ inl is ↦ (head, here, ap (λ (d : Dataset). d.entries) (sym is)) | inr none ↦ absurd none ]
]

-- where a dataset is destroyed
pub destroyed_holds : (g : Graph) (gone : Dataset) → Holds g (destroyed g gone)
destroyed_holds g gone x i =
    let f = from-map (off gone) (without gone.id g) x i in
    let old = (from-filter (λ (d : Dataset). not (is_id d.id gone.id)) g f.0 f.1).0 in
    (f.0, old, sym (ap (λ (d : Dataset). d.entries) f.2) ∙ (same_or_moved (stands_on gone.id (f.0).parent) gone.parent f.0).entries)

-- what a dataset holds under a test
held_if : (b : Bool) (entries : List (Key × Bp)) (d : Dataset) → ((if b then record d { entries = entries } else d).entries ≡ entries) ⊎ ((if b then record d { entries = entries } else d).entries ≡ d.entries)
held_if true entries d = inl refl
held_if false entries d = inr refl

-- where two heads are swapped
pub swapped_holds : (g : Graph) (a b : Dataset) → Has g a → Has g b → Holds g (swapped g a b)
swapped_holds g a b first second x i =
    let f = from-map (λ (d : Dataset). holding a.id b.entries (holding b.id a.entries d)) g x i in
    let is = sym (ap (λ (d : Dataset). d.entries) f.2) in
    elim (held_if (is_id (holding b.id a.entries f.0).id a.id) b.entries (holding b.id a.entries f.0)) [
      | inl of_b ↦ (b, second, is ∙ of_b)
      | inr more ↦ elim (held_if (is_id (f.0).id b.id) a.entries f.0) [ inl of_a ↦ (a, first, is ∙ more ∙ of_a) | inr own ↦ (f.0, f.1, is ∙ more ∙ own) ]
    ]
