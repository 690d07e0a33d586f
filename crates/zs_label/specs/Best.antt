-- Which label of the images is the best, and why there may be none.
use Rattle.std.specs.Prelude.{ℕ, zero, suc, ◌+◌, ◌/◌, ◌^◌, max, List, [], ◌∷◌, ◌++◌, length, Bool, false, ◌&&◌, ◌||◌, not, ◌==◌, Option, Some, None, option_map, Result, Ok, Err, if◌then◌else◌}
use Rattle.std.specs.List.{list_any, list_all, find}
use lib.Pointwise.{pointwise}
use Rattle.zs_label.specs.Label.{label_of, has_other_version}
use Rattle.zs_label.specs.declared.label.Label.{Label}
use Rattle.zs_label.specs.declared.choosing.Found.{Found}
use Rattle.zs_label.specs.declared.fault.LabelFault.{LabelFault}
use Rattle.zs_label.specs.declared.fault.LabelFault.TheVariants.{NoLabel, OtherPool, Version, ImageCount, Split, VdevMissing}

-- the label, if there is one, with the number of its image
abbrev pub with_image : ℕ → Option Label → List Found
with_image image None = []
with_image image (Some label) = record { image = image; label = label } ∷ []

-- the labels in the slots of an image, by its first bytes; none where they could not be read
abbrev pub labels_on : ℕ → Option (List ℕ) → List Found
labels_on image None = []
labels_on image (Some bytes) = with_image image (label_of 0 bytes) ++ with_image image (label_of 1 bytes)

-- the labels of these images, whose numbers begin with that one
abbrev pub found_from : ℕ → List (Option (List ℕ)) → List Found
found_from image [] = []
found_from image (read ∷ reads) = labels_on image read ++ found_from (image + 1) reads

-- a slot of an image is open and has a label of another version
abbrev pub is_other : Option (List ℕ) → Bool
is_other None = false
is_other (Some bytes) = has_other_version 0 bytes || has_other_version 1 bytes

-- the greatest transaction group of the labels, and 0 of none
abbrev pub newest : List Found → ℕ
newest [] = 0
newest (f ∷ found) = max f.label.txg (newest found)

-- the first label of that group
abbrev pub best_in : List Found → Option Label
best_in found = option_map (λ f. f.label) (find (λ f. f.label.txg == newest found) found)

-- a label is of the pool of the best one, and was found on the image that it names
abbrev pub is_of_pool : Label → Found → Bool
is_of_pool best f = (f.label.pool == best.pool) && (f.label.devices == best.devices) && (f.label.width == best.width)
    && (f.label.blocks == best.blocks) && (f.label.limit == best.limit) && (f.label.every == best.every) && (f.label.number == f.image)

-- a label is of an older group than the best one, or of the same record
abbrev pub is_of_record : Label → Found → Bool
is_of_record best f = not (f.label.txg == best.txg) || ((f.label.length == best.length) && pointwise ◌==◌ f.label.sum best.sum)

-- one of the first mirrors has no image with a label
abbrev pub lacks_mirror : ℕ → List Found → ℕ → Bool
lacks_mirror width found zero = false
lacks_mirror width found (suc mirror) = lacks_mirror width found mirror || not (list_any (λ f. f.image / width == mirror) found)

-- an image has a label of that group
abbrev pub has_label : ℕ → List Found → ℕ → Bool
has_label txg found image = list_any (λ f. (f.image == image) && (f.label.txg == txg)) found

-- those of the first images that have one, a bit for each
abbrev pub mask_of : ℕ → List Found → ℕ → ℕ
mask_of txg found zero = 0
mask_of txg found (suc image) = mask_of txg found image + (if has_label txg found image then 2 ^ image else 0)

-- the best label and the mask of its group, where the labels on so many images agree with it
unfoldable pub agreed : ℕ → List Found → Label → Result (Label × ℕ) LabelFault
agreed images found best =
    if not (list_all (is_of_pool best) found) then Err OtherPool
    else (if not (best.devices == images) then Err ImageCount
    else (if not (list_all (is_of_record best) found) then Err Split
    else (if lacks_mirror best.width found (best.devices / best.width) then Err VdevMissing
    else Ok (best, mask_of best.txg found images))))

unfoldable pub choice : ℕ → List Found → Result (Label × ℕ) LabelFault
choice images found = chosen (best_in found)
  where
    chosen : Option Label → Result (Label × ℕ) LabelFault
    chosen None = Err NoLabel
    chosen (Some best) = agreed images found best

-- the answer for images of which this was read
unfoldable pub best_of : List (Option (List ℕ)) → Result (Label × ℕ) LabelFault
best_of reads = if list_any is_other reads then Err Version else choice (length reads) (found_from 0 reads)
