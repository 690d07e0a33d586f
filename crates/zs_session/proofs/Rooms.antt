-- What lies in the room of a pool lies on its devices.
use Rattle.std.proofs.Common.{◌≡◌, ℕ, ◌<◌, ◌≤◌, ◌+◌, ◌*◌, ◌/◌, [], ◌∷◌, length, refl, sym, ◌∙◌, ap, subst, arith}
use Rattle.std.specs.Prelude.{slice_index}
use Rattle.zs_ids.specs.declared.block.Item.{Item}
use Rattle.zs_ids.specs.declared.block.Place.{Place}
use Rattle.zs_ids.specs.Graph.{Has}
use Rattle.zs_lane.specs.Children.{DeviceView}
use Rattle.zs_mirror.specs.Mirror.{IsMirror, first_of, start_of, size_of}
use Rattle.zs_scan.specs.declared.batch.Batch.{Batch}
use Rattle.zs_scan.specs.Covered.{IsInRoom}
use Rattle.zs_machine.specs.declared.shape.Shape.{Shape}
use Rattle.zs_core.specs.Safe.{IsShaped, IsSafe}
use Rattle.zs_machine.specs.Shapes.{room_in}
use Rattle.zs_core.specs.View.{CoreView}
use Rattle.zs_session.specs.Devices.{AreDevicesOf, LiesOn, LieOn, SetGoesOn}

-- there are as many devices as copies
pub width_of : (v : CoreView) (count : ℕ) (devices : ℕ → DeviceView) → IsShaped v → AreDevicesOf v.shape count devices → count ≡ v.shape.width
width_of v count devices shaped are = are.count_is ∙ shaped.shape.devices

-- a pool that keeps its shape keeps its devices
pub same_devices : (old new : Shape) (count now : ℕ) (before after : ℕ → DeviceView) → new ≡ old → SetGoesOn count now before after → AreDevicesOf old count before → AreDevicesOf new now after
same_devices old new count now before after shape set are = record {
  count_is = set.count ∙ (are.count_is ∙ ap (λ (s : Shape). s.devices) (sym shape));
  sectors = λ k below. ap (λ (s : Shape). slice_index s.sectors k) shape ∙ (are.sectors k (omega (arith, below, set.count)) ∙ ap (λ n. n / 512) (sym (set.sizes k)));
}

-- the space ends where each device does, or before
ends_on : (v : CoreView) (count : ℕ) (devices : ℕ → DeviceView) (k : ℕ) → IsShaped v → AreDevicesOf v.shape count devices → k < count → v.end_sector ≤ (devices k).size / 512
ends_on v count devices k shaped are below =
    let here : k < length v.shape.sectors = omega (arith, below, are.count_is, shaped.shape.count) in
    subst (λ (n : ℕ). v.end_sector ≤ n) (are.sectors k below) (shaped.end.least k here)

-- a copy that ends in the space lies on a device that does not end before
in_sectors : (sector sectors end size : ℕ) → sector + sectors ≤ end → end ≤ size / 512 → 512 * sector + 512 * sectors ≤ size
in_sectors sector sectors end size fits ends = omega arith

-- an item that lies in the room is of the one mirror
pub first_mirror : (v : CoreView) (blocks : ℕ) (item : Item) → IsInRoom (room_in v.shape v.end_sector blocks) item → item.piece.place.vdev ≡ 0
first_mirror v blocks item inside = omega (arith, inside.lies.mirror)

-- its copies are on the first devices
pub copy_at : (vdev width k : ℕ) → vdev ≡ 0 → first_of vdev width + k ≡ k
copy_at vdev width k is = ap (λ m. m * width + k) is ∙ none
  where
    none : 0 * width + k ≡ k
    none = omega arith

-- an item that lies in the room lies on each device
pub lies_on : (v : CoreView) (count : ℕ) (devices : ℕ → DeviceView) (blocks : ℕ) (item : Item) → IsShaped v → AreDevicesOf v.shape count devices
    → IsInRoom (room_in v.shape v.end_sector blocks) item → IsMirror count v.shape.width item.piece.place (size_of item) devices
lies_on v count devices blocks item shaped are inside = record {
  most = omega (arith, many, shaped.shape.width.1);
  some = shaped.shape.width.0;
  few = shaped.shape.width.1;
  within = subst (λ (n : ℕ). n ≤ count) (sym (copy_at item.piece.place.vdev v.shape.width v.shape.width one)) (omega (arith, many));
  sectors = item.sectors;
  whole = refl;
  not_empty = inside.some;
  greatest = inside.most;
  fits = λ k lt. subst (λ (n : ℕ). start_of item.piece.place + size_of item ≤ (devices n).size) (sym (copy_at item.piece.place.vdev v.shape.width k one))
      (in_sectors item.piece.place.sector item.sectors v.end_sector (devices k).size ends (ends_on v count devices k shaped are (omega (arith, many, lt))));
}
  where
    many : count ≡ v.shape.width
    many = width_of v count devices shaped are

    one : item.piece.place.vdev ≡ 0
    one = first_mirror v blocks item inside

    ends : item.piece.place.sector + item.sectors ≤ v.end_sector
    ends = subst (λ (m : ℕ). item.piece.place.sector + item.sectors ≤ slice_index (v.end_sector ∷ []) m) one inside.lies.to

-- what is in flight lies on each device
pub flights_lie_on : (v : CoreView) (count : ℕ) (devices : ℕ → DeviceView) (b : Batch) → IsSafe v → AreDevicesOf v.shape count devices → Has v.scan.flight b → LieOn count v.shape.width b.items devices
flights_lie_on v count devices b safe are flies item here =
    let inside = safe.scanned.in_room b item flies here in
    record { lies = lies_on v count devices safe.blocks item safe.shaped are inside; first = first_mirror v safe.blocks item inside }

-- a block lies where it lay, on devices that went on
pub mirror_still : (count now width len : ℕ) (place : Place) (old new : ℕ → DeviceView) → SetGoesOn count now old new → IsMirror count width place len old → IsMirror now width place len new
mirror_still count now width len place old new set m = record {
  most = omega (arith, m.most, set.count);
  some = m.some;
  few = m.few;
  within = omega (arith, m.within, set.count);
  sectors = m.sectors;
  whole = m.whole;
  not_empty = m.not_empty;
  greatest = m.greatest;
  fits = λ k lt. omega (arith, m.fits k lt, set.sizes (first_of place.vdev width + k));
}

-- so does an item
pub lies_still : (count now width : ℕ) (item : Item) (old new : ℕ → DeviceView) → SetGoesOn count now old new → LiesOn count width item old → LiesOn now width item new
lies_still count now width item old new set l = record { lies = mirror_still count now width (size_of item) item.piece.place old new set l.lies; first = l.first }
