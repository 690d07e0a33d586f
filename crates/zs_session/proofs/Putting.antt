-- Writing the blocks of a sync, and syncing the devices that they were written to.
use Rattle.std.proofs.Common.{◌≡◌, ◌≢◌, ℕ, ◌<◌, ◌≤◌, ◌+◌, ◌^◌, ◌==◌, inl, inr, Bool, true, false, List, [], ◌∷◌, ◌++◌, length, map, take, slice_set, get_or, Option, option_map, refl, sym, ◌∙◌, ap, subst, arith, zero, suc, ◌/◌, ◌%◌}
use Rattle.std.specs.Prelude.{slice_index_or, Result, Err}
use Rattle.std.specs.Result.{IsErrAnd}
use Rattle.std.proofs.lemmas.Result.{err_from_is_err_and}
use Rattle.std.specs.Int.{bit_at}
use Rattle.std.proofs.lemmas.Bool.{cases_eq, cases_lt, false≢true}
use Rattle.std.proofs.lemmas.List.{take_more, map-append, get_or-set_same, get_or-set_other}
use Rattle.std.proofs.Math.Nat.{pow-suc}
use Rattle.std.proofs.lemmas.Nat.Bits.{bit_at-zero, bit_at-suc, bit_at_lowest, bit_at_ones}
use Rattle.zs_ids.specs.declared.block.Place.{Place}
use Rattle.zs_ids.specs.Graph.{Graph, Has}
use Rattle.zs_io.specs.Faults.{Rose}
use Rattle.zs_io.specs.declared.fault.BayFault.{BayFault}
use Rattle.zs_lane.specs.declared.mark.Mark.{Mark}
use Rattle.zs_lane.specs.declared.mark.Mark.TheVariants.{Wrote, Synced}
use Rattle.zs_lane.specs.Children.{DeviceView, OnlyOn, GoesOn}
use Rattle.zs_lane.specs.Lane.{Counts}
use Rattle.zs_lane.specs.declared.fault.LaneFault.{LaneFault}
use Rattle.zs_lane.specs.declared.fault.LaneFault.TheVariants.{Failed as LaneFailed}
use Rattle.zs_lane.proofs.GoingOn.{gains_twice, goes_on_stays}
use Rattle.zs_mirror.specs.Calls.{WasWritten, AreWritten}
use Rattle.zs_mirror.specs.Mirror.{nowhere, has_bit, first_of, start_of, IsOther, Leaves}
use Rattle.zs_objset.specs.declared.block.StagedBlock.{StagedBlock}
use Rattle.zs_scan.specs.Walks.{first_place, item_of}
use Rattle.zs_sum.specs.Sum.{sha256}
use Rattle.zs_core.specs.View.{CoreView}
use Rattle.zs_core.specs.Safe.{IsShaped, IsSafe}
use Rattle.zs_machine.specs.declared.shape.Shape.{Shape}
use Rattle.zs_machine.specs.Machine.{Txg}
use Rattle.zs_machine.specs.Shapes.{room_in}
use Rattle.zs_machine.specs.Writes.{AreStagedBlocks, AreInRoom, AreApart}
use Rattle.zs_session.specs.Devices.{Journals, journals, SetGoesOn, SomeRose, Calls, AreDevicesOf}
use Rattle.zs_session.specs.Plays.{Gains, GainsTo, write_of, PutsBlocks}
use Rattle.zs_session.specs.Writing.{IsWritable, AreWritable, GainsAll, SyncsFirst, PutsAt}
use Rattle.zs_session.proofs.Members.{has_seen}
use Rattle.zs_session.proofs.OnMirror.{on_first}
use Rattle.zs_session.proofs.Rooms.{mirror_still}
use Rattle.zs_session.proofs.Written.{all_writable, puts_blocks}
use Rattle.zs_session.proofs.Sets.{set_left, calls_stop}

-- a number is below the power of two of itself
below_pow : (n : ℕ) → n < 2 ^ n
below_pow zero = omega arith
below_pow (suc n) = omega (arith, below_pow n, pow-suc 2 n)

-- a number that is not 0 has a bit
bit_below : (k n : ℕ) → n ≢ 0 → n < 2 ^ k → (e : ℕ) × (bit_at n e ≡ 1)
bit_below zero n some fits = absurd (omega (arith, some, fits))
bit_below (suc k) n some fits = elim (cases_eq (n % 2) 0) as (λ _. (e : ℕ) × (bit_at n e ≡ 1)) [
  | inl even ↦
      let half = bit_below k (n / 2) (λ none. some (omega (arith, none, even))) (omega (arith, fits, pow-suc 2 k)) in
      (suc half.0, bit_at-suc n half.0 ∙ half.1)
  | inr odd ↦ (0, bit_at_lowest n ∙ omega (arith, odd))
]

some_bit : (n : ℕ) → n ≢ 0 → (e : ℕ) × (has_bit n e ≡ true)
some_bit n some =
    let it = bit_below n n some (below_pow n) in
    (it.0, ap (λ (b : ℕ). b == 1) it.1)

-- each device of a pool is online
pub all_online : (v : CoreView) (s : Shape) (online : ℕ) → IsShaped v → s ≡ v.shape → online ≡ v.state.online → (k : ℕ) → k < s.width → has_bit online k ≡ true
all_online v s online shaped same is k lt =
    let wide : s.width ≡ v.shape.width = ap (λ (x : Shape). x.width) same in
    let below : k < v.state.devices = omega (arith, lt, wide, shaped.devices, shaped.shape.devices) in
    ap (λ (m : ℕ). has_bit m k) (is ∙ shaped.online) ∙ ap (λ (b : ℕ). b == 1) (bit_at_ones v.state.devices k below)

-- the blocks of a transaction group can be written
pub staged_writable : (v : CoreView) (s : Shape) (count : ℕ) (devices : ℕ → DeviceView) (g : Graph) (txg : Txg) (blocks bs : List StagedBlock) → s ≡ v.shape → bs ≡ blocks → IsSafe v → AreDevicesOf v.shape count devices
    → AreStagedBlocks g txg blocks → AreInRoom (room_in v.shape v.end_sector 0) blocks → AreWritable count s.width bs devices
staged_writable v s count devices g txg blocks bs same are safe devs staged within =
    subst (λ (x : Shape). AreWritable count x.width bs devices) (sym same)
    (subst (λ (l : List StagedBlock). AreWritable count v.shape.width l devices) (sym are) (all_writable v count devices g txg blocks safe devs staged within))

-- and where they were, the blocks of the sync were put
pub staged_put : (v mid : CoreView) (s : Shape) (count : ℕ) (devices : ℕ → DeviceView) (g : Graph) (txg : Txg) (blocks bs : List StagedBlock) (places : List ℕ) (old new : Journals) → s ≡ v.shape → mid.shape ≡ v.shape
    → bs ≡ blocks → IsSafe v → AreDevicesOf v.shape count devices → AreStagedBlocks g txg blocks → AreInRoom (room_in v.shape v.end_sector 0) blocks → AreApart blocks → PutsAt s.width bs places old new
    → PutsBlocks mid.shape.width blocks places old new
staged_put v mid s count devices g txg blocks bs places old new same kept are safe devs staged within apart put =
    subst (λ (x : Shape). PutsBlocks x.width blocks places old new) (sym kept)
    (puts_blocks count v.shape.width devices (room_in v.shape v.end_sector 0) blocks places old new (all_writable v count devices g txg blocks safe devs staged within) within apart
    (subst (λ (x : Shape). PutsAt x.width blocks places old new) same (subst (λ (l : List StagedBlock). PutsAt s.width l places old new) are put)))

-- a call on one device
pub set_only : (dev n m : ℕ) (old new : ℕ → DeviceView) → OnlyOn dev n m old new → GoesOn (old dev) (new dev) → SetGoesOn n m old new
set_only dev n m old new only goes_on = record {
  count = only.count;
  sizes = only.sizes;
  each = λ e. elim (cases_eq e dev) [
    | inl here ↦ subst (λ (x : ℕ). GoesOn (old x) (new x)) (sym here) goes_on
    | inr ne ↦ goes_on_stays (old e) (new e) (only.others e ne)
  ];
}

-- one that failed
pub calls_failed : {T : Type 0} (dev n m : ℕ) (old new : ℕ → DeviceView) (r : Result T BayFault) → SetGoesOn n m old new → Rose (old dev).faults (new dev).faults → Calls n m old new r
calls_failed dev n m old new r set rose = record { set = set; failed = λ h. (dev, rose) }

-- a call that failed
pub failed_rose : (e : LaneFault) (place : ℕ) (before now : ℕ) → e ≡ LaneFailed place → Counts e before now → Rose before now
failed_rose e place before now is counts = subst (λ (x : LaneFault). Counts x before now) is counts

-- a write to a device that is online, which failed or was done
write_failed : (online failed : Bool) (at : ℕ) (bytes : List ℕ) (place : ℕ) (old new : DeviceView) → failed ≡ true → online ≡ true → WasWritten online failed at bytes place old new → Rose old.faults new.faults
write_failed true true at bytes place old new is on was = was.faults
write_failed true false at bytes place old new is on was = absurd (false≢true is)
write_failed false failed at bytes place old new is on was = absurd (false≢true on)

write_done : (online failed : Bool) (at : ℕ) (bytes : List ℕ) (place : ℕ) (old new : DeviceView) → failed ≡ false → online ≡ true → WasWritten online failed at bytes place old new
    → Gains (Wrote at (length bytes) (sha256 bytes) ∷ []) old.journal new.journal
write_done true false at bytes place old new is on was = was.journal
write_done true true at bytes place old new is on was = absurd (false≢true (sym is))
write_done false failed at bytes place old new is on was = absurd (false≢true on)

-- a device behind the first ones holds no copy of the one mirror
beyond : (vdev width dev : ℕ) → vdev ≡ 0 → width ≤ dev → IsOther (first_of vdev width) width dev
beyond vdev width dev zero_is high k lt is =
    let at : dev ≡ k = is ∙ on_first vdev width k zero_is in
    absurd (omega arith)

module _ (online width at : ℕ) (bytes : List ℕ) (failed : ℕ) (places : List ℕ) (place : Place) (old new : ℕ → DeviceView) (zero_is : place.vdev ≡ 0)
    (all : (k : ℕ) → k < width → has_bit online k ≡ true) (written : AreWritten online (first_of place.vdev width) width at bytes failed places old new) where
  -- the write to a device of the one mirror
  at_dev : (k : ℕ) → k < width → WasWritten (has_bit online k) (has_bit failed k) at bytes (slice_index_or places k nowhere) (old k) (new k)
  at_dev k lt = subst (λ (d : ℕ). WasWritten (has_bit online d) (has_bit failed d) at bytes (slice_index_or places d nowhere) (old d) (new d))
      (on_first place.vdev width k zero_is) (written.each k lt)

  -- where one failed, the count of a device rose
  pub some_failed : failed ≢ 0 → SomeRose old new
  some_failed some =
      let at_bit = some_bit failed some in (
        at_bit.0,
        elim (cases_lt at_bit.0 width) as (λ _. Rose (old at_bit.0).faults (new at_bit.0).faults) [
          | inl low ↦ write_failed (has_bit online at_bit.0) (has_bit failed at_bit.0) at bytes (slice_index_or places at_bit.0 nowhere) (old at_bit.0) (new at_bit.0) at_bit.1 (all at_bit.0 low) (at_dev at_bit.0 low)
          | inr high ↦ absurd (false≢true (sym (written.none_else at_bit.0 (beyond place.vdev width at_bit.0 zero_is high)) ∙ at_bit.1))
        ],
      )

  -- where none did, each journal has the mark of the write
  pub all_written : (n m : ℕ) → failed ≡ 0 → Leaves (first_of place.vdev width) width n m old new → GainsAll width (Wrote at (length bytes) (sha256 bytes) ∷ []) (journals old) (journals new)
  all_written n m none leaves = record {
    gains = λ dev lt. write_done (has_bit online dev) (has_bit failed dev) at bytes (slice_index_or places dev nowhere) (old dev) (new dev) (clear dev) (all dev lt) (at_dev dev lt);
    others = λ dev high. (leaves.others dev (beyond place.vdev width dev zero_is high)).journal;
  }
    where
      clear : (dev : ℕ) → has_bit failed dev ≡ false
      clear dev = ap (λ (m : ℕ). has_bit m dev) none ∙ ap (λ (b : ℕ). b == 1) (bit_at-zero dev)

-- the first place of a block, as its places have it
first_is : (places : List Place) → get_or places 0 (record { vdev = 0; sector = 0 }) ≡ first_place places
first_is [] = refl
first_is (p ∷ ps) = refl

module _ (online width : ℕ) (block : StagedBlock) (bytes : List ℕ) (place : Place) (failed : ℕ) (places : List ℕ) (n m : ℕ) (old new : ℕ → DeviceView) (zero_is : (item_of block.bp).piece.place.vdev ≡ 0)
    (all : (k : ℕ) → k < width → has_bit online k ≡ true) (bytes_are : bytes ≡ block.bytes) (place_is : place ≡ get_or block.bp.places 0 (record { vdev = 0; sector = 0 }))
    (written : AreWritten online (first_of place.vdev width) width (start_of place) bytes failed places old new) (leaves : Leaves (first_of place.vdev width) width n m old new) where
  at_first : place ≡ (item_of block.bp).piece.place
  at_first = place_is ∙ first_is block.bp.places

  of_first : place.vdev ≡ 0
  of_first = ap (λ (p : Place). p.vdev) at_first ∙ zero_is

  -- a block was written on the devices of the one mirror
  pub block_written : failed ≡ 0 → GainsAll width (write_of block ∷ []) (journals old) (journals new)
  block_written none = subst (λ (p : Place). GainsAll width (Wrote (start_of p) (length block.bytes) (sha256 block.bytes) ∷ []) (journals old) (journals new)) at_first
      (subst (λ (b : List ℕ). GainsAll width (Wrote (start_of place) (length b) (sha256 b) ∷ []) (journals old) (journals new)) bytes_are
      (all_written online width (start_of place) bytes failed places place old new of_first all written n m none leaves))

  -- or a write of it failed
  pub block_failed : {T : Type 0} (r : Result T BayFault) → failed ≢ 0 → Calls n m old new r
  block_failed r some = record {
    set = set_left (first_of place.vdev width) width n m old new leaves;
    failed = λ h. some_failed online width (start_of place) bytes failed places place old new of_first all written some;
  }

-- calls, and then others that failed, which is handed on
pub calls_handed : {T U : Type 0} {Q : BayFault → Type 0} (r : Result U BayFault) (e : BayFault) (n m l : ℕ) (old mid new : ℕ → DeviceView) → IsErrAnd r Q → ((y : BayFault) → Q y → y ≡ e)
    → SetGoesOn n m old mid → Calls {T = T} m l mid new (Err e) → Calls {T = U} n l old new r
calls_handed r e n m l old mid new is same one two =
    let was = err_from_is_err_and r is in
    calls_stop r e n m l old mid new (was.1 ∙ ap (λ (y : BayFault). Err y) (same was.0 was.2)) one two

-- marks, and then others
gains_both : (a b : List Mark) (old mid new : Option (List Mark)) → Gains a old mid → Gains b mid new → Gains (a ++ b) old new
gains_both a b old mid new one two = two ∙ (ap (option_map (λ j. j ++ b)) one ∙ gains_twice a b old)

-- the marks of the first blocks, and that of the next
pub gains_more : (width : ℕ) (blocks : List StagedBlock) (i : ℕ) (b : StagedBlock) (old mid new : Journals) → i < length blocks → b ≡ get_or blocks i b
    → GainsAll width (map write_of (take i blocks)) old mid → GainsAll width (write_of b ∷ []) mid new → GainsAll width (map write_of (take (i + 1) blocks)) old new
gains_more width blocks i b old mid new below is one two = record {
  gains = λ dev lt. subst (λ (ms : List Mark). Gains ms (old dev) (new dev)) (sym more) (gains_both (map write_of (take i blocks)) (write_of b ∷ []) (old dev) (mid dev) (new dev) (one.gains dev lt) (two.gains dev lt));
  others = λ dev high. two.others dev high ∙ one.others dev high;
}
  where
    more : map write_of (take (i + 1) blocks) ≡ map write_of (take i blocks) ++ write_of b ∷ []
    more = ap (map write_of) (take_more blocks i b below) ∙ (map-append write_of (take i blocks) (get_or blocks i b ∷ []) ∙ ap (λ (x : StagedBlock). map write_of (take i blocks) ++ write_of x ∷ []) (sym is))

-- a block can be written on devices that went on
pub writable_still : (count now width : ℕ) (blocks : List StagedBlock) (i : ℕ) (b : StagedBlock) (old new : ℕ → DeviceView) → i < length blocks → b ≡ get_or blocks i b → SetGoesOn count now old new
    → ((x : StagedBlock) → Has blocks x → IsWritable count width x old) → IsWritable now width b new
writable_still count now width blocks i b old new below is set all =
    let was = all b (has_seen blocks i b below is) in
    record { sum = was.sum; placed = was.placed; first = was.first; lies = mirror_still count now width (length b.bytes) (item_of b.bp).piece.place old new set was.lies }

-- one device more was
module _ (dev : ℕ) (places : List ℕ) (place : ℕ) (old mid new : Journals) (within : dev < length places) (first : SyncsFirst dev places old mid)
    (gained : GainsTo (Synced ∷ []) place (mid dev) (new dev)) (others : (e : ℕ) → e ≢ dev → new e ≡ mid e) where
  Each : ℕ → Type 0
  Each e = GainsTo (Synced ∷ []) (slice_index_or (slice_set places dev place) e nowhere) (old e) (new e)

  this : Each dev
  unfolding Each
  this = rw (get_or-set_same places dev place nowhere within)
      (subst (λ (j : Option (List Mark)). GainsTo (Synced ∷ []) place j (new dev)) ((first.others dev (omega arith)).0) gained)

  earlier : (e : ℕ) → e < dev → e ≢ dev → Each e
  unfolding Each
  earlier e lt ne = rw (get_or-set_other places dev e place nowhere ne)
      (subst (λ (j : Option (List Mark)). GainsTo (Synced ∷ []) (slice_index_or places e nowhere) (old e) j) (sym (others e ne)) (first.synced e lt))

  each_one : (e : ℕ) → e < dev + 1 → Each e
  each_one e lt = elim (cases_eq e dev) [
    | inl here ↦ subst (λ (x : ℕ). Each x) (sym here) this
    | inr ne ↦ earlier e (omega (arith, lt, ne)) ne
  ]

  later : (e : ℕ) → dev + 1 ≤ e → e ≢ dev → (new e ≡ old e) × (slice_index_or (slice_set places dev place) e nowhere ≡ nowhere)
  later e high ne =
      let was = first.others e (omega (arith, high)) in
      (others e ne ∙ was.0, get_or-set_other places dev e place nowhere ne ∙ was.1)

  pub syncs_more : (at : ℕ) → at ≡ dev → SyncsFirst (dev + 1) (slice_set places at place) old new
  unfolding Each
  syncs_more at is = subst (λ (n : ℕ). SyncsFirst (dev + 1) (slice_set places n place) old new) (sym is) (record {
    synced = each_one;
    others = λ e high. later e high (λ (same : e ≡ dev). omega (arith, high, same));
  })
