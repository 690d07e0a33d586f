-- The writes of a sync's data: what was born in it was written and synced, and the calls that it names were made.
use Rattle.std.proofs.Common.{◌≡◌, ◌≢◌, inl, inr, ℕ, ◌+◌, ◌*◌, ◌≤◌, ◌<◌, ◌==◌, Bool, true, false, List, [], ◌∷◌, map, length, refl, sym, ◌∙◌, ap, subst, arith}
use Rattle.std.specs.Prelude.{IsSome, slice_index_or}
use Rattle.std.proofs.lemmas.Bool.{cases_lt, false≢true}
use Rattle.std.proofs.lemmas.Bool.Decides.{nat_tests}
use Rattle.std.proofs.lemmas.Nat.Bits.{bit_at-zero}
use Rattle.std.specs.Int.{bit_at}
use Rattle.zs_ids.specs.declared.block.Item.{Item}
use Rattle.zs_ids.specs.declared.block.Marks.{Marks}
use Rattle.zs_ids.specs.Graph.{Has, pieces_of}
use Rattle.zs_ids.specs.GraphValid.{Overlap}
use Rattle.zs_lane.specs.declared.mark.Mark.TheVariants.{Synced}
use Rattle.zs_lane.specs.Journal.{Touch, overlap, later}
use Rattle.zs_lane.specs.Journal.Touch.{Untouched, Holds}
use Rattle.zs_mirror.specs.Mirror.{nowhere, has_bit, first_of, start_of, size_of}
use Rattle.zs_objset.specs.declared.block.StagedBlock.{StagedBlock}
use Rattle.zs_scan.specs.Walks.{item_of}
use Rattle.zs_sum.specs.Sum.{sha256}
use Rattle.zs_machine.specs.Matches.{wrote, last_write, calls_from, IsSyncedWrite, IsDataBorneOut}
use Rattle.zs_machine.specs.Writes.{AreApart}
use Rattle.zs_session.specs.Devices.{Journals, marks_of, AreLonger}
use Rattle.zs_session.specs.Plays.{write_of, data_marks, PutsBlocks, WereWritten}
use Rattle.zs_session.proofs.Marking.{EndsWith, ends_with, wrote_same, wrote_apart, synced_at}
use Rattle.zs_session.proofs.CallsMade.{AreMade}
use Rattle.zs_session.proofs.CheckedCalls.{gains_same, IsNew}
use Rattle.zs_session.proofs.OnMirror.{AreTold, on_first, made_on}

-- the first byte of a block's copies
abbrev start : StagedBlock → ℕ
start b = start_of (item_of b.bp).piece.place

-- a block lies at its first place on the one mirror, with all its bytes, and has some
record IsLaid (b : StagedBlock) : Type 0 where
  size : length b.bytes ≡ 512 * b.bp.sectors
  some : 1 ≤ b.bp.sectors
  placed : Has (pieces_of b.bp) (item_of b.bp).piece
  first : (item_of b.bp).piece.place.vdev ≡ 0

-- so does each of some blocks
abbrev AreLaid : List StagedBlock → Type 0
AreLaid blocks = (b : StagedBlock) → Has blocks b → IsLaid b

-- the bytes of blocks that share no sector are apart
bytes_apart : (b c : StagedBlock) → IsLaid b → IsLaid c → (Overlap b.bp c.bp → ⊥) → overlap (start b) (length b.bytes) (start c) (length c.bytes) ≡ false
bytes_apart b c lb lc apart = go (overlap (start b) (length b.bytes) (start c) (length c.bytes)) refl
  where
    meet : (p q m n : ℕ) → overlap (512 * p) (512 * m) (512 * q) (512 * n) ≡ true → (p < q + n) × (q < p + m)
    meet p q m n meets = grind (arith, nat_tests)

    go : (t : Bool) → overlap (start b) (length b.bytes) (start c) (length c.bytes) ≡ t → t ≡ false
    go false is = refl
    go true is =
        let share : ((item_of b.bp).piece.place.sector < (item_of c.bp).piece.place.sector + c.bp.sectors)
        × ((item_of c.bp).piece.place.sector < (item_of b.bp).piece.place.sector + b.bp.sectors) =
        meet (item_of b.bp).piece.place.sector (item_of c.bp).piece.place.sector b.bp.sectors c.bp.sectors
        (ap (λ (m : ℕ). overlap (start b) m (start c) (512 * c.bp.sectors)) (sym lb.size) ∙ (ap (λ (n : ℕ). overlap (start b) (length b.bytes) (start c) n) (sym lc.size) ∙ is)) in
        absurd (apart (record {
          first = (item_of b.bp).piece;
          second = (item_of c.bp).piece;
          is_first = lb.placed;
          is_second = lc.placed;
          vdev = lb.first ∙ sym lc.first;
          before = share.0;
          behind = share.1;
        }))

-- the writes of blocks that lie apart from a block say nothing of it
all_apart : (b : StagedBlock) (bs : List StagedBlock) → IsLaid b → AreLaid bs → ((c : StagedBlock) → Has bs c → Overlap b.bp c.bp → ⊥)
    → last_write (start b) (length b.bytes) (map write_of bs) ≡ Untouched
all_apart b [] lb laid apart = refl
all_apart b (c ∷ cs) lb laid apart =
    let rest : last_write (start b) (length b.bytes) (map write_of cs) ≡ Untouched = all_apart b cs lb (λ d h. laid d (inr h)) (λ d h. apart d (inr h)) in
    ap (λ (t : Touch). later t (wrote (start b) (length b.bytes) (write_of c))) rest
    ∙ wrote_apart (start b) (length b.bytes) (start c) (length c.bytes) (sha256 c.bytes) (bytes_apart b c lb (laid c (inl refl)) (apart c (inl refl)))

-- of blocks that lie apart, the last write that overlaps the range of one is its own
own_write : (blocks : List StagedBlock) (b : StagedBlock) → Has blocks b → AreLaid blocks → AreApart blocks
    → last_write (start b) (length b.bytes) (map write_of blocks) ≡ Holds (sha256 b.bytes)
own_write [] b h laid apart = absurd h
own_write (c ∷ cs) b (inl is) laid apart = subst (λ (x : StagedBlock). last_write (start x) (length x.bytes) (map write_of (c ∷ cs)) ≡ Holds (sha256 x.bytes)) is own
  where
    own : last_write (start c) (length c.bytes) (map write_of (c ∷ cs)) ≡ Holds (sha256 c.bytes)
    own =
        let it : IsLaid c = laid c (inl refl) in
        ap (λ (t : Touch). later t (wrote (start c) (length c.bytes) (write_of c))) (all_apart c cs it (λ d h. laid d (inr h)) apart.0)
        ∙ wrote_same (start c) (length c.bytes) (sha256 c.bytes) (omega (arith, it.size, it.some))
own_write (c ∷ cs) b (inr h) laid apart =
    ap (λ (t : Touch). later t (wrote (start b) (length b.bytes) (write_of c))) (own_write cs b h (λ d i. laid d (inr i)) apart.1)

module _ (width : ℕ) (blocks : List StagedBlock) (places : List ℕ) (old new : Journals) (puts : PutsBlocks width blocks places old new) where
  -- the writes of blocks only add marks
  pub puts_longer : AreLonger old new
  puts_longer dev = elim (cases_lt dev width) [
    | inl low ↦ (data_marks blocks, puts.gains dev low)
    | inr high ↦ gains_same (old dev) (new dev) ((puts.others dev high).0)
  ]

  -- the blocks that were written lie so
  laid : AreLaid blocks
  laid b h = record { size = puts.sizes b h; some = puts.not_empty b h; placed = puts.placed b h; first = puts.mirror b h }

-- what the journal of a device has more ends with the sync, where there are blocks
puts_ends : (width : ℕ) (b : StagedBlock) (bs : List StagedBlock) (places : List ℕ) (old new : Journals) → PutsBlocks width (b ∷ bs) places old new
    → (dev : ℕ) → dev < width → IsSome (old dev) → EndsWith (map write_of (b ∷ bs)) Synced (slice_index_or places dev nowhere) (marks_of old dev) (marks_of new dev)
puts_ends width b bs places old new puts dev lt told =
    ends_with (map write_of (b ∷ bs)) Synced (slice_index_or places dev nowhere) (old dev) (new dev) told
    (record { gains = puts.gains dev lt; last = puts.last dev lt (λ none. cc) })

-- each block was written and synced
block_synced : (width : ℕ) (blocks : List StagedBlock) (places : List ℕ) (old new : Journals) → PutsBlocks width blocks places old new → AreTold width old
    → (b : StagedBlock) → Has blocks b → (dev : ℕ) → dev < width
    → IsSyncedWrite (marks_of new dev) (slice_index_or places dev nowhere) (start b) (512 * b.bp.sectors) b.bp.sum
block_synced width [] places old new puts told b h dev lt = absurd h
block_synced width (c ∷ cs) places old new puts told b h dev lt =
    let own : last_write (start b) (length b.bytes) (map write_of (c ∷ cs)) ≡ Holds (sha256 b.bytes) =
    own_write (c ∷ cs) b h (laid width (c ∷ cs) places old new puts) puts.apart in
    rw (← puts.sizes b h, ← puts.sums b h)
    (synced_at (start b) (length b.bytes) (slice_index_or places dev nowhere) (sha256 b.bytes) (map write_of (c ∷ cs)) (marks_of old dev) (marks_of new dev) own
    (puts_ends width c cs places old new puts dev lt (told dev lt)))

-- the calls that the places name were made
puts_made : (width : ℕ) (blocks : List StagedBlock) (places : List ℕ) (old new : Journals) → PutsBlocks width blocks places old new → AreTold width old
    → AreMade (marks_of old) (marks_of new) (calls_from 0 places)
puts_made width blocks places old new puts told = made_on 0 width places old new at (λ k high. (puts.others k high).1)
  where
    fresh : (bs : List StagedBlock) → PutsBlocks width bs places old new → (k : ℕ) → k < width → slice_index_or places k nowhere ≢ nowhere
        → IsNew (slice_index_or places k nowhere) (marks_of old k) (marks_of new k)
    fresh [] puts k lt there = absurd (there (puts.none refl k))
    fresh (b ∷ bs) puts k lt there =
        let ends : EndsWith (map write_of (b ∷ bs)) Synced (slice_index_or places k nowhere) (marks_of old k) (marks_of new k) =
        puts_ends width b bs places old new puts k lt (told k lt) in
        record { since = ends.since; marked = ends.marked }

    at : (k : ℕ) → k < width → slice_index_or places k nowhere ≢ nowhere → IsNew (slice_index_or places k nowhere) (marks_of old (0 + k)) (marks_of new (0 + k))
    at k lt there =
        let same : k ≡ 0 + k = omega arith in
        subst (λ (d : ℕ). IsNew (slice_index_or places k nowhere) (marks_of old d) (marks_of new d)) same (fresh blocks puts k lt there)

module _ (width : ℕ) (online : ℕ) (marks : Marks) (items : List Item) (old new : Journals) (written : WereWritten width marks items old new) where
  -- the data of a sync only add marks
  pub data_adds : AreLonger old new
  data_adds = puts_longer width written.blocks marks.places old new written.puts

  -- what the end of the data claims is borne out
  pub data_borne : AreTold width old → IsDataBorneOut width (marks_of new) online marks items
  data_borne told = record { failed = λ dev on. absurd (none dev on); written = synced }
    where
      none : (dev : ℕ) → has_bit marks.failed dev ≡ true → ⊥
      none dev on =
          let off : bit_at marks.failed dev ≡ 0 = ap (λ (m : ℕ). bit_at m dev) written.none_failed ∙ bit_at-zero dev in
          false≢true (ap (λ (b : ℕ). b == 1) (sym off) ∙ on)

      synced : (i : Item) → Has items i → (k : ℕ) → k < width → has_bit marks.failed (first_of i.piece.place.vdev width + k) ≡ false
          → IsSyncedWrite (marks_of new (first_of i.piece.place.vdev width + k)) (slice_index_or marks.places (first_of i.piece.place.vdev width + k) nowhere)
          (start_of i.piece.place) (size_of i) i.sum
      synced i h k lt off =
          let b = written.born i h in
          let first : i.piece.place.vdev ≡ 0 = ap (λ (x : Item). x.piece.place.vdev) b.2 ∙ written.puts.mirror b.0 b.1 in
          subst (λ (d : ℕ). IsSyncedWrite (marks_of new d) (slice_index_or marks.places d nowhere) (start_of i.piece.place) (size_of i) i.sum)
          (sym (on_first i.piece.place.vdev width k first))
          (subst (λ (x : Item). IsSyncedWrite (marks_of new k) (slice_index_or marks.places k nowhere) (start_of x.piece.place) (size_of x) x.sum)
          (sym b.2) (block_synced width written.blocks marks.places old new written.puts told b.0 b.1 k lt))

  -- the calls that it names were made
  pub data_made : AreTold width old → AreMade (marks_of old) (marks_of new) (calls_from 0 marks.places)
  data_made told = puts_made width written.blocks marks.places old new written.puts told
