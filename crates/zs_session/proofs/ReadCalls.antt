-- The calls of a read: what its end claims is borne out, and the calls that it names were made.
use Rattle.std.proofs.Common.{◌≡◌, ◌≢◌, inl, inr, ℕ, ◌+◌, ◌<◌, List, sym, subst, arith}
use Rattle.std.specs.Prelude.{IsSome, slice_index_or}
use Rattle.std.proofs.lemmas.Bool.{cases_lt}
use Rattle.zs_ids.specs.declared.block.Item.{Item}
use Rattle.zs_mirror.specs.Mirror.{nowhere, has_bit, first_of, start_of, size_of}
use Rattle.zs_script.specs.declared.refusal.Refusal.TheVariants.{ReadLost}
use Rattle.zs_script.specs.declared.reply.Reply.{Reply}
use Rattle.zs_script.specs.declared.reply.Reply.TheVariants as replies
use Rattle.zs_machine.specs.declared.event.ReadPlan.{ReadPlan}
use Rattle.zs_machine.specs.declared.event.ReadPlan.TheVariants as plans
use Rattle.zs_machine.specs.Matches.{IsReadBorneOut, read_calls, calls_from}
use Rattle.zs_session.specs.Devices.{Journals, marks_of, AreLonger}
use Rattle.zs_session.specs.Plays.{TriesAll, FindsCopy, EndsIn}
use Rattle.zs_session.proofs.CallsMade.{AreMade, none_made}
use Rattle.zs_session.proofs.CheckedCalls.{GainsSome, gains_to, tried_longer, IsNew, IsTryShown, try_shown, find_shown}
use Rattle.zs_session.proofs.CheckedEntries.{longer_same}
use Rattle.zs_session.proofs.OnMirror.{AreTold, on_first, longer_from, made_on}

-- the device of a copy on the one mirror is told
copy_told : (vdev width k : ℕ) (old : Journals) → vdev ≡ 0 → AreTold width old → k < width → IsSome (old (first_of vdev width + k))
copy_told vdev width k old first told lt = subst (λ (d : ℕ). IsSome (old d)) (sym (on_first vdev width k first)) (told k lt)

-- what holds below a copy and of it holds up to it
up_to : (copy : ℕ) (P : ℕ → Type 0) → ((k : ℕ) → k < copy → P k) → P copy → (k : ℕ) → k < copy + 1 → P k
up_to copy P below at k lt = elim (cases_lt k copy) [
  | inl low ↦ below k low
  | inr high ↦ let is : copy ≡ k = omega arith in subst P is at
]

module _ (width online : ℕ) (item : Item) (places : List ℕ) (old new : Journals) (tries : TriesAll width online item places old new) where
  -- tries only add marks
  tries_longer : AreLonger old new
  tries_longer = longer_from item.piece.place.vdev width width old new tries.mirror (λ k lt. tried_longer _ _ _ _ _ _ _ (tries.each k lt)) tries.others

  -- what a try shows of each copy
  tried : AreTold width old → (k : ℕ) → k < width
      → IsTryShown (has_bit online (first_of item.piece.place.vdev width + k)) (start_of item.piece.place) (size_of item) item.sum (slice_index_or places k nowhere)
      (marks_of old (first_of item.piece.place.vdev width + k)) (marks_of new (first_of item.piece.place.vdev width + k))
  tried told k lt = try_shown _ _ _ _ _ _ _ (copy_told item.piece.place.vdev width k old tries.mirror told lt) (tries.each k lt)

  -- the calls that it names were made
  tries_made : AreTold width old → AreMade (marks_of old) (marks_of new) (calls_from (first_of item.piece.place.vdev width) places)
  tries_made told = made_on (first_of item.piece.place.vdev width) width places old new (λ k lt. (tried told k lt).new_call) tries.nowhere_else

module _ (width online : ℕ) (item : Item) (places : List ℕ) (old new : Journals) (finds : FindsCopy width online item places old new) where
  -- so do tries up to a good copy
  finds_longer : AreLonger old new
  finds_longer = longer_from item.piece.place.vdev width (finds.copy + 1) old new finds.mirror
      (up_to finds.copy (λ (k : ℕ). GainsSome (old (first_of item.piece.place.vdev width + k)) (new (first_of item.piece.place.vdev width + k)))
      (λ k lt. tried_longer _ _ _ _ _ _ _ (finds.before k lt)) (gains_to _ _ _ _ finds.good)) finds.others

  -- the call of a copy, if one is named, is new
  abbrev NewAt : ℕ → Type 0
  NewAt k = slice_index_or places k nowhere ≢ nowhere
      → IsNew (slice_index_or places k nowhere) (marks_of old (first_of item.piece.place.vdev width + k)) (marks_of new (first_of item.piece.place.vdev width + k))

  -- the calls that it names were made
  finds_made : AreTold width old → AreMade (marks_of old) (marks_of new) (calls_from (first_of item.piece.place.vdev width) places)
  finds_made told = made_on (first_of item.piece.place.vdev width) (finds.copy + 1) places old new
      (up_to finds.copy NewAt
      (λ k lt. (try_shown _ _ _ _ _ _ _ (copy_told item.piece.place.vdev width k old finds.mirror told (omega (arith, lt, finds.there))) (finds.before k lt)).new_call)
      (λ there. (find_shown _ _ _ _ _ _ (copy_told item.piece.place.vdev width finds.copy old finds.mirror told finds.there) finds.good).1))
      (λ k high. finds.nowhere_else k (omega (arith, high)))

  -- the answer of such a read is borne out
  found : AreTold width old → IsReadBorneOut width (marks_of new) (plans.Pinned item online) places replies.Nothing
  found told = (finds.copy, finds.there, (find_shown _ _ _ _ _ _ (copy_told item.piece.place.vdev width finds.copy old finds.mirror told finds.there) finds.good).0)

-- a read only adds marks
pub read_adds : (width : ℕ) (p : ReadPlan) (places : List ℕ) (answer : Reply) (old new : Journals) → EndsIn width p places answer old new → AreLonger old new
read_adds width (plans.Pinned item online) places (replies.Refused ReadLost) old new ends = tries_longer width online item places old new ends
read_adds width (plans.Pinned item online) places answer old new ends = finds_longer width online item places old new ends
read_adds width other places answer old new same = longer_same old new same

-- what its end claims is borne out
pub read_borne : (width : ℕ) (p : ReadPlan) (places : List ℕ) (answer : Reply) (old new : Journals) → AreTold width old → EndsIn width p places answer old new
    → IsReadBorneOut width (marks_of new) p places answer
read_borne width (plans.Pinned item online) places (replies.Refused ReadLost) old new told ends = λ k lt. (tried width online item places old new ends told k lt).vain
read_borne width (plans.Pinned item online) places answer old new told ends = found width online item places old new ends told
read_borne width other places answer old new told same = tt

-- the calls that it names were made
pub read_made : (width : ℕ) (p : ReadPlan) (places : List ℕ) (answer : Reply) (old new : Journals) → AreTold width old → EndsIn width p places answer old new
    → AreMade (marks_of old) (marks_of new) (read_calls width p places)
read_made width (plans.Pinned item online) places (replies.Refused ReadLost) old new told ends = tries_made width online item places old new ends told
read_made width (plans.Pinned item online) places answer old new told ends = finds_made width online item places old new ends told
read_made width other places answer old new told same = none_made (marks_of old) (marks_of new)
