-- What the events of a history claim stays true as the journals grow.
use Rattle.std.proofs.Common.{inl, inr, ℕ, ◌+◌, ◌<◌, List, [], ◌∷◌, ◌++◌, length, arith}
use Rattle.zs_ids.specs.declared.block.Item.{Item}
use Rattle.zs_ids.specs.declared.block.Marks.{Marks}
use Rattle.zs_ids.specs.declared.block.Piece.{Piece}
use Rattle.zs_lane.specs.declared.mark.Mark.{Mark}
use Rattle.zs_lane.specs.declared.mark.Mark.TheVariants.{Read, Synced, Failed}
use Rattle.zs_ledger.specs.declared.entry.CopyResult.{CopyResult}
use Rattle.zs_ledger.specs.declared.entry.CopyResult.TheVariants as copies
use Rattle.zs_ledger.specs.declared.entry.Entry.{Entry}
use Rattle.zs_mirror.specs.Mirror.{first_of}
use Rattle.zs_script.specs.declared.refusal.Refusal.TheVariants.{ReadLost}
use Rattle.zs_script.specs.declared.reply.Reply.{Reply}
use Rattle.zs_script.specs.declared.reply.Reply.TheVariants as reply
use Rattle.zs_machine.specs.declared.event.Event.{Event}
use Rattle.zs_machine.specs.declared.event.ReadPlan.{ReadPlan}
use Rattle.zs_machine.specs.declared.event.ReadPlan.TheVariants as plan
use Rattle.zs_machine.specs.declared.event.Step.{Step}
use Rattle.zs_machine.specs.declared.event.Step.TheVariants as step
use Rattle.zs_machine.specs.Flight.{Flying, in_flight}
use Rattle.zs_machine.specs.Matches.{IsOtherRead, IsSyncedWrite, IsBorneOut, IsEntryBorneOut, IsVerdictBorneOut, WasInVain, IsReadBorneOut, IsDataBorneOut, BearsOut, AllBorneOut, Matches}
use Rattle.zs_session.specs.Devices.{Journals, marks_of, AreLonger}
use Rattle.zs_session.proofs.Marking.{IsLonger, AllLonger, all_longer, get_longer, take_longer, length_longer}

-- a read that had another sum stays such a read
other_longer : (a b : List Mark) (place at len : ℕ) (sum : List ℕ) → IsLonger a b → IsOtherRead a place at len sum → IsOtherRead b place at len sum
other_longer a b place at len sum longer read = (read.0, read.1, get_longer a b place (Read at len read.0) longer read.2)

-- a write that was synced stays one
synced_longer : (a b : List Mark) (place at len : ℕ) (sum : List ℕ) → IsLonger a b → IsSyncedWrite a place at len sum → IsSyncedWrite b place at len sum
synced_longer a b place at len sum longer it = record {
  synced = get_longer a b place Synced longer it.synced;
  wrote = rw (take_longer a b place Synced longer it.synced) it.wrote;
}

-- a letter that is borne out stays so
borne_longer : (copy : CopyResult) (a b : List Mark) (place at len : ℕ) (sum : List ℕ) → IsLonger a b → IsBorneOut copy a place at len sum → IsBorneOut copy b place at len sum
borne_longer copies.Good a b place at len sum longer it = get_longer a b place (Read at len sum) longer it
borne_longer copies.Bad a b place at len sum longer it = other_longer a b place at len sum longer it
borne_longer copies.Rewritten a b place at len sum longer it = synced_longer a b place at len sum longer it
borne_longer copies.Fault a b place at len sum longer it = get_longer a b place Failed longer it
borne_longer copies.Absent a b place at len sum longer it = it
borne_longer copies.Missing a b place at len sum longer it = absurd it

-- an entry that is borne out stays so
pub entry_longer : (width online : ℕ) (old new : ℕ → List Mark) (e : Entry) → AllLonger old new → IsEntryBorneOut width online old e → IsEntryBorneOut width online new e
entry_longer width online old new e longer it = record {
  each = λ k lt. borne_longer _ _ _ _ _ _ _ (longer (first_of e.piece.place.vdev width + k)) (it.each k lt);
  absent = it.absent;
  offline = it.offline;
  alone = it.alone;
  nowhere_else = it.nowhere_else;
}

-- so does a verdict
verdict_longer : (width : ℕ) (old new : ℕ → List Mark) (flying : List Flying) (number : ℕ) (pieces : List Piece) (entries : List Entry) → AllLonger old new
    → IsVerdictBorneOut width old flying number pieces entries → IsVerdictBorneOut width new flying number pieces entries
verdict_longer width old new flying number pieces entries longer it = record {
  online = it.online;
  taken = it.taken;
  each = λ e h. entry_longer width it.online old new e longer (it.each e h);
}

-- a read that was in vain stays so
vain_longer : (a b : List Mark) (place at len : ℕ) (sum : List ℕ) → IsLonger a b → WasInVain a place at len sum → WasInVain b place at len sum
vain_longer a b place at len sum longer (inl is) = inl (get_longer a b place Failed longer is)
vain_longer a b place at len sum longer (inr is) = inr (other_longer a b place at len sum longer is)

-- the end of a read that is borne out stays so
read_longer : (width : ℕ) (old new : ℕ → List Mark) (p : ReadPlan) (places : List ℕ) (answer : Reply) → AllLonger old new
    → IsReadBorneOut width old p places answer → IsReadBorneOut width new p places answer
read_longer width old new (plan.Pinned item online) places (reply.Refused ReadLost) longer it =
    λ k lt on. vain_longer _ _ _ _ _ _ (longer (first_of item.piece.place.vdev width + k)) (it k lt on)
read_longer width old new (plan.Pinned item online) places answer longer (k, lt, is) =
    (k, lt, get_longer _ _ _ _ (longer (first_of item.piece.place.vdev width + k)) is)
read_longer width old new other places answer longer it = tt

-- so does the end of a sync's data
data_longer : (width : ℕ) (old new : ℕ → List Mark) (online : ℕ) (marks : Marks) (items : List Item) → AllLonger old new
    → IsDataBorneOut width old online marks items → IsDataBorneOut width new online marks items
data_longer width old new online marks items longer it = record {
  failed = λ dev on. elim (it.failed dev on) [ inl off ↦ inl off | inr is ↦ inr (get_longer _ _ _ Failed (longer dev) is) ];
  written = λ i h k lt off. synced_longer _ _ _ _ _ _ (longer (first_of i.piece.place.vdev width + k)) (it.written i h k lt off);
}

-- and so each event
bears_longer : (width : ℕ) (old new : ℕ → List Mark) (before : List Event) (by : ℕ) (s : Step) (answer : Reply) → AllLonger old new
    → BearsOut width old before (record { by = by; step = s; reply = answer }) → BearsOut width new before (record { by = by; step = s; reply = answer })
bears_longer width old new before by (step.Verdict number pieces entries) answer longer it = verdict_longer width old new (in_flight before) number pieces entries longer it
bears_longer width old new before by (step.ReadEnd p places) answer longer it = read_longer width old new p places answer longer it
bears_longer width old new before by (step.EndData online marks items) answer longer it = data_longer width old new online marks items longer it
bears_longer width old new before by _ answer longer it = tt

-- and all of them
all_borne_longer : (width : ℕ) (old new : ℕ → List Mark) (before es : List Event) → AllLonger old new → AllBorneOut width old before es → AllBorneOut width new before es
all_borne_longer width old new before [] longer it = tt
all_borne_longer width old new before (e ∷ es) longer (one, rest) =
    (bears_longer width old new before e.by e.step e.reply longer one, all_borne_longer width old new (before ++ e ∷ []) es longer rest)

-- no event claims anything of the journals before the first
pub matches_none : (width : ℕ) (began journals : ℕ → List Mark) → Matches width began journals []
matches_none width began journals = record { each = tt; once = tt; since = λ c h. absurd h; marked = λ c h. absurd h }

-- what the journals bear out, longer ones do
pub all_matches : (width : ℕ) (began old new : ℕ → List Mark) (es : List Event) → AllLonger old new → Matches width began old es → Matches width began new es
all_matches width began old new es longer it = record {
  each = all_borne_longer width old new [] es longer it.each;
  once = it.once;
  since = it.since;
  marked = λ c h.
      let low : c.place < length (old c.device) = it.marked c h in
      omega (arith, length_longer (old c.device) (new c.device) (longer c.device));
}

-- the same of journals that may be told or not
pub matches_longer : (width : ℕ) (began : ℕ → List Mark) (old new : Journals) (es : List Event) → AreLonger old new → Matches width began (marks_of old) es
    → Matches width began (marks_of new) es
matches_longer width began old new es longer it = all_matches width began (marks_of old) (marks_of new) es (all_longer old new longer) it
