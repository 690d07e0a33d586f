-- How a run of the program ends, by its status.
use Rattle.std.specs.Prelude.{◌≡◌, ◌≢◌, ◌⊎◌, ◌≤◌, ◌<◌, ℕ, Bool, true, false, List, slice_get, Option, None, Some, IsSome, IfSome, codes, length, map, take}
use Rattle.zs_lane.specs.Journal.{Keeps}
use Rattle.zs_lane.specs.Lane.{LaneView}
use Rattle.zs_machine.specs.Commands.{commands_of}
use Rattle.zs_machine.specs.History.{text_of, IsHistory}
use Rattle.zs_core.specs.Safe.{IsSafe}
use Rattle.zs_io.specs.Faults.{Rose}
use Rattle.zs_io.specs.Told.{Told}
use Rattle.zs_script.specs.declared.refusal.Refusal.{Refusal}
use Rattle.zs_script.specs.declared.refusal.Refusal.TheVariants.{NotBlank}
use Rattle.zs_session.specs.declared.session.Ended.{Ended}
use Rattle.zs_session.specs.Images.{AreFresh, HasFailed, AsksAll, AsksFirst, of_each}
use Rattle.zs_session.specs.Session.{IsReady, AreFitFor, AreUnfitFor, AreFirst, commands_in}
use Rattle.zs_session.specs.Puts.{Puts, PutsPart, PutsRefusal, refused_line}
use Rattle.zs_session.specs.Ending.{PlaysOn, IsBorneOut, CountFaults, history_in, lanes_in}
use Rattle.zs_session.specs.Step.{has_fault, fault_text, lines_in}

-- a run whose words are no form of the command line, and no other, comes to status 1 and puts the usage; or a part of it, where the sink failed
pub record EndsInUsage (form : Bool) (status : ℕ) (before now : Option (List ℕ)) : Type 0 where
  pub only : status ≡ 1 → form ≡ false
  pub ends : form ≡ false → (status ≡ 1) ⊎ (status ≡ 6)
  pub line : status ≡ 1 → Puts (codes "usage\n") before now
  pub cut : form ≡ false → PutsPart (codes "usage\n") before now

-- a run comes to status 2 only where the script has a fault, of which it puts the first; with 0, 3 and 4 it has none
pub record EndsInFault (form : Bool) (source : Option (List ℕ)) (status : ℕ) (before now : Option (List ℕ)) : Type 0 where
  pub only : status ≡ 2 → Told source (λ script. has_fault script ≡ true)
  pub none : (status ≡ 0) ⊎ ((status ≡ 3) ⊎ (status ≡ 4)) → Told source (λ script. has_fault script ≡ false)
  pub line : status ≡ 2 → Told source (λ script. Puts (fault_text script) before now)
  pub cut : form ≡ true → Told source (λ script. has_fault script ≡ true → PutsPart (fault_text script) before now)

-- the bay is as it was where the words are no form of the command line, where the script can't be read, and where it has a fault
pub record IsUntouched {B : Type 0} (form : Bool) (source : Option (List ℕ)) (status : ℕ) (old new : B) : Type 0 where
  pub usage : form ≡ false → new ≡ old
  pub unread : status ≡ 5 → new ≡ old
  pub faulty : status ≡ 2 → new ≡ old
  pub fault : Told source (λ script. has_fault script ≡ true → new ≡ old)

-- the images are refused for the script's first line, and the first reason was put
abbrev pub TellsRefused :
    {D : Type 0} → List ℕ → (D → ℕ) → (D → Option (List ℕ)) → List (LaneView D) → Option (List ℕ) → Option (List ℕ) → Type 0
TellsRefused script size told lanes before now =
    (fault : Refusal) × AreUnfitFor (lines_in script) (of_each size lanes) (of_each told lanes) fault × Puts (refused_line fault) before now

-- with status 3 the images are refused, and the first reason is put; a run without a session puts at most the line of a refusal
pub record EndsRefused {D : Type 0} (form : Bool) (source : Option (List ℕ)) (size : D → ℕ) (told : D → Option (List ℕ))
    (before now : Option (List ℕ)) (e : Ended D) : Type 0 where
  pub unfit : e.status ≡ 3 → Told source (λ script. TellsRefused script size told e.lanes.items before now)
  pub cut : form ≡ true → e.session ≡ None → Told source (λ script. has_fault script ≡ false → PutsRefusal before now)

-- a run came to status 4 before it had so many images
abbrev pub IsUnfetched : {D : Type 0} → ℕ → Ended D → Type 0
IsUnfetched count e = (e.status ≡ 4) × (e.session ≡ None) × (length e.lanes.items < count)

-- a run came to status 4 with so many images, of which no pool was made
abbrev pub IsUnread : {D : Type 0} → ℕ → Ended D → Type 0
IsUnread count e = (e.status ≡ 4) × (e.session ≡ None) × (count ≤ length e.lanes.items)

-- a run had so many images: they were refused, a session was made of them, or neither
abbrev pub HadImages : {D : Type 0} → ℕ → Ended D → Type 0
HadImages count e = (e.status ≡ 3) ⊎ (IsSome e.session ⊎ IsUnread count e)

-- without a session, status 4 tells of a fetch that failed, and nothing is put; or of an image whose head can't be read, which NotBlank tells
pub record EndsUnmade {D : Type 0} (faults : D → ℕ) (count bay_before bay_now : ℕ) (before now : Option (List ℕ)) (e : Ended D) : Type 0 where
  pub fetch : IsUnfetched count e → Rose bay_before bay_now
  pub silent : IsUnfetched count e → now ≡ before
  pub head : IsUnread count e → HasFailed (of_each faults e.lanes.items)
  pub line : IsUnread count e → Puts (refused_line NotBlank) before now

-- these are lanes of the first images of a bay: so many, and of the same sizes where the bay tells them
pub record AreNamed {D : Type 0} (size : D → ℕ) (count : ℕ) (bay : Option (List D)) (lanes : List (LaneView D)) : Type 0 where
  pub many : length lanes ≡ count
  pub sizes : Told bay (λ images. of_each size lanes ≡ map size (take count images))

-- and each tells what it told
pub record AreImages {D : Type 0} (size : D → ℕ) (told : D → Option (List ℕ)) (count : ℕ) (bay : Option (List D)) (lanes : List (LaneView D)) : Type 0 where
  pub named : AreNamed size count bay lanes
  pub contents : Told bay (λ images. of_each told lanes ≡ map told (take count images))

-- each lane's journal is lawful for the image of its number, and fits what its device tells
abbrev pub AreLawful : {D : Type 0} → (D → Option (List ℕ)) → List D → List (LaneView D) → Type 0
AreLawful told images lanes =
    (k : ℕ) (l : LaneView _) → slice_get lanes k ≡ Some l
    → (image : _) × (slice_get images k ≡ Some image) × Keeps (told image) l.journal (told l.device)

-- these images fit the script's first line
abbrev pub FitScript : {D : Type 0} → List ℕ → (D → ℕ) → (D → Option (List ℕ)) → List D → Type 0
FitScript script size told images = AreFitFor (lines_in script) (map size images) (map told images)

-- A session is made of images that fit, and its lanes are theirs; where they are refused, or the head of one can't be read, they are
-- handed back as they were. The journals bear out each claim of the history; with status 0 they have no other marks than those of its
-- events, behind the read of each head. And each journal is lawful for its image, whatever the status.
pub record HandsBack {D : Type 0} (source : Option (List ℕ)) (size : D → ℕ) (told : D → Option (List ℕ)) (count : ℕ)
    (bay : Option (List D)) (e : Ended D) : Type 0 where
  pub fit : IsSome e.session → Told source (λ script. Told bay (λ images. FitScript script size told (take count images)))
  pub session : IsSome e.session → AreNamed size count bay (lanes_in e.session e.lanes.items)
  pub refused : e.status ≡ 3 → (e.session ≡ None) × AreImages size told count bay e.lanes.items
  pub unread : IsUnread count e → AreImages size told count bay e.lanes.items
  pub matches : IfSome e.session (λ s. IsBorneOut s)
  pub plays : e.status ≡ 0 → IfSome e.session (λ s. PlaysOn size s)
  pub lawful : Told bay (λ images. AreLawful told images (lanes_in e.session e.lanes.items))

-- a bay was asked for the first of the names, in order, and for no other; for all of them where the run had its images
pub record HasAskedFor {D : Type 0} (names : List (List ℕ)) (count : ℕ) (before now : Option (List (List ℕ))) (e : Ended D) : Type 0 where
  pub first : AsksFirst names before now
  pub all : HadImages count e → AsksAll names before now

-- status 5 comes just where the source failed, and 6 where the sink did
pub record CountsStreams (status source_before source_now sink_before sink_now : ℕ) : Type 0 where
  pub source : status ≡ 5 → Rose source_before source_now
  pub source_kept : status ≢ 5 → source_now ≡ source_before
  pub sink : status ≡ 6 → Rose sink_before sink_now
  pub sink_kept : status ≢ 6 → sink_now ≡ sink_before

-- status 4 comes only where a fetch or a call of a device failed; with 1, 2, 3 and 5 no call of a device did; and each count tells of
-- the failed calls
pub record CountsDevices {D : Type 0} (faults : D → ℕ) (bay_before bay_now : ℕ) (e : Ended D) : Type 0 where
  pub failed : e.status ≡ 4 → Rose bay_before bay_now ⊎ HasFailed (of_each faults (lanes_in e.session e.lanes.items))
  pub bay_kept : e.status ≢ 4 → bay_now ≡ bay_before
  pub fresh : e.status ≢ 0 → e.status ≢ 4 → e.status ≢ 6 → e.status ≢ 7 → AreFresh (of_each faults (lanes_in e.session e.lanes.items))
  pub counted : CountFaults faults (lanes_in e.session e.lanes.items)

-- what is put of a session is the text of its history: all with status 0 and 4, else a beginning; with 5, and where memory was wanting before it, nothing
pub record PutsHistory {D : Type 0} (before now : Option (List ℕ)) (e : Ended D) : Type 0 where
  pub whole : e.status ≡ 0 → Puts (text_of (history_in e.session)) before now
  pub stopped : e.status ≡ 4 → IsSome e.session → Puts (text_of (history_in e.session)) before now
  pub part : IsSome e.session → PutsPart (text_of (history_in e.session)) before now
  pub silent : (e.status ≡ 5) ⊎ ((e.status ≡ 7) × (e.session ≡ None)) → now ≡ before

-- the history has the commands of the script's lines: all with status 0, else the first
pub record RunsLines {D : Type 0} (source : Option (List ℕ)) (e : Ended D) : Type 0 where
  pub all : e.status ≡ 0 → Told source (λ script. commands_of (history_in e.session) ≡ commands_in (lines_in script))
  pub first : IsSome e.session → Told source (λ script. AreFirst (commands_of (history_in e.session)) (commands_in (lines_in script)))

-- a run ends with one of the statuses; with 0 it has a session, whose pool is ready for a line; a session's pool is as its history, and safe
pub record EndsInSession {D : Type 0} (e : Ended D) : Type 0 where
  pub status : e.status ≤ 7
  pub made : e.status ≡ 0 → IsSome e.session
  pub idle : e.status ≡ 0 → IfSome e.session (λ s. IsReady s.pool)
  pub history : IfSome e.session (λ s. IsHistory s.pool.history s.pool.core.state)
  pub safe : IfSome e.session (λ s. IsSafe s.pool.core)
