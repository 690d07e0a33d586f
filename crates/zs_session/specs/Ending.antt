-- How a session ends.
use Rattle.std.specs.Prelude.{◌≡◌, ◌≢◌, ◌⊎◌, ◌<◌, ℕ, List, [], slice_get, Option, Some, None, option_map, IsSome, IfSome}
use Rattle.zs_ids.specs.Graph.{Has}
use Rattle.zs_io.specs.Faults.{Rose}
use Rattle.zs_lane.specs.declared.mark.Mark.TheVariants.{Failed}
use Rattle.zs_lane.specs.Journal.{Keeps}
use Rattle.zs_lane.specs.Lane.{LaneView}
use Rattle.zs_machine.specs.declared.event.Event.{Event}
use Rattle.zs_machine.specs.Commands.{commands_of}
use Rattle.zs_machine.specs.Matches.{Matches}
use Rattle.zs_script.specs.declared.command.Line.{Line}
use Rattle.zs_script.specs.declared.refusal.Refusal.{Refusal}
use Rattle.zs_script.specs.declared.refusal.Refusal.TheVariants.{NotBlank}
use Rattle.zs_session.specs.declared.end.End.{End}
use Rattle.zs_session.specs.declared.end.End.TheVariants as ends
use Rattle.zs_session.specs.declared.session.Ended.{Ended}
use Rattle.zs_session.specs.declared.session.Session.{Session}
use Rattle.zs_session.specs.Devices.{Journals, marks_of}
use Rattle.zs_session.specs.Images.{AreFresh, HasFailed, ReadsHead, of_each}
use Rattle.zs_session.specs.Plays.{Plays, Went}
use Rattle.zs_session.specs.Puts.{Puts, PutsRefusal, refused_line}
use Rattle.zs_session.specs.Session.{HaltsPart, AreFirst, AreFitFor, AreUnfitFor, commands_in}

-- the status with which the program ends
abbrev pub code : End → ℕ
code ends.Done = 0
code ends.Usage = 1
code ends.Fault = 2
code ends.Unfit = 3
code ends.Device = 4
code ends.Source = 5
code ends.Sink = 6
code ends.Memory = 7

-- a status with which a session ends
abbrev pub IsSessionStatus : ℕ → Type 0
IsSessionStatus status = (status ≡ 0) ⊎ ((status ≡ 3) ⊎ ((status ≡ 4) ⊎ ((status ≡ 6) ⊎ (status ≡ 7))))

-- the history of the session, if there is one
abbrev pub history_in : {D : Type 0} → Option (Session D) → List Event
history_in None = []
history_in (Some s) = s.pool.history

-- the lanes of the session, or else those of the images that were had
abbrev pub lanes_in : {D : Type 0} → Option (Session D) → List (LaneView D) → List (LaneView D)
lanes_in None had = had
lanes_in (Some s) had = s.lanes.items

-- the journals of lanes, by the number of each, where there is such a lane
abbrev pub journals_in : {D : Type 0} → List (LaneView D) → Journals
journals_in lanes k = option_map (λ l. l.journal) (slice_get lanes k)

-- The claims of a session's history are borne out by the journals of its lanes, which began empty.
abbrev pub IsBorneOut : {D : Type 0} → Session D → Type 0
IsBorneOut s = Matches s.pool.core.shape.width (λ k. []) (marks_of (journals_in s.lanes.items)) s.pool.history

-- A read of the head of each lane's device was marked, and then just what the events of the session's history mark.
pub record PlaysOn {D : Type 0} (size : D → ℕ) (s : Session D) : Type 0 where
  pub start : Journals
  pub heads : (k : ℕ) (l : LaneView D) → slice_get s.lanes.items k ≡ Some l → ReadsHead (size l.device) (Some []) (start k)
  pub plays : Plays s.pool.core.shape.width [] s.pool.history start (journals_in s.lanes.items)

-- each lane's journal is lawful, and fits what its device tells, for each opening for which it did at first
abbrev pub StayLawful : {D : Type 0} → (D → Option (List ℕ)) → List (LaneView D) → List (LaneView D) → Type 0
StayLawful told began lanes =
    (k : ℕ) (l : LaneView _) → slice_get lanes k ≡ Some l
    → (was : LaneView _) × (slice_get began k ≡ Some was)
    × ((opening : Option (List ℕ)) → Keeps opening was.journal (told was.device) → Keeps opening l.journal (told l.device))

-- the count of a lane's device is above 0 just where its journal has a call that failed
pub record CountsItsFaults {D : Type 0} (faults : D → ℕ) (l : LaneView D) : Type 0 where
  pub none : (faults l.device ≡ 0) ⊎ Has l.journal Failed
  pub some : Has l.journal Failed → 0 < faults l.device

-- so is that of each lane
abbrev pub CountFaults : {D : Type 0} → (D → ℕ) → List (LaneView D) → Type 0
CountFaults faults lanes = (k : ℕ) (l : LaneView _) → slice_get lanes k ≡ Some l → CountsItsFaults faults l

-- the lanes with which a session ends are those with which it began: as many, of devices of their sizes, which tell the same where no
-- pool was made; and lawful journals are lawful still
pub record KeepsLanes {D : Type 0} (size : D → ℕ) (told : D → Option (List ℕ)) (began : List (LaneView D)) (e : Ended D) : Type 0 where
  pub sizes : of_each size (lanes_in e.session e.lanes.items) ≡ of_each size began
  pub contents : e.session ≡ None → of_each told e.lanes.items ≡ of_each told began
  pub lawful : StayLawful told began (lanes_in e.session e.lanes.items)

-- a session whose pool was made ends with the pool, and with a status other than that of a refusal
pub record KeepsPool {D : Type 0} (e : Ended D) : Type 0 where
  pub status : IsSessionStatus e.status
  pub ran : e.status ≢ 3
  pub made : IsSome e.session

-- from how it began its history went on with the commands of the lines, and the journals by the marks of its events: with status 0 with all
-- of the commands; else with the first, and then there may be marks of which no event tells
pub record RunsOn {D : Type 0} (began : Session D) (lines : List Line) (e : Ended D) : Type 0 where
  pub all : e.status ≡ 0 →
      IfSome e.session (λ s. Went began.pool s.pool (journals_in began.lanes.items) (journals_in s.lanes.items) (commands_in lines))
  pub part : IfSome e.session (λ s. HaltsPart began.pool s.pool (journals_in began.lanes.items) (journals_in s.lanes.items) (commands_in lines))

-- its history has the commands of the lines: with status 0 all, else the first
pub record RunsAll {D : Type 0} (lines : List Line) (e : Ended D) : Type 0 where
  pub all : e.status ≡ 0 → commands_of (history_in e.session) ≡ commands_in lines
  pub first : IsSome e.session → AreFirst (commands_of (history_in e.session)) (commands_in lines)

-- a pool is made of images that fit the first of the lines; their lanes are kept, and bear out what the history claims; with status 0 they
-- have no other marks than those of its events
pub record UsesImages {D : Type 0} (lines : List Line) (size : D → ℕ) (told : D → Option (List ℕ)) (lanes : List (LaneView D)) (e : Ended D) : Type 0 where
  pub fit : IsSome e.session → AreFitFor lines (of_each size lanes) (of_each told lanes)
  pub kept : KeepsLanes size told lanes e
  pub matches : IfSome e.session (λ s. IsBorneOut s)
  pub plays : e.status ≡ 0 → IfSome e.session (λ s. PlaysOn size s)

-- the images are refused for the first of the lines, and the first reason was put
abbrev pub TellsUnfit : {D : Type 0} → List Line → (D → ℕ) → (D → Option (List ℕ)) → List (LaneView D) → Option (List ℕ) → Option (List ℕ) → Type 0
TellsUnfit lines size told lanes before now =
    (fault : Refusal) × AreUnfitFor lines (of_each size lanes) (of_each told lanes) fault × Puts (refused_line fault) before now

-- without a pool status 3 tells that the images are refused, and 4 that the head of one can't be read; else at most the line of a refusal is put
pub record RefusesImages {D : Type 0} (lines : List Line) (size : D → ℕ) (told : D → Option (List ℕ)) (faults : D → ℕ)
    (before now : Option (List ℕ)) (e : Ended D) : Type 0 where
  pub none : e.status ≡ 3 → e.session ≡ None
  pub unfit : e.status ≡ 3 → TellsUnfit lines size told e.lanes.items before now
  pub unread : e.status ≡ 4 → e.session ≡ None → HasFailed (of_each faults e.lanes.items) × Puts (refused_line NotBlank) before now
  pub cut : e.session ≡ None → PutsRefusal before now

-- status 4 comes only where a call of a device failed; where the images are refused none did; and each count tells of the failed calls
pub record CountsCalls {D : Type 0} (faults : D → ℕ) (e : Ended D) : Type 0 where
  pub failed : e.status ≡ 4 → HasFailed (of_each faults (lanes_in e.session e.lanes.items))
  pub fresh : e.status ≢ 0 → e.status ≢ 4 → e.status ≢ 6 → e.status ≢ 7 → AreFresh (of_each faults (lanes_in e.session e.lanes.items))
  pub counted : CountFaults faults (lanes_in e.session e.lanes.items)

-- status 6 comes just where the sink failed
pub record CountsSink (status before now : ℕ) : Type 0 where
  pub failed : status ≡ 6 → Rose before now
  pub kept : status ≢ 6 → now ≡ before
