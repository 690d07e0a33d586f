-- What was put into a sink, by what it told before and what it tells now; and the lines of a run that made no pool.
use Rattle.std.specs.Prelude.{◌≡◌, ◌≢◌, ℕ, List, [], ◌++◌, take, codes, Option, option_map, Result, Ok, Err, OnOk, OnErr, IsErrOf}
use Rattle.std.specs.Fmt.{decimal}
use Rattle.zs_script.specs.Faults.{why_name}
use Rattle.zs_script.specs.Refusals.{refusal_name}
use Rattle.zs_script.specs.declared.command.Line.{Line}
use Rattle.zs_script.specs.declared.command.ScriptFault.{ScriptFault}
use Rattle.zs_script.specs.declared.command.ScriptFault.TheVariants.{Bad, Memory}
use Rattle.zs_script.specs.declared.command.Why.{Why}
use Rattle.zs_script.specs.declared.refusal.Refusal.{Refusal}
use Rattle.zs_session.specs.declared.stop.Stop.{Stop}
use Rattle.zs_session.specs.declared.stop.Stop.TheVariants as stops

-- the whole text was put
abbrev pub Puts : List ℕ → Option (List ℕ) → Option (List ℕ) → Type 0
Puts text before now = now ≡ option_map (λ bytes. bytes ++ text) before

-- a beginning of the text was put, and nothing else
pub record PutsPart (text : List ℕ) (before now : Option (List ℕ)) : Type 0 where
  pub many : ℕ
  pub put : now ≡ option_map (λ bytes. bytes ++ take many text) before

-- since whenever the one text had been put, the other has been put by now
abbrev pub PutsOn : List ℕ → List ℕ → Option (List ℕ) → Option (List ℕ) → Type 0
PutsOn old new before now = (start : Option (List ℕ)) → Puts old start before → Puts new start now

-- or a beginning of it
abbrev pub PutsPartOn : List ℕ → List ℕ → Option (List ℕ) → Option (List ℕ) → Type 0
PutsPartOn old new before now = (start : Option (List ℕ)) → Puts old start before → PutsPart new start now

-- the replies of a line are put on those before: all of them where it ended or a device stopped it, else a beginning
pub record PutsLine {T : Type 0} (old new : List ℕ) (before now : Option (List ℕ)) (result : Result T Stop) : Type 0 where
  pub told : OnOk result (PutsOn old new before now)
  pub part : OnErr result (PutsPartOn old new before now)
  pub whole : IsErrOf result stops.Device → PutsOn old new before now

-- the replies of several lines are put: all of them where the lines ended or a device stopped them, else a beginning
pub record PutsLines {T : Type 0} (text : List ℕ) (before now : Option (List ℕ)) (result : Result T Stop) : Type 0 where
  pub told : OnOk result (Puts text before now)
  pub part : PutsPart text before now
  pub whole : IsErrOf result stops.Device → Puts text before now

-- the one line of a run without a session is put: all of it, but with status 6 a beginning, and with 7 nothing
pub record PutsLast (text : List ℕ) (status : ℕ) (before now : Option (List ℕ)) : Type 0 where
  pub whole : status ≢ 6 → status ≢ 7 → Puts text before now
  pub part : PutsPart text before now
  pub silent : status ≡ 7 → now ≡ before

-- the line that tells a fault of a script
abbrev pub fault_line : ℕ → Why → List ℕ
fault_line number why = codes "script " ++ decimal number ++ codes " " ++ why_name why ++ codes "\n"

-- the line that tells the fault to which reading a script came
abbrev pub line_of_read : Result (List Line) ScriptFault → List ℕ
line_of_read (Ok lines) = []
line_of_read (Err (Bad number why)) = fault_line number why
line_of_read (Err Memory) = []

-- the line that tells why a pool is refused
unfoldable pub refused_line : Refusal → List ℕ
refused_line refusal = codes "refused " ++ refusal_name refusal ++ codes "\n"

-- a beginning of the line of some refusal was put, and nothing else
pub record PutsRefusal (before now : Option (List ℕ)) : Type 0 where
  pub fault : Refusal
  pub part : PutsPart (refused_line fault) before now
