-- What the loop over a script's lines keeps.
use Rattle.std.specs.Prelude.{◌≡◌, ℕ, ◌+◌, Bool, List, [], ◌∷◌, ◌++◌, length, Option, None, Some, Result, Ok}
use Rattle.zs_script.specs.Faults.{◌>>=◌}
use Rattle.zs_script.specs.Script.{TextLine, lines_of, lines_from, Fails}
use Rattle.zs_script.specs.declared.command.Line.{Line}
use Rattle.zs_script.specs.declared.command.ScriptFault.{ScriptFault}

-- the lines of what is left of a text
abbrev pub lines_left : Bool → Option (List ℕ) → List TextLine
lines_left cut None = []
lines_left cut (Some text) = lines_of cut text

-- how much is left of a text
abbrev pub left : Option (List ℕ) → ℕ
left None = 0
left (Some text) = length text + 1

-- these lines, and then those that are read
abbrev pub behind : List Line → Result (List Line) ScriptFault → Result (List Line) ScriptFault
behind front read = read >>= λ more. Ok (front ++ more)

-- reading a line with this number made the lines so far into these, and whether a pool was made into next
pub record Passes (lines : List Line) (number : ℕ) (begun : Bool) (line : TextLine) (new : List Line) (next : Bool) : Type 0 where
  pub read : (more : List TextLine) → behind lines (lines_from number begun (line ∷ more)) ≡ behind new (lines_from (number + 1) next more)

-- reading a line with this number came to this fault
pub record Stops (lines : List Line) (number : ℕ) (begun : Bool) (line : TextLine) (fault : ScriptFault) : Type 0 where
  pub read : (more : List TextLine) → Fails fault (behind lines (lines_from number begun (line ∷ more)))
