-- A script: its lines, and its first fault.
use Rattle.std.specs.Prelude.{◌≡◌, ℕ, ◌+◌, ◌==◌, nat_lt, nat_le, not, ◌&&◌, ◌||◌, Bool, true, false, List, [], ◌∷◌, ◌++◌, length, take, filter, if◌then◌else◌, Option, None, Some, Result, Ok, Err, slice_index}
use Rattle.std.specs.List.{list_all, slice_split}
use Rattle.std.specs.Option.{option_to_list}
use Rattle.std.specs.Str.Lines.{strip_carriage_return}
use Rattle.zs_ids.specs.declared.limits.TheConstants.{SCRIPT_BYTES}
use Rattle.zs_script.specs.Faults.{◌>>=◌}
use Rattle.zs_script.specs.Verbs.{verb_of}
use Rattle.zs_script.specs.Rows.{command_of}
use Rattle.zs_script.specs.declared.command.Command.{Command}
use Rattle.zs_script.specs.declared.command.Line.{Line}
use Rattle.zs_script.specs.declared.command.ScriptFault.{ScriptFault}
use Rattle.zs_script.specs.declared.command.ScriptFault.TheVariants as faults
use Rattle.zs_script.specs.declared.command.Why.{Why}
use Rattle.zs_script.specs.declared.command.Why.TheVariants as why
use Rattle.zs_script.specs.declared.verb.Verb.{Verb}
use Rattle.zs_script.specs.declared.verb.Verb.TheVariants as verbs

-- a line without its end, and whether the byte behind the most that a script may have stands in it
pub record TextLine : Type 0 where
  pub bytes : List ℕ
  pub over : Bool

-- the lines that these parts between line feeds make. Before a line feed a carriage return is dropped. The last part
-- has no line feed; where the script is cut off, its line reaches past the most bytes.
abbrev pub lines_of_parts : Bool → List (List ℕ) → List TextLine
lines_of_parts cut [] = []
lines_of_parts cut (last ∷ []) = record { bytes = last; over = cut } ∷ []
lines_of_parts cut (part ∷ next ∷ parts) = record { bytes = strip_carriage_return part; over = false } ∷ lines_of_parts cut (next ∷ parts)

-- the lines of a text, cut off or not
unfoldable pub lines_of : Bool → List ℕ → List TextLine
lines_of cut text = lines_of_parts cut (slice_split (λ b. b == 10) text)

-- the words of a line: what stands between its spaces
abbrev pub words_of : List ℕ → List (List ℕ)
words_of line = filter (λ w. not (length w == 0)) (slice_split (λ b. b == 32) line)

-- a byte that lines with a command may have
abbrev pub is_text_byte : ℕ → Bool
is_text_byte b = nat_le 32 b && nat_le b 126

-- a line that is passed over: an empty one, or one that begins with `#`
abbrev pub is_skipped : List ℕ → Bool
is_skipped line = length line == 0 || slice_index line 0 == 35

-- whether the command may stand where a pool was made, or not. `pool` comes first and nowhere else.
abbrev pub is_allowed : Bool → Verb → Bool
is_allowed begun verbs.Pool = not begun
is_allowed begun verb = begun

-- whether a pool was made before the line behind this one; the first command is `pool`
abbrev pub with_line : Bool → Option Line → Bool
with_line begun None = begun
with_line begun (Some line) = true

-- what a line's words command
unfoldable pub command_at : Bool → List (List ℕ) → Result Command Why
command_at begun words = do
  verb ← verb_of words
  if is_allowed begun verb then command_of verb words else Err why.Order

-- what a line that is not passed over commands
unfoldable pub command_in : Bool → List ℕ → Result Command Why
command_in begun line = if list_all is_text_byte line then command_at begun (words_of line) else Err why.Word

-- the same, with the number of the line at which it went wrong
abbrev pub at_line : {X : Type 0} → ℕ → Result X Why → Result X ScriptFault
at_line number (Ok x) = Ok x
at_line number (Err why) = Err (faults.Bad number why)

-- the line with this number and this command
abbrev pub line_with : ℕ → Command → Line
line_with number command = record { number = number; by = 0; command = command }

-- a line that is passed over is none
unfoldable pub line_of : ℕ → Bool → TextLine → Result (Option Line) ScriptFault
line_of number begun line =
    if line.over then Err (faults.Bad number why.Size)
    else (if is_skipped line.bytes then Ok None
    else (at_line number (command_in begun line.bytes) >>= λ command. Ok (Some (line_with number command))))

-- the lines, of which the first has this number
unfoldable pub lines_from : ℕ → Bool → List TextLine → Result (List Line) ScriptFault
lines_from number begun [] = Ok []
lines_from number begun (line ∷ lines) = do
  found ← line_of number begun line
  more ← lines_from (number + 1) (with_line begun found) lines
  Ok (option_to_list found ++ more)

-- some line has a command
abbrev pub some_line : List Line → Result (List Line) ScriptFault
some_line [] = Err (faults.Bad 1 why.Order)
some_line (line ∷ lines) = Ok (line ∷ lines)

-- the lines of a script, or its first fault
unfoldable pub parsed_script : List ℕ → Result (List Line) ScriptFault
parsed_script bytes =
    lines_from 1 false (lines_of (nat_lt SCRIPT_BYTES (length bytes)) (take SCRIPT_BYTES bytes)) >>= some_line

-- what a function gives, seen by view, is what reading gives, unless memory was wanting
abbrev pub Fails : {Y : Type 0} → ScriptFault → Result Y ScriptFault → Type 0
Fails faults.Memory read = Unit {0}
Fails (faults.Bad line why) read = read ≡ Err (faults.Bad line why)

abbrev pub Gives : {X Y : Type 0} → (X → Y) → Result X ScriptFault → Result Y ScriptFault → Type 0
Gives view (Ok x) read = read ≡ Ok (view x)
Gives view (Err e) read = Fails e read
