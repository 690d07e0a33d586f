-- The words of the command line, and what of a script is read.
use Rattle.std.specs.Prelude.{ℕ, ◌==◌, ◌&&◌, not, nat_lt, if◌then◌else◌, Bool, true, false, List, [], ◌∷◌, length, map, take, drop, codes, String, string_bytes, Result, Ok, Err}
use Rattle.std.specs.declared.alloc.Global.{Global}
use Rattle.std.specs.List.{list_all}
use Rattle.std.specs.Cmp.Lexicographic.{pointwise}
use Rattle.zs_script.specs.declared.command.Line.{Line}
use Rattle.zs_script.specs.declared.command.ScriptFault.{ScriptFault}
use Rattle.zs_script.specs.Script.{parsed_script}
use Rattle.zs_session.specs.Puts.{line_of_read}

-- a word that may name an image: it is not empty, and does not begin with a hyphen
abbrev pub is_image : List ℕ → Bool
is_image [] = false
is_image (first ∷ others) = not (first == 45)

-- the words are one to sixteen images
abbrev pub are_images : List (String Global) → Bool
are_images words =
    if nat_lt (length words) 1
    then false
    else (if nat_lt 16 (length words) then false else list_all (λ w. is_image (string_bytes w)) words)

-- the words are `step` and one to sixteen images
unfoldable pub is_step : List (String Global) → Bool
is_step [] = false
is_step (verb ∷ images) = pointwise ◌==◌ (string_bytes verb) (codes "step") && are_images images

-- the names of the images: the words behind the first
abbrev pub names_in : List (String Global) → List (List ℕ)
names_in words = map string_bytes (drop 1 words)

-- as much of a script as is read: one byte more than the most that a script may have
abbrev pub read_of : List ℕ → List ℕ
read_of script = take 16777217 script

-- reading a script came to a fault
abbrev pub is_fault : Result (List Line) ScriptFault → Bool
is_fault (Ok lines) = false
is_fault (Err fault) = true

-- the lines that were read, if any
abbrev pub lines_of_read : Result (List Line) ScriptFault → List Line
lines_of_read (Ok lines) = lines
lines_of_read (Err fault) = []

-- the script has a fault
unfoldable pub has_fault : List ℕ → Bool
has_fault script = is_fault (parsed_script (read_of script))

-- the lines of a script that has no fault
unfoldable pub lines_in : List ℕ → List Line
lines_in script = lines_of_read (parsed_script (read_of script))

-- the line that tells the first fault of a script; none where it has none
unfoldable pub fault_text : List ℕ → List ℕ
fault_text script = line_of_read (parsed_script (read_of script))
