-- The texts of replies. Each line ends with a line feed.
use Rattle.std.specs.Prelude.{ℕ, ◌+◌, ◌/◌, ◌%◌, List, [], ◌∷◌, ◌++◌, ◌==◌, if◌then◌else◌, nat_lt, Option, None, Some, length, codes}
use Rattle.std.specs.List.{flat_map}
use Rattle.std.specs.Int.{to_be_bytes, w64}
use Rattle.std.specs.Fmt.{decimal}
use Rattle.zs_ids.specs.declared.dataset.DsName.{DsName}
use Rattle.zs_ids.specs.declared.key.Key.{Key}
use Rattle.zs_script.specs.Names.{ds_text}
use Rattle.zs_script.specs.Refusals.{refusal_name}
use Rattle.zs_script.specs.declared.refusal.Refusal.{Refusal}
use Rattle.zs_script.specs.declared.reply.Reply.{Reply}
use Rattle.zs_script.specs.declared.reply.Reply.TheVariants as replies
use Rattle.zs_script.specs.declared.reply.ErrorPiece.{ErrorPiece}
use Rattle.zs_script.specs.declared.reply.Finished.{Finished}
use Rattle.zs_script.specs.declared.reply.IssuedPiece.{IssuedPiece}
use Rattle.zs_script.specs.declared.reply.LandedPiece.{LandedPiece}
use Rattle.zs_script.specs.declared.reply.Listed.{Listed}
use Rattle.zs_script.specs.declared.reply.Letter.{Letter}
use Rattle.zs_script.specs.declared.reply.Letter.TheVariants as letters
use Rattle.zs_script.specs.declared.reply.ScanKind.{ScanKind}
use Rattle.zs_script.specs.declared.reply.ScanKind.TheVariants as kinds
use Rattle.zs_script.specs.declared.reply.ScanState.{ScanState}
use Rattle.zs_script.specs.declared.reply.ScanState.TheVariants as states
use Rattle.zs_script.specs.declared.reply.WalkEnd.{WalkEnd}
use Rattle.zs_script.specs.declared.reply.WalkEnd.TheVariants as ends
use Rattle.zs_script.specs.declared.reply.WalkPlace.{WalkPlace}
use Rattle.zs_script.specs.declared.reply.WalkPlace.TheVariants as places
use Rattle.zs_script.specs.declared.reply.TodoEntry.{TodoEntry}
use Rattle.zs_script.specs.declared.reply.Walking.{Walking}
use Rattle.zs_script.specs.declared.reply.ScanStatus.{ScanStatus}

-- which scan
abbrev pub kind_text : ScanKind → List ℕ
kind_text kinds.Scrub = codes "scrub"
kind_text kinds.Resilver = codes "resilver"

-- how a scan stands
abbrev pub state_text : ScanState → List ℕ
state_text states.Scanning = codes "scanning"
state_text states.Paused = codes "paused"
state_text states.Finished = codes "finished"
state_text states.Canceled = codes "canceled"

-- why a walk took no further turn
abbrev pub end_text : WalkEnd → List ℕ
end_text ends.More = codes "more"
end_text ends.Full = codes "full"
end_text ends.Draining = codes "draining"
end_text ends.Nothing = codes "nothing"

-- what a check found on one device; nothing where the mirror has no such device
abbrev pub letter_text : Option Letter → List ℕ
letter_text None = []
letter_text (Some letters.Good) = codes "G"
letter_text (Some letters.Rewritten) = codes "R"
letter_text (Some letters.Bad) = codes "B"
letter_text (Some letters.Fault) = codes "F"
letter_text (Some letters.Absent) = codes "A"

-- what a check found on each device
abbrev pub letters_text : List (Option Letter) → List ℕ
letters_text ls = flat_map letter_text ls

-- the letters of a piece's entry, or a hyphen where none was made
abbrev pub entry_text : Option (List (Option Letter)) → List ℕ
entry_text None = codes "-"
entry_text (Some ls) = letters_text ls

-- a hexadecimal digit, in lower case
abbrev pub hex_digit : ℕ → ℕ
hex_digit d = if nat_lt d 10 then 48 + d else 87 + d

-- a byte in two hexadecimal digits
abbrev pub hex_byte : ℕ → List ℕ
hex_byte b = hex_digit (b / 16) ∷ hex_digit (b % 16) ∷ []

-- a 64-bit number in 16 hexadecimal digits
abbrev pub hex_text : ℕ → List ℕ
hex_text n = flat_map hex_byte (to_be_bytes w64 n)

-- a number behind a space
abbrev pub word_of : ℕ → List ℕ
word_of n = codes " " ++ decimal n

-- the line of a task: its number in the transaction group, and why it was refused
abbrev pub task_line : ℕ → Option Refusal → List ℕ
task_line k None = codes "task " ++ decimal k ++ codes " ok\n"
task_line k (Some r) = codes "task " ++ decimal k ++ codes " refused " ++ refusal_name r ++ codes "\n"

-- the lines of tasks, the first of which has the number k
abbrev pub task_lines : ℕ → List (Option Refusal) → List ℕ
task_lines k [] = []
task_lines k (t ∷ ts) = task_line k t ++ task_lines (k + 1) ts

-- the line of a scan that came to its end
abbrev pub finished_line : Option Finished → List ℕ
finished_line None = []
finished_line (Some f) = codes "finished " ++ kind_text f.kind ++ codes " " ++ decimal f.checked ++ codes " " ++ decimal f.errors ++ codes "\n"

-- a key as object, rank, leaf and depth
abbrev pub key_text : Key → List ℕ
key_text k = decimal k.object ++ codes "." ++ decimal k.rank ++ codes "." ++ decimal k.leaf ++ codes "." ++ decimal k.depth

-- where the walk stands
abbrev pub place_text : WalkPlace → List ℕ
place_text places.Nowhere = codes "at none\n"
place_text places.Destroyed = codes "at destroyed\n"
place_text (places.Dataset ds key curmin curmax again) =
    codes "at " ++ ds_text ds ++ codes " " ++ key_text key ++ codes " pass " ++ decimal curmin ++ codes " " ++ decimal curmax
    ++ (if again then codes " again\n" else codes "\n")

-- a dataset that the walk has yet to enter
abbrev pub todo_text : TodoEntry → List ℕ
todo_text t = codes " " ++ ds_text t.ds ++ codes ":" ++ decimal t.min

-- a running scan's range, place and todo list
abbrev pub walking_lines : Option Walking → List ℕ
walking_lines None = []
walking_lines (Some w) =
    codes "range " ++ decimal w.min ++ codes " " ++ decimal w.max ++ codes "\n" ++ place_text w.place
    ++ codes "todo" ++ flat_map todo_text w.todo ++ codes "\n"

-- how the last scan stands
abbrev pub scan_lines : Option ScanStatus → List ℕ
scan_lines None = codes "scan none\n"
scan_lines (Some s) =
    codes "scan " ++ kind_text s.kind ++ codes " " ++ state_text s.state ++ codes " checked " ++ decimal s.checked
    ++ codes " errors " ++ decimal s.errors ++ codes " waiting " ++ decimal s.waiting ++ codes " flight " ++ decimal s.flight
    ++ codes "\n" ++ walking_lines s.walking

-- a checked piece: where it is, and what was found
abbrev pub issued_text : IssuedPiece → List ℕ
issued_text p = codes " " ++ decimal p.sector ++ codes ":" ++ letters_text p.letters

-- a landed piece: where it is, and what its entry says
abbrev pub landed_text : LandedPiece → List ℕ
landed_text p = codes " " ++ decimal p.vdev ++ codes "/" ++ decimal p.sector ++ codes ":" ++ entry_text p.letters

-- a damaged piece: its mirror, sector and birth, and what was found
abbrev pub error_line : ErrorPiece → List ℕ
error_line p =
    codes "error " ++ decimal p.vdev ++ codes " " ++ decimal p.sector ++ codes " " ++ decimal p.birth ++ codes " "
    ++ letters_text p.letters ++ codes "\n"

-- a dataset: its name, its creation, and how many blocks its map has
abbrev pub listed_line : Listed → List ℕ
listed_line d = codes "ds " ++ ds_text d.name ++ codes " " ++ decimal d.creation ++ codes " " ++ decimal d.blocks ++ codes "\n"

-- the record of a dataset of which a reply speaks
abbrev pub record_text : DsName → ℕ → ℕ → List ℕ
record_text ds object leaf = ds_text ds ++ codes " " ++ decimal object ++ codes " " ++ decimal leaf

-- the lines of a reply
unfoldable pub reply_lines : Reply → List ℕ
reply_lines (replies.Made pool mirrors) = codes "pool " ++ decimal pool ++ codes " mirrors " ++ decimal mirrors ++ codes " txg 1\n"
reply_lines (replies.Queued txg task) = codes "queued " ++ decimal txg ++ codes " " ++ decimal task ++ codes "\n"
reply_lines (replies.Wrote ds object leaf txg) = codes "wrote " ++ record_text ds object leaf ++ codes " " ++ decimal txg ++ codes "\n"
reply_lines (replies.Read ds object leaf value) = codes "read " ++ record_text ds object leaf ++ codes " " ++ hex_text value ++ codes "\n"
reply_lines (replies.ReadHole ds object leaf) = codes "read " ++ record_text ds object leaf ++ codes " hole\n"
reply_lines (replies.Committed txg tasks finished) = codes "sync " ++ decimal txg ++ codes "\n" ++ task_lines 1 tasks ++ finished_line finished
reply_lines (replies.Walked turns why waiting) =
    codes "walk " ++ decimal turns ++ codes " " ++ end_text why ++ codes " waiting" ++ flat_map word_of waiting
    ++ codes "\n"
reply_lines (replies.Issued vdev pieces) = codes "issue " ++ decimal vdev ++ codes " " ++ decimal (length pieces) ++ flat_map issued_text pieces ++ codes "\n"
reply_lines (replies.Held vdev sectors) = codes "hold " ++ decimal vdev ++ codes " " ++ decimal (length sectors) ++ flat_map word_of sectors ++ codes "\n"
reply_lines (replies.Landed entries pieces) = codes "land " ++ decimal entries ++ flat_map landed_text pieces ++ codes "\n"
reply_lines (replies.Rotted dev sector count) = codes "rot " ++ decimal dev ++ codes " " ++ decimal sector ++ codes " " ++ decimal count ++ codes "\n"
reply_lines (replies.Errors pieces) = codes "errors " ++ decimal (length pieces) ++ codes "\n" ++ flat_map error_line pieces
reply_lines (replies.List datasets) = flat_map listed_line datasets
reply_lines (replies.Status txg scan) = codes "txg " ++ decimal txg ++ codes "\n" ++ scan_lines scan
reply_lines (replies.RefusedSync txg refusal) = codes "sync " ++ decimal txg ++ codes " refused " ++ refusal_name refusal ++ codes "\n"
reply_lines (replies.Refused refusal) = codes "refused " ++ refusal_name refusal ++ codes "\n"
reply_lines replies.Nothing = []

-- lines for a client begin with the client's number; no lines stay none
abbrev pub addressed : ℕ → List ℕ → List ℕ
addressed by [] = []
addressed by (b ∷ bs) = if by == 0 then b ∷ bs else decimal by ++ codes " " ++ b ∷ bs

-- the text of a reply to a client, or, where the number is 0, of one to nobody in particular
unfoldable pub reply_text : ℕ → Reply → List ℕ
reply_text by reply = addressed by (reply_lines reply)
