-- The command words.
use Rattle.std.specs.Prelude.{ℕ, ◌==◌, List, [], ◌∷◌, if◌then◌else◌, Result, Ok, Err, codes}
use lib.Pointwise.{pointwise}
use Rattle.zs_script.specs.Faults.{◌>>=◌}
use Rattle.zs_script.specs.declared.command.Why.{Why}
use Rattle.zs_script.specs.declared.command.Why.TheVariants as why
use Rattle.zs_script.specs.declared.verb.Verb.{Verb}
use Rattle.zs_script.specs.declared.verb.Verb.TheVariants as verbs

-- the command word that is spelled so
unfoldable pub verb_named : List ℕ → Result Verb Why
verb_named word =
    if pointwise ◌==◌ word (codes "pool") then Ok verbs.Pool
    else (if pointwise ◌==◌ word (codes "fs") then Ok verbs.Fs
    else (if pointwise ◌==◌ word (codes "snap") then Ok verbs.Snap
    else (if pointwise ◌==◌ word (codes "clone") then Ok verbs.Clone
    else (if pointwise ◌==◌ word (codes "destroy") then Ok verbs.Destroy
    else (if pointwise ◌==◌ word (codes "swap") then Ok verbs.Swap
    else (if pointwise ◌==◌ word (codes "make") then Ok verbs.Make
    else (if pointwise ◌==◌ word (codes "write") then Ok verbs.Write
    else (if pointwise ◌==◌ word (codes "read") then Ok verbs.Read
    else (if pointwise ◌==◌ word (codes "sync") then Ok verbs.Sync
    else (if pointwise ◌==◌ word (codes "scrub") then Ok verbs.Scrub
    else (if pointwise ◌==◌ word (codes "pause") then Ok verbs.Pause
    else (if pointwise ◌==◌ word (codes "resume") then Ok verbs.Resume
    else (if pointwise ◌==◌ word (codes "stop") then Ok verbs.Stop
    else (if pointwise ◌==◌ word (codes "walk") then Ok verbs.Walk
    else (if pointwise ◌==◌ word (codes "issue") then Ok verbs.Issue
    else (if pointwise ◌==◌ word (codes "hold") then Ok verbs.Hold
    else (if pointwise ◌==◌ word (codes "land") then Ok verbs.Land
    else (if pointwise ◌==◌ word (codes "finish") then Ok verbs.Finish
    else (if pointwise ◌==◌ word (codes "rot") then Ok verbs.Rot
    else (if pointwise ◌==◌ word (codes "errors") then Ok verbs.Errors
    else (if pointwise ◌==◌ word (codes "list") then Ok verbs.List
    else (if pointwise ◌==◌ word (codes "status") then Ok verbs.Status
    else Err why.Word))))))))))))))))))))))

-- behind `scrub` no line has a word
unfoldable pub followed_verb : Verb → Result Verb Why
followed_verb verbs.Scrub = Err why.Word
followed_verb verb = Ok verb

-- the command word that is spelled so, where a word follows it
abbrev pub verb_before : List ℕ → Result Verb Why
verb_before word = verb_named word >>= followed_verb

-- a line's command word is its first
unfoldable pub verb_of : List (List ℕ) → Result Verb Why
verb_of [] = Err why.Word
verb_of (word ∷ []) = verb_named word
verb_of (word ∷ next ∷ rest) = verb_before word
