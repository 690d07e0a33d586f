-- Lemmas on a script's lines.
use Rattle.std.proofs.Common.{◌≡◌, ℕ, ◌+◌, ◌<◌, ◌≤◌, ◌==◌, Bool, true, false, cond, List, [], ◌∷◌, ◌++◌, length, take, drop, position, Option, None, Some, Result, Ok, Err, refl, sym, ap, ◌∙◌, append_assoc, append-nil, arith}
use Rattle.std.proofs.lemmas.Bool.{ltb-true, ltb-false}
use Rattle.std.proofs.lemmas.List.Sums.{fails_before_first}
use Rattle.std.specs.List.{list_all, slice_split, onto_first, position_or_len, before_first, after_first}
use Rattle.std.specs.Option.{option_to_list}
use Rattle.std.specs.Str.Lines.{strip_carriage_return}
use Rattle.std.proofs.lemmas.List.Splits.{slice_split_first, slice_split_none}
use Rattle.zs_script.specs.Faults.{◌>>=◌}
use Rattle.zs_script.specs.Verbs.{verb_of, verb_named, followed_verb}
use Rattle.zs_script.specs.Rows.{pool_of, fs_of, snap_of, clone_of, destroy_of, swap_of, make_of, write_of, read_of, walk_of, issue_of, hold_of, rot_of, alone_of, command_of}
use Rattle.zs_script.specs.Script.{TextLine, lines_of, lines_of_parts, is_allowed, with_line, words_of, is_text_byte, command_at, command_in, at_line, line_of, lines_from, Fails, Gives}
use Rattle.zs_script.specs.Reading.{lines_left, behind, Passes, Stops}
use Rattle.zs_script.specs.declared.command.Line.{Line}
use Rattle.zs_script.specs.declared.command.ScriptFault.{ScriptFault}
use Rattle.zs_script.specs.declared.command.ScriptFault.TheVariants as faults
use Rattle.zs_script.specs.declared.command.Why.TheVariants as why
use Rattle.zs_script.specs.declared.verb.Verb.{Verb}
use Rattle.zs_script.specs.declared.verb.Verb.TheVariants as verbs

-- a function gives what it is
pub gives_itself : {X : Type 0} → (r read : Result X ScriptFault) → r ≡ read → Gives (λ x. x) r read
gives_itself (Ok x) read h = sym h
gives_itself (Err faults.Memory) read h = tt
gives_itself (Err (faults.Bad line w)) read h = sym h

-- what follows may be exchanged for what does the same
bind_same : {A B E : Type 0} (r : Result A E) (f g : A → Result B E) → ((x : A) → f x ≡ g x) → (r >>= f) ≡ (r >>= g)
bind_same (Ok x) f g h = h x
bind_same (Err e) f g h = refl

-- no command takes seven words
seven : (verb : Verb) (a b c d e f g : List ℕ) (rest : List (List ℕ)) → command_of verb (a ∷ b ∷ c ∷ d ∷ e ∷ f ∷ g ∷ []) ≡ command_of verb (a ∷ b ∷ c ∷ d ∷ e ∷ f ∷ g ∷ rest)
unfolding command_of pool_of fs_of snap_of clone_of destroy_of swap_of make_of write_of read_of walk_of issue_of hold_of rot_of alone_of
seven verbs.Pool a b c d e f g rest = refl
seven verbs.Fs a b c d e f g rest = refl
seven verbs.Snap a b c d e f g rest = refl
seven verbs.Clone a b c d e f g rest = refl
seven verbs.Destroy a b c d e f g rest = refl
seven verbs.Swap a b c d e f g rest = refl
seven verbs.Make a b c d e f g rest = refl
seven verbs.Write a b c d e f g rest = refl
seven verbs.Read a b c d e f g rest = refl
seven verbs.Sync a b c d e f g rest = refl
seven verbs.Scrub a b c d e f g rest = refl
seven verbs.Pause a b c d e f g rest = refl
seven verbs.Resume a b c d e f g rest = refl
seven verbs.Stop a b c d e f g rest = refl
seven verbs.Walk a b c d e f g rest = refl
seven verbs.Issue a b c d e f g rest = refl
seven verbs.Hold a b c d e f g rest = refl
seven verbs.Land a b c d e f g rest = refl
seven verbs.Finish a b c d e f g rest = refl
seven verbs.Rot a b c d e f g rest = refl
seven verbs.Errors a b c d e f g rest = refl
seven verbs.List a b c d e f g rest = refl
seven verbs.Status a b c d e f g rest = refl

-- so the words from the eighth on make no difference
pub many_words : (begun : Bool) (words : List (List ℕ)) → command_at begun (take 7 words) ≡ command_at begun words
unfolding command_at verb_of
many_words begun [] = refl
many_words begun (a ∷ []) = refl
many_words begun (a ∷ b ∷ []) = refl
many_words begun (a ∷ b ∷ c ∷ []) = refl
many_words begun (a ∷ b ∷ c ∷ d ∷ []) = refl
many_words begun (a ∷ b ∷ c ∷ d ∷ e ∷ []) = refl
many_words begun (a ∷ b ∷ c ∷ d ∷ e ∷ f ∷ []) = refl
many_words begun (a ∷ b ∷ c ∷ d ∷ e ∷ f ∷ g ∷ rest) =
    bind_same (verb_named a >>= followed_verb) _ _ (λ verb. ap (λ r. cond (is_allowed begun verb) r (Err why.Order)) (seven verb a b c d e f g rest))

-- what the words of a line command, of which the first seven were taken
pub text_commands : (number : ℕ) (begun : Bool) (line : List ℕ) (words : List (List ℕ)) → list_all is_text_byte line ≡ true → words ≡ take 7 (words_of line) → at_line number (command_at begun words) ≡ at_line number (command_in begun line)
unfolding command_in
text_commands number begun line words text are = rw (text, are) (ap (at_line number) (many_words begun (words_of line)))

-- a text has a part
cons_cond : (b : Bool) (x : ℕ) (parts : List (List ℕ)) → (y : List ℕ) × (ys : List (List ℕ)) × (cond b ([] ∷ parts) (onto_first x parts) ≡ y ∷ ys)
cons_cond true x parts = ([], parts, refl)
cons_cond false x [] = (x ∷ [], [], refl)
cons_cond false x (part ∷ parts) = (x ∷ part, parts, refl)

split_cons : (p : ℕ → Bool) (xs : List ℕ) → (y : List ℕ) × (ys : List (List ℕ)) × (slice_split p xs ≡ y ∷ ys)
split_cons p [] = ([], [], refl)
split_cons p (x ∷ xs) = cons_cond (p x) x (slice_split p xs)

-- a part before others is a line of its own
part_before : (cut : Bool) (part : List ℕ) (parts : List (List ℕ)) → (y : List ℕ) (ys : List (List ℕ)) → parts ≡ y ∷ ys → lines_of_parts cut (part ∷ parts) ≡ record { bytes = strip_carriage_return part; over = false } ∷ lines_of_parts cut parts
part_before cut part parts y ys is = rw is refl

was_none : (b : Bool) (x : ℕ) → cond b (Some x) None ≡ None → b ≡ false
was_none true x h = cc
was_none false x h = refl

was_some : (b : Bool) (x y : ℕ) → cond b (Some x) None ≡ Some y → b ≡ true
was_some true x y h = refl
was_some false x y h = cc

some_is : (b : Bool) (x y : ℕ) → cond b (Some x) None ≡ Some y → x ≡ y
some_is true x y h = cc
some_is false x y h = cc

-- a text without a line feed is one line
pub last_line : (cut : Bool) (text : List ℕ) → position (λ b. b == 10) text ≡ None → lines_of cut text ≡ record { bytes = text; over = cut } ∷ []
unfolding lines_of
last_line cut text is =
    let far : length text ≤ position_or_len (λ b. b == 10) text = ltb-false _ _ (was_none _ _ is) in
    ap (lines_of_parts cut) (slice_split_none (λ b. b == 10) text (λ k d below. fails_before_first (λ b. b == 10) text k d (omega arith)))

-- the first line ends at the first line feed
pub first_line : (cut : Bool) (text : List ℕ) (end : ℕ) → position (λ b. b == 10) text ≡ Some end → lines_of cut text ≡ record { bytes = strip_carriage_return (take end text); over = false } ∷ lines_of cut (drop (end + 1) text)
unfolding lines_of
first_line cut text end is =
    let p : ℕ → Bool = λ b. b == 10 in
    let near : position_or_len p text < length text = ltb-true _ _ (was_some _ _ _ is) in
    let parts = split_cons p (after_first p text) in
    let here : position_or_len p text ≡ end = some_is _ _ _ is in
    ap (lines_of_parts cut) (slice_split_first p text 0 near)
    ∙ part_before cut (before_first p text) (slice_split p (after_first p text)) parts.0 parts.1 parts.2
    ∙ ap (λ (e : ℕ). record { bytes = strip_carriage_return (take e text); over = false } ∷ lines_of_parts cut (slice_split p (drop (e + 1) text))) here

behind_behind : (lines mid : List Line) (r : Result (List Line) ScriptFault) → behind lines (r >>= λ more. Ok (mid ++ more)) ≡ behind (lines ++ mid) r
behind_behind lines mid (Ok more) = ap Ok (sym (append_assoc lines mid more))
behind_behind lines mid (Err e) = refl

-- a line that is read is put behind the lines so far
pub passes : (lines : List Line) (number : ℕ) (begun : Bool) (line : TextLine) (found : Option Line) → line_of number begun line ≡ Ok found → Passes lines number begun line (lines ++ option_to_list found) (with_line begun found)
unfolding lines_from
passes lines number begun line found is = record { read = λ more. rw is (behind_behind lines (option_to_list found) (lines_from (number + 1) (with_line begun found) more)) }

-- a faulty line ends the reading
pub stops : (lines : List Line) (number : ℕ) (begun : Bool) (line : TextLine) (fault : ScriptFault) → Fails fault (line_of number begun line) → Stops lines number begun line fault
unfolding lines_from
stops lines number begun line faults.Memory is = record { read = λ more. tt }
stops lines number begun line (faults.Bad at w) is = record { read = λ more. rw is refl }

-- where no text is left, no line follows
pub nothing_left : (cut : Bool) (lines : List Line) (number : ℕ) (begun : Bool) (rest : Option (List ℕ)) → rest ≡ None → behind lines (lines_from number begun (lines_left cut rest)) ≡ Ok lines
unfolding lines_from
nothing_left cut lines number begun rest is = rw is (ap Ok (append-nil lines))
