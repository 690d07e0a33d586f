-- What a sink tells after several puts.
use Rattle.std.proofs.Common.{◌≡◌, ◌≢◌, ◌⊎◌, ℕ, ◌+◌, ◌<◌, List, [], ◌∷◌, ◌++◌, length, take, drop, get_or, min, arith, Option, Some, None, option_map, subst, ap, refl, sym, ◌∙◌, append_assoc}
use Rattle.std.proofs.lemmas.List.{append-nil, take_more, drop_more, take_all, take-append-le, take-append-drop, take_min}
use Rattle.std.proofs.Math.Seq.{take-append-add, drop-append_seam}
use Rattle.std.proofs.lemmas.Grind.{flat_map-append}
use Rattle.zs_script.specs.Texts.{reply_text}
use Rattle.zs_script.specs.declared.command.Command.{Command}
use Rattle.zs_machine.specs.declared.event.Event.{Event}
use Rattle.zs_machine.specs.History.{text_of}
use Rattle.zs_session.specs.Puts.{Puts, PutsPart, PutsLast}
use Rattle.zs_session.specs.Session.{Continues}

-- nothing was put
pub puts_none : (told : Option (List ℕ)) → told ≡ option_map (λ b. b ++ []) told
puts_none None = refl
puts_none (Some b) = ap Some (sym (append-nil b))

-- one text was put, and then another
pub puts_two : (start mid end : Option (List ℕ)) (first second : List ℕ) → mid ≡ option_map (λ b. b ++ first) start → end ≡ option_map (λ b. b ++ second) mid → end ≡ option_map (λ b. b ++ (first ++ second)) start
puts_two None mid end first second was is = is ∙ ap (option_map (λ b. b ++ second)) was
puts_two (Some b) mid end first second was is = is ∙ (ap (option_map (λ c. c ++ second)) was ∙ ap Some (append_assoc b first second))

-- the text of a history was put, and then that of the events that came since
pub puts_more : (start mid end : Option (List ℕ)) (old more new : List Event) → new ≡ old ++ more → mid ≡ option_map (λ b. b ++ text_of old) start → end ≡ option_map (λ b. b ++ text_of more) mid → end ≡ option_map (λ b. b ++ text_of new) start
puts_more start mid end old more new goes_on was is =
    puts_two start mid end (text_of old) (text_of more) was is
    ∙ ap (λ t. option_map (λ b. b ++ t) start) (sym (flat_map-append (λ e. reply_text e.by e.reply) old more) ∙ ap (λ es. text_of es) (sym goes_on))

-- the texts of the first events were put, and then that of the next
pub puts_next : (events : List Event) (i : ℕ) (d : Event) (start mid end : Option (List ℕ)) → i < length events → mid ≡ option_map (λ b. b ++ text_of (take i events)) start → end ≡ option_map (λ b. b ++ reply_text (get_or events i d).by (get_or events i d).reply) mid → end ≡ option_map (λ b. b ++ text_of (take (i + 1) events)) start
puts_next events i d start mid end lt was is =
    puts_more start mid end (take i events) (get_or events i d ∷ []) (take (i + 1) events) (take_more events i d lt) was
    (is ∙ ap (λ t. option_map (λ b. b ++ t) mid) (sym (append-nil (reply_text (get_or events i d).by (get_or events i d).reply))))

-- nothing of a text was put
pub part_none : (told : Option (List ℕ)) (text : List ℕ) → PutsPart text told told
part_none told text = record { many = 0; put = puts_none told }

-- all of it was put
pub part_all : (start end : Option (List ℕ)) (text : List ℕ) → Puts text start end → PutsPart text start end
part_all start end text put = record { many = length text; put = put ∙ ap (λ t. option_map (λ b. b ++ t) start) (sym (take_all (length text) text (omega arith))) }

-- a text was put, and then a part of another
pub part_behind : (start mid end : Option (List ℕ)) (first second : List ℕ) → Puts first start mid → PutsPart second mid end → PutsPart (first ++ second) start end
part_behind start mid end first second was part =
    record {
      many = length first + part.many;
      put = puts_two start mid end first (take part.many second) was part.put ∙ ap (λ t. option_map (λ b. b ++ t) start) (sym (take-append-add first second part.many));
    }

-- a part of a text is one of a longer one
pub part_longer : (start end : Option (List ℕ)) (first second : List ℕ) → PutsPart first start end → PutsPart (first ++ second) start end
part_longer start end first second part =
    record {
      many = min part.many (length first);
      put = part.put ∙ ap (λ t. option_map (λ b. b ++ t) start) (sym (shorter first second part.many));
    }
  where
    shorter : (xs ys : List ℕ) (n : ℕ) → take (min n (length xs)) (xs ++ ys) ≡ take n xs
    shorter xs ys n = take-append-le (min n (length xs)) xs ys (omega arith) ∙ take_min n xs

-- the text of a history was put, and then a part of that of the events that came since
pub part_more : (start mid end : Option (List ℕ)) (old more new : List Event) → new ≡ old ++ more → Puts (text_of old) start mid → PutsPart (text_of more) mid end → PutsPart (text_of new) start end
part_more start mid end old more new goes_on was part =
    subst (λ (t : List ℕ). PutsPart t start end) (sym (flat_map-append (λ e. reply_text e.by e.reply) old more) ∙ ap (λ es. text_of es) (sym goes_on))
    (part_behind start mid end (text_of old) (text_of more) was part)

-- the texts of the first events were put, and then a part of that of the next
pub part_at : (events : List Event) (i : ℕ) (d : Event) (start mid end : Option (List ℕ)) → i < length events → Puts (text_of (take i events)) start mid → PutsPart (reply_text (get_or events i d).by (get_or events i d).reply) mid end → PutsPart (text_of events) start end
part_at events i d start mid end lt was part =
    part_more start mid end (take i events) (get_or events i d ∷ drop (i + 1) events) events
    (sym (take-append-drop i events) ∙ ap (λ es. take i events ++ es) (drop_more events i d lt)) was
    (part_longer mid end (reply_text (get_or events i d).by (get_or events i d).reply) (text_of (drop (i + 1) events)) part)

-- a put that failed has put a beginning
pub part_put : (start end : Option (List ℕ)) (text bytes : List ℕ) → bytes ≡ text → (k : ℕ) × (end ≡ option_map (λ b. b ++ take k bytes) start) → PutsPart text start end
part_put start end text bytes same put = record { many = put.0; put = put.1 ∙ ap (λ t. option_map (λ b. b ++ take put.0 t) start) same }

-- the text of the events so far was put, and nothing of those that came since
pub part_before : (start end : Option (List ℕ)) (old more new : List Event) → new ≡ old ++ more → Puts (text_of old) start end → PutsPart (text_of new) start end
part_before start end old more new goes_on was = part_more start end end old more new goes_on was (part_none end (text_of more))

-- the same, of the event that the loop is at
pub part_of_event : (events : List Event) (i : ℕ) (e : Event) (start mid end : Option (List ℕ)) → e ≡ get_or events i e → i < length events → Puts (text_of (take i events)) start mid → PutsPart (reply_text e.by e.reply) mid end → PutsPart (text_of events) start end
part_of_event events i e start mid end is lt was part =
    part_at events i e start mid end lt was (subst (λ (x : Event). PutsPart (reply_text x.by x.reply) mid end) is part)

-- the same, where those that came since are what stands behind the old ones
pub part_rest : (start mid end : Option (List ℕ)) (old new rest : List Event) (cs : List Command) → Continues old new cs → rest ≡ drop (length old) new → Puts (text_of old) start mid → PutsPart (text_of rest) mid end → PutsPart (text_of new) start end
part_rest start mid end old new rest cs goes is was part =
    let more : rest ≡ goes.more = is ∙ (ap (λ es. drop (length old) es) goes.is ∙ drop-append_seam old goes.more) in
    part_more start mid end old goes.more new goes.is was (subst (λ (es : List Event). PutsPart (text_of es) mid end) more part)

-- the same, where all of it was put
pub puts_rest : (start mid end : Option (List ℕ)) (old new rest : List Event) (cs : List Command) → Continues old new cs → rest ≡ drop (length old) new → Puts (text_of old) start mid → Puts (text_of rest) mid end → Puts (text_of new) start end
puts_rest start mid end old new rest cs goes is was put =
    let more : rest ≡ goes.more = is ∙ (ap (λ es. drop (length old) es) goes.is ∙ drop-append_seam old goes.more) in
    puts_more start mid end old goes.more new goes.is was (subst (λ (es : List Event). Puts (text_of es) mid end) more put)

-- the text of some events was put, which are these
pub put_all : (start now : Option (List ℕ)) (es fs : List Event) → es ≡ fs → now ≡ option_map (λ b. b ++ text_of es) start → now ≡ option_map (λ b. b ++ text_of fs) start
put_all start now es fs is was = was ∙ ap (λ (x : List Event). option_map (λ b. b ++ text_of x) start) is

-- a line that is put, or for which the sink fails
pub puts_last : (text : List ℕ) (n status : ℕ) (before now : Option (List ℕ)) → (status ≡ n) ⊎ (status ≡ 6) → n ≢ 7 → (status ≢ 6 → Puts text before now) → PutsPart text before now → PutsLast text status before now
puts_last text n status before now ends other whole part = record {
  whole = λ six seven. whole six;
  part = part;
  silent = λ seven. absurd (not_seven n status ends other seven);
}
  where
    not_seven : (n status : ℕ) → (status ≡ n) ⊎ (status ≡ 6) → n ≢ 7 → status ≡ 7 → ⊥
    not_seven n status ends other seven = grind arith
