-- What the verdict of a batch leaves of marks and entries.
use Rattle.std.proofs.Common.{◌≡◌, ℕ, ◌+◌, ◌||◌, ◌&&◌, ◌++◌, Bool, true, false, cond, List, [], ◌∷◌, length, refl, sym, ◌∙◌, ap, subst, append-nil, append_assoc, length-append}
use Rattle.std.proofs.lemmas.List.Folds.{list_any-append}
use Rattle.std.proofs.lemmas.List.Elements.{filter-append}
use Rattle.std.specs.Prelude.{Option, Some, None}
use Rattle.zs_ids.specs.declared.block.Piece.{Piece}
use Rattle.zs_ledger.specs.declared.entry.Entry.{Entry}
use Rattle.zs_scan.specs.View.{Mark, is_same, mark_of, flies, flies_in, MarksAs}
use Rattle.zs_scan.specs.Steps.{has_entry, still_flying}
use Rattle.zs_scan.proofs.Pieces.{same_is}

-- an entry of a piece that does not fly in the batch
pub none_landed : (marks : List (Piece × Mark)) (number : ℕ) (e : Entry) (entries : List Entry) → flies_in number (mark_of marks e.piece) ≡ false → entries ≡ entries ++ still_flying marks number (e ∷ [])
none_landed marks number e entries not_here = rw not_here (sym (append-nil entries))

pub none_marked : (marks : List (Piece × Mark)) (number : ℕ) (p : Piece) → flies_in number (mark_of marks p) ≡ false → (q : Piece) → mark_of marks q ≡ cond (is_same p q && flies_in number (mark_of marks q)) None (mark_of marks q)
none_marked marks number p not_here q = go (is_same p q) refl
  where
    go : (b : Bool) → is_same p q ≡ b → mark_of marks q ≡ cond (b && flies_in number (mark_of marks q)) None (mark_of marks q)
    go true same = let here : flies_in number (mark_of marks q) ≡ false = subst (λ (x : Piece). flies_in number (mark_of marks x) ≡ false) (same_is p q same) not_here in rw here refl
    go false apart = refl

-- an entry of a piece that flies in it
pub one_landed : (marks : List (Piece × Mark)) (number : ℕ) (e : Entry) (entries : List Entry) → flies_in number (mark_of marks e.piece) ≡ true → entries ++ e ∷ [] ≡ entries ++ still_flying marks number (e ∷ [])
one_landed marks number e entries here = rw here refl

pub one_marked : (old new : List (Piece × Mark)) (number : ℕ) (p : Piece) → flies_in number (mark_of old p) ≡ true → MarksAs old new p None → (q : Piece) → mark_of new q ≡ cond (is_same p q && flies_in number (mark_of old q)) None (mark_of old q)
one_marked old new number p here marked q = marked q ∙ go (is_same p q) refl
  where
    go : (b : Bool) → is_same p q ≡ b → cond b None (mark_of old q) ≡ cond (b && flies_in number (mark_of old q)) None (mark_of old q)
    go true same = let also : flies_in number (mark_of old q) ≡ true = subst (λ (x : Piece). flies_in number (mark_of old x) ≡ true) (same_is p q same) here in rw also refl
    go false apart = refl

-- a piece that flies in a batch flies
pub flies_here : (m : Option Mark) (number : ℕ) → flies_in number m ≡ true → flies m ≡ true
flies_here None number h = cc
flies_here (Some None) number h = cc
flies_here (Some (Some b)) number h = refl

-- one entry more has landed
after_one : (number : ℕ) (m n : Option Mark) (h s : Bool) → n ≡ cond (h && flies_in number m) None m → cond (s && flies_in number n) None n ≡ cond ((h || (s || false)) && flies_in number m) None m
after_one number m n false true is = rw is refl
after_one number m n false false is = rw is refl
after_one number m n true s is = go (flies_in number m) refl s
  where
    go : (f : Bool) → flies_in number m ≡ f → (b : Bool) → cond (b && flies_in number n) None n ≡ cond (true && flies_in number m) None m
    go true flew true = let gone : n ≡ None = is ∙ ap (λ x. cond x None m) flew in rw (gone, flew) refl
    go true flew false = let gone : n ≡ None = is ∙ ap (λ x. cond x None m) flew in rw (gone, flew) refl
    go false stayed true = let same : n ≡ m = is ∙ ap (λ x. cond x None m) stayed in rw (same, stayed) refl
    go false stayed false = let same : n ≡ m = is ∙ ap (λ x. cond x None m) stayed in rw (same, stayed) refl

-- the marks are as they were, but for those of the pieces of these entries that flew in the batch
abbrev pub HaveLanded : List (Piece × Mark) → List (Piece × Mark) → ℕ → List Entry → Type 0
HaveLanded old new number entries = (q : Piece) → mark_of new q ≡ cond (has_entry entries q && flies_in number (mark_of old q)) None (mark_of old q)

pub land_marks : (old now new : List (Piece × Mark)) (number : ℕ) (es : List Entry) (e : Entry) → HaveLanded old now number es → ((q : Piece) → mark_of new q ≡ cond (is_same e.piece q && flies_in number (mark_of now q)) None (mark_of now q)) → HaveLanded old new number (es ++ e ∷ [])
land_marks old now new number es e so_far step q =
    step q ∙ after_one number (mark_of old q) (mark_of now q) (has_entry es q) (is_same e.piece q) (so_far q)
    ∙ ap (λ b. cond (b && flies_in number (mark_of old q)) None (mark_of old q)) (sym (list_any-append (λ (x : Entry). is_same x.piece q) es (e ∷ [])))

-- what of one entry more is still flying, is what of it was flying at first
pub still_one : (old now : List (Piece × Mark)) (number : ℕ) (es : List Entry) (e : Entry) → HaveLanded old now number es → has_entry es e.piece ≡ false → still_flying now number (e ∷ []) ≡ still_flying old number (e ∷ [])
still_one old now number es e so_far apart =
    let same : mark_of now e.piece ≡ mark_of old e.piece = so_far e.piece ∙ ap (λ b. cond (b && flies_in number (mark_of old e.piece)) None (mark_of old e.piece)) apart in
    ap (λ m. cond (flies_in number m) (e ∷ []) []) same

pub land_entries : (old now : List (Piece × Mark)) (number : ℕ) (es : List Entry) (e : Entry) (was between after : List Entry) → HaveLanded old now number es → has_entry es e.piece ≡ false
    → between ≡ was ++ still_flying old number es → after ≡ between ++ still_flying now number (e ∷ []) → after ≡ was ++ still_flying old number (es ++ e ∷ [])
land_entries old now number es e was between after so_far apart before step =
    step ∙ ap (λ l. between ++ l) (still_one old now number es e so_far apart) ∙ ap (λ l. l ++ still_flying old number (e ∷ [])) before
    ∙ append_assoc was (still_flying old number es) (still_flying old number (e ∷ [])) ∙ ap (λ l. was ++ l) (sym (filter-append (λ (x : Entry). flies_in number (mark_of old x.piece)) es (e ∷ [])))

pub land_count : (old now : List (Piece × Mark)) (number : ℕ) (es : List Entry) (e : Entry) (made : ℕ) → HaveLanded old now number es → has_entry es e.piece ≡ false → made ≡ length (still_flying old number es)
    → made + cond (flies_in number (mark_of now e.piece)) 1 0 ≡ length (still_flying old number (es ++ e ∷ []))
land_count old now number es e made so_far apart count =
    let same : mark_of now e.piece ≡ mark_of old e.piece = so_far e.piece ∙ ap (λ b. cond (b && flies_in number (mark_of old e.piece)) None (mark_of old e.piece)) apart in
    let whole : length (still_flying old number (es ++ e ∷ [])) ≡ length (still_flying old number es) + length (still_flying old number (e ∷ [])) =
    ap (λ (l : List Entry). length l) (filter-append (λ (x : Entry). flies_in number (mark_of old x.piece)) es (e ∷ [])) ∙ length-append (still_flying old number es) (still_flying old number (e ∷ [])) in
    let last : length (still_flying old number (e ∷ [])) ≡ cond (flies_in number (mark_of old e.piece)) 1 0 = go (flies_in number (mark_of old e.piece)) in
    ap (λ m. made + cond (flies_in number m) 1 0) same ∙ ap (λ k. k + cond (flies_in number (mark_of old e.piece)) 1 0) count ∙ sym (whole ∙ ap (λ k. length (still_flying old number es) + k) last)
  where
    go : (b : Bool) → length (cond b (e ∷ []) []) ≡ cond b 1 0
    go true = refl
    go false = refl
