-- What each call leaves of a scan is orderly again.
use Rattle.std.proofs.Common.{◌≡◌, ◌≢◌, ℕ, ◌+◌, ◌≤◌, ◌||◌, ◌++◌, Bool, true, false, cond, List, [], ◌∷◌, filter, length, refl, sym, ◌∙◌, ap, subst, inl, inr, ◌⊎◌, arith, is_some}
use Rattle.std.specs.Prelude.{Option, Some, None}
use Rattle.std.specs.List.Sorted.{IsStrictlySortedBy}
use Rattle.zs_ids.specs.declared.block.Piece.{Piece}
use Rattle.zs_ids.specs.declared.block.Item.{Item}
use Rattle.zs_ids.specs.Graph.{Has}
use Rattle.zs_ledger.specs.declared.entry.Entry.{Entry}
use Rattle.zs_phys.specs.declared.phys.Phys.{Phys}
use Rattle.zs_phys.specs.declared.phys.Status.TheVariants.{Scanning}
use Rattle.std.specs.Prelude.{take, min}
use Rattle.std.proofs.lemmas.List.{length-map, length-take}
use Rattle.std.proofs.lemmas.List.Sums.{length-filter, count_by-le-length}
use Rattle.zs_ids.specs.Piece.{piece_cmp}
use Rattle.zs_queue.specs.Waiting.{waits, without, lowest, is_of}
use Rattle.std.specs.Map.{keys_of, lookup}
use Rattle.std.specs.BTreeMap.{is_at}
use Rattle.zs_scan.specs.declared.batch.Batch.{Batch}
use Rattle.zs_scan.specs.View.{Mark, ScanView, is_same, mark_of, is_waiting, is_flying, pieces_in, has_item, MarksAs}
use Rattle.zs_scan.specs.Kept.{IsOrderly}
use Rattle.zs_queue.specs.Lowest.{lowest_is_batch}
use Rattle.zs_phys.specs.declared.scope.Scope.{Scope}
use Rattle.zs_cover.specs.Laws.{started}
use Rattle.std.proofs.Math.Nat.{le_refl}
use Rattle.zs_scan.specs.Steps.{Freed, Taken, scrub_scope, scrub_started}
use Rattle.zs_scan.proofs.Pieces.{same_is, same_itself}
use Rattle.zs_scan.proofs.Flights.{HaveFlown}
use Rattle.zs_scan.proofs.Marking.{none_marked_at, kept_mark, waits_without, items_any}
use Rattle.zs_scan.proofs.Batches.{has-left, has-last, from-last, rises_push}

-- the queue after a call keeps what every queue keeps
pub record IsQueue (waiting : List (Piece × Item)) (limit : ℕ) : Type 0 where
  pub ordered : IsStrictlySortedBy piece_cmp (keys_of waiting)
  pub named : (e : Piece × Item) → Has waiting e → e.1.piece ≡ e.0
  pub within : length waiting ≤ limit

neither : (b : Bool) → cond {A = Option Mark} b None None ≡ None
neither true = refl
neither false = refl

-- a piece was freed
pub freed_orderly : (v : ScanView) (piece : Piece) (waiting : List (Piece × Item)) (limit : ℕ) (marks : List (Piece × Mark)) → IsOrderly v → IsQueue waiting limit → waiting ≡ without v.waiting (piece ∷ []) → MarksAs v.marks marks piece None → length (filter is_flying marks) ≤ v.room
    → IsOrderly (record v { waiting = waiting; limit = limit; marks = marks })
freed_orderly v piece waiting limit marks kept queue is as_before room = record {
  once = kept.once;
  unchecked = λ p m there. kept.unchecked p m (kept_mark v.marks marks piece p m as_before there);
  waits = λ p. ap (λ (l : List (Piece × Item)). waits l p) is ∙ waits_without v.waiting (piece ∷ []) p ∙ left (is_same piece p) p refl;
  ordered = queue.ordered;
  named = queue.named;
  within = queue.within;
  scoped = λ p m there. kept.scoped p m (kept_mark v.marks marks piece p m as_before there);
  flies = λ p b there. kept.flies p b (kept_mark v.marks marks piece p (Some b) as_before there);
  rising = kept.rising;
  numbers = kept.numbers;
  idle = λ rests. none_marked_at marks (λ q. as_before q ∙ ap (λ (l : List (Piece × Mark)). cond (is_same piece q) None (mark_of l q)) (kept.idle rests) ∙ neither (is_same piece q));
  landing = room;
  copies = kept.copies;
  same_status = kept.same_status;
  stored = kept.stored;
}
  where
    left : (b : Bool) (p : Piece) → is_same piece p ≡ b → cond (is_same piece p || false) false (waits v.waiting p) ≡ is_waiting (mark_of marks p)
    left true p same = rw (same) (sym (ap is_waiting (as_before p ∙ ap (λ b. cond b None (mark_of v.marks p)) same)))
    left false p apart = rw (apart) (kept.waits p ∙ sym (ap is_waiting (as_before p ∙ ap (λ b. cond b None (mark_of v.marks p)) apart)))

pub freed_step : (v now : ScanView) (piece : Piece) (waiting : List (Piece × Item)) (limit : ℕ) (marks : List (Piece × Mark)) → v ≡ now → waiting ≡ without v.waiting (piece ∷ []) → limit ≡ v.limit → MarksAs v.marks marks piece None → Freed now piece (record v { waiting = waiting; limit = limit; marks = marks })
freed_step v now piece waiting limit marks same is keeps as_before =
    subst (λ (o : ScanView). Freed o piece (record v { waiting = waiting; limit = limit; marks = marks })) same (record { rest = rw (is, keeps) refl; marks = as_before })

-- a batch was taken
module _ (v : ScanView) (b : Batch) (waiting : List (Piece × Item)) (limit : ℕ) (marks : List (Piece × Mark)) (room : ℕ) (kept : IsOrderly v) (queue : IsQueue waiting limit) (number : b.number ≡ v.batches) (rising : IsStrictlySortedBy piece_cmp (pieces_in b.items))
    (waited : (q : Piece) → has_item b.items q ≡ true → mark_of v.marks q ≡ Some None) (is : waiting ≡ without v.waiting (pieces_in b.items)) (flown : HaveFlown v.marks marks b.number b.items) (enough : length (filter is_flying marks) ≤ room) where
  was : (p : Piece) (m : Mark) → mark_of marks p ≡ Some m → ((has_item b.items p ≡ true) × (m ≡ Some b.number)) ⊎ (mark_of v.marks p ≡ Some m)
  was p m there = go (has_item b.items p) refl (sym (flown p) ∙ there)
    where
      go : (x : Bool) → has_item b.items p ≡ x → cond x (Some (Some b.number)) (mark_of v.marks p) ≡ Some m → ((has_item b.items p ≡ true) × (m ≡ Some b.number)) ⊎ (mark_of v.marks p ≡ Some m)
      go true has e = inl (has, sym (some_is (Some b.number) m e))
        where
          some_is : (x y : Mark) → Some x ≡ Some y → x ≡ y
          some_is x y e = ap (λ (o : Option Mark). value o) e
            where
              value : Option Mark → Mark
              value None = x
              value (Some z) = z
      go false has e = inr e

  pub taken_orderly : IsOrderly (record v { waiting = waiting; limit = limit; marks = marks; flight = v.flight ++ b ∷ []; batches = v.batches + 1; room = room })
  taken_orderly = record {
    once = kept.once;
    unchecked = λ p m there. elim (was p m there) [ inl new ↦ kept.unchecked p None (waited p new.0) | inr old ↦ kept.unchecked p m old ];
    waits = λ p. ap (λ (l : List (Piece × Item)). waits l p) is ∙ waits_without v.waiting (pieces_in b.items) p ∙ ap (λ x. cond x false (waits v.waiting p)) (items_any b.items p) ∙ left p (has_item b.items p) refl;
    ordered = queue.ordered;
    named = queue.named;
    within = queue.within;
    scoped = λ p m there. elim (was p m there) [ inl new ↦ kept.scoped p None (waited p new.0) | inr old ↦ kept.scoped p m old ];
    flies = λ p c there. elim (was p (Some c) there) [
      | inl new ↦ record { batch = b; here = has-last v.flight b; named = sym (some_nat c b.number new.1); is_item = new.0 }
      | inr old ↦ let f = kept.flies p c old in record { batch = f.batch; here = has-left v.flight (b ∷ []) f.batch f.here; named = f.named; is_item = f.is_item }
    ];
    rising = λ c h. elim (from-last v.flight b c h) [ inl old ↦ kept.rising c old | inr new ↦ subst (λ (x : Batch). IsStrictlySortedBy piece_cmp (pieces_in x.items)) new rising ];
    numbers = rises_push v.batches v.flight b kept.numbers number;
    idle = λ rests. none_marked_at marks (λ q. flown q ∙ idle_at q (kept.idle rests) (has_item b.items q) refl);
    landing = enough;
    copies = kept.copies;
    same_status = kept.same_status;
    stored = kept.stored;
  }
    where
      some_nat : (x y : ℕ) → Some x ≡ Some y → x ≡ y
      some_nat x y e = ap (λ (o : Option ℕ). value o) e
        where
          value : Option ℕ → ℕ
          value None = x
          value (Some z) = z

      left : (p : Piece) (x : Bool) → has_item b.items p ≡ x → cond (has_item b.items p) false (waits v.waiting p) ≡ is_waiting (mark_of marks p)
      left p true has = rw has (sym (ap is_waiting (flown p ∙ ap (λ y. cond y (Some (Some b.number)) (mark_of v.marks p)) has)))
      left p false has = rw has (kept.waits p ∙ sym (ap is_waiting (flown p ∙ ap (λ y. cond y (Some (Some b.number)) (mark_of v.marks p)) has)))

      idle_at : (q : Piece) → v.marks ≡ [] → (x : Bool) → has_item b.items q ≡ x → cond (has_item b.items q) (Some (Some b.number)) (mark_of v.marks q) ≡ None
      idle_at q none true has = let there : mark_of v.marks q ≡ Some None = waited q has in let empty : mark_of v.marks q ≡ None = ap (λ (l : List (Piece × Mark)). mark_of l q) none in let no_way : Some None ≡ None = sym there ∙ empty in cc
      idle_at q none false has = rw (has, none) refl

-- where nothing waits and no batch is in flight no piece has a mark
pub nothing_marked : (v : ScanView) → IsOrderly v → v.waiting ≡ [] → v.flight ≡ [] → v.marks ≡ []
nothing_marked v kept drained landed = none_marked_at v.marks (λ q. unmarked q (mark_of v.marks q) refl)
  where
    unmarked : (q : Piece) (m : Option Mark) → mark_of v.marks q ≡ m → m ≡ None
    unmarked q None is = refl
    unmarked q (Some None) is =
        let waits_here : waits v.waiting q ≡ true = kept.waits q ∙ ap is_waiting is in
        let none : waits v.waiting q ≡ false = ap (λ (l : List (Piece × Item)). waits l q) drained in
        let no_way : true ≡ false = sym waits_here ∙ none in cc
    unmarked q (Some (Some b)) is =
        let f = kept.flies q b is in
        absurd (subst (λ (l : List Batch). Has l f.batch) landed f.here)

-- a scan is over, or a checkpoint is made: nothing waits or flies
module _ (v : ScanView) (run copy : Phys) (stored saved : ℕ) (kept : IsOrderly v) (drained : v.waiting ≡ []) (landed : v.flight ≡ []) (copied : copy ≡ run) (all : stored ≡ length v.checked) where
  pub drained_orderly : (run.status ≢ Scanning → v.marks ≡ []) → IsOrderly (record v { run = run; kept = copy; stored = stored; saved = saved })
  drained_orderly idle = rw (copied, all) (record {
    once = kept.once;
    unchecked = kept.unchecked;
    waits = kept.waits;
    ordered = kept.ordered;
    named = kept.named;
    within = kept.within;
    scoped = kept.scoped;
    flies = kept.flies;
    rising = kept.rising;
    numbers = kept.numbers;
    idle = idle;
    landing = kept.landing;
    copies = kept.copies;
    same_status = refl;
    stored = le_refl (length v.checked);
  })

  -- a scan finishes
  pub finished_orderly : IsOrderly (record v { run = run; kept = copy; stored = stored; saved = saved })
  finished_orderly = drained_orderly (λ rests. nothing_marked v kept drained landed)

pub taken_step : (v now : ScanView) (b : Batch) (waiting : List (Piece × Item)) (limit : ℕ) (marks : List (Piece × Mark)) (batches room : ℕ) → v ≡ now → waiting ≡ without v.waiting (pieces_in b.items) → limit ≡ v.limit → batches ≡ v.batches + 1 → HaveFlown v.marks marks b.number b.items
    → Taken now b (record v { waiting = waiting; limit = limit; marks = marks; flight = v.flight ++ b ∷ []; batches = batches; room = room })
taken_step v now b waiting limit marks batches room same is keeps next flown =
    subst (λ (o : ScanView). Taken o b (record v { waiting = waiting; limit = limit; marks = marks; flight = v.flight ++ b ∷ []; batches = batches; room = room })) same (record { rest = rw (is, keeps, next) refl; marks = flown })

-- an item of the queue waits
has_waits : (es : List (Piece × Item)) (e : Piece × Item) → Has es e → waits es e.0 ≡ true
has_waits [] e h = absurd h
has_waits (x ∷ xs) e h = at (λ later. has_waits xs e later) (is_same e.0 x.0) refl
  where
    at : (Has xs e → waits xs e.0 ≡ true) → (b : Bool) → is_same e.0 x.0 ≡ b → is_some (cond b (Some x.1) (lookup (is_at (piece_cmp e.0)) xs)) ≡ true
    at rest true is = refl
    at rest false is = elim h [
      | inl here ↦ let same : is_same e.0 x.0 ≡ true = subst (λ (y : Piece × Item). is_same e.0 y.0 ≡ true) (sym here) (same_itself e.0) in let no_way : true ≡ false = sym same ∙ is in cc
      | inr later ↦ rest later
    ]

-- so does the piece of an item of a batch
items_found : (es : List (Piece × Item)) (items : List Item) (q : Piece) → ((i : Item) → Has items i → Has es (i.piece, i)) → has_item items q ≡ true → waits es q ≡ true
items_found es [] q each h = cc
items_found es (i ∷ is) q each h = at (λ later. items_found es is q (λ j g. each j (inr g)) later) (is_same i.piece q) refl h
  where
    at : (has_item is q ≡ true → waits es q ≡ true) → (b : Bool) → is_same i.piece q ≡ b → (b || has_item is q) ≡ true → waits es q ≡ true
    at rest true same _ = subst (λ (p : Piece). waits es p ≡ true) (same_is i.piece q same) (has_waits es (i.piece, i) (each i (inl refl)))
    at rest false _ later = rest later

-- and it has the mark of one that waits
pub items_wait : (v : ScanView) (items : List Item) → IsOrderly v → ((i : Item) → Has items i → Has v.waiting (i.piece, i)) → (q : Piece) → has_item items q ≡ true → mark_of v.marks q ≡ Some None
items_wait v items kept here q has = marked (mark_of v.marks q) (sym (kept.waits q) ∙ items_found v.waiting items q here has)
  where
    marked : (m : Option Mark) → is_waiting m ≡ true → m ≡ Some None
    marked None h = cc
    marked (Some None) h = refl
    marked (Some (Some b)) h = cc

-- a batch of the lowest has at most as many items as were asked for, and as wait
pub lowest_few : (es : List (Piece × Item)) (vdev n : ℕ) → (length (lowest es vdev n) ≤ n) × (length (lowest es vdev n) ≤ length es)
lowest_few es vdev n =
    let mapped : length (lowest es vdev n) ≡ length (take n (filter (is_of vdev) es)) = length-map (take n (filter (is_of vdev) es)) (λ (e : Piece × Item). e.1) in
    let taken : length (take n (filter (is_of vdev) es)) ≡ min n (length (filter (is_of vdev) es)) = length-take n (filter (is_of vdev) es) in
    let passed : length (filter (is_of vdev) es) ≤ length es = rw (length-filter (is_of vdev) es) (count_by-le-length (is_of vdev) es) in
    (omega (arith, mapped, taken), omega (arith, mapped, taken, passed))

-- a scrub has started
pub started_is : (v now : ScanView) (t away : ℕ) (scope : Scope) (run kept : Phys) (checked : List Entry) (room : ℕ) (waiting : List (Piece × Item)) (limit : ℕ) (marks : List (Piece × Mark)) → v ≡ now → scope ≡ scrub_scope v.scope t → run ≡ started away → kept ≡ run → checked ≡ [] → waiting ≡ [] → limit ≡ v.limit → marks ≡ []
    → record v { scope = scope; run = run; kept = kept; stored = 0; saved = t; checked = checked; room = room; waiting = waiting; limit = limit; marks = marks }
    ≡ record (scrub_started t away now) { room = room }
started_is v now t away scope run kept checked room waiting limit marks same scrubs first copied none empty keeps unmarked = rw (scrubs, copied, first, none, empty, keeps, unmarked) (ap (λ (o : ScanView). record (scrub_started t away o) { room = room }) same)

-- the batch that was taken, by the queue's own words
pub taken_is : (v : ScanView) (b : Batch) (items : List Item) (vdev n : ℕ) (checked : List Entry) (waiting : List (Piece × Item)) (limit : ℕ) (marks : List (Piece × Mark)) (flight : List Batch) (batches room : ℕ) → IsOrderly v → IsQueue waiting limit → b.number ≡ v.batches → items ≡ lowest v.waiting vdev n → b.items ≡ items
    → checked ≡ v.checked → waiting ≡ without v.waiting (pieces_in items) → HaveFlown v.marks marks b.number items → flight ≡ v.flight ++ b ∷ [] → batches ≡ v.batches + 1 → length (filter is_flying marks) ≤ room
    → IsOrderly (record v { checked = checked; waiting = waiting; limit = limit; marks = marks; flight = flight; batches = batches; room = room })
taken_is v b items vdev n checked waiting limit marks flight batches room kept queue number is same entries rest flown behind next enough =
    let batch = lowest_is_batch v.waiting vdev n kept.named kept.ordered in
    let whole : b.items ≡ lowest v.waiting vdev n = same ∙ is in
    let rising : IsStrictlySortedBy piece_cmp (pieces_in b.items) = subst (λ (l : List Item). IsStrictlySortedBy piece_cmp (pieces_in l)) (sym whole) batch.rising in
    let waited : (q : Piece) → has_item b.items q ≡ true → mark_of v.marks q ≡ Some None = subst (λ (l : List Item). (q : Piece) → has_item l q ≡ true → mark_of v.marks q ≡ Some None) (sym whole) (items_wait v (lowest v.waiting vdev n) kept batch.waiting) in
    let gone : waiting ≡ without v.waiting (pieces_in b.items) = rest ∙ ap (λ (l : List Item). without v.waiting (pieces_in l)) (sym same) in
    let flew : HaveFlown v.marks marks b.number b.items = subst (λ (l : List Item). HaveFlown v.marks marks b.number l) (sym same) flown in
    rw (entries, behind, next) (taken_orderly v b waiting limit marks room kept queue number rising waited gone flew enough)
