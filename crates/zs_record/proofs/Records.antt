-- A record has one spelling, but for the marks of its entries.
use Rattle.std.proofs.Common.{◌≡◌, ℕ, suc, ◌-◌, ◌^◌, ◌<◌, ◌==◌, true, cond, List, [], ◌∷◌, ◌++◌, All, length, map, Option, None, Result, Ok, Err, refl, sym, ap, subst, ◌∙◌, append_assoc, arith}
use Rattle.std.proofs.lemmas.Bool.{eqb-true}
use Rattle.std.proofs.lemmas.List.{append-nil, length-map}
use Rattle.std.proofs.lemmas.List.Folds.{flat_map-map}
use Rattle.std.proofs.lemmas.List.Elements.{All-nil, All-cons}
use Rattle.zs_ids.specs.declared.limits.TheConstants.{LOG_SPANS}
use Rattle.zs_ids.specs.declared.block.Piece.{Piece}
use Rattle.zs_ids.specs.declared.dataset.DsId.{DsId}
use Rattle.zs_ledger.specs.Kept.{has_piece}
use Rattle.zs_ledger.specs.declared.entry.Entry.{Entry}
use Rattle.zs_phys.specs.declared.scope.Kind.{Kind}
use Rattle.zs_phys.specs.declared.scope.Kind.TheVariants.{Idle, Scrub, Resilver}
use Rattle.zs_phys.specs.declared.todos.Todo.{Todo}
use Rattle.zs_ranges.specs.declared.set.Interval.{Interval}
use Rattle.zs_sum.specs.Laws.{AreBytes, PointerLaw}
use Rattle.zs_record.specs.declared.fault.RecordFault.{RecordFault}
use Rattle.zs_record.specs.declared.fault.RecordFault.TheVariants as faults
use Rattle.zs_record.specs.declared.head.Head.{Head}
use Rattle.zs_record.specs.declared.mirrors.Mirrors.{Mirrors}
use Rattle.zs_record.specs.declared.scan.Running.{Running}
use Rattle.zs_record.specs.declared.scan.Pass.{Pass}
use Rattle.zs_record.specs.declared.sets.StoredSet.{StoredSet}
use Rattle.zs_record.specs.Reading.{Read, ◌>>=◌}
use Rattle.zs_record.specs.Head.{devices_of, head_of}
use Rattle.zs_record.specs.Sets.{id_next, sets_of}
use Rattle.zs_record.specs.Logs.{logs_of}
use Rattle.zs_record.specs.Scan.{running_of, pass_of}
use Rattle.zs_record.specs.Todo.{queue_of}
use Rattle.zs_record.specs.Checked.{ledger_of}
use Rattle.zs_record.specs.Laws.{IsPart, FitAll, IsSet}
use Rattle.zs_record.specs.Spelling.{checked_bytes, ledger_bytes}
use Rattle.zs_record.specs.Stored.{Parts, is_scanning, most_dirty, stored_of}
use Rattle.zs_record.specs.StoredSpelling.{stored_bytes, HaveCounts}
use Rattle.zs_record.specs.StoredLaws.{AreFew, IsStoredSet, IsStored, IsChecked, with_checked, unmarked, forgotten, StoredLaw, StoredPartsLaw}
use Rattle.zs_record.proofs.Parts.{guard_true, bind_ok}
use Rattle.zs_record.proofs.Pairs.{then_read, made_read, pair_part, made_part, restated, bind_bind}
use Rattle.zs_record.proofs.Heads.{head_part}
use Rattle.zs_record.proofs.Datasets.{sets_part}
use Rattle.zs_record.proofs.Queues.{queue_part, logs_part}
use Rattle.zs_record.proofs.Scans.{used_below, running_part}
use Rattle.zs_record.proofs.Passes.{pass_part}
use Rattle.zs_record.proofs.Ledgers.{ledger_part}

-- ---- the parts

abbrev Fields : Type 0
Fields = Head × (List StoredSet × (List (List Interval) × (Running × (Pass × (List Todo × (List (List Interval) × List Entry))))))

abbrev parts_with : Fields → Parts
parts_with f = record {
  head = f.0;
  sets = f.1.0;
  logs = f.1.1.0;
  running = f.1.1.1.0;
  pass = f.1.1.1.1.0;
  todo = f.1.1.1.1.1.0;
  dirty0 = f.1.1.1.1.1.1.0;
  checked = f.1.1.1.1.1.1.1;
}

abbrev fields_of : Parts → Fields
fields_of p = (p.head, (p.sets, (p.logs, (p.running, (p.pass, (p.todo, (p.dirty0, p.checked)))))))

abbrev fields_read : Mirrors → List ℕ → Read Fields
fields_read mirrors =
    then_read (head_of mirrors) (λ h. then_read (sets_of h.datasets None) (λ s. then_read (logs_of LOG_SPANS h.txg (devices_of mirrors))
    (λ l. then_read (running_of mirrors h.offline) (λ r. then_read (pass_of (is_scanning r.status) r.again) (λ p. then_read (queue_of (is_scanning r.status))
    (λ t. then_read (logs_of (most_dirty r.kind) h.txg (devices_of mirrors)) (λ d. ledger_of mirrors h.txg)))))))

abbrev parts_read : Mirrors → List ℕ → Read Parts
parts_read mirrors = made_read parts_with (fields_read mirrors)

-- nothing follows
abbrev ending : Parts × List ℕ → Result Parts RecordFault
ending x = cond (length x.1 == 0) (Ok x.0) (Err faults.Trailing)

stored_same : (mirrors : Mirrors) (bytes : List ℕ) → (parts_read mirrors bytes >>= ending) ≡ stored_of mirrors bytes
unfolding stored_of
stored_same mirrors bytes = simp bind_bind

few_dirty : (kind : Kind) → most_dirty kind < 2 ^ 32
few_dirty Idle = omega arith
few_dirty Scrub = omega arith
few_dirty Resilver = omega arith

whole_part : PointerLaw → (mirrors : Mirrors) → AreFew mirrors → IsPart (parts_read mirrors) (stored_bytes mirrors) (λ p. IsStored mirrors p × (forgotten p ≡ p))
unfolding stored_bytes
whole_part law mirrors few =
    restated (made_part (pair_part (head_part mirrors few) (λ h ht. pair_part (sets_part law h.datasets None) (λ s st. pair_part (logs_part LOG_SPANS h.txg (devices_of mirrors) (omega arith) (omega (arith, ht.txg.1)))
    (λ l lt. pair_part (running_part mirrors h.offline few) (λ r rt. pair_part (pass_part (is_scanning r.status) r.again) (λ p pt. pair_part (queue_part (is_scanning r.status))
    (λ t qt. pair_part (logs_part (most_dirty r.kind) h.txg (devices_of mirrors) (few_dirty r.kind) (omega (arith, ht.txg.1))) (λ d dt. ledger_part mirrors h.txg few (omega (arith, ht.txg.1))))))))))
    parts_with fields_of (λ f is. refl))
    (λ bytes. refl) (λ p is. simp append_assoc)
    (λ p is.
    let checked = is.1.1.1.1.1.1.1.1 in (
      record {
        head = is.1.0;
        sets = is.1.1.0;
        logs = is.1.1.1.0;
        running = is.1.1.1.1.0;
        pass = is.1.1.1.1.1.0;
        todo = is.1.1.1.1.1.1.0;
        dirty0 = is.1.1.1.1.1.1.1.0;
        checked = checked.0;
      },
      λ i. record { head = p.head; sets = p.sets; logs = p.logs; running = p.running; pass = p.pass; todo = p.todo; dirty0 = p.dirty0; checked = checked.1 i },
    ))
    (λ p is. (
      refl,
      (
        is.0.head,
        (
          is.0.sets,
          (is.0.logs, (is.0.running, (is.0.pass, (is.0.todo, (is.0.dirty0, (is.0.checked, ap (λ (x : Parts). x.checked) is.1)))))),
        ),
      ),
    ))

-- ---- without the marks

map_push : (before : List Entry) (e : Entry) → map unmarked (with_checked before e) ≡ with_checked (map unmarked before) (unmarked e)
map_push [] e = refl
map_push (x ∷ before) e = ap (λ (xs : List Entry). unmarked x ∷ xs) (map_push before e)

has_unmarked : (before : List Entry) (p : Piece) → has_piece (map unmarked before) p ≡ has_piece before p
has_unmarked [] p = refl
has_unmarked (e ∷ before) p = rw (has_unmarked before p) refl

all_unmarked : (mirrors : Mirrors) (last : ℕ) (before entries : List Entry) → FitAll (IsChecked mirrors last) with_checked before entries
    → FitAll (IsChecked mirrors last) with_checked (map unmarked before) (map unmarked entries)
all_unmarked mirrors last before [] fit = tt
all_unmarked mirrors last before (e ∷ entries) fit = (
  record {
    vdev = fit.0.vdev;
    copies = fit.0.copies;
    sectors = fit.0.sectors;
    sector = fit.0.sector;
    birth = fit.0.birth;
    other = has_unmarked before e.piece ∙ fit.0.other;
    sum = fit.0.sum;
  },
  subst (λ (state : List Entry). FitAll (IsChecked mirrors last) with_checked state (map unmarked entries)) (map_push before e)
      (all_unmarked mirrors last (with_checked before e) entries fit.1),
)

unmarked_twice : (entries : List Entry) → map unmarked (map unmarked entries) ≡ map unmarked entries
unmarked_twice [] = refl
unmarked_twice (e ∷ entries) = ap (λ (xs : List Entry). unmarked e ∷ xs) (unmarked_twice entries)

ledger_unmarked : (entries : List Entry) → ledger_bytes (map unmarked entries) ≡ ledger_bytes entries
unfolding ledger_bytes checked_bytes
ledger_unmarked entries = rw (length-map entries unmarked, flat_map-map checked_bytes unmarked entries) refl

bytes_unmarked : (mirrors : Mirrors) (p : Parts) → stored_bytes mirrors (forgotten p) ≡ stored_bytes mirrors p
unfolding stored_bytes
bytes_unmarked mirrors p = rw (ledger_unmarked p.checked) refl

stored_unmarked : (mirrors : Mirrors) (p : Parts) → IsStored mirrors p → IsStored mirrors (forgotten p)
stored_unmarked mirrors p is = record {
  head = is.head;
  sets = is.sets;
  logs = is.logs;
  running = is.running;
  pass = is.pass;
  todo = is.todo;
  dirty0 = is.dirty0;
  checked = record { many = rw (length-map p.checked unmarked) is.checked.many; fit = all_unmarked mirrors p.head.txg [] p.checked is.checked.fit };
}

-- ---- the law

no_rest : (rest : List ℕ) → (length rest == 0) ≡ true → rest ≡ []
no_rest [] e = refl
no_rest (b ∷ rest) e = let none : suc (length rest) ≡ 0 = eqb-true _ 0 e in absurd (omega (arith, none))

reads : PointerLaw → (mirrors : Mirrors) (p : Parts) → AreFew mirrors → IsStored mirrors p → parts_read mirrors (stored_bytes mirrors p) ≡ Ok (forgotten p, [])
reads law mirrors p few is =
    let twice : forgotten (forgotten p) ≡ forgotten p = ap (λ (entries : List Entry). record p { checked = entries }) (unmarked_twice p.checked) in
    let same : stored_bytes mirrors (forgotten p) ++ [] ≡ stored_bytes mirrors p = append-nil (stored_bytes mirrors (forgotten p)) ∙ bytes_unmarked mirrors p in
    subst (λ (bytes : List ℕ). parts_read mirrors bytes ≡ Ok (forgotten p, [])) same
    ((whole_part law mirrors few).back (forgotten p) [] (stored_unmarked mirrors p is, twice))

reads_back : PointerLaw → (mirrors : Mirrors) (p : Parts) → AreFew mirrors → IsStored mirrors p → stored_of mirrors (stored_bytes mirrors p) ≡ Ok (forgotten p)
reads_back law mirrors p few is = sym (stored_same mirrors (stored_bytes mirrors p)) ∙ rw (reads law mirrors p few is) refl

pub spells_back : PointerLaw → (mirrors : Mirrors) (bytes : List ℕ) (p : Parts) → AreFew mirrors → AreBytes bytes → stored_of mirrors bytes ≡ Ok p
    → (bytes ≡ stored_bytes mirrors p) × IsStored mirrors p × (forgotten p ≡ p)
spells_back law mirrors bytes p few are e =
    let found = bind_ok (parts_read mirrors bytes) ending p (stored_same mirrors bytes ∙ e) in
    let g = guard_true (length found.0.1 == 0) faults.Trailing found.0.0 p found.2 in
    let spelled = (whole_part law mirrors few).spells bytes found.0.0 found.0.1 are found.1 in
    let whole : bytes ≡ stored_bytes mirrors found.0.0 =
    spelled.0 ∙ ap (λ (rest : List ℕ). stored_bytes mirrors found.0.0 ++ rest) (no_rest found.0.1 g.0) ∙ append-nil (stored_bytes mirrors found.0.0) in
    subst (λ (x : Parts). (bytes ≡ stored_bytes mirrors x) × IsStored mirrors x × (forgotten x ≡ x)) g.1 (whole, spelled.1.0, spelled.1.1)

-- ---- counts

set_counts : (last : Option DsId) (sets : List StoredSet) → FitAll IsStoredSet id_next last sets → All (λ set. length set.entries < 2 ^ 32) sets
set_counts last [] fit = All-nil _
set_counts last (set ∷ sets) fit = All-cons (λ s. length s.entries < 2 ^ 32) set sets fit.0.many (set_counts (id_next last set) sets fit.1)

log_counts : (most last : ℕ) (logs : List (List Interval)) → most < 2 ^ 32 → All (IsSet most last) logs → All (λ spans. length spans < 2 ^ 32) logs
log_counts most last logs few fit = λ k d lt. omega (arith, few, (fit k d lt).few)

counts_of : (mirrors : Mirrors) (p : Parts) → IsStored mirrors p → HaveCounts p
counts_of mirrors p is = record {
  sets = set_counts None p.sets is.sets.fit;
  logs = log_counts LOG_SPANS p.head.txg p.logs (omega arith) is.logs.fit;
  todo = omega (arith, used_below (is_scanning p.running.status) (2 ^ 32 - 1) (length p.todo) is.todo.many);
  dirty0 = log_counts (most_dirty p.running.kind) p.head.txg p.dirty0 (few_dirty p.running.kind) is.dirty0.fit;
  checked = is.checked.many;
}

pub stored_law : PointerLaw → StoredLaw
stored_law law = record { back = reads_back law; spells = spells_back law; counts = counts_of }

pub stored_parts_law : PointerLaw → StoredPartsLaw
stored_parts_law law = record {
  heads = head_part;
  sets = sets_part law;
  logs = logs_part;
  running = running_part;
  passes = pass_part;
  queues = queue_part;
}
