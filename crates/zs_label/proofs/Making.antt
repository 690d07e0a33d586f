-- Steps one after another: the marks of all stand in the journal, and the bytes are those behind the last.
use Rattle.std.proofs.Common.{◌≡◌, ℕ, List, [], ◌∷◌, ◌++◌, append_assoc, append-nil, length, length-append, map, Option, None, Some, option_map, refl, sym, ◌∙◌, ap, subst, arith}
use Rattle.std.specs.Prelude.{Result, Err}
use Rattle.zs_sum.specs.Sum.{sha256}
use Rattle.zs_io.specs.Told.{Told, BothTold, over}
use Rattle.zs_io.specs.Faults.{Rose}
use Rattle.zs_lane.specs.declared.mark.Mark.{Mark}
use Rattle.zs_lane.specs.declared.mark.Mark.TheVariants.{Wrote, Synced, Failed as FailedMark}
use Rattle.zs_lane.specs.declared.fault.LaneFault.{LaneFault}
use Rattle.zs_lane.specs.declared.fault.LaneFault.TheVariants.{Failed, Memory}
use Rattle.zs_lane.specs.Children.{DeviceView}
use Rattle.zs_lane.specs.Lane.{Refused, HasLaneCause}
use Rattle.zs_label.specs.Steps.{Step, mark_of, behind, Breaks, AreDone, Stops, HaveStopped}
use Rattle.zs_label.specs.Steps.Step.{Write, Sync}

-- the marks and the bytes of steps in two parts
marks_both : (xs ys : List Step) → map mark_of (xs ++ ys) ≡ map mark_of xs ++ map mark_of ys
marks_both [] ys = refl
marks_both (x ∷ xs) ys = ap (λ (l : List Mark). mark_of x ∷ l) (marks_both xs ys)

behind_both : (xs ys : List Step) (b : List ℕ) → behind (xs ++ ys) b ≡ behind ys (behind xs b)
behind_both [] ys b = refl
behind_both (Write at bytes ∷ xs) ys b = behind_both xs ys (over at bytes b)
behind_both (Sync ∷ xs) ys b = behind_both xs ys b

journal_both : (a b c : Option (List Mark)) (one two both : List Mark) → both ≡ one ++ two → b ≡ option_map (λ j. j ++ one) a → c ≡ option_map (λ j. j ++ two) b
    → c ≡ option_map (λ j. j ++ both) a
journal_both None b c one two both is p q = q ∙ ap (option_map (λ j. j ++ two)) p
journal_both (Some j) b c one two both is p q =
    q ∙ ap (option_map (λ x. x ++ two)) p ∙ ap (λ (x : List Mark). Some x) (append_assoc j one two ∙ ap (λ (x : List Mark). j ++ x) (sym is))

told_both : (xs ys : List Step) (a b c : Option (List ℕ)) → b ≡ option_map (behind xs) a → c ≡ option_map (behind ys) b → c ≡ option_map (behind (xs ++ ys)) a
told_both xs ys None b c p q = q ∙ ap (option_map (behind ys)) p
told_both xs ys (Some x) b c p q = q ∙ ap (option_map (behind ys)) p ∙ ap (λ (l : List ℕ). Some l) (sym (behind_both xs ys x))

-- the journal that the first part left
journal_there : (a b : Option (List Mark)) (one j : List Mark) → b ≡ option_map (λ x. x ++ one) a → a ≡ Some j → b ≡ Some (j ++ one)
journal_there a b one j p is = p ∙ ap (option_map (λ x. x ++ one)) is

length-marks : (xs : List Step) → length (map mark_of xs) ≡ length xs
length-marks [] = refl
length-marks (x ∷ xs) = omega (arith, length-marks xs)

breaks_both : (xs ys : List Step) (step : Step) (a b c : Option (List ℕ)) → b ≡ option_map (behind xs) a → BothTold (λ o n. Breaks step (behind ys o) n) b c
    → BothTold (λ o n. Breaks step (behind (xs ++ ys) o) n) a c
breaks_both xs ys step None b c p q = subst (λ (x : Option (List ℕ)). BothTold (λ o n. Breaks step (behind ys o) n) x c) p q
breaks_both xs ys step (Some x) b c p q =
    at_some c (subst (λ (o : Option (List ℕ)). BothTold (λ o n. Breaks step (behind ys o) n) o c) p q)
  where
    at_some : (d : Option (List ℕ)) → BothTold (λ o n. Breaks step (behind ys o) n) (Some (behind xs x)) d → BothTold (λ o n. Breaks step (behind (xs ++ ys) o) n) (Some x) d
    at_some None fact = fact
    at_some (Some y) fact = subst (λ (l : List ℕ). Breaks step l y) (sym (behind_both xs ys x)) fact

-- all of two parts
pub done_both : (xs ys : List Step) (p q : ℕ) (a b c : DeviceView) → AreDone xs p a b → AreDone ys q b c → AreDone (xs ++ ys) q a c
done_both xs ys p q a b c one two = record {
  journal = journal_both a.journal b.journal c.journal (map mark_of xs) (map mark_of ys) (map mark_of (xs ++ ys)) (marks_both xs ys) one.journal two.journal;
  last = λ j is. omega (arith, two.last (j ++ map mark_of xs) (journal_there a.journal b.journal (map mark_of xs) j one.journal is), length-append j (map mark_of xs), length-marks xs, length-append xs ys);
  told = told_both xs ys a.told b.told c.told one.told two.told;
  faults = two.faults ∙ one.faults;
}

stops_both : (xs ys : List Step) (step : Step) (fault : LaneFault) (p : ℕ) (a b c : DeviceView) → AreDone xs p a b → Stops ys step fault b c → Stops (xs ++ ys) step fault a c
stops_both xs ys step (Failed place) p a b c one two = record {
  journal = journal_both a.journal b.journal c.journal (map mark_of xs) (map mark_of ys ++ FailedMark ∷ []) (map mark_of (xs ++ ys) ++ FailedMark ∷ [])
      (ap (λ (l : List Mark). l ++ FailedMark ∷ []) (marks_both xs ys) ∙ append_assoc (map mark_of xs) (map mark_of ys) (FailedMark ∷ [])) one.journal two.journal;
  place_is = λ j is. omega (arith, two.place_is (j ++ map mark_of xs) (journal_there a.journal b.journal (map mark_of xs) j one.journal is), length-append j (map mark_of xs), length-marks xs, length-append xs ys);
  told = breaks_both xs ys step a.told b.told c.told one.told two.told;
  rose = subst (λ (n : ℕ). Rose n c.faults) one.faults two.rose;
}
stops_both xs ys step Memory p a b c one two = record {
  journal = journal_both a.journal b.journal c.journal (map mark_of xs) (map mark_of ys) (map mark_of (xs ++ ys)) (marks_both xs ys) one.journal two.journal;
  told = told_both xs ys a.told b.told c.told one.told two.told;
  faults = two.faults ∙ one.faults;
}

-- the second part stopped
pub stopped_then : (xs ys : List Step) (fault : LaneFault) (p : ℕ) (a b c : DeviceView) → AreDone xs p a b → HaveStopped ys fault b c → HaveStopped (xs ++ ys) fault a c
stopped_then xs ys fault p a b c one two = record {
  before = xs ++ two.before;
  step = two.step;
  rest = two.rest;
  whole = ap (λ (l : List Step). xs ++ l) two.whole ∙ sym (append_assoc xs two.before (two.step ∷ two.rest));
  stops = stops_both xs two.before two.step fault p a b c one two.stops;
}

-- the first part stopped
pub stopped_first : (xs ys : List Step) (fault : LaneFault) (a b : DeviceView) → HaveStopped xs fault a b → HaveStopped (xs ++ ys) fault a b
stopped_first xs ys fault a b one = record {
  before = one.before;
  step = one.step;
  rest = one.rest ++ ys;
  whole = ap (λ (l : List Step). l ++ ys) one.whole ∙ append_assoc one.before (one.step ∷ one.rest) ys;
  stops = one.stops;
}

-- one step that was done
told_sync : (a : Option (List ℕ)) → a ≡ option_map (behind (Sync ∷ [])) a
told_sync None = refl
told_sync (Some b) = refl

pub done_write : (at : ℕ) (bytes : List ℕ) (place : ℕ) (a b : DeviceView) → Told a.journal (λ j. place ≡ length j)
    → b.journal ≡ option_map (λ j. j ++ Wrote at (length bytes) (sha256 bytes) ∷ []) a.journal → b.told ≡ option_map (over at bytes) a.told → b.faults ≡ a.faults
    → AreDone (Write at bytes ∷ []) place a b
done_write at bytes place a b last journal told faults = record { journal = journal; last = λ j is. omega (arith, last j is); told = told; faults = faults }

pub done_sync : (place : ℕ) (a b : DeviceView) → Told a.journal (λ j. place ≡ length j)
    → b.journal ≡ option_map (λ j. j ++ Synced ∷ []) a.journal → b.told ≡ a.told → b.faults ≡ a.faults
    → AreDone (Sync ∷ []) place a b
done_sync place a b last journal told faults = record { journal = journal; last = λ j is. omega (arith, last j is); told = told ∙ told_sync a.told; faults = faults }

-- one step that stopped
failed_journal : (place : ℕ) (a b : Option (List Mark)) → BothTold (Refused (Failed place)) a b
    → (b ≡ option_map (λ j. j ++ FailedMark ∷ []) a) × Told a (λ j. place ≡ length j)
failed_journal place None None both = (refl, λ j is. absurd (never j is))
  where
    never : (j : List Mark) → ◌≡◌ {A = Option (List Mark)} None (Some j) → ⊥
    never j is = cc
failed_journal place None (Some k) both = absurd both
failed_journal place (Some j) None both = absurd both
failed_journal place (Some j) (Some k) both = (ap (λ (x : List Mark). Some x) both.1, λ i is. both.0 ∙ ap length (same i is))
  where
    same : (i : List Mark) → ◌≡◌ {A = Option (List Mark)} (Some j) (Some i) → j ≡ i
    same i is = cc

kept_journal : (a b : Option (List Mark)) → BothTold (Refused Memory) a b → b ≡ option_map (λ j. j ++ []) a
kept_journal None None both = refl
kept_journal None (Some k) both = absurd both
kept_journal (Some j) None both = absurd both
kept_journal (Some j) (Some k) both = ap (λ (x : List Mark). Some x) (both ∙ sym (append-nil j))

same_told : (a b : Option (List ℕ)) → b ≡ a → b ≡ option_map (behind []) a
same_told None b is = is
same_told (Some x) b is = is

-- by what the call says of a refusal
stops_one : (step : Step) (fault : LaneFault) (a b : DeviceView) → BothTold (Refused fault) a.journal b.journal → (◌≡◌ {A = Result ℕ LaneFault} (Err fault) (Err Memory) → b.told ≡ a.told)
    → BothTold (Breaks step) a.told b.told → HasLaneCause {T = ℕ} a.faults b.faults (Err fault) → Stops [] step fault a b
stops_one step (Failed place) a b refused memory broken cause =
    let journal = failed_journal place a.journal b.journal refused in
    record { journal = journal.0; place_is = λ j is. omega (arith, journal.1 j is); told = broken; rose = cause.err }
stops_one step Memory a b refused memory broken cause =
    record { journal = kept_journal a.journal b.journal refused; told = same_told a.told b.told (memory refl); faults = cause.err }

pub stopped_one : (step : Step) (fault : LaneFault) (a b : DeviceView) → BothTold (Refused fault) a.journal b.journal → (◌≡◌ {A = Result ℕ LaneFault} (Err fault) (Err Memory) → b.told ≡ a.told)
    → BothTold (Breaks step) a.told b.told → HasLaneCause {T = ℕ} a.faults b.faults (Err fault) → HaveStopped (step ∷ []) fault a b
stopped_one step fault a b refused memory broken cause =
    record { before = []; step = step; rest = []; whole = refl; stops = stops_one step fault a b refused memory broken cause }

pub same_both : (a b : Option (List ℕ)) → b ≡ a → BothTold (Breaks Sync) a b
same_both None b is = subst (λ (x : Option (List ℕ)). BothTold (Breaks Sync) None x) (sym is) tt
same_both (Some x) b is = subst (λ (y : Option (List ℕ)). BothTold (Breaks Sync) (Some x) y) (sym is) refl
