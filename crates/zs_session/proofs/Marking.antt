-- Marks behind others in a journal: what stood at a place stands there still, the last of them stands at its place, and what the last
-- write says of a range.
use Rattle.std.proofs.Common.{◌≡◌, ℕ, zero, suc, ◌+◌, ◌≤◌, ◌<◌, ◌==◌, ◌&&◌, Bool, true, false, if◌then◌else◌, List, [], ◌∷◌, ◌++◌, length, take, length-append, append_assoc, refl, sym, ◌∙◌, ap, subst, arith}
use Rattle.std.specs.Prelude.{Option, Some, None, IsSome, option_map, slice_get}
use Rattle.std.proofs.lemmas.List.{take-append-le, take_all}
use Rattle.std.proofs.lemmas.Option.{slice_get_within}
use Rattle.std.proofs.lemmas.Bool.Decides.{nat_tests}
use Rattle.zs_lane.specs.declared.mark.Mark.{Mark}
use Rattle.zs_lane.specs.declared.mark.Mark.TheVariants.{Wrote, Synced}
use Rattle.zs_lane.specs.Journal.{Touch, overlap, later}
use Rattle.zs_lane.specs.Journal.Touch.{Untouched, Holds, Open}
use Rattle.zs_machine.specs.Matches.{wrote, last_write, IsSyncedWrite}
use Rattle.zs_session.specs.Devices.{Journals, marks_in, marks_of, AreLonger}
use Rattle.zs_session.specs.Plays.{GainsTo}

-- the marks have others behind them, or none
pub record IsLonger (old new : List Mark) : Type 0 where
  pub more : List Mark
  pub is : new ≡ old ++ more

-- so it is with each device
abbrev pub AllLonger : (ℕ → List Mark) → (ℕ → List Mark) → Type 0
AllLonger old new = (dev : ℕ) → IsLonger (old dev) (new dev)

-- a journal that gained marks has a longer list of them
longer_in : (old new : Option (List Mark)) (more : List Mark) → new ≡ option_map (λ j. j ++ more) old → IsLonger (marks_in old) (marks_in new)
longer_in None new more is = record { more = []; is = ap marks_in is }
longer_in (Some j) new more is = record { more = more; is = ap marks_in is }

-- journals that are longer have longer lists of marks
pub all_longer : (old new : Journals) → AreLonger old new → AllLonger (marks_of old) (marks_of new)
all_longer old new longer dev = longer_in (old dev) (new dev) (longer dev).0 (longer dev).1

-- what stands in a list stands there with more behind
get_in : (old more : List Mark) (k : ℕ) (m : Mark) → slice_get old k ≡ Some m → slice_get (old ++ more) k ≡ Some m
get_in [] more k m is = absurd cc
get_in (x ∷ xs) more zero m is = is
get_in (x ∷ xs) more (suc k) m is = get_in xs more k m is

-- what stood at a place stands there still
pub get_longer : (old new : List Mark) (k : ℕ) (m : Mark) → IsLonger old new → slice_get old k ≡ Some m → slice_get new k ≡ Some m
get_longer old new k m longer is = subst (λ (l : List Mark). slice_get l k ≡ Some m) (sym longer.is) (get_in old longer.more k m is)

-- the marks before a place that was marked are the same
pub take_longer : (old new : List Mark) (k : ℕ) (m : Mark) → IsLonger old new → slice_get old k ≡ Some m → take k new ≡ take k old
take_longer old new k m longer is =
    let within : k < length old = slice_get_within old k m is in
    ap (λ (l : List Mark). take k l) longer.is ∙ take-append-le k old longer.more (omega arith)

-- there are as many marks or more
pub length_longer : (old new : List Mark) → IsLonger old new → length old ≤ length new
length_longer old new longer = omega (arith, ap (λ (l : List Mark). length l) longer.is, length-append old longer.more)

-- each device has as many marks or more
abbrev pub AllGrown : (ℕ → List Mark) → (ℕ → List Mark) → Type 0
AllGrown old new = (dev : ℕ) → length (old dev) ≤ length (new dev)

-- longer journals have grown
pub all_grown : (old new : ℕ → List Mark) → AllLonger old new → AllGrown old new
all_grown old new longer dev = length_longer (old dev) (new dev) (longer dev)

-- Marks came behind the old ones, and one more behind these, at that place.
pub record EndsWith (marks : List Mark) (m : Mark) (place : ℕ) (old new : List Mark) : Type 0 where
  pub there : slice_get new place ≡ Some m
  pub before : take place new ≡ old ++ marks
  pub since : length old ≤ place
  pub marked : place < length new

-- behind a list stands what was put there
get_last : (front : List Mark) (m : Mark) → slice_get (front ++ m ∷ []) (length front) ≡ Some m
get_last [] m = refl
get_last (x ∷ xs) m = get_last xs m

-- so it is of lists
ends_at : (marks : List Mark) (m : Mark) (place : ℕ) (old new : List Mark) → new ≡ (old ++ marks) ++ m ∷ [] → place ≡ length (old ++ marks) → EndsWith marks m place old new
ends_at marks m place old new is at = record {
  there = subst (λ (l : List Mark). slice_get l place ≡ Some m) (sym is) (subst (λ (k : ℕ). slice_get ((old ++ marks) ++ m ∷ []) k ≡ Some m) (sym at) (get_last (old ++ marks) m));
  before = ap (λ (l : List Mark). take place l) is ∙ take-append-le place (old ++ marks) (m ∷ []) (omega arith) ∙ take_all place (old ++ marks) (omega arith);
  since = omega (arith, length-append old marks);
  marked = omega (arith, ap (λ (l : List Mark). length l) is, length-append (old ++ marks) (m ∷ []));
}

-- so it is where a journal that is told gains marks, the last of them at that place
pub ends_with : (marks : List Mark) (m : Mark) (place : ℕ) (old new : Option (List Mark)) → IsSome old → GainsTo (marks ++ m ∷ []) place old new
    → EndsWith marks m place (marks_in old) (marks_in new)
ends_with marks m place None new told gains = absurd cc
ends_with marks m place (Some j) new told gains =
    let last : place + 1 ≡ length j + length (marks ++ m ∷ []) = gains.last j refl in
    ends_at marks m place j (marks_in new) (ap marks_in gains.gains ∙ sym (append_assoc j marks (m ∷ [])))
    (omega (arith, last, length-append marks (m ∷ []), length-append j marks))

-- of three the last comes first, however they are joined
later-assoc : (a b c : Touch) → later (later a b) c ≡ later a (later b c)
later-assoc Untouched b c = refl
later-assoc (Holds s) b c = refl
later-assoc Open b c = refl

-- nothing later leaves what was
later-untouched : (a : Touch) → later a Untouched ≡ a
later-untouched Untouched = refl
later-untouched (Holds s) = refl
later-untouched Open = refl

-- what the marks behind say comes first
pub last_write-append : (at len : ℕ) (a b : List Mark) → last_write at len (a ++ b) ≡ later (last_write at len b) (last_write at len a)
last_write-append at len [] b = sym (later-untouched (last_write at len b))
last_write-append at len (m ∷ marks) b =
    ap (λ (t : Touch). later t (wrote at len m)) (last_write-append at len marks b) ∙ later-assoc (last_write at len b) (last_write at len marks) (wrote at len m)

-- where marks behind others say what the range holds, it is what all say
pub last_behind : (at len : ℕ) (a b : List Mark) (sum : List ℕ) → last_write at len b ≡ Holds sum → last_write at len (a ++ b) ≡ Holds sum
last_behind at len a b sum holds = last_write-append at len a b ∙ ap (λ (t : Touch). later t (last_write at len a)) holds

-- a write that overlaps the range and is just it says its sum
choose : (p q : Bool) (sum : List ℕ) → p ≡ true → q ≡ true → (if p then (if q then Holds sum else Open) else Untouched) ≡ Holds sum
choose true true sum p q = refl
choose true false sum p q = absurd cc
choose false q sum p r = absurd cc

-- a write of just the range, of at least a byte, says its sum
pub wrote_same : (at len : ℕ) (sum : List ℕ) → 1 ≤ len → wrote at len (Wrote at len sum) ≡ Holds sum
wrote_same at len sum some = choose (overlap at len at len) ((at == at) && (len == len)) sum (grind (arith, nat_tests)) (grind (arith, nat_tests))

-- one that does not overlap it says nothing
leave : (p : Bool) (t : Touch) → p ≡ false → (if p then t else Untouched) ≡ Untouched
leave false t p = refl
leave true t p = absurd cc

-- one of a range apart says nothing
pub wrote_apart : (at len a l : ℕ) (sum : List ℕ) → overlap at len a l ≡ false → wrote at len (Wrote a l sum) ≡ Untouched
wrote_apart at len a l sum apart = leave (overlap at len a l) (if (a == at) && (l == len) then Holds sum else Open) apart

-- where a sync comes behind marks that say what a range holds, what it holds is synced
pub synced_at : (at len place : ℕ) (sum : List ℕ) (marks old new : List Mark) → last_write at len marks ≡ Holds sum → EndsWith marks Synced place old new
    → IsSyncedWrite new place at len sum
synced_at at len place sum marks old new holds ends = record {
  synced = ends.there;
  wrote = ap (λ (l : List Mark). last_write at len l) ends.before ∙ last_behind at len old marks sum holds;
}
