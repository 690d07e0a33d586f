-- The devices of a set are read one after another, and their labels found.
use Rattle.std.proofs.Common.{◌≡◌, ◌⊎◌, inl, inr, ℕ, zero, suc, ◌+◌, ◌<◌, ◌≤◌, Bool, true, false, List, [], ◌∷◌, ◌++◌, append_assoc, append-nil, length, length-append, ◌%◌, Option, Some, None, option_map, refl, sym, ◌∙◌, ap, subst, arith, add-zero}
use Rattle.std.specs.Prelude.{slice_get, slice_range, ◌||◌, ◌&&◌, ◌==◌, Result, Ok, Err, IsErrAnd, OnErr}
use Rattle.std.specs.List.{list_any, AllPass}
use Rattle.std.proofs.lemmas.Bool.{and_parts, cases_eq}
use Rattle.std.proofs.lemmas.List.Elements.{All-nil, All-cons, All-append}
use Rattle.zs_io.specs.Told.{Told}
use Rattle.zs_io.specs.Faults.{Rose}
use Rattle.zs_sum.specs.Sum.{sha256}
use Rattle.zs_lane.specs.declared.mark.Mark.TheVariants.{Read}
use Rattle.zs_lane.specs.Children.{DeviceView, Stays, OnlyOn, GoesOn}
use Rattle.zs_lane.proofs.GoingOn.{goes_on_stays, goes_on_twice}
use Rattle.zs_label.specs.Layout.{SLOTS}
use Rattle.zs_label.specs.Label.{fields_of, is_valid, is_label, is_open, body_of, label_of, has_other_version, has_magic, version_of, has_zeros}
use Rattle.zs_label.specs.Leaving.{Leaves}
use Rattle.zs_label.specs.Best.{with_image, labels_on, found_from, is_other, choice, best_of}
use Rattle.zs_label.specs.Images.{read_mark, Gave, WasRead, WereRead, HasBest}
use Rattle.zs_label.specs.Looks.{HasLooked, MayHaveRead, SoFar, Broken}
use Rattle.zs_label.specs.declared.choosing.Found.{Found}
use Rattle.zs_label.specs.declared.label.Label.{Label}
use Rattle.zs_label.specs.declared.fault.LabelFault.{LabelFault}
use Rattle.zs_label.specs.declared.fault.LabelFault.TheVariants.{Version, Memory}
use Rattle.zs_label.proofs.Bodies.{found}
use Rattle.zs_label.proofs.Moments.{leaves_both, stays_both}

-- the element of a list with one more
got : (reads : List (Option (List ℕ))) (last : Option (List ℕ)) (e : ℕ) (read : Option (List ℕ)) → slice_get (reads ++ last ∷ []) e ≡ Some read
    → ((e < length reads) × (slice_get reads e ≡ Some read)) ⊎ ((e ≡ length reads) × (last ≡ read))
got [] last zero read is = inr (refl, (cc))
got [] last (suc e) read is = let never : ⊥ = cc in absurd never
got (r ∷ reads) last zero read is = inl (omega arith, is)
got (r ∷ reads) last (suc e) read is = elim (got reads last e read is) [
  | inl in_front ↦ let lt = in_front.0 in inl (omega arith, in_front.1)
  | inr behind ↦ inr (ap suc behind.0, behind.1)
]

any_more : (reads : List (Option (List ℕ))) (read : Option (List ℕ)) → list_any is_other (reads ++ read ∷ []) ≡ (list_any is_other reads || is_other read)
any_more [] read = or_none (is_other read)
  where
    or_none : (b : Bool) → (b || false) ≡ (false || b)
    or_none true = refl
    or_none false = refl
any_more (r ∷ reads) read = grouped (is_other r) (list_any is_other reads) (is_other read) _ (any_more reads read)
  where
    grouped : (a b c d : Bool) → d ≡ (b || c) → (a || d) ≡ ((a || b) || c)
    grouped true b c d is = refl
    grouped false b c d is = is

found_more : (image : ℕ) (reads : List (Option (List ℕ))) (read : Option (List ℕ))
    → found_from image (reads ++ read ∷ []) ≡ found_from image reads ++ labels_on (image + length reads) read
found_more image [] read = append-nil (labels_on image read) ∙ ap (λ (k : ℕ). labels_on k read) (sym (add-zero image))
found_more image (r ∷ reads) read =
    let next : image + 1 + length reads ≡ image + suc (length reads) = omega arith in
    ap (λ (l : List Found). labels_on image r ++ l) (found_more (image + 1) reads read ∙ ap (λ (k : ℕ). found_from (image + 1) reads ++ labels_on k read) next)
    ∙ sym (append_assoc (labels_on image r) (found_from (image + 1) reads) (labels_on (image + suc (length reads)) read))

-- a device that is let alone before or after its read
leaves_stays : (a b : DeviceView) → Stays a b → Leaves (λ d c. c ≡ d) a b
leaves_stays a b same = record {
  later = omega (arith, same.moment);
  now = λ c left. (c, same.no_more c left, refl);
  since = λ t c le left. inl (same.since_no_more t c left);
}

leaves_twice : (a b c : DeviceView) → Leaves (λ d x. x ≡ d) a b → Leaves (λ d x. x ≡ d) b c → Leaves (λ d x. x ≡ d) a c
leaves_twice a b c one two =
    leaves_both (λ d x. x ≡ d) (λ d x. x ≡ d) (λ d x. x ≡ d) a b c (λ d x left is. is) (λ d m x left here p q. q ∙ p) one two

gave_after : (read : Option (List ℕ)) (a b c : DeviceView) → Stays a b → Gave read b c → Gave read a c
gave_after None a b c same gave = subst (λ (n : ℕ). Rose n c.faults) same.faults gave
gave_after (Some bytes) a b c same gave = (gave.0, λ x is. gave.1 x (same.told ∙ is), gave.2 ∙ same.faults)

gave_then : (read : Option (List ℕ)) (a b c : DeviceView) → Gave read a b → Stays b c → Gave read a c
gave_then None a b c gave same = subst (λ (n : ℕ). Rose a.faults n) (sym same.faults) gave
gave_then (Some bytes) a b c gave same = (gave.0, gave.1, same.faults ∙ gave.2)

was_after : (read : Option (List ℕ)) (a b c : DeviceView) → Stays a b → WasRead read b c → WasRead read a c
was_after read a b c same was = record {
  journal = was.journal ∙ ap (option_map (λ j. j ++ read_mark read ∷ [])) same.journal;
  gave = gave_after read a b c same was.gave;
  told = was.told ∙ same.told;
  leaves = leaves_twice a b c (leaves_stays a b same) was.leaves;
  goes_on = goes_on_twice a b c (goes_on_stays a b same) was.goes_on;
}

was_then : (read : Option (List ℕ)) (a b c : DeviceView) → WasRead read a b → Stays b c → WasRead read a c
was_then read a b c was same = record {
  journal = same.journal ∙ was.journal;
  gave = gave_then read a b c was.gave same;
  told = same.told ∙ was.told;
  leaves = leaves_twice a b c was.leaves (leaves_stays b c same);
  goes_on = goes_on_twice a b c was.goes_on (goes_on_stays b c same);
}

module _ (n m k : ℕ) (a b c : ℕ → DeviceView) where
  -- one device more is read
  read_next : (reads : List (Option (List ℕ))) (read : Option (List ℕ)) → WereRead reads n m a b → OnlyOn (length reads) m k b c
      → WasRead read (b (length reads)) (c (length reads)) → WereRead (reads ++ read ∷ []) n k a c
  read_next reads read were only was = record {
    count = only.count ∙ were.count;
    sizes = λ e. only.sizes e ∙ were.sizes e;
    each = λ e r is. elim (got reads read e r is) [
      | inl in_front ↦ was_then r (a e) (b e) (c e) (were.each e r in_front.1) (only.others e (λ same. apart e in_front.0 same))
      | inr last ↦ subst (λ (x : ℕ). WasRead r (a x) (c x)) (sym last.0)
          (subst (λ x. WasRead x (a (length reads)) (c (length reads))) last.1
          (was_after read (a (length reads)) (b (length reads)) (c (length reads)) (were.others (length reads) (omega arith)) was))
    ];
    others = λ e le. stays_both (a e) (b e) (c e) (were.others e (omega (arith, le, length-append reads (read ∷ []))))
        (only.others e (λ same. beyond e le same));
  }
    where
      apart : (e : ℕ) → e < length reads → e ≡ length reads → ⊥
      apart e lt same = omega arith

      beyond : (e : ℕ) → length (reads ++ read ∷ []) ≤ e → e ≡ length reads → ⊥
      beyond e le same = omega (arith, length-append reads (read ∷ []))

  -- a device is let alone
  read_still : (dev : ℕ) (reads : List (Option (List ℕ))) → WereRead reads n m a b → OnlyOn dev m k b c → Stays (b dev) (c dev) → WereRead reads n k a c
  read_still dev reads were only same = record {
    count = only.count ∙ were.count;
    sizes = λ e. only.sizes e ∙ were.sizes e;
    each = λ e r is. was_then r (a e) (b e) (c e) (were.each e r is) (stays e);
    others = λ e le. stays_both (a e) (b e) (c e) (were.others e le) (stays e);
  }
    where
      stays : (e : ℕ) → Stays (b e) (c e)
      stays e = elim (cases_eq e dev) [
        | inl here ↦ subst (λ (x : ℕ). Stays (b x) (c x)) (sym here) same
        | inr other ↦ only.others e other
      ]

  pub so_far_next : (dev : ℕ) (before after : List Found) (other more : Bool) → SoFar dev before other n m a b → HasLooked dev before after more (b dev) (c dev)
      → OnlyOn dev m k b c → SoFar (dev + 1) after (other || more) n k a c
  so_far_next dev before after other more so_far looked only =
      let reads = so_far.reads in
      let here : dev ≡ length reads = sym so_far.long in
      record {
        reads = reads ++ looked.read ∷ [];
        long = omega (arith, so_far.long, length-append reads (looked.read ∷ []));
        read = read_next reads looked.read so_far.read (subst (λ (d : ℕ). OnlyOn d m k b c) here only)
            (subst (λ (d : ℕ). WasRead looked.read (b d) (c d)) here looked.was);
        labels = looked.found ∙ ap (λ (l : List Found). l ++ labels_on dev looked.read) so_far.labels
            ∙ ap (λ (d : ℕ). found_from 0 reads ++ labels_on d looked.read) (at_zero here)
            ∙ sym (found_more 0 reads looked.read);
        version = either so_far.version looked.version ∙ sym (any_more reads looked.read);
      }
    where
      at_zero : dev ≡ length so_far.reads → dev ≡ 0 + length so_far.reads
      at_zero is = omega arith

      either : {x y : Bool} → other ≡ x → more ≡ y → (other || more) ≡ (x || y)
      either p q = rw (p, q) refl

  pub broken_next : (dev devices : ℕ) (found : List Found) (other : Bool) → dev < devices → SoFar dev found other n m a b → MayHaveRead (b dev) (c dev)
      → OnlyOn dev m k b c → Broken devices n k a c
  broken_next dev devices found other lt so_far (inl same) only =
      record { reads = so_far.reads; few = omega (arith, so_far.long); read = read_still dev so_far.reads so_far.read only same }
  broken_next dev devices found other lt so_far (inr read) only =
      let here : dev ≡ length so_far.reads = sym so_far.long in
      record {
        reads = so_far.reads ++ read.0 ∷ [];
        few = omega (arith, so_far.long, length-append so_far.reads (read.0 ∷ []));
        read = read_next so_far.reads read.0 so_far.read (subst (λ (d : ℕ). OnlyOn d m k b c) here only)
            (subst (λ (d : ℕ). WasRead read.0 (b d) (c d)) here read.1);
      }

stays_self : (d : DeviceView) → Stays d d
stays_self d = record {
  journal = refl;
  told = refl;
  faults = refl;
  moment = refl;
  no_more = λ c left. left;
  no_less = λ c left. left;
  since_no_more = λ t c left. left;
  since_no_less = λ t c left. left;
}

none_read : (n : ℕ) (a : ℕ → DeviceView) → WereRead [] n n a a
none_read n a = record { count = refl; sizes = λ e. refl; each = λ e read is. let never : ⊥ = cc in absurd never; others = λ e le. stays_self (a e) }

pub so_far_none : (n : ℕ) (a : ℕ → DeviceView) (found : List Found) → found ≡ [] → SoFar 0 found false n n a a
so_far_none n a found none = record { reads = []; long = refl; read = none_read n a; labels = none; version = refl }

-- the slots of a device were read
pub was_read : (bytes : List ℕ) (n : ℕ) (a b : DeviceView) → n ≡ SLOTS → length bytes ≡ SLOTS → b.journal ≡ option_map (λ j. j ++ Read 0 n (sha256 bytes) ∷ []) a.journal
    → Told a.told (λ x. bytes ≡ slice_range x 0 (0 + n)) → b.faults ≡ a.faults → b.told ≡ a.told → Leaves (λ d c. c ≡ d) a b → GoesOn a b → WasRead (Some bytes) a b
was_read bytes n a b is long journal gave faults told leaves goes_on = record {
  journal = subst (λ (m : ℕ). b.journal ≡ option_map (λ j. j ++ Read 0 m (sha256 bytes) ∷ []) a.journal) is journal;
  gave = (long, subst (λ (m : ℕ). Told a.told (λ x. bytes ≡ slice_range x 0 (0 + m))) is gave, faults);
  told = told;
  leaves = leaves;
  goes_on = goes_on;
}

-- the labels that are found are valid
label_valid : (slot : ℕ) (bytes : List ℕ) (l : Label) → label_of slot bytes ≡ Some l → is_valid l ≡ true
unfolding label_of
label_valid slot bytes l is =
    let body : List ℕ = body_of slot bytes in
    let one = found (is_open slot bytes && is_label slot body) (fields_of body) l is in
    let label = (and_parts (is_open slot bytes) (is_label slot body) one.0).1 in
    let four = and_parts (has_magic body && (version_of body == 1) && has_zeros body && is_valid (fields_of body)) ((fields_of body).txg % 2 == slot) label in
    let three = and_parts (has_magic body && (version_of body == 1) && has_zeros body) (is_valid (fields_of body)) four.0 in
    subst (λ (x : Label). is_valid x ≡ true) one.1 three.1

abbrev Valid : Found → Type 0
Valid f = is_valid f.label ≡ true

image_valid : (image : ℕ) (o : Option Label) → ((l : Label) → o ≡ Some l → is_valid l ≡ true) → AllPass (λ f. is_valid f.label) (with_image image o)
image_valid image None valid = All-nil Valid
image_valid image (Some l) valid = All-cons Valid (record { image = image; label = l }) [] (valid l refl) (All-nil Valid)

labels_valid : (image : ℕ) (read : Option (List ℕ)) → AllPass (λ f. is_valid f.label) (labels_on image read)
labels_valid image None = All-nil Valid
labels_valid image (Some bytes) = All-append Valid (with_image image (label_of 0 bytes)) (with_image image (label_of 1 bytes))
    (image_valid image (label_of 0 bytes) (label_valid 0 bytes)) (image_valid image (label_of 1 bytes) (label_valid 1 bytes))

all_valid : (image : ℕ) (reads : List (Option (List ℕ))) → AllPass (λ f. is_valid f.label) (found_from image reads)
all_valid image [] = All-nil Valid
all_valid image (read ∷ reads) = All-append Valid (labels_on image read) (found_from (image + 1) reads) (labels_valid image read) (all_valid (image + 1) reads)

module _ (n m devices : ℕ) (a b : ℕ → DeviceView) where
  pub found_valid : (found : List Found) (other : Bool) → SoFar devices found other n m a b → AllPass (λ f. is_valid f.label) found
  found_valid found other so_far = subst (λ (l : List Found). AllPass (λ f. is_valid f.label) l) (sym so_far.labels) (all_valid 0 so_far.reads)

  pub best_memory : (result : Result (Label × ℕ) LabelFault) → result ≡ Err Memory → Broken devices n m a b → HasBest devices result n m a b
  best_memory result is broken = record { reads = broken.reads; read = broken.read; few = broken.few; answer = inl is }

  pub best_version : (result : Result (Label × ℕ) LabelFault) (found : List Found) (other : Bool) → other ≡ true → result ≡ Err Version → SoFar devices found other n m a b
      → HasBest devices result n m a b
  unfolding best_of
  best_version result found other is_so is so_far =
      let any : list_any is_other so_far.reads ≡ true = sym so_far.version ∙ is_so in
      record { reads = so_far.reads; read = so_far.read; few = omega (arith, so_far.long); answer = inr (so_far.long, rw any is) }

  pub best_choice : (result : Result (Label × ℕ) LabelFault) (found : List Found) (other : Bool) → other ≡ false → result ≡ choice devices found → SoFar devices found other n m a b
      → HasBest devices result n m a b
  unfolding best_of
  best_choice result found other no_one is so_far =
      let none : list_any is_other so_far.reads ≡ false = sym so_far.version ∙ no_one in
      record {
        reads = so_far.reads;
        read = so_far.read;
        few = omega (arith, so_far.long);
        answer = inr (so_far.long, rw none (is ∙ ap (λ (l : List Found). choice devices l) so_far.labels ∙ ap (λ (d : ℕ). choice d (found_from 0 so_far.reads)) (sym so_far.long)));
      }

pub best_none : (n devices : ℕ) (a : ℕ → DeviceView) (result : Result (Label × ℕ) LabelFault) → result ≡ Err Memory → HasBest devices result n n a a
best_none n devices a result is = record { reads = []; read = none_read n a; few = omega arith; answer = inl is }

-- want of memory that is handed on
pub is_memory : {T : Type 0} (r : Result T LabelFault) → IsErrAnd r (λ e. e ≡ Memory) → r ≡ Err Memory
is_memory (Ok x) err = absurd err
is_memory (Err e) err = ap (λ (f : LabelFault). Err f) err

-- a device was looked at
pub looked_none : (image : ℕ) (before after : List Found) (other : Bool) (a b : DeviceView) → WasRead None a b → after ≡ before → other ≡ false
    → HasLooked image before after other a b
looked_none image before after other a b was same no_one = record { read = None; was = was; found = same ∙ sym (append-nil before); version = no_one }

pub looked_some : (image : ℕ) (bytes : List ℕ) (before mid after : List Found) (one two : Option Label) (other : Bool) (a b : DeviceView) → WasRead (Some bytes) a b
    → one ≡ label_of 0 bytes → two ≡ label_of 1 bytes → mid ≡ before ++ with_image image one → after ≡ mid ++ with_image image two
    → other ≡ (has_other_version 0 bytes || has_other_version 1 bytes) → HasLooked image before after other a b
looked_some image bytes before mid after one two other a b was first second front back version = record {
  read = Some bytes;
  was = was;
  found = back ∙ ap (λ (l : List Found). l ++ with_image image two) front
      ∙ ap (λ (o : Option Label). before ++ with_image image o ++ with_image image two) first
      ∙ ap (λ (o : Option Label). before ++ with_image image (label_of 0 bytes) ++ with_image image o) second
      ∙ append_assoc before (with_image image (label_of 0 bytes)) (with_image image (label_of 1 bytes));
  version = version;
}

pub may_have_read : (read : Option (List ℕ)) (a b : DeviceView) → WasRead read a b → MayHaveRead a b
may_have_read read a b was = inr (read, was)

-- what is so in any case is so where a call was refused
pub if_refused : {T E P : Type 0} (r : Result T E) → P → OnErr r P
if_refused (Ok x) p = tt
if_refused (Err e) p = p
