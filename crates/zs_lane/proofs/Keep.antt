-- A journal stays lawful over one call more.
use Rattle.std.proofs.Common.{◌≡◌, ◌⊎◌, inl, inr, ℕ, zero, suc, ◌+◌, ◌≤◌, ◌<◌, ◌==◌, ◌&&◌, Bool, true, false, if◌then◌else◌, min, max, List, [], ◌∷◌, ◌++◌, length, take, drop, ◌-◌, Option, None, Some, option_map, is_some, refl, sym, ◌∙◌, ap, subst, arith}
use Rattle.std.specs.List.{slice_get, slice_range}
use Rattle.std.proofs.lemmas.List.{take_all, take-append-le, take-append-drop, append-nil}
use Rattle.std.proofs.lemmas.Bool.{cases_lt}
use Rattle.std.proofs.lemmas.Bool.Decides.{nat_tests}
use Rattle.zs_sum.specs.Sum.{sha256}
use Rattle.zs_io.specs.Told.{BothTold, over}
use Rattle.zs_io.specs.Ranges.{over_torn, over_reads, torn_before, torn_after}
use Rattle.zs_lane.specs.declared.mark.Mark.{Mark}
use Rattle.zs_lane.specs.declared.mark.Mark.TheVariants.{Read, Wrote, Synced, Failed}
use Rattle.zs_lane.specs.Journal.{Touch, overlap, touches, later, touch, Says, IsLawful, Fits, Tracks, Keeps}
use Rattle.zs_lane.specs.Journal.Touch.{Untouched, Holds, Open}

later-assoc : (a b c : Touch) → later (later a b) c ≡ later a (later b c)
later-assoc Untouched b c = refl
later-assoc (Holds s) b c = refl
later-assoc Open b c = refl

later-untouched : (a : Touch) → later a Untouched ≡ a
later-untouched Untouched = refl
later-untouched (Holds s) = refl
later-untouched Open = refl

-- the last mark comes first
pub touch-push : (at len : ℕ) (marks : List Mark) (m : Mark) → touch at len (marks ++ m ∷ []) ≡ later (touches at len m) (touch at len marks)
touch-push at len [] m = sym (later-untouched (touches at len m))
touch-push at len (d ∷ marks) m =
    ap (λ (t : Touch). later t (touches at len d)) (touch-push at len marks m) ∙ later-assoc (touches at len m) (touch at len marks) (touches at len d)

get-push : (marks : List Mark) (m x : Mark) (k : ℕ) → slice_get (marks ++ m ∷ []) k ≡ Some x
    → ((k < length marks) × (slice_get marks k ≡ Some x)) ⊎ ((k ≡ length marks) × (m ≡ x))
get-push [] m x zero is = inr (refl, cc)
get-push [] m x (suc k) is = absurd cc
get-push (d ∷ marks) m x zero is = inl (omega arith, is)
get-push (d ∷ marks) m x (suc k) is = elim (get-push marks m x k is) [
  | inl before ↦ inl (omega (arith, before.0), before.1)
  | inr here ↦ inr (ap suc here.0, here.1)
]

-- what a mark must say, if it is a read
abbrev MarkSays : List ℕ → List Mark → Mark → Type 0
MarkSays b marks (Read at len s) = Says b at len (touch at len marks) s
MarkSays b marks (Wrote at len s) = Unit {0}
MarkSays b marks Synced = Unit {0}
MarkSays b marks Failed = Unit {0}

lawful-push : (b : List ℕ) (marks : List Mark) (m : Mark) → IsLawful b marks → MarkSays b marks m → IsLawful b (marks ++ m ∷ [])
lawful-push b marks m lawful right = record {
  reads = λ k at len s is. elim (get-push marks m (Read at len s) k is) [
    | inl before ↦
        let P : List Mark → Type 0 = λ l. Says b at len (touch at len l) s in
        subst P (sym (take-append-le k marks (m ∷ []) (omega (arith, before.0)))) (lawful.reads k at len s before.1)
    | inr here ↦
        let P : List Mark → Type 0 = λ l. Says b at len (touch at len l) s in
        let front : take k (marks ++ m ∷ []) ≡ marks = take-append-le k marks (m ∷ []) (omega (arith, here.0)) ∙ take_all k marks (omega (arith, here.0)) in
        subst P (sym front) (subst (MarkSays b marks) here.1 right)
  ];
}

-- a range as it is now, and the sum of what was read there
says : (b c : List ℕ) (at len : ℕ) (s : List ℕ) (t : Touch) → Fits b c at len t → s ≡ sha256 (slice_range c at (at + len)) → Says b at len t s
says b c at len s Untouched same sum = sum ∙ ap sha256 same
says b c at len s (Holds w) has sum = sum ∙ sym has
says b c at len s Open any sum = any

-- a part that stays
fits_on : (b c d : List ℕ) (at len : ℕ) (t : Touch) → slice_range d at (at + len) ≡ slice_range c at (at + len) → Fits b c at len t → Fits b d at len t
fits_on b c d at len Untouched same fits = same ∙ fits
fits_on b c d at len (Holds w) same fits = fits ∙ ap sha256 (sym same)
fits_on b c d at len Open same fits = fits

told_too : (o now : Option (List ℕ)) (b : List ℕ) → is_some o ≡ is_some now → o ≡ Some b → (c : List ℕ) × (now ≡ Some c)
told_too o (Some c) b same is = (c, refl)
told_too o None b same is = absurd (none (sym (ap is_some is) ∙ same))
  where
    none : true ≡ false → ⊥
    none e = cc

pub tells_as : (old now : Option (List ℕ)) (R : List ℕ → List ℕ → Type 0) → BothTold R old now → is_some old ≡ is_some now
tells_as None None R both = refl
tells_as (Some c) (Some d) R both = refl
tells_as None (Some d) R both = absurd both
tells_as (Some c) None R both = absurd both

-- a mark that touches nothing, and bytes that stay
tracks_on : (b c : List ℕ) (marks : List Mark) (m : Mark) → ((at len : ℕ) → touches at len m ≡ Untouched) → Tracks b marks c → Tracks b (marks ++ m ∷ []) c
tracks_on b c marks m nothing tracks = record {
  ranges = λ at len within.
      let same : touch at len (marks ++ m ∷ []) ≡ touch at len marks =
      touch-push at len marks m ∙ ap (λ (t : Touch). later t (touch at len marks)) (nothing at len) in
      subst (Fits b c at len) (sym same) (tracks.ranges at len within);
}

-- a write that succeeded
mapped : (old now : Option (List ℕ)) (f : List ℕ → List ℕ) (d : List ℕ) → now ≡ option_map f old → now ≡ Some d → (c : List ℕ) × (old ≡ Some c) × (f c ≡ d)
mapped None now f d is told = absurd (none (sym is ∙ told))
  where
    none : ◌≡◌ {A = Option (List ℕ)} None (Some d) → ⊥
    none e = cc
mapped (Some c) now f d is told = (c, refl, some (sym is ∙ told))
  where
    some : Some (f c) ≡ Some d → f c ≡ d
    some e = cc

tells_map : (old now : Option (List ℕ)) (f : List ℕ → List ℕ) → now ≡ option_map f old → is_some old ≡ is_some now
tells_map None now f is = sym (ap is_some is)
tells_map (Some c) now f is = sym (ap is_some is)

over_nothing : (at : ℕ) (bytes c : List ℕ) → length bytes ≡ 0 → over at bytes c ≡ c
over_nothing at [] c long =
    let is : at + 0 ≡ at = omega arith in
    ap (λ (l : List ℕ). l ++ drop (at + 0) c) (append-nil (take at c)) ∙ ap (λ (k : ℕ). take at c ++ drop k c) is ∙ take-append-drop at c
over_nothing at (x ∷ bytes) c long = absurd (omega arith)

no_part : (x y : List ℕ) (at len : ℕ) → len ≡ 0 → slice_range x at (at + len) ≡ slice_range y at (at + len)
no_part x y at len none =
    let many : at + len - at ≡ 0 = omega arith in
    ap (λ (k : ℕ). take k (drop at x)) many ∙ sym (ap (λ (k : ℕ). take k (drop at y)) many)

-- a part that shares no byte with what was written
other_part : (at : ℕ) (bytes c : List ℕ) (a l : ℕ) → at + length bytes ≤ length c → min (a + l) (at + length bytes) ≤ max a at
    → slice_range (over at bytes c) a (a + l) ≡ slice_range c a (a + l)
other_part at bytes c a l fits apart = elim (cases_lt at (a + l)) [
  | inr ends ↦ torn_before at bytes c (over at bytes c) a (a + l) (over_torn at bytes c fits) ends
  | inl reaches ↦ elim (cases_lt a (at + length bytes)) [
    | inr begins ↦ torn_after at bytes c (over at bytes c) a (a + l) (over_torn at bytes c fits) begins
    | inl starts ↦ elim (cases_lt a at) [
      | inl first ↦ ap (λ (d : List ℕ). slice_range d a (a + l)) (over_nothing at bytes c (omega arith))
      | inr last ↦ no_part (over at bytes c) c a l (omega arith)
    ]
  ]
]

module _ (b c : List ℕ) (at : ℕ) (bytes : List ℕ) (s : List ℕ) (fits : at + length bytes ≤ length c) (sum : s ≡ sha256 bytes) where
  wrote_fits : (a l : ℕ) (t : Touch) (p q : Bool) → (p ≡ overlap a l at (length bytes)) → (q ≡ (at == a) && (length bytes == l)) → Fits b c a l t
      → Fits b (over at bytes c) a l (later (if p then (if q then Holds s else Open) else Untouched) t)
  wrote_fits a l t false q apart just so_far = fits_on b c (over at bytes c) a l t (other_part at bytes c a l fits (grind (arith, nat_tests))) so_far
  wrote_fits a l t true false meets just so_far = tt
  wrote_fits a l t true true meets just so_far =
      let same : (at ≡ a) × (length bytes ≡ l) = grind (arith, nat_tests) in
      sum ∙ ap sha256 (sym (over_reads at bytes c fits)) ∙ ap (λ (k : ℕ). sha256 (slice_range (over at bytes c) k (k + length bytes))) same.0
      ∙ ap (λ (k : ℕ). sha256 (slice_range (over at bytes c) a (a + k))) same.1

  tracks_wrote : (marks : List Mark) → Tracks b marks c → Tracks b (marks ++ Wrote at (length bytes) s ∷ []) (over at bytes c)
  tracks_wrote marks tracks = record {
    ranges = λ a l within.
        let long : length (over at bytes c) ≡ length c = (over_torn at bytes c fits).long in
        subst (Fits b (over at bytes c) a l) (sym (touch-push a l marks (Wrote at (length bytes) s)))
        (wrote_fits a l (touch a l marks) (overlap a l at (length bytes)) ((at == a) && (length bytes == l)) refl refl (tracks.ranges a l (omega (arith, within, long))));
  }

-- The list of marks as a lane's call leaves it.
pub pushed : (now room new : List Mark) (m : Mark) (inside : List Mark) → new ≡ room ++ m ∷ [] → room ≡ inside → inside ≡ now → new ≡ now ++ m ∷ []
pushed now room new m inside is same was = is ∙ ap (λ (l : List Mark). l ++ m ∷ []) (same ∙ was)

module _ (o : Option (List ℕ)) (marks new : List Mark) (old now : Option (List ℕ)) (keeps : Keeps o marks old) where
  -- a mark that says what it must, after which the journal fits the bytes
  after : (m : Mark) → new ≡ marks ++ m ∷ [] → is_some old ≡ is_some now → ((b : List ℕ) → o ≡ Some b → MarkSays b marks m)
      → ((b c : List ℕ) → o ≡ Some b → now ≡ Some c → Tracks b (marks ++ m ∷ []) c) → Keeps o new now
  after m is tells says tracks = subst (λ (l : List Mark). Keeps o l now) (sym is) (record {
    tells = keeps.tells ∙ tells;
    lawful = λ b told. lawful-push b marks m (keeps.lawful b told) (says b told);
    tracks = tracks;
  })

  pub after_read : (at len : ℕ) (s : List ℕ) → new ≡ marks ++ Read at len s ∷ [] → now ≡ old
      → ((c : List ℕ) → old ≡ Some c → (at + len ≤ length c) × (s ≡ sha256 (slice_range c at (at + len)))) → Keeps o new now
  after_read at len s is same read = after (Read at len s) is (ap is_some (sym same)) at_same
      (λ b c told now_is. tracks_on b c marks (Read at len s) (λ at' len'. refl) (keeps.tracks b c told (sym same ∙ now_is)))
    where
      at_same : (b : List ℕ) → o ≡ Some b → Says b at len (touch at len marks) s
      at_same b told =
          let c = told_too o old b keeps.tells told in
          let was = read c.0 c.1 in
          says b c.0 at len s (touch at len marks) ((keeps.tracks b c.0 told c.1).ranges at len was.0) was.1

  pub after_sync : new ≡ marks ++ Synced ∷ [] → now ≡ old → Keeps o new now
  after_sync is same = after Synced is (ap is_some (sym same)) (λ b told. tt)
      (λ b c told now_is. tracks_on b c marks Synced (λ at len. refl) (keeps.tracks b c told (sym same ∙ now_is)))

  pub after_failure : new ≡ marks ++ Failed ∷ [] → is_some old ≡ is_some now → Keeps o new now
  after_failure is tells = after Failed is tells (λ b told. tt)
      (λ b c told now_is. record { ranges = λ at len within. subst (Fits b c at len) (sym (touch-push at len marks Failed)) tt })

  pub after_write : (at : ℕ) (bytes s : List ℕ) → new ≡ marks ++ Wrote at (length bytes) s ∷ [] → now ≡ option_map (over at bytes) old
      → ((c : List ℕ) → old ≡ Some c → at + length bytes ≤ length c) → s ≡ sha256 bytes → Keeps o new now
  after_write at bytes s is written fits sum = after (Wrote at (length bytes) s) is (tells_map old now (over at bytes) written) (λ b told. tt)
      (λ b d told now_is.
      let was = mapped old now (over at bytes) d written now_is in
      subst (Tracks b (marks ++ Wrote at (length bytes) s ∷ [])) was.2
      (tracks_wrote b was.0 at bytes s (fits was.0 was.1) sum marks (keeps.tracks b was.0 told was.1)))
