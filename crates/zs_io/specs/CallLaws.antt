-- What follows from a list of calls: sizes stay, the bytes as they read are one of the images, and one call more.
use Rattle.std.proofs.Common.{◌≡◌, ◌⊎◌, inl, inr, ℕ, zero, suc, ◌+◌, ◌≤◌, ◌<◌, List, [], ◌∷◌, ◌++◌, Some, length, take, drop, get_or, refl, sym, ◌∙◌, ap, subst, arith, length-take}
use Rattle.std.proofs.lemmas.List.{take_all}
use Rattle.std.proofs.lemmas.List.Elements.{All-nil, All-cons, All-head, All-tail, All-take}
use Rattle.zs_io.specs.Told.{AreBytes, Torn, over}
use Rattle.zs_io.specs.Calls.{overlaid, after_call, after_calls, left_by, left_after, Kept, bytes_of, images_of, images_since}
use Rattle.zs_io.specs.declared.disk.Call.{Call}
use Rattle.zs_io.specs.declared.disk.Call.TheVariants.{Looked, Wrote, Synced}

pub overlaid-length : (at : ℕ) (bytes old : List ℕ) → length (overlaid at bytes old) ≡ length old
overlaid-length at bytes [] = refl
overlaid-length zero [] (x ∷ old) = refl
overlaid-length zero (b ∷ bytes) (x ∷ old) = ap suc (overlaid-length zero bytes old)
overlaid-length (suc at) bytes (x ∷ old) = ap suc (overlaid-length at bytes old)

overlaid-take : (at : ℕ) (bytes old : List ℕ) → take at (overlaid at bytes old) ≡ take at old
overlaid-take at bytes [] = refl
overlaid-take zero [] (x ∷ old) = refl
overlaid-take zero (b ∷ bytes) (x ∷ old) = refl
overlaid-take (suc at) bytes (x ∷ old) = ap (λ (l : List ℕ). x ∷ l) (overlaid-take at bytes old)

overlaid-drop : (at : ℕ) (bytes old : List ℕ) (m : ℕ) → at + length bytes ≤ m → drop m (overlaid at bytes old) ≡ drop m old
overlaid-drop at bytes [] m le = refl
overlaid-drop zero [] (x ∷ old) m le = refl
overlaid-drop zero (b ∷ bytes) (x ∷ old) zero le = absurd (omega arith)
overlaid-drop zero (b ∷ bytes) (x ∷ old) (suc m) le = overlaid-drop zero bytes old m (omega arith)
overlaid-drop (suc at) bytes (x ∷ old) zero le = absurd (omega arith)
overlaid-drop (suc at) bytes (x ∷ old) (suc m) le = overlaid-drop at bytes old m (omega arith)

overlaid-nil : (at : ℕ) (old : List ℕ) → overlaid at [] old ≡ old
overlaid-nil at [] = refl
overlaid-nil zero (x ∷ old) = refl
overlaid-nil (suc at) (x ∷ old) = ap (λ (l : List ℕ). x ∷ l) (overlaid-nil at old)

overlaid_one : (at b : ℕ) (rest old : List ℕ)
    → (get_or (overlaid at (b ∷ rest) old) at 0 ≡ get_or old at 0) ⊎ (get_or (overlaid at (b ∷ rest) old) at 0 ≡ b)
overlaid_one at b rest [] = inl refl
overlaid_one zero b rest (x ∷ old) = inr refl
overlaid_one (suc at) b rest (x ∷ old) = overlaid_one at b rest old

overlaid_single : (at : ℕ) (bytes : List ℕ) (k : ℕ) (old : List ℕ) → length bytes ≡ 1
    → (get_or (overlaid at (take k bytes) old) at 0 ≡ get_or old at 0) ⊎ (get_or (overlaid at (take k bytes) old) at 0 ≡ get_or bytes 0 0)
overlaid_single at [] k old one = absurd (omega arith)
overlaid_single at (b ∷ bytes) zero old one = inl (ap (λ (l : List ℕ). get_or l at 0) (overlaid-nil at old))
overlaid_single at (b ∷ bytes) (suc k) old one = overlaid_one at b (take k bytes) old

abbrev IsByte : ℕ → Type 0
IsByte b = b < 256

overlaid_bytes : (at : ℕ) (bytes old : List ℕ) → AreBytes bytes → AreBytes old → AreBytes (overlaid at bytes old)
overlaid_bytes at bytes [] are were = All-nil IsByte
overlaid_bytes zero [] (x ∷ old) are were = were
overlaid_bytes zero (b ∷ bytes) (x ∷ old) are were =
    let rest : AreBytes (overlaid zero bytes old) = overlaid_bytes zero bytes old (All-tail IsByte b bytes are) (All-tail IsByte x old were) in
    All-cons IsByte b (overlaid zero bytes old) (All-head IsByte b bytes are) rest
overlaid_bytes (suc at) bytes (x ∷ old) are were =
    All-cons IsByte x (overlaid at bytes old) (All-head IsByte x old were) (overlaid_bytes at bytes old are (All-tail IsByte x old were))

-- a write of which the first k bytes reached the device tears no more than its range
pub overlaid_torn : (at : ℕ) (bytes : List ℕ) (k : ℕ) (old : List ℕ) → Torn at bytes old (overlaid at (take k bytes) old)
overlaid_torn at bytes k old = record {
  long = overlaid-length at (take k bytes) old;
  before = overlaid-take at (take k bytes) old;
  after = overlaid-drop at (take k bytes) old (at + length bytes) (omega (arith, length-take k bytes));
  single = overlaid_single at bytes k old;
  values = λ are were. overlaid_bytes at (take k bytes) old (All-take IsByte k bytes are) were;
}

overlaid_to : (at : ℕ) (bytes old : List ℕ) (m : ℕ) → at + length bytes ≡ m → m ≤ length old
    → overlaid at bytes old ≡ take at old ++ bytes ++ drop m old
overlaid_to zero [] [] zero is fits = refl
overlaid_to zero [] [] (suc m) is fits = absurd (omega arith)
overlaid_to zero (b ∷ bytes) [] m is fits = absurd (omega arith)
overlaid_to (suc at) bytes [] m is fits = absurd (omega arith)
overlaid_to zero [] (x ∷ old) zero is fits = refl
overlaid_to zero [] (x ∷ old) (suc m) is fits = absurd (omega arith)
overlaid_to zero (b ∷ bytes) (x ∷ old) zero is fits = absurd (omega arith)
overlaid_to zero (b ∷ bytes) (x ∷ old) (suc m) is fits = ap (λ (l : List ℕ). b ∷ l) (overlaid_to zero bytes old m (omega arith) (omega arith))
overlaid_to (suc at) bytes (x ∷ old) zero is fits = absurd (omega arith)
overlaid_to (suc at) bytes (x ∷ old) (suc m) is fits = ap (λ (l : List ℕ). x ∷ l) (overlaid_to at bytes old m (omega arith) (omega arith))

-- within the old bytes, the new ones stand over those of their range
pub overlaid_over : (at : ℕ) (bytes old : List ℕ) → at + length bytes ≤ length old → overlaid at bytes old ≡ over at bytes old
overlaid_over at bytes old fits = overlaid_to at bytes old (at + length bytes) refl fits

after_call-length : (e : Call) (now : List ℕ) → length (after_call e now) ≡ length now
after_call-length Looked now = refl
after_call-length (Wrote at bytes kept) now = overlaid-length at (take kept bytes) now
after_call-length Synced now = refl

pub after_calls-length : (calls : List Call) (now : List ℕ) → length (after_calls calls now) ≡ length now
after_calls-length [] now = refl
after_calls-length (e ∷ calls) now = after_calls-length calls (after_call e now) ∙ after_call-length e now

pub after_calls-push : (calls : List Call) (e : Call) (now : List ℕ) → after_calls (calls ++ e ∷ []) now ≡ after_call e (after_calls calls now)
after_calls-push [] e now = refl
after_calls-push (d ∷ calls) e now = after_calls-push calls e (after_call d now)

-- what a crash may leave after one call more
pub left_after-push : (calls : List Call) (e : Call) (now : List ℕ) (could : List ℕ → Type 0) (c : List ℕ)
    → left_after (calls ++ e ∷ []) now could c → left_by e (after_calls calls now) (left_after calls now could) c
left_after-push [] e now could c left = left
left_after-push (d ∷ calls) e now could c left = left_after-push calls e (after_call d now) (left_by d now could) c left

now_could : (e : Call) (now : List ℕ) (could : List ℕ → Type 0) → could now → left_by e now could (after_call e now)
now_could Looked now could here = here
now_could (Wrote at bytes kept) now could here = (now, here, overlaid_torn at bytes kept now)
now_could Synced now could here = refl

now_is_left : (calls : List Call) (now : List ℕ) (could : List ℕ → Type 0) → could now → left_after calls now could (after_calls calls now)
now_is_left [] now could here = here
now_is_left (e ∷ calls) now could here = now_is_left calls (after_call e now) (left_by e now could) (now_could e now could here)

fits_by : (e : Call) (now : List ℕ) (could : List ℕ → Type 0) → ((c : List ℕ) → could c → length c ≡ length now)
    → (c : List ℕ) → left_by e now could c → length c ≡ length (after_call e now)
fits_by Looked now could fit c left = fit c left
fits_by (Wrote at bytes kept) now could fit c left = left.2.long ∙ fit left.0 left.1 ∙ sym (after_call-length (Wrote at bytes kept) now)
fits_by Synced now could fit c left = ap length left

fits_after : (calls : List Call) (now : List ℕ) (could : List ℕ → Type 0) → ((c : List ℕ) → could c → length c ≡ length now)
    → (c : List ℕ) → left_after calls now could c → length c ≡ length now
fits_after [] now could fit c left = fit c left
fits_after (e ∷ calls) now could fit c left =
    fits_after calls (after_call e now) (left_by e now could) (fits_by e now could fit) c left ∙ after_call-length e now

module _ (kept : Kept) where
  -- the bytes as they read are as many as at first
  pub length-bytes_of : length (bytes_of kept) ≡ length kept.first
  unfolding bytes_of
  length-bytes_of = after_calls-length kept.calls kept.first

  -- and they are one of the images
  pub bytes_of_left : images_of kept (bytes_of kept)
  unfolding bytes_of images_of
  bytes_of_left = now_is_left kept.calls kept.first (λ d. d ≡ kept.first) refl

  pub told_is_kept : (content : List ℕ) → Some (bytes_of kept) ≡ Some content → (length content ≡ length kept.first) × images_of kept content
  told_is_kept content is =
      let same : bytes_of kept ≡ content = cc in
      let P : List ℕ → Type 0 = λ b. (length b ≡ length kept.first) × images_of kept b in
      subst P same (length-bytes_of, bytes_of_left)

  -- each image is as long
  pub images_of_fit : (c : List ℕ) → images_of kept c → length c ≡ length kept.first
  unfolding images_of
  images_of_fit c left = fits_after kept.calls kept.first (λ d. d ≡ kept.first) (λ d is. ap length is) c left

  pub images_count_now : (t : ℕ) (c : List ℕ) → t ≤ length kept.calls → images_of kept c → images_since kept t c
  unfolding images_of images_since
  images_count_now t c le left =
      let P : List Call → Type 0 = λ l. left_after l kept.first (λ d. d ≡ kept.first) c in
      (length kept.calls, le, omega arith, subst P (sym (take_all (length kept.calls) kept.calls (omega arith))) left)

  pub images_only_now : (c : List ℕ) → images_since kept (length kept.calls) c → images_of kept c
  unfolding images_of images_since
  images_only_now c since =
      let P : List Call → Type 0 = λ l. left_after l kept.first (λ d. d ≡ kept.first) c in
      subst P (take_all since.0 kept.calls since.1) since.3
