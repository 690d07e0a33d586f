-- The bytes as they read and each crash image are bytes, where the first ones and those of each write are.
use Rattle.std.proofs.Common.{◌≡◌, ℕ, List, [], ◌∷◌, take, All, sym, subst}
use Rattle.std.proofs.lemmas.List.Elements.{All-head, All-tail, All-take}
use Rattle.zs_io.specs.Told.{AreBytes}
use Rattle.zs_io.specs.Calls.{after_call, left_by, left_after, written, Kept, HaveBytes, images_of, images_since}
use Rattle.zs_io.specs.CallLaws.{overlaid_torn}
use Rattle.zs_io.specs.declared.disk.Call.{Call}
use Rattle.zs_io.specs.declared.disk.Call.TheVariants.{Looked, Wrote, Synced}

abbrev Writes : Call → Type 0
Writes e = AreBytes (written e)

after_call_bytes : (e : Call) (now : List ℕ) → Writes e → AreBytes now → AreBytes (after_call e now)
after_call_bytes Looked now wrote are = are
after_call_bytes (Wrote at bytes kept) now wrote are = (overlaid_torn at bytes kept now).values wrote are
after_call_bytes Synced now wrote are = are

left_by_bytes : (e : Call) (now : List ℕ) (could : List ℕ → Type 0) → Writes e → AreBytes now → ((c : List ℕ) → could c → AreBytes c)
    → (c : List ℕ) → left_by e now could c → AreBytes c
left_by_bytes Looked now could wrote are each c left = each c left
left_by_bytes (Wrote at bytes kept) now could wrote are each c left = left.2.values wrote (each left.0 left.1)
left_by_bytes Synced now could wrote are each c left = subst AreBytes (sym left) are

left_after_bytes : (calls : List Call) (now : List ℕ) (could : List ℕ → Type 0) → All Writes calls → AreBytes now
    → ((c : List ℕ) → could c → AreBytes c) → (c : List ℕ) → left_after calls now could c → AreBytes c
left_after_bytes [] now could wrote are each c left = each c left
left_after_bytes (e ∷ calls) now could wrote are each c left =
    left_after_bytes calls (after_call e now) (left_by e now could) (All-tail Writes e calls wrote) (after_call_bytes e now (All-head Writes e calls wrote) are)
    (left_by_bytes e now could (All-head Writes e calls wrote) are each) c left

first_bytes : (first : List ℕ) → AreBytes first → (c : List ℕ) → c ≡ first → AreBytes c
first_bytes first are c is = subst AreBytes (sym is) are

module _ (kept : Kept) (have : HaveBytes kept) where
  -- each image that a crash may leave is of bytes
  pub images_of_bytes : (c : List ℕ) → images_of kept c → AreBytes c
  unfolding images_of
  images_of_bytes c left = left_after_bytes kept.calls kept.first (λ d. d ≡ kept.first) have.1 have.0 (first_bytes kept.first have.0) c left

  -- and so is each that it might have left
  pub images_since_bytes : (t : ℕ) (c : List ℕ) → images_since kept t c → AreBytes c
  unfolding images_since
  images_since_bytes t c since =
      let wrote : All Writes (take since.0 kept.calls) = All-take Writes since.0 kept.calls have.1 in
      left_after_bytes (take since.0 kept.calls) kept.first (λ d. d ≡ kept.first) wrote have.0 (first_bytes kept.first have.0) c since.3
