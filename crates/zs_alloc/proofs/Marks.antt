-- What an update of a taken range makes of a mirror.
use Rattle.std.proofs.Common.{◌≡◌, ◌∙◌, ℕ, false, List, Some, None, ap, sym}
use Rattle.std.specs.Ordering.{nat_cmp}
use Rattle.std.specs.Map.{keys_of}
use Rattle.std.specs.BTreeMap.{is_at}
use Rattle.std.specs.List.Sorted.{IsStrictlySortedBy}
use Rattle.std.proofs.lemmas.Map.{none_passes_from_lookup}
use Rattle.zs_alloc.specs.declared.taken.Taken.{Taken}
use Rattle.zs_alloc.specs.Space.{MirrorView, taken_at, with_range, changed, still_taken, is_over}
use Rattle.zs_alloc.specs.Kept.{AreKept}
use Rattle.zs_alloc.proofs.Changes.{insert_changed, changed_none, kept_changed, still_same}

with_list : MirrorView → List (ℕ × Taken) → MirrorView
with_list m l = record m { taken = l }

pub changed_is : (m new : MirrorView) (k : ℕ) (v w : Taken) (f : Taken → Taken) → new ≡ record m { taken = still_taken (with_range m.taken k w) } → w ≡ f v → IsStrictlySortedBy nat_cmp (keys_of m.taken) → Some v ≡ taken_at m.taken k → new ≡ record m { taken = still_taken (changed k f m.taken) }
unfolding with_list
changed_is m new k v w f is value sorted there = is ∙ ap (λ l. with_list m (still_taken l)) (ap (λ x. with_range m.taken k x) value ∙ insert_changed m.taken k v f sorted (sym there))

pub plain_is : (m new : MirrorView) (k : ℕ) (v w : Taken) (f : Taken → Taken) → new ≡ record m { taken = still_taken (with_range m.taken k w) } → w ≡ f v → IsStrictlySortedBy nat_cmp (keys_of m.taken) → AreKept m.taken → Some v ≡ taken_at m.taken k → ((e : Taken) → is_over (f e) ≡ false) → new ≡ record m { taken = changed k f m.taken }
unfolding with_list
plain_is m new k v w f is value sorted kept there none = changed_is m new k v w f is value sorted there ∙ ap (λ l. with_list m l) (still_same (changed k f m.taken) (kept_changed m.taken k f none kept))

pub none_is : (m : MirrorView) (k : ℕ) (f : Taken → Taken) → AreKept m.taken → taken_at m.taken k ≡ None → m ≡ record m { taken = still_taken (changed k f m.taken) }
unfolding with_list
none_is m k f kept none = ap (λ l. with_list m l) (sym (still_same m.taken kept) ∙ ap still_taken (sym (changed_none k f m.taken (none_passes_from_lookup (is_at (nat_cmp k)) m.taken none))))
