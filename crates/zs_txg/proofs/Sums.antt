-- The sum of the staged sectors, when one more block is staged.
use Rattle.std.proofs.Common.{◌≡◌, ◌∙◌, sym, ap, subst, arith, ℕ, ◌+◌, ◌*◌, ◌<◌, ◌≤◌, ◌^◌, List, [], ◌∷◌, length, unwrap_or, option_map}
use Rattle.std.specs.List.{All}
use Rattle.std.specs.Map.{values_of}
use Rattle.std.specs.declared.cmp.Ordering.{Ordering}
use Rattle.std.specs.declared.cmp.Ordering.TheVariants.{Less, Equal, Greater}
use Rattle.std.specs.Ordering.{match_ordering}
use Rattle.std.specs.BTreeMap.{insert_entry}
use Rattle.std.proofs.lemmas.List.Sums.{sum_by-le}
use Rattle.std.proofs.lemmas.Map.Entries.{sum_by-insert_entry, length-values_of}
use Rattle.std.proofs.lemmas.Map.Views.{All-values-insert_entry}
use Rattle.zs_txg.specs.declared.staged.Staging.{Staging}
use Rattle.zs_txg.specs.declared.task.Task.{Task}
use Rattle.zs_txg.specs.Txg.{Slot, slot_cmp, put_staged, staged_at, sectors_of, IsInSlotOrder}
use Rattle.zs_txg.specs.Late.{with_late, IsCounted}
use Rattle.zs_txg.proofs.Entries.{sorted-insert_entry}
use Rattle.zs_txg.proofs.Slots.{slot_total}

abbrev pub had_at : List (Slot × Staging) → Slot → ℕ
had_at staged q = unwrap_or (option_map (λ s. s.sectors) (staged_at staged q)) 0

sum_put : (staged : List (Slot × Staging)) (q : Slot) (v : Staging) → IsInSlotOrder staged → sectors_of (put_staged staged q v) + had_at staged q ≡ sectors_of staged + v.sectors
sum_put staged q v s = sum_by-insert_entry (λ (w : Staging). w.sectors) slot_total staged q v s

below : (a b n : ℕ) → a + b ≡ n + 0 → b ≤ n
below a b n e = omega arith

pub counted_had : (staged : List (Slot × Staging)) (n : ℕ) (tasks : List (ℕ × Task)) (q : Slot) → IsCounted staged n tasks → IsInSlotOrder staged → had_at staged q ≤ n
counted_had staged n tasks q c s =
    subst (λ m. had_at staged q ≤ m) (sym c.sum)
    (below (sectors_of (put_staged staged q (record { place = record { vdev = 0; sector = 0 }; sectors = 0; fill = Rattle.std.specs.Prelude.None }))) (had_at staged q) (sectors_of staged) (sum_put staged q (record { place = record { vdev = 0; sector = 0 }; sectors = 0; fill = Rattle.std.specs.Prelude.None }) s))

fits : (n l v : ℕ) → n ≤ l * 65535 → l < 2 ^ 65 → v ≤ 65535 → n + v < 2 ^ 128
fits n l v a b c = omega arith

pub counted_fits : (staged : List (Slot × Staging)) (n v : ℕ) (tasks : List (ℕ × Task)) → IsCounted staged n tasks → length staged < 2 ^ 65 → v ≤ 65535 → n + v < 2 ^ 128
counted_fits staged n v tasks c l w =
    fits n (length staged) v
    (subst (λ m. m ≤ length staged * 65535) (sym c.sum) (subst (λ k. sectors_of staged ≤ k * 65535) (length-values_of staged) (sum_by-le (λ (x : Staging). x.sectors) 65535 (values_of staged) c.small)))
    l w

cancel : (a b c d e : ℕ) → a + b ≡ c + d → e + b ≡ c + d → e ≡ a
cancel a b c d e p q = omega arith

pub counted_put : (staged : List (Slot × Staging)) (n m : ℕ) (tasks : List (ℕ × Task)) (q : Slot) (v : Staging) → IsCounted staged n tasks → IsInSlotOrder staged → m + had_at staged q ≡ n + v.sectors → v.sectors ≤ 65535 → IsCounted (put_staged staged q v) m tasks
counted_put staged n m tasks q v c s e w = record {
  sum = cancel (sectors_of (put_staged staged q v)) (had_at staged q) (sectors_of staged) v.sectors m (sum_put staged q v s) (e ∙ ap (λ k. k + v.sectors) c.sum);
  small = All-values-insert_entry slot_cmp q v (λ s. s.sectors ≤ 65535) staged c.small w;
  few = c.few;
}

-- what is staged stays in order, and each entry that is late adds at most one
pub late_sorted : (es late : List (Slot × Staging)) → IsInSlotOrder es → IsInSlotOrder (with_late es late)
late_sorted es [] s = s
late_sorted es (e ∷ late) s = late_sorted (put_staged es e.0 e.1) late (sorted-insert_entry slot_total e.0 e.1 es s)

length_step : (k : Slot) (v : Staging) (e : Slot × Staging) (es : List (Slot × Staging)) (r : Ordering) → length (put_staged es k v) ≤ length es + 1 → length (match_ordering r ((k, v) ∷ e ∷ es) ((e.0, v) ∷ es) (e ∷ put_staged es k v)) ≤ length (e ∷ es) + 1
length_step k v e es Less h = omega arith
length_step k v e es Equal h = omega arith
length_step k v e es Greater h = omega arith

length_put : (k : Slot) (v : Staging) (es : List (Slot × Staging)) → length (put_staged es k v) ≤ length es + 1
length_put k v [] = omega arith
length_put k v (e ∷ es) = length_step k v e es (slot_cmp k e.0) (length_put k v es)

plus : (a b c d : ℕ) → a ≤ b + c → b ≤ d + 1 → a ≤ d + (c + 1)
plus a b c d p q = omega arith

pub late_length : (es late : List (Slot × Staging)) → length (with_late es late) ≤ length es + length late
late_length es [] = omega arith
late_length es (e ∷ late) = let h = late_length (put_staged es e.0 e.1) late in let g = length_put e.0 e.1 es in omega arith
