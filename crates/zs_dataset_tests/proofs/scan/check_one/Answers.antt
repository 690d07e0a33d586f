use Rattle.std.proofs.Common.{◌≡◌, ◌∙◌, ◌≤◌, ◌<◌, ℕ, zero, suc, List, length, slice_index_or, sym, ap, subst, inl, inr, ◌∷◌, [], arith, refl}
use Rattle.zs_ids.specs.declared.block.Item.{Item}
use Rattle.zs_ids.specs.Graph.{Has}
use Rattle.zs_ledger.specs.declared.entry.Entry.{Entry}
use Rattle.zs_ledger.specs.declared.entry.CopyResult.{CopyResult}
use Rattle.zs_ledger.specs.declared.entry.CopyResult.TheVariants.{Good, Missing}
use Rattle.zs_ledger.specs.Entry.{AreCopies}
use Rattle.zs_phys.specs.declared.scope.Scope.{Scope}
use Rattle.zs_scan.specs.Steps.{AreOf}
use Rattle.zs_scan.specs.declared.batch.Batch.{Batch}
use Rattle.zs_scan.proofs.Batches.{has-last}
use Rattle.zs_dataset_tests.proofs.scan.check_one.Goals as goal

-- an entry is that of the one item of a list
of_one : (items : List Item) (e : Entry) (d : Item) → 1 ≤ length items → length items < 2 → e.piece ≡ (slice_index_or items 0 d).piece → e.sectors ≡ (slice_index_or items 0 d).sectors → e.sum ≡ (slice_index_or items 0 d).sum → AreOf items (e ∷ [])
of_one [] e d least most piece sectors sum = absurd (omega (arith, least))
of_one (i ∷ []) e d least most piece sectors sum = (piece, sectors, sum, tt)
of_one (i ∷ j ∷ is) e d least most piece sectors sum = absurd (omega (arith, most))

-- two good copies are those of a mirror of two devices
abbrev two_good : List CopyResult
two_good = Good ∷ Good ∷ Missing ∷ Missing ∷ []

good≢missing : Good ≡ Missing → ⊥
good≢missing e = cc

two_are : AreCopies 2 two_good
two_are = record { four = refl; there = there; missing = missing }
  where
    there : (k : ℕ) → k < 2 → slice_index_or two_good k Missing ≡ Missing → ⊥
    there zero below = good≢missing
    there (suc zero) below = good≢missing
    there (suc (suc k)) below = absurd (omega (arith, below))

    missing : (k : ℕ) → 2 ≤ k → slice_index_or two_good k Missing ≡ Missing
    missing zero above = absurd (omega (arith, above))
    missing (suc zero) above = absurd (omega (arith, above))
    missing (suc (suc zero)) above = refl
    missing (suc (suc (suc zero))) above = refl
    missing (suc (suc (suc (suc k)))) above = refl

pub verdict-made-requires-clause-batch : goal.verdict-made-requires-clause-batch
verdict-made-requires-clause-batch c =
    let taken = c.in-Ok.ensures.taken (subst (λ (l : List Item). 1 ≤ length l) c.as_slice.ensures c.in-len1.len_at_least) in
    record {
      batch = c.in-Ok.batch;
      here = subst (λ (l : List Batch). Has l c.in-Ok.batch) (sym (ap (λ v. v.flight) taken.rest)) (has-last c.args.scan.now.flight c.in-Ok.batch);
      named = refl;
      of_items = subst (λ (l : List Item). AreOf l (c.entry_of.result ∷ [])) c.as_slice.ensures (of_one c.as_slice.result.now c.entry_of.result _ c.in-len1.len_at_least c.in-len1.len_below c.entry_of.ensures.piece c.entry_of.ensures.sectors c.entry_of.ensures.sum);
    }

pub verdict-made-requires-clause-copies : goal.verdict-made-requires-clause-copies
verdict-made-requires-clause-copies c = λ e has. elim has [
  | inl is ↦ subst (λ (x : Entry). AreCopies c.take.new.self.scope.width x.copies) is (subst (λ (l : List CopyResult). AreCopies c.take.new.self.scope.width l) (sym c.entry_of.ensures.copies) (subst (λ (w : ℕ). AreCopies w two_good) (width c) two_are))
  | inr none ↦ absurd none
]
  where
    width : (c : goal.After-verdict-arg-2-1) → 2 ≡ c.take.new.self.scope.width
    width c = sym c.if-scope-ne2.false ∙ ap (λ (s : Scope). s.width) c.scope.ensures
