-- The verdict of a batch is a step of the machine.
use Rattle.std.specs.Prelude.{◌≡◌, ℕ, Bool, true, false, List, [], ◌∷◌, ◌++◌, refl}
use Rattle.std.proofs.Common.{sym, ◌∙◌, ap, subst, append_assoc, append-nil}
use Rattle.std.proofs.lemmas.Bool.{true≢false}
use Rattle.zs_ledger.specs.declared.entry.Entry.{Entry}
use Rattle.zs_walk.specs.Walking.{runs}
use Rattle.zs_scan.specs.View.{ScanView}
use Rattle.zs_scan.specs.Kept.{IsOrderly}
use Rattle.zs_scan.specs.Steps.{Judged, still_flying}
use Rattle.zs_scan.specs.Covered.{MayAllBeChecked}
use Rattle.zs_machine.specs.Machine.{PoolState, ScanState, is_running}
use Rattle.zs_machine.specs.Steps.{VerdictStep, with_checked}
use Rattle.zs_core.specs.View.{scan_of}

-- entries that may be added one after another are a verdict of the machine, where a scan runs
all_steps : (made : List Entry) (s : PoolState) → is_running s.scan ≡ true → MayAllBeChecked s.graph s.scan.scope s.scan.checked made → VerdictStep s made (record s { scan = record s.scan { checked = s.scan.checked ++ made } })
all_steps [] s running may = rw (append-nil s.scan.checked) refl
all_steps (e ∷ es) s running may =
    (running, may.0, rw (← append_assoc s.scan.checked (e ∷ []) es) (all_steps es (with_checked s e) running may.1))

-- where nothing waits or flies no entry is made
none_fly : (number : ℕ) (entries : List Entry) → still_flying [] number entries ≡ []
none_fly number [] = refl
none_fly number (e ∷ es) = none_fly number es

none_made : (v : ScanView) (number : ℕ) (entries : List Entry) → IsOrderly v → runs v.run.status ≡ false → still_flying v.marks number entries ≡ []
none_made v number entries orderly idle =
    rw (orderly.idle (λ scans. true≢false (sym (ap runs scans) ∙ idle))) (none_fly number entries)

-- the entries of a batch that was judged are added as the machine asks
pub judged_step : (s : PoolState) (old new : ScanView) (number : ℕ) (entries made : List Entry) → s.scan ≡ scan_of old → IsOrderly old → Judged old number entries new → made ≡ still_flying old.marks number entries → MayAllBeChecked s.graph old.scope old.checked made → VerdictStep s made (record s { scan = scan_of new })
judged_step s old new number entries made scan orderly judged is may = by (runs old.run.status) refl
  where
    checked : scan_of new ≡ record (scan_of old) { checked = old.checked ++ made }
    checked = ap (λ (v : ScanView). scan_of v) judged.rest ∙ ap (λ (l : List Entry). record (scan_of old) { checked = old.checked ++ l }) (sym is)

    as_was : record s { scan = record s.scan { checked = s.scan.checked ++ made } } ≡ record s { scan = scan_of new }
    as_was = ap (λ (c : ScanState). record s { scan = record c { checked = c.checked ++ made } }) scan ∙ ap (λ (c : ScanState). record s { scan = c }) (sym checked)

    by : (b : Bool) → runs old.run.status ≡ b → VerdictStep s made (record s { scan = scan_of new })
    by true running =
        subst (λ (t : PoolState). VerdictStep s made t) as_was
        (all_steps made s (ap is_running scan ∙ running)
        (subst (λ (c : ScanState). MayAllBeChecked s.graph c.scope c.checked made) (sym scan) may))
    by false idle =
        let none : made ≡ [] = is ∙ none_made old number entries orderly idle in
        subst (λ (l : List Entry). VerdictStep s l (record s { scan = scan_of new })) (sym none)
        (sym (subst (λ (l : List Entry). record s { scan = record s.scan { checked = s.scan.checked ++ l } } ≡ record s { scan = scan_of new }) none as_was)
        ∙ ap (λ (l : List Entry). record s { scan = record s.scan { checked = l } }) (append-nil s.scan.checked))
