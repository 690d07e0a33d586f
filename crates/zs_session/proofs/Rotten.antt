-- A `rot`: the calls on its device, and the line.
use Rattle.std.proofs.Common.{◌≡◌, ℕ, List, [], ◌∷◌, ◌++◌, length, map, inl, inr, Option, Some, None, option_map, refl, sym, ◌∙◌, ap, subst}
use Rattle.std.specs.Prelude.{Result, Ok, Err, OnErr}
use Rattle.std.proofs.lemmas.Result.{on_err_weaker}
use Rattle.std.proofs.lemmas.Bool.{cases_eq}
use Rattle.std.proofs.lemmas.List.{length-map}
use Rattle.zs_sum.specs.Sum.{sha256}
use Rattle.zs_io.specs.Told.{BothTold}
use Rattle.zs_lane.specs.declared.mark.Mark.{Mark}
use Rattle.zs_lane.specs.declared.mark.Mark.TheVariants as marks
use Rattle.zs_lane.specs.declared.fault.LaneFault.{LaneFault}
use Rattle.zs_lane.specs.declared.fault.LaneFault.TheVariants.{Failed}
use Rattle.zs_lane.specs.Lane.{Refused}
use Rattle.zs_lane.specs.Children.{DeviceView, GoesOn, OnlyOn, Called, Marked}
use Rattle.zs_lane.proofs.GoingOn.{gains_twice, goes_on_stays}
use Rattle.zs_io.specs.declared.fault.BayFault.{BayFault}
use Rattle.zs_io.specs.declared.fault.BayFault.TheVariants as faults
use Rattle.zs_core.specs.View.{PoolView}
use Rattle.zs_session.specs.Devices.{Journals, AreLonger, journals, SetGoesOn}
use Rattle.zs_session.specs.Plays.{Gains, Halts, complement}
use Rattle.zs_session.specs.Rotting.{RotsOn, StopsOn}
use Rattle.zs_session.specs.Session.{StopsLine, WantsMemory}
use Rattle.zs_session.proofs.Histories.{halts_same}
use Rattle.zs_session.proofs.Sets.{longer_twice, longer_none}

-- a call on one device, as one on the set
pub set_on : {T : Type 0} (dev n m : ℕ) (old new : ℕ → DeviceView) (r : Result T LaneFault) → OnlyOn dev n m old new → Called (old dev) (new dev) r → SetGoesOn n m old new
set_on dev n m old new r only called = record { count = only.count; sizes = only.sizes; each = each }
  where
    each : (e : ℕ) → GoesOn (old e) (new e)
    each e = elim (cases_eq e dev) [
      | inl is ↦ subst (λ (d : ℕ). GoesOn (old d) (new d)) (sym is) called.goes_on
      | inr other ↦ goes_on_stays (old e) (new e) (only.others e other)
    ]

-- a call that failed is the journal's next mark
pub gains_failed : (place : ℕ) (old new : Option (List Mark)) → BothTold (Refused (Failed place)) old new → Gains (marks.Failed ∷ []) old new
gains_failed place None None both = refl
gains_failed place (Some j) (Some k) both = ap (λ x. Some x) both.1
gains_failed place None (Some k) both = absurd both
gains_failed place (Some j) None both = absurd both

-- one mark, and then these
gains_and : (one : Mark) (more : List Mark) (a b c : Option (List Mark)) → Gains (one ∷ []) a b → Gains more b c → Gains (one ∷ more) a c
gains_and one more a b c first rest = rest ∙ (ap (option_map (λ j. j ++ more)) first ∙ gains_twice (one ∷ []) more a)

-- the third call failed
pub stops_third : (dev place n m k l : ℕ) (one two : Mark) (a b c d : ℕ → DeviceView) → Marked one (a dev) (b dev) → OnlyOn dev n m a b → Marked two (b dev) (c dev) → OnlyOn dev m k b c
    → BothTold (Refused (Failed place)) (c dev).journal (d dev).journal → OnlyOn dev k l c d → StopsOn dev (journals a) (journals d)
stops_third dev place n m k l one two a b c d first in_first second in_second third in_third = record {
  stops = (one ∷ two ∷ [], gains_and one (two ∷ marks.Failed ∷ []) _ _ _ first (gains_and two (marks.Failed ∷ []) _ _ _ second (gains_failed place _ _ third)));
  others = λ e other. (in_third.others e other).journal ∙ ((in_second.others e other).journal ∙ (in_first.others e other).journal);
}

-- all three were done
pub rots_on : (dev at len n m k l : ℕ) (bytes : List ℕ) (a b c d : ℕ → DeviceView) → length bytes ≡ len → Marked (marks.Read at len (sha256 bytes)) (a dev) (b dev) → OnlyOn dev n m a b
    → Marked (marks.Wrote at (length (map complement bytes)) (sha256 (map complement bytes))) (b dev) (c dev) → OnlyOn dev m k b c → Marked marks.Synced (c dev) (d dev) → OnlyOn dev k l c d
    → RotsOn dev at len (journals a) (journals d)
rots_on dev at len n m k l bytes a b c d long first in_first second in_second third in_third = record {
  rots = record { bytes = bytes; long = long; gains = gains_and _ _ _ _ _ first (gains_and _ _ _ _ _ wrote third) };
  others = λ e other. (in_third.others e other).journal ∙ ((in_second.others e other).journal ∙ (in_first.others e other).journal);
}
  where
    wrote : Marked (marks.Wrote at len (sha256 (map complement bytes))) (b dev) (c dev)
    wrote = subst (λ (x : ℕ). Marked (marks.Wrote at x (sha256 (map complement bytes))) (b dev) (c dev)) (length-map bytes complement ∙ long) second

-- a line that ends after calls, of which no event tells where it stops
pub stops_told : {T : Type 0} (r : Result T BayFault) (old new : PoolView) (before after : Journals) → AreLonger before after → WantsMemory old new r → StopsLine old new before after r
stops_told r old new before after longer wants = record { went_on = on_err_weaker r further (wants.went_on before) }
  where
    further : Halts old new before before [] → Halts old new before after []
    further halts = record { mid = halts.mid; went = halts.went; further = longer_twice halts.mid before after halts.further longer }

-- one that stops for want of memory, and was not told
pub stops_untold : {T : Type 0} (r : Result T BayFault) (old new : PoolView) (before after : Journals) → AreLonger before after → new ≡ old → OnErr r (r ≡ Err faults.Memory)
    → StopsLine old new before after r
stops_untold r old new before after longer same memory = stops_told r old new before after longer (record {
  memory = memory;
  went_on = λ js. halts r js;
})
  where
    halts : {U : Type 0} (r : Result U BayFault) (js : Journals) → OnErr r (Halts old new js js [])
    halts (Ok x) js = tt
    halts (Err e) js = halts_same old new js js same (longer_none js)
