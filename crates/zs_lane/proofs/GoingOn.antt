-- Calls on a device one after another: its journal goes on by the marks of all.
use Rattle.std.proofs.Common.{◌≡◌, ◌⊎◌, ◌≤◌, ℕ, inl, inr, List, [], ◌∷◌, ◌++◌, append_assoc, append-nil, Option, None, Some, option_map, refl, sym, ◌∙◌, ap, subst, arith}
use Rattle.zs_ids.specs.Graph.{Has}
use Rattle.zs_io.specs.Faults.{Rose}
use Rattle.zs_lane.specs.declared.mark.Mark.{Mark}
use Rattle.zs_lane.specs.declared.mark.Mark.TheVariants.{Failed}
use Rattle.zs_lane.specs.Children.{DeviceView, Stays, GoesOn}
use Rattle.zs_lane.specs.Journal.{Keeps}

-- no marks more
pub gains_none : (old : Option (List Mark)) → old ≡ option_map (λ j. j ++ []) old
gains_none None = refl
gains_none (Some j) = ap (λ x. Some x) (sym (append-nil j))

-- these marks more, and then those
pub gains_twice : (a b : List Mark) (old : Option (List Mark)) → option_map (λ j. j ++ b) (option_map (λ j. j ++ a) old) ≡ option_map (λ j. j ++ (a ++ b)) old
gains_twice a b None = refl
gains_twice a b (Some j) = ap (λ x. Some x) (append_assoc j a b)

-- what is in one of two lists is in both together
pub in_first : {A : Type 0} (a b : List A) (x : A) → Has a x → Has (a ++ b) x
in_first [] b x h = absurd h
in_first (y ∷ ys) b x (inl is) = inl is
in_first (y ∷ ys) b x (inr h) = inr (in_first ys b x h)

pub in_second : {A : Type 0} (a b : List A) (x : A) → Has b x → Has (a ++ b) x
in_second [] b x h = h
in_second (y ∷ ys) b x h = inr (in_second ys b x h)

pub in_either : {A : Type 0} (a b : List A) (x : A) → Has (a ++ b) x → Has a x ⊎ Has b x
in_either [] b x h = inr h
in_either (y ∷ ys) b x (inl is) = inl (inl is)
in_either (y ∷ ys) b x (inr h) = elim (in_either ys b x h) [ inl one ↦ inl (inr one) | inr two ↦ inr two ]

-- a count that rose has risen, whatever came before or after
rose_on : (a b c : ℕ) → Rose a b → b ≤ c → Rose a c
rose_on a b c rose later = omega (arith, rose, later)

rose_after : (a b c : ℕ) → a ≤ b → Rose b c → Rose a c
rose_after a b c later rose = omega (arith, later, rose)

pub goes_on_stays : (a b : DeviceView) → Stays a b → GoesOn a b
goes_on_stays a b same = record {
  more = [];
  journal = same.journal ∙ gains_none a.journal;
  lawful = λ o keeps j is. subst (λ (t : Option (List ℕ)). Keeps o j t) (sym same.told) (keeps j (sym same.journal ∙ is));
  later = omega (arith, same.faults);
  counted = inl same.faults;
  rose = λ none. absurd none;
}

pub goes_on_none : (a : DeviceView) → GoesOn a a
goes_on_none a = record { more = []; journal = gains_none a.journal; lawful = λ o keeps. keeps; later = omega arith; counted = inl refl; rose = λ none. absurd none }

pub goes_on_twice : (a b c : DeviceView) → GoesOn a b → GoesOn b c → GoesOn a c
goes_on_twice a b c first then = record {
  more = first.more ++ then.more;
  journal = then.journal ∙ (ap (option_map (λ j. j ++ then.more)) first.journal ∙ gains_twice first.more then.more a.journal);
  lawful = λ o keeps. then.lawful o (first.lawful o keeps);
  later = omega (arith, first.later, then.later);
  counted = counted first.counted then.counted;
  rose = λ h. elim (in_either first.more then.more Failed h) [
    | inl one ↦ rose_on a.faults b.faults c.faults (first.rose one) then.later
    | inr two ↦ rose_after a.faults b.faults c.faults first.later (then.rose two)
  ];
}
  where
    counted : (b.faults ≡ a.faults) ⊎ Has first.more Failed → (c.faults ≡ b.faults) ⊎ Has then.more Failed → (c.faults ≡ a.faults) ⊎ Has (first.more ++ then.more) Failed
    counted (inl one) (inl two) = inl (two ∙ one)
    counted (inl one) (inr two) = inr (in_second first.more then.more Failed two)
    counted (inr one) two = inr (in_first first.more then.more Failed one)
