-- Calls on the devices of a set, one after another.
use Rattle.std.proofs.Common.{◌≡◌, ℕ, ◌≤◌, [], ◌++◌, option_map, refl, ◌∙◌, ap, arith}
use Rattle.std.specs.Prelude.{Result, Ok, Err, OnErr, IsErrOf}
use Rattle.zs_io.specs.Faults.{Rose}
use Rattle.zs_io.specs.declared.fault.BayFault.{BayFault}
use Rattle.zs_io.specs.declared.fault.BayFault.TheVariants.{Memory}
use Rattle.zs_lane.specs.Children.{DeviceView}
use Rattle.zs_lane.proofs.GoingOn.{gains_none, gains_twice, goes_on_none, goes_on_twice}
use Rattle.zs_mirror.specs.Mirror.{Leaves}
use Rattle.zs_session.specs.Devices.{Journals, journals, AreLonger, SetGoesOn, SomeRose, Calls}

-- journals that are as they were, and that went on twice
pub longer_none : (js : Journals) → AreLonger js js
longer_none js dev = ([], gains_none (js dev))

pub longer_twice : (a b c : Journals) → AreLonger a b → AreLonger b c → AreLonger a c
longer_twice a b c one two dev =
    ((one dev).0 ++ (two dev).0, (two dev).1 ∙ (ap (option_map (λ j. j ++ (two dev).0)) (one dev).1 ∙ gains_twice (one dev).0 (two dev).0 (a dev)))

-- the journals of a set that went on
pub longer_of : (n m : ℕ) (old new : ℕ → DeviceView) → SetGoesOn n m old new → AreLonger (journals old) (journals new)
longer_of n m old new set dev = ((set.each dev).more, (set.each dev).journal)

-- no call
pub set_none : (n : ℕ) (devices : ℕ → DeviceView) → SetGoesOn n n devices devices
set_none n devices = record { count = refl; sizes = λ dev. refl; each = λ dev. goes_on_none (devices dev) }

-- calls, and then others
pub set_twice : (n m l : ℕ) (old mid new : ℕ → DeviceView) → SetGoesOn n m old mid → SetGoesOn m l mid new → SetGoesOn n l old new
set_twice n m l old mid new one two = record {
  count = two.count ∙ one.count;
  sizes = λ dev. two.sizes dev ∙ one.sizes dev;
  each = λ dev. goes_on_twice (old dev) (mid dev) (new dev) (one.each dev) (two.each dev);
}

-- calls on the copies of a block
pub set_left : (first copies n m : ℕ) (old new : ℕ → DeviceView) → Leaves first copies n m old new → SetGoesOn n m old new
set_left first copies n m old new leaves = record { count = leaves.count; sizes = leaves.sizes; each = leaves.goes_on }

-- calls that were done, and such that wanted memory
pub calls_ok : {T : Type 0} (x : T) (n m : ℕ) (old new : ℕ → DeviceView) → SetGoesOn n m old new → Calls n m old new (Ok x)
calls_ok x n m old new set = record { set = set; failed = λ h. cc }

pub calls_memory : {T : Type 0} (r : Result T BayFault) (n m : ℕ) (old new : ℕ → DeviceView) → r ≡ Err Memory → SetGoesOn n m old new → Calls n m old new r
calls_memory r n m old new is set = record { set = set; failed = λ h. cc }

pub calls_none : {T : Type 0} (r : Result T BayFault) (n : ℕ) (devices : ℕ → DeviceView) → OnErr r (r ≡ Err Memory) → Calls n n devices devices r
calls_none (Ok x) n devices memory = calls_ok x n n devices devices (set_none n devices)
calls_none (Err e) n devices memory = calls_memory (Err e) n n devices devices memory (set_none n devices)

-- a count that rose later rose
rose_after : (a b c : ℕ) → a ≤ b → Rose b c → Rose a c
rose_after a b c later rose = omega (arith, later, rose)

pub some_rose : (n m : ℕ) (old mid new : ℕ → DeviceView) → SetGoesOn n m old mid → SomeRose mid new → SomeRose old new
some_rose n m old mid new set rose = (rose.0, rose_after _ _ _ (set.each rose.0).later rose.1)

-- a fault that is handed on is the same
handed_on : {T U : Type 0} {f : BayFault} (r : Result U BayFault) (e : BayFault) → r ≡ Err e → IsErrOf r f → IsErrOf {T = T} (Err e) f
handed_on r e is h = cc

-- calls, and then others by which it ends
pub calls_after : {T : Type 0} (r : Result T BayFault) (n m l : ℕ) (old mid new : ℕ → DeviceView) → SetGoesOn n m old mid → Calls m l mid new r → Calls n l old new r
calls_after r n m l old mid new one two = record { set = set_twice n m l old mid new one two.set; failed = λ h. some_rose n m old mid new one (two.failed h) }

-- the same where the fault is handed on
pub calls_stop : {T U : Type 0} (r : Result U BayFault) (e : BayFault) (n m l : ℕ) (old mid new : ℕ → DeviceView) → r ≡ Err e → SetGoesOn n m old mid → Calls {T = T} m l mid new (Err e) → Calls n l old new r
calls_stop r e n m l old mid new is one two = record {
  set = set_twice n m l old mid new one two.set;
  failed = λ h. some_rose n m old mid new one (two.failed (handed_on r e is h));
}
