-- Reading from the front: what is read, and the bytes behind it, or the first fault.
use Rattle.std.specs.Prelude.{◌≡◌, ℕ, zero, suc, List, [], ◌∷◌, Result, Ok, Err}
use Rattle.zs_record.specs.declared.fault.RecordFault.{RecordFault}
use Rattle.zs_record.specs.declared.fault.RecordFault.TheVariants as faults

-- what a reader answers: a value and the bytes behind it, or a fault
abbrev pub Read : Type 0 → Type 0
Read A = Result (A × List ℕ) RecordFault

-- the one, and then the other with what the one read; the first fault decides
infixl 10 ◌>>=◌
abbrev pub ◌>>=◌ : {A B : Type 0} → Result A RecordFault → (A → Result B RecordFault) → Result B RecordFault
(Ok x) >>= f = f x
(Err fault) >>= f = Err fault

-- a function answers, seen by `view`, just what reading gives
abbrev pub Gives : {X Y : Type 0} → (X → Y) → Result X RecordFault → Result Y RecordFault → Type 0
Gives view (Ok x) read = read ≡ Ok (view x)
Gives view (Err fault) read = read ≡ Err fault

-- the fault is the one that reading comes to, or memory was wanting
abbrev pub Fails : {Y : Type 0} → RecordFault → Result Y RecordFault → Type 0
Fails faults.Memory read = Unit {0}
Fails fault read = read ≡ Err fault

-- a function answers, seen by `view`, what reading gives, or that memory was wanting
abbrev pub GivesOrWants : {X Y : Type 0} → (X → Y) → Result X RecordFault → Result Y RecordFault → Type 0
GivesOrWants view (Ok x) read = read ≡ Ok (view x)
GivesOrWants view (Err fault) read = Fails fault read

-- one after the other `n` items, where what came before them (`state`) may say which may follow
unfoldable pub items_of : {S A : Type 0} → (S → List ℕ → Read A) → (S → A → S) → ℕ → S → List ℕ → Read (List A)
items_of read next zero state bytes = Ok ([], bytes)
items_of read next (suc n) state bytes = do
  first ← read state bytes
  others ← items_of read next n (next state first.0) first.1
  Ok (first.0 ∷ others.0, others.1)
