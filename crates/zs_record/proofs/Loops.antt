-- Reading items one after the other, as a loop does.
use Rattle.std.proofs.Common.{◌≡◌, ℕ, suc, ◌-◌, ◌+◌, ◌≤◌, ◌<◌, List, [], ◌∷◌, ◌++◌, Result, Ok, Err, refl, sym, ap, ◌∙◌, append_assoc, arith}
use Rattle.std.proofs.lemmas.List.{append-nil}
use Rattle.zs_record.specs.declared.fault.RecordFault.{RecordFault}
use Rattle.zs_record.specs.declared.fault.RecordFault.TheVariants as faults
use Rattle.zs_record.specs.Reading.{Read, ◌>>=◌, Fails, items_of}

-- what was read before, and what is still read
abbrev pub with_front : {A : Type 0} → List A → Read (List A) → Read (List A)
with_front front read = read >>= λ x. Ok (front ++ x.0, x.1)

-- a fault that reading comes to is one that a function may answer
pub fails : {Y : Type 0} (fault : RecordFault) (read : Result Y RecordFault) → read ≡ Err fault → Fails fault read
fails faults.Memory read e = tt
fails faults.Short read e = e
fails faults.Magic read e = e
fails faults.BadVersion read e = e
fails faults.Field read e = e
fails faults.Order read e = e
fails faults.Trailing read e = e
fails faults.Graph read e = e

regroup : {A : Type 0} (front : List A) (a : A) (read : Read (List A)) → with_front front (read >>= λ x. Ok (a ∷ x.0, x.1)) ≡ with_front (front ++ a ∷ []) read
regroup {A} front a (Ok x) = ap (λ (items : List A). Ok (items, x.1)) (simp append_assoc)
regroup front a (Err fault) = refl

-- one more item is read
pub goes_on : {S A : Type 0} (read : S → List ℕ → Read A) (next : S → A → S) (front : List A) (count i : ℕ) (state : S) (bytes : List ℕ) (a : A) (after : List ℕ) (total : Read (List A))
    → i < count → read state bytes ≡ Ok (a, after)
    → with_front front (items_of read next (count - i) state bytes) ≡ total
    → with_front (front ++ a ∷ []) (items_of read next (count - (i + 1)) (next state a) after) ≡ total
unfolding items_of
goes_on read next front count i state bytes a after total lt h so_far =
    let k : count - i ≡ suc (count - (i + 1)) = omega arith in
    let one : with_front front (items_of read next (count - i) state bytes) ≡ with_front (front ++ a ∷ []) (items_of read next (count - (i + 1)) (next state a) after) =
    rw (k, h) (regroup front a (items_of read next (count - (i + 1)) (next state a) after)) in
    sym one ∙ so_far

-- an item has a fault
pub ends : {S A : Type 0} (read : S → List ℕ → Read A) (next : S → A → S) (front : List A) (count i : ℕ) (state : S) (bytes : List ℕ) (fault : RecordFault) (total : Read (List A))
    → i < count → read state bytes ≡ Err fault
    → with_front front (items_of read next (count - i) state bytes) ≡ total → Fails fault total
unfolding items_of
ends {A = A} read next front count i state bytes fault total lt h so_far =
    let k : count - i ≡ suc (count - (i + 1)) = omega arith in
    let one : with_front front (items_of read next (count - i) state bytes) ≡ Err fault = rw (k, h) refl in
    fails fault total (sym so_far ∙ one)

-- all items are read
pub is_done : {S A : Type 0} (read : S → List ℕ → Read A) (next : S → A → S) (front : List A) (count i : ℕ) (state : S) (bytes : List ℕ) (total : Read (List A))
    → count ≤ i → with_front front (items_of read next (count - i) state bytes) ≡ total → total ≡ Ok (front, bytes)
unfolding items_of
is_done {A = A} read next front count i state bytes total le so_far =
    let k : count - i ≡ 0 = omega arith in
    let one : with_front front (items_of read next (count - i) state bytes) ≡ Ok (front, bytes) = rw k (ap (λ (items : List A). Ok (items, bytes)) (append-nil front)) in
    sym so_far ∙ one

-- an item has a fault, or memory was wanting
pub ends_or_wants : {S A : Type 0} (read : S → List ℕ → Read A) (next : S → A → S) (front : List A) (count i : ℕ) (state : S) (bytes : List ℕ) (fault : RecordFault) (total : Read (List A))
    → i < count → Fails fault (read state bytes)
    → with_front front (items_of read next (count - i) state bytes) ≡ total → Fails fault total
ends_or_wants read next front count i state bytes faults.Memory total lt h so_far = tt
ends_or_wants read next front count i state bytes faults.Short total lt h so_far = ends read next front count i state bytes faults.Short total lt h so_far
ends_or_wants read next front count i state bytes faults.Magic total lt h so_far = ends read next front count i state bytes faults.Magic total lt h so_far
ends_or_wants read next front count i state bytes faults.BadVersion total lt h so_far = ends read next front count i state bytes faults.BadVersion total lt h so_far
ends_or_wants read next front count i state bytes faults.Field total lt h so_far = ends read next front count i state bytes faults.Field total lt h so_far
ends_or_wants read next front count i state bytes faults.Order total lt h so_far = ends read next front count i state bytes faults.Order total lt h so_far
ends_or_wants read next front count i state bytes faults.Trailing total lt h so_far = ends read next front count i state bytes faults.Trailing total lt h so_far
ends_or_wants read next front count i state bytes faults.Graph total lt h so_far = ends read next front count i state bytes faults.Graph total lt h so_far
