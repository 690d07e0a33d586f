-- What was read of a source.
use Rattle.std.proofs.Common.{◌≡◌, ℕ, ◌≤◌, List, [], ◌++◌, length, take, Option, Some, None, Ok, Err, true, false, option_map, ap, refl, sym, ◌∙◌, subst, arith}
use Rattle.std.proofs.lemmas.List.{append-nil}
use Rattle.std.proofs.Math.Seq.{take-append_seam}
use Rattle.std.proofs.lemmas.Grind.{common_steps}
use Rattle.zs_io.specs.Told.{Told}
use Rattle.zs_script.specs.declared.command.Line.{Line}
use Rattle.zs_script.specs.declared.command.ScriptFault.{ScriptFault}
use Rattle.zs_script.specs.declared.command.ScriptFault.TheVariants.{Bad}
use Rattle.zs_script.specs.declared.command.Why.{Why}
use Rattle.zs_script.specs.Script.{parsed_script}
use Rattle.zs_session.specs.Puts.{fault_line, line_of_read}
use Rattle.zs_session.specs.Step.{read_of, is_fault, lines_of_read, has_fault, fault_text, lines_in}

-- what was read is the front of it all
front : (n : ℕ) (xs ys : List ℕ) → length xs ≡ n → xs ≡ take n (xs ++ ys)
front n xs ys is = sym (subst (λ (m : ℕ). take m (xs ++ ys) ≡ xs) is (take-append_seam xs ys))

-- and all of it, where it is no longer
all_of : (n : ℕ) (xs : List ℕ) → length xs ≤ n → xs ≡ take n xs
all_of n xs le = grind (arith, common_steps)

-- the source is at its end
pub all_read : (start mid : Option (List ℕ)) (items : List ℕ) → start ≡ option_map (λ rest. items ++ rest) mid → Told mid (λ rest. rest ≡ []) → length items ≤ 16777217 → Told start (λ script. items ≡ read_of script)
all_read start None items was end most script is = cc
all_read start (Some rest) items was end most script is =
    let nothing : rest ≡ [] = end rest refl in
    let whole : script ≡ items ++ rest = cc in
    let same : script ≡ items = whole ∙ (ap (λ x. items ++ x) nothing ∙ append-nil items) in
    subst (λ (s : List ℕ). items ≡ take 16777217 s) (sym same) (all_of 16777217 items most)

-- as much was read as is read of a script
pub enough_read : (start mid : Option (List ℕ)) (items : List ℕ) → start ≡ option_map (λ rest. items ++ rest) mid → length items ≡ 16777217 → Told start (λ script. items ≡ read_of script)
enough_read start None items was full script is = cc
enough_read start (Some rest) items was full script is =
    let whole : script ≡ items ++ rest = cc in
    subst (λ (s : List ℕ). items ≡ take 16777217 s) (sym whole) (front 16777217 items rest full)

-- the script has a fault
pub faulty : (items script : List ℕ) (fault : ScriptFault) → items ≡ read_of script → parsed_script items ≡ Err fault → has_fault script ≡ true
unfolding has_fault
faulty items script fault was is = ap is_fault (ap parsed_script (sym was) ∙ is)

-- the script has none
pub sound : (items script : List ℕ) (lines : List Line) → items ≡ read_of script → parsed_script items ≡ Ok lines → has_fault script ≡ false
unfolding has_fault
sound items script lines was is = ap is_fault (ap parsed_script (sym was) ∙ is)

-- its lines are those that were read
pub lines_are : (items script : List ℕ) (lines : List Line) → items ≡ read_of script → parsed_script items ≡ Ok lines → lines_in script ≡ lines
unfolding lines_in
lines_are items script lines was is = ap lines_of_read (ap parsed_script (sym was) ∙ is)

-- what was fetched of a bay is the front of what it told
pub fetched : {D : Type 0} (n : ℕ) (start mid : Option (List D)) (items told : List D) → start ≡ option_map (λ rest. items ++ rest) mid → length items ≡ n → start ≡ Some told → items ≡ take n told
fetched n start None items told was long is = cc
fetched n start (Some rest) items told was long is =
    let whole : told ≡ items ++ rest = cc in
    rw whole (sym (subst (λ (m : ℕ). take m (items ++ rest) ≡ items) long (take-append_seam items rest)))

-- the line that tells its first fault
pub fault_is : (items script : List ℕ) (number : ℕ) (why : Why) → items ≡ read_of script → parsed_script items ≡ Err (Bad number why) → fault_line number why ≡ fault_text script
unfolding fault_text
fault_is items script number why was is = sym (ap line_of_read (ap parsed_script (sym was) ∙ is))
