-- The words for a script's faults, and how readers that may find one follow each other.
use Rattle.std.specs.Prelude.{ℕ, List, Result, Ok, Err, codes}
use Rattle.zs_script.specs.declared.command.Why.{Why}
use Rattle.zs_script.specs.declared.command.Why.TheVariants.{Word, Number, Name, Count, Size, Order}

-- the word for what is wrong with a line
abbrev pub why_name : Why → List ℕ
why_name Word = codes "Word"
why_name Number = codes "Number"
why_name Name = codes "Name"
why_name Count = codes "Count"
why_name Size = codes "Size"
why_name Order = codes "Order"

-- the one, and with what it reads the other; the first fault decides
infixl 10 ◌>>=◌
abbrev pub ◌>>=◌ : {A B E : Type 0} → Result A E → (A → Result B E) → Result B E
(Ok x) >>= f = f x
(Err e) >>= f = Err e
