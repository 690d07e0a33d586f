-- The names that a bay was asked for.
use Rattle.std.specs.Prelude.{◌≡◌, ℕ, List, [], ◌∷◌, ◌++◌, Option, option_map, Result, OnOk, IsErrOf}
use Rattle.zs_io.specs.declared.fault.BayFault.{BayFault}
use Rattle.zs_io.specs.declared.fault.BayFault.TheVariants.{Failed, Memory}

-- the names with this one behind them, where they are told
abbrev pub with_name : List ℕ → Option (List (List ℕ)) → Option (List (List ℕ))
with_name name asked = option_map (λ names. names ++ name ∷ []) asked

-- A fetch has asked for this name, whether it gave a device or failed; where memory was wanting it has asked for none.
pub record HasAsked {T : Type 0} (name : List ℕ) (old new : Option (List (List ℕ))) (result : Result T BayFault) : Type 0 where
  pub ok : OnOk result (new ≡ with_name name old)
  pub failed : IsErrOf result Failed → new ≡ with_name name old
  pub memory : IsErrOf result Memory → new ≡ old
