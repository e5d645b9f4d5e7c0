-- The five calls on a draft, as a history sees them.
use Rattle.std.specs.Prelude.{ℕ, Bool, List}

-- a call with its delivery, its line, its number
pub data Act : Type 0 where
  imports : List ℕ → Act
  adds : List ℕ → Act
  replaces : ℕ → List ℕ → Act
  strikes : ℕ → Act
  undoes : Act

-- a call that was made, and whether it was accepted: history and account see nothing else
pub record Event : Type 0 where
  pub act : Act
  pub accepted : Bool
