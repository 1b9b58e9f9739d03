-- What a memory has on loan.
use Rattle.std.specs.Prelude.{ℕ, List}

-- A table that is lent to a memory: the name of the reference to it, and its words that are no part of the memory.
pub record Loan : Type 0 where
  pub table : ℕ
  pub spared : List ℕ

abbrev pub loan : ℕ → List ℕ → Loan
loan table spared = record { table = table; spared = spared }
