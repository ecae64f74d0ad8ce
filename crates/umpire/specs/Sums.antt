-- How an open rally enters a sum.
use Rattle.std.specs.Prelude.{ℕ, Some, None, Option}

-- 1 while a rally is open, by the number of the open rally
abbrev pub while_open : Option ℕ → ℕ
while_open (Some n) = 1
while_open None = 0
