-- The room that a number leaves, by the power of ten at or below it.
use Rattle.std.proofs.Common.{◌≡◌, ℕ, zero, suc, ◌*◌, ◌-◌, ◌^◌, ◌<◌, ◌≤◌, max, arith}
use Rattle.std.proofs.lemmas.Bool.Decides.{nat_tests}
use Rattle.chair.specs.Boards.{name_room}

pub room_of_power : (n k : ℕ) → 10 ^ k ≤ max n 1 → max n 1 < 10 * 10 ^ k → k < 5 → 14 - k ≡ name_room n
room_of_power n zero low high few = grind (arith, nat_tests)
room_of_power n (suc zero) low high few = grind (arith, nat_tests)
room_of_power n (suc (suc zero)) low high few = grind (arith, nat_tests)
room_of_power n (suc (suc (suc zero))) low high few = grind (arith, nat_tests)
room_of_power n (suc (suc (suc (suc zero)))) low high few = grind (arith, nat_tests)
room_of_power n (suc (suc (suc (suc (suc k))))) low high few = absurd (omega arith)
