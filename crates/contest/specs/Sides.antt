-- The two sides, and what the mirror makes of them.
use Rattle.contest.specs.declared.side.Side.{Side}
use Rattle.contest.specs.declared.side.Side.TheVariants.{A, B}
use Rattle.contest.specs.declared.side.NoSide.{NoSide}
use Rattle.contest.specs.declared.level.Level.{Level}
use Rattle.std.specs.Prelude.{◌≡◌, ◌≢◌, ℕ, Some, None, Option, Result, MatchResult}

abbrev pub opposite : Side → Side
opposite A = B
opposite B = A

-- the letter of a side: `A` or `B`
abbrev pub letter : Side → ℕ
letter A = 65
letter B = 66

-- r is the side that is written x, or no side is
abbrev pub ReadsSide : {X : Type 0} → (Side → X) → X → Result Side NoSide → Type 0
ReadsSide written x r = MatchResult r (λ side. x ≡ written side) (λ _. (side : Side) → x ≢ written side)

-- a side or nobody, in the mirror
abbrev pub option_opposite : Option Side → Option Side
option_opposite (Some x) = Some (opposite x)
option_opposite None = None

-- a level in the mirror: the two counts change places, and the winner changes side
abbrev pub swapped : Level → Level
swapped l = record { a = l.b; b = l.a; winner = option_opposite l.winner }

abbrev pub option_swapped : Option Level → Option Level
option_swapped (Some l) = Some (swapped l)
option_swapped None = None
