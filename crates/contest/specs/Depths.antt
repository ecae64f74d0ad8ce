-- How far down a contest has levels, and how far down it has levels with a winner. Both are counted up to 65,535, which also stands for unknown.
use Rattle.std.specs.Prelude.{◌≡◌, ℕ, zero, suc, ◌+◌, ◌<◌, ◌≤◌, min, true, is_some, Some, None, Option}
use Rattle.contest.specs.Contests.{Play}
use Rattle.contest.specs.declared.level.Level.{Level}
use Rattle.contest.specs.declared.side.Side.{Side}

-- the winner in a level, if there is a level and it has one
abbrev pub winner_in : Option Level → Option Side
winner_in None = None
winner_in (Some l) = l.winner

module _ {S : Type 0} (p : Play S) (s : S) where
  -- the levels stand at depths below n: there is none at depth n or deeper
  pub record LevelsWithin (n : ℕ) : Type 0 where
    pub no_more : (d : ℕ) → n ≤ d → d < 65535 → p.level s d ≡ None

  -- the level just above depth n has a winner, if n is not 0, and no level from depth n on has one
  pub record Closed (n : ℕ) : Type 0 where
    pub deepest : (d : ℕ) → n ≡ suc d → n < 65535 → is_some (winner_in (p.level s d)) ≡ true
    pub no_deeper : (d : ℕ) → n ≤ d → d < 65535 → winner_in (p.level s d) ≡ None

-- the same numbers of a layer, from those of the contest below: one more; and where nothing below has a winner, one or none by the layer's own winner
abbrev pub one_more : ℕ → ℕ
one_more n = min (n + 1) 65535

abbrev pub closed_above : ℕ → Option Side → ℕ
closed_above zero None = 0
closed_above zero (Some w) = 1
closed_above (suc n) w = one_more (suc n)
