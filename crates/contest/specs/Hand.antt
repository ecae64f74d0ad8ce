-- The hand, for side-out scoring: a point for the server wins it, and a point for the other side makes that side the server. Its opener serves first. It has no level.
use Rattle.std.specs.Prelude.{Bool, true, false, cond, Some, None, Option}
use Rattle.contest.specs.Sides.{opposite, option_opposite}
use Rattle.contest.specs.Contests.{Contest}
use Rattle.contest.specs.declared.hand.Hand.{Hand}
use Rattle.contest.specs.declared.side.Side.{Side}
use Rattle.contest.specs.declared.side.Side.TheVariants.{A, B}

pub record Standing : Type 0 where
  pub opener : Side
  pub server : Side
  pub winner : Option Side

abbrev pub stands : Side → Side → Option Side → Standing
stands o s w = record { opener = o; server = s; winner = w }

-- where a hand of the code stands
abbrev pub standing_of : Hand → Standing
standing_of s = stands s.opener s.server s.winner

abbrev pub same_side : Side → Side → Bool
same_side A A = true
same_side A B = false
same_side B A = false
same_side B B = true

-- a hand opened by o and served by s, after a point of x
abbrev pub after_point : Side → Side → Side → Standing
after_point o s x = cond (same_side x s) (stands o s (Some x)) (stands o x None)

abbrev pub hand : Contest Standing
hand = record {
  opening = λ x. stands x x None;
  play = record {
    after = λ s x. after_point s.opener s.server x;
    winner = λ s. s.winner;
    opener = λ s. s.opener;
    server = λ s. s.server;
    level = λ s d. None;
    mirror = λ s. stands (opposite s.opener) (opposite s.server) (option_opposite s.winner);
  };
}
