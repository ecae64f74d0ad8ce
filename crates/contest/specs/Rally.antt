-- The rally: the first point wins it. Its opener serves. It has no level.
use Rattle.contest.specs.Sides.{opposite, option_opposite}
use Rattle.contest.specs.Contests.{Contest}
use Rattle.contest.specs.declared.rally.Rally.{Rally}
use Rattle.contest.specs.declared.side.Side.{Side}
use Rattle.std.specs.Prelude.{Some, None, Option}

pub record Standing : Type 0 where
  pub opener : Side
  pub winner : Option Side

abbrev pub stands : Side → Option Side → Standing
stands o w = record { opener = o; winner = w }

-- where a rally of the code stands
abbrev pub standing_of : Rally → Standing
standing_of s = stands s.opener s.winner

abbrev pub rally : Contest Standing
rally = record {
  opening = λ x. stands x None;
  play = record {
    after = λ s x. stands s.opener (Some x);
    winner = λ s. s.winner;
    opener = λ s. s.opener;
    server = λ s. s.opener;
    level = λ s d. None;
    mirror = λ s. stands (opposite s.opener) (option_opposite s.winner);
  };
}
