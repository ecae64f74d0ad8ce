-- A pile that is opened and given points, up to the first that it refuses.
use Rattle.std.specs.Prelude.{◌≡◌, ℕ, List, take}
use Rattle.contest.specs.Contests.{Laws, played, Longest}
use Rattle.contest.specs.Piles.{Shape, StandingOf, Pile, contest_of, Cut}
use Rattle.contest.specs.declared.side.Side.{Side}
use Rattle.contest.specs.declared.play.Outcome.{Outcome}

-- s was opened for o and given the points ps; it took n of them, the longest front that it can take, and is now t
pub record Plays {R : Type 0} {h : Shape} (pile : R → Pile h) (standing : R → StandingOf h) (s t : R) (o : Side) (ps : List Side) (n : ℕ) : Type 0 where
  pub kept : pile t ≡ pile s
  pub longest : Longest (contest_of (pile s)) o ps n
  pub stands : standing t ≡ played (contest_of (pile s)) o (take n ps)
  pub cut : Cut (pile s) o (take n ps)
  -- the pile, with all its layers, keeps the four laws
  pub laws : Laws (contest_of (pile s))

-- what is told of the pile p, opened for o and given the points ps: how many it took, what can then be asked of it (its level at depth d), the cutting of those that it took, and that it keeps the four laws
pub record Tells {h : Shape} (p : Pile h) (o : Side) (ps : List Side) (d : ℕ) (r : Outcome) : Type 0 where
  pub longest : Longest (contest_of p) o ps r.taken
  pub winner : r.winner ≡ (contest_of p).play.winner (played (contest_of p) o (take r.taken ps))
  pub opener : r.opener ≡ (contest_of p).play.opener (played (contest_of p) o (take r.taken ps))
  pub server : r.server ≡ (contest_of p).play.server (played (contest_of p) o (take r.taken ps))
  pub level : r.level ≡ (contest_of p).play.level (played (contest_of p) o (take r.taken ps)) d
  pub cut : Cut p o (take r.taken ps)
  pub laws : Laws (contest_of p)
