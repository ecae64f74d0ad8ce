-- Which pile a race or a switch of the code is and where it stands, and what its own functions do to it.
use Rattle.std.specs.Prelude.{◌≡◌, ◌⊎◌, Some, None, Ok, Err, Option, Result}
use Rattle.contest.specs.Contests.{answered, unless_won}
use Rattle.contest.specs.Service.{Rule}
use Rattle.contest.specs.Layers.{Layer, Standing, stands, ready, recounted}
use Rattle.contest.specs.Switches.{chosen}
use Rattle.contest.specs.Piles.{Shape, StandingOf, Pile, raced, switched, race_of, switch_of, contest_of}
use Rattle.contest.specs.declared.race.Race.{Race}
use Rattle.contest.specs.declared.switch.Switch.{Switch}
use Rattle.contest.specs.declared.side.Side.{Side}
use Rattle.contest.specs.declared.side.Side.TheVariants.{A}
use Rattle.contest.specs.declared.fault.ContestFault.{ContestFault}
use Rattle.contest.specs.declared.fault.RuleFault.{RuleFault}

-- a race, given the pile of the contest below and the meaning of its service rule
abbrev pub race_pile : {C P : Type 0} {h : Shape} → (C → Pile h) → (P → Rule) → Race C P → Pile (race_of h)
race_pile pc rp s = raced s.tally.goal (rp s.service) (pc s.below)

abbrev pub race_standing : {C P S : Type 0} → (C → S) → Race C P → Standing S
race_standing sc s = stands s.opener s.tally.counts (sc s.below)

-- a switch, given the same of both contests below
abbrev pub switch_pile : {C D P : Type 0} {h k : Shape} → (C → Pile h) → (D → Pile k) → (P → Rule) → Switch C D P → Pile (switch_of h k)
switch_pile pc pd rp s = switched s.tally.goal (rp s.service) s.threshold (pc s.ordinary) (pd s.deciding)

-- the contest below is the one that was opened last
abbrev pub switch_standing : {C D P S T : Type 0} → (C → S) → (D → T) → Switch C D P → Standing (S ⊎ T)
switch_standing sc sd s = stands s.opener s.tally.counts (chosen s.decides (sc s.ordinary) (sd s.deciding))

-- s is the pile p, opened for A
pub record Opened {R : Type 0} {h : Shape} (pile : R → Pile h) (standing : R → StandingOf h) (p : Pile h) (s : R) : Type 0 where
  pub rules : pile s ≡ p
  pub opened : standing s ≡ (contest_of p).opening A

-- a new layer: either nothing is wrong with its numbers, and it is the pile p, opened for A; or the fault that they have is answered
abbrev pub New : {R : Type 0} {h : Shape} → (R → Pile h) → (R → StandingOf h) → Option RuleFault → Pile h → Result R RuleFault → Type 0
New pile standing fault p (Ok s) = (fault ≡ None) × Opened pile standing p s
New pile standing fault p (Err e) = fault ≡ Some e

-- the steps of a layer's point lead from s to t. They keep the pile, whose top is the layer
module _ {R S : Type 0} {h : Shape} (pile : R → Pile h) (top : Pile h → Layer S) (standing : R → Standing S) (s t : R) where
  -- where the contest below has a winner, it is opened anew; so now it has none
  pub record Reopened : Type 0 where
    pub kept : pile t ≡ pile s
    pub stood : standing t ≡ stands (standing s).opener (standing s).counts (ready (top (pile s)) (standing s) ((top (pile s)).below.winner (standing s).below))
    pub undecided : (top (pile t)).below.winner (standing t).below ≡ None

  -- the contest below that the counts choose is opened for x
  pub record OpenedBelow (x : Side) : Type 0 where
    pub kept : pile t ≡ pile s
    pub stood : standing t ≡ stands (standing s).opener (standing s).counts ((top (pile s)).opens (standing s).counts x)

  -- the contest below is given a point of x and answers r
  pub record PassedDown (x : Side) (r : Result Unit ContestFault) : Type 0 where
    pub kept : pile t ≡ pile s
    pub stood : standing t ≡ stands (standing s).opener (standing s).counts (unless_won ((top (pile s)).below.winner (standing s).below) (standing s).below ((top (pile s)).below.after (standing s).below x))
    pub answer : r ≡ answered ((top (pile s)).below.winner (standing s).below)

  -- the winner of the contest below, if it has one, is counted
  pub record Counted : Type 0 where
    pub kept : pile t ≡ pile s
    pub stood : standing t ≡ stands (standing s).opener (recounted (standing s).counts ((top (pile s)).below.winner (standing s).below)) (standing s).below
