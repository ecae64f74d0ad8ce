-- A pile: layers over bottom contests, as data. What it means and what it owes follow by recursion.
use Rattle.std.specs.Prelude.{◌≡◌, ℕ, cond, ◌⊎◌, List, None}
use Rattle.contest.specs.Contests.{Contest, Laws}
use Rattle.contest.specs.Service.{Rule, Fair}
use Rattle.contest.specs.Faults.{goal_fault, switch_fault}
use Rattle.contest.specs.Layers.{Layer, Standing, layer}
use Rattle.contest.specs.Races.{over}
use Rattle.contest.specs.Switches.{between, decisive}
use Rattle.contest.specs.Cuttings.{Parted}
use Rattle.contest.specs.declared.goal.Goal.{Goal}
use Rattle.contest.specs.declared.side.Side.{Side}

-- what stands on what, down to bottom contests, each with a type of standings
pub data Shape : Type 1 where
  bottom_of : Type 0 → Shape
  race_of : Shape → Shape
  switch_of : Shape → Shape → Shape

-- where a pile of a shape stands
abbrev pub StandingOf : Shape → Type 0
StandingOf (bottom_of S) = S
StandingOf (race_of h) = Standing (StandingOf h)
StandingOf (switch_of h k) = Standing (StandingOf h ⊎ StandingOf k)

-- the rules of a race, over a contest with the rules P
pub record RaceRules (P : Type 0) : Type 0 where
  pub goal : Goal
  pub service : Rule
  pub below : P

-- the rules of a switch, over contests with the rules P and Q
pub record SwitchRules (P Q : Type 0) : Type 0 where
  pub goal : Goal
  pub service : Rule
  pub threshold : ℕ
  pub ordinary : P
  pub deciding : Q

abbrev pub RulesOf : Shape → Type 0
RulesOf (bottom_of S) = Contest S
RulesOf (race_of h) = RaceRules (RulesOf h)
RulesOf (switch_of h k) = SwitchRules (RulesOf h) (RulesOf k)

-- a pile of a shape, by its rules
pub record Pile (h : Shape) : Type 0 where
  pub rules : RulesOf h

-- the three ways to make one: a bottom contest, a race over a pile, a switch between two
abbrev pub bottom : {S : Type 0} → Contest S → Pile (bottom_of S)
bottom c = record { rules = c }

abbrev pub raced : {h : Shape} → Goal → Rule → Pile h → Pile (race_of h)
raced g r p = record { rules = record { goal = g; service = r; below = p.rules } }

abbrev pub switched : {h k : Shape} → Goal → Rule → ℕ → Pile h → Pile k → Pile (switch_of h k)
switched g r k p q = record { rules = record { goal = g; service = r; threshold = k; ordinary = p.rules; deciding = q.rules } }

-- the piles below a layer
abbrev pub below : {h : Shape} → Pile (race_of h) → Pile h
below p = record { rules = p.rules.below }

abbrev pub ordinary : {h k : Shape} → Pile (switch_of h k) → Pile h
ordinary p = record { rules = p.rules.ordinary }

abbrev pub deciding : {h k : Shape} → Pile (switch_of h k) → Pile k
deciding p = record { rules = p.rules.deciding }

-- the contest that a pile means
abbrev pub contest_of : {h : Shape} → Pile h → Contest (StandingOf h)
contest_of {h = bottom_of S} p = p.rules
contest_of {h = race_of h} p = layer (over p.rules.goal p.rules.service (contest_of (below p)))
contest_of {h = switch_of h k} p = layer (between p.rules.goal p.rules.service p.rules.threshold (contest_of (ordinary p)) (contest_of (deciding p)))

-- the layer at the top of a pile
abbrev pub race_layer : {h : Shape} → Pile (race_of h) → Layer (StandingOf h)
race_layer p = over p.rules.goal p.rules.service (contest_of (below p))

abbrev pub switch_layer : {h k : Shape} → Pile (switch_of h k) → Layer (StandingOf h ⊎ StandingOf k)
switch_layer p = between p.rules.goal p.rules.service p.rules.threshold (contest_of (ordinary p)) (contest_of (deciding p))

-- the cutting of a pile opened for x: its layer parts the points ps as the rules say, and so does every layer below it with the points of its pieces and its rest
abbrev pub Cut : {h : Shape} → Pile h → Side → List Side → Type 0
Cut {h = bottom_of S} p x ps = Unit {0}
Cut {h = race_of h} p x ps = Parted (race_layer p) (λ b qs. Cut (below p) b.opener qs) x ps
Cut {h = switch_of h k} p x ps =
    Parted (switch_layer p)
    (λ b qs. cond (decisive p.rules.threshold b.counts) (Cut (deciding p) b.opener qs) (Cut (ordinary p) b.opener qs)) x ps

-- what a pile owes: its bottom contests keep the four laws, its numbers are allowed, and its service rules are fair
abbrev pub Sound : {h : Shape} → Pile h → Type 0
Sound {h = bottom_of S} p = Laws p.rules
Sound {h = race_of h} p = (goal_fault p.rules.goal ≡ None) × Fair p.rules.service × Sound (below p)
Sound {h = switch_of h k} p = (switch_fault p.rules.goal p.rules.threshold ≡ None) × Fair p.rules.service × Sound (ordinary p) × Sound (deciding p)
