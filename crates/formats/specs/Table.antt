-- The piles of the eight formats. `R n m c rule` is a race to n by m, capped at c; `S n m c k rule` is a switch, which decides from k on; both stand over the piles that follow. No cap is written as 9,999.
use Rattle.std.specs.Prelude.{ℕ}
use Rattle.contest.specs.Service.{Rule, stay, turn, to_winner, carry, pairs, twos}
use Rattle.contest.specs.Goals.{goal}
use Rattle.contest.specs.Rally.{Standing as RallyStanding, rally as rally_contest}
use Rattle.contest.specs.Hand.{Standing as HandStanding, hand as hand_contest}
use Rattle.formats.specs.declared.format.Format.{Format}
use Rattle.formats.specs.declared.format.Format.TheVariants.{Game, Tennis3, Tennis5, TennisMt, Badminton, Volleyball, Table5, SideOut}
use Rattle.contest.specs.Piles.{Shape, bottom_of, race_of, switch_of, Pile, bottom, raced, switched}

-- the contests at the bottom
abbrev pub rally : Pile (bottom_of RallyStanding)
rally = bottom rally_contest

abbrev pub hand : Pile (bottom_of HandStanding)
hand = bottom hand_contest

abbrev pub R : {h : Shape} → ℕ → ℕ → ℕ → Rule → Pile h → Pile (race_of h)
R n m c r p = raced (goal n m c) r p

abbrev pub S : {h k : Shape} → ℕ → ℕ → ℕ → ℕ → Rule → Pile h → Pile k → Pile (switch_of h k)
S n m c k r p q = switched (goal n m c) r k p q

-- the shapes: a race over rallies or hands, and a switch between two races over rallies
abbrev pub Rallies : Shape
Rallies = race_of (bottom_of RallyStanding)

abbrev pub Hands : Shape
Hands = race_of (bottom_of HandStanding)

abbrev pub Sets : Shape
Sets = switch_of Rallies Rallies

-- a game and a set of tennis
abbrev pub game : Pile Rallies
game = R 4 2 9999 stay rally

abbrev pub set : Pile Sets
set = S 6 2 7 6 turn game (R 7 2 9999 pairs rally)

-- the matches
abbrev pub tennis3 : Pile (race_of Sets)
tennis3 = R 2 1 2 carry set

abbrev pub tennis5 : Pile (race_of Sets)
tennis5 = R 3 1 3 carry set

abbrev pub tennismt : Pile (switch_of Sets Rallies)
tennismt = S 2 1 2 1 carry set (R 10 2 9999 pairs rally)

abbrev pub badminton : Pile (race_of Rallies)
badminton = R 2 1 2 to_winner (R 21 2 30 to_winner rally)

abbrev pub volleyball : Pile Sets
volleyball = S 3 1 3 2 turn (R 25 2 9999 to_winner rally) (R 15 2 9999 to_winner rally)

abbrev pub table5 : Pile (race_of Rallies)
table5 = R 3 1 3 turn (R 11 2 9999 twos rally)

abbrev pub sideout : Pile (race_of Hands)
sideout = R 2 1 2 to_winner (R 15 1 15 to_winner hand)

-- P of the pile of a format
abbrev pub InFormat : Format → ((h : Shape) → Pile h → Type 0) → Type 0
InFormat Game P = P _ game
InFormat Tennis3 P = P _ tennis3
InFormat Tennis5 P = P _ tennis5
InFormat TennisMt P = P _ tennismt
InFormat Badminton P = P _ badminton
InFormat Volleyball P = P _ volleyball
InFormat Table5 P = P _ table5
InFormat SideOut P = P _ sideout
