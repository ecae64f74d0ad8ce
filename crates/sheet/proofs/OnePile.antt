-- What holds of the pile of a format holds of one pile; and what holds of that pile holds of the format's.
use Rattle.contest.specs.Piles.{Shape, Pile}
use Rattle.formats.specs.Table.{InFormat}
use Rattle.formats.specs.declared.format.Format.{Format}
use Rattle.formats.specs.declared.format.Format.TheVariants.{Game, Tennis3, Tennis5, TennisMt, Badminton, Volleyball, Table5, SideOut}

pub record OnePile (f : Format) (P : (h : Shape) → Pile h → Type 0) : Type 1 where
  pub shape : Shape
  pub pile : Pile shape
  pub holds : P shape pile
  pub back : (Q : (h : Shape) → Pile h → Type 0) → Q shape pile → InFormat f Q

pub one_pile : (f : Format) (P : (h : Shape) → Pile h → Type 0) → InFormat f P → OnePile f P
one_pile Game P k = record { shape = _; pile = _; holds = k; back = λ Q q. q }
one_pile Tennis3 P k = record { shape = _; pile = _; holds = k; back = λ Q q. q }
one_pile Tennis5 P k = record { shape = _; pile = _; holds = k; back = λ Q q. q }
one_pile TennisMt P k = record { shape = _; pile = _; holds = k; back = λ Q q. q }
one_pile Badminton P k = record { shape = _; pile = _; holds = k; back = λ Q q. q }
one_pile Volleyball P k = record { shape = _; pile = _; holds = k; back = λ Q q. q }
one_pile Table5 P k = record { shape = _; pile = _; holds = k; back = λ Q q. q }
one_pile SideOut P k = record { shape = _; pile = _; holds = k; back = λ Q q. q }
