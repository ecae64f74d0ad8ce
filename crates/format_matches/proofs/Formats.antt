-- A match over a pile is one in the format that the pile is.
use mathlib.Core.Path.{◌≡◌, subst}
use mathlib.Core.List.{List}
use Prim.Native.Nat.{ℕ}
use Rattle.contest.specs.Piles.{Shape, StandingOf, Pile}
use Rattle.contest.specs.declared.side.Side.{Side}
use Rattle.rally_log.specs.declared.entry.Entry.{Entry}
use Rattle.roll.specs.declared.Roll.{Roll}
use Rattle.umpire.specs.Matches.{WholeMatch}
use Rattle.umpire.specs.declared.calls.Call.{Call}
use Rattle.umpire.specs.declared.calls.Answer.{Answer}
use Rattle.umpire.specs.declared.calls.Played.{Played}

module _ {C : Type 0} {h : Shape} {pile : C → Pile h} {standing : C → StandingOf h} {number : ℕ} {o : Side} {calls : List Call} {log log' : Roll Entry} {answers answers' : Roll Answer} {r : Played C} where
  pub in_format : {p q : Pile h} → p ≡ q → WholeMatch pile standing p number o calls log log' answers answers' r → WholeMatch pile standing q number o calls log log' answers answers' r
  in_format e m = subst (λ z. WholeMatch pile standing z number o calls log log' answers answers' r) e m
