-- A point where nobody has won is taken.
use Rattle.std.proofs.Common.{◌≡◌, Some, None, Err, Option, Result, refl}
use Rattle.contest.specs.Contests.{unless_won, answered}
use Rattle.contest.specs.declared.fault.ContestFault.{ContestFault}
use Rattle.contest.specs.declared.side.Side.{Side}

pub taken : {S : Type 0} (w : Option Side) (s t : S) → w ≡ None → unless_won w s t ≡ t
taken w s t e = rw e refl

pub not_refused : (w : Option Side) (r : Result Unit ContestFault) (e : ContestFault) → w ≡ None → r ≡ answered w → r ≡ Err e → ⊥
not_refused None r e h k j = cc
not_refused (Some w) r e h k j = cc
