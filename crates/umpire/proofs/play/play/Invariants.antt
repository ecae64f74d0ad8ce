-- The loop of `play`: i calls are made.
use Rattle.std.proofs.Common.{◌≡◌}
use Rattle.contest.specs.Piles.{contest_of}
use Rattle.roll.specs.Rolls.{entries, spare}
use Rattle.umpire.specs.States.{state_of}
use Rattle.umpire.proofs.Turns.{Underway}
use Rattle.umpire.proofs.play.play.Given as goal

abbrev pub invariant-loop-call : goal.invariant-loop-call
invariant-loop-call g l =
    (g.C.Contest.pile l.ongoing.pile ≡ g.C.Contest.pile l.initial.ongoing.pile)
    × Underway (contest_of (g.C.Contest.pile l.initial.ongoing.pile)) (state_of g.C.Contest.standing l.initial.ongoing l.initial.log) l.call-items (spare l.initial.answers) (state_of g.C.Contest.standing l.ongoing l.log) (entries l.answers) (spare l.answers) l.call-index
    × (l.log.places.ghost_name ≡ l.initial.log.places.ghost_name)
    × (l.answers.places.ghost_name ≡ l.initial.answers.places.ghost_name)
