use Rattle.std.proofs.Common.{◌≡◌, take}
use Rattle.contest.specs.Contests.{run, Taken}
use Rattle.contest.specs.Piles.{contest_of}
use Rattle.contest.proofs.play.play_points.Given as goal

-- the points so far were taken
abbrev pub invariant-loop-i : goal.invariant-loop-i
invariant-loop-i g l =
    let pile = g.C.Contest.pile l.initial.pile in
    let start = g.C.Contest.standing l.initial.pile in
    (g.C.Contest.pile l.pile ≡ pile)
    × (g.C.Contest.standing l.pile ≡ run (contest_of pile).play start (take l.i l.points))
    × Taken (contest_of pile).play start (take l.i l.points)
