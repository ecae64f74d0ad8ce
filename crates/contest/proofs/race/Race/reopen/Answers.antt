-- A contest that was just opened has no winner.
use Rattle.std.proofs.Common.{rules}
use Rattle.contest.proofs.Piling.{pile_laws}
use Rattle.contest.proofs.race.Race.reopen.Goals as goal

pub returns-in-Some : goal.returns-in-Some
returns-in-Some g c =
    let below = c.args.self.now.below in
    let fresh = (pile_laws (g.C.Contest.pile below) (g.met.C.Contest.sound below)).opening_fair.open_winner c.next_opener-next.result in
    record { kept = search rules; stood = search rules; undecided = cc }
