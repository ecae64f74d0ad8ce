-- A contest that was just opened has no winner.
use Rattle.std.proofs.Common.{ap, ◌∙◌, ap₂, rules}
use Rattle.contest.specs.Piles.{contest_of, switch_layer}
use Rattle.contest.specs.Switches.{decisive}
use Rattle.contest.proofs.Piling.{pile_laws}
use Rattle.contest.proofs.Switching.{chosen_winner}
use Rattle.contest.proofs.switch.Switch.reopen.Goals as goal

pub returns-in-Some : goal.returns-in-Some
returns-in-Some g c =
    let s = c.args.self.now in
    let p = g.C.Contest.pile s.ordinary in
    let q = g.D.Contest.pile s.deciding in
    let fresh = chosen_winner (contest_of p) (contest_of q) (pile_laws p (g.met.C.Contest.sound s.ordinary)) (pile_laws q (g.met.D.Contest.sound s.deciding)) (decisive s.threshold s.tally.counts) c.next_opener-next.result in
    record {
      kept = search rules;
      stood = search rules;
      undecided = ap₂ (λ l t. l.below.winner t.below) (ap switch_layer c.open_below.ensures.kept) c.open_below.ensures.stood ∙ fresh;
    }
