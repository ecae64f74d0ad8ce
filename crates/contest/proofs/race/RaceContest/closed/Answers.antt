use Rattle.contest.specs.Built.{race_pile, race_standing}
use Rattle.contest.specs.Piles.{race_layer}
use Rattle.contest.proofs.Depths.{layer_closed}
use Rattle.contest.proofs.race.RaceContest.closed.Goals as goal

pub returns : goal.returns
returns g c =
    let s = c.args.self.now in
    let n = c.closed.result in
    layer_closed (race_layer (race_pile g.C.Contest.pile g.P.Service.rule s)) (race_standing g.C.Contest.standing s) n c.closed_above.result
    c.closed.ensures (cc)
