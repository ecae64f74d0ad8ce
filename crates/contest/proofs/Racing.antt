-- The laws of a race, from those of its service and of the contest below.
use Rattle.contest.specs.Contests.{Contest, Laws}
use Rattle.contest.specs.Service.{Rule, Fair}
use Rattle.contest.specs.Races.{race, over}
use Rattle.contest.proofs.Layering.{FairOpens, layer_laws}
use Rattle.contest.specs.declared.goal.Goal.{Goal}

over_opens : {S : Type 0} (g : Goal) (r : Rule) (c : Contest S) → Laws c → FairOpens (over g r c)
over_opens g r c h = record {
  open_winner = λ n x. h.opening_fair.open_winner x;
  open_opener = λ n x. h.opening_fair.open_opener x;
  open_server = λ n x. h.opening_fair.open_server x;
  mirror_opens = λ n x. h.opening_fair.mirror_opening x;
}

pub race_laws : {S : Type 0} (g : Goal) (r : Rule) (c : Contest S) → Fair r → Laws c → Laws (race g r c)
race_laws g r c f h = layer_laws (over g r c) f h.play_fair (over_opens g r c h)
