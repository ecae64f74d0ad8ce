-- A sound pile keeps the four laws, and every layer of it cuts its points in exactly one way.
use Rattle.std.proofs.Common.{cond, List}
use Rattle.contest.specs.Contests.{Laws, Takes}
use Rattle.contest.specs.Switches.{decisive}
use Rattle.contest.specs.Piles.{Shape, bottom_of, race_of, switch_of, Pile, below, ordinary, deciding, contest_of, race_layer, switch_layer, Cut, Sound}
use Rattle.contest.specs.declared.side.Side.{Side}
use Rattle.contest.specs.GoalsLemmas.{goal_allowed, switch_allowed}
use Rattle.contest.proofs.Racing.{race_laws}
use Rattle.contest.proofs.Switching.{switch_laws, chosen_winner, chosen_cut}
use Rattle.contest.proofs.Cut.{parted}

pub pile_laws : {h : Shape} (p : Pile h) → Sound p → Laws (contest_of p)
pile_laws {h = bottom_of S} p s = s
pile_laws {h = race_of h} p s = race_laws p.rules.goal p.rules.service (contest_of (below p)) s.1 (pile_laws (below p) s.2)
pile_laws {h = switch_of h k} p s =
    switch_laws (contest_of (ordinary p)) (contest_of (deciding p)) (pile_laws (ordinary p) s.2) (pile_laws (deciding p) s.3)
    p.rules.goal p.rules.service p.rules.threshold s.1

pub pile_cut : {h : Shape} (p : Pile h) → Sound p → (x : Side) (ps : List Side) → Takes (contest_of p) x ps → Cut p x ps
pile_cut {h = bottom_of S} p s x ps t = tt
pile_cut {h = race_of h} p s x ps t =
    parted (race_layer p) (goal_allowed p.rules.goal s.0) (pile_laws p s).play_fair
    (λ _ y. (pile_laws (below p) s.2).opening_fair.open_winner y)
    (λ b qs. Cut (below p) b.opener qs) (λ b qs. pile_cut {h = h} (below p) s.2 b.opener qs) x ps t
pile_cut {h = switch_of h k} p s x ps t =
    let c = contest_of (ordinary p) in
    let d = contest_of (deciding p) in
    parted (switch_layer p) (goal_allowed p.rules.goal (switch_allowed p.rules.goal p.rules.threshold s.0)) (pile_laws p s).play_fair
    (λ n y. chosen_winner c d (pile_laws (ordinary p) s.2) (pile_laws (deciding p) s.3) (decisive p.rules.threshold n) y)
    (λ b qs. cond (decisive p.rules.threshold b.counts) (Cut (deciding p) b.opener qs) (Cut (ordinary p) b.opener qs))
    (λ b qs. chosen_cut c d _ _ (decisive p.rules.threshold b.counts) b.opener qs (pile_cut {h = h} (ordinary p) s.2 b.opener qs) (pile_cut {h = k} (deciding p) s.3 b.opener qs)) x ps t
