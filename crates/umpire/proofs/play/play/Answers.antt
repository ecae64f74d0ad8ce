-- What `play` leaves and answers is what the calls leave and answer, so that the promise holds of it.
use Rattle.std.proofs.Common.{◌≡◌, ◌<◌, min, length, take, drop, sym, refl, ap, ◌∙◌, ap₂, arith}
use Rattle.std.proofs.lemmas.List.{length-append, length-take, take_min}
use Rattle.contest.specs.Piles.{StandingOf, contest_of}
use Rattle.roll.specs.Rolls.{entries, spare, capacity}
use Rattle.umpire.specs.Calls.{State, left_after_all, answers_to, opened}
use Rattle.umpire.specs.Matches.{made}
use Rattle.umpire.specs.States.{state_of, end_state, places_of}
use Rattle.umpire.specs.declared.calls.Call.{Call}
use Rattle.umpire.proofs.Inductions.{same_number}
use Rattle.umpire.proofs.Only.{one_way}
use Rattle.umpire.proofs.Promise.{promised}
use Rattle.umpire.proofs.Turns.{one_more, at_end, same_state}
use Rattle.umpire.proofs.play.play.Goals as goal

pub loop-call-preserved : goal.loop-call-preserved
loop-call-preserved g c =
    let fresh = c.clear-2.new.self in
    let ks = take c.min-count.result c.args.calls.now in
    let few : c.loop-call.call-index < min (length (spare fresh)) 30000 = omega (arith, length-take c.min-count.result c.args.calls.now, c.min-count.ensures, c.capacity.ensures, ap length c.clear-2.ensures.entries) in (
      c.make_call.ensures.steps.kept ∙ c.loop-call.invariant.0,
      one_more _ (contest_of (g.C.Contest.pile c.loop-call.ongoing.pile)) _ ks (spare fresh) _ _ (entries c.loop-call.answers) (spare c.loop-call.answers) _ _ _ Call.Rally c.make_call.result c.loop-call.invariant.1 c.loop-call-test.true few (ap (λ p. contest_of p) c.loop-call.invariant.0) c.make_call.ensures.steps.after c.make_call.ensures.answer c.push.ensures.entries c.push.ensures.spare,
      c.make_call.ensures.steps.same ∙ c.loop-call.invariant.2,
      c.push.ensures.same ∙ c.loop-call.invariant.3,
    )

pub returns : goal.returns
returns g c =
    let standing = g.C.Contest.standing in
    let all = c.args.calls.now in
    let lent = c.args.answers.now in
    let emptied = c.clear-2.new.self in
    let ks = made all lent in
    let r = contest_of (g.C.Contest.pile c.new-ongoing.result.pile) in
    let rules = contest_of (g.C.Contest.pile c.args.pile) in
    let start = state_of standing c.new-ongoing.result c.clear.new.self in
    let fresh = opened rules c.args.number c.args.opener (places_of c.args.log.now) in
    let last = state_of standing c.loop-call.ongoing c.loop-call.log in
    let rules_are : r ≡ rules = ap (λ p. contest_of p) c.new-ongoing.ensures.kept in
    let start_is : start ≡ fresh = same_state start fresh c.new-ongoing.ensures.number c.new-ongoing.ensures.opened c.new-ongoing.ensures.totals c.clear.ensures.entries c.clear.ensures.spare in
    let as_many : capacity emptied ≡ capacity lent = omega (arith, ap length c.clear-2.ensures.entries, ap length c.clear-2.ensures.spare, length-append (entries lent) (spare lent)) in
    let ks_are : take c.min-count.result all ≡ ks = ap (λ n. take n all) c.min-count.ensures ∙ take_min _ all ∙ ap (λ n. take n all) (c.capacity.ensures ∙ as_many) in
    let end = at_end r start (take c.min-count.result all) (spare emptied) last (entries c.loop-call.answers) (spare c.loop-call.answers) c.loop-call.call-index c.loop-call.invariant.1 (omega arith) in
    let last_is : last ≡ left_after_all rules fresh ks = end.leaves ∙ ap (left_after_all r start) ks_are ∙ ap₂ (λ q d. left_after_all q d ks) rules_are start_is in
    let told_is : entries c.loop-call.answers ≡ answers_to rules fresh ks = end.tells ∙ ap (answers_to r start) ks_are ∙ ap₂ (λ q d. answers_to q d ks) rules_are start_is in
    let left = end_state standing c.args.number (record { pile = c.end.result; totals = c.totals-totals.result }) c.loop-call.log in
    let left_is : left ≡ left_after_all rules fresh ks = same_state left last (sym (ap (λ (d : State (StandingOf g.C.Contest.shape)). d.number) last_is ∙ same_number rules fresh ks)) (ap standing c.end.ensures) c.totals-totals.ensures refl refl ∙ last_is in
    let kept = promised _ (g.met.C.Contest.sound c.args.pile) c.args.number c.args.opener (places_of c.args.log.now) ks left _ left_is told_is in
    record {
      rules = ap g.C.Contest.pile c.end.ensures ∙ c.loop-call.invariant.0 ∙ c.new-ongoing.ensures.kept;
      log_places = c.loop-call.invariant.2 ∙ c.clear.ensures.same;
      answers_places = c.loop-call.invariant.3 ∙ c.clear-2.ensures.same;
      left = left_is;
      told = told_is;
      log_spare = kept.summing.spare;
      answers_spare = end.rest ∙ ap (drop (length (entries c.loop-call.answers))) c.clear-2.ensures.spare;
      promise = kept;
      only = λ left' told'. one_way _ c.args.number c.args.opener (places_of c.args.log.now) ks left left' _ told' kept;
    }
