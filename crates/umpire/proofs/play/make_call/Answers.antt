-- What a point is answered.
use Rattle.std.proofs.Common.{sym, ap, ◌∙◌}
use Rattle.umpire.specs.Calls.{numbers_of, point_refusal, answer_unless, answer_to}
use Rattle.umpire.specs.States.{state_of, rules_of}
use Rattle.umpire.specs.declared.calls.Answer.{Answer}
use Rattle.umpire.proofs.Turns.{settled_told}
use Rattle.umpire.proofs.play.make_call.Goals as goal

pub returns-in-Point-clause-answer : goal.returns-in-Point-clause-answer
returns-in-Point-clause-answer g c =
    let r = rules_of g.C.Contest.pile c.args.ongoing.now in
    let d = state_of g.C.Contest.standing c.args.ongoing.now c.args.log.now in
    c.into-in-Point.ensures
    ∙ settled_told c.new.result (point_refusal r d (numbers_of c.new.result)) _ _ c.settle_point-res.ensures.answer c.map_err.ensures.cases
    ∙ ap (λ q. answer_unless Answer.Settled (point_refusal r d (numbers_of q))) c.new.ensures
    ∙ ap (answer_to r d) (sym c.in-Point.is)
