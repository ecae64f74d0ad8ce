use Rattle.std.proofs.Common.{sym}
use Rattle.std.proofs.lemmas.Result.{err_from_is_err_and}
use Rattle.roll.specs.Rolls.{entries}
use Rattle.sheet.proofs.Promised.{no_heading}
use Rattle.sheet.proofs.score.score.Goals as goal

pub returns-in_err-try_from : goal.returns-in_err-try_from
returns-in_err-try_from g c =
    let r = c.args.closings.now in
    let p = err_from_is_err_and c.from_residual.result c.from_residual.ensures.1 in
    rw (p.1, p.2) (no_heading (g.C.Contest.pile c.args.pile) c.args.header (entries c.args.log.now) r c.args.sheet.now (sym c.in_err-try_from.ensures))

pub returns : goal.returns
returns g c = rw (sym c.in_ok-try_from.ensures) c.score_in.ensures
