use Rattle.std.proofs.Common.{◌∙◌}
use Rattle.contest.specs.Piles.{contest_of}
use Rattle.roll.specs.Rolls.{entries}
use Rattle.sheet.specs.Scores.{Written}
use Rattle.sheet.specs.Text.{text_of}
use Rattle.sheet.proofs.Promised.{written_in}
use Rattle.sheet.proofs.score.score_in.Goals as goal

pub returns : goal.returns
returns g c =
    let h = c.args.heading in
    let kept = c.score_entries.ensures.kept ∙ c.open.ensures.kept in
    let scored = rw (c.open.ensures.kept, c.open.ensures.opened, c.as_slice.ensures) at c.in_ok-score_entries.ensures.scored in
    let end = c.score_entries.new.pile in
    let match = contest_of (g.C.Contest.pile end) in
    let s = g.C.Contest.standing end in
    let written : Written (text_of match h c.as_slice-2.result.now c.as_slice-3.result.now s) (match.play.winner s) c.args.sheet.now c.write_fitting.result c.write_fitting.new.bytes =
    c.write_fitting.ensures in
    written_in (g.C.Contest.pile c.args.pile) h (entries c.args.log.now) (g.met.C.Contest.sound c.args.pile) scored (rw (kept, c.as_slice-2.ensures, c.as_slice-3.ensures) at written)
