-- An answer that is no want of places is the one with many places, and a refusal has left the sheet as it was.
use Rattle.std.proofs.Common.{sym}
use Rattle.embed.proofs.Places.{with_many, untouched}
use Rattle.embed.proofs.answer_with.Goals as goal

pub returns-else-is_short : goal.returns-else-is_short
returns-else-is_short g c =
    let first = c.score_with-result in
    record {
      result = first.result;
      scored = with_many g.row.ENTRIES g.row.CLOSINGS c.args.log.now c.args.sheet.now first.new.sheet first.result c.requires.0 c.requires.1 (sym c.if-is_short.ensures) first.ensures;
      answer_is = c.from.ensures;
    }

pub returns-then-is_short : goal.returns-then-is_short
returns-then-is_short g c =
    let first = c.score_with-result in
    untouched g.row.ENTRIES g.row.CLOSINGS c.args.log.now c.args.sheet.now first.new.sheet first.result (sym c.if-is_short.ensures) first.ensures
