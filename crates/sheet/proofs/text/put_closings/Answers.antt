use Rattle.std.proofs.Common.{◌<◌, length, [], get_or, take, ap, ◌∙◌, sym, arith}
use Rattle.std.specs.List.{flat_map}
use Rattle.std.proofs.lemmas.List.{take_more, flat_map_more}
use Rattle.contest.specs.declared.side.Side.TheVariants.{A}
use Rattle.sheet.specs.Text.{closing_line}
use Rattle.sheet.specs.declared.closing.Closing.{Closing}
use Rattle.sheet.proofs.Sinking.{then, put_as}
use Rattle.sheet.proofs.text.put_closings.Goals as goal

pub loop-closing-preserved : goal.loop-closing-preserved
loop-closing-preserved g c =
    let cs = c.args.closings.now in
    let i = c.loop-closing.closing-index in
    let none : Closing = record { depth = 0; a = 0; b = 0; winner = A } in
    let below : i < length cs = omega arith in
    put_as (flat_map_more closing_line [] (take i cs) (get_or cs i none) ∙ ap (flat_map closing_line) (sym (take_more cs i none below)))
    (then c.loop-closing.invariant c.put_closing.ensures)
