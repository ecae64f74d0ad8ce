use Rattle.sheet.specs.Text.{totals_line, text_of}
use Rattle.sheet.proofs.Sinking.{then, put_as}
use Rattle.sheet.proofs.sheet.Sheet.put.Goals as goal

pub returns : goal.returns
unfolding text_of
returns g c =
    let t = c.of.ensures in
    then c.put_heading.ensures
    (then c.put_closings.ensures
    (then (put_as (λ i. totals_line (t.a i) (t.b i) (t.lets i)) c.put_totals.ensures)
    c.put_end.ensures))
