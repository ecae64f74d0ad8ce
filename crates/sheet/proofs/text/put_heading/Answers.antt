use Rattle.std.proofs.Common.{ap}
use Rattle.sheet.specs.Text.{match_line}
use Rattle.sheet.proofs.Sinking.{then, put_as}
use Rattle.sheet.proofs.text.put_heading.Goals as goal

pub returns : goal.returns
returns g c =
    let h = c.args.heading in
    put_as (ap (λ name. match_line h.number name h.opener) c.name.ensures)
    (then c.put_text.ensures (then c.put_number.ensures (then c.put.ensures (then c.put_text-2.ensures (then c.put_text-3.ensures (then c.put_side.ensures c.put-2.ensures))))))
