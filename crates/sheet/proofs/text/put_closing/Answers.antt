use Rattle.sheet.proofs.Sinking.{then}
use Rattle.sheet.proofs.text.put_closing.Goals as goal

pub returns : goal.returns
returns g c =
    then c.put_number.ensures (then c.put.ensures (then c.put_counts.ensures (then c.put-2.ensures (then c.put_side.ensures c.put-3.ensures))))
