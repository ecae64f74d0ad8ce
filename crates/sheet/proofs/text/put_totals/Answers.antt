use Rattle.sheet.proofs.Sinking.{then}
use Rattle.sheet.proofs.text.put_totals.Goals as goal

pub returns : goal.returns
returns g c =
    then c.put_text.ensures (then c.put_number.ensures (then c.put_text-2.ensures (then c.put_counts.ensures (then c.put_text-3.ensures (then c.put_number-2.ensures c.put.ensures)))))
