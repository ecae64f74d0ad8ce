use Rattle.sheet.proofs.Sinking.{then}
use Rattle.sheet.proofs.text.put_counts.Goals as goal

pub returns : goal.returns
returns g c = then c.put_number.ensures (then c.put.ensures c.put_number-2.ensures)
