use Rattle.sheet.proofs.Penned.{measures}
use Rattle.sheet.proofs.sheet.Sheet.length.Goals as goal

pub returns : goal.returns
returns g c = measures c.put.new.sink _ c.put.ensures
