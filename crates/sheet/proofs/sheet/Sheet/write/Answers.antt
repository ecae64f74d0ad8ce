-- The pen writes over the lent bytes and no others.
use Rattle.std.proofs.Common.{sym, refl, rules}
use Rattle.sheet.proofs.Penned.{penned}
use Rattle.sheet.proofs.sheet.Sheet.write.Goals as goal

pub returns : goal.returns
returns g c =
    let wrote = penned _ c.put.new.sink _ c.put.ensures refl c.requires in
    let same_name = sym wrote.0 in
    let bytes = wrote.1 in
    search rules
