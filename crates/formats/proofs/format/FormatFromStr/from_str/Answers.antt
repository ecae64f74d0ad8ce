use Rattle.std.proofs.Common.{subst, sym, Result}
use Rattle.formats.specs.Formats.{name_of, ReadsFormat}
use Rattle.formats.specs.declared.format.Format.{Format}
use Rattle.formats.specs.declared.format.NoFormat.{NoFormat}
use Rattle.formats.proofs.Names.{reads_name}
use Rattle.formats.proofs.format.FormatFromStr.from_str.Goals as goal

pub returns : goal.returns
returns c = let P : Result Format NoFormat → Type 0 = ReadsFormat name_of c.args.name.now in
    subst P (sym c.ok_or.ensures.value) (reads_name c.args.name.now c.first_named.result (record {}) c.first_named.ensures)
