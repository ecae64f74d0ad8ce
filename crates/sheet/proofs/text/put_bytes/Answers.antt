use Rattle.std.proofs.Common.{arith}
use Rattle.std.proofs.lemmas.List.{take_more}
use Rattle.sheet.proofs.Sinking.{then}
use Rattle.sheet.proofs.text.put_bytes.Goals as goal

pub loop-byte-preserved : goal.loop-byte-preserved
loop-byte-preserved g c = rw (take_more c.args.bytes.now c.loop-byte.byte-index 0 (omega arith)) (then c.loop-byte.invariant c.put.ensures)
