use Rattle.std.proofs.Common.{take}
use Rattle.std.specs.List.{flat_map}
use Rattle.sheet.specs.Sinks.{Puts}
use Rattle.sheet.specs.Text.{closing_line}
use Rattle.sheet.proofs.text.put_closings.Given as goal

-- the lines of the closings so far were put
abbrev pub invariant-loop-closing : goal.invariant-loop-closing
invariant-loop-closing g l = Puts g.S.Sink.takes l.initial.sink (flat_map closing_line (take l.closing-index l.closings)) l.sink
