use Rattle.std.proofs.Common.{take}
use Rattle.sheet.specs.Sinks.{Puts}
use Rattle.sheet.proofs.text.put_bytes.Given as goal

-- the bytes so far were put
abbrev pub invariant-loop-byte : goal.invariant-loop-byte
invariant-loop-byte g l = Puts g.S.Sink.takes l.initial.sink (take l.byte-index l.bytes) l.sink
