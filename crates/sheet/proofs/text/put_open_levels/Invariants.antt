use Rattle.contest.specs.Piles.{contest_of}
use Rattle.sheet.specs.Sinks.{Puts}
use Rattle.sheet.specs.Text.{spaced, open_fields}
use Rattle.sheet.proofs.text.put_open_levels.Given as goal

-- the fields of the depths so far were put
abbrev pub invariant-loop-depth : goal.invariant-loop-depth
invariant-loop-depth g l =
    Puts g.S.Sink.takes l.initial.sink (spaced (open_fields (contest_of (g.C.Contest.pile l.pile)).play (g.C.Contest.standing l.pile) l.depth)) l.sink
