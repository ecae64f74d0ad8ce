use Rattle.std.specs.Fmt.{HasWritten, IsPlainFormatter}
use Rattle.chair.specs.Boards.{lines_written, levels_of}
use Rattle.chair.proofs.board.Board.write_levels.Given as goal

abbrev pub invariant-loop-depth : goal.invariant-loop-depth
invariant-loop-depth g l =
    IsPlainFormatter l.initial.f
    → HasWritten g.W.Write.write_str_gives l.initial.f (lines_written l.self.start.format (levels_of g.C.Contest.pile g.C.Contest.standing l.self.ongoing.now) l.depth) l.f
