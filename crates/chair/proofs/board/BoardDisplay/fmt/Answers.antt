-- The title, the levels and the last line are written one after the other.
use Rattle.std.proofs.Common.{true, ◌++◌, refl, rules}
use Rattle.std.proofs.lemmas.Grind.{put_three}
use Rattle.std.specs.Fmt.{HasWritten}
use Rattle.chair.specs.Boards.{title_written, lines_written, levels_of, status_written, status_in}
use Rattle.chair.proofs.board.BoardDisplay.fmt.Goals as goal

pub returns-clause-writes : goal.returns-clause-writes
returns-clause-writes g c plain ok =
    let took = g.W.Write.write_str_gives in
    let pile = g.C.Contest.pile in
    let standing = g.C.Contest.standing in
    let start = c.args.self.now.start in
    let m = c.args.self.now.ongoing.now in
    let title = title_written start.number start.format in
    let lines = lines_written start.format (levels_of pile standing m) 16 in
    let last = status_written (status_in pile standing m) in
    let first : HasWritten took c.args.f.now title c.write.new.self = search rules in
    let second : HasWritten took c.write.new.self lines c.write_levels.new.f = c.in_ok-write_levels.ensures first.plain (refl {a = true}) in
    let third : HasWritten took c.write_levels.new.f last c.write-2.new.self = search rules in
    put_three took c.args.f.now c.write.new.self c.write_levels.new.f c.write-2.new.self title lines last (title ++ (lines ++ last)) first second third refl
