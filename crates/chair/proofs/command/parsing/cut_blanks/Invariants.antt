use Rattle.std.proofs.Common.{◌≡◌, length}
use Rattle.chair.specs.Commands.{unpadded}
use Rattle.chair.proofs.command.parsing.cut_blanks.Given as goal

abbrev pub invariant-loop-line : goal.invariant-loop-line
invariant-loop-line l = unpadded l.initial.line ≡ unpadded l.line

abbrev pub decreases-loop-line : goal.decreases-loop-line
decreases-loop-line l = length l.line
