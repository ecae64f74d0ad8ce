use Rattle.std.proofs.Common.{◌≡◌, length}
use Rattle.chair.specs.Commands.{unindented}
use Rattle.chair.proofs.command.parsing.skip_blanks.Given as goal

abbrev pub invariant-loop-line : goal.invariant-loop-line
invariant-loop-line l = unindented l.initial.line ≡ unindented l.line

abbrev pub decreases-loop-line : goal.decreases-loop-line
decreases-loop-line l = length l.line
