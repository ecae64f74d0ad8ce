use Rattle.std.proofs.Common.{IsUtf8, sym, subst}
use Rattle.chair.specs.Commands.{trimmed}
use Rattle.chair.proofs.Words.{no_text_no_command}
use Rattle.chair.proofs.command.parsing.command_of.Goals as goal

pub returns-in-Err : goal.returns-in-Err
returns-in-Err c = no_text_no_command (trimmed c.args.line.now) (record {}) (λ text. c.in-Err.ensures.cases.0 (subst IsUtf8 (sym c.without_blanks.ensures) text))
