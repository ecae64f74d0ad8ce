-- The words are text, so that what is no text is no command.
use Rattle.std.proofs.Common.{ℕ, List, Err, IsUtf8, refl, sym, subst, ⊎_elim}
use lib.Utf8.{encode}
use Rattle.contest.specs.declared.side.Side.TheVariants.{A, B}
use Rattle.rally_log.specs.declared.entry.Entry.TheVariants.{Let, Point}
use Rattle.chair.specs.Commands.{word, letter, ReadsCommand}
use Rattle.chair.specs.declared.command.Command.{Command}
use Rattle.chair.specs.declared.command.NoCommand.{NoCommand}

pub word_is_text : (k : Command) → IsUtf8 (word k)
unfolding encode
word_is_text Command.Rally = (word Command.Rally, (refl, refl))
word_is_text (Command.Settle (Point A)) = (word (Command.Settle (Point A)), (refl, refl))
word_is_text (Command.Settle (Point B)) = (word (Command.Settle (Point B)), (refl, refl))
word_is_text (Command.Settle Let) = (word (Command.Settle Let), (refl, refl))
word_is_text Command.Score = (word Command.Score, (refl, refl))
word_is_text Command.Quit = (word Command.Quit, (refl, refl))

pub letter_is_text : (k : Command) → IsUtf8 (letter k)
unfolding encode
letter_is_text Command.Rally = (letter Command.Rally, (refl, refl))
letter_is_text (Command.Settle (Point A)) = (letter (Command.Settle (Point A)), (refl, refl))
letter_is_text (Command.Settle (Point B)) = (letter (Command.Settle (Point B)), (refl, refl))
letter_is_text (Command.Settle Let) = (letter (Command.Settle Let), (refl, refl))
letter_is_text Command.Score = (letter Command.Score, (refl, refl))
letter_is_text Command.Quit = (letter Command.Quit, (refl, refl))

pub no_text_no_command : (bytes : List ℕ) (none : NoCommand) → (IsUtf8 bytes → ⊥) → ReadsCommand bytes (Err none)
no_text_no_command bytes none no_text k = ⊎_elim (λ e. no_text (subst IsUtf8 (sym e) (word_is_text k))) (λ e. no_text (subst IsUtf8 (sym e) (letter_is_text k)))
