-- A whole match in a format.
use Rattle.std.specs.Prelude.{◌≡◌, ℕ, List}
use Rattle.contest.specs.Built.{race_pile, race_standing, switch_pile, switch_standing}
use Rattle.contest.specs.Service.{stay, turn, to_winner, carry, pairs, twos}
use Rattle.contest.specs.declared.side.Side.{Side}
use Rattle.formats.specs.Models.{rallies_pile, rallies_standing, sets_pile, sets_standing, hands_pile, hands_standing}
use Rattle.formats.specs.Table as table
use Rattle.formats.specs.declared.format.Format.{Format}
use Rattle.formats.specs.declared.format.Format.TheVariants as named
use Rattle.rally_log.specs.declared.entry.Entry.{Entry}
use Rattle.roll.specs.declared.Roll.{Roll}
use Rattle.umpire.specs.Matches.{WholeMatch}
use Rattle.umpire.specs.declared.calls.Call.{Call}
use Rattle.umpire.specs.declared.calls.Answer.{Answer}
use Rattle.format_matches.specs.declared.PlayedFormat.{PlayedFormat}
use Rattle.format_matches.specs.declared.PlayedFormat.TheVariants.{Game, Tennis3, Tennis5, TennisMt, Badminton, Volleyball, Table5, SideOut}

-- the match was one in the format, and a whole one over the table's pile of that format
abbrev pub WholeMatchIn : Format → ℕ → Side → List Call → Roll Entry → Roll Entry → Roll Answer → Roll Answer → PlayedFormat → Type 0
WholeMatchIn format number o calls log log' answers answers' (Game r) =
    (format ≡ named.Game) × WholeMatch (rallies_pile stay) rallies_standing table.game number o calls log log' answers answers' r
WholeMatchIn format number o calls log log' answers answers' (Tennis3 r) =
    (format ≡ named.Tennis3) × WholeMatch (race_pile (sets_pile stay pairs turn) (λ _. carry)) (race_standing sets_standing) table.tennis3 number o calls log log' answers answers' r
WholeMatchIn format number o calls log log' answers answers' (Tennis5 r) =
    (format ≡ named.Tennis5) × WholeMatch (race_pile (sets_pile stay pairs turn) (λ _. carry)) (race_standing sets_standing) table.tennis5 number o calls log log' answers answers' r
WholeMatchIn format number o calls log log' answers answers' (TennisMt r) =
    (format ≡ named.TennisMt) × WholeMatch (switch_pile (sets_pile stay pairs turn) (rallies_pile pairs) (λ _. carry)) (switch_standing sets_standing rallies_standing) table.tennismt number o calls log log' answers answers' r
WholeMatchIn format number o calls log log' answers answers' (Badminton r) =
    (format ≡ named.Badminton) × WholeMatch (race_pile (rallies_pile to_winner) (λ _. to_winner)) (race_standing rallies_standing) table.badminton number o calls log log' answers answers' r
WholeMatchIn format number o calls log log' answers answers' (Volleyball r) =
    (format ≡ named.Volleyball) × WholeMatch (sets_pile to_winner to_winner turn) sets_standing table.volleyball number o calls log log' answers answers' r
WholeMatchIn format number o calls log log' answers answers' (Table5 r) =
    (format ≡ named.Table5) × WholeMatch (race_pile (rallies_pile twos) (λ _. turn)) (race_standing rallies_standing) table.table5 number o calls log log' answers answers' r
WholeMatchIn format number o calls log log' answers answers' (SideOut r) =
    (format ≡ named.SideOut) × WholeMatch (race_pile (hands_pile to_winner) (λ _. to_winner)) (race_standing hands_standing) table.sideout number o calls log log' answers answers' r
