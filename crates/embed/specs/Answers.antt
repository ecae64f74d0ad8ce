-- What a program in C is told of a log.
use Rattle.std.specs.Prelude.{◌≡◌, ℕ, Bool, true, false, List, length, Some, None, Ok, Err, Option, Result}
use Rattle.contest.specs.declared.side.Side.{Side}
use Rattle.contest.specs.Sides.{letter}
use Rattle.rally_log.specs.declared.entry.Entry.{Entry}
use Rattle.rally_log.specs.declared.faults.Check.{Check}
use Rattle.rally_log.specs.declared.faults.Check.TheVariants.{Kind, Length, Fields, Room}
use Rattle.sheet.specs.Faults.{log_fault_number, log_fault_place}
use Rattle.sheet.specs.Sheets.{SheetOf}
use Rattle.sheet.specs.declared.closing.Closing.{Closing}
use Rattle.sheet.specs.declared.fault.LogFault.{LogFault}
use Rattle.sheet.specs.declared.fault.LogFault.TheVariants.{Reading, Scoring}
use Rattle.sheet.specs.declared.fault.ScoreFault.{ScoreFault}
use Rattle.sheet.specs.declared.fault.ScoreFault.TheVariants.{Code, AfterEnd, NoPlace, Space}
use Rattle.sheet.specs.declared.score.Scored.{Scored}
use Rattle.embed.specs.declared.SheetAnswer.{SheetAnswer}

-- a winner by its letter, and nobody by 0
abbrev pub winner_told : Option Side → ℕ
winner_told (Some x) = letter x
winner_told None = 0

-- a sheet by its length and winner, a fault by its number and place; what the other has is 0
abbrev pub told : Result Scored LogFault → SheetAnswer
told (Ok s) = record { length = s.length; place = 0; fault = 0; winner = winner_told s.winner }
told (Err f) = record { length = 0; place = log_fault_place f; fault = log_fault_number f; winner = 0 }

-- a check or a scoring that was refused since a record had no free place, and a log that was for either
abbrev pub is_room : Check → Bool
is_room Kind = false
is_room Length = false
is_room Fields = false
is_room Room = true

abbrev pub is_no_place : ScoreFault → Bool
is_no_place Code = false
is_no_place (AfterEnd i) = false
is_no_place (NoPlace i) = true
is_no_place Space = false

abbrev pub short_of_places : Result Scored LogFault → Bool
short_of_places (Ok s) = false
short_of_places (Err (Reading f)) = is_room f.check
short_of_places (Err (Scoring f)) = is_no_place f

-- the log was read and scored into the caller's bytes, with so many places for its entries and for its closings
pub record ScoredWith (entry_places closing_places : ℕ) (log sheet sheet_after : List ℕ) (result : Result Scored LogFault) : Type 0 where
  pub entries : List Entry
  pub entries_after : List Entry
  pub closings : List Closing
  pub closings_after : List Closing
  pub entries_are : length entries ≡ entry_places
  pub closings_are : length closings ≡ closing_places
  pub sheet_of : SheetOf log entries closings sheet entries_after closings_after sheet_after result

-- that with 30,000 places for entries and 4,000 for closings, and what was told of it
pub record Scores (log sheet sheet_after : List ℕ) (answer : SheetAnswer) : Type 0 where
  pub result : Result Scored LogFault
  pub scored : ScoredWith 30000 4000 log sheet sheet_after result
  pub answer_is : answer ≡ told result
