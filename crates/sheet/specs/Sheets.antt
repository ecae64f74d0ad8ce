-- From the bytes of a log to the bytes of its sheet: the whole promise of the scorer.
use Rattle.std.specs.Prelude.{◌≡◌, ℕ, List, [], ◌++◌, length, drop, Ok, Err, Result}
use Rattle.formats.specs.Table.{InFormat}
use Rattle.rally_log.specs.Readings.{Accepted, Reads, Only}
use Rattle.rally_log.specs.declared.entry.Entry.{Entry}
use Rattle.rally_log.specs.declared.entry.Header.{Header}
use Rattle.rally_log.specs.declared.faults.ReadFault.{ReadFault}
use Rattle.roll.specs.Rolls.{most}
use Rattle.sheet.specs.Headings.{heading_of}
use Rattle.sheet.specs.Scores.{ScoresIn}
use Rattle.sheet.specs.declared.closing.Closing.{Closing}
use Rattle.sheet.specs.declared.fault.LogFault.{LogFault}
use Rattle.sheet.specs.declared.fault.LogFault.TheVariants.{Reading, Scoring}
use Rattle.sheet.specs.declared.fault.ScoreFault.{ScoreFault}
use Rattle.sheet.specs.declared.score.Scored.{Scored}
use Rattle.sheet.specs.declared.text.Heading.{Heading}

-- a log with this header was scored in the format that the header names: the answer, the closings and the sheet are the ones that are defined for that format's pile; where there is a sheet, the pile took all the points, and they have their cutting, layer by layer
pub record ScoredSo (header : Header) (log : List Entry) (closings : List Closing) (sheet : List ℕ) (closings_after : List Closing) (sheet_after : List ℕ) (r : Result Scored ScoreFault) : Type 0 where
  pub heading : Heading
  pub named : heading_of header ≡ Ok heading
  pub held : List Closing
  pub left : List Closing
  pub closings_are : closings_after ≡ held ++ left
  pub scored : InFormat heading.format (λ h p. ScoresIn p heading log closings sheet r held left sheet_after)

-- what holds of bytes that were given with places for entries and closings and bytes for a sheet, and of what these hold afterwards
module _ (bytes : List ℕ) (entries : List Entry) (closings : List Closing) (sheet : List ℕ) (entries_after : List Entry) (closings_after : List Closing) (sheet_after : List ℕ) where
  -- the bytes are the ones written for a header and a list of entries, and that log was scored
  pub record ReadAndScored (r : Result Scored ScoreFault) : Type 0 where
    pub header : Header
    pub log : List Entry
    pub accepted : Accepted bytes (most [] entries) header log
    pub entries_are : entries_after ≡ log ++ drop (length log) entries
    pub scores : ScoredSo header log closings sheet closings_after sheet_after r

  -- the bytes could not be read: the fault is the one that is defined for them, and no other would fit
  pub record NotRead (fault : ReadFault) : Type 0 where
    pub held : List Entry
    pub reads : Reads bytes (most [] entries) (Err fault) held
    pub only : Only bytes (most [] entries) (Err fault) held
    pub entries_are : entries_after ≡ held ++ drop (length held) entries
    pub closings_are : closings_after ≡ closings
    pub sheet_is : sheet_after ≡ sheet

  -- the one or the other, by the answer
  abbrev pub SheetOf : Result Scored LogFault → Type 0
  SheetOf (Ok s) = ReadAndScored (Ok s)
  SheetOf (Err (Scoring f)) = ReadAndScored (Err f)
  SheetOf (Err (Reading f)) = NotRead f
