-- The number and the place of each refusal, and how it is told.
use Rattle.std.specs.Prelude.{ℕ, List, ◌++◌, codes, decimal}
use Rattle.rally_log.specs.Faults.{check_number}
use Rattle.roll.specs.Rolls.{full_number}
use Rattle.sheet.specs.declared.fault.LogFault.{LogFault}
use Rattle.sheet.specs.declared.fault.LogFault.TheVariants.{Reading, Scoring}
use Rattle.sheet.specs.declared.fault.ScoreFault.{ScoreFault}
use Rattle.sheet.specs.declared.fault.ScoreFault.TheVariants.{Code, AfterEnd, NoPlace, Space}

abbrev pub score_fault_number : ScoreFault → ℕ
score_fault_number Code = 13
score_fault_number (AfterEnd i) = 14
score_fault_number (NoPlace i) = full_number
score_fault_number Space = 15

-- the index of the entry, and 0 where there is none
abbrev pub score_fault_place : ScoreFault → ℕ
score_fault_place Code = 0
score_fault_place (AfterEnd i) = i
score_fault_place (NoPlace i) = i
score_fault_place Space = 0

abbrev pub log_fault_number : LogFault → ℕ
log_fault_number (Reading f) = check_number f.check
log_fault_number (Scoring f) = score_fault_number f

-- in reading the offset of the record's first byte
abbrev pub log_fault_place : LogFault → ℕ
log_fault_place (Reading f) = f.place
log_fault_place (Scoring f) = score_fault_place f

-- how a refusal is told, by its number and its place
abbrev pub fault_text : ℕ → ℕ → List ℕ
fault_text number place = codes "fault " ++ decimal number ++ codes " at " ++ decimal place
