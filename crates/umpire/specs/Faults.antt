-- The numbers by which calls are refused, and their words.
use Rattle.std.specs.Prelude.{ℕ, List, codes}
use Rattle.umpire.specs.declared.rally.CallFault.{CallFault}
use Rattle.umpire.specs.declared.rally.CallFault.TheVariants.{Decided, RallyOpen, LogCount, LogFull, OtherRally}

abbrev pub call_fault_number : CallFault → ℕ
call_fault_number Decided = 6
call_fault_number RallyOpen = 7
call_fault_number LogCount = 8
call_fault_number LogFull = 9
call_fault_number OtherRally = 10

abbrev pub call_fault_words : CallFault → List ℕ
call_fault_words Decided = codes "there is a winner"
call_fault_words RallyOpen = codes "a rally is open"
call_fault_words LogCount = codes "the log is not this match's"
call_fault_words LogFull = codes "the log is full"
call_fault_words OtherRally = codes "it is not the open rally"
