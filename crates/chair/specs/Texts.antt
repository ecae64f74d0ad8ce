-- The words on the board.
use Rattle.std.specs.Prelude.{ℕ, zero, suc, Bool, true, false, List, codes}
use Rattle.formats.specs.declared.format.Format.{Format}
use Rattle.formats.specs.declared.format.Format.TheVariants.{Game, Tennis3, Tennis5, TennisMt, Badminton, Volleyball, Table5, SideOut}
use Rattle.umpire.specs.declared.rally.CallFault.{CallFault}
use Rattle.umpire.specs.declared.rally.CallFault.TheVariants.{Decided, RallyOpen, LogCount, LogFull, OtherRally}

-- what tennis counts at a depth, above its points
abbrev pub tennis_counts : ℕ → List ℕ
tennis_counts zero = codes "sets"
tennis_counts (suc d) = codes "games"

-- what a format counts at a depth, above its points
abbrev pub counts_above : Format → ℕ → List ℕ
counts_above Tennis3 d = tennis_counts d
counts_above Tennis5 d = tennis_counts d
counts_above TennisMt d = tennis_counts d
counts_above Volleyball d = codes "sets"
counts_above Badminton d = codes "games"
counts_above Table5 d = codes "games"
counts_above SideOut d = codes "games"
counts_above Game d = codes "games"

-- the label of a level: the innermost one counts points
abbrev pub label : Format → ℕ → Bool → List ℕ
label f d true = codes "points"
label f d false = counts_above f d

-- why a command is refused
abbrev pub reason_written : CallFault → List ℕ
reason_written Decided = codes "the match is won; quit ends the session"
reason_written RallyOpen = codes "a rally is open; settle it first"
reason_written LogCount = codes "the log is not that of this match"
reason_written LogFull = codes "the log is full, at 30000 rallies; quit ends the session"
reason_written OtherRally = codes "no rally is open; call one with rally"
