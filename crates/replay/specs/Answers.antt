-- What is printed of an answer.
use Rattle.std.specs.Prelude.{ℕ, List, [], ◌∷◌, ◌++◌, Some, None, Option, codes}
use Rattle.std.specs.Fmt.{decimal}
use Rattle.contest.specs.Sides.{letter}
use Rattle.contest.specs.declared.side.Side.{Side}
use Rattle.umpire.specs.Faults.{call_fault_number}
use Rattle.umpire.specs.declared.calls.Answer.{Answer}
use Rattle.umpire.specs.declared.calls.Answer.TheVariants.{Called, Settled, Refused, Winner, Server, Level, Totals}
use Rattle.umpire.specs.declared.calls.Totals.{Totals as Counts}

-- a side, or nobody
abbrev pub winner_written : Option Side → List ℕ
winner_written (Some x) = letter x ∷ []
winner_written None = codes "nobody"

-- the number of the open rally, if one is open
abbrev pub open_written : Option ℕ → List ℕ
open_written (Some n) = codes " open " ++ decimal n
open_written None = []

abbrev pub totals_written : Counts → List ℕ
totals_written t =
    (codes "called " ++ (decimal t.called ++ (codes " points " ++ (decimal t.a ++ (codes "-" ++ (decimal t.b ++ (codes " lets " ++ decimal t.lets))))))) ++ open_written t.in_play

abbrev pub answer_written : Answer → List ℕ
answer_written (Called r) = codes "rally " ++ (decimal r.number ++ (codes " of match " ++ decimal r.match_number))
answer_written Settled = codes "settled"
answer_written (Refused fault) = codes "refused " ++ decimal (call_fault_number fault)
answer_written (Winner w) = codes "winner " ++ winner_written w
answer_written (Server x) = codes "server " ++ (letter x ∷ [])
answer_written (Level (Some l)) = codes "level " ++ (decimal l.a ++ (codes "-" ++ (decimal l.b ++ (codes " winner " ++ winner_written l.winner))))
answer_written (Level None) = codes "level none"
answer_written (Totals t) = totals_written t
