-- What a list of calls and the list of their answers tell of the rallies. Nothing here knows how a call works.
use Rattle.std.specs.Prelude.{ℕ, cond, List, [], ◌∷◌, ◌++◌, length, Some, None, Option, nat_lt}
use Rattle.rally_log.specs.Entries.{count_of, lets_in}
use Rattle.contest.specs.declared.side.Side.{Side}
use Rattle.contest.specs.declared.side.Side.TheVariants.{A, B}
use Rattle.rally_log.specs.declared.entry.Entry.{Entry}
use Rattle.rally_log.specs.declared.entry.Entry.TheVariants.{Let, Point}
use Rattle.umpire.specs.declared.calls.Call.{Call}
use Rattle.umpire.specs.declared.calls.Answer.{Answer}
use Rattle.umpire.specs.declared.calls.Totals.{Totals}
use Rattle.umpire.specs.declared.rally.RallyNumbers.{RallyNumbers}

-- xs, where the answer is no refusal
abbrev pub if_granted : {X : Type 0} → Answer → List X → List X
if_granted (Answer.Refused f) xs = []
if_granted _ xs = xs

-- what the calls that were not refused bring, in order
abbrev pub granted : {X : Type 0} → (Call → List X) → List Call → List Answer → List X
granted brings [] told = []
granted brings (k ∷ ks) [] = []
granted brings (k ∷ ks) (a ∷ told) = if_granted a (brings k) ++ granted brings ks told

-- the point that a call gives, if it gives one
abbrev pub point_of : Call → List Side
point_of (Call.Point x t) = x ∷ []
point_of _ = []

-- what a call makes of a rally, if it settles one
abbrev pub entry_of : Call → List Entry
entry_of (Call.Point x t) = Point x ∷ []
entry_of (Call.Let t) = Let ∷ []
entry_of _ = []

-- the call itself, if it calls a rally
abbrev pub rally_of : Call → List Call
rally_of Call.Rally = Call.Rally ∷ []
rally_of _ = []

-- the numbers of the rally that a call hands in, if it hands one in
abbrev pub handed_in : Call → Option RallyNumbers
handed_in (Call.Point x t) = Some t
handed_in (Call.Let t) = Some t
handed_in _ = None

-- the points taken, in order
abbrev pub taken : List Call → List Answer → List Side
taken = granted point_of

-- what was made of the rallies settled, in order
abbrev pub settled : List Call → List Answer → List Entry
settled = granted entry_of

-- the open rally, once so many are called and so many settled: the last called, if it is not settled
abbrev pub open_rally : ℕ → ℕ → Option ℕ
open_rally called closed = cond (nat_lt closed called) (Some called) None

-- the totals that calls and their answers add up to
abbrev pub counted : List Call → List Answer → Totals
counted ks told = record {
  called = length (granted rally_of ks told);
  a = count_of A (taken ks told);
  b = count_of B (taken ks told);
  lets = lets_in (settled ks told);
  in_play = open_rally (length (granted rally_of ks told)) (length (settled ks told));
}
