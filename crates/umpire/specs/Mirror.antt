-- What anyone can ask of a match and its log, and the mirror, in which the sides change places.
use Rattle.std.specs.Prelude.{ℕ, List, map, Option}
use Rattle.contest.specs.Contests.{Contest}
use Rattle.contest.specs.Sides.{opposite, option_opposite, option_swapped}
use Rattle.contest.specs.declared.level.Level.{Level}
use Rattle.contest.specs.declared.side.Side.{Side}
use Rattle.rally_log.specs.declared.entry.Entry.{Entry}
use Rattle.rally_log.specs.declared.entry.Entry.TheVariants.{Let, Point}
use Rattle.umpire.specs.Calls.{State}
use Rattle.umpire.specs.declared.calls.Call.{Call}
use Rattle.umpire.specs.declared.calls.Answer.{Answer}
use Rattle.umpire.specs.declared.calls.Totals.{Totals}

-- the match's number, all that can be asked of it, and the log
pub record Shown : Type 0 where
  pub number : ℕ
  pub winner : Option Side
  pub server : Side
  pub level : ℕ → Option Level
  pub totals : Totals
  pub log : List Entry

abbrev pub shown : {S : Type 0} → Contest S → State S → Shown
shown r c = record { number = c.number; winner = r.play.winner c.pile; server = r.play.server c.pile; level = λ d. r.play.level c.pile d; totals = c.totals; log = c.log }

-- points change sides
abbrev pub mirrored_entry : Entry → Entry
mirrored_entry Let = Let
mirrored_entry (Point x) = Point (opposite x)

-- the points of A and of B change places
abbrev pub mirrored_totals : Totals → Totals
mirrored_totals t = record t { a = t.b; b = t.a }

-- the number is kept
abbrev pub mirrored_shown : Shown → Shown
mirrored_shown s = record { number = s.number; winner = option_opposite s.winner; server = opposite s.server; level = λ d. option_swapped (s.level d); totals = mirrored_totals s.totals; log = map mirrored_entry s.log }

-- a point is given to the opposite side; the rally that is handed in is kept, and so is any other call
abbrev pub mirrored_call : Call → Call
mirrored_call (Call.Point x t) = Call.Point (opposite x) t
mirrored_call other = other

-- sides and totals are mirrored; the rally that is called and the refusal are kept
abbrev pub mirrored_answer : Answer → Answer
mirrored_answer (Answer.Winner w) = Answer.Winner (option_opposite w)
mirrored_answer (Answer.Server x) = Answer.Server (opposite x)
mirrored_answer (Answer.Level l) = Answer.Level (option_swapped l)
mirrored_answer (Answer.Totals t) = Answer.Totals (mirrored_totals t)
mirrored_answer other = other
