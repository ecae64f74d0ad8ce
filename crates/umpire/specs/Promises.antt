-- The promise: what holds of every match that is opened with an empty log, once it has met a list of calls.
-- Which points were taken and what was counted is read from the calls and their answers alone, as Runs says.
use Rattle.std.specs.Prelude.{◌≡◌, ℕ, ◌+◌, ◌<◌, ◌≤◌, min, List, map, length, take, drop, Some, None, ◌≢◌}
use Rattle.contest.specs.declared.side.Side.TheVariants.{A, B}
use Rattle.rally_log.specs.Entries.{count_of, lets_in, points_in}
use Rattle.contest.specs.Contests.{Contest, played}
use Rattle.contest.specs.Piles.{Shape, StandingOf, Pile, contest_of, Cut}
use Rattle.contest.specs.Sides.{opposite}
use Rattle.contest.specs.declared.side.Side.{Side}
use Rattle.rally_log.specs.declared.entry.Entry.{Entry}
use Rattle.roll.specs.Rolls.{at}
use Rattle.umpire.specs.Sums.{while_open}
use Rattle.umpire.specs.Calls.{State, opened, left_after_all, answers_to}
use Rattle.umpire.specs.Runs.{taken, settled, counted, handed_in}
use Rattle.umpire.specs.Mirror.{shown, mirrored_shown, mirrored_call, mirrored_answer}
use Rattle.umpire.specs.declared.calls.Call.{Call}
use Rattle.umpire.specs.declared.calls.Answer.{Answer}
use Rattle.umpire.specs.declared.calls.Totals.{Totals}
use Rattle.umpire.specs.declared.rally.RallyNumbers.{RallyNumbers}
use Rattle.umpire.specs.declared.rally.CallFault.TheVariants.{Decided, RallyOpen, LogCount, LogFull, OtherRally}

-- The cutting, of a pile opened for o.
pub record Cutting {h : Shape} (pile : Pile h) (o : Side) (calls : List Call) (left : State (StandingOf h)) (answers : List Answer) : Type 0 where
  -- the points taken brought the pile where it stands
  pub stands : left.pile ≡ played (contest_of pile) o (taken calls answers)
  -- and they are cut as its rules say, layer by layer: exactly one cutting, counts that are the pieces won, a winner exactly when at the last point and not before the counts meet target and lead, or the cap
  pub cut : Cut pile o (taken calls answers)

-- The mirror: the same pile under the same number, opened for the opposite side over a log with as many places, is given every point for the opposite side.
pub record Mirroring {S : Type 0} (r : Contest S) (number : ℕ) (o : Side) (places : List Entry) (calls : List Call) (left : State S) (answers : List Answer) : Type 0 where
  -- it refuses the same calls by the same numbers, and its other answers are the mirror image
  pub answered : (others : List Entry) → length others ≡ length places → answers_to r (opened r number (opposite o) others) (map mirrored_call calls) ≡ map mirrored_answer answers
  -- all that can be asked of it then, and its log, are the mirror image
  pub shows : (others : List Entry) → length others ≡ length places → shown r (left_after_all r (opened r number (opposite o) others) (map mirrored_call calls)) ≡ mirrored_shown (shown r left)
  -- it needs as many places, and the others hold what they held
  pub spares : (others : List Entry) → length others ≡ length places → (left_after_all r (opened r number (opposite o) others) (map mirrored_call calls)).spare ≡ drop (length left.log) others

-- The sum: totals and log are what the calls and their answers add up to. The log had these places.
pub record Summing {S : Type 0} (places : List Entry) (calls : List Call) (left : State S) (answers : List Answer) : Type 0 where
  pub totals : left.totals ≡ counted calls answers
  -- the rallies called are the points of A, the points of B and the lets, and one more while a rally is open
  pub sum : left.totals.called ≡ left.totals.a + left.totals.b + left.totals.lets + while_open left.totals.in_play
  -- the log is what was settled, in order, and its other places hold what they held
  pub log : left.log ≡ settled calls answers
  pub spare : left.spare ≡ drop (length left.log) places
  -- each total is how often such an entry stands in the log
  pub a_logged : left.totals.a ≡ count_of A (points_in left.log)
  pub b_logged : left.totals.b ≡ count_of B (points_in left.log)
  pub lets_logged : left.totals.lets ≡ lets_in left.log
  -- the log's points are the points taken, in the order taken: those of the cutting
  pub points_logged : points_in left.log ≡ taken calls answers
  -- no point is refused because there is a winner, and nothing because of the log's count
  pub never_decided : (i : ℕ) (x : Side) (t : RallyNumbers) → at calls i ≡ Some (Call.Point x t) → at answers i ≢ Some (Answer.Refused Decided)
  pub never_count : (i : ℕ) → at answers i ≢ Some (Answer.Refused LogCount)

-- before the i-th call: what was counted, how many rallies were settled, and where the pile stood, opened for o
abbrev pub counted_before : List Call → List Answer → ℕ → Totals
counted_before calls answers i = counted (take i calls) answers

abbrev pub settled_before : List Call → List Answer → ℕ → ℕ
settled_before calls answers i = length (settled (take i calls) answers)

abbrev pub stood_before : {S : Type 0} → Contest S → Side → List Call → List Answer → ℕ → S
stood_before r o calls answers i = played r o (taken (take i calls) answers)

-- The answers: each follows from the calls before it and their answers. Of the cases of a call exactly one holds, so that no answer is left open.
pub record Answering {S : Type 0} (r : Contest S) (number : ℕ) (o : Side) (places : List Entry) (calls : List Call) (answers : List Answer) : Type 0 where
  -- every call is answered
  pub all : length answers ≡ length calls
  -- the questions
  pub winner : (i : ℕ) → at calls i ≡ Some Call.Winner → at answers i ≡ Some (Answer.Winner (r.play.winner (stood_before r o calls answers i)))
  pub server : (i : ℕ) → at calls i ≡ Some Call.Server → at answers i ≡ Some (Answer.Server (r.play.server (stood_before r o calls answers i)))
  pub level : (i d : ℕ) → at calls i ≡ Some (Call.Level d) → at answers i ≡ Some (Answer.Level (r.play.level (stood_before r o calls answers i) d))
  pub totals : (i : ℕ) → at calls i ≡ Some Call.Totals → at answers i ≡ Some (Answer.Totals (counted_before calls answers i))
  -- a rally is refused once there is a winner, else while one is open, else where the log has no free place: it holds as many entries as it has places, and never more than 30,000
  pub call_decided : (i : ℕ) (w : Side) → at calls i ≡ Some Call.Rally → r.play.winner (stood_before r o calls answers i) ≡ Some w → at answers i ≡ Some (Answer.Refused Decided)
  pub call_open : (i n : ℕ) → at calls i ≡ Some Call.Rally → r.play.winner (stood_before r o calls answers i) ≡ None → (counted_before calls answers i).in_play ≡ Some n → at answers i ≡ Some (Answer.Refused RallyOpen)
  pub call_full : (i : ℕ) → at calls i ≡ Some Call.Rally → r.play.winner (stood_before r o calls answers i) ≡ None → (counted_before calls answers i).in_play ≡ None → min (length places) 30000 ≤ settled_before calls answers i → at answers i ≡ Some (Answer.Refused LogFull)
  -- otherwise it is called, as the match's next
  pub called : (i : ℕ) → at calls i ≡ Some Call.Rally → r.play.winner (stood_before r o calls answers i) ≡ None → (counted_before calls answers i).in_play ≡ None → settled_before calls answers i < min (length places) 30000 → at answers i ≡ Some (Answer.Called (record { match_number = number; number = (counted_before calls answers i).called + 1 }))
  -- the match's open rally is settled, and any other is refused
  pub open_settled : (i : ℕ) (k : Call) (t : RallyNumbers) → at calls i ≡ Some k → handed_in k ≡ Some t → t.match_number ≡ number → (counted_before calls answers i).in_play ≡ Some t.number → at answers i ≡ Some Answer.Settled
  pub other_refused : (i : ℕ) (k : Call) (t : RallyNumbers) → at calls i ≡ Some k → handed_in k ≡ Some t → (t.match_number ≡ number → (counted_before calls answers i).in_play ≢ Some t.number) → at answers i ≡ Some (Answer.Refused OtherRally)

-- All of it, of a match that was opened over the pile with this number, for o, with a log of these places; it met the calls, which left it there and answered so.
pub record Promise {h : Shape} (pile : Pile h) (number : ℕ) (o : Side) (places : List Entry) (calls : List Call) (left : State (StandingOf h)) (answers : List Answer) : Type 0 where
  -- the match keeps its number
  pub number_kept : left.number ≡ number
  pub cutting : Cutting pile o calls left answers
  pub mirroring : Mirroring (contest_of pile) number o places calls left answers
  pub summing : Summing places calls left answers
  pub answering : Answering (contest_of pile) number o places calls answers
