-- A whole match, from its opening to its end.
use Rattle.std.specs.Prelude.{◌≡◌, ℕ, List, length, take, drop}
use Rattle.contest.specs.Piles.{Shape, StandingOf, Pile, contest_of}
use Rattle.contest.specs.declared.side.Side.{Side}
use Rattle.rally_log.specs.declared.entry.Entry.{Entry}
use Rattle.roll.specs.Rolls.{entries, spare, capacity}
use Rattle.roll.specs.declared.Roll.{Roll}
use Rattle.umpire.specs.Calls.{State, opened, left_after_all, answers_to}
use Rattle.umpire.specs.Promises.{Cutting, Summing, Answering, Promise}
use Rattle.umpire.specs.States.{end_state, places_of}
use Rattle.umpire.specs.declared.calls.Call.{Call}
use Rattle.umpire.specs.declared.calls.Answer.{Answer}
use Rattle.umpire.specs.declared.calls.Played.{Played}

-- the calls that are made: the first ones, as many as the roll can hold answers
abbrev pub made : List Call → Roll Answer → List Call
made calls answers = take (capacity answers) calls

-- A match over the pile p, with its number and opener: it was opened with an emptied log, met the calls and ended. Log and answers are the rolls as they were lent, log' and answers' the rolls as they are then, and r is what the match left.
-- pile and standing say which pile a value of the code is, and where it stands.
pub record WholeMatch {C : Type 0} {h : Shape} (pile : C → Pile h) (standing : C → StandingOf h) (p : Pile h) (number : ℕ) (o : Side) (calls : List Call) (log log' : Roll Entry) (answers answers' : Roll Answer) (r : Played C) : Type 0 where
  -- the pile keeps its rules, and each roll its places
  pub rules : pile r.pile ≡ p
  pub log_places : log'.places.ghost_name ≡ log.places.ghost_name
  pub answers_places : answers'.places.ghost_name ≡ answers.places.ghost_name
  -- each call worked on what the ones before it left: that is left, and the answers are held
  pub left : end_state standing number r log' ≡ left_after_all (contest_of p) (opened (contest_of p) number o (places_of log)) (made calls answers)
  pub told : entries answers' ≡ answers_to (contest_of p) (opened (contest_of p) number o (places_of log)) (made calls answers)
  -- the places that were not needed hold what they held
  pub log_spare : spare log' ≡ drop (length (entries log')) (places_of log)
  pub answers_spare : spare answers' ≡ drop (length (entries answers')) (places_of answers)
  -- the cutting, the mirror, the sum and the answers
  pub promise : Promise p number o (places_of log) (made calls answers) (end_state standing number r log') (entries answers')
  -- and no other outcome under that number keeps the cutting, the sum and the laws of the answers
  pub only : (left' : State (StandingOf h)) (told' : List Answer) → left'.number ≡ number → Cutting p o (made calls answers) left' told' → Summing (places_of log) (made calls answers) left' told' → Answering (contest_of p) number o (places_of log) (made calls answers) told' → (left' ≡ end_state standing number r log') × (told' ≡ entries answers')
