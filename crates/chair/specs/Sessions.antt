-- What a command is answered, and what it leaves of a session.
use Rattle.std.specs.Prelude.{◌≡◌, ℕ, List, [], ◌++◌, Some, None, Option}
use Rattle.contest.specs.Contests.{Contest}
use Rattle.contest.specs.Piles.{Shape, StandingOf, Pile}
use Rattle.rally_log.specs.Written.{log_bytes, entry_bytes}
use Rattle.rally_log.specs.declared.entry.Entry.{Entry}
use Rattle.rally_log.specs.declared.entry.Entry.TheVariants.{Let}
use Rattle.rally_log.specs.declared.entry.Header.{Header}
use Rattle.roll.specs.Rolls.{entries}
use Rattle.umpire.specs.Calls.{State, numbers_of, rally_with, settling, next_rally, left_after, let_settled, call_refusal, outcome_refusal}
use Rattle.umpire.specs.States.{state_of, rules_of}
use Rattle.umpire.specs.declared.calls.Call.{Call}
use Rattle.umpire.specs.declared.rally.CallFault.{CallFault}
use Rattle.umpire.specs.declared.rally.CallFault.TheVariants.{OtherRally}
use Rattle.umpire.specs.declared.rally.Rally.{Rally}
use Rattle.chair.specs.declared.command.Command.{Command}
use Rattle.chair.specs.declared.session.Session.{Session}
use Rattle.chair.specs.declared.session.reply.Reply.{Reply}

-- a session's match and log, as the umpire's calls see them
abbrev pub session_state : {C S : Type 0} → (C → S) → Session C → State S
session_state standing s = state_of standing s.ongoing s.log.now

-- the contest that it is over
abbrev pub session_rules : {C : Type 0} {h : Shape} → (C → Pile h) → Session C → Contest (StandingOf h)
session_rules pile s = rules_of pile s.ongoing

-- the entries of its log
abbrev pub logged : {C : Type 0} → Session C → List Entry
logged s = entries s.log.now

-- the first of two, where there is a refusal, else the second
abbrev pub if_refused : {X : Type 0} → Option CallFault → X → X → X
if_refused (Some f) before after = before
if_refused None before after = after

-- a reply, or the refusal
abbrev pub reply_unless : Reply → Option CallFault → Reply
reply_unless reply (Some f) = Reply.Refused f
reply_unless reply None = reply

-- what a reply adds to the log's bytes
abbrev pub record_of : Reply → List ℕ
record_of Reply.Called = []
record_of (Reply.Settled e) = entry_bytes e
record_of (Reply.Refused f) = []
record_of Reply.Asked = []

-- under any header, the log's bytes are those from before and then the record
abbrev pub Grows : List Entry → List Entry → Reply → Type 0
Grows before after reply = (h : Header) → log_bytes h after ≡ log_bytes h before ++ record_of reply

-- an open rally is a let when the session is closed: what is replied then, and what is left
abbrev pub close_reply : Option Rally → Reply
close_reply None = Reply.Asked
close_reply (Some q) = Reply.Settled Let

abbrev pub left_at_close : {S : Type 0} → State S → Option Rally → State S
left_at_close c None = c
left_at_close c (Some q) = let_settled c

module _ {S : Type 0} (r : Contest S) where
  -- what a command is replied to: with no rally held there is none to settle
  abbrev pub reply_to : State S → Option Rally → Command → Reply
  reply_to c held Command.Rally = reply_unless Reply.Called (call_refusal r c)
  reply_to c None (Command.Settle e) = Reply.Refused OtherRally
  reply_to c (Some q) (Command.Settle e) = reply_unless (Reply.Settled e) (outcome_refusal r c e (numbers_of q))
  reply_to c held Command.Score = Reply.Asked
  reply_to c held Command.Quit = Reply.Asked

  -- what it leaves of the match and its log
  abbrev pub left_by : State S → Option Rally → Command → State S
  left_by c held Command.Rally = left_after r c Call.Rally
  left_by c None (Command.Settle e) = c
  left_by c (Some q) (Command.Settle e) = left_after r c (settling e (numbers_of q))
  left_by c held Command.Score = c
  left_by c held Command.Quit = c

  -- the rally that is held then
  abbrev pub held_after : State S → Option Rally → Command → Option Rally
  held_after c held Command.Rally = if_refused (call_refusal r c) held (Some (rally_with (next_rally c)))
  held_after c None (Command.Settle e) = None
  held_after c (Some q) (Command.Settle e) = if_refused (outcome_refusal r c e (numbers_of q)) (Some q) None
  held_after c held Command.Score = held
  held_after c held Command.Quit = held

-- The session s did the command k and became s', and a was replied. pile and standing say which pile a value of the code is, and where it stands.
pub record Did {C : Type 0} {h : Shape} (pile : C → Pile h) (standing : C → StandingOf h) (s s' : Session C) (k : Command) (a : Reply) : Type 0 where
  -- the pile keeps its rules
  pub kept : pile s'.ongoing.pile ≡ pile s.ongoing.pile
  pub reply : a ≡ reply_to (session_rules pile s) (session_state standing s) s.held k
  pub after : session_state standing s' ≡ left_by (session_rules pile s) (session_state standing s) s.held k
  pub held : s'.held ≡ held_after (session_rules pile s) (session_state standing s) s.held k
