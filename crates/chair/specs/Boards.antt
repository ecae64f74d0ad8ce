-- What the console shows: the lines of a board, and what is said under them.
use Rattle.std.specs.Prelude.{ℕ, zero, suc, ◌+◌, ◌-◌, ◌^◌, cond, nat_lt, List, [], ◌∷◌, ◌++◌, Some, None, Option, is_none, codes}
use Rattle.std.specs.Fmt.{decimal, styled_text, styled_decimal, format_spec}
use Rattle.contest.specs.Sides.{letter}
use Rattle.contest.specs.Piles.{Shape, StandingOf, Pile}
use Rattle.contest.specs.declared.level.Level.{Level}
use Rattle.contest.specs.declared.side.Side.{Side}
use Rattle.formats.specs.Formats.{name_of}
use Rattle.formats.specs.declared.format.Format.{Format}
use Rattle.umpire.specs.Faults.{call_fault_number}
use Rattle.umpire.specs.States.{totals_of, rules_of}
use Rattle.umpire.specs.declared.matches.Match.{Match}
use Rattle.chair.specs.Texts.{label, reason_written}
use Rattle.chair.specs.declared.board.Status.{Status}
use Rattle.chair.specs.declared.board.Status.TheVariants.{WonBy, Serves}
use Rattle.chair.specs.declared.note.Note.{Note}
use Rattle.chair.specs.declared.note.Note.TheVariants.{Refused, LetAtEnd}
use Rattle.chair.specs.declared.session.reply.Reply.{Reply}
use Rattle.chair.specs.declared.start.Start.{Start}

-- the end of a line
abbrev pub line_end : List ℕ
line_end = 10 ∷ []

-- a text with blanks behind it, as wide as a column
abbrev pub at_left : ℕ → List ℕ → List ℕ
at_left width text = styled_text (format_spec 32 1 0 width (2 ^ 64 - 1)) text

-- a number with blanks before it, as wide as a column
abbrev pub at_right : ℕ → ℕ → List ℕ
at_right width n = styled_decimal (format_spec 32 3 0 width (2 ^ 64 - 1)) n

-- the end of a level's line: who has won it, if that is said
abbrev pub won_written : Option Side → List ℕ
won_written (Some x) = codes "   won by " ++ (letter x ∷ line_end)
won_written None = line_end

-- the line of a level: its label, the counts of A and of B, and who has won it
abbrev pub level_written : List ℕ → ℕ → ℕ → Option Side → List ℕ
level_written name a b won = (codes "  " ++ (at_left 20 name ++ (at_right 5 a ++ at_right 5 b))) ++ won_written won

-- who is said to have won the level at a depth: of the match itself the last line says it
abbrev pub won_below : ℕ → Option Side → Option Side
won_below zero w = None
won_below (suc d) w = w

-- the line of the level at a depth, if there is one, by that level and the next deeper one: the innermost counts points
abbrev pub line_written : Format → ℕ → Option Level → Option Level → Option (List ℕ)
line_written f d None deeper = None
line_written f d (Some l) deeper = Some (level_written (label f d (is_none deeper)) l.a l.b (won_below d l.winner))

-- a text, or nothing
abbrev pub if_any : Option (List ℕ) → List ℕ
if_any (Some text) = text
if_any None = []

-- the lines of the levels at the first n depths
abbrev pub lines_written : Format → (ℕ → Option Level) → ℕ → List ℕ
lines_written f levels zero = []
lines_written f levels (suc d) = lines_written f levels d ++ if_any (line_written f d (levels d) (levels (d + 1)))

-- the last line: who has won, or who serves and whether a rally is open
abbrev pub status_written : Status → List ℕ
status_written (WonBy x) = codes "won by " ++ (letter x ∷ line_end)
status_written (Serves x (Some n)) = codes "serves " ++ (letter x ∷ (codes ", rally " ++ (decimal n ++ (codes " is open" ++ line_end))))
status_written (Serves x None) = codes "serves " ++ (letter x ∷ (codes ", no rally is open" ++ line_end))

-- how a match stands, by who has won, who serves next, and the number of the open rally
abbrev pub status_of : Option Side → Side → Option ℕ → Status
status_of (Some x) server number = WonBy x
status_of None server number = Serves server number

-- the columns of the 22 for the title that the match's number leaves for the format's name
abbrev pub name_room : ℕ → ℕ
name_room n = cond (nat_lt n 10) 14 (cond (nat_lt n 100) 13 (cond (nat_lt n 1000) 12 (cond (nat_lt n 10000) 11 10)))

-- the first line
abbrev pub title_written : ℕ → Format → List ℕ
title_written n f = codes "match " ++ (decimal n ++ (codes " " ++ (at_left (name_room n) (name_of f) ++ (codes "    A    B" ++ line_end))))

-- the level of a match at each depth, by which pile a value of the code is, and where it stands
abbrev pub levels_of : {C : Type 0} {h : Shape} → (C → Pile h) → (C → StandingOf h) → Match C → ℕ → Option Level
levels_of pile standing m d = (rules_of pile m).play.level (standing m.pile) d

-- how it stands
abbrev pub status_in : {C : Type 0} {h : Shape} → (C → Pile h) → (C → StandingOf h) → Match C → Status
status_in pile standing m =
    let play = (rules_of pile m).play in
    let at = standing m.pile in
    status_of (play.winner at) (play.server at) (totals_of m).in_play

-- the board: the title, the levels from the outside in, and how the match stands
abbrev pub board_written : {C : Type 0} {h : Shape} → (C → Pile h) → (C → StandingOf h) → Start → Match C → List ℕ
board_written pile standing start m =
    title_written start.number start.format
    ++ (lines_written start.format (levels_of pile standing m) 16 ++ status_written (status_in pile standing m))

-- what is said under the score of what a command came to: why it was refused
abbrev pub note_of : Reply → Option Note
note_of (Reply.Refused f) = Some (Refused f)
note_of Reply.Called = None
note_of (Reply.Settled e) = None
note_of Reply.Asked = None

-- a note
abbrev pub note_written : Note → List ℕ
note_written (Refused f) = codes "refused (" ++ (decimal (call_fault_number f) ++ (codes "): " ++ (reason_written f ++ line_end)))
note_written (LetAtEnd n) = codes "rally " ++ (decimal n ++ (codes " was open: it is a let" ++ line_end))
