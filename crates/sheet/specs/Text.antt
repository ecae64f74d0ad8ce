-- The text of a score sheet, as a list of bytes, from named pieces.
use Rattle.std.specs.Prelude.{ℕ, zero, suc, ◌+◌, List, [], ◌∷◌, ◌++◌, Some, None, codes, decimal, Option}
use Rattle.std.specs.List.{flat_map}
use Rattle.contest.specs.Contests.{Play, Contest}
use Rattle.contest.specs.Piles.{Shape, StandingOf, Pile, contest_of}
use Rattle.contest.specs.declared.level.Level.{Level}
use Rattle.contest.specs.declared.side.Side.{Side}
use Rattle.contest.specs.declared.side.Side.TheVariants.{A, B}
use Rattle.formats.specs.Formats.{name_of}
use Rattle.rally_log.specs.Entries.{points_in, lets_in, count_of}
use Rattle.contest.specs.Sides.{letter}
use Rattle.rally_log.specs.declared.entry.Entry.{Entry}
use Rattle.sheet.specs.declared.closing.Closing.{Closing}
use Rattle.sheet.specs.declared.text.Heading.{Heading}
use Rattle.sheet.specs.declared.sheet.Sheet.{Sheet}

-- a line: its first field, each other one behind one space, and the end of the line
abbrev pub rest_of_line : List (List ℕ) → List ℕ
rest_of_line [] = 10 ∷ []
rest_of_line (f ∷ fs) = 32 ∷ (f ++ rest_of_line fs)

abbrev pub line : List ℕ → List (List ℕ) → List ℕ
line f fs = f ++ rest_of_line fs

-- the field of two counts, parted by a hyphen
abbrev pub counts : ℕ → ℕ → List ℕ
counts a b = decimal a ++ (45 ∷ decimal b)

-- the field of a side
abbrev pub side : Side → List ℕ
side x = letter x ∷ []

-- the match: its number, the name of its format and its opener
abbrev pub match_line : ℕ → List ℕ → Side → List ℕ
match_line number name o = line (codes "match") (decimal number ∷ name ∷ codes "opener" ∷ side o ∷ [])

-- a closing: its depth, the two counts and the winner
abbrev pub closing_line : Closing → List ℕ
closing_line c = line (decimal c.depth) (counts c.a c.b ∷ side c.winner ∷ [])

-- the totals of so many points of A and of B and so many lets: points plus lets, the points, the lets
abbrev pub totals_line : ℕ → ℕ → ℕ → List ℕ
totals_line a b lets = line (codes "rallies") (decimal (a + b + lets) ∷ codes "points" ∷ counts a b ∷ codes "lets" ∷ decimal lets ∷ [])

-- fields that stand behind others
abbrev pub spaced : List (List ℕ) → List ℕ
spaced = flat_map (λ f. 32 ∷ f)

-- the fields of the levels without a winner, from depth 0 to below d
abbrev pub unless_closed : Option Side → List ℕ → List (List ℕ)
unless_closed None f = f ∷ []
unless_closed (Some w) f = []

abbrev pub open_field : Option Level → List (List ℕ)
open_field None = []
open_field (Some l) = unless_closed l.winner (counts l.a l.b)

abbrev pub open_fields : {S : Type 0} → Play S → S → ℕ → List (List ℕ)
open_fields p s zero = []
open_fields p s (suc d) = open_fields p s d ++ open_field (p.level s d)

-- the end: the winner, or the server and the counts of each level without a winner, depths 0 to 15
abbrev pub last_line : {S : Type 0} → Play S → S → Option Side → List ℕ
last_line p s (Some w) = line (codes "won") (side w ∷ [])
last_line p s None = line (codes "serves") (side (p.server s) ∷ open_fields p s 16)

-- the sheet of a match: its heading, the entries of its log, their closings, and where it then stands
unfoldable pub text_of : {S : Type 0} → Contest S → Heading → List Entry → List Closing → S → List ℕ
text_of c h es closings s =
    match_line h.number (name_of h.format) h.opener
    ++ (flat_map closing_line closings
    ++ (totals_line (count_of A (points_in es)) (count_of B (points_in es)) (lets_in es)
    ++ last_line c.play s (c.play.winner s)))

-- what a sheet tells of, where each thing of the type C is a pile that stands somewhere: its text, and who has won
module _ {C : Type 0} {h : Shape} (pile : C → Pile h) (standing : C → StandingOf h) (s : Sheet C) where
  abbrev pub text_of_sheet : List ℕ
  text_of_sheet = text_of (contest_of (pile s.pile.now)) s.heading s.log.now s.closings.now (standing s.pile.now)

  abbrev pub winner_of_sheet : Option Side
  winner_of_sheet = (contest_of (pile s.pile.now)).play.winner (standing s.pile.now)
