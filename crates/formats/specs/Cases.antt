-- The cases that decide: what the rule books say at the scores where a scorer goes wrong.
use Rattle.std.specs.Prelude.{◌≡◌, ℕ, zero, suc, List, [], ◌∷◌, ◌++◌, map, take, Some, None, Option}
use Rattle.contest.specs.Contests.{played}
use Rattle.contest.specs.Piles.{Shape, Pile, contest_of}
use Rattle.contest.specs.Service.{pairs, to_winner, twos}
use Rattle.contest.specs.declared.level.Level.{Level}
use Rattle.contest.specs.declared.side.Side.{Side}
use Rattle.contest.specs.declared.side.Side.TheVariants.{A, B}
use Rattle.formats.specs.Table.{R, Rallies, rally, hand, game, set, tennis3}

-- what can be asked: a level, the server or the winner
pub data Answer : Type 0 where
  stands : Option Level → Answer
  serves : Side → Answer
  wins : Option Side → Answer

-- a case: what the definitions answer, and what the rule book says
pub record Case : Type 0 where
  pub answer : Answer
  pub rule_book : Answer

-- the pile p, opened for A and given the points, is at a-b with the winner w, at a depth and at the top
abbrev pub at_depth : {h : Shape} → Pile h → List Side → ℕ → ℕ → ℕ → Option Side → Case
at_depth p ps d a b w = record {
  answer = stands ((contest_of p).play.level (played (contest_of p) A ps) d);
  rule_book = stands (Some (record { a = a; b = b; winner = w }));
}

abbrev pub at : {h : Shape} → Pile h → List Side → ℕ → ℕ → Option Side → Case
at p ps a b w = at_depth p ps 0 a b w

-- the side x serves next
abbrev pub served_by : {h : Shape} → Pile h → List Side → Side → Case
served_by p ps x = record { answer = serves ((contest_of p).play.server (played (contest_of p) A ps)); rule_book = serves x }

-- the winner is w
abbrev pub won_by : {h : Shape} → Pile h → List Side → Option Side → Case
won_by p ps w = record { answer = wins ((contest_of p).play.winner (played (contest_of p) A ps)); rule_book = wins w }

-- n of the same points
abbrev pub times : ℕ → List Side → List Side
times zero ps = []
times (suc n) ps = ps ++ times n ps

-- n points for each side, in turn
abbrev pub each : ℕ → List Side
each n = times n (A ∷ B ∷ [])

-- a game of tennis that a side wins to love
abbrev pub love : Side → List Side
love x = times 4 (x ∷ [])

-- n such games for each side, in turn
abbrev pub games_each : ℕ → List Side
games_each n = times n (love A ++ love B)

-- a tie-break to 7, a game of badminton and a game of table tennis
abbrev pub tie_break : Pile Rallies
tie_break = R 7 2 9999 pairs rally

abbrev pub badminton_game : Pile Rallies
badminton_game = R 21 2 30 to_winner rally

abbrev pub table_game : Pile Rallies
table_game = R 11 2 9999 twos rally

-- the points of a tie-break
abbrev pub seven : List Side
seven = A ∷ B ∷ A ∷ B ∷ A ∷ B ∷ A ∷ []

abbrev pub cases : List Case
cases =
    -- the game at 3-3: 4-3 is open, 5-3 is won
    at game (each 3) 3 3 None
    ∷ at game (each 3 ++ (A ∷ [])) 4 3 None
    ∷ at game (each 3 ++ (A ∷ A ∷ [])) 5 3 (Some A)
    -- a race to 7 by 2: 7-6 is open, 8-6 is won
    ∷ at tie_break (each 6 ++ (A ∷ [])) 7 6 None
    ∷ at tie_break (each 6 ++ (A ∷ A ∷ [])) 8 6 (Some A)
    -- a race to 21 by 2, capped at 30: 21-20 is open, 22-20 and 30-29 are won
    ∷ at badminton_game (each 20 ++ (A ∷ [])) 21 20 None
    ∷ at badminton_game (each 20 ++ (A ∷ A ∷ [])) 22 20 (Some A)
    ∷ at badminton_game (each 29 ++ (A ∷ [])) 30 29 (Some A)
    -- the set: 6-5 is open, 7-5 is won
    ∷ at set (games_each 5 ++ love A) 6 5 None
    ∷ at set (games_each 5 ++ love A ++ love A) 7 5 (Some A)
    -- pairs: the points 1 to 7 are served A B B A A B B
    ∷ served_by tie_break (take 0 seven) A
    ∷ served_by tie_break (take 1 seven) B
    ∷ served_by tie_break (take 2 seven) B
    ∷ served_by tie_break (take 3 seven) A
    ∷ served_by tie_break (take 4 seven) A
    ∷ served_by tie_break (take 5 seven) B
    ∷ served_by tie_break (take 6 seven) B
    -- twos: at 9-9 and 10-9 B serves, at 10-10 A, at 11-10 B
    ∷ served_by table_game (each 9) B
    ∷ served_by table_game (each 9 ++ (A ∷ [])) B
    ∷ served_by table_game (each 10) A
    ∷ served_by table_game (each 10 ++ (A ∷ [])) B
    -- carry: a set of seven games, or of six all and a tie-break, was opened for A, so B opens the next
    ∷ served_by tennis3 (games_each 1 ++ times 5 (love A)) B
    ∷ served_by tennis3 (games_each 6 ++ times 7 (A ∷ [])) B
    -- and there the won game or tie-break, the won set and the match stand at depths 2, 1 and 0
    ∷ at_depth tennis3 (games_each 1 ++ times 5 (love A)) 2 4 0 (Some A)
    ∷ at_depth tennis3 (games_each 6 ++ times 7 (A ∷ [])) 2 7 0 (Some A)
    ∷ at_depth tennis3 (games_each 6 ++ times 7 (A ∷ [])) 1 7 6 (Some A)
    ∷ at_depth tennis3 (games_each 6 ++ times 7 (A ∷ [])) 0 1 0 None
    -- the hand: of the points B, A, A only the third wins it, for A
    ∷ won_by hand (B ∷ []) None
    ∷ won_by hand (B ∷ A ∷ []) None
    ∷ won_by hand (B ∷ A ∷ A ∷ []) (Some A)
    ∷ []

-- the definitions answer what the rule books say
abbrev pub AsTheRuleBooksSay : Type 0
AsTheRuleBooksSay = map (λ c. c.answer) cases ≡ map (λ c. c.rule_book) cases
