-- The words of the umpire's commands, and the blanks that may stand around one.
use Rattle.std.specs.Prelude.{◌≡◌, ℕ, Bool, cond, ◌||◌, ◌⊎◌, List, [], ◌∷◌, codes, ◌==◌, Result, MatchResult}
use Rattle.contest.specs.declared.side.Side.TheVariants.{A, B}
use Rattle.rally_log.specs.declared.entry.Entry.TheVariants.{Let, Point}
use Rattle.chair.specs.declared.command.Command.{Command}
use Rattle.chair.specs.declared.command.NoCommand.{NoCommand}

-- a space, a tab or a carriage return
abbrev pub is_blank : ℕ → Bool
is_blank b = b == 32 || (b == 9 || b == 13)

-- a line from its first byte on that is no blank
abbrev pub unindented : List ℕ → List ℕ
unindented [] = []
unindented (b ∷ bs) = cond (is_blank b) (unindented bs) (b ∷ bs)

-- a byte before what is left of the bytes behind it: where nothing is, a blank is not left either
abbrev pub joined_to : ℕ → List ℕ → List ℕ
joined_to b [] = cond (is_blank b) [] (b ∷ [])
joined_to b (c ∷ cs) = b ∷ c ∷ cs

-- a line up to its last byte that is no blank
abbrev pub unpadded : List ℕ → List ℕ
unpadded [] = []
unpadded (b ∷ bs) = joined_to b (unpadded bs)

-- a line without the blanks around it
abbrev pub trimmed : List ℕ → List ℕ
trimmed line = unpadded (unindented line)

-- the word of a command
abbrev pub word : Command → List ℕ
word Command.Rally = codes "rally"
word (Command.Settle (Point A)) = codes "A"
word (Command.Settle (Point B)) = codes "B"
word (Command.Settle Let) = codes "let"
word Command.Score = codes "score"
word Command.Quit = codes "quit"

-- its short form
abbrev pub letter : Command → List ℕ
letter Command.Rally = codes "r"
letter (Command.Settle (Point A)) = codes "a"
letter (Command.Settle (Point B)) = codes "b"
letter (Command.Settle Let) = codes "l"
letter Command.Score = codes "s"
letter Command.Quit = codes "q"

-- a text says a command
abbrev pub Says : List ℕ → Command → Type 0
Says text k = (text ≡ word k) ⊎ (text ≡ letter k)

-- r is the command that the text says, or it says none
abbrev pub ReadsCommand : List ℕ → Result Command NoCommand → Type 0
ReadsCommand text r = MatchResult r (λ k. Says text k) (λ _. (k : Command) → Says text k → ⊥)
