-- What the words of the arguments say.
use Rattle.std.specs.Prelude.{◌≡◌, ℕ, ◌^◌, ◌<◌, List, [], ◌∷◌}
use Rattle.std.specs.Str.Parse.{IsNumeral, digits_value, without_leading_plus}
use Rattle.contest.specs.Sides.{letter}
use Rattle.formats.specs.Formats.{name_of}
use Rattle.chair.specs.declared.start.Start.{Start}

-- three words name the match s: its format by its name, its number in decimal, below 65,536 and with or without a plus, and its opener by the letter
pub record Names (format number opener : List ℕ) (s : Start) : Type 0 where
  pub named : name_of s.format ≡ format
  pub numeral : IsNumeral 10 (without_leading_plus number)
  pub small : digits_value 10 (without_leading_plus number) < 2 ^ 16
  pub numbered : s.number ≡ digits_value 10 (without_leading_plus number)
  pub opened : letter s.opener ∷ [] ≡ opener
