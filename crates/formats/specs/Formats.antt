-- The codes and names of the formats.
use Rattle.std.specs.Result.{result_ok}
use Rattle.std.specs.Prelude.{◌≡◌, ◌↔◌, ℕ, zero, suc, List, [], ◌∷◌, Some, None, codes, Option, Ok, Result}
use Rattle.formats.specs.declared.format.Format.{Format}
use Rattle.formats.specs.declared.format.NoFormat.{NoFormat}
use Rattle.formats.specs.declared.format.Format.TheVariants.{Game, Tennis3, Tennis5, TennisMt, Badminton, Volleyball, Table5, SideOut}

abbrev pub code_of : Format → ℕ
code_of Game = 0
code_of Tennis3 = 1
code_of Tennis5 = 2
code_of TennisMt = 3
code_of Badminton = 4
code_of Volleyball = 5
code_of Table5 = 6
code_of SideOut = 7

abbrev pub name_of : Format → List ℕ
name_of Game = codes "game"
name_of Tennis3 = codes "tennis3"
name_of Tennis5 = codes "tennis5"
name_of TennisMt = codes "tennismt"
name_of Badminton = codes "badminton"
name_of Volleyball = codes "volleyball"
name_of Table5 = codes "table5"
name_of SideOut = codes "sideout"

-- the formats in the order of their codes, and the one that has a code
abbrev pub formats : List Format
formats = Game ∷ Tennis3 ∷ Tennis5 ∷ TennisMt ∷ Badminton ∷ Volleyball ∷ Table5 ∷ SideOut ∷ []

abbrev pub nth : List Format → ℕ → Option Format
nth [] n = None
nth (f ∷ fs) zero = Some f
nth (f ∷ fs) (suc n) = nth fs n

abbrev pub format_of : ℕ → Option Format
format_of code = nth formats code

-- r is the format that is written x, or no format is
abbrev pub ReadsFormat : {X : Type 0} → (Format → X) → X → Result Format NoFormat → Type 0
ReadsFormat written x r = (f : Format) → (r ≡ Ok f) ↔ (written f ≡ x)

-- r is the format that has the code
pub record ReadsCode (code : ℕ) (r : Result Format NoFormat) : Type 0 where
  pub value : result_ok r ≡ format_of code
  pub exactly : ReadsFormat code_of code r
