-- A race: a layer over one contest, opened anew each time.
use Rattle.contest.specs.Contests.{Contest}
use Rattle.contest.specs.Service.{Rule}
use Rattle.contest.specs.Layers.{Layer, Standing, layer}
use Rattle.contest.specs.declared.goal.Goal.{Goal}

-- what a race over a contest plays by
abbrev pub over : {S : Type 0} → Goal → Rule → Contest S → Layer S
over g r c = record { goal = g; service = r; below = c.play; opens = λ _ x. c.opening x }

abbrev pub race : {S : Type 0} → Goal → Rule → Contest S → Contest (Standing S)
race g r c = layer (over g r c)
