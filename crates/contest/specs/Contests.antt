-- What a contest is, and the four laws that each one keeps.
use Rattle.std.specs.Prelude.{◌≡◌, ℕ, ◌≤◌, ◌⊎◌, List, [], ◌∷◌, length, take, Some, None, Ok, Err, Option, Result}
use Rattle.contest.specs.Sides.{opposite, option_opposite, option_swapped}
use Rattle.contest.specs.declared.side.Side.{Side}
use Rattle.contest.specs.declared.level.Level.{Level}
use Rattle.contest.specs.declared.fault.ContestFault.{ContestFault}
use Rattle.contest.specs.declared.fault.ContestFault.TheVariants.{Decided}

-- how a standing goes on by a point, what can be asked of it, and its mirror image
pub record Play (S : Type 0) : Type 0 where
  pub after : S → Side → S
  pub winner : S → Option Side
  pub opener : S → Side
  pub server : S → Side
  pub level : S → ℕ → Option Level
  pub mirror : S → S

-- a contest: the standing that it opens with for a side, and how it is played
pub record Contest (S : Type 0) : Type 0 where
  pub opening : Side → S
  pub play : Play S

-- a point is refused where there is a winner, and taken where there is none
abbrev pub answered : Option Side → Result Unit ContestFault
answered (Some w) = Err Decided
answered None = Ok tt

-- s where there is a winner, and t where there is none
abbrev pub unless_won : {S : Type 0} → Option Side → S → S → S
unless_won (Some w) s t = s
unless_won None s t = t

-- the standing once a point was given: a refused point changes nothing
abbrev pub given : {S : Type 0} → Contest S → S → Side → S
given c s x = unless_won (c.play.winner s) s (c.play.after s x)

-- the second, third and fourth law, of a way of playing
pub record FairPlay {S : Type 0} (p : Play S) : Type 0 where
  -- after a point, nobody has won or the side that took it has
  pub point_winner : (s : S) (x : Side) → p.winner s ≡ None → (p.winner (p.after s x) ≡ None) ⊎ (p.winner (p.after s x) ≡ Some x)
  -- a point does not change the opener
  pub point_opener : (s : S) (x : Side) → p.winner s ≡ None → p.opener (p.after s x) ≡ p.opener s
  -- the mirror is its own inverse, commutes with points, and exchanges sides and counts
  pub mirror_twice : (s : S) → p.mirror (p.mirror s) ≡ s
  pub mirror_after : (s : S) (x : Side) → p.winner s ≡ None → p.mirror (p.after s x) ≡ p.after (p.mirror s) (opposite x)
  pub mirror_winner : (s : S) → p.winner (p.mirror s) ≡ option_opposite (p.winner s)
  pub mirror_opener : (s : S) → p.opener (p.mirror s) ≡ opposite (p.opener s)
  pub mirror_server : (s : S) → p.server (p.mirror s) ≡ opposite (p.server s)
  pub mirror_level : (s : S) (d : ℕ) → p.level (p.mirror s) d ≡ option_swapped (p.level s d)

-- the first law, of the standing that is opened for a side, and the mirror of an opening
pub record FairOpening {S : Type 0} (p : Play S) (opening : Side → S) : Type 0 where
  -- nobody has won, and the side named opens and serves
  pub open_winner : (x : Side) → p.winner (opening x) ≡ None
  pub open_opener : (x : Side) → p.opener (opening x) ≡ x
  pub open_server : (x : Side) → p.server (opening x) ≡ x
  pub mirror_opening : (x : Side) → p.mirror (opening x) ≡ opening (opposite x)

-- the four laws
pub record Laws {S : Type 0} (c : Contest S) : Type 0 where
  pub play_fair : FairPlay c.play
  pub opening_fair : FairOpening c.play c.opening

-- the standing after a list of points
abbrev pub run : {S : Type 0} → Play S → S → List Side → S
run p s [] = s
run p s (x ∷ xs) = run p (p.after s x) xs

-- each of the points was given while nobody had won
abbrev pub Taken : {S : Type 0} → Play S → S → List Side → Type 0
Taken p s [] = Unit {0}
Taken p s (x ∷ xs) = (p.winner s ≡ None) × Taken p (p.after s x) xs

-- the same two of a contest opened for o
abbrev pub played : {S : Type 0} → Contest S → Side → List Side → S
played c o ps = run c.play (c.opening o) ps

abbrev pub Takes : {S : Type 0} → Contest S → Side → List Side → Type 0
Takes c o ps = Taken c.play (c.opening o) ps

-- r is the length of the longest front of ps that the contest, opened for o, takes
pub record Longest {S : Type 0} (c : Contest S) (o : Side) (ps : List Side) (r : ℕ) : Type 0 where
  pub within : r ≤ length ps
  pub taken : Takes c o (take r ps)
  pub longest : (n : ℕ) → n ≤ length ps → Takes c o (take n ps) → n ≤ r
