-- The cutting: how a layer's points are parted into those of the contests below it, one after the other.
use Rattle.std.specs.Prelude.{◌≡◌, ℕ, suc, ◌↔◌, List, [], ◌∷◌, ◌++◌, Some, None, Option}
use Rattle.contest.specs.Contests.{Play, run, Taken, played}
use Rattle.contest.specs.Goals.{Wins, none_yet, tallied}
use Rattle.contest.specs.Layers.{Layer, Standing, layer, stands, next_opener}
use Rattle.contest.specs.declared.counts.Counts.{Counts}
use Rattle.contest.specs.declared.side.Side.{Side}
use Rattle.contest.specs.declared.level.Level.{Level}

-- a piece: the points of one lower contest from its opening to its end, and who won it
pub record Piece : Type 0 where
  pub points : List Side
  pub winner : Side

-- a cutting: the pieces in order, and the rest, the points since the last of them
pub record Cutting : Type 0 where
  pub pieces : List Piece
  pub rest : List Side

-- from the standing s, the points bring the winner w, or nobody yet, and no earlier one brings any
pub record Ends {S : Type 0} (p : Play S) (s : S) (ps : List Side) (w : Option Side) : Type 0 where
  pub not_before : Taken p s ps
  pub at_last : p.winner (run p s ps) ≡ w

-- where a lower contest starts: once each side has won so many pieces, opened for this side
pub record Start : Type 0 where
  pub counts : Counts
  pub opener : Side

-- the first one starts at no counts, for the layer's opener
abbrev pub first : Side → Start
first o = record { counts = none_yet; opener = o }

-- the lower contest as it is opened there, and as a piece leaves it
abbrev pub begun : {S : Type 0} → Layer S → Start → S
begun l b = l.opens b.counts b.opener

abbrev pub ended : {S : Type 0} → Layer S → Start → Piece → S
ended l b p = run l.below (begun l b) p.points

-- where the one after a piece starts: for the side that the service rule of the layer, itself opened for o, names
abbrev pub next : {S : Type 0} → Layer S → Side → Start → Piece → Start
next l o b p =
    let n = tallied b.counts p.winner in
    record { counts = n; opener = next_opener l (stands o n (ended l b p)) p.winner }

-- P of every piece and Q of the rest, each at its start
abbrev pub Along : {S : Type 0} → Layer S → Side → (Start → Piece → Type 0) → (Start → List Side → Type 0) → Start → List Piece → List Side → Type 0
Along l o P Q b [] rest = Q b rest
Along l o P Q b (p ∷ ps) rest = P b p × Along l o P Q (next l o b p) ps rest

-- each piece is whole: its last point, and no earlier one, brings its contest a winner; the rest brings none
abbrev pub Played : {S : Type 0} → Layer S → Side → Start → List Piece → List Side → Type 0
Played l o = Along l o (λ b p. Ends l.below (begun l b) p.points (Some p.winner)) (λ b rest. Ends l.below (begun l b) rest None)

-- the points of the pieces and of the rest, in order
abbrev pub joined : List Piece → List Side → List Side
joined [] rest = rest
joined (p ∷ ps) rest = p.points ++ joined ps rest

-- c cuts the points ps of the layer l, opened for o
pub record Cuts {S : Type 0} (l : Layer S) (o : Side) (ps : List Side) (c : Cutting) : Type 0 where
  pub all : joined c.pieces c.rest ≡ ps
  pub played : Played l o (first o) c.pieces c.rest

-- how many pieces each side won
abbrev pub won : List Piece → Counts
won [] = none_yet
won (p ∷ ps) = tallied (won ps) p.winner

-- how the contest below stands: as the rest leaves the one that it opens; an empty rest opens nothing, and leaves it at t, as the last piece left it
abbrev pub stands_at : {S : Type 0} → Layer S → Side → S → Start → List Piece → List Side → S
stands_at l o t b [] [] = t
stands_at l o t b [] (y ∷ ys) = run l.below (begun l b) (y ∷ ys)
stands_at l o t b (p ∷ ps) rest = stands_at l o (ended l b p) (next l o b p) ps rest

-- who serves: as the rest leaves the one that it opens; with an empty rest x, the opener of the one to come
abbrev pub serves_at : {S : Type 0} → Layer S → Side → Side → Start → List Piece → List Side → Side
serves_at l o x b [] [] = x
serves_at l o x b [] (y ∷ ys) = l.below.server (run l.below (begun l b) (y ∷ ys))
serves_at l o x b (p ∷ ps) rest = serves_at l o (next l o b p).opener (next l o b p) ps rest

-- the level of a layer: how many pieces each side won, and the winner
abbrev pub level_of : Counts → Option Side → Level
level_of n w = record { a = n.a; b = n.b; winner = w }

-- how the points ps bring the layer l, opened for o, to the standing s. D is what is said of the points of each contest below, from its start
pub record Parts {S : Type 0} (l : Layer S) (D : Start → List Side → Type 0) (o : Side) (ps : List Side) (s : Standing S) : Type 0 where
  -- there is exactly one cutting
  pub cutting : Cutting
  pub cuts : Cuts l o ps cutting
  pub only : (c : Cutting) → Cuts l o ps c → c ≡ cutting
  -- the level at depth 0 is the number of pieces that each side won, with the winner
  pub level : (layer l).play.level s 0 ≡ Some (level_of (won cutting.pieces) ((layer l).play.winner s))
  -- a deeper level is that of the contest below, and the opener is the one that it was opened for
  pub deeper : (d : ℕ) → (layer l).play.level s (suc d) ≡ l.below.level s.below d
  pub opener : (layer l).play.opener s ≡ o
  -- the contest below stands where the last piece or the rest leaves it
  pub below : s.below ≡ stands_at l o (begun l (first o)) (first o) cutting.pieces cutting.rest
  pub server : (layer l).play.server s ≡ serves_at l o (l.below.server (begun l (first o))) (first o) cutting.pieces cutting.rest
  -- a side is winner exactly if its pieces meet target and lead, or the cap
  pub winner : (x : Side) → ((layer l).play.winner s ≡ Some x) ↔ Wins l.goal x (won cutting.pieces)
  -- the winner took the last point, and before it no side's pieces met the goal
  pub took_last : (x : Side) → (layer l).play.winner s ≡ Some x → (qs : List Side) × (ps ≡ qs ++ (x ∷ []))
  pub not_before : (qs rs : List Side) (y : Side) (c : Cutting) → ps ≡ qs ++ (y ∷ rs) → Cuts l o qs c → (x : Side) → Wins l.goal x (won c.pieces) → ⊥
  -- and so in each contest below
  pub each : Along l o (λ b p. D b p.points) D (first o) cutting.pieces cutting.rest

-- the same of the standing that the points bring
abbrev pub Parted : {S : Type 0} → Layer S → (Start → List Side → Type 0) → Side → List Side → Type 0
Parted l D o ps = Parts l D o ps (played (layer l) o ps)
