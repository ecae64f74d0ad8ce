-- The points of a layer have exactly one cutting, and the layer stands as the cutting says.
use Rattle.std.proofs.Common.{◌≡◌, List, [], ◌∷◌, ◌++◌, Some, None, Option, sym, refl, ap, ◌∙◌, subst, append_assoc, append-nil}
use Rattle.contest.specs.Contests.{FairPlay, run, Taken, played}
use Rattle.contest.specs.Goals.{Wins, none_yet, winner_by, tallied}
use Rattle.contest.specs.Layers.{Layer, Standing, layer, stands, next_opener, ready, recounted, reached, served}
use Rattle.contest.specs.Cuttings.{Piece, Cutting, Start, first, begun, ended, next, Along, Played, joined, Cuts, won, stands_at, serves_at, level_of, Parted}
use Rattle.contest.specs.declared.counts.Counts.{Counts}
use Rattle.contest.specs.declared.side.Side.{Side}
use Rattle.contest.specs.declared.side.Side.TheVariants.{A, B}
use Rattle.contest.proofs.Runs.{Whole, Undecided, not_both, run_append, taken_front, taken_back, taken_push, last_point, whole_once, whole_not_begins}
use Rattle.contest.specs.GoalsLemmas.{Allowed, Within, none_within, none_wins, tallied_within, winner_wins, wins_winner}

abbrev piece : List Side → Side → Piece
piece ps w = record { points = ps; winner = w }

abbrev cutting : List Piece → List Side → Cutting
cutting ps rest = record { pieces = ps; rest = rest }

abbrev start : Counts → Side → Start
start n x = record { counts = n; opener = x }

-- the counts n, and then those of the pieces
abbrev count_from : Counts → List Piece → Counts
count_from n [] = n
count_from n (p ∷ ps) = count_from (tallied n p.winner) ps

tallied_swap : (n : Counts) (x y : Side) → tallied (tallied n x) y ≡ tallied (tallied n y) x
tallied_swap n A A = refl
tallied_swap n A B = refl
tallied_swap n B A = refl
tallied_swap n B B = refl

count_more : (n : Counts) (x : Side) (ps : List Piece) → count_from (tallied n x) ps ≡ tallied (count_from n ps) x
count_more n x [] = refl
count_more n x (p ∷ ps) = ap (λ (m : Counts). count_from m ps) (tallied_swap n x p.winner) ∙ count_more (tallied n p.winner) x ps

count_won : (ps : List Piece) → count_from none_yet ps ≡ won ps
count_won [] = refl
count_won (p ∷ ps) = count_more none_yet p.winner ps ∙ ap (λ (m : Counts). tallied m p.winner) (count_won ps)

-- a cutting of ps, where the first contest starts at b
abbrev Found : {S : Type 0} → Layer S → Side → Start → List Side → Type 0
Found l o b ps = (c : Cutting) × (joined c.pieces c.rest ≡ ps) × Played l o b c.pieces c.rest

module _ {S : Type 0} (l : Layer S) (fresh : (n : Counts) (x : Side) → l.below.winner (l.opens n x) ≡ None) where
  one_more : (b : Start) (qs : List Side) (y : Side) → Undecided l.below (begun l b) qs → Taken l.below (begun l b) (qs ++ (y ∷ []))
  one_more b qs y u = taken_push l.below (begun l b) qs y u.not_before u.at_last

  new : (b : Start) → Undecided l.below (begun l b) []
  new b = record { not_before = tt; at_last = fresh b.counts b.opener }

  -- any points can be cut, here where qs are the points so far of the contest below
  cut : (o : Side) (b : Start) (qs ps : List Side) → Undecided l.below (begun l b) qs → Found l o b (qs ++ ps)
  cut o b qs [] u = (cutting [] qs, sym (append-nil qs), u)
  cut o b qs (y ∷ ps) u =
      go (l.below.winner (run l.below (begun l b) (qs ++ (y ∷ [])))) refl (λ b qs u. cut o b qs ps u)
    where
      go : (v : Option Side) → l.below.winner (run l.below (begun l b) (qs ++ (y ∷ []))) ≡ v
          → ((b : Start) (qs : List Side) → Undecided l.below (begun l b) qs → Found l o b (qs ++ ps))
          → Found l o b (qs ++ (y ∷ ps))
      go None e more =
          let r = more b (qs ++ (y ∷ [])) (record { not_before = one_more b qs y u; at_last = e }) in
          (r.0, r.1 ∙ append_assoc qs (y ∷ []) ps, r.2)
      go (Some w) e more =
          let p = piece (qs ++ (y ∷ [])) w in
          let r = more (next l o b p) [] (new (next l o b p)) in (
            cutting (p ∷ r.0.pieces) r.0.rest,
            ap (λ (t : List Side). (qs ++ (y ∷ [])) ++ t) r.1 ∙ append_assoc qs (y ∷ []) ps,
            (record { not_before = one_more b qs y u; at_last = e }, r.2),
          )

  -- in one way only
  only_one : (o : Side) (b : Start) (ps qs : List Piece) (us vs : List Side) → joined ps us ≡ joined qs vs → Played l o b ps us → Played l o b qs vs → cutting ps us ≡ cutting qs vs
  only_one o b [] [] us vs e h k = ap (λ (t : List Side). cutting [] t) e
  only_one o b [] (q ∷ qs) us vs e h k =
      absurd (whole_not_begins l.below (begun l b) q.points (joined qs vs) q.winner (subst (λ (t : List Side). Undecided l.below (begun l b) t) e h) k.0)
  only_one o b (p ∷ ps) [] us vs e h k =
      absurd (whole_not_begins l.below (begun l b) p.points (joined ps us) p.winner (subst (λ (t : List Side). Undecided l.below (begun l b) t) (sym e) k) h.0)
  only_one o b (p ∷ ps) (q ∷ qs) us vs e h k =
      let r = whole_once l.below (begun l b) p.points q.points (joined ps us) (joined qs vs) p.winner q.winner e h.0 k.0 in
      let pq : p ≡ q = λ i. piece (r.0 i) (r.2 i) in
      let k' = subst (λ (t : Piece). Played l o (next l o b t) qs vs) (sym pq) k.1 in
      let same = only_one o (next l o b p) ps qs us vs r.1 h.1 k' in
      λ i. cutting (pq i ∷ (same i).pieces) (same i).rest

  -- what the layer makes of a point
  after_on : (s : Standing S) (y : Side) (t : S) (v : Option Side) → ready l s (l.below.winner s.below) ≡ t → l.below.winner (l.below.after t y) ≡ v
      → (layer l).play.after s y ≡ stands s.opener (recounted s.counts v) (l.below.after t y)
  after_on s y t v e k = cc

  whole_run : (s : Standing S) (t : S) (ys : List Side) (w : Side) → ready l s (l.below.winner s.below) ≡ t → l.below.winner t ≡ None → Whole l.below t ys w
      → run (layer l).play s ys ≡ stands s.opener (tallied s.counts w) (run l.below t ys)
  whole_run s t [] w e n h = absurd (not_both (l.below.winner t) w n h.at_last)
  whole_run s t (y ∷ []) w e n h = after_on s y t (Some w) e h.at_last
  whole_run s t (y ∷ z ∷ zs) w e n h =
      let m = stands s.opener s.counts (l.below.after t y) in
      ap (λ (u : Standing S). run (layer l).play u (z ∷ zs)) (after_on s y t None e h.not_before.1.0)
      ∙ whole_run m (l.below.after t y) (z ∷ zs) w (ap (ready l m) h.not_before.1.0) h.not_before.1.0 (record { not_before = h.not_before.1; at_last = h.at_last })

  rest_run : (s : Standing S) (t : S) (y : Side) (ys : List Side) → ready l s (l.below.winner s.below) ≡ t → Undecided l.below t (y ∷ ys)
      → run (layer l).play s (y ∷ ys) ≡ stands s.opener s.counts (run l.below t (y ∷ ys))
  rest_run s t y [] e h = after_on s y t None e h.at_last
  rest_run s t y (z ∷ zs) e h =
      let m = stands s.opener s.counts (l.below.after t y) in
      ap (λ (u : Standing S). run (layer l).play u (z ∷ zs)) (after_on s y t None e h.not_before.1.0)
      ∙ rest_run m (l.below.after t y) z zs (ap (ready l m) h.not_before.1.0) (record { not_before = h.not_before.1; at_last = h.at_last })

  -- the layer stands as a cutting says
  pieces_run : (s : Standing S) (x : Side) (ps : List Piece) (rest : List Side) → ready l s (l.below.winner s.below) ≡ l.opens s.counts x → Played l s.opener (start s.counts x) ps rest
      → run (layer l).play s (joined ps rest) ≡ stands s.opener (count_from s.counts ps) (stands_at l s.opener s.below (start s.counts x) ps rest)
  pieces_run s x [] [] e h = refl
  pieces_run s x [] (y ∷ ys) e h = rest_run s (l.opens s.counts x) y ys e h
  pieces_run s x (p ∷ ps) rest e h =
      let m = stands s.opener (tallied s.counts p.winner) (ended l (start s.counts x) p) in
      run_append (layer l).play s p.points (joined ps rest)
      ∙ ap (λ (u : Standing S). run (layer l).play u (joined ps rest)) (whole_run s (l.opens s.counts x) p.points p.winner e (fresh s.counts x) h.0)
      ∙ pieces_run m (next_opener l m p.winner) ps rest (ap (ready l m) h.0.at_last) h.1

  -- the server is the one that a cutting says
  pieces_serve : (o x : Side) (t : S) (b : Start) (ps : List Piece) (rest : List Side) → served l (stands o b.counts t) (l.below.winner t) ≡ x → Played l o b ps rest
      → (layer l).play.server (stands o (count_from b.counts ps) (stands_at l o t b ps rest)) ≡ serves_at l o x b ps rest
  pieces_serve o x t b [] [] e h = e
  pieces_serve o x t b [] (y ∷ ys) e h = ap (served l (stands o b.counts (run l.below (begun l b) (y ∷ ys)))) h.at_last
  pieces_serve o x t b (p ∷ ps) rest e h =
      pieces_serve o (next l o b p).opener (ended l b p) (next l o b p) ps rest (ap (served l (stands o (tallied b.counts p.winner) (ended l b p))) h.0.at_last) h.1

  -- the counts stay within the goal
  counts_within : Allowed l.goal → (s : Standing S) (ps : List Side) → Within l.goal s.counts → Taken (layer l).play s ps → Within l.goal (run (layer l).play s ps).counts
  counts_within ok s [] w h = w
  counts_within ok s (y ∷ ys) w h =
      let u = l.below.after (ready l s (l.below.winner s.below)) y in
      counts_within ok (reached l s u) ys (step (l.below.winner u)) h.1
    where
      step : (v : Option Side) → Within l.goal (recounted s.counts v)
      step None = w
      step (Some x) = tallied_within l.goal s.counts x w h.0

  each_of : (D : Start → List Side → Type 0) → ((b : Start) (qs : List Side) → Taken l.below (begun l b) qs → D b qs)
      → (o : Side) (b : Start) (ps : List Piece) (rest : List Side) → Played l o b ps rest → Along l o (λ b p. D b p.points) D b ps rest
  each_of D d o b [] rest h = d b rest h.not_before
  each_of D d o b (p ∷ ps) rest h = (d b p.points h.0.not_before, each_of D d o (next l o b p) ps rest h.1)

  -- every cutting says how the layer stands
  cuts_run : (o : Side) (ps : List Side) (c : Cutting) → Cuts l o ps c
      → played (layer l) o ps ≡ stands o (won c.pieces) (stands_at l o (begun l (first o)) (first o) c.pieces c.rest)
  cuts_run o ps c h =
      ap (λ (t : List Side). played (layer l) o t) (sym h.all)
      ∙ pieces_run ((layer l).opening o) o c.pieces c.rest (ap (ready l ((layer l).opening o)) (fresh none_yet o)) h.played
      ∙ ap (λ (n : Counts). stands o n (stands_at l o (begun l (first o)) (first o) c.pieces c.rest)) (count_won c.pieces)

  cuts_decide : Allowed l.goal → (o : Side) (ps : List Side) (c : Cutting) → Cuts l o ps c → Taken (layer l).play ((layer l).opening o) ps → (x : Side)
      → Wins l.goal x (won c.pieces) → winner_by l.goal (played (layer l) o ps).counts ≡ Some x
  cuts_decide ok o ps c h t x m =
      wins_winner l.goal (played (layer l) o ps).counts x ok
      (counts_within ok ((layer l).opening o) ps (none_within l.goal ok) t)
      (subst (λ (n : Counts). Wins l.goal x n) (ap (λ (s : Standing S). s.counts) (sym (cuts_run o ps c h))) m)

-- the cutting of a layer: D is what is shown of the points of each contest below
pub parted : {S : Type 0} (l : Layer S) → Allowed l.goal → FairPlay (layer l).play → ((n : Counts) (x : Side) → l.below.winner (l.opens n x) ≡ None)
    → (D : Start → List Side → Type 0) → ((b : Start) (qs : List Side) → Taken l.below (begun l b) qs → D b qs)
    → (o : Side) (ps : List Side) → Taken (layer l).play ((layer l).opening o) ps → Parted l D o ps
parted {S} l ok fair fresh D d o ps taken =
    let found = cut l fresh o (first o) [] ps (new l fresh (first o)) in
    let c = found.0 in
    let cuts : Cuts l o ps c = record { all = found.1; played = found.2 } in
    let stood = cuts_run l fresh o ps c cuts in
    let counts = ap (λ (s : Standing S). s.counts) stood in
    let decides = cuts_decide l fresh ok o ps c cuts taken in
    record {
      cutting = c;
      cuts = cuts;
      only = λ e h. only_one l fresh o (first o) e.pieces c.pieces e.rest c.rest (h.all ∙ sym cuts.all) h.played cuts.played;
      level = ap (λ (n : Counts). Some (level_of n (winner_by l.goal (played (layer l) o ps).counts))) counts;
      deeper = λ d. refl;
      opener = ap (λ (s : Standing S). s.opener) stood;
      below = ap (λ (s : Standing S). s.below) stood;
      server =
          ap (λ (s : Standing S). (layer l).play.server s) stood
          ∙ ap (λ (n : Counts). (layer l).play.server (stands o n (stands_at l o (begun l (first o)) (first o) c.pieces c.rest))) (sym (count_won c.pieces))
          ∙ pieces_serve l fresh o (l.below.server (begun l (first o))) (begun l (first o)) (first o) c.pieces c.rest (ap (served l (stands o none_yet (begun l (first o)))) (fresh none_yet o)) cuts.played;
      winner = λ x. (λ e. subst (λ (n : Counts). Wins l.goal x n) counts (winner_wins l.goal (played (layer l) o ps).counts x e), decides x);
      took_last = λ x e. last_point (layer l).play fair.point_winner ((layer l).opening o) ps x (none_wins l.goal) taken e;
      not_before = λ qs rs y e is h x m.
          let t = subst (λ (t : List Side). Taken (layer l).play ((layer l).opening o) t) is taken in
          not_both (winner_by l.goal (played (layer l) o qs).counts) x
          (taken_back (layer l).play ((layer l).opening o) qs (y ∷ rs) t).0
          (cuts_decide l fresh ok o qs e h (taken_front (layer l).play ((layer l).opening o) qs (y ∷ rs) t) x m);
      each = each_of l fresh D d o (first o) c.pieces c.rest cuts.played;
    }
