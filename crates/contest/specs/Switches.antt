-- A switch: a layer over two contests, the ordinary and the deciding one. The counts choose which of them is opened.
use Rattle.std.specs.Prelude.{ℕ, Bool, true, false, ◌&&◌, ◌⊎◌, nat_le}
use Rattle.std.proofs.Common.{inl, inr}
use Rattle.contest.specs.Contests.{Play, Contest}
use Rattle.contest.specs.Service.{Rule}
use Rattle.contest.specs.Layers.{Layer, Standing, layer}
use Rattle.contest.specs.declared.counts.Counts.{Counts}
use Rattle.contest.specs.declared.goal.Goal.{Goal}

-- an answer by which of the two contests stands: an ordinary one on the left, a deciding one on the right
abbrev pub by_kind : {S T X : Type 0} → (S → X) → (T → X) → S ⊎ T → X
by_kind f g (inl s) = f s
by_kind f g (inr t) = g t

-- the deciding contest where the test holds, else the ordinary one
abbrev pub chosen : {S T : Type 0} → Bool → S → T → S ⊎ T
chosen true s t = inr t
chosen false s t = inl s

-- each contest is played in its own way
abbrev pub either_play : {S T : Type 0} → Play S → Play T → Play (S ⊎ T)
either_play p q = record {
  after = λ s x. by_kind (λ u. inl (p.after u x)) (λ u. inr (q.after u x)) s;
  winner = by_kind p.winner q.winner;
  opener = by_kind p.opener q.opener;
  server = by_kind p.server q.server;
  level = λ s d. by_kind (λ u. p.level u d) (λ u. q.level u d) s;
  mirror = by_kind (λ u. inl (p.mirror u)) (λ u. inr (q.mirror u));
}

-- a contest that opens at these counts is a deciding one: both are at least the threshold k
abbrev pub decisive : ℕ → Counts → Bool
decisive k n = nat_le k n.a && nat_le k n.b

-- what a switch between two contests plays by
abbrev pub between : {S T : Type 0} → Goal → Rule → ℕ → Contest S → Contest T → Layer (S ⊎ T)
between g r k c d = record {
  goal = g;
  service = r;
  below = either_play c.play d.play;
  opens = λ n x. chosen (decisive k n) (c.opening x) (d.opening x);
}

abbrev pub switch : {S T : Type 0} → Goal → Rule → ℕ → Contest S → Contest T → Contest (Standing (S ⊎ T))
switch g r k c d = layer (between g r k c d)
