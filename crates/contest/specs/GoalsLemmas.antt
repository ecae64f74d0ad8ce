-- Counts under a goal: who has won by them, one count more, and the mirror.
use Rattle.std.specs.Prelude.{◌≡◌, ℕ, ◌+◌, ◌<◌, ◌≤◌, Bool, true, false, cond, ◌&&◌, ◌⊎◌, ◌↔◌, Some, None, Option, ◌==◌, ◌≢◌, nat_le, nat_lt, refl}
use Rattle.std.proofs.Common.{inl, inr, ⊎_elim, arith}
use Rattle.std.proofs.lemmas.Bool.{and_parts, or_cases, leb-true, eqb-true}
use Rattle.std.proofs.lemmas.Bool.Decides.{nat_tests}
use Rattle.contest.specs.Sides.{opposite, option_opposite}
use Rattle.contest.specs.Faults.{goal_fault, switch_fault, or_threshold, threshold_allowed}
use Rattle.contest.specs.Goals.{Within, Reaches, Wins, none_yet, reaches, winner_by, tallied, swapped_counts}
use Rattle.contest.specs.Layers.{recounted}
use Rattle.contest.specs.declared.counts.Counts.{Counts}
use Rattle.contest.specs.declared.goal.Goal.{Goal}
use Rattle.contest.specs.declared.fault.RuleFault.{RuleFault}
use Rattle.contest.specs.declared.side.Side.{Side}
use Rattle.contest.specs.declared.side.Side.TheVariants.{A, B}

-- the numbers of an allowed goal
abbrev pub Allowed : Goal → Type 0
Allowed g = (1 ≤ g.lead) × (g.lead ≤ g.target) × (g.target ≤ g.cap) × (g.cap ≤ 9999)

pub goal_allowed : (g : Goal) → goal_fault g ≡ None → Allowed g
goal_allowed g e = grind (arith, nat_tests)

pub no_goal_fault : (g : Goal) → Allowed g → goal_fault g ≡ None
no_goal_fault g h = grind (arith, nat_tests)

pub switch_allowed : (g : Goal) (k : ℕ) → switch_fault g k ≡ None → goal_fault g ≡ None
switch_allowed g k e = go (goal_fault g) e
  where
    go : (f : Option RuleFault) → or_threshold f (threshold_allowed g k) ≡ None → f ≡ None
    go None h = refl
    go (Some x) h = cc

pub no_switch_fault : (g : Goal) (k : ℕ) → Allowed g → threshold_allowed g k ≡ true → switch_fault g k ≡ None
no_switch_fault g k h e = rw (no_goal_fault g h, e) refl

-- the test says what the rule says
reaches_by : (g : Goal) (x y : ℕ) → reaches g x y ≡ true → Reaches g x y
reaches_by g x y e =
    ⊎_elim
    (λ p. let q = and_parts (nat_le g.target x) (nat_le (y + g.lead) x) p in inl (leb-true g.target x q.0, leb-true (y + g.lead) x q.1))
    (λ p. inr (eqb-true x g.cap p))
    (or_cases (nat_le g.target x && nat_le (y + g.lead) x) (x == g.cap) e)

by_reaches : (g : Goal) (x y : ℕ) → Reaches g x y → reaches g x y ≡ true
by_reaches g x y (inl h) = grind (arith, nat_tests)
by_reaches g x y (inr h) = grind (arith, nat_tests)

-- where nobody has won, no count is at the cap
pub below_cap : (g : Goal) (n : Counts) → Within g n → winner_by g n ≡ None → (n.a < g.cap) × (n.b < g.cap)
below_cap g n h e = grind (arith, nat_tests)

pub none_within : (g : Goal) → Allowed g → Within g none_yet
none_within g h = omega arith

pub tallied_within : (g : Goal) (n : Counts) (x : Side) → Within g n → winner_by g n ≡ None → Within g (tallied n x)
tallied_within g n A h e = let r = below_cap g n h e in omega arith
tallied_within g n B h e = let r = below_cap g n h e in omega arith

pub none_wins : (g : Goal) → winner_by g none_yet ≡ None
none_wins g = refl

-- the winner by counts, here by whether A and whether B is ahead and reaches the goal
abbrev won_of : Bool → Bool → Option Side
won_of p q = cond p (Some A) (cond q (Some B) None)

won_a : (p q : Bool) → won_of p q ≡ Some A → p ≡ true
won_a true q e = refl
won_a false true e = cc
won_a false false e = cc

won_b : (p q : Bool) → won_of p q ≡ Some B → q ≡ true
won_b true q e = cc
won_b false true e = refl
won_b false false e = cc

pub winner_wins : (g : Goal) (n : Counts) (x : Side) → winner_by g n ≡ Some x → Wins g x n
winner_wins g n A e =
    reaches_by g n.a n.b
    (and_parts (nat_lt n.b n.a) (reaches g n.a n.b) (won_a _ (nat_lt n.a n.b && reaches g n.b n.a) e)).1
winner_wins g n B e =
    reaches_by g n.b n.a
    (and_parts (nat_lt n.a n.b) (reaches g n.b n.a) (won_b (nat_lt n.b n.a && reaches g n.a n.b) _ e)).1

pub wins_winner : (g : Goal) (n : Counts) (x : Side) → Allowed g → Within g n → Wins g x n → winner_by g n ≡ Some x
wins_winner g n A k h w = let e = by_reaches g n.a n.b w in grind (arith, nat_tests)
wins_winner g n B k h w = let e = by_reaches g n.b n.a w in grind (arith, nat_tests)

-- so at counts that play can come to, the winner is exactly the side whose count reaches the goal
pub winner_exactly : (g : Goal) (n : Counts) → Allowed g → Within g n → (x : Side) → (winner_by g n ≡ Some x) ↔ Wins g x n
winner_exactly g n k h x = (winner_wins g n x, wins_winner g n x k h)

-- the mirror exchanges the winner's side
won_of_swapped : (p q : Bool) → (p ≡ true → q ≢ true) → won_of q p ≡ option_opposite (won_of p q)
won_of_swapped true true h = absurd (h refl refl)
won_of_swapped true false h = refl
won_of_swapped false true h = refl
won_of_swapped false false h = refl

pub winner_swapped : (g : Goal) (n : Counts) → winner_by g (swapped_counts n) ≡ option_opposite (winner_by g n)
winner_swapped g n =
    won_of_swapped (nat_lt n.b n.a && reaches g n.a n.b) (nat_lt n.a n.b && reaches g n.b n.a)
    (λ p q. let h = and_parts (nat_lt n.b n.a) _ p in let k = and_parts (nat_lt n.a n.b) _ q in grind (arith, nat_tests))

pub tallied_swapped : (n : Counts) (x : Side) → swapped_counts (tallied n x) ≡ tallied (swapped_counts n) (opposite x)
tallied_swapped n A = refl
tallied_swapped n B = refl

pub recounted_swapped : (n : Counts) (w : Option Side) → swapped_counts (recounted n w) ≡ recounted (swapped_counts n) (option_opposite w)
recounted_swapped n None = refl
recounted_swapped n (Some w) = tallied_swapped n w

-- one count more brings nobody or the side that it was counted for
not_other_a : (g : Goal) (n : Counts) → winner_by g n ≡ None → winner_by g (tallied n A) ≢ Some B
not_other_a g n e k = grind (arith, nat_tests)

not_other_b : (g : Goal) (n : Counts) → winner_by g n ≡ None → winner_by g (tallied n B) ≢ Some A
not_other_b g n e k = grind (arith, nat_tests)

tallied_wins : (g : Goal) (n : Counts) (x : Side) → winner_by g n ≡ None → (winner_by g (tallied n x) ≡ None) ⊎ (winner_by g (tallied n x) ≡ Some x)
tallied_wins g n x e = go x (winner_by g (tallied n x)) refl
  where
    go : (x : Side) (v : Option Side) → winner_by g (tallied n x) ≡ v → (winner_by g (tallied n x) ≡ None) ⊎ (winner_by g (tallied n x) ≡ Some x)
    go A None k = inl k
    go A (Some A) k = inr k
    go A (Some B) k = absurd (not_other_a g n e k)
    go B None k = inl k
    go B (Some A) k = absurd (not_other_b g n e k)
    go B (Some B) k = inr k

pub recounted_wins : (g : Goal) (n : Counts) (x : Side) (w : Option Side) → winner_by g n ≡ None → (w ≡ None) ⊎ (w ≡ Some x) → (winner_by g (recounted n w) ≡ None) ⊎ (winner_by g (recounted n w) ≡ Some x)
recounted_wins g n x w e (inl p) = rw p (inl e)
recounted_wins g n x w e (inr p) = rw p (tallied_wins g n x e)
