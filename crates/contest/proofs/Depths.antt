-- How far down a layer has levels, and levels with a winner, from how far down the contest below has them.
use Rattle.std.proofs.Common.{◌≡◌, ℕ, zero, suc, ◌<◌, ◌≤◌, true, is_some, Some, None, Option, sym, refl, ap, subst, arith}
use Rattle.contest.specs.Depths.{LevelsWithin, Closed, winner_in, one_more, closed_above}
use Rattle.contest.specs.Goals.{winner_by}
use Rattle.contest.specs.Layers.{Layer, Standing, layer}
use Rattle.contest.specs.declared.side.Side.{Side}

module _ {S : Type 0} (l : Layer S) (s : Standing S) where
  -- one level more
  pub layer_levels : (n r : ℕ) → LevelsWithin l.below s.below n → r ≡ one_more n → LevelsWithin (layer l).play s r
  layer_levels n r h e =
      record {
        no_more = λ d. elim d as (λ d. r ≤ d → d < 65535 → (layer l).play.level s d ≡ None) [ zero ↦ λ j k. absurd (omega arith) | suc d ↦ λ j k. h.no_more d (omega arith) (omega arith) ];
      }

  -- something below has a winner, or the layer has: as far down as below, and the layer's own level
  closed_more : (n : ℕ) → Closed l.below s.below n → (n ≡ 0 → is_some (winner_by l.goal s.counts) ≡ true) → Closed (layer l).play s (one_more n)
  closed_more n h own =
      record {
        deepest = λ d. elim d as (λ d. one_more n ≡ suc d → one_more n < 65535 → is_some (winner_in ((layer l).play.level s d)) ≡ true) [ zero ↦ λ e k. own (omega arith) | suc d ↦ λ e k. h.deepest d (omega arith) (omega arith) ];
        no_deeper = λ d. elim d as (λ d. one_more n ≤ d → d < 65535 → winner_in ((layer l).play.level s d) ≡ None) [ zero ↦ λ j k. absurd (omega arith) | suc d ↦ λ j k. h.no_deeper d (omega arith) (omega arith) ];
      }

  -- nothing has
  closed_none : Closed l.below s.below 0 → winner_by l.goal s.counts ≡ None → Closed (layer l).play s 0
  closed_none h own =
      record {
        deepest = λ d e k. absurd (omega arith);
        no_deeper = λ d. elim d as (λ d. 0 ≤ d → d < 65535 → winner_in ((layer l).play.level s d) ≡ None) [ zero ↦ λ j k. own | suc d ↦ λ j k. h.no_deeper d (omega arith) (omega arith) ];
      }

  by_winner : (n : ℕ) (w : Option Side) → winner_by l.goal s.counts ≡ w → Closed l.below s.below n → Closed (layer l).play s (closed_above n w)
  by_winner zero None e h = closed_none h e
  by_winner zero (Some x) e h = closed_more 0 h (λ _. ap is_some e)
  by_winner (suc n) w e h = closed_more (suc n) h (λ z. absurd (omega arith))

  -- as far down as below, and by the layer's own winner
  pub layer_closed : (n r : ℕ) → Closed l.below s.below n → r ≡ closed_above n (winner_by l.goal s.counts) → Closed (layer l).play s r
  layer_closed n r h e = subst (Closed (layer l).play s) (sym e) (by_winner n (winner_by l.goal s.counts) refl h)
