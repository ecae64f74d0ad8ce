-- What follows where a check does not refuse; and that a rally just called is refused by no settling.
use Rattle.std.proofs.Common.{◌≡◌, ℕ, ◌+◌, Bool, true, false, eqb, length, Some, None, Option, refl, ap, ap₂}
use Rattle.std.proofs.lemmas.Bool.{eq-eqb, and_from}
use Rattle.contest.specs.Contests.{Contest}
use Rattle.contest.specs.declared.side.Side.{Side}
use Rattle.roll.specs.Rolls.{room}
use Rattle.umpire.specs.declared.rally.RallyNumbers.{RallyNumbers}
use Rattle.umpire.specs.declared.rally.CallFault.{CallFault}
use Rattle.umpire.specs.declared.rally.CallFault.TheVariants.{LogCount, LogFull, OtherRally}
use Rattle.umpire.specs.Sums.{while_open}
use Rattle.umpire.specs.Calls.{State, first_refusal, refused_unless, refused_if_won, refused_if_open, names_open, log_refusal, settle_refusal, point_refusal, call_refusal, rally_called, next_rally}

pub first_none : (x y : Option CallFault) → first_refusal x y ≡ None → x ≡ None
first_none (Some f) y e = e
first_none None y e = refl

pub later_none : (x y : Option CallFault) → first_refusal x y ≡ None → y ≡ None
later_none (Some f) y e = cc
later_none None y e = e

pub not_won : (w : Option Side) → refused_if_won w ≡ None → w ≡ None
not_won (Some x) e = cc
not_won None e = refl

pub not_open : (o : Option ℕ) → refused_if_open o ≡ None → while_open o ≡ 0
not_open (Some x) e = cc
not_open None e = refl

-- a check that does not refuse has passed its test
pub passed : (b : Bool) (f : CallFault) → refused_unless b f ≡ None → b ≡ true
passed true f e = refl
passed false f e = cc

module _ {S : Type 0} where
  -- settling wants a rally that is open
  names_some : (c : State S) (t : RallyNumbers) (o : Option ℕ) → refused_unless (names_open c t o) OtherRally ≡ None → while_open o ≡ 1
  names_some c t (Some n) e = refl
  names_some c t None e = cc

  pub settle_open : (c : State S) (t : RallyNumbers) → settle_refusal c t ≡ None → while_open c.totals.in_play ≡ 1
  settle_open c t e = names_some c t c.totals.in_play (first_none _ (log_refusal c) e)

module _ {S : Type 0} (r : Contest S) where
  pub point_not_won : (c : State S) (t : RallyNumbers) → point_refusal r c t ≡ None → r.play.winner c.pile ≡ None
  point_not_won c t e = not_won _ (later_none (settle_refusal c t) _ e)

  pub call_not_won : (c : State S) → call_refusal r c ≡ None → r.play.winner c.pile ≡ None
  call_not_won c e = not_won _ (first_none _ (first_refusal (refused_if_open c.totals.in_play) (log_refusal c)) e)

  pub call_not_open : (c : State S) → call_refusal r c ≡ None → while_open c.totals.in_play ≡ 0
  call_not_open c e = not_open _ (first_none _ (log_refusal c) (later_none (refused_if_won (r.play.winner c.pile)) _ e))

  pub call_placed : (c : State S) → call_refusal r c ≡ None → room c.log c.spare ≡ true
  call_placed c e = passed _ LogFull (later_none (refused_unless (eqb (length c.log) (c.totals.a + c.totals.b + c.totals.lets)) LogCount) _ (later_none (refused_if_open c.totals.in_play) _ (later_none (refused_if_won (r.play.winner c.pile)) _ e)))

  -- the rally that a call just gave is not refused
  pub fresh_settles : (c : State S) → call_refusal r c ≡ None → settle_refusal (rally_called c) (next_rally c) ≡ None
  fresh_settles c e =
      let named = and_from (eqb c.number c.number) (eqb (c.totals.called + 1) (c.totals.called + 1)) (eq-eqb c.number c.number refl) (eq-eqb (c.totals.called + 1) (c.totals.called + 1) refl) in
      let logs : log_refusal c ≡ None = later_none (refused_if_open c.totals.in_play) _ (later_none (refused_if_won (r.play.winner c.pile)) _ e) in
      ap₂ first_refusal (ap (λ b. refused_unless b OtherRally) named) logs

  pub fresh_point_settles : (c : State S) → call_refusal r c ≡ None → point_refusal r (rally_called c) (next_rally c) ≡ None
  fresh_point_settles c e = ap₂ first_refusal (fresh_settles c e) (ap refused_if_won (call_not_won c e))
