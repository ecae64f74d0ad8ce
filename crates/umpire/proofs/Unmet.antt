-- Refusals that no list of calls meets, from a match just opened.
use Rattle.std.proofs.Common.{◌≡◌, ℕ, zero, suc, ◌+◌, Bool, true, false, eqb, List, [], ◌∷◌, length, Some, None, Option, sym, refl, ap, ◌∙◌}
use Rattle.std.proofs.lemmas.Bool.{eq-eqb}
use Rattle.contest.specs.Contests.{Contest}
use Rattle.contest.specs.declared.side.Side.{Side}
use Rattle.roll.specs.Rolls.{at, room}
use Rattle.umpire.specs.declared.calls.Call.{Call}
use Rattle.umpire.specs.declared.calls.Answer.{Answer}
use Rattle.umpire.specs.declared.rally.RallyNumbers.{RallyNumbers}
use Rattle.umpire.specs.declared.rally.CallFault.{CallFault}
use Rattle.umpire.specs.declared.rally.CallFault.TheVariants.{Decided, RallyOpen, LogCount, LogFull, OtherRally}
use Rattle.umpire.specs.Calls.{State, first_refusal, refused_unless, refused_if_won, refused_if_open, names_open, log_refusal, settle_refusal, point_refusal, call_refusal, left_after, answer_unless, answer_to, answers_to, next_rally}
use Rattle.umpire.proofs.Refusals.{settle_open}
use Rattle.umpire.proofs.Inductions.{Consistent, consistent_after, consistent_length}

-- a fault comes from one of the checks
pub first_then : (f : CallFault) (x y : Option CallFault) → (x ≡ Some f → ⊥) → (x ≡ None → y ≡ Some f → ⊥) → first_refusal x y ≡ Some f → ⊥
first_then f (Some g) y h k e = h e
first_then f None y h k e = k refl e

-- each check refuses by its own fault alone
not_unless : (b : Bool) (f g : CallFault) → (f ≡ g → ⊥) → refused_unless b f ≡ Some g → ⊥
not_unless true f g h e = cc
not_unless false f g h e = h cc

not_if_won : (w : Option Side) (g : CallFault) → (Decided ≡ g → ⊥) → refused_if_won w ≡ Some g → ⊥
not_if_won (Some x) g h e = h cc
not_if_won None g h e = cc

not_if_open : (o : Option ℕ) (g : CallFault) → (RallyOpen ≡ g → ⊥) → refused_if_open o ≡ Some g → ⊥
not_if_open (Some x) g h e = h cc
not_if_open None g h e = cc

-- an answer that is a refusal comes from a fault
refused_by : (a : Answer) (o : Option CallFault) (f : CallFault) → (a ≡ Answer.Refused f → ⊥) → answer_unless a o ≡ Answer.Refused f → o ≡ Some f
refused_by a (Some g) f h e = cc
refused_by a None f h e = absurd (h e)

module _ {S : Type 0} (r : Contest S) where
  log_no_count : (c : State S) → Consistent r c → log_refusal c ≡ Some LogCount → ⊥
  log_no_count c h e =
      let counts : eqb (length c.log) (c.totals.a + c.totals.b + c.totals.lets) ≡ true = eq-eqb _ _ (consistent_length r c h) in
      not_unless (room c.log c.spare) LogFull LogCount (λ z. cc) (ap (λ b. first_refusal (refused_unless b LogCount) (refused_unless (room c.log c.spare) LogFull)) (sym counts) ∙ e)

  settle_no_count : (c : State S) (t : RallyNumbers) → Consistent r c → settle_refusal c t ≡ Some LogCount → ⊥
  settle_no_count c t h = first_then LogCount _ (log_refusal c) (not_unless (names_open c t c.totals.in_play) OtherRally LogCount (λ e. cc)) (λ _. log_no_count c h)

  one_no_count : (c : State S) (k : Call) → Consistent r c → answer_to r c k ≡ Answer.Refused LogCount → ⊥
  one_no_count c Call.Rally h e =
      first_then LogCount _ (first_refusal (refused_if_open c.totals.in_play) (log_refusal c)) (not_if_won (r.play.winner c.pile) LogCount (λ e. cc))
      (λ _. first_then LogCount _ (log_refusal c) (not_if_open c.totals.in_play LogCount (λ e. cc)) (λ _. log_no_count c h))
      (refused_by (Answer.Called (next_rally c)) (call_refusal r c) LogCount (λ z. cc) e)
  one_no_count c (Call.Point x t) h e =
      first_then LogCount _ (refused_if_won (r.play.winner c.pile)) (settle_no_count c t h) (λ _. not_if_won (r.play.winner c.pile) LogCount (λ e. cc))
      (refused_by Answer.Settled (point_refusal r c t) LogCount (λ z. cc) e)
  one_no_count c (Call.Let t) h e = settle_no_count c t h (refused_by Answer.Settled (settle_refusal c t) LogCount (λ z. cc) e)
  one_no_count c _ h e = cc

  pub never_count : (c : State S) (ks : List Call) → Consistent r c → (i : ℕ) → at (answers_to r c ks) i ≡ Some (Answer.Refused LogCount) → ⊥
  never_count c [] h i e = cc
  never_count c (k ∷ ks) h zero e = let same : answer_to r c k ≡ Answer.Refused LogCount = cc in one_no_count c k h same
  never_count c (k ∷ ks) h (suc i) e = never_count (left_after r c k) ks (consistent_after r c k h) i e

  log_no_won : (c : State S) → log_refusal c ≡ Some Decided → ⊥
  log_no_won c = first_then Decided _ (refused_unless (room c.log c.spare) LogFull) (not_unless (eqb (length c.log) (c.totals.a + c.totals.b + c.totals.lets)) LogCount Decided (λ e. cc)) (λ _. not_unless (room c.log c.spare) LogFull Decided (λ e. cc))

  settle_no_won : (c : State S) (t : RallyNumbers) → settle_refusal c t ≡ Some Decided → ⊥
  settle_no_won c t = first_then Decided _ (log_refusal c) (not_unless (names_open c t c.totals.in_play) OtherRally Decided (λ e. cc)) (λ _. log_no_won c)

  point_no_won : (c : State S) (x : Side) (t : RallyNumbers) → Consistent r c → answer_to r c (Call.Point x t) ≡ Answer.Refused Decided → ⊥
  point_no_won c x t h e =
      first_then Decided _ (refused_if_won (r.play.winner c.pile)) (settle_no_won c t)
      (λ fine k. let unwon = ap refused_if_won (h.unwon (settle_open c t fine)) in cc)
      (refused_by Answer.Settled (point_refusal r c t) Decided (λ z. cc) e)

  pub never_decided : (c : State S) (ks : List Call) → Consistent r c → (i : ℕ) (x : Side) (t : RallyNumbers) → at ks i ≡ Some (Call.Point x t) → at (answers_to r c ks) i ≡ Some (Answer.Refused Decided) → ⊥
  never_decided c [] h i x t e f = cc
  never_decided c (k ∷ ks) h zero x t e f =
      let same : k ≡ Call.Point x t = cc in
      let told : answer_to r c k ≡ Answer.Refused Decided = cc in
      point_no_won c x t h (ap (answer_to r c) (sym same) ∙ told)
  never_decided c (k ∷ ks) h (suc i) x t e f = never_decided (left_after r c k) ks (consistent_after r c k h) i x t e f
