-- The loop of `play`: one call more, and its end.
use Rattle.std.proofs.Common.{◌≡◌, ℕ, ◌+◌, ◌<◌, min, true, List, [], ◌∷◌, ◌++◌, length, get_or, drop, Some, None, Option, Ok, Result, sym, refl, ap, ◌∙◌, ap₂, arith}
use Rattle.std.proofs.lemmas.List.{append-nil, append_assoc, length-append, length-drop, at_drop_more, at_drop_all, drop-drop}
use Rattle.std.proofs.lemmas.Bool.{lt-ltb}
use Rattle.std.proofs.lemmas.Grind.{common_steps}
use Rattle.std.specs.Result.{MatchResult, IsErrAnd}
use Rattle.umpire.specs.declared.rally.Unsettled.{Unsettled}
use Rattle.contest.specs.Contests.{Contest}
use Rattle.roll.specs.Rolls.{room, pushed, used}
use Rattle.umpire.specs.Calls.{State, left_after, left_after_all, answer_to, answers_to, answer_unless, settle_result, settle_answer}
use Rattle.umpire.specs.declared.calls.Call.{Call}
use Rattle.umpire.specs.declared.calls.Answer.{Answer}
use Rattle.umpire.specs.declared.rally.Rally.{Rally}
use Rattle.umpire.specs.declared.rally.CallFault.{CallFault}

-- a settling's answer, where a rally that came back is spent
pub settled_told : (q : Rally) (o : Option CallFault) (res : Result Unit Unsettled) (left : Result Unit CallFault) → res ≡ settle_result q o → MatchResult res (λ u. left ≡ Ok u) (λ e. IsErrAnd left (λ f. f ≡ e.fault)) → settle_answer left ≡ answer_unless Answer.Settled o
settled_told q (Some f) res left e h = grind (arith, common_steps)
settled_told q None res left e h = grind (arith, common_steps)

module _ {S : Type 0} where
  pub same_state : (c d : State S) → c.number ≡ d.number → c.pile ≡ d.pile → c.totals ≡ d.totals → c.log ≡ d.log → c.spare ≡ d.spare → c ≡ d
  same_state c d numbers piles totals logs spares = λ i. record { number = numbers i; pile = piles i; totals = totals i; log = logs i; spare = spares i }

  -- i calls are made: the others go on from c as the whole list does from the start; the answers are told, in the first of the places
  pub record Underway (r : Contest S) (start : State S) (calls : List Call) (places : List Answer) (c : State S) (told left : List Answer) (i : ℕ) : Type 0 where
    pub leaves : left_after_all r c (drop i calls) ≡ left_after_all r start calls
    pub tells : told ++ answers_to r c (drop i calls) ≡ answers_to r start calls
    pub count : length told ≡ i
    pub rest : left ≡ drop i places

  -- at the start, nothing is told
  pub none_made : (r : Contest S) (start : State S) (calls : List Call) (places told : List Answer) → told ≡ [] → Underway r start calls places start told places 0
  none_made r start calls places told e = record { leaves = refl; tells = ap (λ xs. xs ++ answers_to r start calls) e; count = ap length e; rest = refl }

  -- there is a place for one answer more
  pub place_free : {r : Contest S} {start : State S} {calls : List Call} {places : List Answer} {c : State S} {told left : List Answer} {i : ℕ} → Underway r start calls places c told left i → i < min (length places) 30000 → room told left ≡ true
  place_free {places = places} {told = told} {left = left} {i = i} u h = lt-ltb (length told) (min (length told + length left) 30000) (omega (arith, u.count, ap length u.rest, length-drop i places))

  -- one call more, made by the same rules, and its answer kept
  pub one_more : (r same : Contest S) (start : State S) (calls : List Call) (places : List Answer) (c d : State S) (told left told' left' : List Answer) (i : ℕ) (past : Call) (x : Answer) → Underway r start calls places c told left i → i < length calls → i < min (length places) 30000 → same ≡ r → d ≡ left_after same c (get_or calls i past) → x ≡ answer_to same c (get_or calls i past) → told' ≡ pushed told x (room told left) → left' ≡ used left (room told left) → Underway r start calls places d told' left' (i + 1)
  one_more r same start calls places c d told left told' left' i past x u h k by after answer keeps uses =
      let call = get_or calls i past in
      let rest = drop (i + 1) calls in
      let free = place_free u k in
      let leaves : left_after_all r c (drop i calls) ≡ left_after_all r (left_after r c call) rest = at_drop_more (left_after_all r c) calls i past h in
      let tells : answers_to r c (drop i calls) ≡ answer_to r c call ∷ answers_to r (left_after r c call) rest = at_drop_more (answers_to r c) calls i past h in
      let d_is : d ≡ left_after r c call = after ∙ ap (λ q. left_after q c call) by in
      let x_is : x ≡ answer_to r c call = answer ∙ ap (λ q. answer_to q c call) by in
      let told_is : told' ≡ told ++ (x ∷ []) = keeps ∙ ap (pushed told x) free in
      record {
        leaves = ap (λ z. left_after_all r z rest) d_is ∙ sym leaves ∙ u.leaves;
        tells = ap (λ ys. ys ++ answers_to r d rest) told_is ∙ append_assoc told (x ∷ []) (answers_to r d rest) ∙ ap₂ (λ y z. told ++ (y ∷ answers_to r z rest)) x_is d_is ∙ ap (λ all. told ++ all) (sym tells) ∙ u.tells;
        count = omega (arith, ap length told_is, length-append told (x ∷ []), u.count);
        rest = uses ∙ ap (used left) free ∙ ap (drop 1) u.rest ∙ drop-drop 1 i places;
      }

  -- all calls are made
  pub record Ended (r : Contest S) (start : State S) (calls : List Call) (places : List Answer) (c : State S) (told left : List Answer) : Type 0 where
    pub leaves : c ≡ left_after_all r start calls
    pub tells : told ≡ answers_to r start calls
    pub rest : left ≡ drop (length told) places

  pub at_end : (r : Contest S) (start : State S) (calls : List Call) (places : List Answer) (c : State S) (told left : List Answer) (i : ℕ) → Underway r start calls places c told left i → i ≡ length calls → Ended r start calls places c told left
  at_end r start calls places c told left i u e = record {
    leaves = sym (at_drop_all (left_after_all r c) calls i (omega arith)) ∙ u.leaves;
    tells = sym (append-nil told) ∙ ap (λ more. told ++ more) (sym (at_drop_all (answers_to r c) calls i (omega arith))) ∙ u.tells;
    rest = u.rest ∙ ap (λ n. drop n places) (sym u.count);
  }
