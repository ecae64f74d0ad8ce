-- What holds after every list of calls, by induction over the list.
use Rattle.std.proofs.Common.{◌≡◌, ℕ, zero, suc, ◌+◌, true, List, [], ◌∷◌, ◌++◌, length, take, drop, Some, None, Option, sym, refl, ap, ◌∙◌, subst, arith}
use Rattle.rally_log.specs.Entries.{count_of, lets_in, points_in}
use Rattle.std.proofs.lemmas.List.{append-nil, append_assoc, length-append, drop-drop}
use Rattle.contest.specs.Contests.{Contest, Laws, run, Taken}
use Rattle.contest.specs.declared.side.Side.{Side}
use Rattle.contest.specs.declared.side.Side.TheVariants.{A, B}
use Rattle.roll.specs.Rolls.{at, room}
use Rattle.rally_log.specs.declared.entry.Entry.{Entry}
use Rattle.rally_log.specs.declared.entry.Entry.TheVariants.{Let, Point}
use Rattle.umpire.specs.declared.calls.Call.{Call}
use Rattle.umpire.specs.declared.calls.Answer.{Answer}
use Rattle.umpire.specs.declared.rally.CallFault.{CallFault}
use Rattle.umpire.specs.Sums.{while_open}
use Rattle.umpire.specs.Runs.{if_granted, granted, point_of, entry_of, rally_of, taken, settled}
use Rattle.umpire.specs.Calls.{State, settle_refusal, point_refusal, call_refusal, point_settled, let_settled, rally_called, unless_refused, left_after, left_after_all, answer_unless, answer_to, answers_to, next_rally, opened}
use Rattle.umpire.proofs.Refusals.{point_not_won, call_not_won, call_not_open, call_placed, settle_open, first_none}
use Rattle.umpire.proofs.Lists.{points_append, lets_append, count_append, log_length, run_append, taken_append}

-- questions bring nothing, whatever they are answered
pub nothing : {X : Type 0} (a : Answer) → if_granted {X = X} a [] ≡ []
nothing (Answer.Refused f) = refl
nothing _ = refl

module _ {S : Type 0} (r : Contest S) where
  -- every call is answered
  pub all_answered : (c : State S) (ks : List Call) → length (answers_to r c ks) ≡ length ks
  all_answered c [] = refl
  all_answered c (k ∷ ks) = ap suc (all_answered (left_after r c k) ks)

  -- the match keeps its number
  number_by : (c d : State S) (o : Option CallFault) → d.number ≡ c.number → (unless_refused c d o).number ≡ c.number
  number_by c d (Some f) e = refl
  number_by c d None e = e

  one_number : (c : State S) (k : Call) → (left_after r c k).number ≡ c.number
  one_number c Call.Rally = number_by c (rally_called c) (call_refusal r c) refl
  one_number c (Call.Point x t) = number_by c (point_settled r c x) (point_refusal r c t) refl
  one_number c (Call.Let t) = number_by c (let_settled c) (settle_refusal c t) refl
  one_number c _ = refl

  pub same_number : (c : State S) (ks : List Call) → (left_after_all r c ks).number ≡ c.number
  same_number c [] = refl
  same_number c (k ∷ ks) = same_number (left_after r c k) ks ∙ one_number c k

  -- one call: the pile
  point_stands : (c : State S) (x : Side) (o : Option CallFault) → (unless_refused c (point_settled r c x) o).pile ≡ run r.play c.pile (if_granted (answer_unless Answer.Settled o) (x ∷ []))
  point_stands c x (Some f) = refl
  point_stands c x None = refl

  same_pile : (c d : State S) (a : Answer) (o : Option CallFault) → d.pile ≡ c.pile → (unless_refused c d o).pile ≡ run r.play c.pile (if_granted a [])
  same_pile c d a (Some f) e = ap (run r.play c.pile) (sym (nothing a))
  same_pile c d a None e = e ∙ ap (run r.play c.pile) (sym (nothing a))

  one_stands : (c : State S) (k : Call) → (left_after r c k).pile ≡ run r.play c.pile (if_granted (answer_to r c k) (point_of k))
  one_stands c Call.Rally = same_pile c (rally_called c) (answer_to r c Call.Rally) (call_refusal r c) refl
  one_stands c (Call.Point x t) = point_stands c x (point_refusal r c t)
  one_stands c (Call.Let t) = same_pile c (let_settled c) (answer_to r c (Call.Let t)) (settle_refusal c t) refl
  one_stands c _ = refl

  pub stands : (c : State S) (ks : List Call) → (left_after_all r c ks).pile ≡ run r.play c.pile (taken ks (answers_to r c ks))
  stands c [] = refl
  stands c (k ∷ ks) =
      let now = if_granted (answer_to r c k) (point_of k) in
      let later = taken ks (answers_to r (left_after r c k) ks) in
      stands (left_after r c k) ks ∙ ap (λ s. run r.play s later) (one_stands c k) ∙ sym (run_append r.play c.pile now later)

  -- one call: its point is taken while nobody has won
  point_taken : (c : State S) (x : Side) (o : Option CallFault) → (o ≡ None → r.play.winner c.pile ≡ None) → Taken r.play c.pile (if_granted (answer_unless Answer.Settled o) (x ∷ []))
  point_taken c x (Some f) h = tt
  point_taken c x None h = (h refl, tt)

  none_taken : (s : S) (a : Answer) → Taken r.play s (if_granted a [])
  none_taken s a = subst (λ xs. Taken r.play s xs) (sym (nothing a)) tt

  one_taken : (c : State S) (k : Call) → Taken r.play c.pile (if_granted (answer_to r c k) (point_of k))
  one_taken c Call.Rally = none_taken c.pile (answer_to r c Call.Rally)
  one_taken c (Call.Point x t) = point_taken c x (point_refusal r c t) (point_not_won r c t)
  one_taken c (Call.Let t) = none_taken c.pile (answer_to r c (Call.Let t))
  one_taken c _ = tt

  pub all_taken : (c : State S) (ks : List Call) → Taken r.play c.pile (taken ks (answers_to r c ks))
  all_taken c [] = tt
  all_taken c (k ∷ ks) =
      let now = if_granted (answer_to r c k) (point_of k) in
      let later = taken ks (answers_to r (left_after r c k) ks) in
      taken_append r.play c.pile now later (one_taken c k) (subst (λ s. Taken r.play s later) (one_stands c k) (all_taken (left_after r c k) ks))

  -- one call: the log, and its free places
  logs_by : (c d : State S) (e : Entry) (o : Option CallFault) → d.log ≡ c.log ++ (e ∷ []) → (unless_refused c d o).log ≡ c.log ++ if_granted (answer_unless Answer.Settled o) (e ∷ [])
  logs_by c d e (Some f) h = sym (append-nil c.log)
  logs_by c d e None h = h

  log_stays : (c d : State S) (a : Answer) (o : Option CallFault) → d.log ≡ c.log → (unless_refused c d o).log ≡ c.log ++ if_granted a []
  log_stays c d a (Some f) h = sym (append-nil c.log) ∙ ap (λ xs. c.log ++ xs) (sym (nothing a))
  log_stays c d a None h = h ∙ sym (append-nil c.log) ∙ ap (λ xs. c.log ++ xs) (sym (nothing a))

  one_logged : (c : State S) (k : Call) → (left_after r c k).log ≡ c.log ++ if_granted (answer_to r c k) (entry_of k)
  one_logged c Call.Rally = log_stays c (rally_called c) (answer_to r c Call.Rally) (call_refusal r c) refl
  one_logged c (Call.Point x t) = logs_by c (point_settled r c x) (Point x) (point_refusal r c t) refl
  one_logged c (Call.Let t) = logs_by c (let_settled c) Let (settle_refusal c t) refl
  one_logged c _ = sym (append-nil c.log)

  pub logged : (c : State S) (ks : List Call) → (left_after_all r c ks).log ≡ c.log ++ settled ks (answers_to r c ks)
  logged c [] = sym (append-nil c.log)
  logged c (k ∷ ks) =
      let now = if_granted (answer_to r c k) (entry_of k) in
      let later = settled ks (answers_to r (left_after r c k) ks) in
      logged (left_after r c k) ks ∙ ap (λ xs. xs ++ later) (one_logged c k) ∙ append_assoc c.log now later

  uses_by : (c d : State S) (e : Entry) (o : Option CallFault) → d.spare ≡ drop 1 c.spare → (unless_refused c d o).spare ≡ drop (length (if_granted (answer_unless Answer.Settled o) (e ∷ []))) c.spare
  uses_by c d e (Some f) h = refl
  uses_by c d e None h = h

  spare_stays : (c d : State S) (a : Answer) (o : Option CallFault) → d.spare ≡ c.spare → (unless_refused c d o).spare ≡ drop (length (if_granted {X = Entry} a [])) c.spare
  spare_stays c d a (Some f) h = ap (λ xs. drop (length xs) c.spare) (sym (nothing {X = Entry} a))
  spare_stays c d a None h = h ∙ ap (λ xs. drop (length xs) c.spare) (sym (nothing {X = Entry} a))

  one_used : (c : State S) (k : Call) → (left_after r c k).spare ≡ drop (length (if_granted (answer_to r c k) (entry_of k))) c.spare
  one_used c Call.Rally = spare_stays c (rally_called c) (answer_to r c Call.Rally) (call_refusal r c) refl
  one_used c (Call.Point x t) = uses_by c (point_settled r c x) (Point x) (point_refusal r c t) refl
  one_used c (Call.Let t) = uses_by c (let_settled c) Let (settle_refusal c t) refl
  one_used c _ = refl

  pub spared : (c : State S) (ks : List Call) → (left_after_all r c ks).spare ≡ drop (length (settled ks (answers_to r c ks))) c.spare
  spared c [] = refl
  spared c (k ∷ ks) =
      let now = if_granted (answer_to r c k) (entry_of k) in
      let later = settled ks (answers_to r (left_after r c k) ks) in
      spared (left_after r c k) ks ∙ ap (drop (length later)) (one_used c k) ∙ drop-drop (length later) (length now) c.spare ∙ ap (λ n. drop n c.spare) (sym (length-append now later))

  -- one call: the rallies called
  calls_by : (c : State S) (o : Option CallFault) → (unless_refused c (rally_called c) o).totals.called ≡ c.totals.called + length (if_granted (answer_unless (Answer.Called (next_rally c)) o) (Call.Rally ∷ []))
  calls_by c (Some f) = omega arith
  calls_by c None = refl

  none_called : (c d : State S) (a : Answer) (o : Option CallFault) → d.totals.called ≡ c.totals.called → (unless_refused c d o).totals.called ≡ c.totals.called + length (if_granted {X = Call} a [])
  none_called c d a (Some f) h = let e : length (if_granted {X = Call} a []) ≡ 0 = ap length (nothing {X = Call} a) in omega arith
  none_called c d a None h = let e : length (if_granted {X = Call} a []) ≡ 0 = ap length (nothing {X = Call} a) in omega arith

  point_called : (c : State S) (x : Side) → (point_settled r c x).totals.called ≡ c.totals.called
  point_called c A = refl
  point_called c B = refl

  one_called : (c : State S) (k : Call) → (left_after r c k).totals.called ≡ c.totals.called + length (if_granted (answer_to r c k) (rally_of k))
  one_called c Call.Rally = calls_by c (call_refusal r c)
  one_called c (Call.Point x t) = none_called c (point_settled r c x) (answer_to r c (Call.Point x t)) (point_refusal r c t) (point_called c x)
  one_called c (Call.Let t) = none_called c (let_settled c) (answer_to r c (Call.Let t)) (settle_refusal c t) refl
  one_called c _ = omega arith

  pub all_called : (c : State S) (ks : List Call) → (left_after_all r c ks).totals.called ≡ c.totals.called + length (granted rally_of ks (answers_to r c ks))
  all_called c [] = omega arith
  all_called c (k ∷ ks) =
      let now = if_granted (answer_to r c k) (rally_of k) in
      let later = granted rally_of ks (answers_to r (left_after r c k) ks) in
      omega (arith, all_called (left_after r c k) ks, one_called c k, length-append now later)

  -- what every call keeps
  pub record Consistent (c : State S) : Type 0 where
    pub sum : c.totals.called ≡ c.totals.a + c.totals.b + c.totals.lets + while_open c.totals.in_play
    pub a_logged : c.totals.a ≡ count_of A (points_in c.log)
    pub b_logged : c.totals.b ≡ count_of B (points_in c.log)
    pub lets_logged : c.totals.lets ≡ lets_in c.log
    -- a rally is open only while nobody has won
    pub unwon : while_open c.totals.in_play ≡ 1 → r.play.winner c.pile ≡ None
    -- and the log has a place for it
    pub placed : while_open c.totals.in_play ≡ 1 → room c.log c.spare ≡ true
    -- and it is the last called
    pub newest : (n : ℕ) → c.totals.in_play ≡ Some n → n ≡ c.totals.called

  consistent_by : (c d : State S) (o : Option CallFault) → Consistent c → (o ≡ None → Consistent d) → Consistent (unless_refused c d o)
  consistent_by c d (Some f) h g = h
  consistent_by c d None h g = g refl

  consistent_call : (c : State S) → Consistent c → call_refusal r c ≡ None → Consistent (rally_called c)
  consistent_call c h e =
      let k : while_open c.totals.in_play ≡ 0 = call_not_open r c e in
      record { sum = omega (arith, h.sum); a_logged = h.a_logged; b_logged = h.b_logged; lets_logged = h.lets_logged; unwon = λ _. call_not_won r c e; placed = λ _. call_placed r c e; newest = λ n z. cc }

  count_more : (x : Side) (es : List Entry) (e : Entry) → count_of x (points_in (es ++ (e ∷ []))) ≡ count_of x (points_in es) + count_of x (points_in (e ∷ []))
  count_more x es e = ap (count_of x) (points_append es (e ∷ [])) ∙ count_append x (points_in es) (points_in (e ∷ []))

  consistent_let : (c : State S) → Consistent c → while_open c.totals.in_play ≡ 1 → Consistent (let_settled c)
  consistent_let c h k = record {
    sum = omega (arith, h.sum);
    a_logged = omega (arith, h.a_logged, count_more A c.log Let);
    b_logged = omega (arith, h.b_logged, count_more B c.log Let);
    lets_logged = omega (arith, h.lets_logged, lets_append c.log (Let ∷ []));
    unwon = λ z. absurd (omega arith);
    placed = λ z. absurd (omega arith);
    newest = λ n z. absurd (cc);
  }

  consistent_point : (c : State S) (x : Side) → Consistent c → while_open c.totals.in_play ≡ 1 → Consistent (point_settled r c x)
  consistent_point c A h k = record {
    sum = omega (arith, h.sum);
    a_logged = omega (arith, h.a_logged, count_more A c.log (Point A));
    b_logged = omega (arith, h.b_logged, count_more B c.log (Point A));
    lets_logged = omega (arith, h.lets_logged, lets_append c.log (Point A ∷ []));
    unwon = λ z. absurd (omega arith);
    placed = λ z. absurd (omega arith);
    newest = λ n z. absurd (cc);
  }
  consistent_point c B h k = record {
    sum = omega (arith, h.sum);
    a_logged = omega (arith, h.a_logged, count_more A c.log (Point B));
    b_logged = omega (arith, h.b_logged, count_more B c.log (Point B));
    lets_logged = omega (arith, h.lets_logged, lets_append c.log (Point B ∷ []));
    unwon = λ z. absurd (omega arith);
    placed = λ z. absurd (omega arith);
    newest = λ n z. absurd (cc);
  }

  pub consistent_after : (c : State S) (k : Call) → Consistent c → Consistent (left_after r c k)
  consistent_after c Call.Rally h = consistent_by c (rally_called c) (call_refusal r c) h (consistent_call c h)
  consistent_after c (Call.Point x t) h = consistent_by c (point_settled r c x) (point_refusal r c t) h (λ e. consistent_point c x h (settle_open c t (first_none (settle_refusal c t) _ e)))
  consistent_after c (Call.Let t) h = consistent_by c (let_settled c) (settle_refusal c t) h (λ e. consistent_let c h (settle_open c t e))
  consistent_after c _ h = h

  pub consistent : (c : State S) (ks : List Call) → Consistent c → Consistent (left_after_all r c ks)
  consistent c [] h = h
  consistent c (k ∷ ks) h = consistent (left_after r c k) ks (consistent_after c k h)

  pub consistent_length : (c : State S) → Consistent c → length c.log ≡ c.totals.a + c.totals.b + c.totals.lets
  consistent_length c h = omega (arith, log_length c.log, h.a_logged, h.b_logged, h.lets_logged)

  -- a match just opened
  pub consistent_opened : (laws : Laws r) (number : ℕ) (o : Side) (places : List Entry) → Consistent (opened r number o places)
  consistent_opened laws number o places = record {
    sum = refl;
    a_logged = refl;
    b_logged = refl;
    lets_logged = refl;
    unwon = λ _. laws.opening_fair.open_winner o;
    placed = λ z. absurd (omega arith);
    newest = λ n z. absurd (cc);
  }

  -- the answer at an index is that of what the calls before left
  pub told_at : (c : State S) (ks : List Call) (i : ℕ) (k : Call) → at ks i ≡ Some k → at (answers_to r c ks) i ≡ Some (answer_to r (left_after_all r c (take i ks)) k)
  told_at c [] i k e = cc
  told_at c (j ∷ ks) zero k e = let same : j ≡ k = cc in ap (λ z. Some (answer_to r c z)) same
  told_at c (j ∷ ks) (suc i) k e = told_at (left_after r c j) ks i k e

  -- and what the calls before bring does not depend on those that follow
  pub granted_before : {X : Type 0} (brings : Call → List X) (c : State S) (ks : List Call) (i : ℕ) → granted brings (take i ks) (answers_to r c ks) ≡ granted brings (take i ks) (answers_to r c (take i ks))
  granted_before brings c [] zero = refl
  granted_before brings c [] (suc i) = refl
  granted_before brings c (k ∷ ks) zero = refl
  granted_before brings c (k ∷ ks) (suc i) = ap (λ xs. if_granted (answer_to r c k) (brings k) ++ xs) (granted_before brings (left_after r c k) ks i)
