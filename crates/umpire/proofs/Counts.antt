-- What a run of calls from the opening adds up to, and what it answers on the way.
use Rattle.std.proofs.Common.{◌≡◌, ℕ, ◌+◌, ◌-◌, ◌<◌, ◌≤◌, min, Bool, true, false, cond, eqb, List, [], ◌∷◌, ◌++◌, length, take, Some, None, Option, sym, refl, ap, ◌∙◌, ap₂, zero-add, arith}
use Rattle.contest.specs.declared.side.Side.TheVariants.{A, B}
use Rattle.rally_log.specs.Entries.{count_of, lets_in, points_in}
use Rattle.std.proofs.lemmas.List.{length-drop}
use Rattle.std.proofs.lemmas.Bool.{false_from_ne_true, lt-ltb, le-ltb, and_parts, and_from, eqb-true, eq-eqb}
use Rattle.contest.specs.Contests.{Contest, Laws, run}
use Rattle.contest.specs.declared.side.Side.{Side}
use Rattle.roll.specs.Rolls.{at, room}
use Rattle.rally_log.specs.declared.entry.Entry.{Entry}
use Rattle.umpire.specs.declared.calls.Call.{Call}
use Rattle.umpire.specs.declared.calls.Answer.{Answer}
use Rattle.umpire.specs.declared.rally.RallyNumbers.{RallyNumbers}
use Rattle.umpire.specs.declared.calls.Totals.{Totals}
use Rattle.umpire.specs.declared.rally.CallFault.{CallFault}
use Rattle.umpire.specs.declared.rally.CallFault.TheVariants.{Decided, RallyOpen, LogCount, LogFull, OtherRally}
use Rattle.umpire.specs.Sums.{while_open}
use Rattle.umpire.specs.Runs.{if_granted, granted, point_of, entry_of, rally_of, taken, settled, open_rally, counted, handed_in}
use Rattle.umpire.specs.Calls.{State, first_refusal, refused_unless, refused_if_won, refused_if_open, names_open, log_refusal, settle_refusal, point_refusal, call_refusal, left_after_all, answer_unless, answer_to, answers_to, next_rally, opened}
use Rattle.umpire.proofs.Lists.{points_append}
use Rattle.umpire.specs.Promises.{counted_before, settled_before, stood_before}
use Rattle.umpire.proofs.Inductions.{stands, logged, spared, all_called, same_number, Consistent, consistent, consistent_opened, consistent_length, told_at, granted_before}

-- the points among the rallies settled are the points taken
of_call : (k : Call) → points_in (entry_of k) ≡ point_of k
of_call (Call.Point x t) = refl
of_call _ = refl

one_point : (a : Answer) (k : Call) → points_in (if_granted a (entry_of k)) ≡ if_granted a (point_of k)
one_point (Answer.Refused f) k = refl
one_point _ k = of_call k

pub points_settled : (ks : List Call) (told : List Answer) → points_in (settled ks told) ≡ taken ks told
points_settled [] told = refl
points_settled (k ∷ ks) [] = refl
points_settled (k ∷ ks) (a ∷ told) = points_append (if_granted a (entry_of k)) (settled ks told) ∙ ap₂ (λ xs ys. xs ++ ys) (one_point a k) (points_settled ks told)

-- the open rally, by how many are called and settled
open_is : (o : Option ℕ) (called closed : ℕ) → called ≡ closed + while_open o → ((n : ℕ) → o ≡ Some n → n ≡ called) → o ≡ open_rally called closed
open_is (Some n) called closed e h = ap Some (h n refl) ∙ ap (λ b. cond b (Some called) None) (sym (lt-ltb closed called (omega arith)))
open_is None called closed e h = ap (λ b. cond b (Some called) None) (sym (le-ltb closed called (omega arith)))

pub same_totals : (t u : Totals) → t.called ≡ u.called → t.a ≡ u.a → t.b ≡ u.b → t.lets ≡ u.lets → t.in_play ≡ u.in_play → t ≡ u
same_totals t u p q s v w = λ i. record { called = p i; a = q i; b = s i; lets = v i; in_play = w i }

-- whether numbers are those of the open rally
module _ {S : Type 0} where
  pub names_is : (c : State S) (t : RallyNumbers) (o : Option ℕ) → names_open c t o ≡ true → (t.match_number ≡ c.number) × (o ≡ Some t.number)
  names_is c t (Some n) e = let both = and_parts (eqb t.match_number c.number) (eqb t.number n) e in (eqb-true _ _ both.0, ap Some (sym (eqb-true _ _ both.1)))
  names_is c t None e = cc

  pub names_from : (c : State S) (t : RallyNumbers) (o : Option ℕ) → t.match_number ≡ c.number → o ≡ Some t.number → names_open c t o ≡ true
  names_from c t o m e = ap (names_open c t) e ∙ and_from (eqb t.match_number c.number) (eqb t.number t.number) (eq-eqb _ _ m) (eq-eqb t.number t.number refl)

  names_not : (c : State S) (t : RallyNumbers) (o : Option ℕ) → (t.match_number ≡ c.number → o ≡ Some t.number → ⊥) → names_open c t o ≡ false
  names_not c t o h = false_from_ne_true (names_open c t o) (λ e. let both = names_is c t o e in h both.0 both.1)

-- what refuses a call, in a consistent state
module _ {S : Type 0} (r : Contest S) where
  log_checked : (c : State S) (b : Bool) → Consistent r c → room c.log c.spare ≡ b → log_refusal c ≡ refused_unless b LogFull
  log_checked c b s e = ap₂ (λ x y. first_refusal (refused_unless x LogCount) (refused_unless y LogFull)) (eq-eqb (length c.log) (c.totals.a + c.totals.b + c.totals.lets) (consistent_length r c s)) e

  settle_free : (c : State S) (t : RallyNumbers) → Consistent r c → t.match_number ≡ c.number → c.totals.in_play ≡ Some t.number → settle_refusal c t ≡ None
  settle_free c t s m n = ap₂ (λ b l. first_refusal (refused_unless b OtherRally) l) (names_from c t c.totals.in_play m n) (log_checked c true s (s.placed (ap while_open n)))

  settle_other : (c : State S) (t : RallyNumbers) → (t.match_number ≡ c.number → c.totals.in_play ≡ Some t.number → ⊥) → settle_refusal c t ≡ Some OtherRally
  settle_other c t h = ap (λ b. first_refusal (refused_unless b OtherRally) (log_refusal c)) (names_not c t c.totals.in_play h)

  -- the open rally is settled, and any other is refused
  one_settled_open : (c : State S) (k : Call) (t : RallyNumbers) → Consistent r c → handed_in k ≡ Some t → t.match_number ≡ c.number → c.totals.in_play ≡ Some t.number → answer_to r c k ≡ Answer.Settled
  one_settled_open c (Call.Point x u) t s e m n =
      let same : u ≡ t = cc in
      let fine : point_refusal r c t ≡ None = ap₂ first_refusal (settle_free c t s m n) (ap refused_if_won (s.unwon (ap while_open n))) in
      ap (answer_unless Answer.Settled) (ap (point_refusal r c) same ∙ fine)
  one_settled_open c (Call.Let u) t s e m n =
      let same : u ≡ t = cc in
      ap (answer_unless Answer.Settled) (ap (settle_refusal c) same ∙ settle_free c t s m n)
  one_settled_open c _ t s e m n = cc

  one_other_refused : (c : State S) (k : Call) (t : RallyNumbers) → handed_in k ≡ Some t → (t.match_number ≡ c.number → c.totals.in_play ≡ Some t.number → ⊥) → answer_to r c k ≡ Answer.Refused OtherRally
  one_other_refused c (Call.Point x u) t e h =
      let same : u ≡ t = cc in
      let other : point_refusal r c t ≡ Some OtherRally = ap (λ f. first_refusal f (refused_if_won (r.play.winner c.pile))) (settle_other c t h) in
      ap (answer_unless Answer.Settled) (ap (point_refusal r c) same ∙ other)
  one_other_refused c (Call.Let u) t e h =
      let same : u ≡ t = cc in
      ap (answer_unless Answer.Settled) (ap (settle_refusal c) same ∙ settle_other c t h)
  one_other_refused c _ t e h = cc

module _ {S : Type 0} (r : Contest S) (laws : Laws r) (number : ℕ) (o : Side) (places : List Entry) where
  abbrev fresh : State S
  fresh = opened r number o places

  pub consistent_all : (ks : List Call) → Consistent r (left_after_all r fresh ks)
  consistent_all ks = consistent r fresh ks (consistent_opened r laws number o places)

  pub log_settled : (ks : List Call) → (left_after_all r fresh ks).log ≡ settled ks (answers_to r fresh ks)
  log_settled ks = logged r fresh ks

  pub log_taken : (ks : List Call) → points_in (left_after_all r fresh ks).log ≡ taken ks (answers_to r fresh ks)
  log_taken ks = ap points_in (log_settled ks) ∙ points_settled ks (answers_to r fresh ks)

  pub totals_are : (ks : List Call) → (left_after_all r fresh ks).totals ≡ counted ks (answers_to r fresh ks)
  totals_are ks =
      let d = left_after_all r fresh ks in
      let told = answers_to r fresh ks in
      let s = consistent_all ks in
      let calls : d.totals.called ≡ length (granted rally_of ks told) = all_called r fresh ks ∙ zero-add _ in
      let closed : length d.log ≡ length (settled ks told) = ap length (log_settled ks) in
      same_totals d.totals (counted ks told) calls
      (s.a_logged ∙ ap (count_of A) (log_taken ks))
      (s.b_logged ∙ ap (count_of B) (log_taken ks))
      (s.lets_logged ∙ ap lets_in (log_settled ks))
      (open_is d.totals.in_play d.totals.called (length (settled ks told)) (omega (arith, s.sum, consistent_length r d s, closed)) s.newest ∙ ap (λ n. open_rally n (length (settled ks told))) calls)

  -- before the i-th call
  module _ (ks : List Call) (i : ℕ) where
    abbrev told : List Answer
    told = answers_to r fresh ks

    abbrev before : State S
    before = left_after_all r fresh (take i ks)

    abbrev stood : S
    stood = stood_before r o ks told i

    abbrev counts : Totals
    counts = counted_before ks told i

    counts_before : counted (take i ks) (answers_to r fresh (take i ks)) ≡ counts
    counts_before =
        let rallies = granted_before r rally_of fresh ks i in
        let points = granted_before r point_of fresh ks i in
        let entries = granted_before r entry_of fresh ks i in
        same_totals (counted (take i ks) (answers_to r fresh (take i ks))) counts (ap length (sym rallies)) (ap (count_of A) (sym points)) (ap (count_of B) (sym points)) (ap lets_in (sym entries)) (ap₂ (λ xs ys. open_rally (length xs) (length ys)) (sym rallies) (sym entries))

    totals_before : before.totals ≡ counts
    totals_before = totals_are (take i ks) ∙ counts_before

    open_before : before.totals.in_play ≡ counts.in_play
    open_before = ap (λ (u : Totals). u.in_play) totals_before

    pile_before : before.pile ≡ stood
    pile_before = stands r fresh (take i ks) ∙ ap (run r.play (r.opening o)) (sym (granted_before r point_of fresh ks i))

    winner_before : r.play.winner before.pile ≡ r.play.winner stood
    winner_before = ap r.play.winner pile_before

    rally_before : next_rally before ≡ record { match_number = number; number = counts.called + 1 }
    rally_before =
        let numbers = same_number r fresh (take i ks) in
        let calls = ap (λ (u : Totals). u.called + 1) totals_before in
        λ j. record { match_number = numbers j; number = calls j }

    -- whether the log has a free place
    settled_is : settled_before ks told i ≡ length before.log
    settled_is = ap length (granted_before r entry_of fresh ks i) ∙ ap length (sym (log_settled (take i ks)))

    spare_is : length before.spare ≡ length places - length before.log
    spare_is = ap length (spared r fresh (take i ks)) ∙ length-drop _ places ∙ ap (λ n. length places - n) (ap length (sym (log_settled (take i ks))))

    room_before : settled_before ks told i < min (length places) 30000 → room before.log before.spare ≡ true
    room_before h = lt-ltb (length before.log) (min (length before.log + length before.spare) 30000) (omega (arith, settled_is, spare_is))

    full_before : min (length places) 30000 ≤ settled_before ks told i → room before.log before.spare ≡ false
    full_before h = le-ltb (length before.log) (min (length before.log + length before.spare) 30000) (omega (arith, settled_is, spare_is))

    -- the questions
    pub winner_told : at ks i ≡ Some Call.Winner → at told i ≡ Some (Answer.Winner (r.play.winner stood))
    winner_told e = told_at r fresh ks i Call.Winner e ∙ ap (λ s. Some (Answer.Winner (r.play.winner s))) pile_before

    pub server_told : at ks i ≡ Some Call.Server → at told i ≡ Some (Answer.Server (r.play.server stood))
    server_told e = told_at r fresh ks i Call.Server e ∙ ap (λ s. Some (Answer.Server (r.play.server s))) pile_before

    pub level_told : (d : ℕ) → at ks i ≡ Some (Call.Level d) → at told i ≡ Some (Answer.Level (r.play.level stood d))
    level_told d e = told_at r fresh ks i (Call.Level d) e ∙ ap (λ s. Some (Answer.Level (r.play.level s d))) pile_before

    pub totals_told : at ks i ≡ Some Call.Totals → at told i ≡ Some (Answer.Totals counts)
    totals_told e = told_at r fresh ks i Call.Totals e ∙ ap (λ t. Some (Answer.Totals t)) totals_before

    -- the call of a rally, by what refuses it
    call_checked : (w : Option Side) (n : Option ℕ) (b : Bool) → r.play.winner stood ≡ w → counts.in_play ≡ n → room before.log before.spare ≡ b → call_refusal r before ≡ first_refusal (refused_if_won w) (first_refusal (refused_if_open n) (refused_unless b LogFull))
    call_checked w n b e f g =
        ap₂ (λ x y. first_refusal x y) (ap refused_if_won (winner_before ∙ e)) (ap₂ (λ x y. first_refusal x y) (ap refused_if_open (open_before ∙ f)) (log_checked r before b (consistent_all (take i ks)) g))

    call_told : (f : Option CallFault) → at ks i ≡ Some Call.Rally → call_refusal r before ≡ f → at told i ≡ Some (answer_unless (Answer.Called (next_rally before)) f)
    call_told f e g = told_at r fresh ks i Call.Rally e ∙ ap (λ x. Some (answer_unless (Answer.Called (next_rally before)) x)) g

    pub call_decided : (w : Side) → at ks i ≡ Some Call.Rally → r.play.winner stood ≡ Some w → at told i ≡ Some (Answer.Refused Decided)
    call_decided w e h = call_told (Some Decided) e (call_checked (Some w) _ _ h refl refl)

    pub call_open : (n : ℕ) → at ks i ≡ Some Call.Rally → r.play.winner stood ≡ None → counts.in_play ≡ Some n → at told i ≡ Some (Answer.Refused RallyOpen)
    call_open n e h k = call_told (Some RallyOpen) e (call_checked None (Some n) _ h k refl)

    pub call_full : at ks i ≡ Some Call.Rally → r.play.winner stood ≡ None → counts.in_play ≡ None → min (length places) 30000 ≤ settled_before ks told i → at told i ≡ Some (Answer.Refused LogFull)
    call_full e h k f = call_told (Some LogFull) e (call_checked None None false h k (full_before f))

    pub called : at ks i ≡ Some Call.Rally → r.play.winner stood ≡ None → counts.in_play ≡ None → settled_before ks told i < min (length places) 30000 → at told i ≡ Some (Answer.Called (record { match_number = number; number = counts.called + 1 }))
    called e h k f = call_told None e (call_checked None None true h k (room_before f)) ∙ ap (λ t. Some (Answer.Called t)) rally_before

    -- the settling of a rally
    pub open_settled : (k : Call) (t : RallyNumbers) → at ks i ≡ Some k → handed_in k ≡ Some t → t.match_number ≡ number → counts.in_play ≡ Some t.number → at told i ≡ Some Answer.Settled
    open_settled k t e h m n = told_at r fresh ks i k e ∙ ap Some (one_settled_open r before k t (consistent_all (take i ks)) h (m ∙ sym (same_number r fresh (take i ks))) (open_before ∙ n))

    pub other_refused : (k : Call) (t : RallyNumbers) → at ks i ≡ Some k → handed_in k ≡ Some t → (t.match_number ≡ number → counts.in_play ≡ Some t.number → ⊥) → at told i ≡ Some (Answer.Refused OtherRally)
    other_refused k t e h f = told_at r fresh ks i k e ∙ ap Some (one_other_refused r before k t h (λ m n. f (m ∙ same_number r fresh (take i ks)) (sym open_before ∙ n)))
