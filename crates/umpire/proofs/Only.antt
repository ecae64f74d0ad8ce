-- The laws of the answers fix every answer, and the answers fix what is left.
use Rattle.std.proofs.Common.{◌≡◌, ℕ, zero, suc, ◌+◌, min, Bool, true, false, ltb, List, [], ◌∷◌, ◌++◌, length, take, drop, Some, None, Option, sym, refl, ap, ◌∙◌, ap₂, arith}
use Rattle.contest.specs.declared.side.Side.TheVariants.{A, B}
use Rattle.rally_log.specs.Entries.{count_of, lets_in}
use Rattle.std.proofs.lemmas.List.{take_all}
use Rattle.std.proofs.lemmas.Bool.{ltb-true, ltb-false}
use Rattle.contest.specs.Contests.{Contest, played}
use Rattle.contest.specs.Piles.{Shape, StandingOf, Pile, contest_of}
use Rattle.contest.specs.declared.side.Side.{Side}
use Rattle.rally_log.specs.declared.entry.Entry.{Entry}
use Rattle.roll.specs.Rolls.{at}
use Rattle.umpire.specs.Calls.{State, names_open, opened}
use Rattle.umpire.specs.Runs.{if_granted, granted, taken, settled, point_of, entry_of, rally_of, open_rally, counted, handed_in}
use Rattle.umpire.specs.Promises.{Cutting, Summing, Answering, Promise, counted_before, settled_before, stood_before}
use Rattle.umpire.specs.declared.calls.Call.{Call}
use Rattle.umpire.specs.declared.calls.Answer.{Answer}
use Rattle.umpire.specs.declared.calls.Totals.{Totals}
use Rattle.umpire.specs.declared.rally.RallyNumbers.{RallyNumbers}
use Rattle.umpire.proofs.Counts.{same_totals, names_is, names_from}
use Rattle.umpire.proofs.Turns.{same_state}

module _ {X : Type 0} where
  -- two lists that agree so far, and at the next place
  agree_more : (xs ys : List X) (i : ℕ) → take i xs ≡ take i ys → at xs i ≡ at ys i → take (suc i) xs ≡ take (suc i) ys
  agree_more [] [] i e f = refl
  agree_more [] (y ∷ ys) zero e f = cc
  agree_more [] (y ∷ ys) (suc i) e f = cc
  agree_more (x ∷ xs) [] zero e f = cc
  agree_more (x ∷ xs) [] (suc i) e f = cc
  agree_more (x ∷ xs) (y ∷ ys) zero e f = let same : x ≡ y = cc in ap (λ z. z ∷ []) same
  agree_more (x ∷ xs) (y ∷ ys) (suc i) e f =
      let same : x ≡ y = cc in
      let rest : take i xs ≡ take i ys = cc in
      ap₂ (λ z zs. z ∷ zs) same (agree_more xs ys i rest f)

  -- past the end of one list lies past the end of another that is as long
  past_both : {Y : Type 0} (xs : List X) (ys : List Y) (i : ℕ) → length xs ≡ length ys → at ys i ≡ None → at xs i ≡ None
  past_both [] ys i e f = refl
  past_both (x ∷ xs) [] i e f = absurd (omega arith)
  past_both (x ∷ xs) (y ∷ ys) zero e f = cc
  past_both (x ∷ xs) (y ∷ ys) (suc i) e f = past_both xs ys i (omega arith) f

-- what the first calls bring follows from their answers
granted_front : {X : Type 0} (brings : Call → List X) (ks : List Call) (i : ℕ) (told : List Answer) → granted brings (take i ks) told ≡ granted brings (take i ks) (take i told)
granted_front brings [] zero told = refl
granted_front brings [] (suc i) told = refl
granted_front brings (k ∷ ks) zero told = refl
granted_front brings (k ∷ ks) (suc i) [] = refl
granted_front brings (k ∷ ks) (suc i) (a ∷ told) = ap (λ xs. if_granted a (brings k) ++ xs) (granted_front brings ks i told)

module _ {S : Type 0} (r : Contest S) (number : ℕ) (o : Side) (places : List Entry) (ks : List Call) (xs ys : List Answer) (p : Answering r number o places ks xs) (q : Answering r number o places ks ys) where
  -- where the answers agree before the i-th call, they agree at it
  module _ (i : ℕ) (e : take i xs ≡ take i ys) where
    same_granted : {X : Type 0} (brings : Call → List X) → granted brings (take i ks) xs ≡ granted brings (take i ks) ys
    same_granted brings = granted_front brings ks i xs ∙ ap (granted brings (take i ks)) e ∙ sym (granted_front brings ks i ys)

    same_counts : counted_before ks xs i ≡ counted_before ks ys i
    same_counts =
        let rallies = same_granted rally_of in
        let points = same_granted point_of in
        let entries = same_granted entry_of in
        same_totals (counted_before ks xs i) (counted_before ks ys i) (ap length rallies) (ap (count_of A) points) (ap (count_of B) points) (ap lets_in entries) (ap₂ (λ cs es. open_rally (length cs) (length es)) rallies entries)

    same_open : (counted_before ks xs i).in_play ≡ (counted_before ks ys i).in_play
    same_open = ap (λ (t : Totals). t.in_play) same_counts

    same_settled : settled_before ks xs i ≡ settled_before ks ys i
    same_settled = ap length (same_granted entry_of)

    same_stood : stood_before r o ks xs i ≡ stood_before r o ks ys i
    same_stood = ap (played r o) (same_granted point_of)

    same_winner : r.play.winner (stood_before r o ks xs i) ≡ r.play.winner (stood_before r o ks ys i)
    same_winner = ap r.play.winner same_stood

    same_called : (w : Option Side) (n : Option ℕ) (b : Bool) → at ks i ≡ Some Call.Rally → r.play.winner (stood_before r o ks xs i) ≡ w → (counted_before ks xs i).in_play ≡ n → ltb (settled_before ks xs i) (min (length places) 30000) ≡ b → at xs i ≡ at ys i
    same_called (Some w) n b c f g h = p.call_decided i w c f ∙ sym (q.call_decided i w c (sym same_winner ∙ f))
    same_called None (Some n) b c f g h = p.call_open i n c f g ∙ sym (q.call_open i n c (sym same_winner ∙ f) (sym same_open ∙ g))
    same_called None None true c f g h =
        let free = ltb-true (settled_before ks xs i) (min (length places) 30000) h in
        p.called i c f g free ∙ ap (λ (t : Totals). Some (Answer.Called (record { match_number = number; number = t.called + 1 }))) same_counts ∙ sym (q.called i c (sym same_winner ∙ f) (sym same_open ∙ g) (omega (arith, free, same_settled)))
    same_called None None false c f g h =
        let full = ltb-false (settled_before ks xs i) (min (length places) 30000) h in
        p.call_full i c f g full ∙ sym (q.call_full i c (sym same_winner ∙ f) (sym same_open ∙ g) (omega (arith, full, same_settled)))

    same_handed : (k : Call) (t : RallyNumbers) (b : Bool) → at ks i ≡ Some k → handed_in k ≡ Some t → names_open (opened r number o places) t (counted_before ks xs i).in_play ≡ b → at xs i ≡ at ys i
    same_handed k t true c h f =
        let both = names_is (opened r number o places) t (counted_before ks xs i).in_play f in
        p.open_settled i k t c h both.0 both.1 ∙ sym (q.open_settled i k t c h both.0 (sym same_open ∙ both.1))
    same_handed k t false c h f =
        let other : t.match_number ≡ number → (counted_before ks xs i).in_play ≡ Some t.number → ⊥ = λ m n. let yes = names_from (opened r number o places) t (counted_before ks xs i).in_play m n in cc in
        p.other_refused i k t c h other ∙ sym (q.other_refused i k t c h (λ m n. other m (same_open ∙ n)))

    same_at : (k : Option Call) → at ks i ≡ k → at xs i ≡ at ys i
    same_at None c = past_both xs ks i p.all c ∙ sym (past_both ys ks i q.all c)
    same_at (Some Call.Rally) c = same_called _ _ _ c refl refl refl
    same_at (Some (Call.Point x t)) c = same_handed (Call.Point x t) t _ c refl refl
    same_at (Some (Call.Let t)) c = same_handed (Call.Let t) t _ c refl refl
    same_at (Some Call.Winner) c = p.winner i c ∙ ap (λ s. Some (Answer.Winner (r.play.winner s))) same_stood ∙ sym (q.winner i c)
    same_at (Some Call.Server) c = p.server i c ∙ ap (λ s. Some (Answer.Server (r.play.server s))) same_stood ∙ sym (q.server i c)
    same_at (Some (Call.Level d)) c = p.level i d c ∙ ap (λ s. Some (Answer.Level (r.play.level s d))) same_stood ∙ sym (q.level i d c)
    same_at (Some Call.Totals) c = p.totals i c ∙ ap (λ t. Some (Answer.Totals t)) same_counts ∙ sym (q.totals i c)

  same_front : (i : ℕ) → take i xs ≡ take i ys
  same_front zero = refl
  same_front (suc i) = agree_more xs ys i (same_front i) (same_at i (same_front i) (at ks i) refl)

  same_answers : xs ≡ ys
  same_answers = sym (take_all (length ks) xs (omega (arith, p.all))) ∙ same_front (length ks) ∙ take_all (length ks) ys (omega (arith, q.all))

module _ {h : Shape} (pile : Pile h) (number : ℕ) (o : Side) (places : List Entry) (calls : List Call) where
  pub one_way : (left left' : State (StandingOf h)) (told told' : List Answer) → Promise pile number o places calls left told → left'.number ≡ number → Cutting pile o calls left' told' → Summing places calls left' told' → Answering (contest_of pile) number o places calls told' → (left' ≡ left) × (told' ≡ told)
  one_way left left' told told' p numbers cutting summing answering =
      let answers : told' ≡ told = same_answers (contest_of pile) number o places calls told' told answering p.answering in
      let logs : left'.log ≡ left.log = summing.log ∙ ap (settled calls) answers ∙ sym p.summing.log in (
        same_state left' left
            (numbers ∙ sym p.number_kept)
            (cutting.stands ∙ ap (λ xs. played (contest_of pile) o (taken calls xs)) answers ∙ sym p.cutting.stands)
            (summing.totals ∙ ap (counted calls) answers ∙ sym p.summing.totals)
            logs
            (summing.spare ∙ ap (λ es. drop (length es) places) logs ∙ sym p.summing.spare),
        answers,
      )
