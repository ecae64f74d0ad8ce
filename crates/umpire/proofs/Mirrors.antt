-- For the opposite opener and the opposite points, all is the mirror image.
use Rattle.std.proofs.Common.{◌≡◌, ℕ, ◌+◌, ◌-◌, min, eqb, ltb, List, [], ◌∷◌, map, length, drop, Some, None, Option, sym, refl, ap, ◌∙◌, subst, ap₂, arith}
use Rattle.std.proofs.lemmas.List.{length-map, length-drop, map_push}
use Rattle.contest.specs.Contests.{Contest, Laws}
use Rattle.contest.specs.Sides.{opposite, option_opposite}
use Rattle.contest.specs.declared.side.Side.{Side}
use Rattle.contest.specs.declared.side.Side.TheVariants.{A, B}
use Rattle.rally_log.specs.declared.entry.Entry.{Entry}
use Rattle.rally_log.specs.declared.entry.Entry.TheVariants.{Let, Point}
use Rattle.umpire.specs.declared.calls.Call.{Call}
use Rattle.umpire.specs.declared.calls.Answer.{Answer}
use Rattle.umpire.specs.declared.rally.RallyNumbers.{RallyNumbers}
use Rattle.umpire.specs.declared.calls.Totals.{Totals}
use Rattle.umpire.specs.declared.rally.CallFault.{CallFault}
use Rattle.umpire.specs.declared.rally.CallFault.TheVariants.{OtherRally, LogCount, LogFull}
use Rattle.umpire.specs.Calls.{State, first_refusal, refused_unless, refused_if_won, refused_if_open, names_open, log_refusal, settle_refusal, point_refusal, call_refusal, one_settled, point_settled, let_settled, rally_called, unless_refused, left_after, left_after_all, answer_unless, answer_to, answers_to, opened, none_yet}
use Rattle.umpire.specs.Mirror.{shown, mirrored_shown, mirrored_entry, mirrored_totals, mirrored_call, mirrored_answer}
use Rattle.umpire.proofs.Refusals.{point_not_won}

won_same : (w : Option Side) → refused_if_won (option_opposite w) ≡ refused_if_won w
won_same (Some x) = refl
won_same None = refl

answer_same : (a : Answer) (o : Option CallFault) → mirrored_answer a ≡ a → answer_unless a o ≡ mirrored_answer (answer_unless a o)
answer_same a (Some f) e = refl
answer_same a None e = sym e

totals_same : (t : Totals) (x : Side) → one_settled (mirrored_totals t) (Point (opposite x)) ≡ mirrored_totals (one_settled t (Point x))
totals_same t A = refl
totals_same t B = refl

-- a match in the mirror, with its log and other free places
pub mirrored : {S : Type 0} → Contest S → State S → List Entry → State S
mirrored r c ys = record { number = c.number; pile = r.play.mirror c.pile; totals = mirrored_totals c.totals; log = map mirrored_entry c.log; spare = ys }

module _ {S : Type 0} (r : Contest S) where
  -- d is c in the mirror, over as many free places
  pub record Image (c d : State S) : Type 0 where
    pub places : List Entry
    pub as_many : length places ≡ length c.spare
    pub is : d ≡ mirrored r c places

  by_image : (c d e : State S) (ys zs : List Entry) (o : Option CallFault) → length ys ≡ length c.spare → length zs ≡ length d.spare → (o ≡ None → e ≡ mirrored r d zs) → Image (unless_refused c d o) (unless_refused (mirrored r c ys) e o)
  by_image c d e ys zs (Some f) h k g = record { places = ys; as_many = h; is = refl }
  by_image c d e ys zs None h k g = record { places = zs; as_many = k; is = g refl }

module _ {S : Type 0} (r : Contest S) (laws : Laws r) where
  pub shows_mirrored : (c : State S) (ys : List Entry) → shown r (mirrored r c ys) ≡ mirrored_shown (shown r c)
  unfolding mirrored
  shows_mirrored c ys =
      let fair = laws.play_fair in
      λ i. record { number = c.number; winner = fair.mirror_winner c.pile i; server = fair.mirror_server c.pile i; level = λ d. fair.mirror_level c.pile d i; totals = mirrored_totals c.totals; log = map mirrored_entry c.log }

  pub opened_mirrored : (number : ℕ) (o : Side) (places others : List Entry) → opened r number (opposite o) others ≡ mirrored r (opened r number o places) others
  unfolding mirrored
  opened_mirrored number o places others =
      let piles = laws.opening_fair.mirror_opening o in
      λ i. record { number = number; pile = sym piles i; totals = none_yet; log = []; spare = others }

  winner_same : (c : State S) → refused_if_won (r.play.winner (r.play.mirror c.pile)) ≡ refused_if_won (r.play.winner c.pile)
  winner_same c = ap refused_if_won (laws.play_fair.mirror_winner c.pile) ∙ won_same (r.play.winner c.pile)

  let_mirrored : (c : State S) (ys : List Entry) → let_settled (mirrored r c ys) ≡ mirrored r (let_settled c) (drop 1 ys)
  unfolding mirrored
  let_mirrored c ys =
      let logs = map_push mirrored_entry c.log Let in
      λ i. record { number = c.number; pile = r.play.mirror c.pile; totals = one_settled (mirrored_totals c.totals) Let; log = sym logs i; spare = drop 1 ys }

  point_mirrored : (c : State S) (ys : List Entry) (x : Side) → r.play.winner c.pile ≡ None → point_settled r (mirrored r c ys) (opposite x) ≡ mirrored r (point_settled r c x) (drop 1 ys)
  unfolding mirrored
  point_mirrored c ys x w =
      let piles = laws.play_fair.mirror_after c.pile x w in
      let logs = map_push mirrored_entry c.log (Point x) in
      λ i. record { number = c.number; pile = sym piles i; totals = totals_same c.totals x i; log = sym logs i; spare = drop 1 ys }

  rally_mirrored : (c : State S) (ys : List Entry) → rally_called (mirrored r c ys) ≡ mirrored r (rally_called c) ys
  unfolding mirrored
  rally_mirrored c ys = refl

  module _ (c : State S) (ys : List Entry) (h : length ys ≡ length c.spare) where
    log_same : log_refusal (mirrored r c ys) ≡ log_refusal c
    unfolding mirrored
    log_same =
        let sums : c.totals.b + c.totals.a + c.totals.lets ≡ c.totals.a + c.totals.b + c.totals.lets = omega arith in
        ap₂ (λ n m. first_refusal (refused_unless (eqb n m) LogCount) (refused_unless (ltb n (min (n + length ys) 30000)) LogFull)) (length-map c.log mirrored_entry) sums
        ∙ ap (λ n. first_refusal (refused_unless (eqb (length c.log) (c.totals.a + c.totals.b + c.totals.lets)) LogCount) (refused_unless (ltb (length c.log) (min (length c.log + n) 30000)) LogFull)) h

    names_same : (t : RallyNumbers) (o : Option ℕ) → names_open (mirrored r c ys) t o ≡ names_open c t o
    unfolding mirrored
    names_same t (Some n) = refl
    names_same t None = refl

    settle_same : (t : RallyNumbers) → settle_refusal (mirrored r c ys) t ≡ settle_refusal c t
    unfolding mirrored
    settle_same t = ap₂ first_refusal (ap (λ b. refused_unless b OtherRally) (names_same t c.totals.in_play)) log_same

    point_same : (t : RallyNumbers) → point_refusal r (mirrored r c ys) t ≡ point_refusal r c t
    unfolding mirrored
    point_same t = ap₂ first_refusal (settle_same t) (winner_same c)

    call_same : call_refusal r (mirrored r c ys) ≡ call_refusal r c
    unfolding mirrored
    call_same = ap₂ (λ w l. first_refusal w (first_refusal (refused_if_open c.totals.in_play) l)) (winner_same c) log_same

    one_fewer : length (drop 1 ys) ≡ length (drop 1 c.spare)
    one_fewer = length-drop 1 ys ∙ ap (λ n. n - 1) h ∙ sym (length-drop 1 c.spare)

    left_image : (k : Call) → Image r (left_after r c k) (left_after r (mirrored r c ys) (mirrored_call k))
    left_image Call.Rally = subst (λ o. Image r (left_after r c Call.Rally) (unless_refused (mirrored r c ys) (rally_called (mirrored r c ys)) o)) (sym call_same) (by_image r c (rally_called c) (rally_called (mirrored r c ys)) ys ys (call_refusal r c) h h (λ _. rally_mirrored c ys))
    left_image (Call.Point x t) = subst (λ o. Image r (left_after r c (Call.Point x t)) (unless_refused (mirrored r c ys) (point_settled r (mirrored r c ys) (opposite x)) o)) (sym (point_same t)) (by_image r c (point_settled r c x) (point_settled r (mirrored r c ys) (opposite x)) ys (drop 1 ys) (point_refusal r c t) h one_fewer (λ e. point_mirrored c ys x (point_not_won r c t e)))
    left_image (Call.Let t) = subst (λ o. Image r (left_after r c (Call.Let t)) (unless_refused (mirrored r c ys) (let_settled (mirrored r c ys)) o)) (sym (settle_same t)) (by_image r c (let_settled c) (let_settled (mirrored r c ys)) ys (drop 1 ys) (settle_refusal c t) h one_fewer (λ _. let_mirrored c ys))
    left_image _ = record { places = ys; as_many = h; is = refl }

    told_same : (k : Call) → answer_to r (mirrored r c ys) (mirrored_call k) ≡ mirrored_answer (answer_to r c k)
    unfolding mirrored
    told_same Call.Rally = ap (answer_unless _) call_same ∙ answer_same _ (call_refusal r c) refl
    told_same (Call.Point x t) = ap (answer_unless Answer.Settled) (point_same t) ∙ answer_same Answer.Settled (point_refusal r c t) refl
    told_same (Call.Let t) = ap (answer_unless Answer.Settled) (settle_same t) ∙ answer_same Answer.Settled (settle_refusal c t) refl
    told_same Call.Winner = ap Answer.Winner (laws.play_fair.mirror_winner c.pile)
    told_same Call.Server = ap Answer.Server (laws.play_fair.mirror_server c.pile)
    told_same (Call.Level d) = ap Answer.Level (laws.play_fair.mirror_level c.pile d)
    told_same Call.Totals = refl

  pub all_mirrored : (c : State S) (ys : List Entry) → length ys ≡ length c.spare → (ks : List Call) → Image r (left_after_all r c ks) (left_after_all r (mirrored r c ys) (map mirrored_call ks))
  all_mirrored c ys h [] = record { places = ys; as_many = h; is = refl }
  all_mirrored c ys h (k ∷ ks) =
      let one = left_image c ys h k in
      subst (λ d. Image r (left_after_all r (left_after r c k) ks) (left_after_all r d (map mirrored_call ks))) (sym one.is) (all_mirrored (left_after r c k) one.places one.as_many ks)

  pub answers_mirrored : (c : State S) (ys : List Entry) → length ys ≡ length c.spare → (ks : List Call) → answers_to r (mirrored r c ys) (map mirrored_call ks) ≡ map mirrored_answer (answers_to r c ks)
  answers_mirrored c ys h [] = refl
  answers_mirrored c ys h (k ∷ ks) =
      let one = left_image c ys h k in
      ap₂ (λ a more. a ∷ more) (told_same c ys h k) (ap (λ d. answers_to r d (map mirrored_call ks)) one.is ∙ answers_mirrored (left_after r c k) one.places one.as_many ks)
