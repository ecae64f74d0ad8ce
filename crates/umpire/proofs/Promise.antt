-- The promise holds of every match and every list of calls.
use Rattle.std.proofs.Common.{◌≡◌, ℕ, List, map, length, drop, sym, ap, ◌∙◌, subst}
use Rattle.std.proofs.lemmas.List.{length-map}
use Rattle.contest.specs.Contests.{Contest, Laws}
use Rattle.contest.specs.Piles.{Shape, StandingOf, Pile, contest_of, Sound}
use Rattle.contest.specs.Sides.{opposite}
use Rattle.contest.specs.declared.side.Side.{Side}
use Rattle.contest.proofs.Piling.{pile_laws, pile_cut}
use Rattle.rally_log.specs.declared.entry.Entry.{Entry}
use Rattle.umpire.specs.Calls.{State, opened, left_after_all, answers_to}
use Rattle.umpire.specs.Mirror.{Shown, shown, mirrored_shown, mirrored_entry, mirrored_call}
use Rattle.umpire.specs.Promises.{Mirroring, Summing, Answering, Promise}
use Rattle.umpire.specs.declared.calls.Call.{Call}
use Rattle.umpire.specs.declared.calls.Answer.{Answer}
use Rattle.umpire.proofs.Inductions.{all_answered, same_number, stands, all_taken, logged, spared, Consistent, consistent_opened}
use Rattle.umpire.proofs.Unmet.{never_decided, never_count}
use Rattle.umpire.proofs.Counts.{consistent_all, log_taken, totals_are, winner_told, server_told, level_told, totals_told, call_decided, call_open, call_full, called, open_settled, other_refused}
use Rattle.umpire.proofs.Mirrors.{all_mirrored, answers_mirrored, shows_mirrored, opened_mirrored}

module _ {S : Type 0} (r : Contest S) (laws : Laws r) (number : ℕ) (o : Side) (places : List Entry) (calls : List Call) where
  -- what the match in the mirror shows
  shows_all : (others : List Entry) → length others ≡ length places → shown r (left_after_all r (opened r number (opposite o) others) (map mirrored_call calls)) ≡ mirrored_shown (shown r (left_after_all r (opened r number o places) calls))
  shows_all others h =
      let c = opened r number o places in
      let image = all_mirrored r laws c others h calls in
      ap (λ e. shown r (left_after_all r e (map mirrored_call calls))) (opened_mirrored r laws number o places others) ∙ ap (shown r) image.is ∙ shows_mirrored r laws (left_after_all r c calls) image.places

  -- the free places of its log
  spares_all : (others : List Entry) → length others ≡ length places → (left_after_all r (opened r number (opposite o) others) (map mirrored_call calls)).spare ≡ drop (length (left_after_all r (opened r number o places) calls).log) others
  spares_all others h =
      let d = opened r number (opposite o) others in
      let log = (left_after_all r (opened r number o places) calls).log in
      spared r d (map mirrored_call calls) ∙ ap (λ xs. drop (length xs) others) (sym (logged r d (map mirrored_call calls)) ∙ ap (λ (s : Shown). s.log) (shows_all others h)) ∙ ap (λ n. drop n others) (length-map log mirrored_entry)

  mirrored_all : Mirroring r number o places calls (left_after_all r (opened r number o places) calls) (answers_to r (opened r number o places) calls)
  mirrored_all = record {
    answered = λ others h. ap (λ e. answers_to r e (map mirrored_call calls)) (opened_mirrored r laws number o places others) ∙ answers_mirrored r laws (opened r number o places) others h calls;
    shows = shows_all;
    spares = spares_all;
  }

  summed_all : Summing places calls (left_after_all r (opened r number o places) calls) (answers_to r (opened r number o places) calls)
  summed_all =
      let c = opened r number o places in
      let s : Consistent r (left_after_all r c calls) = consistent_all r laws number o places calls in
      record {
        totals = totals_are r laws number o places calls;
        sum = s.sum;
        log = logged r c calls;
        spare = spared r c calls ∙ ap (λ xs. drop (length xs) places) (sym (logged r c calls));
        a_logged = s.a_logged;
        b_logged = s.b_logged;
        lets_logged = s.lets_logged;
        points_logged = log_taken r laws number o places calls;
        never_decided = never_decided r c calls (consistent_opened r laws number o places);
        never_count = never_count r c calls (consistent_opened r laws number o places);
      }

  answered_all : Answering r number o places calls (answers_to r (opened r number o places) calls)
  answered_all = record {
    all = all_answered r (opened r number o places) calls;
    winner = winner_told r laws number o places calls;
    server = server_told r laws number o places calls;
    level = level_told r laws number o places calls;
    totals = totals_told r laws number o places calls;
    call_decided = call_decided r laws number o places calls;
    call_open = call_open r laws number o places calls;
    call_full = call_full r laws number o places calls;
    called = called r laws number o places calls;
    open_settled = open_settled r laws number o places calls;
    other_refused = other_refused r laws number o places calls;
  }

module _ {h : Shape} (p : Pile h) (sound : Sound p) (number : ℕ) (o : Side) (places : List Entry) (calls : List Call) where
  promised_all : Promise p number o places calls (left_after_all (contest_of p) (opened (contest_of p) number o places) calls) (answers_to (contest_of p) (opened (contest_of p) number o places) calls)
  promised_all =
      let r = contest_of p in
      let laws = pile_laws p sound in
      let c = opened r number o places in
      record {
        number_kept = same_number r c calls;
        cutting = record { stands = stands r c calls; cut = pile_cut p sound o _ (all_taken r c calls) };
        mirroring = mirrored_all r laws number o places calls;
        summing = summed_all r laws number o places calls;
        answering = answered_all r laws number o places calls;
      }

  -- and so of what a match in fact left and answered
  pub promised : (left : State (StandingOf h)) (answers : List Answer) → left ≡ left_after_all (contest_of p) (opened (contest_of p) number o places) calls → answers ≡ answers_to (contest_of p) (opened (contest_of p) number o places) calls → Promise p number o places calls left answers
  promised left answers e f = subst (λ told. Promise p number o places calls left told) (sym f) (subst (λ d. Promise p number o places calls d (answers_to (contest_of p) (opened (contest_of p) number o places) calls)) (sym e) promised_all)
