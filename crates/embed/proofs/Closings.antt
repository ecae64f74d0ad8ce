-- A log that was scored, and not for want of a place refused, comes to the same with more places for closings.
use Rattle.std.proofs.Common.{◌≡◌, ℕ, suc, ◌+◌, ◌≤◌, Bool, true, false, cond, leb, List, [], ◌∷◌, ◌++◌, length, drop, Some, None, Ok, Err, Option, Result, sym, refl, ap, ◌∙◌, subst, arith, length-append}
use Rattle.std.proofs.lemmas.List.{take_all}
use Rattle.std.proofs.lemmas.Bool.{leb-true, le-leb, true≢false}
use Rattle.contest.specs.Contests.{Play, unless_won}
use Rattle.contest.specs.Piles.{Shape, Pile, contest_of}
use Rattle.contest.specs.declared.side.Side.{Side}
use Rattle.rally_log.specs.declared.entry.Entry.{Entry}
use Rattle.rally_log.specs.declared.entry.Entry.TheVariants.{Let, Point}
use Rattle.roll.specs.Rolls.{most}
use Rattle.sheet.specs.Closings.{Ending, through, after_end, no_place, ending, closings_at, closings_of}
use Rattle.sheet.specs.Scores.{ScoresIn, ending_in, answer_to, all_closings}
use Rattle.sheet.specs.declared.closing.Closing.{Closing}
use Rattle.sheet.specs.declared.fault.ScoreFault.{ScoreFault}
use Rattle.sheet.specs.declared.score.Scored.{Scored}
use Rattle.sheet.specs.declared.text.Heading.{Heading}
use Rattle.embed.specs.Answers.{is_no_place}

-- every closing had a place
abbrev pub Placed : Ending → Type 0
Placed through = Unit {0}
Placed (after_end i) = Unit {0}
Placed (no_place i) = ⊥

-- all closings found a place, and with more places the end is the same
pub record Enough {S : Type 0} (p : Play S) (s : S) (places n i : ℕ) (es : List Entry) (e : Ending) : Type 0 where
  pub all_fit : n + length (closings_of p s es) ≤ places
  pub same : (more : ℕ) → places ≤ more → ending p s more n i es ≡ e

module _ {S : Type 0} (p : Play S) (places : ℕ) where
  -- how going through the entries ends at a point that leads to t, in a match with the winner w or none
  abbrev at_point : Option Side → S → ℕ → ℕ → ℕ → List Entry → Ending
  at_point w t places n i es =
      unless_won w (after_end i)
      (cond (leb (n + length (closings_at p t)) places) (ending p t places (n + length (closings_at p t)) (suc i) es) (no_place i))

  -- at a point with a place for each of its closings, or not
  by_room : (t : S) (n i : ℕ) (es : List Entry) (e : Ending) (b : Bool) → leb (n + length (closings_at p t)) places ≡ b
      → cond b (ending p t places (n + length (closings_at p t)) (suc i) es) (no_place i) ≡ e → Placed e
      → (n + length (closings_at p t) ≤ places → ending p t places (n + length (closings_at p t)) (suc i) es ≡ e → Enough p t places (n + length (closings_at p t)) (suc i) es e)
      → (n + length (closings_at p t ++ closings_of p t es) ≤ places) × ((more : ℕ) → places ≤ more → at_point None t more n i es ≡ e)
  by_room t n i es e true j k placed later =
      let fits = leb-true (n + length (closings_at p t)) places j in
      let r = later fits k in
      let sum = length-append (closings_at p t) (closings_of p t es) in (
        omega (arith, r.all_fit, sum),
        λ more h.
            let room : leb (n + length (closings_at p t)) more ≡ true = le-leb (n + length (closings_at p t)) more (omega arith) in
            ap (λ b. cond b (ending p t more (n + length (closings_at p t)) (suc i) es) (no_place i)) room ∙ r.same more h,
      )
  by_room t n i es e false j k placed later = absurd (subst Placed (sym k) placed)

  by_winner : (w : Option Side) (t : S) (n i : ℕ) (es : List Entry) (e : Ending) → n ≤ places → at_point w t places n i es ≡ e → Placed e
      → (n + length (closings_at p t) ≤ places → ending p t places (n + length (closings_at p t)) (suc i) es ≡ e → Enough p t places (n + length (closings_at p t)) (suc i) es e)
      → (n + length (unless_won w [] (closings_at p t ++ closings_of p t es)) ≤ places) × ((more : ℕ) → places ≤ more → at_point w t more n i es ≡ e)
  by_winner (Some w) t n i es e h k placed later = (omega arith, λ more j. k)
  by_winner None t n i es e h k placed later = by_room t n i es e (leb (n + length (closings_at p t)) places) refl k placed later

  pub enough : (s : S) (n i : ℕ) (es : List Entry) (e : Ending) → n ≤ places → ending p s places n i es ≡ e → Placed e → Enough p s places n i es e
  enough s n i [] e h k placed = record { all_fit = omega arith; same = λ more j. k }
  enough s n i (Let ∷ es) e h k placed = let r = enough s n (suc i) es e h k placed in record { all_fit = r.all_fit; same = r.same }
  enough s n i (Point x ∷ es) e h k placed =
      let t = p.after s x in
      let r = by_winner (p.winner s) t n i es e h k placed (λ j q. enough t (n + length (closings_at p t)) (suc i) es e j q placed) in
      record { all_fit = r.0; same = r.1 }

-- whether scoring was refused for want of a place
abbrev pub short : Result Scored ScoreFault → Bool
short (Ok s) = false
short (Err f) = is_no_place f

module _ {h : Shape} (p : Pile h) (heading : Heading) (es : List Entry) where
  -- an answer that is no such refusal comes from an end at which every closing had a place
  placed : (space : ℕ) (e : Ending) (r : Result Scored ScoreFault) → r ≡ answer_to p heading es space e → short r ≡ false → Placed e
  placed space through r k q = tt
  placed space (after_end i) r k q = tt
  placed space (no_place i) r k q = absurd (true≢false (sym (ap short k) ∙ q))

  pub with_more_closings : (places more : List Closing) (bytes : List ℕ) (r : Result Scored ScoreFault) (held left : List Closing) (after : List ℕ)
      → most [] places ≤ most [] more → short r ≡ false
      → ScoresIn p heading es places bytes r held left after → ScoresIn p heading es more bytes r held (drop (length held) more) after
  with_more_closings places more bytes r held left after j q k =
      let play = (contest_of p).play in
      let s = (contest_of p).opening heading.opener in
      let e = ending_in p heading es (most [] places) in
      let r' = enough play (most [] places) s 0 0 es e (omega arith) refl (placed (length bytes) e r k.answer q) in
      let all = all_closings p heading es in
      record {
        answer = k.answer ∙ ap (answer_to p heading es (length bytes)) (sym (r'.same (most [] more) j));
        held_is = k.held_is ∙ take_all (most [] places) all (omega (arith, r'.all_fit)) ∙ sym (take_all (most [] more) all (omega (arith, r'.all_fit)));
        left_is = refl;
        sheet_is = k.sheet_is;
        cut = k.cut;
      }
