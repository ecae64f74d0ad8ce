-- A sheet that was written is no longer than the bytes that it was written in.
use Rattle.std.proofs.Common.{◌≡◌, ℕ, ◌≤◌, Bool, true, false, cond, leb, List, [], length, IfOk, Ok, Err, Option, Result, refl, arith}
use Rattle.std.proofs.lemmas.Bool.{leb-true}
use Rattle.contest.specs.Piles.{Shape, Pile}
use Rattle.contest.specs.declared.side.Side.{Side}
use Rattle.formats.specs.Table.{InFormat}
use Rattle.formats.specs.declared.format.Format.{Format}
use Rattle.rally_log.specs.declared.entry.Entry.{Entry}
use Rattle.roll.specs.Rolls.{most}
use Rattle.sheet.specs.Closings.{Ending, through, after_end, no_place}
use Rattle.sheet.specs.Scores.{ScoresIn, ending_in, answer_to, written_answer, sheet_text}
use Rattle.sheet.specs.declared.closing.Closing.{Closing}
use Rattle.sheet.specs.declared.fault.ScoreFault.{ScoreFault}
use Rattle.sheet.specs.declared.fault.ScoreFault.TheVariants.{Space}
use Rattle.sheet.specs.declared.score.Scored.{Scored}
use Rattle.sheet.specs.declared.text.Heading.{Heading}
use Rattle.sheet.proofs.OnePile.{one_pile}

written_fits : (text : List ℕ) (w : Option Side) (space : ℕ) (s : Scored) → Ok s ≡ written_answer text w space → s.length ≤ space
written_fits text w space s e = go (leb (length text) space) refl e
  where
    go : (b : Bool) → leb (length text) space ≡ b → ◌≡◌ {A = Result Scored ScoreFault} (Ok s) (cond b (Ok (record { length = length text; winner = w })) (Err Space)) → s.length ≤ space
    go true k e = let n : s.length ≡ length text = cc in omega (arith, leb-true (length text) space k)
    go false k e = cc

answer_fits : {h : Shape} (p : Pile h) (heading : Heading) (es : List Entry) (space : ℕ) (e : Ending) (s : Scored) → Ok s ≡ answer_to p heading es space e → s.length ≤ space
answer_fits p heading es space through s k = written_fits (sheet_text p heading es) _ space s k
answer_fits p heading es space (after_end i) s k = cc
answer_fits p heading es space (no_place i) s k = cc

module _ (heading : Heading) (es : List Entry) (places : List Closing) (bytes : List ℕ) (held left : List Closing) (after : List ℕ) where
  scores_fit : {h : Shape} (p : Pile h) (r : Result Scored ScoreFault) → ScoresIn p heading es places bytes r held left after → IfOk r (λ s. s.length ≤ length bytes)
  scores_fit p (Ok s) k = answer_fits p heading es (length bytes) (ending_in p heading es (most [] places)) s k.answer
  scores_fit p (Err e) k = tt

  pub fits : (r : Result Scored ScoreFault) (f : Format) → InFormat f (λ h p. ScoresIn p heading es places bytes r held left after) → IfOk r (λ s. s.length ≤ length bytes)
  fits r f k = let one = one_pile f (λ h p. ScoresIn p heading es places bytes r held left after) k in scores_fit one.pile r one.holds
