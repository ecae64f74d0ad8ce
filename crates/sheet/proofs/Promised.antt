-- A log that was gone through, and its sheet that was written: that is what scoring comes to. The same of a code that is no format's, of equal piles and of equal formats.
use Rattle.std.proofs.Common.{◌≡◌, ℕ, List, [], length, Some, None, Ok, Err, Option, Result, sym, refl, ap, ◌∙◌, subst, ap₂}
use Rattle.contest.specs.Piles.{Shape, StandingOf, Pile, contest_of, Sound}
use Rattle.formats.specs.Formats.{format_of}
use Rattle.formats.specs.Table.{InFormat}
use Rattle.formats.specs.declared.format.Format.{Format}
use Rattle.rally_log.specs.declared.entry.Entry.{Entry}
use Rattle.rally_log.specs.declared.entry.Header.{Header}
use Rattle.roll.specs.Rolls.{entries, most}
use Rattle.roll.specs.declared.Roll.{Roll}
use Rattle.sheet.specs.Closings.{Ending, through, after_end, no_place, ended}
use Rattle.sheet.specs.Headings.{heading_in, heading_of}
use Rattle.sheet.specs.Scores.{Written, written_answer, ending_in, answer_to, sheet_text, bytes_after, ScoresOn, ScoresAs, Scores}
use Rattle.sheet.specs.Scoring.{lent, EntriesScored}
use Rattle.sheet.specs.Text.{text_of}
use Rattle.sheet.specs.declared.closing.Closing.{Closing}
use Rattle.sheet.specs.declared.fault.ScoreFault.{ScoreFault}
use Rattle.sheet.specs.declared.fault.ScoreFault.TheVariants.{Code}
use Rattle.sheet.specs.declared.score.Scored.{Scored}
use Rattle.sheet.specs.declared.text.Heading.{Heading}
use Rattle.sheet.proofs.Taking.{took_all}

went_through : (e : Ending) → Ok tt ≡ ended e → e ≡ through
went_through through k = refl
went_through (after_end i) k = cc
went_through (no_place i) k = cc

module _ {h : Shape} (p : Pile h) (heading : Heading) (es : List Entry) where
  pub written_in : {r q : Roll Closing} {t : StandingOf h} {bytes : List ℕ} {e : Result Scored ScoreFault} {after : List ℕ} → Sound p
      → EntriesScored (contest_of p).play ((contest_of p).opening heading.opener) r es (Ok tt) t q
      → Written (text_of (contest_of p) heading es (entries q) t) ((contest_of p).play.winner t) bytes e after
      → ScoresOn p heading es r bytes e q after
  written_in {r} {q} {t} {bytes} {e} sound k w =
      let text : text_of (contest_of p) heading es (entries q) t ≡ sheet_text p heading es = ap₂ (text_of (contest_of p) heading es) (k.complete refl) (k.stands refl) in
      let winner = ap (contest_of p).play.winner (k.stands refl) in
      let end = went_through (ending_in p heading es (most [] (lent r))) k.answer in
      let answer : e ≡ answer_to p heading es (length bytes) (ending_in p heading es (most [] (lent r))) =
      w.answer ∙ ap₂ (λ xs v. written_answer xs v (length bytes)) text winner ∙ ap (answer_to p heading es (length bytes)) (sym end) in
      record {
        scores = record {
          answer = answer;
          held_is = k.held_is;
          left_is = k.left_is;
          sheet_is = w.bytes_are ∙ ap (λ xs. bytes_after e xs bytes) text;
          cut = took_all p sound heading es (length bytes) (most [] (lent r)) e answer;
        };
        same = k.same;
      }

-- the only reason why a header has no heading
only_code : (h : Header) (o : Option Format) {f : ScoreFault} → heading_in h o ≡ Err f → f ≡ Code
only_code h None e = cc
only_code h (Some g) e = cc

pub no_heading : {h : Shape} (p : Pile h) (header : Header) (es : List Entry) (r : Roll Closing) (bytes : List ℕ) {f : ScoreFault} → heading_of header ≡ Err f → Scores p header es r bytes (Err f) r bytes
no_heading p header es r bytes {f} e =
    subst (λ v. ScoresAs p v es r bytes (Err f) r bytes) (sym e) (record { answer = ap Err (only_code header (format_of header.code) e); roll_is = refl; sheet_is = refl })

pub in_format : (P : (h : Shape) → Pile h → Type 0) {f g : Format} → f ≡ g → InFormat g P → InFormat f P
in_format P e k = subst (λ f. InFormat f P) (sym e) k

pub with_pile : {h : Shape} {p q : Pile h} {heading : Heading} {es : List Entry} {r : Roll Closing} {bytes : List ℕ} {e : Result Scored ScoreFault} {u : Roll Closing} {after : List ℕ}
    → p ≡ q → ScoresOn p heading es r bytes e u after → ScoresOn q heading es r bytes e u after
with_pile {heading} {es} {r} {bytes} {e} {u} {after} i k = subst (λ v. ScoresOn v heading es r bytes e u after) i k
