use Rattle.std.proofs.Common.{◌≡◌, ◌++◌, sym, ◌∙◌, subst, ap₂, rules}
use Rattle.std.proofs.lemmas.List.{take-append-drop}
use Rattle.roll.specs.Rolls.{entries, spare}
use Rattle.sheet.specs.Scores.{ScoresIn, ScoresOn}
use Rattle.sheet.proofs.OnePile.{one_pile}
use Rattle.sheet.proofs.sheets.score_read.Goals as goal

pub returns : goal.returns
returns c =
    let h = c.in_ok-try_from.field-0 in
    let es = entries c.args.log.now in
    let q = c.score_format.new.closings in
    let new = c.new-roll.ensures in
    let one = one_pile h.format (λ s p. ScoresOn p h es c.new-roll.result c.args.sheet.now c.score_format.result q c.score_format.new.sheet) c.score_format.ensures in
    let same_name = sym (one.holds.same ∙ new.same) in
    let whole : q.places.now ≡ entries q ++ spare q = sym (take-append-drop q.count q.places.now) in
    record {
      heading = h;
      named = sym c.in_ok-try_from.ensures;
      held = entries q;
      left = spare q;
      closings_are = search rules;
      scored = one.back (λ s p. ScoresIn p h es c.args.closings.now c.args.sheet.now c.score_format.result (entries q) (spare q) c.score_format.new.sheet)
          (subst (λ places. ScoresIn one.pile h es places c.args.sheet.now c.score_format.result (entries q) (spare q) c.score_format.new.sheet) (ap₂ ◌++◌ new.entries new.spare) one.holds.scores);
    }
