use Rattle.std.proofs.Common.{Ok, Err, sym, refl, ◌∙◌, subst, ap₂, rules}
use Rattle.std.proofs.lemmas.Result.{err_from_is_err_and}
use Rattle.rally_log.specs.Readings.{Accepted, Reads, Only}
use Rattle.roll.specs.Rolls.{entries, most}
use Rattle.sheet.proofs.Fitting.{fits}
use Rattle.sheet.proofs.Lent.{read_into}
use Rattle.sheet.proofs.sheets.score_log.Goals as goal

pub returns-in_err-header-clause-whole : goal.returns-in_err-header-clause-whole
returns-in_err-header-clause-whole c =
    let roll = c.read.new.roll in
    let new = c.new-log.ensures in
    let places = ap₂ most new.entries new.spare in
    let same_name = sym (c.read.ensures.same ∙ new.same) in
    let whole = read_into c.new-log.result roll new.entries new.spare c.read.ensures.spare in
    let f = c.in_err-header.field-0.0 in
    let e = err_from_is_err_and c.from_residual.result c.from_residual.ensures.1 in
    rw (e.1, e.2) (record {
      held = entries roll;
      reads = subst (λ n. Reads c.args.bytes.now n (Err f) (entries roll)) places c.in_err-header.ensures.reads;
      only = subst (λ n. Only c.args.bytes.now n (Err f) (entries roll)) places c.in_err-header.ensures.only;
      entries_are = search rules;
      closings_are = refl;
      sheet_is = refl;
    })

pub returns-in_err-score_read-clause-whole : goal.returns-in_err-score_read-clause-whole
returns-in_err-score_read-clause-whole c =
    let roll = c.read.new.roll in
    let new = c.new-log.ensures in
    let places = ap₂ most new.entries new.spare in
    let same_name = sym (c.read.ensures.same ∙ new.same) in
    let whole = read_into c.new-log.result roll new.entries new.spare c.read.ensures.spare in
    let e = err_from_is_err_and c.from_residual-in_err-score_read.result c.from_residual-in_err-score_read.ensures.1 in
    rw (e.1, e.2) (record {
      header = c.in_ok-header.header;
      log = entries roll;
      accepted = subst (λ n. Accepted c.args.bytes.now n c.in_ok-header.header (entries roll)) places c.in_ok-header.ensures.reads;
      entries_are = search rules;
      scores = c.in_err-score_read.ensures;
    })

pub returns : goal.returns
returns c =
    let roll = c.read.new.roll in
    let new = c.new-log.ensures in
    let places = ap₂ most new.entries new.spare in
    let same_name = sym (c.read.ensures.same ∙ new.same) in
    let whole = read_into c.new-log.result roll new.entries new.spare c.read.ensures.spare in
    let so = c.in_ok-score_read.ensures in
    record {
      within = fits so.heading (entries roll) c.args.closings.now c.args.sheet.now so.held so.left c.score_read.new.sheet (Ok c.in_ok-score_read.field-0) so.heading.format so.scored;
      whole = record {
        header = c.in_ok-header.header;
        log = entries roll;
        accepted = subst (λ n. Accepted c.args.bytes.now n c.in_ok-header.header (entries roll)) places c.in_ok-header.ensures.reads;
        entries_are = search rules;
        scores = so;
      };
    }
