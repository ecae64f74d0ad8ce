-- A log that was scored with few places, and not for want of a place refused, is scored the same with many; and a refusal leaves the sheet as it was.
use Rattle.std.proofs.Common.{◌≡◌, ℕ, ◌≤◌, true, false, List, [], ◌++◌, length, drop, replicate, Ok, Err, Result, sym, refl, arith}
use lib.ListN.{length-replicate}
use Rattle.std.proofs.lemmas.Bool.{true≢false}
use Rattle.contest.specs.declared.side.Side.TheVariants.{A}
use Rattle.rally_log.specs.declared.entry.Entry.{Entry}
use Rattle.rally_log.specs.declared.entry.Entry.TheVariants.{Let}
use Rattle.rally_log.proofs.Unique.{reads_only}
use Rattle.roll.specs.Rolls.{most}
use Rattle.sheet.proofs.OnePile.{one_pile}
use Rattle.sheet.specs.Scores.{ScoresIn}
use Rattle.sheet.specs.Sheets.{SheetOf, ReadAndScored}
use Rattle.sheet.specs.declared.closing.Closing.{Closing}
use Rattle.sheet.specs.declared.fault.LogFault.{LogFault}
use Rattle.sheet.specs.declared.fault.LogFault.TheVariants.{Reading, Scoring}
use Rattle.sheet.specs.declared.fault.ScoreFault.{ScoreFault}
use Rattle.sheet.specs.declared.score.Scored.{Scored}
use Rattle.embed.specs.Answers.{short_of_places, ScoredWith}
use Rattle.embed.proofs.Closings.{short, with_more_closings}
use Rattle.embed.proofs.Readings.{with_more_entries}

module _ (bytes : List ℕ) (entries more_entries : List Entry) (closings more_closings : List Closing) (sheet : List ℕ) (entries_after : List Entry) (closings_after : List Closing) (after : List ℕ)
    (j : most [] entries ≤ most [] more_entries) (k : most [] closings ≤ most [] more_closings) where
  -- the log was read and scored: what the places then hold
  read_and_scored : (r : Result Scored ScoreFault) → short r ≡ false → (s : ReadAndScored bytes entries closings sheet entries_after closings_after after r)
      → ReadAndScored bytes more_entries more_closings sheet (s.log ++ drop (length s.log) more_entries) (s.scores.held ++ drop (length s.scores.held) more_closings) after r
  read_and_scored r q s =
      let so = s.scores in
      let held = so.held in
      let heading = so.heading in
      let one = one_pile heading.format (λ h p. ScoresIn p heading s.log closings sheet r held so.left after) so.scored in
      record {
        header = s.header;
        log = s.log;
        accepted = record { written = s.accepted.written; known = s.accepted.known; fits = omega (arith, s.accepted.fits) };
        entries_are = refl;
        scores = record {
          heading = heading;
          named = so.named;
          held = held;
          left = drop (length held) more_closings;
          closings_are = refl;
          scored = one.back (λ h p. ScoresIn p heading s.log more_closings sheet r held (drop (length held) more_closings) after)
              (with_more_closings one.pile heading s.log closings more_closings sheet r held so.left after k q one.holds);
        };
      }

  -- the two sorts of places afterwards, with what holds of them
  pub record Elsewhere (r : Result Scored LogFault) : Type 0 where
    pub entries_then : List Entry
    pub closings_then : List Closing
    pub sheet_of : SheetOf bytes more_entries more_closings sheet entries_then closings_then after r

  pub elsewhere : (r : Result Scored LogFault) → short_of_places r ≡ false → SheetOf bytes entries closings sheet entries_after closings_after after r → Elsewhere r
  elsewhere (Ok s) q k = record { entries_then = _; closings_then = _; sheet_of = read_and_scored (Ok s) refl k }
  elsewhere (Err (Scoring f)) q k = record { entries_then = _; closings_then = _; sheet_of = read_and_scored (Err f) q k }
  elsewhere (Err (Reading f)) q k =
      let reads = with_more_entries bytes (most [] entries) (most [] more_entries) f k.held j q k.reads in
      record {
        entries_then = k.held ++ drop (length k.held) more_entries;
        closings_then = more_closings;
        sheet_of = record {
          held = k.held;
          reads = reads;
          only = reads_only bytes (most [] more_entries) (Err f) k.held reads;
          entries_are = refl;
          closings_are = refl;
          sheet_is = k.sheet_is;
        };
      }

abbrev unused : Closing
unused = record { depth = 0; a = 0; b = 0; winner = A }

pub with_many : (e c : ℕ) (log sheet after : List ℕ) (r : Result Scored LogFault) → e ≤ 30000 → c ≤ 4000 → short_of_places r ≡ false
    → ScoredWith e c log sheet after r → ScoredWith 30000 4000 log sheet after r
with_many e c log sheet after r j k q s =
    let es : List Entry = replicate 30000 Let in
    let cs = replicate 4000 unused in
    let many_entries = length-replicate {A = Entry} 30000 Let in
    let many_closings = length-replicate 4000 unused in
    let there = elsewhere log s.entries es s.closings cs sheet s.entries_after s.closings_after after
    (omega (arith, many_entries, s.entries_are)) (omega (arith, many_closings, s.closings_are)) r q s.sheet_of in
    record {
      entries = es;
      entries_after = there.entries_then;
      closings = cs;
      closings_after = there.closings_then;
      entries_are = many_entries;
      closings_are = many_closings;
      sheet_of = there.sheet_of;
    }

-- a refusal leaves the sheet as it was
refused : (e c : ℕ) (log sheet after : List ℕ) (f : LogFault) → ScoredWith e c log sheet after (Err f) → after ≡ sheet
refused e c log sheet after (Reading f) s = s.sheet_of.sheet_is
refused e c log sheet after (Scoring f) s =
    let so = s.sheet_of.scores in
    (one_pile so.heading.format (λ h p. ScoresIn p so.heading s.sheet_of.log s.closings sheet (Err f) so.held so.left after) so.scored).holds.sheet_is

pub untouched : (e c : ℕ) (log sheet after : List ℕ) (r : Result Scored LogFault) → short_of_places r ≡ true → ScoredWith e c log sheet after r → after ≡ sheet
untouched e c log sheet after (Ok s) q k = absurd (true≢false (sym q))
untouched e c log sheet after (Err f) q k = refused e c log sheet after f k
