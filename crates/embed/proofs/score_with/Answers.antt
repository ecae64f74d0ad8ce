-- The two arrays are the places.
use Rattle.std.proofs.Common.{replicate}
use lib.ListN.{length-replicate}
use Rattle.contest.specs.declared.side.Side.TheVariants.{A}
use Rattle.rally_log.specs.declared.entry.Entry.{Entry}
use Rattle.rally_log.specs.declared.entry.Entry.TheVariants.{Point}
use Rattle.sheet.specs.declared.closing.Closing.{Closing}
use Rattle.embed.proofs.score_with.Goals as goal

abbrev unused : Closing
unused = record { depth = 0; a = 0; b = 0; winner = A }

pub returns : goal.returns
returns g c =
    record {
      entries = replicate g.row.ENTRIES (Point A);
      entries_after = c.score_log.new.entries;
      closings = replicate g.row.CLOSINGS unused;
      closings_after = c.score_log.new.closings;
      entries_are = length-replicate {A = Entry} g.row.ENTRIES (Point A);
      closings_are = length-replicate g.row.CLOSINGS unused;
      sheet_of = c.score_log.ensures.whole;
    }
