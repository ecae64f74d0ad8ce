-- The pile is the table's.
use Rattle.format_matches.proofs.Formats.{in_format}
use Rattle.format_matches.proofs.play_format.Goals as goal

pub returns-in-Tennis3 : goal.returns-in-Tennis3
returns-in-Tennis3 c = let e = c.in-Tennis3.is in (cc, in_format c.tennis3.ensures.rules c.play-in-Tennis3.ensures)

pub returns-in-Tennis5 : goal.returns-in-Tennis5
returns-in-Tennis5 c = let e = c.in-Tennis5.is in (cc, in_format c.tennis5.ensures.rules c.play-in-Tennis5.ensures)

pub returns-in-TennisMt : goal.returns-in-TennisMt
returns-in-TennisMt c = let e = c.in-TennisMt.is in (cc, in_format c.tennismt.ensures.rules c.play-in-TennisMt.ensures)

pub returns-in-Badminton : goal.returns-in-Badminton
returns-in-Badminton c = let e = c.in-Badminton.is in (cc, in_format c.badminton.ensures.rules c.play-in-Badminton.ensures)

pub returns-in-Volleyball : goal.returns-in-Volleyball
returns-in-Volleyball c = let e = c.in-Volleyball.is in (cc, in_format c.volleyball.ensures.rules c.play-in-Volleyball.ensures)

pub returns-in-Table5 : goal.returns-in-Table5
returns-in-Table5 c = let e = c.in-Table5.is in (cc, in_format c.table5.ensures.rules c.play-in-Table5.ensures)

pub returns-in-SideOut : goal.returns-in-SideOut
returns-in-SideOut c = let e = c.in-SideOut.is in (cc, in_format c.sideout.ensures.rules c.play-in-SideOut.ensures)
