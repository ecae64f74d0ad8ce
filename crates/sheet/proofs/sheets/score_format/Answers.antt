-- In each format the pile is that of the table.
use Rattle.sheet.proofs.Promised.{in_format, with_pile}
use Rattle.sheet.proofs.sheets.score_format.Goals as goal

pub returns-in-Game : goal.returns-in-Game
returns-in-Game c = in_format _ c.in-Game.is (with_pile c.game.ensures.rules c.score_in.ensures)

pub returns-in-Tennis3 : goal.returns-in-Tennis3
returns-in-Tennis3 c = in_format _ c.in-Tennis3.is (with_pile c.tennis3.ensures.rules c.score_in-in-Tennis3.ensures)

pub returns-in-Tennis5 : goal.returns-in-Tennis5
returns-in-Tennis5 c = in_format _ c.in-Tennis5.is (with_pile c.tennis5.ensures.rules c.score_in-in-Tennis5.ensures)

pub returns-in-TennisMt : goal.returns-in-TennisMt
returns-in-TennisMt c = in_format _ c.in-TennisMt.is (with_pile c.tennismt.ensures.rules c.score_in-in-TennisMt.ensures)

pub returns-in-Badminton : goal.returns-in-Badminton
returns-in-Badminton c = in_format _ c.in-Badminton.is (with_pile c.badminton.ensures.rules c.score_in-in-Badminton.ensures)

pub returns-in-Volleyball : goal.returns-in-Volleyball
returns-in-Volleyball c = in_format _ c.in-Volleyball.is (with_pile c.volleyball.ensures.rules c.score_in-in-Volleyball.ensures)

pub returns-in-Table5 : goal.returns-in-Table5
returns-in-Table5 c = in_format _ c.in-Table5.is (with_pile c.table5.ensures.rules c.score_in-in-Table5.ensures)

pub returns-in-SideOut : goal.returns-in-SideOut
returns-in-SideOut c = in_format _ c.in-SideOut.is (with_pile c.sideout.ensures.rules c.score_in-in-SideOut.ensures)
