-- What a rally is settled as hands out the record by which the log grows.
use Rattle.chair.proofs.Growing.{grew}
use Rattle.chair.proofs.session.Session.obey.Goals as goal

pub returns-in-Settle-clause-grows : goal.returns-in-Settle-clause-grows
returns-in-Settle-clause-grows g c = grew g.C.Contest.pile g.C.Contest.standing c.args.self.now c.settle.new.self _ c.settle.result c.settle.ensures
