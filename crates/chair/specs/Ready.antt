-- That the rally a session holds is the open one of its match, and can be settled.
use Rattle.rally_log.specs.declared.entry.Entry.{Entry}
use Rattle.roll.specs.declared.Roll.{Roll}
use Rattle.umpire.specs.Calls.{refused_if_open, settle_refusal, numbers_of}
use Rattle.umpire.specs.States.{totals_of, state_of}
use Rattle.umpire.specs.declared.matches.Match.{Match}
use Rattle.umpire.specs.declared.rally.CallFault.{CallFault}
use Rattle.umpire.specs.declared.rally.Rally.{Rally}
use Rattle.std.specs.Prelude.{Some, None, Option}

-- what stands in the way: a rally is open and none is held, or the held one cannot be settled
abbrev pub hindrance : {C : Type 0} → Match C → Roll Entry → Option Rally → Option CallFault
hindrance m log None = refused_if_open (totals_of m).in_play
hindrance m log (Some q) = settle_refusal (state_of (λ p. p) m log) (numbers_of q)
