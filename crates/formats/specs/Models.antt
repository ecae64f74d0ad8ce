-- Which pile a value of each of the code's types is, and where it stands, given the meaning of its service rules.
use Rattle.contest.specs.Service.{Rule}
use Rattle.contest.specs.Piles.{StandingOf, Pile}
use Rattle.contest.specs.Built.{race_pile, race_standing, switch_pile, switch_standing}
use Rattle.contest.specs.Rally.{standing_of as rally_standing}
use Rattle.contest.specs.Hand.{standing_of as hand_standing}
use Rattle.contest.specs.declared.rally.Rally.{Rally}
use Rattle.contest.specs.declared.hand.Hand.{Hand}
use Rattle.contest.specs.declared.race.Race.{Race}
use Rattle.contest.specs.declared.switch.Switch.{Switch}
use Rattle.formats.specs.Table.{Rallies, Hands, Sets, rally, hand}

-- a race over rallies
abbrev pub rallies_pile : {P : Type 0} → Rule → Race Rally P → Pile Rallies
rallies_pile r = race_pile (λ _. rally) (λ _. r)

abbrev pub rallies_standing : {P : Type 0} → Race Rally P → StandingOf Rallies
rallies_standing = race_standing rally_standing

-- a switch between two races over rallies
abbrev pub sets_pile : {P Q R : Type 0} → Rule → Rule → Rule → Switch (Race Rally P) (Race Rally Q) R → Pile Sets
sets_pile p q r = switch_pile (rallies_pile p) (rallies_pile q) (λ _. r)

abbrev pub sets_standing : {P Q R : Type 0} → Switch (Race Rally P) (Race Rally Q) R → StandingOf Sets
sets_standing = switch_standing rallies_standing rallies_standing

-- a race over hands
abbrev pub hands_pile : {P : Type 0} → Rule → Race Hand P → Pile Hands
hands_pile r = race_pile (λ _. hand) (λ _. r)

abbrev pub hands_standing : {P : Type 0} → Race Hand P → StandingOf Hands
hands_standing = race_standing hand_standing
