-- What is refused, by which number, and in which words.
use Rattle.std.specs.Prelude.{ℕ, Bool, cond, not, ◌&&◌, ◌||◌, List, codes, Some, None, Option, ◌==◌, nat_le, nat_lt}
use Rattle.contest.specs.declared.goal.Goal.{Goal}
use Rattle.contest.specs.declared.fault.ContestFault.{ContestFault}
use Rattle.contest.specs.declared.fault.ContestFault.TheVariants.{Decided}
use Rattle.contest.specs.declared.fault.RuleFault.{RuleFault}
use Rattle.contest.specs.declared.fault.RuleFault.TheVariants.{Target, Lead, Cap, Threshold}

abbrev pub contest_fault_number : ContestFault → ℕ
contest_fault_number Decided = 6

abbrev pub rule_fault_number : RuleFault → ℕ
rule_fault_number Target = 1
rule_fault_number Lead = 2
rule_fault_number Cap = 3
rule_fault_number Threshold = 4

-- the words of a refusal
abbrev pub contest_fault_words : ContestFault → List ℕ
contest_fault_words Decided = codes "the contest has a winner"

abbrev pub rule_fault_words : RuleFault → List ℕ
rule_fault_words Target = codes "the target is not allowed"
rule_fault_words Lead = codes "the lead is not allowed"
rule_fault_words Cap = codes "the cap is not allowed"
rule_fault_words Threshold = codes "the threshold is not allowed"

-- the target is from 1 to 9,999
abbrev pub target_allowed : Goal → Bool
target_allowed g = nat_le 1 g.target && nat_le g.target 9999

-- the lead is from 1 to the target
abbrev pub lead_allowed : Goal → Bool
lead_allowed g = nat_le 1 g.lead && nat_le g.lead g.target

-- the cap is from the target to 9,999
abbrev pub cap_allowed : Goal → Bool
cap_allowed g = nat_le g.target g.cap && nat_le g.cap 9999

-- a switch's threshold is from 1 to below the cap, and below the target where the lead is 1
abbrev pub threshold_allowed : Goal → ℕ → Bool
threshold_allowed g k = nat_le 1 k && (nat_lt k g.cap && (not (g.lead == 1) || nat_lt k g.target))

-- the fault of lowest number in a race's goal
abbrev pub goal_fault : Goal → Option RuleFault
goal_fault g = cond (target_allowed g) (cond (lead_allowed g) (cond (cap_allowed g) None (Some Cap)) (Some Lead)) (Some Target)

abbrev pub or_threshold : Option RuleFault → Bool → Option RuleFault
or_threshold (Some f) allowed = Some f
or_threshold None allowed = cond allowed None (Some Threshold)

-- the fault of lowest number in a switch's goal and threshold
abbrev pub switch_fault : Goal → ℕ → Option RuleFault
switch_fault g k = or_threshold (goal_fault g) (threshold_allowed g k)
