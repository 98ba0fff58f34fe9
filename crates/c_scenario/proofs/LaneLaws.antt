-- What is to be seen is written as numbers.
use Rattle.std.proofs.Common.{◌≡◌, ℕ, ◌≤◌, List, [], map, length, inl, inr, Result, Ok, Err, ap, sym, ◌∙◌, arith}
use Rattle.std.proofs.lemmas.List.{length-map}
use Rattle.irig_scenario.specs.Scenarios.{ScenarioEnd}
use Rattle.report_run.specs.declared.fault.SceneFault.{SceneFault}
use Rattle.report_run.specs.declared.fault.SceneFault.TheVariants.{Refused, Read, Write, Memory}
use Rattle.report_lanes.specs.declared.lane.Lane.{Lane}
use Rattle.report_lanes.specs.Scenes.{lanes_of as all_lanes_of}
use Rattle.report_lanes.specs.Runs.{DrawnIn}
use Rattle.c_scenario.specs.declared.lane.IrigLane.{IrigLane}
use Rattle.c_scenario.specs.Runs.{HasWholeLog, status_of, written_over}
use Rattle.c_scenario.specs.Lanes.{lane_for, lanes_of}
use Rattle.c_scenario.proofs.WrittenLaws.{nothing_over}

-- without a failure all is there
pub all_drawn : (answer : Result ScenarioEnd SceneFault) (lanes : List Lane) (x : List ℕ) → DrawnIn answer lanes x → HasWholeLog (status_of answer) → lanes ≡ all_lanes_of x
all_drawn (Ok o) lanes x h whole = h.1
all_drawn (Err (Refused line refusal)) lanes x h whole = h.1
all_drawn (Err Read) lanes x h (inl none) = absurd (omega (arith, none))
all_drawn (Err Read) lanes x h (inr none) = absurd (omega (arith, none))
all_drawn (Err Write) lanes x h (inl none) = absurd (omega (arith, none))
all_drawn (Err Write) lanes x h (inr none) = absurd (omega (arith, none))
all_drawn (Err Memory) lanes x h (inl none) = absurd (omega (arith, none))
all_drawn (Err Memory) lanes x h (inr none) = absurd (omega (arith, none))

-- after one nothing is
pub none_drawn : (answer : Result ScenarioEnd SceneFault) (lanes : List Lane) (x : List ℕ) → DrawnIn answer lanes x → 4 ≤ status_of answer → lanes ≡ []
none_drawn (Ok o) lanes x h failed = absurd (omega (arith, failed))
none_drawn (Err (Refused line refusal)) lanes x h failed = absurd (omega (arith, failed))
none_drawn (Err Read) lanes x h failed = h
none_drawn (Err Write) lanes x h failed = h
none_drawn (Err Memory) lanes x h failed = h

module _ (answer : Result ScenarioEnd SceneFault) (lanes : List Lane) (x : List ℕ) (h : DrawnIn answer lanes x) where
  pub lanes_are : HasWholeLog (status_of answer) → map lane_for lanes ≡ lanes_of x
  lanes_are whole = ap (map lane_for) (all_drawn answer lanes x h whole)

  pub count_is : HasWholeLog (status_of answer) → length lanes ≡ length (lanes_of x)
  count_is whole = sym (length-map lanes lane_for) ∙ ap length (lanes_are whole)

  pub room_stays : (old room : List IrigLane) → 4 ≤ status_of answer → room ≡ written_over old (map lane_for lanes) → room ≡ old
  room_stays old room failed is = is ∙ ap (λ fs. written_over old (map lane_for fs)) (none_drawn answer lanes x h failed) ∙ nothing_over old
