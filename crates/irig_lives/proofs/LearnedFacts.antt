-- A device whose counter is 37 ppm fast and whose rate changes by 1 ppm from second to second learns it
-- from votes 1,000 s apart, by lines exact to 450 us and to 10 us, and holds over by it, for days if its setup
-- says so.
use Rattle.std.proofs.Common.{◌≡◌, ℕ, ◌+◌, ◌-◌, ◌*◌, ◌/◌, ◌%◌, Some, None, true, false, refl, arith, inr}
use Rattle.irig_time.specs.declared.mark.Mark.TheVariants.{Unspoken}
use Rattle.irig_reader.specs.declared.rule.State.{State}
use Rattle.irig_reader.specs.declared.rule.State.TheVariants.{Locked}
use Rattle.irig_vote.specs.declared.redundancy.Redundancy.TheVariants as of
use Rattle.irig_lines.specs.declared.interval.Interval.{Interval}
use Rattle.irig_lines.specs.declared.pace.Pace.{Pace}
use Rattle.irig_lines.specs.declared.rate.Anchor.{Anchor}
use Rattle.irig_lines.specs.declared.rate.Rate.{Rate}
use Rattle.irig_lines.specs.declared.setup.ClockRules.{ClockRules}
use Rattle.irig_lines.specs.Intervals.{carried, contradicts}
use Rattle.irig_lines.specs.Edges.{IsQuartz, IsNear}
use Rattle.irig_lines.specs.Paces.{IsOscillator, WandersAsSet, grown_us, learned, paced, rest_on}
use Rattle.irig_lines.specs.Rates.{IsMeanFrom, mean_since}
use Rattle.irig_lines.specs.Refusals.{within_of}
use Rattle.irig_lines.proofs.PaceLaws.{IsPaced, begins_paced, goes_on, near_grown}
use Rattle.irig_timekeeper.specs.Clock.{rules_on}
use Rattle.irig_lives.proofs.LifeFacts.{no_delays, usual}

-- ---- the counter

abbrev ns : ℕ → ℕ
ns n = 1000037000 * n + 500 * (n % 2)

abbrev edges : ℕ → ℕ
edges n = ns n / 1000

pub oscillates : (span : ℕ) → IsOscillator 1000 span edges ns
oscillates span = record { clock = λ n. refl; steady = λ i j near far. omega arith }

pub steady : IsQuartz 100 edges
steady = record { steady = record { least = λ n. omega arith; most = λ n. omega arith }; few = omega arith }

-- ---- the setups

abbrev clock_of : ℕ → ClockRules
clock_of within = record { reader_rules = record { lock_after = 4; holdover = 4898 }; redundancy = of.Three; within = within_of within; limits = usual; drift_us = 100; wander_ppb = 1000; delays = no_delays; prefers_frames = false }

pub wanders_so : (within : ℕ) → WandersAsSet (clock_of within) edges
wanders_so within = inr (ns, oscillates 8898)

-- ---- what is learned at T(1005) from an anchor at T(5), where three lines agreed each time

abbrev anchor : ℕ → Anchor
anchor bound = record { begin_us = 5000185 - bound; long_us = 2 * bound; seconds = 1000 }

abbrev known : ℕ → Interval
known bound = record { begin_us = 1005037185 - bound; long_us = 2 * bound }

abbrev rate_450 : Rate
rate_450 = record { seconds = 1000; least_ns = 1000036100; most_ns = 1000037900 }

abbrev rate_10 : Rate
rate_10 = record { seconds = 1000; least_ns = 1000036980; most_ns = 1000037020 }

pub measured : (mean_since (anchor 450) (known 450) ≡ rate_450) × (mean_since (anchor 10) (known 10) ≡ rate_10)
measured = (refl, refl)

pub means : IsMeanFrom edges 5 rate_450 × IsMeanFrom edges 5 rate_10
means = (record { least = omega arith; most = omega arith }, record { least = omega arith; most = omega arith })

abbrev pace_450 : Pace
pace_450 = record { second_ns = 1000037000; within_ns = 1901; rest_ns = 0 }

abbrev pace_10 : Pace
pace_10 = record { second_ns = 1000037000; within_ns = 1021; rest_ns = 0 }

pub learns : (learned (clock_of 450) (Some rate_450) ≡ Some pace_450) × (learned (clock_of 10) (Some rate_10) ≡ Some pace_10)
learns = (refl, refl)

-- by lines exact to 450 us a second lies within 471 us after 10 s and within 1 ms after 288 s, where 1,450 us
-- and 29,250 us are told by the drift
pub holds_450 : (450 + grown_us 100 (Some pace_450) 10 ≡ 471) × (450 + grown_us 100 (Some pace_450) 288 ≡ 999) × (450 + grown_us 100 (Some pace_450) 289 ≡ 1001)
holds_450 = (refl, refl, refl)

-- by such to 10 us within 22 us after 10 s, and within 1 ms after 968 s
pub holds_10 : (10 + grown_us 100 (Some pace_10) 10 ≡ 22) × (10 + grown_us 100 (Some pace_10) 968 ≡ 1000) × (10 + grown_us 100 (Some pace_10) 969 ≡ 1001)
holds_10 = (refl, refl, refl)

-- ---- so it is: the vote's edge lies 450 us behind T(1005), or 10 us before it

pub paced_450 : IsPaced edges 6898 100 450 1005 0 1005037635 pace_450
paced_450 = begins_paced 1000 8898 edges ns (oscillates 8898) 100 steady rate_450 5 6898 450 1005 1005037635 means.0 refl (omega arith) (omega arith) (record { least = omega arith; most = omega arith }) pace_450 refl (omega arith)

pub paced_10 : IsPaced edges 6898 100 10 1005 0 1005037175 pace_10
paced_10 = begins_paced 1000 8898 edges ns (oscillates 8898) 100 steady rate_10 5 6898 10 1005 1005037175 means.1 refl (omega arith) (omega arith) (record { least = omega arith; most = omega arith }) pace_10 refl (omega arith)

pub held_450 : IsNear edges 999 999 1293 1293048291
held_450 = near_grown edges 6898 100 450 1293 288 1293048291 (rest_on 288 pace_450) (goes_on edges 6898 100 450 1005 0 1005037635 pace_450 paced_450 288 (omega arith)) (omega arith) 288 (omega arith)

pub held_10 : IsNear edges 1000 1000 1973 1973072991
held_10 = near_grown edges 6898 100 10 1973 968 1973072991 (rest_on 968 pace_10) (goes_on edges 6898 100 10 1005 0 1005037175 pace_10 paced_10 968 (omega arith)) (omega arith) 968 (omega arith)

-- ---- a holdover of days, behind 2,000 s that were measured, by a counter that the setup takes to run no more
-- than 50 us a second wrong

abbrev days_of : ℕ → ClockRules
days_of within = record { reader_rules = record { lock_after = 4; holdover = 1000000 }; redundancy = of.Three; within = within_of within; limits = usual; drift_us = 50; wander_ppb = 1000; delays = no_delays; prefers_frames = false }

pub wanders_days : (within : ℕ) → WandersAsSet (days_of within) edges
wanders_days within = inr (ns, oscillates 1004000)

pub steady_50 : IsQuartz 50 edges
steady_50 = record { steady = record { least = λ n. omega arith; most = λ n. omega arith }; few = omega arith }

abbrev old_anchor : ℕ → Anchor
old_anchor bound = record { begin_us = 5000185 - bound; long_us = 2 * bound; seconds = 2000 }

abbrev known_then : ℕ → Interval
known_then bound = record { begin_us = 2005074185 - bound; long_us = 2 * bound }

abbrev long_450 : Rate
long_450 = record { seconds = 2000; least_ns = 1000036550; most_ns = 1000037450 }

abbrev long_10 : Rate
long_10 = record { seconds = 2000; least_ns = 1000036990; most_ns = 1000037010 }

pub measured_long : (mean_since (old_anchor 450) (known_then 450) ≡ long_450) × (mean_since (old_anchor 10) (known_then 10) ≡ long_10)
measured_long = (refl, refl)

pub means_long : IsMeanFrom edges 5 long_450 × IsMeanFrom edges 5 long_10
means_long = (record { least = omega arith; most = omega arith }, record { least = omega arith; most = omega arith })

abbrev days_450 : Pace
days_450 = record { second_ns = 1000037000; within_ns = 1451; rest_ns = 0 }

abbrev days_10 : Pace
days_10 = record { second_ns = 1000037000; within_ns = 1011; rest_ns = 0 }

pub learns_days : (learned (days_of 450) (Some long_450) ≡ Some days_450) × (learned (days_of 10) (Some long_10) ≡ Some days_10)
learns_days = (refl, refl)

-- a locked reader that has held over so long
abbrev held_for : ℕ → State
held_for age = Locked (record { last = record { day = 6209; sod = 43200 }; age = age; heard = Unspoken })

-- by lines exact to 450 us it holds over for 337,663 s, which is 3.9 days, and then ends by itself
pub holds_for_days : (rules_on (days_of 450) (Some days_450) (held_for 337662) 1 ≡ (days_of 450).reader_rules) × (rules_on (days_of 450) (Some days_450) (held_for 337663) 1 ≡ record { lock_after = 4; holdover = 0 })
holds_for_days = (refl, refl)

-- by such to 10 us for 484,619 s, 5.6 days
pub holds_for_days_10 : (rules_on (days_of 10) (Some days_10) (held_for 484618) 1 ≡ (days_of 10).reader_rules) × (rules_on (days_of 10) (Some days_10) (held_for 484619) 1 ≡ record { lock_after = 4; holdover = 0 })
holds_for_days_10 = (refl, refl)

-- as long as it has learned nothing, for 9,800 s
pub holds_for_hours : (rules_on (days_of 10) None (held_for 9799) 1 ≡ (days_of 10).reader_rules) × (rules_on (days_of 10) None (held_for 9800) 1 ≡ record { lock_after = 4; holdover = 0 })
holds_for_hours = (refl, refl)

-- so it is: the last edge that it holds lies as near its true one
pub paced_days : IsPaced edges 1002000 50 450 2005 0 2005074635 days_450
paced_days = begins_paced 1000 1004000 edges ns (oscillates 1004000) 50 steady_50 long_450 5 1002000 450 2005 2005074635 means_long.0 refl (omega arith) (omega arith) (record { least = omega arith; most = omega arith }) days_450 refl (omega arith)

pub held_days : IsNear edges 490401 490401 339668 339680568166
held_days = near_grown edges 1002000 50 450 339668 337663 339680568166 (rest_on 337663 days_450) (goes_on edges 1002000 50 450 2005 0 2005074635 days_450 paced_days 337663 (omega arith)) (omega arith) 337663 (omega arith)

pub paced_days_10 : IsPaced edges 1002000 50 10 2005 0 2005074175 days_10
paced_days_10 = begins_paced 1000 1004000 edges ns (oscillates 1004000) 50 steady_50 long_10 5 1002000 10 2005 2005074175 means_long.1 refl (omega arith) (omega arith) (record { least = omega arith; most = omega arith }) days_10 refl (omega arith)

pub held_days_10 : IsNear edges 489961 489961 486624 486642005078
held_days_10 = near_grown edges 1002000 50 10 486624 484619 486642005078 (rest_on 484619 days_10) (goes_on edges 1002000 50 10 2005 0 2005074175 days_10 paced_days_10 484619 (omega arith)) (omega arith) 484619 (omega arith)

-- ---- a vote one second later whose edge lies 50 us behind the true one, with a bound of 10 us

-- by what was learned the interval of 20 us becomes 24 us long
abbrev next_10 : Interval
next_10 = record { begin_us = 1006037210; long_us = 24 }

pub paces_10 : paced pace_10 (known 10) ≡ Some next_10
paces_10 = refl

-- by a drift of 100 us it becomes 220 us long
abbrev drifted_10 : Interval
drifted_10 = record { begin_us = 1006037075; long_us = 220 }

pub drifts_10 : carried 100 1 (known 10) ≡ Some drifted_10
drifts_10 = refl

abbrev far : Interval
far = record { begin_us = 1006037262; long_us = 20 }

-- so the vote contradicts what was learned, and not the drift
pub strays_10 : (contradicts (Some next_10) far ≡ true) × (contradicts (Some drifted_10) far ≡ false)
strays_10 = (refl, refl)
