use Rattle.std.proofs.Common.{◌≡◌, ◌≤◌, ◌-◌, ℕ, Option}
use Rattle.irig_frame.specs.declared.symbol.Symbol.{Symbol}
use Rattle.irig_simulated.specs.Kinds.{Kind}
use Rattle.irig_simulated.specs.Heard.{heard_of_most}
use Rattle.irig_simulated.specs.Courses.{Course, most_in, played}
use Rattle.irig_simulated.specs.Seconds.{IsSecondOf}
use Rattle.irig_simulated.specs.Simulations.{IsSimulationOf}
use Rattle.irig_simulated.proofs.HeardLaws.{HeardSoFar}
use Rattle.irig_simulated.proofs.simulated.Simulated.run.Given as goal

abbrev pub invariant-loop : goal.invariant-loop
invariant-loop g l =
    (l.self.device.clock ≡ l.initial.self.device.clock)
    × (l.initial.self.now_us ≤ l.self.now_us) × (l.self.now_us ≤ l.stop_us)
    × ((k : Kind) (signal : ℕ → ℕ → Option Symbol) (symbol : ℕ → ℕ → Symbol) (x : Course) → IsSecondOf l.second signal symbol → IsSimulationOf l.initial.self k symbol x
    → (y : Course) × IsSimulationOf l.self k symbol y
    × HeardSoFar l.initial.kept l.kept (heard_of_most k l.device signal l.stop_us (most_in (l.stop_us - l.initial.self.now_us) - l.counter) y) (heard_of_most k l.device signal l.stop_us (most_in (l.stop_us - l.initial.self.now_us)) x)
    × (played k signal l.stop_us (most_in (l.stop_us - l.initial.self.now_us) - l.counter) y ≡ played k signal l.stop_us (most_in (l.stop_us - l.initial.self.now_us)) x))
