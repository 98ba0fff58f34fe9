use Rattle.std.proofs.lemmas.Grind.{merely}
use Rattle.std.proofs.lemmas.List.Elements.{All-nil}
use Rattle.irig_station.specs.ValidEntries.{IsValidEntry}
use Rattle.std.proofs.Common.{◌≡◌, ◌∙◌, ℕ, ◌<◌, All, List, Option, Some, None, get_or, length, refl, sym, ap, subst, arith, inl, inr}
use Rattle.std.specs.Prelude.{slice_get}
use Rattle.std.proofs.lemmas.List.{length-map}
use Rattle.std.proofs.lemmas.Option.{slice_get_cases}
use Rattle.irig_frame.specs.declared.symbol.Symbol.{Symbol}
use Rattle.irig_time.specs.declared.rules.Rules.{Rules}
use Rattle.irig_gen.specs.Frames.{GeneratorValue}
use Rattle.irig_port.specs.declared.port.Port.{Ghosts}
use Rattle.irig_vote.specs.declared.redundancy.Redundancy.{Redundancy}
use Rattle.irig_vote.specs.Vote.{ports_in, redundancy_of}
use Rattle.irig_simulated.specs.declared.second.LineSecond.{LineSecond}
use Rattle.irig_simulated.specs.Setups.{DevicePlan}
use Rattle.irig_simulated.specs.declared.simulated.Simulated.{Simulated}
use Rattle.irig_simulated.specs.Courses.{begun_with}
use Rattle.irig_simulated.specs.Simulations.{IsSimulationOf}
use Rattle.irig_station.specs.StationSetups.{kind_if}
use Rattle.irig_station.specs.StationStandings.{late_of}
use Rattle.irig_station.specs.SentSeconds.{line_of_generator}
use Rattle.irig_station.specs.Stations.{AreNewDevices}
use Rattle.irig_station.specs.Together.{IsDeviceAt}
use Rattle.irig_station.proofs.station.Station.new.Goals as goal

-- a device of the list stands at the beginning of its course
began : {P : Type 0} {g : Ghosts P} (rules : Rules) (redundancy : Redundancy) (setups : List DevicePlan) (devices : List (Simulated P g)) → AreNewDevices rules redundancy setups devices
    → (r : ℕ) (d x : Simulated P g) (symbol : ℕ → ℕ → Symbol) → x ≡ get_or devices r d → r < length setups → (o : Option DevicePlan) → slice_get setups r ≡ o → IsSimulationOf x (kind_if rules redundancy o) symbol (begun_with (kind_if rules redundancy o) (late_of o))
began rules redundancy setups devices are r d x symbol at less None none = elim (slice_get_cases setups r).1 [
  | inl there ↦ absurd (let both : Some there.0 ≡ None = sym there.2 ∙ none in cc)
  | inr past ↦ absurd (omega (arith, past.0, less))
]
began rules redundancy setups devices are r d x symbol at less (Some setup) is = rw at (are.begun r d setup symbol is)

pub invariant_of-result : goal.invariant_of-result
invariant_of-result g c = record {
  valid = merely (subst (All IsValidEntry) (sym c.new-2.ensures.items) (All-nil IsValidEntry));
  together = λ whole.
      let xs = c.args.generators in
      let ports : ports_in c.of_ports-redundancy.result ≡ length xs.items = sym c.of_ports-redundancy.ensures.ports ∙ c.len.ensures ∙ xs.ok.0 in
      record {
        lines = ap (λ (l : List LineSecond). length l) c.in_ok-lines.ensures ∙ length-map c.deref.result.now (line_of_generator c.args.rules c.args.timeline) ∙ ap (λ (l : List GeneratorValue). length l) c.deref.ensures.value;
        number = refl;
        edges = λ k d less. (c.requires.generators.new k d less).edge;
        least = omega arith;
        most = omega arith;
        early = omega arith;
        few = (let n = c.in_ok-devices.ensures.count in let f = c.requires.devices.few in omega (arith, n, f));
        each = subst (λ (n : ℕ). All (IsDeviceAt n 0) c.in_ok-devices.devices.items) ports c.in_ok-devices.ensures.each;
      };
}

pub returns-clause-stands : goal.returns-clause-stands
returns-clause-stands g c =
    let xs = c.args.generators in
    let setups = c.args.setups.now in
    let redundancy : c.of_ports-redundancy.result ≡ redundancy_of (length xs.items) = c.of_ports-redundancy.ensures.value ∙ ap redundancy_of (c.len.ensures ∙ xs.ok.0) in
    let are = subst (λ (r : Redundancy). AreNewDevices c.args.rules r setups c.in_ok-devices.devices.items) redundancy c.in_ok-devices.ensures in
    record {
      timeline = refl;
      rules = refl;
      sources = refl;
      generators = refl;
      begun = refl;
      second = λ some. absurd (omega (arith, some));
      now = refl;
      device_count = c.in_ok-devices.devices.ok.0 ∙ are.count;
      devices = λ r d less. began c.args.rules (redundancy_of (length xs.items)) setups c.in_ok-devices.devices.items are r d _ _ refl less (slice_get setups r) refl;
      log = c.new-2.ensures.items;
      few = omega arith;
      audit = c.audit_at_start-audit.ensures;
      heard = record { keeps = c.new-3.ensures.keeps; few = omega arith; are = λ keeps. c.new-3.ensures.none };
    }
