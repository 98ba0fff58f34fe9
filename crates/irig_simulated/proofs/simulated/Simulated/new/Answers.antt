use Rattle.std.proofs.Common.{◌≡◌, ◌∙◌, ℕ, ◌+◌, ◌^◌, ◌≤◌, List, [], refl, sym, ap, arith, rules, subst}
use Rattle.std.specs.Prelude.{All}
use Rattle.irig_wires.specs.Oscillator.{rate_of}
use Rattle.irig_wires.specs.Wires.{most_late_us, wires_of}
use Rattle.irig_simulated.specs.declared.setup.Ticking.{Ticking}
use Rattle.irig_simulated.specs.Setups.{DevicePlan}
use Rattle.irig_simulated.specs.Kinds.{Kind, count, kind_of}
use Rattle.irig_simulated.specs.Courses.{next_tick}
use Rattle.irig_simulated.proofs.StandsLaws.{made_same, waited}
use Rattle.irig_simulated.proofs.simulated.Simulated.new.Goals as goal

pub new-requires-3 : goal.new-requires-3
new-requires-3 g c =
    let same : c.as_slice.result.now ≡ c.args.setup.now.late_us = c.as_slice.ensures.value ∙ ap (λ (p : DevicePlan). p.late_us) c.setup.view_is in
    subst (λ (xs : List ℕ). All (λ us. us ≤ most_late_us) xs) (sym same) c.requires.late

pub returns-clause-stands : goal.returns-clause-stands
returns-clause-stands g c symbol =
    let setup = c.args.setup.now in
    let is = c.setup.view_is in
    let k : Kind = kind_of c.args.rules c.args.redundancy setup in
    let counter : c.setup.inside.counter ≡ setup.counter = ap (λ (p : DevicePlan). p.counter) is in
    let gain : c.setup.inside.gain_us ≡ setup.gain_us = ap (λ (p : DevicePlan). p.gain_us) is in
    let first : c.from-first.result + 2 ^ 32 ≡ count k 0 = omega (arith, c.from-first.ensures, counter) in
    let own : c.in-Some.oscillator.first ≡ setup.counter + 2 ^ 32 = (let o : c.in-Some.oscillator.first ≡ c.setup.inside.counter + 2 ^ 32 = search rules in omega (arith, o, counter)) in
    let rate : rate_of c.in-Some.oscillator.gain_us ≡ rate_of setup.gain_us = (let o : c.in-Some.oscillator.gain_us ≡ c.setup.inside.gain_us = search rules in ap rate_of (o ∙ gain)) in
    let table = c.copy.ensures ∙ ap (λ (p : DevicePlan). p.table) is in
    let clock = c.clock_in-clock.ensures in
    let device = made_same c.in_ok-device.device c.args.rules _ k.made.clock _ k.made.table symbol _ (count k 0) clock table first (c.in_ok-device.ensures.2 symbol) in
    let wait = waited c.in_ok-device.device k symbol (count k 0) _ c.wait.result 0 [] device c.wait.ensures first in
    let ticking : c.setup.inside.ticking ≡ setup.ticking = ap (λ (p : DevicePlan). p.ticking) is in
    record {
      device = device;
      ended = tt;
      first = own;
      rate = rate;
      ticking = ticking;
      now = refl;
      wires = c.new-3.ensures ∙ ap wires_of (c.as_slice.ensures.value ∙ ap (λ (p : DevicePlan). p.late_us) is);
      tick = c.next_tick-tick_us.ensures ∙ ap (λ (t : Ticking). next_tick t c.in-Some.oscillator.first (rate_of c.in-Some.oscillator.gain_us) 0 c.wait.result) ticking
          ∙ ap (λ (n : ℕ). next_tick setup.ticking n (rate_of c.in-Some.oscillator.gain_us) 0 c.wait.result) own
          ∙ ap (λ (n : ℕ). next_tick setup.ticking k.first n 0 c.wait.result) rate ∙ ap (λ (n : ℕ). next_tick setup.ticking k.first k.rate 0 n) wait;
      send = refl;
      told = c.new-4.ensures.items;
    }
