use Rattle.std.proofs.Common.{◌≡◌, ◌∙◌, ℕ, ◌∷◌, [], Some, length, refl, sym, ap, subst, arith}
use Rattle.std.specs.Prelude.{slice_get}
use Rattle.std.proofs.lemmas.List.{length-append}
use Rattle.std.proofs.lemmas.List.Elements.{All-push}
use Rattle.std.proofs.lemmas.Option.{slice_get_read, slice_get_within}
use Rattle.irig_frame.specs.declared.symbol.Symbol.{Symbol}
use Rattle.irig_vote.specs.Vote.{ports_in}
use Rattle.irig_plant.proofs.ListLaws.{each_push}
use Rattle.irig_simulated.specs.Setups.{DevicePlan}
use Rattle.irig_simulated.specs.Kinds.{kind_of}
use Rattle.irig_simulated.specs.Courses.{begun_with}
use Rattle.irig_simulated.specs.Simulations.{IsSimulationOf}
use Rattle.irig_station.specs.Together.{IsDeviceAt}
use Rattle.irig_station.proofs.station.Station.new_devices.Goals as goal

pub loop-setup-preserved : goal.loop-setup-preserved
loop-setup-preserved g c =
    let l = c.loop-setup in
    let setups = c.args.setups.now in
    let i = l.setup-index in
    let xs = l.devices.items in
    let y = c.in-Ok.device in
    let item = c.setup-item.result in
    let k = kind_of c.args.rules c.args.redundancy in
    let is : slice_get setups i ≡ Some item = slice_get_read setups (length setups) i item refl c.loop-setup-test.true c.setup-item.is in
    let here : IsDeviceAt (ports_in c.args.redundancy) 0 y = record { ports = ap ports_in c.in-Ok.ensures.ports; stands = c.in-Ok.ensures.now } in
    record {
      count = rw c.in_ok-push.ensures.items (let n = l.invariant.count in omega (arith, n, length-append xs (y ∷ [])));
      each = rw c.in_ok-push.ensures.items (All-push (λ z. IsDeviceAt (ports_in c.args.redundancy) 0 z) xs y l.invariant.each here);
      begun = rw c.in_ok-push.ensures.items
          (each_push (λ r z. (setup : DevicePlan) (symbol : ℕ → ℕ → Symbol) → slice_get setups r ≡ Some setup → IsSimulationOf z (k setup) symbol (begun_with (k setup) setup.late_us)) i xs y l.invariant.count l.invariant.begun
          (λ setup symbol at.
          let same : item ≡ setup = (let both : Some item ≡ Some setup = sym is ∙ at in cc) in
          subst (λ (z : DevicePlan). IsSimulationOf y (k z) symbol (begun_with (k z) z.late_us)) same (c.in-Ok.ensures.stands symbol)));
    }

pub returns : goal.returns
returns g c =
    let l = c.loop-setup in
    let all : l.setup-index ≡ length c.args.setups.now = omega arith in
    record {
      count = l.invariant.count ∙ all;
      each = l.invariant.each;
      begun = λ r d setup symbol at. l.invariant.begun r d (let low = slice_get_within c.args.setups.now r setup at in omega (arith, low, all)) setup symbol at;
    }
