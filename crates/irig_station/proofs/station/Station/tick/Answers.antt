use Rattle.std.proofs.Common.{◌≡◌, ◌∙◌, ℕ, ◌/◌, ◌<◌, ◌≤◌, ◌++◌, List, length, map, refl, sym, ap, subst, arith}
use Rattle.std.proofs.Math.Logic.{∥∥₁_map}
use Rattle.std.proofs.lemmas.List.{length-append}
use Rattle.irig_simulated.specs.Courses.{keeps_so_far, ticked, told_taken}
use Rattle.irig_simulated.specs.Simulations.{IsSimulationOf}
use Rattle.irig_station.specs.declared.audit.Audit.{Audit}
use Rattle.irig_station.specs.declared.entry.Entry.{Entry}
use Rattle.irig_station.specs.declared.entry.Entry.TheVariants.{Told}
use Rattle.irig_station.specs.StationSetups.{kind_of_device}
use Rattle.irig_station.specs.StationAudits.{audit_seen}
use Rattle.irig_station.specs.StationStandings.{goes_to, has_gone, symbols_so_far}
use Rattle.irig_vote.specs.Vote.{ports_in}
use Rattle.irig_lines.specs.declared.setup.ClockRules.{ClockRules}
use Rattle.irig_station.specs.Together.{IsDeviceAt}
use Rattle.irig_station.proofs.StationLaws.{a_device, course_set, drop_more, together_set}
use Rattle.irig_station.proofs.station.Station.tick.Goals as goal

pub invariant_of-self-2-clause-valid : goal.invariant_of-self-2-clause-valid
invariant_of-self-2-clause-valid g c = ∥∥₁_map c.args.self.now.valid c.see.ensures.valid

pub invariant_of-self-2-clause-together : goal.invariant_of-self-2-clause-together
invariant_of-self-2-clause-together g c = λ whole.
    let self = c.args.self.now in
    let t = self.together whole in
    let less : c.args.r < length self.devices.items = omega (arith, c.in_ok-has_device.ensures.ok, self.devices.ok.0) in
    let was = subst (λ z. IsDeviceAt (length self.generators.items) self.now_us z) (sym c.index_mut-device.ensures.value) (t.each c.args.r c.index_mut-device.result.now less) in
    together_set self.generators.items self.second self.begun self.now_us self.devices.items c.args.r c.see.new.device less t (record {
      ports = ap (λ (k : ClockRules). ports_in k.redundancy) (c.see.ensures.same ∙ c.tick.ensures.same) ∙ was.ports;
      stands = c.see.ensures.now ∙ c.tick.ensures.now ∙ was.stands;
    })

pub returns : goal.returns
returns g c s x shown q =
    let self = c.args.self.now in
    let r = c.args.r in
    let there : r < length s.devices = omega (arith, c.in_ok-has_device.ensures.ok, q.device_count) in
    let d = c.index_mut-device.result.now in
    let k = kind_of_device s r in
    let symbol = symbols_so_far s x in
    let course = ticked k (x.courses r) in
    let stood = subst (λ z. IsSimulationOf z k symbol (x.courses r)) (sym c.index_mut-device.ensures.value) (q.devices r d there) in
    let stands = c.in_ok-tick.ensures.stands k symbol (x.courses r) stood in
    let devices = course_set s symbol x.courses self.devices.items r c.see.new.device (told_taken course) (omega (arith, c.in_ok-has_device.ensures.ok, self.devices.ok.0)) q.devices (c.in_ok-see.ensures.stands k symbol course stands) in
    let entries = map {B = Entry} (λ told. Told r told) course.told in
    let log : c.see.new.log.items ≡ _ = c.in_ok-see.ensures.logged k symbol course stands ∙ ap (λ (l : List Entry). l ++ entries) q.log ∙ sym (drop_more shown.entries x.log entries q.few) in
    let few : shown.entries ≤ length (x.log ++ entries) = omega (arith, q.few, length-append x.log entries) in
    let kept = keeps_so_far k symbol course in
    let audit : c.see.new.audit ≡ audit_seen x.audit r (x.now / 1000000) kept =
    c.in_ok-see.ensures.audit k symbol course stands ∙ ap (λ (a : Audit). audit_seen a r (self.now_us / 1000000) kept) q.audit ∙ ap (λ (n : ℕ). audit_seen x.audit r (n / 1000000) kept) q.now in
    rw (a_device s r x (goes_to (has_gone s r course x)) there) (refl, assumption (q, devices, log, few, audit))
