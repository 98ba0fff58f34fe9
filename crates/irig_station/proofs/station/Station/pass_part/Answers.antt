use Rattle.std.proofs.Common.{◌≡◌, ◌∙◌, ℕ, suc, false, ◌+◌, ◌/◌, ◌<◌, ◌≤◌, ◌++◌, List, length, map, true, sym, ap, subst, arith}
use Rattle.std.proofs.lemmas.List.{length-append, length-set}
use Rattle.std.proofs.Math.Logic.{∥∥₁_map}
use Rattle.irig_vote.specs.Vote.{ports_in}
use Rattle.irig_lines.specs.declared.setup.ClockRules.{ClockRules}
use Rattle.irig_simulated.specs.Courses.{keeps_so_far, passed, told_taken}
use Rattle.irig_simulated.specs.Simulations.{IsSimulationOf}
use Rattle.irig_station.specs.declared.audit.Audit.{Audit}
use Rattle.irig_station.specs.declared.entry.Entry.{Entry}
use Rattle.irig_station.specs.declared.entry.Entry.TheVariants.{Told}
use Rattle.irig_station.specs.StationSetups.{kind_of_device}
use Rattle.irig_station.specs.SentSeconds.{signal_by}
use Rattle.irig_station.specs.StationAudits.{audit_seen}
use Rattle.irig_station.specs.StationStandings.{devices_gone, symbols_so_far}
use Rattle.irig_station.specs.Stations.{IsStationAt}
use Rattle.irig_station.specs.Together.{IsDeviceAt}
use Rattle.irig_station.proofs.PassLaws.{gone_set, left_set}
use Rattle.irig_station.proofs.StationLaws.{course_set, drop_more, kept_more}
use Rattle.irig_station.proofs.station.Station.pass_part.Goals as goal

pub invariant_of-self-in-Break-1 : goal.invariant_of-self-in-Break-1
invariant_of-self-in-Break-1 g c = record { valid = c.loop-r.invariant.valid; together = λ whole. absurd (let spent : true ≡ false = sym c.loop-r.invariant.spent ∙ whole in cc) }

pub invariant_of-self-in-loop-r : goal.invariant_of-self-in-loop-r
invariant_of-self-in-loop-r g c = record { valid = ∥∥₁_map c.loop-r.invariant.valid c.see.ensures.valid; together = λ whole. absurd (let spent : true ≡ false = sym c.loop-r.invariant.spent ∙ whole in cc) }

pub loop-r-preserved : goal.loop-r-preserved
loop-r-preserved g c =
    let old = c.args.self.now in
    let l = c.loop-r in
    let inv = l.invariant in
    let xs = l.self.devices.items in
    let stop = c.args.stop_us in
    let ports = length old.generators.items in
    let d = c.index_mut-device.result.now in
    let y = c.see.new.device in
    let low : l.r < length old.devices.items = (let few = c.loop-r-test.true in let end = c.len-r-end.ensures in let ok = old.devices.ok.0 in omega (arith, few, end, ok)) in
    let less : l.r < length xs = omega (arith, low, inv.count) in
    let was : IsDeviceAt ports old.now_us d = subst (λ z. IsDeviceAt ports old.now_us z) (sym c.index_mut-device.ensures.value) (inv.left l.r d (omega arith) low) in
    let here : IsDeviceAt ports stop y = record {
      ports = ap (λ (k : ClockRules). ports_in k.redundancy) (c.in_ok-see.ensures.same ∙ c.in_ok-play.ensures.same) ∙ was.ports;
      stands = c.in_ok-see.ensures.now ∙ c.in_ok-play.ensures.now;
    } in
    record {
      spent = inv.spent;
      valid = ∥∥₁_map inv.valid c.in_ok-see.ensures.valid;
      rest = assumption inv;
      count = length-set xs l.r y ∙ inv.count;
      gone = gone_set ports xs l.r y less stop inv.gone here;
      left = left_set ports xs l.r y less old.now_us (length old.devices.items) inv.left;
      course = λ s x shown q.
          let v = devices_gone s stop l.r x in
          let w = inv.course s x shown q in
          let there : l.r < length s.devices = (let n = q.device_count in let ok = old.devices.ok.0 in omega (arith, low, n, ok)) in
          let k = kind_of_device s l.r in
          let symbol = symbols_so_far s v in
          let course = passed k (signal_by v.seconds) stop (v.courses l.r) in
          let begun : 0 < l.self.begun = (let b = c.requires.begun in let same = inv.rest.begun in omega (arith, b, same)) in
          let stood = subst (λ z. IsSimulationOf z k symbol (v.courses l.r)) (sym c.index_mut-device.ensures.value) (w.devices l.r d there) in
          let stands = c.in_ok-play.ensures.stands k (signal_by v.seconds) symbol (v.courses l.r) (w.second begun) stood in
          let devices = course_set s symbol v.courses xs l.r y (told_taken course) less w.devices (c.in_ok-see.ensures.stands k symbol course stands) in
          let entries = map {B = Entry} (λ told. Told l.r told) course.told in
          let log : c.see.new.log.items ≡ _ = c.in_ok-see.ensures.logged k symbol course stands ∙ ap (λ (l : List Entry). l ++ entries) w.log ∙ sym (drop_more shown.entries v.log entries w.few) in
          let few : shown.entries ≤ length (v.log ++ entries) = (let f = w.few in omega (arith, f, length-append v.log entries)) in
          let kept = keeps_so_far k symbol course in
          let now : old.now_us ≡ v.now = sym inv.rest.now ∙ w.now in
          let audit : c.see.new.audit ≡ audit_seen v.audit l.r (v.now / 1000000) kept =
          c.in_ok-see.ensures.audit k symbol course stands ∙ ap (λ (a : Audit). audit_seen a l.r (old.now_us / 1000000) kept) w.audit ∙ ap (λ (n : ℕ). audit_seen v.audit l.r (n / 1000000) kept) now in
          let heard = kept_more shown l.self.heard c.play.new.kept v.heard _ w.heard (c.in_ok-play.ensures.heard k (signal_by v.seconds) symbol (v.courses l.r) (w.second begun) stood) in
          let next : l.r + 1 ≡ suc l.r = omega arith in
          rw next (assumption (w, devices, log, few, audit, heard));
    }

pub returns-clause-stands : goal.returns-clause-stands
returns-clause-stands g c s x shown q =
    let l = c.loop-r in
    let all : l.r ≡ length s.devices = (let n = q.device_count in let end = c.len-r-end.ensures in let most = l.auto.r-end in let over = c.loop-r-test.false in omega (arith, n, end, most, over)) in
    let w = subst (λ (n : ℕ). IsStationAt l.self s (devices_gone s c.args.stop_us n x) shown) all (l.invariant.course s x shown q) in
    assumption w
