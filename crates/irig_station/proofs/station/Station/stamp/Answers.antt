use Rattle.std.proofs.Common.{◌≡◌, ◌∙◌, ℕ, ◌-◌, ◌/◌, ◌<◌, ◌≤◌, ◌++◌, ◌∷◌, [], All, Bool, Option, List, length, drop, false, nat_lt, refl, sym, ap, subst, arith}
use Rattle.std.proofs.Math.Logic.{∥∥₁_map}
use Rattle.std.proofs.lemmas.List.{length-append}
use Rattle.std.proofs.lemmas.Bool.{le-ltb}
use Rattle.irig_timekeeper.specs.declared.stamp.Stamp.{Stamp}
use Rattle.irig_simulated.specs.Courses.{may_stamp, stamp_said}
use Rattle.irig_simulated.specs.Simulations.{IsSimulationOf}
use Rattle.irig_station.specs.declared.audit.Audit.{Audit}
use Rattle.irig_station.specs.declared.entry.Entry.{Entry}
use Rattle.irig_station.specs.declared.entry.Entry.TheVariants.{Stamped}
use Rattle.irig_station.specs.StationSetups.{kind_of_device}
use Rattle.irig_station.specs.StationAudits.{audit_seen}
use Rattle.irig_station.specs.StationStandings.{goes_to, has_stamped, refused_at, symbols_so_far}
use Rattle.irig_station.specs.ValidEntries.{IsValidEntry}
use Rattle.irig_station.proofs.StationLaws.{a_device, drop_more}
use Rattle.irig_station.proofs.UtcEntries.{entries_stamped}
use Rattle.irig_station.proofs.station.Station.stamp.Goals as goal

pub invariant_of-self-clause-valid : goal.invariant_of-self-clause-valid
invariant_of-self-clause-valid g c =
    subst (λ (log : List Entry). ∥ All IsValidEntry log ∥₁) (sym c.reserve.ensures.items) c.args.self.now.valid

pub invariant_of-self-2-clause-valid : goal.invariant_of-self-2-clause-valid
invariant_of-self-2-clause-valid g c =
    let log = c.args.self.now.log.items in
    let e : Entry = Stamped c.args.r c.in-Some.time_us c.stamp-stamp.result in
    ∥∥₁_map c.args.self.now.valid
    (entries_stamped log c.push_reserved.new.self.items e (c.push_reserved.ensures.items ∙ ap (λ (l : List Entry). l ++ (e ∷ [])) c.reserve.ensures.items) c.stamp-stamp.ensures.valid)

pub returns : goal.returns
returns g c s x shown q =
    let self = c.args.self.now in
    let r = c.args.r in
    let ago = c.args.ago_us in
    let time = c.in-Some.time_us in
    let there : r < length s.devices = omega (arith, c.in_ok-has_device.ensures.ok, q.device_count) in
    let d = c.index-device.result.now in
    let k = kind_of_device s r in
    let symbol = symbols_so_far s x in
    let course = x.courses r in
    let stood = subst (λ z. IsSimulationOf z k symbol course) (sym c.index-device.ensures) (q.devices r d there) in
    let within : ago ≤ x.now = (let w = c.in-Some.ensures.0 in let n = q.now in let a = c.from.ensures in omega (arith, w, n, a)) in
    let at : time ≡ x.now - ago = (let w = c.in-Some.ensures.1 in let n = q.now in let a = c.from.ensures in omega (arith, w, n, a)) in
    let stamp : c.stamp-stamp.result ≡ stamp_said k course (x.now - ago) = c.stamp-stamp.ensures.value k symbol course stood ∙ ap (stamp_said k course) at in
    let may : c.may_stamp-may.result ≡ may_stamp k symbol course (x.now - ago) = c.may_stamp-may.ensures.value k symbol course stood ∙ ap (may_stamp k symbol course) at in
    let said : Entry = Stamped r time c.stamp-stamp.result in
    let entry : Entry = Stamped r (x.now - ago) (stamp_said k course (x.now - ago)) in
    let same : said ≡ entry = ap (λ (n : ℕ). Stamped r n c.stamp-stamp.result) at ∙ ap (λ (o : Option Stamp). Stamped r (x.now - ago) o) stamp in
    let log : c.push_reserved.new.self.items ≡ drop shown.entries (x.log ++ entry ∷ []) =
    c.push_reserved.ensures.items ∙ ap (λ (l : List Entry). l ++ (said ∷ [])) (c.reserve.ensures.items ∙ q.log) ∙ ap (λ (e : Entry). drop shown.entries x.log ++ (e ∷ [])) same ∙ sym (drop_more shown.entries x.log (entry ∷ []) q.few) in
    let few : shown.entries ≤ length (x.log ++ entry ∷ []) = omega (arith, q.few, length-append x.log (entry ∷ [])) in
    let audit : c.audit_seen-self.result ≡ audit_seen x.audit r (x.now / 1000000) (may_stamp k symbol course (x.now - ago)) =
    c.audit_seen-self.ensures ∙ ap (λ (b : Bool). audit_seen self.audit r (self.now_us / 1000000) b) may ∙ ap (λ (a : Audit). audit_seen a r (self.now_us / 1000000) (may_stamp k symbol course (x.now - ago))) q.audit
    ∙ ap (λ (n : ℕ). audit_seen x.audit r (n / 1000000) (may_stamp k symbol course (x.now - ago))) q.now in
    let before : nat_lt x.now ago ≡ false = le-ltb x.now ago within in
    rw (a_device s r x _ there, before) (refl, assumption (q, log, few, audit))
