-- What passes by a station while its devices go on.
use Rattle.std.proofs.Common.{◌≡◌, ◌≢◌, ◌∙◌, ℕ, zero, suc, ◌+◌, ◌-◌, ◌*◌, ◌<◌, ◌≤◌, Bool, true, false, List, length, get_or, set, Option, Some, None, refl, sym, ap, arith, inl, inr, subst, get_or-set_other, get_or-set_same}
use Rattle.std.specs.Prelude.{◌⊎◌, is_none, IsErrAnd, Result, Ok, Err}
use Rattle.std.proofs.lemmas.Bool.{cases_eq, eq-eqb}
use Rattle.irig_port.specs.declared.port.Port.{Ghosts}
use Rattle.irig_time.specs.declared.second.UtcSecond.{UtcSecond}
use Rattle.irig_time.specs.Timelines.{second_at}
use Rattle.irig_plant.proofs.ListLaws.{apart}
use Rattle.irig_simulated.specs.declared.simulated.Simulated.{Simulated}
use Rattle.irig_station.specs.declared.fault.StationFault.{StationFault}
use Rattle.irig_station.specs.declared.fault.StationFault.TheVariants.{EndOfYears, Memory}
use Rattle.irig_station.specs.declared.station.Station.{Station}
use Rattle.irig_station.specs.StationSetups.{StationSetup}
use Rattle.irig_station.specs.StationStandings.{StationStanding, StationStep, goes_to, has_begun_if_due, is_at_edge, lacks_second, part_gone, part_us, refused_at, time_gone}
use Rattle.irig_station.specs.Stations.{HasPlayed, IsStationAt, LetGo}
use Rattle.irig_station.specs.Together.{IsDeviceAt}

-- all but the devices, the log and the audit is as it was
pub record KeepsRest {P : Type 0} {g : Ghosts P} (new old : Station P g) : Type 0 where
  pub timeline : new.timeline ≡ old.timeline
  pub rules : new.rules ≡ old.rules
  pub generators : new.generators ≡ old.generators
  pub begun : new.begun ≡ old.begun
  pub second : new.second ≡ old.second
  pub now : new.now_us ≡ old.now_us

-- ---- whether it is time for a second

pub at_edge : (x : StationStanding) (now begun : ℕ) → now ≡ x.now → begun ≡ length x.seconds → now ≡ begun * 1000000 → is_at_edge x ≡ true
at_edge x now begun same count due = eq-eqb x.now (1000000 * length x.seconds) (omega (arith, same, count, due))

pub not_at_edge : (x : StationStanding) (now begun : ℕ) → now ≡ x.now → begun ≡ length x.seconds → now < begun * 1000000 → is_at_edge x ≡ false
not_at_edge x now begun same count early = apart x.now (1000000 * length x.seconds) (λ e. omega (arith, same, count, early, e))

pub lacks : (s : StationSetup) (x : StationStanding) (second : Option UtcSecond) (b : Bool) → is_at_edge x ≡ true → second ≡ second_at s.times (length x.seconds) → is_none second ≡ b → lacks_second s x ≡ b
lacks s x second b due at is = rw (due, ← at) is

pub lacks_none : (s : StationSetup) (x : StationStanding) → is_at_edge x ≡ false → lacks_second s x ≡ false
lacks_none s x early = rw early refl

-- ---- a stretch of time, part by part

pub time_over : (s : StationSetup) (parts us : ℕ) (x : StationStanding) → us ≡ 0 → time_gone s parts us x ≡ goes_to x
time_over s zero us x none = refl
time_over s (suc parts) us x none = rw (eq-eqb us 0 none) refl

pub time_ends : (s : StationSetup) (parts us : ℕ) (x : StationStanding) → us ≢ 0 → lacks_second s x ≡ true → time_gone s (suc parts) us x ≡ refused_at x EndOfYears
time_ends s parts us x some end = rw (apart us 0 some, end) refl

pub time_step : (s : StationSetup) (parts us : ℕ) (x begun : StationStanding) (part : ℕ) → us ≢ 0 → lacks_second s x ≡ false → begun ≡ has_begun_if_due s x → part ≡ part_us us begun
    → time_gone s (suc parts) us x ≡ time_gone s parts (us - part) (part_gone s (begun.now + part) begun)
time_step s parts us x begun part some goes is size = rw (apart us 0 some, goes, size, is) refl

-- ---- device after device

module _ {P : Type 0} {g : Ghosts P} (ports : ℕ) (xs : List (Simulated P g)) (r : ℕ) (y : Simulated P g) (less : r < length xs) where
  pub gone_set : (stop : ℕ) → ((q : ℕ) (d : Simulated P g) → q < r → IsDeviceAt ports stop (get_or xs q d)) → IsDeviceAt ports stop y → (q : ℕ) (d : Simulated P g) → q < r + 1 → IsDeviceAt ports stop (get_or (set xs r y) q d)
  gone_set stop before here q d few = elim (cases_eq q r) [
    | inl same ↦ subst (λ (n : ℕ). IsDeviceAt ports stop (get_or (set xs r y) n d)) (sym same) (subst (λ (z : Simulated P g). IsDeviceAt ports stop z) (sym (get_or-set_same xs r y d less)) here)
    | inr other ↦ subst (λ (z : Simulated P g). IsDeviceAt ports stop z) (sym (get_or-set_other xs r q y d other)) (before q d (omega (arith, other, few)))
  ]

  pub left_set : (now count : ℕ) → ((q : ℕ) (d : Simulated P g) → r ≤ q → q < count → IsDeviceAt ports now (get_or xs q d)) → (q : ℕ) (d : Simulated P g) → r + 1 ≤ q → q < count → IsDeviceAt ports now (get_or (set xs r y) q d)
  left_set now count before q d more low =
      subst (λ (z : Simulated P g). IsDeviceAt ports now z) (sym (get_or-set_other xs r q y d (λ e. omega (arith, e, more)))) (before q d (omega (arith, more)) low)

-- ---- where it leads

-- what is left leads to where all of it leads
pub led : {P : Type 0} {g : Ghosts P} (p : Station P g) (s : StationSetup) (shown : LetGo) (part whole : StationStep) → part ≡ whole → (y : StationStanding) → part ≡ goes_to y → IsStationAt p s y shown
    → (whole.refusal ≡ None) × IsStationAt p s whole.standing shown
led p s shown part whole same y done at = subst (λ (z : StationStep). (z.refusal ≡ None) × IsStationAt p s z.standing shown) (sym done ∙ same) (refl, at)

pub led_end : {P : Type 0} {g : Ghosts P} (p : Station P g) (s : StationSetup) (shown : LetGo) (part whole : StationStep) (fault : StationFault) → part ≡ whole → (y : StationStanding) → part ≡ refused_at y fault → IsStationAt p s y shown
    → (whole.refusal ≡ Some fault) × IsStationAt p s whole.standing shown
led_end p s shown part whole fault same y done at = subst (λ (z : StationStep). (z.refusal ≡ Some fault) × IsStationAt p s z.standing shown) (sym done ∙ same) (refl, at)

-- a fault is handed on
pub refused_as : {P : Type 0} {g : Ghosts P} (p : Station P g) (s : StationSetup) (step : StationStep) (shown : LetGo) (result : Result Unit StationFault) (fault : StationFault) → IsErrAnd result (λ e. e ≡ fault)
    → ((fault ≡ Memory) ⊎ ((step.refusal ≡ Some fault) × IsStationAt p s step.standing shown)) → HasPlayed p s step shown result
refused_as p s step shown (Ok done) fault is how = absurd is
refused_as p s step shown (Err e) fault is how = subst (λ (f : StationFault). (f ≡ Memory) ⊎ ((step.refusal ≡ Some f) × IsStationAt p s step.standing shown)) (sym is) how

-- so is what a second that does not begin leads to
pub no_second : {P : Type 0} {g : Ghosts P} (p : Station P g) (s : StationSetup) (shown : LetGo) (parts us : ℕ) (y : StationStanding) (whole : StationStep) (fault : StationFault) → us ≢ 0 → time_gone s (suc parts) us y ≡ whole
    → ((fault ≡ Memory) ⊎ ((fault ≡ EndOfYears) × (lacks_second s y ≡ true) × IsStationAt p s y shown)) → (fault ≡ Memory) ⊎ ((whole.refusal ≡ Some fault) × IsStationAt p s whole.standing shown)
no_second p s shown parts us y whole fault some same (inl memory) = inl memory
no_second p s shown parts us y whole fault some same (inr h) =
    inr (led_end p s shown (time_gone s (suc parts) us y) whole fault same y (time_ends s parts us y some h.1 ∙ ap (refused_at y) (sym h.0)) h.2)
