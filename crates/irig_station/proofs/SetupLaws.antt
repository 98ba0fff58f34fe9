-- If the audit is kept at the start, each device is what its setting says.
use Rattle.std.proofs.Common.{◌≡◌, ◌∙◌, ℕ, zero, suc, ◌+◌, ◌<◌, ◌≤◌, Bool, true, false, cond, List, [], ◌∷◌, length, Option, Some, None, refl, sym, arith, inl, inr, subst}
use Rattle.std.specs.Prelude.{nat_lt, int_lt, pos, unsigned_abs, slice_get}
use Rattle.std.proofs.lemmas.Bool.{cases_Bool}
use Rattle.std.proofs.lemmas.Option.{get_or_from_slice_get, slice_get_cases}
use Rattle.irig_time.specs.declared.rules.Rules.{Rules}
use Rattle.irig_time.specs.Timelines.{TimelineValue}
use Rattle.irig_time.specs.TimelineFaults.{IsTimeline}
use Rattle.irig_vote.specs.declared.redundancy.Redundancy.{Redundancy}
use Rattle.irig_reader.specs.declared.rules.ReaderRules.{ReaderRules}
use Rattle.irig_reader.specs.Lives.{KnowsMonthEnds}
use Rattle.irig_lines.specs.Exactness.{most_drift_us}
use Rattle.irig_lines.specs.Refusals.{clock_fault}
use Rattle.irig_plant.specs.Audits.{is_true_table}
use Rattle.irig_plant.proofs.TableLaws.{true_by_test}
use Rattle.irig_wires.specs.Oscillator.{rate_of}
use Rattle.irig_witness.specs.Elements.{KeepsRate}
use Rattle.irig_witness.specs.Promise.{IsTrueSetup}
use Rattle.irig_simulated.specs.Setups.{DevicePlan}
use Rattle.irig_simulated.specs.Kinds.{IsDevicePlan, Kind, clock_in}
use Rattle.irig_station.specs.declared.audit.Audit.TheVariants.{Kept}
use Rattle.irig_station.specs.StationSetups.{IsStationSetup, StationSetup, kind_if, kind_of_device, redundancy_of_station}
use Rattle.irig_station.specs.StationAudits.{audit_at_start, audit_by_setup, drifts_beyond, first_device, is_misled_by_table}

-- ---- the first device of which a test holds

none_here : (test : Bool) (r : ℕ) (rest : Option ℕ) → cond test (Some r) rest ≡ None → (test ≡ false) × (rest ≡ None)
none_here true r rest e = absurd cc
none_here false r rest e = (refl, e)

none_first : (test : DevicePlan → Bool) (r : ℕ) (ds : List DevicePlan) → first_device test r ds ≡ None → (i : ℕ) (d : DevicePlan) → slice_get ds i ≡ Some d → test d ≡ false
none_first test r [] e i d at = absurd cc
none_first test r (x ∷ ds) e zero d at =
    let same : x ≡ d = cc in
    subst (λ (y : DevicePlan). test y ≡ false) same (none_here (test x) r (first_device test (r + 1) ds) e).0
none_first test r (x ∷ ds) e (suc i) d at = none_first test (r + 1) ds (none_here (test x) r (first_device test (r + 1) ds) e).1 i d at

none_of_both : (table drift : Option ℕ) → audit_by_setup table drift ≡ Kept → (table ≡ None) × (drift ≡ None)
none_of_both (Some r) drift e = absurd cc
none_of_both None (Some r) e = absurd cc
none_of_both None None e = (refl, refl)

-- ---- one device

not_less : (a b : ℕ) → nat_lt a b ≡ false → b ≤ a
not_less a b e = grind (arith, e)

few_drift : (rules : ReaderRules) (drift : ℕ) → clock_fault rules drift 0 ≡ None → drift ≤ most_drift_us
few_drift rules drift e = elim (cases_Bool (nat_lt most_drift_us drift)) [
  | inl more ↦ absurd (let h = rw more at e in cc)
  | inr few ↦ not_less most_drift_us drift few
]

keeps_rate : (d : DevicePlan) → IsDevicePlan d → drifts_beyond d ≡ false → KeepsRate d.drift_us (rate_of d.gain_us)
keeps_rate d is steady =
    let near : unsigned_abs d.gain_us ≤ d.drift_us = not_less d.drift_us (unsigned_abs d.gain_us) steady in
    let few = few_drift d.rules d.drift_us is.clock in
    elim (cases_Bool (int_lt d.gain_us (pos 0))) [
      | inl slow ↦ record { least = rw slow (omega (arith, near, few)); most = rw slow (omega (arith, near, few)); few = few }
      | inr fast ↦ record { least = rw fast (omega (arith, near, few)); most = rw fast (omega (arith, near, few)); few = few }
    ]

knows_ends : (t : TimelineValue) (d : DevicePlan) → is_misled_by_table t d ≡ false → KnowsMonthEnds t d.rules d.table
knows_ends t d e = elim (cases_Bool (nat_lt 57 d.rules.holdover)) [
  | inl long ↦ elim (cases_Bool (is_true_table t d.table)) [
    | inl is ↦ inl (true_by_test t d.table is)
    | inr false_one ↦ absurd (let h = rw (long, false_one) at e in cc)
  ]
  | inr short ↦ inr (not_less 57 d.rules.holdover short)
]

true_device : (t : TimelineValue) (redundancy : Redundancy) (d : DevicePlan) → IsTimeline t → IsDevicePlan d → is_misled_by_table t d ≡ false → drifts_beyond d ≡ false
    → IsTrueSetup t (rate_of d.gain_us) (clock_in redundancy d) d.table
true_device t redundancy d times is table steady = record { times = times; steady = keeps_rate d is steady; knows = knows_ends t d table }

-- ---- each device of a station

-- a kind of device of which all is so that its audit asks of a plant line
pub record IsTrueKind (t : TimelineValue) (rules : Rules) (k : Kind) : Type 0 where
  pub rules_are : k.made.rules ≡ rules
  pub setup : IsTrueSetup t k.rate k.made.clock k.made.table

module _ (s : StationSetup) (is : IsStationSetup s) (kept : audit_at_start s ≡ Kept) where
  kind_is_true : (r : ℕ) (o : Option DevicePlan) → slice_get s.devices r ≡ o → r < length s.devices → IsTrueKind s.times s.rules (kind_if s.rules (redundancy_of_station s) o)
  kind_is_true r None at less = elim (slice_get_cases s.devices r).1 [
    | inl there ↦ absurd (let none : Some there.0 ≡ None = sym there.2 ∙ at in cc)
    | inr past ↦ absurd (omega (arith, past.0, less))
  ]
  kind_is_true r (Some d) at less =
      let none = none_of_both (first_device (is_misled_by_table s.times) 0 s.devices) (first_device drifts_beyond 0 s.devices) kept in
      let own : IsDevicePlan d = subst IsDevicePlan (get_or_from_slice_get s.devices r d d at) (is.devices r d less) in
      record {
        rules_are = refl;
        setup = true_device s.times (redundancy_of_station s) d is.times own (none_first (is_misled_by_table s.times) 0 s.devices none.0 r d at) (none_first drifts_beyond 0 s.devices none.1 r d at);
      }

  pub true_kind : (r : ℕ) → r < length s.devices → IsTrueKind s.times s.rules (kind_of_device s r)
  true_kind r less = kind_is_true r (slice_get s.devices r) refl less
