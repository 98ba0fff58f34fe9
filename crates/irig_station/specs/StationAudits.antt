-- The audit of a station: whether the premises hold under which its devices tell the truth, and
-- where they first broke.
-- Source: docs/SCENARIOS.md, the audit.
use Rattle.std.specs.Prelude.{ℕ, ◌+◌, Bool, not, ◌&&◌, nat_lt, if◌then◌else◌, unsigned_abs, List, [], ◌∷◌, Option, Some, None}
use Rattle.irig_time.specs.Timelines.{TimelineValue}
use Rattle.irig_plant.specs.Audits.{is_true_table}
use Rattle.irig_simulated.specs.Setups.{DevicePlan}
use Rattle.irig_station.specs.declared.audit.Audit.{Audit}
use Rattle.irig_station.specs.declared.audit.Audit.TheVariants.{Kept, FalseTable, Drift, Broken}
use Rattle.irig_station.specs.StationSetups.{StationSetup}

-- ---- at the start

-- a device's leap table is not true, and it holds over for so long that it needs one
abbrev pub is_misled_by_table : TimelineValue → DevicePlan → Bool
is_misled_by_table t d = nat_lt 57 d.rules.holdover && not (is_true_table t d.table)

-- its counter gains or loses more than its setting says
abbrev pub drifts_beyond : DevicePlan → Bool
drifts_beyond d = nat_lt d.drift_us (unsigned_abs d.gain_us)

-- the number of the first device of which this holds; the first of the list has this number
abbrev pub first_device : (DevicePlan → Bool) → (r : ℕ) → List DevicePlan → Option ℕ
first_device test r [] = None
first_device test r (d ∷ ds) = if test d then Some r else first_device test (r + 1) ds

-- a false table goes before a counter that drifts
abbrev pub audit_by_setup : (table drift : Option ℕ) → Audit
audit_by_setup (Some r) drift = FalseTable r
audit_by_setup None (Some r) = Drift r
audit_by_setup None None = Kept

-- the audit before anything has happened
abbrev pub audit_at_start : StationSetup → Audit
audit_at_start s =
    audit_by_setup (first_device (is_misled_by_table s.times) 0 s.devices)
    (first_device drifts_beyond 0 s.devices)

-- ---- at each look at a device

-- the audit once device r is seen in the second of an edge, and its premises are kept or not
abbrev pub audit_seen : Audit → (r edge : ℕ) → (is_kept : Bool) → Audit
audit_seen Kept r edge is_kept = if is_kept then Kept else Broken r edge
audit_seen (FalseTable q) r edge is_kept = FalseTable q
audit_seen (Drift q) r edge is_kept = Drift q
audit_seen (Broken q n) r edge is_kept = Broken q n
