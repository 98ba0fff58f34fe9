-- The entries of a run for C: what each reader said at each edge, by numbers, with what its ports told
-- and the line of the scenario that asked for it.
-- Source: docs/OUTPUT.md, docs/SCENARIOS.md, docs/C.md.
use Rattle.std.specs.Prelude.{ℕ, ◌+◌, true, List, [], ◌∷◌, map, if◌then◌else◌, nat_le, Option, Some, None, Result, Ok, Err}
use Rattle.irig_time.specs.declared.claim.Claim.{Claim}
use Rattle.irig_time.specs.declared.second.UtcSecond.{UtcSecond}
use Rattle.irig_vote.specs.Vote.{ports_in}
use Rattle.irig_plant.specs.declared.audit.Audit.{Audit}
use Rattle.irig_plant.specs.declared.audit.Audit.TheVariants.{Kept, Broken, FalseTable}
use Rattle.irig_plant.specs.declared.entry.Entry.{Entry}
use Rattle.irig_plant.specs.Schedule.{log_of}
use Rattle.c_numbers.specs.declared.claim.IrigClaim.{IrigClaim}
use Rattle.c_numbers.specs.Numbers.{claim_for}
use Rattle.c_numbers.specs.Reports.{no_claim, told_in, number_of_lock, count_of_lock, number_of_cause}
use mathlib.Core.Logic.{inl, inr}
use Rattle.irig_scene.specs.declared.outcome.Outcome.{Outcome}
use Rattle.irig_station.specs.declared.audit.Audit.{Audit as StationAudit}
use Rattle.irig_station.specs.declared.audit.Audit.TheVariants as station
use Rattle.report_run.specs.declared.fault.SceneFault.{SceneFault}
use Rattle.report_run.specs.Lines.{lines}
use Rattle.irig_scene.specs.Scene.{scenario, audit_in, entries_in, Scene, meaning_of}
use Rattle.irig_station_scene.specs.declared.outcome.StationOutcome.{StationOutcome}
use Rattle.irig_station_scene.specs.StationScenes.{station_audit}
use Rattle.irig_scenario.specs.AnyScenario.{AnyScene}
use Rattle.irig_scenario.specs.Scenarios.{ScenarioEnd}
use Rattle.report_run.specs.declared.either.EitherOutcome.TheVariants.{First, Second}
use Rattle.report_run.specs.Starts.{starts_from}
use Rattle.c_scenario.specs.declared.entry.IrigEntry.{IrigEntry}
use Rattle.c_scenario.specs.declared.entry.IrigVerdict.{IrigVerdict}

-- ---- one entry

-- the second that is announced, or zeros
abbrev pub second_or_zeros : Option UtcSecond → UtcSecond
second_or_zeros (Some u) = u
second_or_zeros None = record { day = 0; sod = 0 }

-- a claim, or zeros
abbrev pub claim_or_zeros : Option Claim → IrigClaim
claim_or_zeros (Some c) = claim_for c
claim_or_zeros None = no_claim

-- 1 if there is one
abbrev pub one_if_some : {A : Type 0} → Option A → ℕ
one_if_some (Some x) = 1
one_if_some None = 0

-- an entry, without its line
abbrev pub entry_for : Entry → IrigEntry
entry_for e = record {
  edge = e.edge;
  line = 0;
  truth = claim_or_zeros e.truth;
  told =
      told_in e.told.a ∷ told_in e.told.b ∷ told_in e.told.c ∷ told_in e.told.d ∷ told_in e.told.e
      ∷ [];
  lock_count = count_of_lock e.report.lock;
  day = (second_or_zeros e.report.announce).day;
  sod = (second_or_zeros e.report.announce).sod;
  reader = e.reader;
  announces = one_if_some e.report.announce;
  lock = number_of_lock e.report.lock;
  cause = number_of_cause e.report.cause;
  ports = ports_in e.redundancy;
  has_truth = one_if_some e.truth;
}

-- ---- the entries of a log

-- those of the log of a scene, without their lines
abbrev pub heard_in : Option Scene → List IrigEntry
heard_in None = []
heard_in (Some x) = map entry_for (log_of x.plan.setup x.events)

-- how many lines, from the first on, began with at most so many entries
unfoldable pub begun : List ℕ → ℕ → ℕ
begun [] count = 0
begun (s ∷ ss) count = if nat_le s count then begun ss count + 1 else 0

-- entries from number i on, each with its line: the last that began with at most so many entries as
-- stand before it
unfoldable pub lined : List ℕ → ℕ → List IrigEntry → List IrigEntry
lined starts i [] = []
lined starts i (e ∷ es) = record e { line = begun starts i } ∷ lined starts (i + 1) es

-- all that the bytes x give
abbrev pub entries_of : List ℕ → List IrigEntry
entries_of x = lined (starts_from scenario entries_in true (lines x) 1 None) 0 (heard_in (meaning_of x).scene)

-- ---- the verdict

-- on a run that was done, by its audit
abbrev pub verdict_by : Audit → IrigVerdict
verdict_by Kept = record { edge = 0; kind = 1; reader = 0 }
verdict_by (Broken r e) = record { edge = e; kind = 2; reader = r }
verdict_by (FalseTable r) = record { edge = 0; kind = 3; reader = r }

-- on any run
abbrev pub verdict_of : Result Outcome SceneFault → IrigVerdict
verdict_of (Ok o) = verdict_by o.audit
verdict_of (Err fault) = record { edge = 0; kind = 0; reader = 0 }

-- on devices
abbrev pub verdict_on_devices : StationAudit → IrigVerdict
verdict_on_devices station.Kept = record { edge = 0; kind = 1; reader = 0 }
verdict_on_devices (station.Broken r e) = record { edge = e; kind = 2; reader = r }
verdict_on_devices (station.FalseTable r) = record { edge = 0; kind = 3; reader = r }
verdict_on_devices (station.Drift r) = record { edge = 0; kind = 4; reader = r }

-- on a scene, whatever its plant has
abbrev pub verdict_in : AnyScene → IrigVerdict
verdict_in (inl x) = verdict_by (audit_in x)
verdict_in (inr x) = verdict_on_devices (station_audit x)

-- on how a run ended without a refusal
abbrev pub verdict_on : ScenarioEnd → IrigVerdict
verdict_on (First o) = verdict_by o.audit
verdict_on (Second o) = verdict_on_devices o.audit

-- on any run
abbrev pub any_verdict_of : Result ScenarioEnd SceneFault → IrigVerdict
any_verdict_of (Ok o) = verdict_on o
any_verdict_of (Err fault) = record { edge = 0; kind = 0; reader = 0 }

-- on a run of devices
abbrev pub station_verdict_of : Result StationOutcome SceneFault → IrigVerdict
station_verdict_of (Ok o) = verdict_on_devices o.audit
station_verdict_of (Err fault) = record { edge = 0; kind = 0; reader = 0 }
