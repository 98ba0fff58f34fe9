-- A log tells the truth if all premises hold.
use Rattle.std.proofs.Common.{◌≡◌, ℕ, zero, suc, ◌≤◌, All, Bool, true, false, cond, List, [], ◌∷◌, Some, None, refl, nat_lt, arith, rules}
use Rattle.std.proofs.lemmas.List.Elements.{All-head, All-tail}
use Rattle.irig_time.specs.Timelines.{TimelineValue, day_length}
use Rattle.irig_time.specs.declared.timeline.TimelineFault.TheVariants.{BadStart}
use Rattle.irig_time.specs.Tables.{table}
use Rattle.irig_time.specs.TimelineFaults.{first_leap_fault, start_fault, IsTimeline}
use Rattle.irig_time.proofs.TimeLaws.{neither}
use Rattle.irig_hold.specs.Truth.{IsTrueTable}
use Rattle.irig_plant.specs.declared.event.Event.{Event}
use Rattle.irig_plant.specs.declared.setup.ReaderSetup.{ReaderSetup}
use Rattle.irig_plant.specs.Schedule.{Setup, setup_at, log_of}
use Rattle.irig_plant.specs.Premises.{HasTrueTable, IsKept}
use Rattle.irig_plant.specs.Truth.{IsTruthful}
use Rattle.irig_plant.proofs.TableLaws.{true_by_test}
use Rattle.irig_plant.proofs.Headline.{log_is_true}

served_start : (b c d : Bool) → cond b (Some BadStart) (cond c (Some BadStart) (cond d None (Some BadStart))) ≡ None → b ≡ false
served_start true c d h = absurd cc
served_start false c d h = refl

-- a timeline begins with day 1 at the earliest
pub starts_late : (t : TimelineValue) → IsTimeline t → 1 ≤ t.start.day
starts_late t h =
    let start = (neither (first_leap_fault [] t.leaps) (start_fault t.leaps t.start) h.sound).1 in
    let test : nat_lt t.start.day 1 ≡ false = served_start (nat_lt t.start.day 1) (nat_lt 36523 t.start.day) (nat_lt t.start.sod (day_length t.leaps t.start.day)) start in
    search rules

-- a table that speaks of no day is true
pub empty_true : (t : TimelineValue) → 1 ≤ t.start.day → IsTrueTable t (table 0 [])
empty_true t late = record { leaps = λ day end from to. absurd (omega (arith, late, from, to)) }

pub table_true : (t : TimelineValue) (readers : List ReaderSetup) (r : ℕ) → 1 ≤ t.start.day → All (HasTrueTable t) readers → IsTrueTable t (setup_at readers r).table
table_true t [] r late tables = empty_true t late
table_true t (x ∷ xs) zero late tables = true_by_test t x.table (All-head (HasTrueTable t) x xs tables)
table_true t (x ∷ xs) (suc r) late tables = table_true t xs r late (All-tail (HasTrueTable t) x xs tables)

pub kept_log_is_true : (s : Setup) (ev : List Event) → IsTimeline s.times → IsKept s ev → All (IsTruthful s.times) (log_of s ev)
kept_log_is_true s ev sound kept = λ k d lt.
    record {
      second = λ u announces. (log_is_true s ev sound k d lt).second
          (record { true_table = table_true s.times s.readers _ (starts_late s.times sound) kept.tables; kept = kept.ticks _ _ }) u announces;
    }
