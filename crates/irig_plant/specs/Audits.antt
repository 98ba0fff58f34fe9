-- The audit: whether the premises hold under which readers announce the truth, and where they first
-- break.
-- Source: docs/SCENARIOS.md, the audit.
use Rattle.std.specs.Prelude.{ℕ, ◌+◌, ◌-◌, Bool, true, false, not, ◌||◌, nat_lt, if◌then◌else◌, List, [], ◌∷◌, length, count_by, Option, Some, None}
use Rattle.std.specs.Option.{option_or}
use Rattle.std.specs.List.{list_all, range_with_len}
use Rattle.irig_time.specs.declared.mark.Mark.{Mark}
use Rattle.irig_time.specs.declared.mark.Mark.TheVariants.{Unspoken}
use Rattle.irig_time.specs.declared.second.TheConstants.{LAST_DAY}
use Rattle.irig_time.specs.declared.claim.Claim.{Claim}
use Rattle.irig_time.specs.Timelines.{TimelineValue, leap_of, mark_by, truth_at}
use Rattle.irig_time.specs.Tables.{TableValue, table_mark}
use Rattle.irig_port.specs.declared.told.Told.{Told}
use Rattle.irig_port.specs.declared.told.Told.TheVariants as tells
use Rattle.irig_time.specs.Claims.{same_mark, same_claim}
use Rattle.irig_vote.specs.Vote.{f_of, redundancy_of}
use Rattle.irig_plant.specs.declared.event.Event.{Event}
use Rattle.irig_plant.specs.declared.event.Event.TheVariants.{Tick}
use Rattle.irig_plant.specs.declared.audit.Audit.{Audit}
use Rattle.irig_plant.specs.declared.audit.Audit.TheVariants.{Kept, Broken, FalseTable}
use Rattle.irig_plant.specs.declared.setup.ReaderSetup.{ReaderSetup}
use Rattle.irig_plant.specs.Schedule.{Setup, ports_now, ticks_of}

-- ---- tables

-- a table says nothing of a day's end, or what the timeline has
abbrev pub agrees : Mark → Mark → Bool
agrees said truth = same_mark said Unspoken || same_mark said truth

-- so at the end of one day
abbrev pub agrees_on : TimelineValue → TableValue → ℕ → Bool
agrees_on t table day = agrees (table_mark table day) (mark_by (leap_of t.leaps day))

-- so for each day from the start's to the last one served
unfoldable pub is_true_table : TimelineValue → TableValue → Bool
is_true_table t table =
    list_all (agrees_on t table) (range_with_len t.start.day (LAST_DAY + 1 - t.start.day))

-- the least reader, from this number on, whose table isn't true
abbrev pub first_false : TimelineValue → ℕ → List ReaderSetup → Option ℕ
first_false t r [] = None
first_false t r (x ∷ xs) = if is_true_table t x.table then first_false t (r + 1) xs else Some r

-- ---- ports

-- whether the claim is another than the true one, or there is none
abbrev pub differs : Option Claim → Claim → Bool
differs None c = true
differs (Some truth) c = not (same_claim c truth)

-- whether a port tells an untrue claim
abbrev pub is_untrue : Option Claim → Told → Bool
is_untrue truth (tells.Claim c) = differs truth c
is_untrue truth _ = false

-- how many ports do
abbrev pub untrue_ports : Option Claim → List Told → ℕ
untrue_ports truth ports = count_by (is_untrue truth) ports

-- whether f + 1 or more ports do at a tick of r that comes now; at tick n the truth is the claim of
-- T(n - 1)
abbrev pub is_broken_now : Setup → ℕ → List Event → Bool
is_broken_now s r ev =
    nat_lt (f_of (redundancy_of (length s.generators)))
    (untrue_ports (truth_at s.times (ticks_of r ev)) (ports_now s r ev))

-- a tick of a reader
pub record TickOfReader : Type 0 where
  pub reader : ℕ
  pub edge : ℕ

-- tick number edge of the reader
abbrev pub tick_of_reader : ℕ → ℕ → TickOfReader
tick_of_reader reader edge = record { reader = reader; edge = edge }

-- the first such tick
abbrev pub first_broken : Setup → List Event → Option TickOfReader
first_broken s [] = None
first_broken s (Tick r ∷ ev) =
    option_or (first_broken s ev)
    (if is_broken_now s r ev then Some (tick_of_reader r (ticks_of r ev + 1)) else None)
first_broken s (_ ∷ ev) = first_broken s ev

-- ---- the audit

-- a false table goes before a broken place
abbrev pub verdict : Option ℕ → Option TickOfReader → Audit
verdict (Some r) at = FalseTable r
verdict None (Some at) = Broken at.reader at.edge
verdict None None = Kept

-- the audit once a tick at this place is broken or isn't
abbrev pub audit_after : Audit → TickOfReader → Bool → Audit
audit_after Kept at broken = if broken then Broken at.reader at.edge else Kept
audit_after (Broken r n) at broken = Broken r n
audit_after (FalseTable r) at broken = FalseTable r

-- the audit after some events
abbrev pub audit_of : Setup → List Event → Audit
audit_of s ev = verdict (first_false s.times 0 s.readers) (first_broken s ev)
