-- The levels that a list says, one after another.
-- Source: this project's profile: they are looked at at each nanosecond, and said where they change. They are sure up
-- to a second before the newest pulse, since no row that follows lies further back.
use Rattle.std.specs.Prelude.{ℕ, zero, suc, ◌+◌, ◌-◌, Bool, true, false, if◌then◌else◌, List, [], ◌∷◌, ◌++◌, length, Option, Some, None, Result, Ok, Err, nat_eq, nat_le, nat_lt}
use Rattle.record_levels.specs.declared.levels.Levels.{Levels}
use Rattle.record_text.specs.Lines.{Line}
use Rattle.record_cells.specs.Remarks.{is_remark}
use Rattle.record_list.specs.declared.now.Fault.{Fault}
use Rattle.record_list.specs.declared.now.Now.{Now}
use Rattle.record_list.specs.declared.now.Placed.{Placed}
use Rattle.record_list.specs.declared.now.Seen.{Seen}
use Rattle.record_list.specs.declared.pulse.Pulse.{Pulse}
use Rattle.record_list.specs.declared.row.Reason.{Reason}
use Rattle.record_list.specs.declared.row.Reason.TheVariants.{Many, NoRow}
use Rattle.record_list.specs.declared.row.Row.{Row}
use Rattle.record_list.specs.declared.row.Span.{Span}
use Rattle.record_list.specs.Pulses.{high_at, unended}
use Rattle.record_list.specs.Rows.{bit_of, row_of, span_of}

-- what a list says: levels, why it is refused, or the time at which it ends
pub data Said : Type 0 where
  Change : Levels → Said
  Refused : Fault → Said
  Ends : ℕ → Said

-- what is read of rows: on which line the names stand, and the ports that are chosen
pub record Reading : Type 0 where
  pub above : ℕ
  pub ports : List ℕ

-- before the first row
abbrev pub start : Now
start = record { is_begun = false; at_ns = 0; high = None; newest_ns = 0; end_ns = 0 }

-- a line is refused
abbrev pub refusal : (line : ℕ) → Reason → Fault
refusal line reason = record { line = line; reason = reason }

-- the levels before this time are sure
abbrev pub until : Now → ℕ
until now = now.newest_ns - 1000000000

-- ---- levels

-- the last levels are these
abbrev pub is_last : (last : Option ℕ) → (high : ℕ) → Bool
is_last None high = false
is_last (Some last) high = nat_eq last high

-- levels at a time, unless they are the last ones
abbrev pub unless_last : Now → (high : ℕ) → Option Levels
unless_last now high =
    if is_last now.high high then None else Some (record { time_ns = now.at_ns; high = high })

-- these levels stand from here to the next time
abbrev pub seen : Now → (high next : ℕ) → Seen
seen now high next =
    record { levels = unless_last now high; now = record now { at_ns = next; high = Some high } }

-- levels, if there are some
abbrev pub said : Option Levels → List Said
said None = []
said (Some levels) = Change levels ∷ []

-- what is said of these lines here, and then what is said from there on
abbrev pub said_by : Seen → (others : Now → List Said) → List Said
said_by seen others = said seen.levels ++ others seen.now

-- what pulses say of so many nanoseconds, one after another, and then what is said from there on
abbrev pub said_while : (count : ℕ) → List Pulse → Now → (others : Now → List Said) → List Said
said_while zero pulses now others = others now
said_while (suc n) pulses now others =
    said_by (seen now (high_at pulses now.at_ns) (now.at_ns + 1)) (λ next. said_while n pulses next others)

-- what pulses say before a time
abbrev pub said_until : (time : ℕ) → List Pulse → Now → (others : Now → List Said) → List Said
said_until time pulses now others = said_while (time - now.at_ns) pulses now others

-- ---- a row

-- what a line makes of the pulses and of how far the list was read
pub data Step : Type 0 where
  Goes : List Pulse → Now → Step
  Refuses : Fault → Step

-- the greater of two numbers
abbrev pub greater : (a b : ℕ) → ℕ
greater a b = if nat_le a b then b else a

-- a pulse more; the first one begins the recording a second before it rises
abbrev pub heard : Now → Span → Now
heard now span = record {
  is_begun = true;
  at_ns = if now.is_begun then now.at_ns else greater now.at_ns (span.from_ns - 1000000000);
  high = now.high;
  newest_ns = greater now.newest_ns span.from_ns;
  end_ns = greater now.end_ns span.to_ns;
}

-- a pulse of a line that is not chosen is not kept, and of others no more than 2,048
abbrev pub kept : List Pulse → Now → (line : ℕ) → Pulse → Step
kept pulses now line pulse =
    if nat_eq pulse.bit 0 then Goes pulses now
    else (if nat_lt (length pulses) 2048 then Goes (pulses ++ pulse ∷ []) now else Refuses (refusal line Many))

-- the pulse of a line with this bit, if it has a time
abbrev pub placed_at : Now → (bit : ℕ) → Result Span Reason → Result Placed Reason
placed_at now bit (Err reason) = Err reason
placed_at now bit (Ok span) =
    Ok (record { now = heard now span; pulse = record { bit = bit; from_ns = span.from_ns; to_ns = span.to_ns } })

-- the pulse of a row, and how far the list is read with it
abbrev pub placed : (ports : List ℕ) → Now → Result Row Reason → Result Placed Reason
placed ports now (Err reason) = Err reason
placed ports now (Ok row) = placed_at now (bit_of ports row.port) (span_of now row)

-- of pulses that have not ended there is one more
abbrev pub kept_by : List Pulse → (line : ℕ) → Result Placed Reason → Step
kept_by pulses line (Err reason) = Refuses (refusal line reason)
kept_by pulses line (Ok placed) = kept pulses placed.now line placed.pulse

-- what a line makes of them: a remark nothing
abbrev pub step : (ports : List ℕ) → List Pulse → Now → Line → Step
step ports pulses now line =
    if is_remark line.text then Goes pulses now
    else kept_by (unended pulses now.at_ns) line.number (placed ports now (row_of line.text))

-- ---- the whole

-- what is said from there on, unless a step refuses
abbrev pub unless_refuses : Step → (others : List Pulse → Now → List Said) → List Said
unless_refuses (Goes pulses now) others = others pulses now
unless_refuses (Refuses fault) others = Refused fault ∷ []

-- what is said after the last line: all that pulses say before 1,000 hours, and when the last one ended. Without a
-- row it is refused
abbrev pub ended : (above : ℕ) → List Pulse → Now → List Said
ended above pulses now =
    if now.is_begun then said_until 3600000000000000 pulses now (λ next. Ends next.end_ns ∷ [])
    else Refused (refusal above NoRow) ∷ []

-- what lines say: before each one the levels that are sure by then
abbrev pub said_from : Reading → List Pulse → Now → List Line → List Said
said_from reading pulses now [] = said_until (until now) pulses now (ended reading.above pulses)
said_from reading pulses now (line ∷ lines) =
    said_until (until now) pulses now
    (λ next. unless_refuses (step reading.ports pulses next line) (λ more later. said_from reading more later lines))

-- what the lines below the names say
abbrev pub changes_of : Reading → List Line → List Said
changes_of reading lines = said_from reading [] start lines
