-- What a line is, by its last whole frame and the seconds that were told last.
-- Source: this project's profile.
use Rattle.std.specs.Prelude.{ℕ, ◌≤◌, ◌+◌, ◌*◌, ◌%◌, ◌^◌, Bool, ◌&&◌, not, nat_le, nat_lt, if◌then◌else◌, Option, Some, None}
use Rattle.std.specs.Option.{ForSome}
use Rattle.irig_sync.specs.Sync.{clock_gap}
use Rattle.irig_time.specs.declared.claim.Claim.{Claim}
use Rattle.irig_time.specs.Seconds.{same_second}
use Rattle.irig_port.specs.declared.told.Told.{Told}
use Rattle.irig_port.specs.declared.told.Told.TheVariants as tells
use Rattle.irig_lines.specs.declared.lines.KeptFrame.{KeptFrame}
use Rattle.irig_lines.specs.declared.setup.ClockRules.{ClockRules}
use Rattle.irig_timekeeper.specs.declared.stamp.Announced.{Announced}
use Rattle.irig_timekeeper.specs.declared.clock.ClockState.{ClockState}
use Rattle.irig_timekeeper.specs.declared.states.LineState.{LineState}
use Rattle.irig_timekeeper.specs.declared.states.LineState.TheVariants as is
use Rattle.irig_sync.specs.Edges.{element_drift}
use Rattle.irig_lines.specs.Exactness.{most_held_us, most_vote_us}
use Rattle.irig_lines.specs.Widths.{half_us}
use Rattle.irig_lines.specs.Steps.{line_at}

-- seconds that ended at told edges are told with no greater bound than a held one may have
pub record AreSmallEnds (last other : Option Announced) : Type 0 where
  pub ended : ForSome last (λ a. a.bound_us ≤ most_vote_us + most_held_us)
  pub before : ForSome other (λ a. a.bound_us ≤ most_vote_us + most_held_us)

-- a frame's end lies at most so far from an edge, by a clock of 32 bits
abbrev pub is_near : (off edge end : ℕ) → Bool
is_near off edge end = nat_le (clock_gap end ((edge + off) % 2 ^ 32)) (2 * off)

-- a frame of a second that ended at a told edge: a true line's ends no further from it than by its
-- quality it may lie from its own edge, and that from the told one
abbrev pub state_near : ClockRules → (quality end : ℕ) → Announced → LineState
state_near c quality end a =
    if is_near (half_us c quality + element_drift c.drift_us + a.bound_us) a.edge_us end
    then is.Agreed else is.Apart

-- the second of two times lies half a second or more behind the first, so at a later edge
abbrev pub is_later : (time later : ℕ) → Bool
is_later time later =
    not (nat_lt (clock_gap time later) 500000) && nat_lt (clock_gap time later) (2 ^ 31)

-- a frame that claims another second than the one that ended at the last edge, by the one that ended
-- at the edge before. If that is not known, a frame that ends before the last edge is not judged
abbrev pub state_before : ClockRules → Claim → (quality end edge : ℕ) → Option Announced → LineState
state_before c claim quality end edge None = if is_later end edge then is.Unjudged else is.Differed
state_before c claim quality end edge (Some a) =
    if same_second claim.at a.second then state_near c quality end a else is.Differed

-- a frame that claims a second, by those that ended at the last edge and at the one before, if they
-- are known. A frame that ends behind the last edge is not judged yet
abbrev pub state_claiming : ClockRules → Claim → (quality end : ℕ) → (ended before : Option Announced)
    → LineState
state_claiming c claim quality end None before = is.Unjudged
state_claiming c claim quality end (Some a) before =
    if is_later a.edge_us end then is.Unjudged
    else (if same_second claim.at a.second then state_near c quality end a
    else state_before c claim quality end a.edge_us before)

-- by what a frame tells
abbrev pub state_telling : ClockRules → Told → (even : Bool) → (quality end : ℕ)
    → (ended before : Option Announced) → LineState
state_telling c tells.Silence even quality end ended before = is.Broken
state_telling c (tells.Fault f) even quality end ended before = is.Faulty
state_telling c (tells.Poor q) even quality end ended before = is.Poor
state_telling c (tells.Claim claim) even quality end ended before =
    if even then state_claiming c claim quality end ended before else is.Uneven

-- by its last whole frame, if that is not gone; else by whether a pulse came within a second
abbrev pub state_seen : ClockRules → (heard : Bool) → Option KeptFrame → (ended before : Option Announced)
    → LineState
state_seen c heard None ended before = if heard then is.Broken else is.Silent
state_seen c heard (Some f) ended before =
    state_telling c f.told f.is_even f.quality f.end_us ended before

-- what the line of a port is
abbrev pub state_of : ClockRules → ClockState → (port : ℕ) → LineState
state_of c s port =
    state_seen c (line_at s.lines port).is_heard (line_at s.lines port).seen s.ended s.ended_before
