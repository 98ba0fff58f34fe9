-- What a schedule says: what each generator, port and reader comes to by a list of events, and what
-- is then logged. Lists of events and of votes are written newest first, so that what was "since
-- the last .." comes first in them.
-- Source: docs/SCENARIOS.md, events and what a list of them says.
use Rattle.std.specs.Prelude.{ℕ, ◌+◌, Bool, false, ◌==◌, ◌&&◌, if◌then◌else◌, pos, List, [], ◌∷◌, ◌++◌, length, map, Option, Some, None, slice_index_or}
use Rattle.std.specs.List.{range_with_len}
use Rattle.irig_control.specs.declared.parity.Parity.TheVariants.{Even}
use Rattle.irig_time.specs.declared.rules.Rules.{Rules}
use Rattle.irig_time.specs.declared.rules.Sense.TheVariants.{Add}
use Rattle.irig_time.specs.declared.rules.SbsUse.TheVariants.{Ignore}
use Rattle.irig_time.specs.declared.claim.Claim.{Claim}
use Rattle.irig_time.specs.Timelines.{TimelineValue, truth_at}
use Rattle.irig_time.specs.Tables.{table}
use Rattle.irig_gen.specs.declared.fault.GenFault.{GenFault}
use Rattle.irig_gen.specs.Frames.{GeneratorValue, gen}
use Rattle.irig_gen.specs.Sent.{frame_of, sent_of}
use Rattle.irig_port.specs.declared.told.Told.{Told}
use Rattle.irig_port.specs.Told.{told_of_widths}
use Rattle.irig_vote.specs.Vote.{ports_in, redundancy_of}
use Rattle.irig_reader.specs.History.{Fed, ReaderHistory, told_at_tick, vote_at_tick, report_at_tick}
use Rattle.irig_plant.specs.declared.event.Event.{Event}
use Rattle.irig_plant.specs.declared.event.Event.TheVariants.{GenEdge, Tick, Carry, Damage, Replay, Raw, Fault, Repair, Restart}
use Rattle.irig_plant.specs.declared.entry.Entry.{Entry}
use Rattle.irig_plant.specs.declared.setup.ReaderSetup.{ReaderSetup}
use Rattle.irig_plant.specs.Widths.{widths_of, with_damage}

-- what a plant is made of
pub record Setup : Type 0 where
  pub times : TimelineValue
  pub generators : List GeneratorValue
  pub rules : Rules
  pub readers : List ReaderSetup

-- the plant of this timeline, these generators, rules and readers
abbrev pub setup : TimelineValue → List GeneratorValue → Rules → List ReaderSetup → Setup
setup times generators rules readers =
    record { times = times; generators = generators; rules = rules; readers = readers }

-- what stands for a reader past the last one; no event that is accepted names it
abbrev pub no_reader : ReaderSetup
no_reader = record { rules = record { lock_after = 1; holdover = 0 }; table = table 0 [] }

-- what stands for a generator past the last one
abbrev pub no_generator : GeneratorValue
no_generator =
    gen (record { half_hours = pos 0; dst = false }) []
    (record { parity = Even; sense = Add; sbs = Ignore }) 0 None 0

-- ---- generators

-- the generator an edge further
abbrev pub generator_at_next_edge : GeneratorValue → GeneratorValue
generator_at_next_edge x = record x { edge = x.edge + 1 }

-- the fault is set at the edge at which the generator stands
abbrev pub generator_with_fault : GenFault → GeneratorValue → GeneratorValue
generator_with_fault kind x = record x { fault = Some kind; since = x.edge }

-- the generator repaired
abbrev pub generator_without_fault : GeneratorValue → GeneratorValue
generator_without_fault x = record x { fault = None }

-- generator g: an edge further with each of its steps, and with its last fault unless it was
-- repaired since
abbrev pub generator_at : Setup → ℕ → List Event → GeneratorValue
generator_at s g [] = slice_index_or s.generators g no_generator
generator_at s g (GenEdge x ∷ ev) =
    if x == g then generator_at_next_edge (generator_at s g ev) else generator_at s g ev
generator_at s g (Fault x kind ∷ ev) =
    if x == g then generator_with_fault kind (generator_at s g ev) else generator_at s g ev
generator_at s g (Repair x ∷ ev) =
    if x == g then generator_without_fault (generator_at s g ev) else generator_at s g ev
generator_at s g (_ ∷ ev) = generator_at s g ev

-- the pulses that it now sends
abbrev pub pulses_sent : Setup → ℕ → List Event → List ℕ
pulses_sent s g ev = widths_of (sent_of (generator_at s g ev) s.times)

-- the pulses that it sends at an edge if it has no fault
abbrev pub pulses_sent_at : Setup → ℕ → ℕ → List Event → List ℕ
pulses_sent_at s g edge ev = widths_of (frame_of None (generator_at s g ev) s.times edge)

-- the pulses of the frame that an event brings which comes now, if it brings one
abbrev pub frame_brought : Setup → Event → List Event → List ℕ
frame_brought s (Carry g r) ev = pulses_sent s g ev
frame_brought s (Damage g r at width) ev = with_damage at width (pulses_sent s g ev)
frame_brought s (Replay g r edge) ev = pulses_sent_at s g edge ev
frame_brought s _ ev = []

-- ---- ports

-- pulses for the port of a generator at a reader
pub record Delivery : Type 0 where
  pub generator : ℕ
  pub reader : ℕ
  pub widths : List ℕ

-- these pulses, from this generator to this reader
abbrev pub delivery : ℕ → ℕ → List ℕ → Delivery
delivery g r widths = record { generator = g; reader = r; widths = widths }

-- what an event delivers that comes after ev
abbrev pub delivery_of : Setup → Event → List Event → Option Delivery
delivery_of s (Carry g r) ev = Some (delivery g r (pulses_sent s g ev))
delivery_of s (Damage g r at width) ev =
    Some (delivery g r (with_damage at width (pulses_sent s g ev)))
delivery_of s (Replay g r edge) ev = Some (delivery g r (pulses_sent_at s g edge ev))
delivery_of s (Raw g r widths) ev = Some (delivery g r widths)
delivery_of s (GenEdge g) ev = None
delivery_of s (Tick r) ev = None
delivery_of s (Fault g kind) ev = None
delivery_of s (Repair g) ev = None
delivery_of s (Restart r) ev = None

-- whether the event leaves the ports of reader r empty
abbrev pub empties : ℕ → Event → Bool
empties r (Tick x) = x == r
empties r (Restart x) = x == r
empties r _ = false

-- the pulses at port p of reader r after a delivery, if there is one
abbrev pub with_delivery : ℕ → ℕ → Option Delivery → List ℕ → List ℕ
with_delivery r p None widths = widths
with_delivery r p (Some d) widths =
    if (d.reader == r) && (d.generator == p) then widths ++ d.widths else widths

-- heard(r, p): the pulses that port p of reader r was fed since its last tick or restart
abbrev pub heard_at : Setup → ℕ → ℕ → List Event → List ℕ
heard_at s r p [] = []
heard_at s r p (e ∷ ev) =
    if empties r e then [] else with_delivery r p (delivery_of s e ev) (heard_at s r p ev)

-- what all ports of reader r were fed since
abbrev pub fed_at : Setup → ℕ → List Event → Fed
fed_at s r ev = record {
  a = heard_at s r 0 ev;
  b = heard_at s r 1 ev;
  c = heard_at s r 2 ev;
  d = heard_at s r 3 ev;
  e = heard_at s r 4 ev;
}

-- what port p of reader r tells of that, at a tick of r that comes now
abbrev pub told_now : Setup → ℕ → List Event → ℕ → Told
told_now s r ev p = told_of_widths s.rules (heard_at s r p ev)

-- what each of its ports tells: as many as there are generators, three or five
abbrev pub ports_now : Setup → ℕ → List Event → List Told
ports_now s r ev =
    map (told_now s r ev) (range_with_len 0 (ports_in (redundancy_of (length s.generators))))

-- ---- readers

-- edge(r): how often reader r ticked, restarts or not
abbrev pub ticks_of : ℕ → List Event → ℕ
ticks_of r [] = 0
ticks_of r (Tick x ∷ ev) = if x == r then ticks_of r ev + 1 else ticks_of r ev
ticks_of r (_ ∷ ev) = ticks_of r ev

-- what reader r is made of
abbrev pub setup_at : List ReaderSetup → ℕ → ReaderSetup
setup_at readers r = slice_index_or readers r no_reader

-- a reader that was fed this and had these votes
abbrev pub history_with : Setup → ℕ → Fed → List (Option Claim) → ReaderHistory
history_with s r fed votes = record {
  rules = s.rules;
  reader_rules = (setup_at s.readers r).rules;
  table = (setup_at s.readers r).table;
  redundancy = redundancy_of (length s.generators);
  limits = None;
  fed = fed;
  votes = votes;
}

-- the votes of r's ticks since its last restart
abbrev pub votes_of : Setup → ℕ → List Event → List (Option Claim)
votes_of s r [] = []
votes_of s r (Tick x ∷ ev) =
    if x == r then vote_at_tick (history_with s r (fed_at s r ev) (votes_of s r ev))
    ∷ votes_of s r ev
    else votes_of s r ev
votes_of s r (Restart x ∷ ev) = if x == r then [] else votes_of s r ev
votes_of s r (_ ∷ ev) = votes_of s r ev

-- the history of reader r
abbrev pub history_of : Setup → ℕ → List Event → ReaderHistory
history_of s r ev = history_with s r (fed_at s r ev) (votes_of s r ev)

-- ---- the log

-- what is logged of a tick of r that comes now: its edge, what the reader's rule says of its votes,
-- what its ports tell, and what they tell of a true frame
abbrev pub entry_of : Setup → ℕ → List Event → Entry
entry_of s r ev = record {
  reader = r;
  edge = ticks_of r ev + 1;
  report = report_at_tick (history_of s r ev);
  redundancy = redundancy_of (length s.generators);
  told = told_at_tick (history_of s r ev);
  truth = truth_at s.times (ticks_of r ev);
}

-- one entry for each tick, the oldest first
abbrev pub log_of : Setup → List Event → List Entry
log_of s [] = []
log_of s (Tick r ∷ ev) = log_of s ev ++ entry_of s r ev ∷ []
log_of s (_ ∷ ev) = log_of s ev
