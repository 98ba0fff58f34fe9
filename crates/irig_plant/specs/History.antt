-- What it is for a plant to have a history.
use Rattle.std.specs.Prelude.{◌≡◌, ℕ, ◌<◌, ◌≤◌, ◌⊎◌, drop, All, List, [], ◌∷◌, length, Option, None, Some, ⊤, slice_index_or, vec_len, Result, OnOk, OnErr, IfErr}
use Rattle.irig_time.specs.declared.rules.Rules.{Rules}
use Rattle.irig_gen.specs.Frames.{GeneratorValue}
use Rattle.irig_port.specs.declared.port.Port.{Ghosts}
use Rattle.irig_port.specs.Heard.{symbols_heard}
use Rattle.irig_reader.specs.Rules.{IsReaderRules}
use Rattle.irig_reader.specs.History.{ReaderHistory, new_history}
use Rattle.irig_vote.specs.declared.redundancy.Redundancy.{Redundancy}
use Rattle.irig_reader.specs.Readers.{HasReaderHistory}
use Rattle.irig_plant.specs.declared.event.Event.{Event}
use Rattle.irig_plant.specs.declared.entry.Entry.{Entry}
use Rattle.irig_plant.specs.declared.setup.ReaderSetup.{ReaderSetup}
use Rattle.irig_plant.specs.declared.plant.TickedReader.{TickedReader}
use Rattle.irig_plant.specs.declared.plant.Plant.{Plant}
use Rattle.irig_vote.specs.Vote.{redundancy_of}
use Rattle.irig_plant.specs.Schedule.{Setup, setup_at, generator_at, pulses_sent, ticks_of, history_of, log_of}
use Rattle.irig_plant.specs.Audits.{audit_of}
use Rattle.irig_plant.specs.declared.fault.PlantFault.{PlantFault}
use Rattle.irig_plant.specs.Refusals.{refusal}
use Rattle.irig_plant.specs.Runs.{events_after, IsRefused}

-- a generator as it was made with these rules, at edge 0 and without fault
pub record IsNew (rules : Rules) (x : GeneratorValue) : Type 0 where
  pub edge : x.edge ≡ 0
  pub fault : x.fault ≡ None
  pub ruled : x.rules ≡ rules

-- three or five of them
pub record AreGenerators (rules : Rules) (xs : List GeneratorValue) : Type 0 where
  pub count : (length xs ≡ 3) ⊎ (length xs ≡ 5)
  pub new : All (IsNew rules) xs

-- 1 to 16 readers whose rules are in range
pub record AreReaders (xs : List ReaderSetup) : Type 0 where
  pub count : (1 ≤ length xs) × (length xs ≤ 16)
  pub range : All (λ x. IsReaderRules x.rules) xs

-- a reader that has this history and ticked so often
pub record IsTickedReader {P : Type 0} {g : Ghosts P} (history : ReaderHistory) (ticks : ℕ)
    (x : TickedReader P g)
    : Type 0 where
  pub reader : HasReaderHistory x.reader history
  pub ticked : x.ticks ≡ ticks

-- readers with these setups to which nothing has happened
abbrev pub AreNew : {P : Type 0} {g : Ghosts P}
    → Rules → Redundancy → List ReaderSetup → List (TickedReader P g) → Type 0
AreNew {P} {g} rules redundancy readers xs =
    (r : ℕ) (d : TickedReader P g) → r < length readers
    → IsTickedReader
    (new_history rules (setup_at readers r).rules (setup_at readers r).table redundancy) 0
    (slice_index_or xs r d)

-- reader r is where the events leave it
abbrev pub IsTickedReaderAt : {P : Type 0} {g : Ghosts P} → Setup → List Event → ℕ
    → TickedReader P g → Type 0
IsTickedReaderAt s ev r x = IsTickedReader (history_of s r ev) (ticks_of r ev) x

-- what a plant is made of, the events that came, the newest first, and how many entries of its log
-- were let go
pub record PlantHistory : Type 0 where
  pub setup : Setup
  pub events : List Event
  pub shown : ℕ

-- no event has come
abbrev pub beginning : Setup → PlantHistory
beginning s = record { setup = s; events = []; shown = 0 }

-- one more event
abbrev pub with_event : Event → PlantHistory → PlantHistory
with_event e h = record h { events = e ∷ h.events }

-- some more events, the oldest of them first
abbrev pub with_events : List Event → PlantHistory → PlantHistory
with_events es h = record h { events = events_after es h.events }

-- all entries so far were let go
abbrev pub with_cleared_log : PlantHistory → PlantHistory
with_cleared_log h = record h { shown = length (log_of h.setup h.events) }

-- a cached port of generator k, if there is one: a port that heard just what the generator now
-- sends
abbrev pub IsCachedPort : {P : Type 0} (g : Ghosts P) → Setup → List Event → ℕ → Option P → Type 0
IsCachedPort g s ev k None = ⊤
IsCachedPort g s ev k (Some port) = g.stands_for port s.rules (symbols_heard (pulses_sent s k ev))

-- the plant is where its history leaves it
pub record HasPlantHistory {P : Type 0} {g : Ghosts P} (p : Plant P g)
    (h : PlantHistory) : Type 0 where
  pub timeline : p.timeline ≡ h.setup.times
  pub rules : p.rules ≡ h.setup.rules
  pub redundancy : p.redundancy ≡ redundancy_of (length h.setup.generators)
  pub generator_count : vec_len p.generators ≡ length h.setup.generators
  pub generators : (k : ℕ) (d : GeneratorValue) → k < length h.setup.generators
      → slice_index_or p.generators.items k d ≡ generator_at h.setup k h.events
  pub cached_ports : (k : ℕ) (d : Option P) → k < length h.setup.generators
      → IsCachedPort g h.setup h.events k (slice_index_or p.cached_ports.items k d)
  pub reader_count : vec_len p.readers ≡ length h.setup.readers
  pub readers : (r : ℕ) (d : TickedReader P g) → r < length h.setup.readers
      → IsTickedReaderAt h.setup h.events r (slice_index_or p.readers.items r d)
  pub log : p.log.items ≡ drop h.shown (log_of h.setup h.events)
  pub few : h.shown ≤ length (log_of h.setup h.events)
  pub audit : p.audit ≡ audit_of h.setup h.events

-- a fact of each history that the plant may have
abbrev pub ForHistory : {P : Type 0} {g : Ghosts P} → Plant P g → (PlantHistory → Type 0) → Type 0
ForHistory plant fact = (h : PlantHistory) → HasPlantHistory plant h → fact h

-- a fact of each of these entries, by the events that the plant may have had
abbrev pub ForEntries : {P : Type 0} {g : Ghosts P}
    → Plant P g → List Entry → (Setup → List Event → Entry → Type 0) → Type 0
ForEntries plant entries fact = ForHistory plant (λ h. All (fact h.setup h.events) entries)

-- the plant then has the history that this makes of the one that it had
abbrev pub Becomes : {P : Type 0} {g : Ghosts P} → Plant P g → Plant P g
    → (PlantHistory → PlantHistory) → Type 0
Becomes old new next = ForHistory old (λ h. HasPlantHistory new (next h))

-- ---- what a plant does with an event, whatever its history

-- no refusal stands against the event
abbrev pub Accepts : {P : Type 0} {g : Ghosts P} → Plant P g → Event → Type 0
Accepts p e = ForHistory p (λ h. refusal h.setup e h.events ≡ None)

-- this is the first one that does
abbrev pub Refuses : {P : Type 0} {g : Ghosts P} → Plant P g → Event → PlantFault → Type 0
Refuses p e fault = ForHistory p (λ h. refusal h.setup e h.events ≡ Some fault)

-- the same, or, if none does, no memory
abbrev pub RefusesAtLast : {P : Type 0} {g : Ghosts P} → Plant P g → Event → PlantFault → Type 0
RefusesAtLast p e fault = ForHistory p (λ h. IsRefused h.setup e h.events fault)

-- the other plant has one event more
abbrev pub Follows : {P : Type 0} {g : Ghosts P} → Plant P g → Event → Plant P g → Type 0
Follows p e q = Becomes p q (with_event e)

-- the other plant has the same history
abbrev pub Keeps : {P : Type 0} {g : Ghosts P} → Plant P g → Plant P g → Type 0
Keeps p q = Becomes p q (λ h. h)

-- an event that is accepted is the plant's latest, and one that is refused changes nothing
pub record Does {P : Type 0} {g : Ghosts P} (old : Plant P g) (e : Event) (new : Plant P g)
    (result : Result Unit PlantFault) : Type 0 where
  pub accepted : OnOk result (Accepts old e)
  pub stands : OnOk result (Follows old e new)
  pub refused : IfErr result (Refuses old e)
  pub unchanged : OnErr result (Keeps old new)
