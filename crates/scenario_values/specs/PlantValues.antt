-- The values of a plant line: what its words, numbers and texts stand for, if its shape is
-- right.
-- Source: docs/SCENARIOS.md; the order of refusals is that of docs/FAULTS.md.
use Rattle.std.specs.Prelude.{ℕ, Bool, false, ◌==◌, ◌||◌, if◌then◌else◌, List, [], length, codes, Option, Some, None, option_and_then, unwrap_or}
use Rattle.serde_json.specs.Data.{Data}
use Rattle.serde_json.specs.Find.{get, as_bool}
use Rattle.irig_time.specs.declared.second.UtcSecond.{UtcSecond}
use Rattle.irig_time.specs.declared.leap.Leap.{Leap}
use Rattle.irig_time.specs.declared.rules.Rules.{Rules}
use Rattle.irig_time.specs.TextValues.{day_read, second_read}
use Rattle.irig_gen.specs.declared.zone.Zone.{Zone}
use Rattle.irig_gen.specs.declared.zone.Change.{Change}
use Rattle.irig_reader.specs.declared.rules.ReaderRules.{ReaderRules}
use Rattle.scenario_values.specs.declared.plant_shape.Version.{Version}
use Rattle.scenario_values.specs.declared.plant_shape.Version.TheVariants.{One, Two, Three}
use Rattle.scenario_json.specs.Json.{text_at, items_at, all_of}
use Rattle.scenario_json.specs.Keywords.{parity_of, sense_of, sbs_use_of}
use Rattle.scenario_json.specs.Fields.{natural_at, integer_at, leap_at, few_items}
use Rattle.scenario_values.specs.PlantShape.{leaps, local, changes, leap_kind, lock_after, holdover}

-- ---- steps that may have no value

infixl 10 ◌>>=◌
-- the next step, if this one has a value
abbrev pub ◌>>=◌ : {A B : Type 0} → Option A → (A → Option B) → Option B
o >>= f = option_and_then f o

-- ---- the parts of a plant line

-- the second whose text stands at `start`
unfoldable pub start_of : Data → Option UtcSecond
start_of d = do
  text ← text_at (codes "start") d
  second_read text

-- what stands at `parity`, `sense` and `sbs`
unfoldable pub rules_of : Data → Option Rules
rules_of d = do
  parity ← text_at (codes "parity") d
  sense ← text_at (codes "sense") d
  sbs ← text_at (codes "sbs") d
  parity ← parity_of parity
  sense ← sense_of sense
  sbs ← sbs_use_of sbs
  Some (record { parity = parity; sense = sense; sbs = sbs })

-- a leap with its day
unfoldable pub leap_of : Data → Option (ℕ × Leap)
leap_of d = do
  text ← text_at (codes "day") d
  day ← day_read text
  leap ← leap_at leap_kind d
  Some (day, leap)

-- the zone of a generator or a change; no daylight saving, if nothing is said of it
unfoldable pub zone_of : Data → Option Zone
zone_of d = do
  half_hours ← integer_at local d
  Some (record {
    half_hours = half_hours;
    dst = unwrap_or (option_and_then as_bool (get (codes "dst") d)) false;
  })

-- a change: its second and the zone from then on
unfoldable pub change_of : Data → Option Change
change_of d = do
  text ← text_at (codes "at") d
  at ← second_read text
  zone ← zone_of d
  Some (record { at = at; zone = zone })

-- a generator: its first zone and its changes
pub record GeneratorValues : Type 0 where
  pub zone : Zone
  pub changes : List Change

-- no more changes than may be
abbrev pub few_changes_of : List Data → Option (List Change)
few_changes_of items = do
  few ← few_items changes.kind items
  all_of change_of few

-- no changes, if nothing is said of them
abbrev pub changes_if : Option (List Data) → Option (List Change)
changes_if None = Some []
changes_if (Some items) = few_changes_of items

-- the changes of a generator
unfoldable pub changes_of : Data → Option (List Change)
changes_of d = changes_if (items_at changes.name d)

-- the values of a generator
unfoldable pub generator_of : Data → Option GeneratorValues
generator_of d = do
  zone ← zone_of d
  changes ← changes_of d
  Some (record { zone = zone; changes = changes })

-- three generators, or in version 3 three or five
abbrev pub is_count : Version → ℕ → Bool
is_count One generators = generators == 3
is_count Two generators = generators == 3
is_count Three generators = (generators == 3) || (generators == 5)

-- the generators, as many as the version allows
unfoldable pub generators_of : Version → Data → Option (List GeneratorValues)
generators_of version d = do
  items ← items_at (codes "generators") d
  if is_count version (length items) then all_of generator_of items else None

-- a reader: its rules and what its table is made of
pub record ReaderValues : Type 0 where
  pub rules : ReaderRules
  pub until : ℕ
  pub leaps : List (ℕ × Leap)

-- when a reader locks, and how long it holds over
unfoldable pub reader_rules_of : Data → Option ReaderRules
reader_rules_of d = do
  votes ← natural_at lock_after d
  seconds ← natural_at holdover d
  Some (record { lock_after = votes; holdover = seconds })

-- the end and the leaps of a table, in any number: which are too many, the table says
unfoldable pub table_of : Data → Option (ℕ × List (ℕ × Leap))
table_of d = do
  text ← text_at (codes "until") d
  until ← day_read text
  items ← items_at (codes "leaps") d
  leaps ← all_of leap_of items
  Some (until, leaps)

-- the empty table, if there is none
abbrev pub table_if : Option Data → Option (ℕ × List (ℕ × Leap))
table_if None = Some (0, [])
table_if (Some d) = table_of d

-- the values of a reader
unfoldable pub reader_of : Data → Option ReaderValues
reader_of d = do
  rules ← reader_rules_of d
  table ← table_if (get (codes "table") d)
  Some (record { rules = rules; until = table.0; leaps = table.1 })

-- the objects of the readers
unfoldable pub readers_in : Data → List Data
readers_in d = unwrap_or (items_at (codes "readers") d) []

-- the leaps that come
unfoldable pub leaps_of : Data → Option (List (ℕ × Leap))
leaps_of d = do
  items ← items_at leaps.name d
  few ← few_items leaps.kind items
  all_of leap_of few

-- ---- the line

-- what stands in a plant line, but for the names
pub record PlantValues : Type 0 where
  pub start : UtcSecond
  pub leaps : List (ℕ × Leap)
  pub rules : Rules
  pub generators : List GeneratorValues
  pub readers : List ReaderValues

-- the values of all parts, if each part has its own
unfoldable pub plant_values : Version → Data → Option PlantValues
plant_values version d = do
  start ← start_of d
  leaps ← leaps_of d
  rules ← rules_of d
  generators ← generators_of version d
  readers ← all_of reader_of (readers_in d)
  Some (record {
    start = start;
    leaps = leaps;
    rules = rules;
    generators = generators;
    readers = readers;
  })
