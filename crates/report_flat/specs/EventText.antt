-- The lines of a scenario for pulses, ticks and restarts, in one form: keys in this order, no blanks.
-- Source: docs/SCENARIOS.md, events; this project's profile.
use Rattle.std.specs.Prelude.{◌≡◌, ◌≢◌, ⊤, ℕ, ◌<◌, ◌≤◌, List, [], ◌∷◌, ◌++◌, length, codes, All}
use Rattle.std.specs.List.{flat_map}
use Rattle.std.specs.Fmt.{decimal}
use Rattle.irig_plant.specs.declared.event.Event.{Event}
use Rattle.irig_plant.specs.declared.event.Event.TheVariants.{Tick, Carry, Damage, Replay, Raw, Restart}
use Rattle.report_log.specs.Text.{name_at}

-- ---- the text

-- numbers in decimal, each after a comma
abbrev pub after_commas : List ℕ → List ℕ
after_commas ns = flat_map (λ n. codes "," ++ decimal n) ns

-- numbers in decimal, with commas between
abbrev pub numbers_text : List ℕ → List ℕ
numbers_text [] = []
numbers_text (n ∷ ns) = decimal n ++ after_commas ns

-- the line of an event by the names of the readers in order, without its newline; nothing of an
-- event of another kind
unfoldable pub event_line : List (List ℕ) → Event → List ℕ
event_line names (Raw g r widths) =
    codes "{\"do\":\"raw\",\"g\":" ++ (decimal g ++ (codes ",\"r\":\"" ++ (name_at names r
    ++ (codes "\",\"widths\":[" ++ (numbers_text widths ++ codes "]}")))))
event_line names (Tick r) = codes "{\"do\":\"tick\",\"r\":\"" ++ (name_at names r ++ codes "\"}")
event_line names (Restart r) =
    codes "{\"do\":\"restart\",\"r\":\"" ++ (name_at names r ++ codes "\"}")
event_line names _ = []

-- one line, no blank one, of at most 65,536 bytes: `{` and more, without a newline
pub record IsLine (line : List ℕ) : Type 0 where
  pub more : List ℕ
  pub begins : line ≡ 123 ∷ more
  pub whole : All (λ b. b ≢ 10) line
  pub short : length line ≤ 65536

-- ---- the events

-- pulses that a line can carry
pub record ArePulses (names : List (List ℕ)) (g r : ℕ) (widths : List ℕ) : Type 0 where
  pub generator : g ≤ 255
  pub reader : r < length names
  pub few : length widths ≤ 1000
  pub range : All (λ w. w ≤ 4294967295) widths

-- an event that such a line can carry
abbrev pub IsWritten : List (List ℕ) → Event → Type 0
IsWritten names (Raw g r widths) = ArePulses names g r widths
IsWritten names (Tick r) = r < length names
IsWritten names (Restart r) = r < length names
IsWritten names _ = ⊥

-- the readers and ranges of an event that a line gives
abbrev pub IsInRange : List (List ℕ) → Event → Type 0
IsInRange names (Raw g r widths) = ArePulses names g r widths
IsInRange names (Damage g r at width) = (g ≤ 255) × (r < length names) × (width ≤ 4294967295)
IsInRange names (Carry g r) = (g ≤ 255) × (r < length names)
IsInRange names (Replay g r edge) = (g ≤ 255) × (r < length names)
IsInRange names (Tick r) = r < length names
IsInRange names (Restart r) = r < length names
IsInRange names _ = ⊤
