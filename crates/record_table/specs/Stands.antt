-- How the chosen lines stand, row by row.
-- Source: this project's profile.
use Rattle.std.specs.Prelude.{ℕ, ◌+◌, ◌/◌, ◌%◌, ◌^◌, Bool, if◌then◌else◌, List, [], ◌∷◌, Option, Some, None, Result, Ok, Err, nat_eq, nat_lt, bit_or}
use Rattle.record_text.specs.Fields.{field}
use Rattle.record_table.specs.declared.row.Plan.{Plan}
use Rattle.record_table.specs.declared.row.Reason.{Reason}
use Rattle.record_table.specs.declared.row.Reason.TheVariants.{Columns, Level}
use Rattle.record_table.specs.declared.row.Stand.{Stand}
use Rattle.record_cells.specs.declared.volts.Swing.{Swing}
use Rattle.record_cells.specs.declared.volts.Threshold.{Threshold}
use Rattle.record_cells.specs.Cells.{columns_in, level_of, unquoted}
use Rattle.record_cells.specs.Volts.{place_of, swung}

-- all low, and never off the threshold
abbrev pub no_stand : Stand
no_stand = record { first = 0; second = 0; third = 0; fourth = 0; fifth = 0; high = 0 }

-- the same lines, all low
abbrev pub all_low : Stand → Stand
all_low stand = record stand { high = 0 }

-- how far the line at a place was off the threshold at most
abbrev pub most_at : Stand → (at : ℕ) → ℕ
most_at stand at =
    if nat_eq at 0 then stand.first
    else (if nat_eq at 1 then stand.second
    else (if nat_eq at 2 then stand.third
    else (if nat_eq at 3 then stand.fourth else stand.fifth)))

-- the line at a place was off so far at most
abbrev pub with_most : Stand → (at most : ℕ) → Stand
with_most stand at most =
    if nat_eq at 0 then record stand { first = most }
    else (if nat_eq at 1 then record stand { second = most }
    else (if nat_eq at 2 then record stand { third = most }
    else (if nat_eq at 3 then record stand { fourth = most } else record stand { fifth = most })))

-- the line at a place, whose bit weighs 2 to that power
abbrev pub swing_at : Stand → (at : ℕ) → Swing
swing_at stand at = record { most = most_at stand at; is_high = nat_eq (stand.high / 2 ^ at % 2) 1 }

-- levels, and that of the line at a place
abbrev pub with_level : (high at : ℕ) → Bool → ℕ
with_level high at is_high = if is_high then bit_or high (2 ^ at) else high

-- the lines with that at a place, which was low
abbrev pub with_swing : Stand → (at : ℕ) → Swing → Stand
with_swing stand at swing = with_most (record stand { high = with_level stand.high at swing.is_high }) at swing.most

-- a voltage at a place, if it is one
abbrev pub swung_to : Threshold → Swing → (place : Option ℕ) → Option Swing
swung_to threshold swing (Some place) = Some (swung swing threshold place)
swung_to threshold swing None = None

-- a level, if it is one
abbrev pub levelled : Swing → (level : Option Bool) → Option Swing
levelled swing (Some is_high) = Some (record swing { is_high = is_high })
levelled swing None = None

-- what a cell makes of a line: a voltage by a threshold, or without one a level
abbrev pub swing_of : Option Threshold → Swing → (cell : List ℕ) → Option Swing
swing_of (Some threshold) swing cell = swung_to threshold swing (place_of (unquoted cell))
swing_of None swing cell = levelled swing (level_of cell)

-- the line that was chosen at a place among the names, and then the others
abbrev pub stand_by : Option Swing → (at place : ℕ) → Stand → (others : Stand → Result Stand Reason) → Result Stand Reason
stand_by None at place stand others = Err (Level place)
stand_by (Some swing) at place stand others = others (with_swing stand at swing)

-- the chosen lines, of which so many are read: what the cell at its place makes of each, as it stood before
abbrev pub stand_from : Option Threshold → (at : ℕ) → Stand → (chosen : List ℕ) → (before : Stand) → (cells : List ℕ) → Result Stand Reason
stand_from threshold at stand [] before cells = Ok stand
stand_from threshold at stand (place ∷ places) before cells =
    stand_by (swing_of threshold (swing_at before at) (field place cells)) at place stand
    (λ next. stand_from threshold (at + 1) next places before cells)

-- the same, if there are as many columns as names
abbrev pub stand_of : Plan → (chosen : List ℕ) → (before : Stand) → (cells : List ℕ) → Result Stand Reason
stand_of plan chosen before cells =
    if nat_lt (columns_in cells) plan.columns then Err (Columns (columns_in cells))
    else stand_from plan.threshold 0 (all_low before) chosen before cells
