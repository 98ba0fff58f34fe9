-- When the last pulse rose that was told of each line.
-- Source: this project's profile.
use Rattle.std.specs.Prelude.{ℕ, ◌==◌, if◌then◌else◌, List, [], ◌∷◌}
use Rattle.irig_sync.specs.Lines.{Pulse}
use Rattle.record_lines.specs.declared.rises.Rises.{Rises}

-- when the newest of some pulses rose; 0 of none
abbrev pub last_rise : List Pulse → ℕ
last_rise [] = 0
last_rise (p ∷ before) = p.rise

-- none so far
abbrev pub no_rises : Rises
no_rises = record { a = 0; b = 0; c = 0; d = 0; e = 0 }

-- that of a line
abbrev pub rise_at : Rises → (line : ℕ) → ℕ
rise_at r line =
    if line == 0 then r.a
    else (if line == 1 then r.b
    else (if line == 2 then r.c
    else (if line == 3 then r.d
    else r.e)))

-- the same, but that a line has this one
abbrev pub with_rise : Rises → (line rise : ℕ) → Rises
with_rise r line rise =
    if line == 0 then record r { a = rise }
    else (if line == 1 then record r { b = rise }
    else (if line == 2 then record r { c = rise }
    else (if line == 3 then record r { d = rise }
    else record r { e = rise })))
