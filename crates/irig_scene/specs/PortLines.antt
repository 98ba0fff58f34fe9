-- The lines of what ports told, and a text without them.
-- Source: docs/OUTPUT.md; this project's profile.
use Rattle.std.specs.Prelude.{ℕ, ◌==◌, Bool, true, false, not, List, [], ◌∷◌, filter}
use Rattle.report_log.specs.declared.shown.Shown.{Shown}
use Rattle.report_run.specs.Lines.{unlines}
use Rattle.report_log.specs.LogLines.{whole_lines}

-- a line of what ports told begins with a blank, 32
abbrev pub is_port_line : List ℕ → Bool
is_port_line [] = false
is_port_line (b ∷ bs) = b == 32

-- the whole lines of a text but those
abbrev pub without_port_lines : List ℕ → List ℕ
without_port_lines text = unlines (filter (λ line. not (is_port_line line)) (whole_lines text))

-- what ports told too
abbrev pub ports_too : Bool → Shown
ports_too all = record { all = all; ports = true }
