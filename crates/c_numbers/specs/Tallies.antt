-- What one of five ports heard.
use Rattle.std.specs.Prelude.{ℕ, List, slice_index_or}
use Rattle.irig_port.specs.declared.tally.Tally.{Tally}

-- a tally of no pulse
abbrev pub no_tally : Tally
no_tally = record { count = 0; wrong = record { kind = 0; element = 0 }; time = 0; control = 0 }

-- what a port heard
abbrev pub tally_at : List Tally → ℕ → Tally
tally_at ports port = slice_index_or ports port no_tally
