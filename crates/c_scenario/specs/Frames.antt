-- The numbers by which C asks for the text of a frame, or of what one says.
-- Source: docs/C.md; this project's profile.
use Rattle.std.specs.Prelude.{ℕ, ◌==◌, Bool, ◌&&◌, nat_le, if◌then◌else◌, unsigned_abs, Option, Some, None}
use Rattle.irig_time.specs.declared.leap.Leap.{Leap}
use Rattle.irig_time.specs.declared.leap.Leap.TheVariants.{Insert, Delete}
use Rattle.irig_time.specs.declared.rules.Rules.{Rules}
use Rattle.irig_time.specs.declared.rules.SbsUse.{SbsUse}
use Rattle.irig_time.specs.declared.rules.SbsUse.TheVariants.{Check, Ignore}
use Rattle.c_numbers.specs.Numbers.{parity_in, sense_in}
use Rattle.text_frame.specs.declared.frame.FrameOptions.{FrameOptions}
use Rattle.c_scenario.specs.declared.frame.IrigFrameOptions.{IrigFrameOptions}

-- 0 none, 1 an inserted second, 2 a deleted one
abbrev pub pending_in : ℕ → Option Leap
pending_in n = if n == 0 then None else (if n == 1 then Some Insert else Some Delete)

-- each number is one that has a meaning
abbrev pub are_options : IrigFrameOptions → Bool
are_options o =
    nat_le (unsigned_abs o.local_half_hours) 31 && (nat_le o.pending 2 && (nat_le o.dst 1
    && (nat_le o.quality 15 && (nat_le o.parity 1 && nat_le o.sense 1))))

-- what the numbers ask for
abbrev pub options_in : IrigFrameOptions → FrameOptions
options_in o = record {
  local = o.local_half_hours;
  pending = pending_in o.pending;
  dst = o.dst == 1;
  quality = o.quality;
  parity = parity_in o.parity;
  sense = sense_in o.sense;
}

-- each number of the rules is 0 or 1
abbrev pub are_rules : ℕ → ℕ → ℕ → Bool
are_rules parity sense sbs = nat_le parity 1 && (nat_le sense 1 && nat_le sbs 1)

-- the binary seconds are checked (0), or not
abbrev pub sbs_in : ℕ → SbsUse
sbs_in n = if n == 0 then Check else Ignore

-- the rules that the numbers ask for
abbrev pub rules_in : ℕ → ℕ → ℕ → Rules
rules_in parity sense sbs =
    record { parity = parity_in parity; sense = sense_in sense; sbs = sbs_in sbs }
