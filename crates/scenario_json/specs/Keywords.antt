-- The words of a line.
-- Source: docs/SCENARIOS.md; this project's profile.
use Rattle.std.specs.Prelude.{ℕ, List, if◌then◌else◌, codes, Option, Some, None}
use Rattle.std.specs.Str.{bytes_eq}
use Rattle.irig_control.specs.declared.parity.Parity.{Parity}
use Rattle.irig_control.specs.declared.parity.Parity.TheVariants.{Even, Odd}
use Rattle.irig_time.specs.declared.leap.Leap.{Leap}
use Rattle.irig_time.specs.declared.leap.Leap.TheVariants.{Insert, Delete}
use Rattle.irig_time.specs.declared.rules.Sense.{Sense}
use Rattle.irig_time.specs.declared.rules.Sense.TheVariants.{Add, Subtract}
use Rattle.irig_time.specs.declared.rules.SbsUse.{SbsUse}
use Rattle.irig_time.specs.declared.rules.SbsUse.TheVariants.{Check, Ignore}

-- `even` or `odd`
unfoldable pub parity_of : List ℕ → Option Parity
parity_of word =
    if bytes_eq word (codes "even") then Some Even
    else (if bytes_eq word (codes "odd") then Some Odd
    else None)

-- `add` or `subtract`
unfoldable pub sense_of : List ℕ → Option Sense
sense_of word =
    if bytes_eq word (codes "add") then Some Add
    else (if bytes_eq word (codes "subtract") then Some Subtract
    else None)

-- `check` or `ignore`
unfoldable pub sbs_use_of : List ℕ → Option SbsUse
sbs_use_of word =
    if bytes_eq word (codes "check") then Some Check
    else (if bytes_eq word (codes "ignore") then Some Ignore
    else None)

-- `insert` or `delete`
unfoldable pub leap_named : List ℕ → Option Leap
leap_named word =
    if bytes_eq word (codes "insert") then Some Insert
    else (if bytes_eq word (codes "delete") then Some Delete
    else None)
