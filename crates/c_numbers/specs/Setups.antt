-- The rules that a setup gives, and which of its numbers have a meaning.
use Rattle.std.specs.Prelude.{ℕ, ◌≤◌, ◌<◌, ◌==◌, ◌&&◌, if◌then◌else◌, Option, Some, None}
use Rattle.irig_time.specs.declared.rules.Rules.{Rules}
use Rattle.irig_time.specs.declared.rules.SbsUse.TheVariants as sbs
use Rattle.irig_time.specs.declared.second.TheConstants.{LAST_DAY}
use Rattle.irig_port.specs.declared.limits.Limits.{Limits}
use Rattle.irig_vote.specs.declared.redundancy.Redundancy.{Redundancy}
use Rattle.irig_vote.specs.declared.redundancy.Redundancy.TheVariants.{One, Three, Five}
use Rattle.irig_vote.specs.Vote.{ports_in}
use Rattle.irig_reader.specs.declared.rules.ReaderRules.{ReaderRules}
use Rattle.irig_reader.specs.Rules.{IsReaderRules}
use Rattle.c_numbers.specs.declared.setup.IrigSetup.{IrigSetup}
use Rattle.c_numbers.specs.Numbers.{parity_in, sense_in}

-- the rules by which frames are read
abbrev pub rules_in : IrigSetup → Rules
rules_in s = record {
  parity = parity_in s.parity;
  sense = sense_in s.sense;
  sbs = if s.sbs == 0 then sbs.Check else sbs.Ignore;
}

-- the rules of the reader
abbrev pub reader_rules_in : IrigSetup → ReaderRules
reader_rules_in s = record { lock_after = s.lock_after; holdover = s.holdover }

-- the limits of what has a vote, if it names any
abbrev pub limits_in : IrigSetup → Option Limits
limits_in s =
    if s.not_before == 0 && s.poor_from == 0 then None
    else Some (record {
      not_before = s.not_before;
      poor_from = if s.poor_from == 0 then 10 else s.poor_from;
    })

-- those of a timekeeper, which has some in any case: unless the setup names another quality, a frame has
-- no vote from quality 7 on, whose clock says of itself that it may be 1 ms off
unfoldable pub keeper_limits_in : IrigSetup → Limits
keeper_limits_in s = record {
  not_before = s.not_before;
  poor_from = if s.poor_from == 0 then 7 else s.poor_from;
}

-- how many ports it has
abbrev pub redundancy_in : IrigSetup → Redundancy
redundancy_in s = if s.redundancy == 0 then Three else (if s.redundancy == 1 then Five else One)

-- it is a setup: each number has a meaning, and the rules are in range
pub record IsSetup (s : IrigSetup) : Type 0 where
  pub parity : s.parity ≤ 1
  pub sense : s.sense ≤ 1
  pub sbs : s.sbs ≤ 1
  pub redundancy : s.redundancy ≤ 2
  pub rules : IsReaderRules (reader_rules_in s)
  pub not_before : s.not_before ≤ LAST_DAY
  pub poor_from : s.poor_from ≤ 10

-- a timekeeper may have it: a frame has no vote at least from quality 8 on, whose clock says of itself that
-- it may be 10 ms off
pub record IsKeeperSetup (s : IrigSetup) : Type 0 where
  pub setup : IsSetup s
  pub poor_from : s.poor_from ≤ 8

-- there is such a port
abbrev pub IsPort : IrigSetup → ℕ → Type 0
IsPort s port = (s.redundancy ≤ 2) × (port < ports_in (redundancy_in s))
