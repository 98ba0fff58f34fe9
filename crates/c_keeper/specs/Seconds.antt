-- What a timekeeper says, by numbers.
use Rattle.std.specs.Prelude.{◌≡◌, ℕ, ◌==◌, if◌then◌else◌, Option, Some, None, pos}
use Rattle.irig_time.specs.declared.second.UtcSecond.{UtcSecond}
use Rattle.irig_vote.specs.declared.redundancy.Redundancy.{Redundancy}
use Rattle.irig_timekeeper.specs.declared.clock.Beat.{Beat}
use Rattle.irig_timekeeper.specs.declared.stamp.Stamp.{Stamp}
use Rattle.c_numbers.specs.declared.report.IrigReport.{IrigReport}
use Rattle.c_numbers.specs.Against.{against_of}
use Rattle.c_numbers.specs.Reports.{report_in}
use Rattle.c_keeper.specs.declared.second.IrigSecond.{IrigSecond}
use Rattle.c_keeper.specs.declared.stamp.IrigStamp.{IrigStamp}

-- the numbers of what a tick answers at which an edge has come
pub record IsToldOf (s : IrigSecond) (beat : Beat) : Type 0 where
  pub is_told : s.is_told ≡ 1
  pub edge_us : s.edge_us ≡ beat.edge_us
  pub bound_us : s.bound_us ≡ beat.bound_us
  pub missed : s.missed ≡ beat.missed
  pub moved : s.moved ≡ beat.moved
  pub against_table : s.against_table ≡ (if beat.against_table then 1 else 0)
  pub report : report_in s.report ≡ beat.report

-- nothing is told
abbrev pub nothing_reported : IrigReport
nothing_reported = record {
  announces = 0;
  lock = 0;
  cause = 0;
  agreed = 0;
  lock_count = 0;
  day = 0;
  sod = 0;
  differed = 0;
  faulty = 0;
  poor = 0;
  quality = 0;
  has_local = 0;
  local_half_hours = pos 0;
  dst = 0;
  against_hold = 0;
}

-- the numbers of a tick that tells nothing
abbrev pub nothing_told : IrigSecond
nothing_told = record {
  is_told = 0;
  against_table = 0;
  edge_us = 0;
  bound_us = 0;
  missed = 0;
  moved = 0;
  strays = 0;
  doubt = 0;
  lines = record {
    agreed = 0;
    apart = 0;
    differed = 0;
    faulty = 0;
    poor = 0;
    broken = 0;
    silent = 0;
    unjudged = 0;
  };
  report = nothing_reported;
}

-- the numbers of what a tick answers
abbrev pub IsSecondOf : IrigSecond → Option Beat → Type 0
IsSecondOf s None = s ≡ nothing_told
IsSecondOf s (Some beat) = IsToldOf s beat

-- the lines whose claims were against what was held, if no second was missed
abbrev pub against_at : Option UtcSecond → Beat → Redundancy → ℕ
against_at held beat r = if beat.missed == 0 then against_of held beat.told r else 0

-- the stamp that a call gives which answers this
abbrev pub stamp_in : ℕ → IrigStamp → Option Stamp
stamp_in answer s =
    if answer == 0
    then Some (record {
      second = record { day = s.day; sod = s.sod };
      offset_us = s.offset_us;
      bound_us = s.bound_us;
    })
    else None
