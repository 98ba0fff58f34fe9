-- What a reader says, and what a port tells, by numbers.
use Rattle.std.specs.Prelude.{ℕ, ◌==◌, if◌then◌else◌, Some, None}
use Rattle.irig_reader.specs.declared.report.Lock.{Lock}
use Rattle.irig_reader.specs.declared.report.Lock.TheVariants as lock
use Rattle.irig_reader.specs.declared.report.Cause.{Cause}
use Rattle.irig_reader.specs.declared.report.Cause.TheVariants as cause
use Rattle.irig_reader.specs.declared.report.Report.{Report}
use Rattle.irig_port.specs.declared.told.Told.{Told}
use Rattle.irig_port.specs.declared.told.Told.TheVariants.{Silence, Fault, Poor, Claim}
use Rattle.c_numbers.specs.declared.claim.IrigClaim.{IrigClaim}
use Rattle.c_numbers.specs.declared.report.IrigReport.{IrigReport}
use Rattle.c_numbers.specs.declared.report.IrigTold.{IrigTold}
use Rattle.c_numbers.specs.Numbers.{code_of, claim_for}
use Rattle.c_numbers.specs.Controls.{flag_in}
use Rattle.c_numbers.specs.declared.voices.Voices.{Voices}

-- the number of a lock
abbrev pub number_of_lock : Lock → ℕ
number_of_lock lock.Unlocked = 0
number_of_lock (lock.Acquiring n) = 1
number_of_lock lock.Locked = 2
number_of_lock (lock.Holdover n) = 3

-- the votes or edges that it has
abbrev pub count_of_lock : Lock → ℕ
count_of_lock lock.Unlocked = 0
count_of_lock (lock.Acquiring n) = n
count_of_lock lock.Locked = 0
count_of_lock (lock.Holdover n) = n

-- the lock with a number and so many votes or edges
abbrev pub lock_in : ℕ → ℕ → Lock
lock_in k n =
    if k == 0 then lock.Unlocked
    else (if k == 1 then lock.Acquiring n else (if k == 2 then lock.Locked else lock.Holdover n))

-- the number of a cause
abbrev pub number_of_cause : Cause → ℕ
number_of_cause cause.Voted = 0
number_of_cause cause.Held = 1
number_of_cause cause.Acquiring = 2
number_of_cause cause.NoVote = 3
number_of_cause cause.Expired = 4
number_of_cause cause.LeapGuard = 5
number_of_cause cause.Jump = 6
number_of_cause cause.RangeEnd = 7

-- the cause with a number
abbrev pub cause_in : ℕ → Cause
cause_in n =
    if n == 0 then cause.Voted
    else (if n == 1 then cause.Held
    else (if n == 2 then cause.Acquiring
    else (if n == 3 then cause.NoVote
    else (if n == 4 then cause.Expired
    else (if n == 5 then cause.LeapGuard
    else (if n == 6 then cause.Jump else cause.RangeEnd))))))

-- what the reader says
abbrev pub report_in : IrigReport → Report
report_in r = record {
  announce = if r.announces == 0 then None else Some (record { day = r.day; sod = r.sod });
  lock = lock_in r.lock r.lock_count;
  cause = cause_in r.cause;
}

-- what it says of the ports
abbrev pub voices_in : IrigReport → Voices
voices_in r = record {
  agreed = r.agreed;
  differed = r.differed;
  faulty = r.faulty;
  poor = r.poor;
  quality = r.quality;
  zone =
      if r.has_local == 0 then None
      else Some (record { local_half_hours = r.local_half_hours; dst = flag_in r.dst });
}

-- a claim of nothing
abbrev pub no_claim : IrigClaim
no_claim = record { at = record { day = 0; sod = 0 }; mark = 0 }

-- what a port tells, as C is given it
abbrev pub told_in : Told → IrigTold
told_in Silence = record { kind = 0; quality = 0; fault = 0; claim = no_claim }
told_in (Fault f) = record { kind = 1; quality = 0; fault = code_of f; claim = no_claim }
told_in (Poor q) = record { kind = 2; quality = q; fault = 0; claim = no_claim }
told_in (Claim c) = record { kind = 3; quality = 0; fault = 0; claim = claim_for c }
