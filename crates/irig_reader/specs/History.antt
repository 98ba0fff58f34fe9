-- What a reader was given, fed and voted: all that its answers depend on.
-- Source: docs/READER.md; this project's profile.
use Rattle.std.specs.Prelude.{ℕ, ◌==◌, if◌then◌else◌, List, [], ◌∷◌, ◌++◌, Option, None}
use Rattle.irig_time.specs.declared.rules.Rules.{Rules}
use Rattle.irig_time.specs.declared.claim.Claim.{Claim}
use Rattle.irig_time.specs.Tables.{TableValue}
use Rattle.irig_port.specs.declared.limits.Limits.{Limits}
use Rattle.irig_port.specs.Limits.{widths_told_within}
use Rattle.irig_vote.specs.declared.redundancy.Redundancy.{Redundancy}
use Rattle.irig_vote.specs.declared.votes.Tells.{Tells}
use Rattle.irig_vote.specs.Vote.{vote_of}
use Rattle.irig_reader.specs.declared.rules.ReaderRules.{ReaderRules}
use Rattle.irig_reader.specs.declared.report.Report.{Report}
use Rattle.irig_reader.specs.Rule.{report_of}

-- the widths of the pulses at each port, the oldest first
pub record Fed : Type 0 where
  pub a : List ℕ
  pub b : List ℕ
  pub c : List ℕ
  pub d : List ℕ
  pub e : List ℕ

-- no pulse at any port
abbrev pub no_pulses : Fed
no_pulses = record { a = []; b = []; c = []; d = []; e = [] }

-- what a reader was made of, its pulses since the last tick or restart, and its votes since the
-- last restart, the newest first
pub record ReaderHistory : Type 0 where
  pub rules : Rules
  pub reader_rules : ReaderRules
  pub table : TableValue
  pub redundancy : Redundancy
  pub limits : Option Limits
  pub fed : Fed
  pub votes : List (Option Claim)

-- nothing has happened to it
abbrev pub new_history : Rules → ReaderRules → TableValue → Redundancy → ReaderHistory
new_history rules reader_rules table redundancy = record {
  rules = rules;
  reader_rules = reader_rules;
  table = table;
  redundancy = redundancy;
  limits = None;
  fed = no_pulses;
  votes = [];
}

-- so within limits
abbrev pub limited_history : Option Limits → ReaderHistory → ReaderHistory
limited_history limits history = record history { limits = limits }

-- what was fed to a port since it was last empty
abbrev pub fed_to : Fed → ℕ → List ℕ
fed_to fed port =
    if port == 0 then fed.a
    else (if port == 1 then fed.b
    else (if port == 2 then fed.c
    else (if port == 3 then fed.d
    else fed.e)))

-- more pulses at a port, one after another
abbrev pub with_widths : Fed → ℕ → List ℕ → Fed
with_widths fed port widths =
    if port == 0 then record fed { a = fed.a ++ widths }
    else (if port == 1 then record fed { b = fed.b ++ widths }
    else (if port == 2 then record fed { c = fed.c ++ widths }
    else (if port == 3 then record fed { d = fed.d ++ widths }
    else record fed { e = fed.e ++ widths })))

-- one more width at a port
abbrev pub with_width : Fed → ℕ → ℕ → Fed
with_width fed port width = with_widths fed port (width ∷ [])

-- the history with one more pulse at a port
abbrev pub after_pulse : ReaderHistory → ℕ → ℕ → ReaderHistory
after_pulse history port width = record history { fed = with_width history.fed port width }

-- the history with more pulses at a port
abbrev pub after_pulses : ReaderHistory → ℕ → List ℕ → ReaderHistory
after_pulses history port widths = record history { fed = with_widths history.fed port widths }

-- the pulses at a port after one that has this place in its frame: out of step the same, at place 1,
-- where a frame begins, this pulse alone, and else one more
abbrev pub widths_at : ℕ → List ℕ → ℕ → List ℕ
widths_at place widths width =
    if place == 0 then widths else (if place == 1 then width ∷ [] else widths ++ width ∷ [])

-- a port's pulses are these
abbrev pub with_port : Fed → ℕ → List ℕ → Fed
with_port fed port widths =
    if port == 0 then record fed { a = widths }
    else (if port == 1 then record fed { b = widths }
    else (if port == 2 then record fed { c = widths }
    else (if port == 3 then record fed { d = widths }
    else record fed { e = widths })))

-- the history with a pulse more on the line of a port, with this place in its frame
abbrev pub after_hearing : ReaderHistory → ℕ → ℕ → ℕ → ReaderHistory
after_hearing history port place width =
    record history {
      fed = with_port history.fed port (widths_at place (fed_to history.fed port) width);
    }

-- what the ports tell at a tick that comes now
abbrev pub told_at_tick : ReaderHistory → Tells
told_at_tick history = record {
  a = widths_told_within history.limits history.rules history.fed.a;
  b = widths_told_within history.limits history.rules history.fed.b;
  c = widths_told_within history.limits history.rules history.fed.c;
  d = widths_told_within history.limits history.rules history.fed.d;
  e = widths_told_within history.limits history.rules history.fed.e;
}

-- the vote over what they tell
abbrev pub vote_at_tick : ReaderHistory → Option Claim
vote_at_tick history = vote_of (told_at_tick history) history.redundancy

-- what the reader then says
abbrev pub report_at_tick : ReaderHistory → Report
report_at_tick history =
    report_of history.reader_rules history.table (vote_at_tick history) history.votes

-- the history after a tick
abbrev pub after_tick : ReaderHistory → ReaderHistory
after_tick history =
    record history { fed = no_pulses; votes = vote_at_tick history ∷ history.votes }

-- the history after a restart
abbrev pub after_restart : ReaderHistory → ReaderHistory
after_restart history = record history { fed = no_pulses; votes = [] }
