-- What it is for the numbers that C holds to be those of a reader with a history.
use Rattle.std.specs.Prelude.{◌≡◌, ◌<◌, ℕ, List}
use Rattle.irig_port.specs.declared.tally.Tally.{Tally}
use Rattle.irig_port.specs.declared.told.Told.{Told}
use Rattle.irig_port.specs.Heard.{symbols_heard}
use Rattle.irig_port.specs.Limits.{tally_told_within}
use Rattle.irig_port.specs.Tallies.{IsTallyOf}
use Rattle.irig_vote.specs.declared.votes.Tells.{Tells}
use Rattle.irig_vote.specs.Vote.{vote_of}
use Rattle.irig_reader.specs.declared.rule.Step.{Step}
use Rattle.irig_reader.specs.History.{Fed, fed_to, ReaderHistory}
use Rattle.irig_reader.specs.Rule.{state_of, step_of}
use Rattle.c_numbers.specs.declared.reader.IrigReader.{IrigReader}
use Rattle.c_numbers.specs.Setups.{rules_in, limits_in, reader_rules_in, redundancy_in, IsSetup}
use Rattle.c_numbers.specs.LeapTables.{table_in}
use Rattle.c_numbers.specs.States.{state_in, IsState}
use Rattle.c_numbers.specs.Tallies.{tally_at}
use Rattle.c_numbers.specs.CheckWord.{IsSealed}

-- the five ports heard what was fed to them
abbrev pub HaveHeard : List Tally → Fed → Type 0
HaveHeard ports fed =
    (port : ℕ) → port < 5 → IsTallyOf (tally_at ports port) (symbols_heard (fed_to fed port))

-- what a port tells
abbrev pub told_at : IrigReader → ℕ → Told
told_at r port =
    tally_told_within (limits_in r.setup) (rules_in r.setup) (tally_at r.ports port)

-- the numbers are where the history leaves a reader
pub record IsReaderOf (r : IrigReader) (h : ReaderHistory) : Type 0 where
  pub rules : rules_in r.setup ≡ h.rules
  pub limits : limits_in r.setup ≡ h.limits
  pub reader_rules : reader_rules_in r.setup ≡ h.reader_rules
  pub table : table_in r.table ≡ h.table
  pub redundancy : redundancy_in r.setup ≡ h.redundancy
  pub heard : HaveHeard r.ports h.fed
  pub state : state_in r.state ≡ state_of h.reader_rules h.table h.votes
  pub setup : IsSetup r.setup
  pub is_state : IsState r.setup.lock_after r.state
  pub sealed : IsSealed r

-- a tick accepts the numbers
pub record IsAccepted (r : IrigReader) : Type 0 where
  pub setup : IsSetup r.setup
  pub is_state : IsState r.setup.lock_after r.state
  pub sealed : IsSealed r

-- what the ports tell
abbrev pub tells_in : IrigReader → Tells
tells_in r = record {
  a = told_at r 0;
  b = told_at r 1;
  c = told_at r 2;
  d = told_at r 3;
  e = told_at r 4;
}

-- the step of the reader's rule, from the numbers alone
abbrev pub step_in : IrigReader → Step
step_in r =
    step_of (reader_rules_in r.setup) (table_in r.table) (state_in r.state)
    (vote_of (tells_in r) (redundancy_in r.setup))
