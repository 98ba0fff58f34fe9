-- What is kept to be written later is of UTC.
use Rattle.std.specs.Prelude.{IfSome, Option, ⊤}
use Rattle.irig_time.specs.Seconds.{IsValid}
use Rattle.irig_vote.specs.Vote.{AreOfUtc, IsOfUtc}
use Rattle.report_found.specs.declared.account.Account.{Account}
use Rattle.report_found.specs.declared.finding.Finding.{Finding}
use Rattle.report_found.specs.declared.finding.Wrong.{Wrong}
use Rattle.report_found.specs.declared.finding.Wrong.TheVariants.{Port, Silence, Untrue}
use Rattle.report_found.specs.declared.stretch.Stretch.{Stretch}
use Rattle.report_found.specs.declared.tick.Tick.{Tick}

-- what the ports claimed are seconds of UTC
abbrev pub IsSoundTick : Tick → Type 0
IsSoundTick t = AreOfUtc t.entry.told

-- so of the first tick of an open stretch
abbrev pub IsSoundOpen : Option Stretch → Type 0
IsSoundOpen stretch = IfSome stretch (λ s. IsSoundTick s.first)

-- so of each port
pub record IsSoundAccount (x : Account) : Type 0 where
  pub a : IsSoundOpen x.a.stretch
  pub b : IsSoundOpen x.b.stretch
  pub c : IsSoundOpen x.c.stretch
  pub d : IsSoundOpen x.d.stretch
  pub e : IsSoundOpen x.e.stretch

-- so of what a port told
abbrev pub IsSoundWrong : Wrong → Type 0
IsSoundWrong (Port wrong) = IsOfUtc wrong.told
IsSoundWrong (Silence cause) = ⊤
IsSoundWrong (Untrue untrue) = ⊤

-- so of a finding
pub record IsSoundFinding (f : Finding) : Type 0 where
  pub first : IfSome f.first_second IsValid
  pub last : IfSome f.last_second IsValid
  pub wrong : IsSoundWrong f.wrong
