-- What is so of each second that a simulated device told.
-- Source: this project's profile.
use Rattle.std.specs.Prelude.{IfSome}
use Rattle.irig_time.specs.Seconds.{IsValid}
use Rattle.irig_vote.specs.Vote.{AreOfUtc}
use Rattle.irig_simulated.specs.declared.told_second.ToldSecond.{ToldSecond}

-- if it is announced, it is one of UTC; so is each second that a line claims
pub record IsToldOfUtc (told : ToldSecond) : Type 0 where
  pub announced : IfSome told.beat.report.announce IsValid
  pub lines : AreOfUtc told.beat.told
