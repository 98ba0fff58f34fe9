-- What is logged is of UTC.
use Rattle.std.specs.Prelude.{IfSome}
use Rattle.irig_time.specs.Seconds.{IsValid}
use Rattle.irig_vote.specs.Vote.{AreOfUtc}
use Rattle.irig_plant.specs.declared.entry.Entry.{Entry}

-- if the reader announces a second, that is a valid one
abbrev pub IsSound : Entry → Type 0
IsSound e = IfSome e.report.announce IsValid

-- if a port claims a second, that is a valid one
abbrev pub IsToldSoundly : Entry → Type 0
IsToldSoundly e = AreOfUtc e.told
