-- What a hold answers, in clauses.
use Rattle.irig_time.specs.declared.second.UtcSecond.{UtcSecond}
use Rattle.irig_hold.specs.declared.hold.Turn.{Turn}
use Rattle.irig_hold.specs.declared.hold.Turn.TheVariants.{Now, LeapGuard, Expired, RangeEnd, Jump}

-- a fact of the second that is answered
abbrev pub IfNow : Turn → (UtcSecond → Type 0) → Type 0
IfNow (Now u) P = P u
IfNow LeapGuard P = Unit {0}
IfNow Expired P = Unit {0}
IfNow RangeEnd P = Unit {0}
IfNow Jump P = Unit {0}

-- a fact for every answer but Now
abbrev pub OnStop : Turn → Type 0 → Type 0
OnStop (Now u) P = Unit {0}
OnStop LeapGuard P = P
OnStop Expired P = P
OnStop RangeEnd P = P
OnStop Jump P = P
