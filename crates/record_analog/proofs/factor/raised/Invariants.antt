use Rattle.std.proofs.Common.{◌≡◌, ◌-◌, ◌*◌, ◌^◌}
use Rattle.record_analog.proofs.factor.raised.Given as goal

-- the places that are left make it whole
abbrev pub invariant-loop-place : goal.invariant-loop-place
invariant-loop-place l = l.number * 10 ^ (l.power - l._place) ≡ l.fn.number * 10 ^ l.power
