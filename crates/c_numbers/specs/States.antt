-- Where a reader stands, by numbers.
use Rattle.std.specs.Prelude.{ℕ, ◌≡◌, ◌<◌, ◌≤◌, ◌⊎◌, ◌==◌, if◌then◌else◌}
use Rattle.irig_time.specs.declared.second.UtcSecond.{UtcSecond}
use Rattle.irig_time.specs.Seconds.{IsValid}
use Rattle.irig_hold.specs.Steps.{HoldValue, hold_value}
use Rattle.irig_reader.specs.declared.rule.State.{State}
use Rattle.irig_reader.specs.declared.rule.State.TheVariants.{Idle, Acquiring, Locked}
use Rattle.c_numbers.specs.declared.state.IrigState.{IrigState}
use Rattle.c_numbers.specs.Numbers.{mark_in}

-- the second at which it stands
abbrev pub last_in : IrigState → UtcSecond
last_in s = record { day = s.day; sod = s.sod }

-- its hold
abbrev pub hold_in : IrigState → HoldValue
hold_in s = hold_value (last_in s) s.age (mark_in s.heard)

-- where it stands
abbrev pub state_in : IrigState → State
state_in s =
    if s.kind == 0 then Idle
    else (if s.kind == 1 then Acquiring (hold_in s) s.count else Locked (hold_in s))

-- the numbers of its hold have a meaning
pub record HasHold (s : IrigState) : Type 0 where
  pub last : IsValid (last_in s)
  pub heard : s.heard ≤ 3

-- the numbers are of a reader that locks after so many votes
abbrev pub IsState : ℕ → IrigState → Type 0
IsState lock_after s =
    (s.kind ≡ 0) ⊎ (HasHold s × ((s.kind ≡ 2) ⊎ ((s.kind ≡ 1) × (s.count < lock_after))))
