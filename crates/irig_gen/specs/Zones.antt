-- Which zone holds at a second.
-- Source: this project's profile: the last change at or before it.
use Rattle.std.specs.Prelude.{ℕ, ◌%◌, Bool, true, ◌&&◌, ◌==◌, nat_lt, nat_le, if◌then◌else◌, List, [], ◌∷◌, unsigned_abs}
use Rattle.std.specs.List.{list_all}
use Rattle.irig_time.specs.declared.second.UtcSecond.{UtcSecond}
use Rattle.irig_time.specs.declared.second.TheConstants.{FIRST_DAY, LAST_DAY}
use Rattle.irig_time.specs.Seconds.{has_come, minute_number}
use Rattle.irig_gen.specs.declared.zone.Zone.{Zone}
use Rattle.irig_gen.specs.declared.zone.Change.{Change}

-- the control bits have room for its offset
abbrev pub fits : Zone → Bool
fits z = nat_le (unsigned_abs z.half_hours) 31

-- they have room for the offsets of all zones
abbrev pub all_fit : Zone → List Change → Bool
all_fit zone changes = fits zone && list_all (λ x. fits x.zone) changes

-- the first second of a minute, of a day that is served
abbrev pub is_change_time : UtcSecond → Bool
is_change_time u =
    (nat_le FIRST_DAY u.day && nat_le u.day LAST_DAY) && (nat_lt u.sod 86400 && (u.sod % 60 == 0))

-- each change is at such a second, and later than this minute and the changes before
abbrev pub in_order : ℕ → List Change → Bool
in_order before [] = true
in_order before (x ∷ xs) =
    is_change_time x.at && (nat_lt before (minute_number x.at) && in_order (minute_number x.at) xs)

-- the zone of the last change at or before u, else the first zone
abbrev pub zone_at : Zone → List Change → UtcSecond → Zone
zone_at zone [] u = zone
zone_at zone (x ∷ xs) u = zone_at (if has_come x.at u then x.zone else zone) xs u
