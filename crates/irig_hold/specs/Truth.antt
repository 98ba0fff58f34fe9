-- What it is for a hold and a table to be true to a timeline.
-- Source: docs/READER.md; this project's profile.
use Rattle.std.specs.Prelude.{◌≡◌, ℕ, ◌≤◌, ◌<◌, ◌⊎◌, true}
use Rattle.irig_time.specs.declared.second.UtcSecond.{UtcSecond}
use Rattle.irig_time.specs.declared.mark.Mark.TheVariants.{Unspoken}
use Rattle.irig_time.specs.Days.{is_month_end}
use Rattle.irig_time.specs.Timelines.{TimelineValue, leap_of, mark_by, IsSecond}
use Rattle.irig_time.specs.Tables.{TableValue}
use Rattle.irig_hold.specs.Steps.{HoldValue}

-- for each month's last day from the start's day to the table's last, the table has the leap that
-- the timeline has, and none if it has none
pub record IsTrueTable (t : TimelineValue) (table : TableValue) : Type 0 where
  pub leaps : (day : ℕ) → is_month_end day ≡ true → t.start.day ≤ day → day ≤ table.until
      → leap_of table.leaps day ≡ leap_of t.leaps day

-- the hold has come to T(n), and has heard nothing or what the timeline says of that day
pub record IsOnTime (t : TimelineValue) (n : ℕ) (h : HoldValue) : Type 0 where
  pub last : IsSecond t n h.last
  pub heard : (h.heard ≡ Unspoken) ⊎ (h.heard ≡ mark_by (leap_of t.leaps h.last.day))

-- what the hold heard of a leap, it heard there
abbrev pub HasHeardLate : HoldValue → Type 0
HasHeardLate h = (h.heard ≡ Unspoken) ⊎ ((is_month_end h.last.day ≡ true) × (86342 ≤ h.last.sod))

-- the hold has come to 23:59:58 or 23:59:59 of a month's last day, heard nothing of its end, and
-- the table ends before it
pub record IsGuarded (table : TableValue) (h : HoldValue) : Type 0 where
  pub end : is_month_end h.last.day ≡ true
  pub late : (h.last.sod ≡ 86398) ⊎ (h.last.sod ≡ 86399)
  pub unheard : h.heard ≡ Unspoken
  pub above : table.until < h.last.day

-- u is T(n), and the hold has come to it on time
pub record HasComeTo (t : TimelineValue) (n : ℕ) (u : UtcSecond) (h : HoldValue) : Type 0 where
  pub second : IsSecond t n u
  pub last : h.last ≡ u
  pub on_time : IsOnTime t n h
