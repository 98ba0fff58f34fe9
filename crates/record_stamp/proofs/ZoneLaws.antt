-- The zone that is named is the one that explains a stamp, if one does.
use Rattle.std.proofs.Common.{◌≡◌, ◌↔◌, zero, suc, ◌+◌, ◌/◌, ◌≤◌, Some, None, ℤ, pos, negsuc, ◌*ℤ◌, ◌≤ℤ◌, refl, ap, ◌∙◌, sym, subst, arith, true, false, Bool, if◌then◌else◌, nat_le, unsigned_abs}
use Rattle.std.specs.Prelude.{◌≢◌, neg_ℤ}
use Rattle.std.proofs.lemmas.Int.{ints}
use Rattle.std.proofs.lemmas.Bool.{leb-true, le-leb}
use Rattle.record_stamp.specs.declared.word.ZoneReading.{ZoneReading}
use Rattle.record_stamp.specs.Word.{Explains, is_zone, nearest_zone, reading_by, zone_late, zone_near, zone_reading}

-- the half hours nearest to a lateness that some half hours leave near
nearest_is : (late h : ℤ) → unsigned_abs (zone_late late (pos 30 *ℤ h)) ≤ 60000000000 → nearest_zone late ≡ pos 30 *ℤ h
nearest_is (pos n) (pos h) near = omega (arith, ints, near)
nearest_is (pos n) (negsuc h) near = absurd (omega (arith, ints, near))
nearest_is (negsuc n) (pos h) near = omega (arith, ints, near)
nearest_is (negsuc n) (negsuc h) near = omega (arith, ints, near)

-- those of any lateness
abbrev half_of : ℤ → ℤ
half_of (pos n) = pos ((n + 900000000000) / 1800000000000)
half_of (negsuc n) = neg_ℤ (pos ((n + 1 + 900000000000) / 1800000000000))

nearest_half : (late : ℤ) → nearest_zone late ≡ pos 30 *ℤ half_of late
nearest_half (pos n) = omega (arith, ints)
nearest_half (negsuc n) = omega (arith, ints)

-- minutes of half hours, as a zone has them
in_zone : (h : ℤ) → is_zone (pos 30 *ℤ h) ≡ true → (neg_ℤ (pos 24) ≤ℤ h) × (h ≤ℤ pos 28) × (h ≢ pos 0)
in_zone (pos zero) e = absurd cc
in_zone (pos (suc h)) e = (grind (arith, ints), grind (arith, ints), λ same. absurd cc)
in_zone (negsuc h) e = (grind (arith, ints), grind (arith, ints), λ same. absurd cc)

is_in_zone : (h : ℤ) → neg_ℤ (pos 24) ≤ℤ h → h ≤ℤ pos 28 → h ≢ pos 0 → is_zone (pos 30 *ℤ h) ≡ true
is_in_zone (pos zero) low high some = absurd (some refl)
is_in_zone (pos (suc h)) low high some = grind (arith, ints)
is_in_zone (negsuc h) low high some = grind (arith, ints)

same_reading : (reading : ZoneReading) (minutes late : ℤ) → reading.zone_minutes ≡ minutes → reading.late_ns ≡ late
    → record { zone_minutes = minutes; late_ns = late } ≡ reading
same_reading reading minutes late e f = rw (← e, ← f) refl

from_near : (late h : ℤ) (reading : ZoneReading) (near : Bool) → nat_le (unsigned_abs (zone_late late (pos 30 *ℤ h))) 60000000000 ≡ near
    → (neg_ℤ (pos 24) ≤ℤ h) × (h ≤ℤ pos 28) × (h ≢ pos 0)
    → (if near then Some (record { zone_minutes = pos 30 *ℤ h; late_ns = zone_late late (pos 30 *ℤ h) }) else None) ≡ Some reading
    → Explains late reading
from_near late h reading false test zone is = absurd cc
from_near late h reading true test zone is =
    let same : record { zone_minutes = pos 30 *ℤ h; late_ns = zone_late late (pos 30 *ℤ h) } ≡ reading = cc in
    subst (Explains late) same (record {
      half_hours = h;
      minutes = refl;
      some = zone.2;
      range = (zone.0, zone.1);
      then_late = refl;
      near = leb-true _ _ test;
    })

from_zone : (late h : ℤ) (reading : ZoneReading) (is : Bool) → is_zone (pos 30 *ℤ h) ≡ is
    → reading_by late (if is then Some (pos 30 *ℤ h) else None) ≡ Some reading → Explains late reading
from_zone late h reading false test r = absurd cc
from_zone late h reading true test r = from_near late h reading _ refl (in_zone h test) r

named : (late : ℤ) (reading : ZoneReading) → zone_reading late ≡ Some reading → Explains late reading
named late reading e =
    from_zone late (half_of late) reading _ refl (ap (λ (m : ℤ). reading_by late (zone_near m)) (sym (nearest_half late)) ∙ e)

then_named : (late : ℤ) (reading : ZoneReading) → Explains late reading → zone_reading late ≡ Some reading
then_named late reading h =
    let minutes = pos 30 *ℤ h.half_hours in
    let then_late : reading.late_ns ≡ zone_late late minutes = h.then_late ∙ ap (zone_late late) h.minutes in
    let near : unsigned_abs (zone_late late minutes) ≤ 60000000000 = subst (λ (l : ℤ). unsigned_abs l ≤ 60000000000) then_late h.near in
    ap (λ (m : ℤ). reading_by late (zone_near m)) (nearest_is late h.half_hours near)
    ∙ ap (λ (is : Bool). reading_by late (if is then Some minutes else None)) (is_in_zone h.half_hours h.range.0 h.range.1 h.some)
    ∙ ap (λ (is : Bool). if is then Some (record { zone_minutes = minutes; late_ns = zone_late late minutes }) else None) (le-leb _ _ near)
    ∙ ap Some (same_reading reading minutes (zone_late late minutes) h.minutes then_late)

pub explains : (late : ℤ) (reading : ZoneReading) → (zone_reading late ≡ Some reading) ↔ Explains late reading
explains late reading = (named late reading, then_named late reading)
