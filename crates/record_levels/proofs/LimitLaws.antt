-- What a time without a fault keeps.
use Rattle.std.proofs.Common.{◌≡◌, ℕ, ◌+◌, ◌<◌, ◌≤◌, Bool, true, false, Option, Some, None, refl}
use Rattle.std.specs.Prelude.{if◌then◌else◌, nat_le, nat_lt}
use Rattle.std.proofs.lemmas.Bool.{leb-false, ltb-false}
use Rattle.record_levels.specs.declared.limits.TimeFault.{TimeFault}
use Rattle.record_levels.specs.declared.limits.TimeFault.TheVariants.{Beyond, Back, Gap}
use Rattle.record_levels.specs.Limits.{IsWithinDay, day_ns, end_ns, gap_fault, time_fault}

tests : (b c : Bool) (o : Option TimeFault) → (if b then Some Beyond else (if c then Some Back else o)) ≡ None
    → (b ≡ false) × (c ≡ false) × (o ≡ None)
tests true c o e = absurd (let p : Some Beyond ≡ None = e in cc)
tests false true o e = absurd (let p : Some Back ≡ None = e in cc)
tests false false o e = (refl, refl, e)

gap_test : (b : Bool) → (if b then Some Gap else None) ≡ None → b ≡ false
gap_test true e = absurd (let p : Some Gap ≡ None = e in cc)
gap_test false e = refl

within : (levels : Option ℕ) (next : ℕ) → gap_fault levels next ≡ None → IsWithinDay levels next
within None next e = tt
within (Some last) next e = ltb-false (last + day_ns) next (gap_test (nat_lt (last + day_ns) next) e)

pub allowed : (now : ℕ) (levels : Option ℕ) (next : ℕ) → time_fault now levels next ≡ None
    → (now ≤ next) × (next < end_ns) × IsWithinDay levels next
allowed now levels next e =
    let t = tests (nat_le end_ns next) (nat_lt next now) (gap_fault levels next) e in
    (ltb-false next now t.1, leb-false end_ns next t.0, within levels next t.2)
