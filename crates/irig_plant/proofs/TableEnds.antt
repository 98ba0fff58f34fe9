-- Past the last day of which a table speaks it agrees with any timeline.
use Rattle.std.proofs.Common.{◌≡◌, ℕ, zero, suc, ◌+◌, ◌-◌, ◌<◌, ◌≤◌, Bool, true, refl, sym, ap, inl, inr, zero-add, arith}
use Rattle.std.specs.Prelude.{◌&&◌, min}
use Rattle.std.proofs.Math.Nat.{min-eq_left, min-eq_right}
use Rattle.std.specs.List.{list_all, range_with_len}
use Rattle.std.proofs.lemmas.Bool.{cases_Bool, cases_lt, lt-ltb}
use Rattle.irig_time.specs.declared.second.TheConstants.{LAST_DAY}
use Rattle.irig_time.specs.Days.{is_month_end}
use Rattle.irig_time.specs.Timelines.{TimelineValue}
use Rattle.irig_time.specs.Tables.{TableValue}
use Rattle.irig_plant.specs.Audits.{agrees_on}

-- numbers that pass from a limit on need not be tried
all_past : (p : ℕ → Bool) (limit : ℕ) → ((n : ℕ) → limit ≤ n → p n ≡ true) → (a n : ℕ) → limit ≤ a → list_all p (range_with_len a n) ≡ true
all_past p limit passes a zero h = refl
all_past p limit passes a (suc n) h = rw (passes a h, all_past p limit passes (a + 1) n (omega (arith, h))) refl

all_up_to : (p : ℕ → Bool) (limit : ℕ) → ((n : ℕ) → limit ≤ n → p n ≡ true) → (a n m : ℕ) → limit ≤ a + n
    → list_all p (range_with_len a (n + m)) ≡ list_all p (range_with_len a n)
all_up_to p limit passes a zero m h = rw (zero-add m) (all_past p limit passes a m (omega (arith, h)))
all_up_to p limit passes a (suc n) m h =
    let more : suc n + m ≡ suc (n + m) = omega arith in
    rw more (ap (λ (rest : Bool). p a && rest) (all_up_to p limit passes (a + 1) n m (omega (arith, h))))

agrees_past : (t : TimelineValue) (table : TableValue) (day : ℕ) → table.until < day → agrees_on t table day ≡ true
agrees_past t table day h =
    elim (cases_Bool (is_month_end day)) [
      | inl e ↦ rw (e, lt-ltb table.until day h) refl
      | inr e ↦ rw e refl
    ]

pub agrees_to_its_end : (t : TimelineValue) (table : TableValue) (first : ℕ)
    → list_all (agrees_on t table) (range_with_len first (min table.until LAST_DAY + 1 - first))
    ≡ list_all (agrees_on t table) (range_with_len first (LAST_DAY + 1 - first))
agrees_to_its_end t table first =
    elim (cases_lt table.until LAST_DAY) [
      | inl lt ↦
          let low : table.until ≤ LAST_DAY = omega (arith, lt) in
          let n = table.until + 1 - first in
          let m = LAST_DAY + 1 - first - n in
          let end : min table.until LAST_DAY + 1 - first ≡ n = rw (min-eq_left low) refl in
          let whole : n + m ≡ LAST_DAY + 1 - first = omega (arith, lt) in
          rw (end, ← whole) (sym (all_up_to (agrees_on t table) (table.until + 1) (λ day past. agrees_past t table day (omega (arith, past))) first n m (omega arith)))
      | inr ge ↦ rw (min-eq_right ge) refl
    ]
