-- What fits any frame.
use Rattle.std.proofs.Common.{◌≡◌, ◌∙◌, ℕ, suc, ◌+◌, ◌-◌, ◌<◌, ◌≤◌, Bool, true, false, ◌||◌, List, [], ◌∷◌, refl, ap, arith}
use Rattle.std.proofs.lemmas.Bool.{and_parts}
use Rattle.irig_frame.specs.declared.symbol.Symbol.{Symbol}
use Rattle.irig_frame.specs.declared.symbol.Symbol.TheVariants.{Bad}
use Rattle.irig_time.specs.declared.rules.Rules.{Rules}
use Rattle.irig_time.specs.declared.rules.SbsUse.{SbsUse}
use Rattle.record_pulses.specs.Views.{same_symbol}
use Rattle.record_short.specs.declared.second.Five.{Five}
use Rattle.record_short.specs.Fits.{all_fit, fits_from, is_blank, row_fits, zone_at}

-- nothing that is shown fits anything
pub blank_fits : (sbs : SbsUse) (place : ℕ) (shown frame : List Symbol) → is_blank shown ≡ true → row_fits sbs place shown frame ≡ true
blank_fits sbs place [] frame e = refl
blank_fits sbs place (x ∷ shown) [] e = refl
blank_fits sbs place (x ∷ shown) (y ∷ frame) e =
    let parts = and_parts (same_symbol x Bad) (is_blank shown) e in
    rw (parts.0, blank_fits sbs (place + 1) shown frame parts.1) refl

-- the zones that are left: one, and those after it
pub zone_and_others : (rules : Rules) (shown : List Symbol) (five : Five) (n : ℕ) → n < 53
    → fits_from rules shown five n (53 - n) ≡ (all_fit rules (zone_at n) shown five || fits_from rules shown five (n + 1) (53 - (n + 1)))
zone_and_others rules shown five n lt =
    let left : 53 - n ≡ suc (53 - (n + 1)) = omega arith in
    ap (λ (k : ℕ). fits_from rules shown five n k) left

pub zone_fits : (rules : Rules) (shown : List Symbol) (five : Five) (n : ℕ) → n < 53 → all_fit rules (zone_at n) shown five ≡ true
    → fits_from rules shown five n (53 - n) ≡ true
zone_fits rules shown five n lt e =
    zone_and_others rules shown five n lt ∙ ap (λ (b : Bool). b || fits_from rules shown five (n + 1) (53 - (n + 1))) e

pub zone_fails : (rules : Rules) (shown : List Symbol) (five : Five) (n : ℕ) → n < 53 → all_fit rules (zone_at n) shown five ≡ false
    → fits_from rules shown five n (53 - n) ≡ fits_from rules shown five (n + 1) (53 - (n + 1))
zone_fails rules shown five n lt e =
    zone_and_others rules shown five n lt ∙ ap (λ (b : Bool). b || fits_from rules shown five (n + 1) (53 - (n + 1))) e

pub no_zone_left : (rules : Rules) (shown : List Symbol) (five : Five) (n : ℕ) → 53 ≤ n → fits_from rules shown five n (53 - n) ≡ false
no_zone_left rules shown five n le =
    let left : 53 - n ≡ 0 = omega arith in
    ap (λ (k : ℕ). fits_from rules shown five n k) left
