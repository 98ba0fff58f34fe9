-- What limits leave of what is told: nothing but claims goes.
use Rattle.std.proofs.Common.{◌≡◌, ◌↔◌, ℕ, ◌<◌, ◌≤◌, Bool, true, false, cond, nat_lt, nat_le, List, [], length, Option, Some, None, refl, ap, ◌∙◌, arith}
use Rattle.std.proofs.lemmas.List.{take_all}
use Rattle.std.proofs.lemmas.Bool.{ltb-false, leb-false, lt-leb, le-ltb}
use Rattle.irig_frame.specs.declared.symbol.Symbol.{Symbol}
use Rattle.irig_control.specs.Control.{control_of}
use Rattle.irig_time.specs.declared.rules.Rules.{Rules}
use Rattle.irig_time.specs.declared.claim.Claim.{Claim}
use Rattle.irig_port.specs.declared.limits.Limits.{Limits}
use Rattle.irig_port.specs.declared.told.PortFault.TheVariants as fault
use Rattle.irig_port.specs.declared.told.Told.{Told}
use Rattle.irig_port.specs.declared.told.Told.TheVariants as tells
use Rattle.irig_port.specs.Told.{told_of}
use Rattle.irig_port.specs.Heard.{symbols_of, symbols_heard}
use Rattle.irig_port.specs.declared.tally.Tally.{Tally}
use Rattle.irig_port.specs.Tallies.{control_word_in, tally_told, IsTallyOf}
use Rattle.irig_port.proofs.NumberLaws.{tally_tells, word_is_read}
use Rattle.irig_port.specs.Limits.{tally_told_within, quality_in, limited, told_within, widths_told_within, IsWithin}
use Rattle.irig_port.proofs.HeardLaws.{told_of-heard}
use Rattle.irig_port.proofs.ToldLaws.{none_told}
use Rattle.irig_port.proofs.CarriesLaws.{carries_is_told}

-- ---- a claim that stands

by_tests : (poor early : Bool) (q : ℕ) (d c : Claim)
    → cond poor (tells.Poor q) (cond early (tells.Fault fault.Early) (tells.Claim d)) ≡ tells.Claim c
    → (poor ≡ false) × (early ≡ false) × (◌≡◌ {A = Told} (tells.Claim d) (tells.Claim c))
by_tests true early q d c e = absurd cc
by_tests false true q d c e = absurd cc
by_tests false false q d c e = (refl, refl, e)

limited_claim : (limits : Limits) (q : ℕ) (told : Told) (c : Claim) → limited limits q told ≡ tells.Claim c
    → (told ≡ tells.Claim c) × ((q < limits.poor_from) × (limits.not_before ≤ c.at.day))
limited_claim limits q tells.Silence c e = absurd cc
limited_claim limits q (tells.Fault f) c e = absurd cc
limited_claim limits q (tells.Poor p) c e = absurd cc
limited_claim limits q (tells.Claim d) c e =
    let tests = by_tests (nat_le limits.poor_from q) (nat_lt d.at.day limits.not_before) q d c e in
    let same : d ≡ c = cc in
    let above = leb-false _ _ tests.0 in
    let late = ltb-false _ _ tests.1 in
    let day : d.at.day ≡ c.at.day = ap (λ (x : Claim). x.at.day) same in
    (tests.2, (omega (arith, above), omega (arith, late, day)))

limited_stands : (limits : Limits) (q : ℕ) (c : Claim) → q < limits.poor_from → limits.not_before ≤ c.at.day
    → limited limits q (tells.Claim c) ≡ tells.Claim c
limited_stands limits q c good late =
    rw (lt-leb limits.poor_from q good, le-ltb c.at.day limits.not_before late) refl

pub claim_within : (limits : Option Limits) (rules : Rules) (s : List Symbol) (c : Claim)
    → (told_within limits rules s ≡ tells.Claim c) ↔ ((told_of rules s ≡ tells.Claim c) × IsWithin limits s c)
claim_within None rules s c = ((λ e. (e, tt)), (λ h. h.0))
claim_within (Some limits) rules s c = (
  (λ e. limited_claim limits (quality_in s) (told_of rules s) c e),
  (λ h. ap (limited limits (quality_in s)) h.0 ∙ limited_stands limits (quality_in s) c h.1.0 h.1.1),
)

-- ---- what goes without saying

as_ten : (q : ℕ) (c : Claim) → q ≤ 9 → limited (record { not_before = 0; poor_from = 10 }) q (tells.Claim c) ≡ tells.Claim c
as_ten q c low = limited_stands (record { not_before = 0; poor_from = 10 }) q c (omega (arith, low)) (omega arith)

pub open_limits : (rules : Rules) (s : List Symbol) → told_within (Some (record { not_before = 0; poor_from = 10 })) rules s ≡ told_of rules s
open_limits rules s = by_told (told_of rules s) refl
  where
    by_told : (told : Told) → told_of rules s ≡ told → limited (record { not_before = 0; poor_from = 10 }) (quality_in s) (told_of rules s) ≡ told_of rules s
    by_told tells.Silence is = rw is refl
    by_told (tells.Fault f) is = rw is refl
    by_told (tells.Poor q) is = rw is refl
    by_told (tells.Claim c) is =
        let carries = (carries_is_told rules s c).0 is in
        let word : (control_of carries.coded.control).quality ≡ quality_in s = ap (λ (n : ℕ). (control_of n).quality) carries.reads.control in
        let low = carries.quality in
        let quality : quality_in s ≤ 9 = omega (arith, word, low) in
        rw is (as_ten (quality_in s) c quality)

-- ---- by any number for the quality, where it does not count

pub limited_by : (limits : Limits) (rules : Rules) (s : List Symbol) (told : Told) (q : ℕ) → told ≡ told_of rules s
    → ((c : Claim) → told_of rules s ≡ tells.Claim c → q ≡ quality_in s) → limited limits q told ≡ limited limits (quality_in s) (told_of rules s)
limited_by limits rules s told q is same = ap (limited limits q) is ∙ by_told (told_of rules s) refl
  where
    by_told : (t : Told) → told_of rules s ≡ t → limited limits q (told_of rules s) ≡ limited limits (quality_in s) (told_of rules s)
    by_told tells.Silence at = rw at refl
    by_told (tells.Fault f) at = rw at refl
    by_told (tells.Poor p) at = rw at refl
    by_told (tells.Claim c) at = ap (λ (n : ℕ). limited limits n (told_of rules s)) (same c at)

-- ---- what is past the 101st symbol changes nothing

pub within_heard : (limits : Option Limits) (rules : Rules) (ws : List ℕ) → told_within limits rules (symbols_heard ws) ≡ widths_told_within limits rules ws
within_heard None rules ws = told_of-heard rules ws
within_heard (Some limits) rules ws =
    limited_by limits rules (symbols_of ws) (told_of rules (symbols_heard ws)) (quality_in (symbols_heard ws)) (told_of-heard rules ws)
    (λ c is.
    let carries = (carries_is_told rules (symbols_of ws) c).0 is in
    let len : length (symbols_of ws) ≡ 100 = carries.reads.len in
    ap quality_in (take_all 101 (symbols_of ws) (omega (arith, len))))

-- ---- an empty port

pub none_within : (limits : Option Limits) (rules : Rules) → told_within limits rules [] ≡ tells.Silence
none_within None rules = none_told rules [] refl
none_within (Some limits) rules = ap (limited limits (quality_in [])) (none_told rules [] refl)

-- ---- what a tally tells

pub tally_within : (limits : Option Limits) (rules : Rules) (t : Tally) (s : List Symbol) → IsTallyOf t s → tally_told_within limits rules t ≡ told_within limits rules s
tally_within None rules t s h = tally_tells rules t s h
tally_within (Some limits) rules t s h =
    limited_by limits rules s (tally_told rules t) (control_of (control_word_in t)).quality (tally_tells rules t s h)
    (λ c is.
    let carries = (carries_is_told rules s c).0 is in
    ap (λ (n : ℕ). (control_of n).quality) (word_is_read t s carries.coded h carries.reads ∙ carries.reads.control))
