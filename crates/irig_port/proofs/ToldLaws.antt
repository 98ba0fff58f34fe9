-- What a port tells, line by line.
use Rattle.std.proofs.Common.{◌≡◌, ℕ, ◌<◌, true, false, List, length, None, refl, arith}
use Rattle.irig_frame.specs.declared.symbol.Symbol.{Symbol}
use Rattle.irig_frame.specs.declared.fault.FrameFault.TheVariants as frame_fault
use Rattle.irig_frame.specs.Faults.{first_wrong, values_of}
use Rattle.irig_control.specs.Parity.{has_parity}
use Rattle.irig_time.specs.declared.rules.Rules.{Rules}
use Rattle.irig_time.specs.Seconds.{IsValid}
use Rattle.irig_time.proofs.ValidLaws.{still_valid}
use Rattle.irig_port.specs.declared.told.PortFault.TheVariants as fault
use Rattle.irig_port.specs.declared.told.Told.{Told}
use Rattle.irig_port.specs.declared.told.Told.TheVariants as tells
use Rattle.irig_port.specs.Told.{told_of, frame_told, values_told, IfClaim}

pub none_told : (rules : Rules) (s : List Symbol) → length s ≡ 0 → told_of rules s ≡ tells.Silence
unfolding told_of
none_told rules s h = rw h refl

pub short_told : (rules : Rules) (s : List Symbol) (count : ℕ) → count ≡ length s → (count ≡ 0 → ⊥) → count < 100 → told_of rules s ≡ tells.Fault (fault.Frame (frame_fault.Short count))
unfolding told_of
short_told rules s count e h short = rw (← e) (grind arith)

pub long_told : (rules : Rules) (s : List Symbol) → 100 < length s → told_of rules s ≡ tells.Fault (fault.Frame frame_fault.Long)
unfolding told_of
long_told rules s h = grind arith

pub whole_told : (rules : Rules) (s : List Symbol) → length s ≡ 100 → told_of rules s ≡ frame_told rules s
unfolding told_of
whole_told rules s h = rw h refl

-- ---- of 100 symbols whose elements are right

pub parity_told : (rules : Rules) (s : List Symbol) → length s ≡ 100 → first_wrong 0 s ≡ None → has_parity rules.parity s ≡ false → told_of rules s ≡ tells.Fault fault.Parity
unfolding told_of frame_told
parity_told rules s len right wrong = rw (len, right, wrong) refl

pub fields_told : (rules : Rules) (s : List Symbol) → length s ≡ 100 → first_wrong 0 s ≡ None → has_parity rules.parity s ≡ true → told_of rules s ≡ values_told rules (values_of s)
unfolding told_of frame_told
fields_told rules s len right even = rw (len, right, even) refl

-- ---- a port may keep that a claim is of UTC

pub still_valid_claim : (t : Told) → ∥ IfClaim t (λ claim. IsValid claim.at) ∥₁ → IfClaim t (λ claim. IsValid claim.at)
still_valid_claim tells.Silence kept = tt
still_valid_claim (tells.Fault f) kept = tt
still_valid_claim (tells.Poor q) kept = tt
still_valid_claim (tells.Claim claim) kept = still_valid claim.at kept
