-- A claim is told of exactly those symbols that carry it.
use Rattle.std.proofs.Common.{◌≡◌, ◌↔◌, ℕ, ◌+◌, ◌*◌, ◌≤◌, Bool, true, false, not, ◌&&◌, cond, eqb, nat_lt, nat_le, List, length, Option, Some, None, Result, Ok, Err, refl, ap, ◌∙◌, arith}
use Rattle.std.proofs.lemmas.Bool.{ltb-false, lt-ltb, leb-false, lt-leb, le-ltb, eqb-true}
use Rattle.irig_frame.specs.declared.symbol.Symbol.{Symbol}
use Rattle.irig_frame.specs.declared.coded.Coded.{Coded}
use Rattle.irig_frame.specs.declared.fault.FrameFault.{FrameFault}
use Rattle.irig_frame.specs.Decoder.{Reads}
use Rattle.irig_frame.specs.Faults.{first_wrong, values_of, decode_result}
use Rattle.irig_frame.proofs.ReadingLaws.{decoded-reads, none_of, values_again}
use Rattle.irig_control.specs.Control.{control_of}
use Rattle.irig_control.specs.Parity.{has_parity, HasParity}
use Rattle.irig_time.specs.declared.rules.Rules.{Rules}
use Rattle.irig_time.specs.declared.rules.SbsUse.{SbsUse}
use Rattle.irig_time.specs.declared.rules.SbsUse.TheVariants.{Check, Ignore}
use Rattle.irig_time.specs.declared.claim.Claim.{Claim}
use Rattle.irig_time.specs.declared.claim.TimeFault.{TimeFault}
use Rattle.irig_time.specs.Carries.{SbsAgrees, Carries}
use Rattle.irig_port.specs.declared.told.PortFault.{PortFault}
use Rattle.irig_port.specs.declared.told.Told.{Told}
use Rattle.irig_port.specs.declared.told.Told.TheVariants as tells
use Rattle.irig_port.specs.Told.{is_sbs_wrong, claim_told, coded_told, values_told, told_unless, frame_told, told_of}
use Rattle.irig_port.proofs.ToldLaws.{fields_told}

-- ---- what reads as some values, with the parity, tells what the values tell

pub told_of_reading : (rules : Rules) (s : List Symbol) (c : Coded) → Reads s c → HasParity rules.parity s → told_of rules s ≡ coded_told rules c
told_of_reading rules s c r p = fields_told rules s r.len (none_of s c r) p ∙ ap (values_told rules) (values_again s c r)

-- ---- the straight binary seconds

agrees_if : (usage : SbsUse) (c : Coded) → is_sbs_wrong usage c ≡ false → SbsAgrees usage c
agrees_if Ignore c e = tt
agrees_if Check c e = λ low. eqb-true _ _ (of_test (eqb c.sbs (3600 * c.hour + 60 * c.minute + c.second)) (nat_lt c.second 60) (lt-ltb _ _ low) e)
  where
    of_test : (b a : Bool) → a ≡ true → (a && not b) ≡ false → b ≡ true
    of_test true a h e = refl
    of_test false true h e = absurd cc
    of_test false false h e = absurd cc

right_if : (usage : SbsUse) (c : Coded) → SbsAgrees usage c → is_sbs_wrong usage c ≡ false
right_if Ignore c h = refl
right_if Check c h = grind (arith, h)

-- ---- from a claim back, line by line

guard : (b : Bool) (f : PortFault) (r : Told) (c : Claim) → cond b (tells.Fault f) r ≡ tells.Claim c → (b ≡ false) × (r ≡ tells.Claim c)
guard true f r c e = absurd cc
guard false f r c e = (refl, e)

guard_silence : (b : Bool) (r : Told) (c : Claim) → cond b tells.Silence r ≡ tells.Claim c → r ≡ tells.Claim c
guard_silence true r c e = absurd cc
guard_silence false r c e = e

guard_else : (b : Bool) (f : PortFault) (r : Told) (c : Claim) → cond b r (tells.Fault f) ≡ tells.Claim c → (b ≡ true) × (r ≡ tells.Claim c)
guard_else true f r c e = (refl, e)
guard_else false f r c e = absurd cc

unless_claim : (o : Option FrameFault) (r : Told) (c : Claim) → told_unless o r ≡ tells.Claim c → (o ≡ None) × (r ≡ tells.Claim c)
unless_claim (Some f) r c e = absurd cc
unless_claim None r c e = (refl, e)

values_claim : (rules : Rules) (r : Result Coded FrameFault) (c : Claim) → values_told rules r ≡ tells.Claim c → (k : Coded) × (r ≡ Ok k) × (coded_told rules k ≡ tells.Claim c)
values_claim rules (Ok k) c e = (k, refl, e)
values_claim rules (Err f) c e = absurd cc

claim_claim : (r : Result Claim TimeFault) (quality : ℕ) (c : Claim) → claim_told r quality ≡ tells.Claim c → (r ≡ Ok c) × (quality ≤ 9)
claim_claim (Err f) quality c e = absurd cc
claim_claim (Ok d) quality c e = by_test (nat_le 10 quality) refl e
  where
    by_test : (b : Bool) → nat_le 10 quality ≡ b → cond b (tells.Poor quality) (tells.Claim d) ≡ tells.Claim c → (◌≡◌ {A = Result Claim TimeFault} (Ok d) (Ok c)) × (quality ≤ 9)
    by_test true is e = absurd cc
    by_test false is e = (cc, let high = leb-false _ _ is in omega (arith, high))

-- ---- the two ways

carried : (rules : Rules) (s : List Symbol) (claim : Claim) → Carries rules s claim → told_of rules s ≡ tells.Claim claim
unfolding coded_told
carried rules s claim h =
    let low : nat_le 10 (control_of h.coded.control).quality ≡ false = lt-leb _ _ (let q = h.quality in omega (arith, q)) in
    told_of_reading rules s h.coded h.reads h.parity ∙ (rw (right_if rules.sbs h.coded h.sbs, h.claims, low) refl)

frame_claim : (rules : Rules) (s : List Symbol) (claim : Claim) → told_of rules s ≡ tells.Claim claim → (length s ≡ 100) × (frame_told rules s ≡ tells.Claim claim)
unfolding told_of
frame_claim rules s claim e =
    let some = guard_silence (eqb (length s) 0) _ claim e in
    let a = guard (nat_lt (length s) 100) _ _ claim some in
    let b = guard (nat_lt 100 (length s)) _ _ claim a.1 in
    let low = ltb-false _ _ a.0 in
    let high = ltb-false _ _ b.0 in
    (omega (arith, low, high), b.1)

-- if the elements are right, what decode answers is the values
values_decoded : (s : List Symbol) (c : Coded) → length s ≡ 100 → first_wrong 0 s ≡ None → values_of s ≡ Ok c → decode_result s ≡ Ok c
unfolding decode_result
values_decoded s c len right e = rw (le-ltb (length s) 100 (omega arith), le-ltb 100 (length s) (omega arith), right) e

carries : (rules : Rules) (s : List Symbol) (claim : Claim) → told_of rules s ≡ tells.Claim claim → Carries rules s claim
unfolding frame_told coded_told
carries rules s claim e =
    let f = frame_claim rules s claim e in
    let elements = unless_claim (first_wrong 0 s) _ claim f.1 in
    let parity = guard_else (has_parity rules.parity s) _ _ claim elements.1 in
    let values = values_claim rules (values_of s) claim parity.1 in
    let coded = values.0 in
    let sbs = guard (is_sbs_wrong rules.sbs coded) _ _ claim values.2 in
    let time = claim_claim _ _ claim sbs.1 in
    record {
      coded = coded;
      reads = (decoded-reads s coded).0 (values_decoded s coded f.0 elements.0 values.1);
      parity = parity.0;
      sbs = agrees_if rules.sbs coded sbs.0;
      quality = time.1;
      claims = time.0;
    }

pub carries_is_told : (rules : Rules) (s : List Symbol) (claim : Claim) → (told_of rules s ≡ tells.Claim claim) ↔ Carries rules s claim
carries_is_told rules s claim = (carries rules s claim, carried rules s claim)
