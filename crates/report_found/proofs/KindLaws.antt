-- The kind of what a port told is that of its word in a log's port line.
use Rattle.std.proofs.Common.{◌≡◌, ◌↔◌, Bool, true, false, cond, Option, Some, None, refl, ap, sym, ◌∙◌, codes}
use Rattle.std.specs.Prelude.{not}
use Rattle.std.proofs.lemmas.Bool.{and_parts}
use Rattle.irig_time.specs.declared.claim.Claim.{Claim}
use Rattle.irig_time.specs.Claims.{same_claim, same_mark}
use Rattle.irig_time.specs.Seconds.{same_second}
use Rattle.irig_port.specs.declared.told.Told.{Told}
use Rattle.irig_port.specs.declared.told.Told.TheVariants as tells
use Rattle.irig_vote.proofs.CountLaws.{same_is, same_itself}
use Rattle.report_log.specs.Text.{port_word}
use Rattle.report_log.proofs.PortWordLaws.{ok_is_truth}
use Rattle.report_found.specs.declared.kind.Kind.TheVariants.{Agreed, AnotherSecond, AnotherMark}
use Rattle.report_found.specs.Kinds.{kind_of, kind_of_claim}

-- the true claim was told
abbrev IsTruth : Option Claim → Told → Type 0
IsTruth truth told = (claim : Claim) × (told ≡ tells.Claim claim) × (truth ≡ Some claim)

agreed_is_true : (truth : Option Claim) (c : Claim) → kind_of_claim truth c ≡ Agreed → truth ≡ Some c
agreed_is_true None c h = absurd cc
agreed_is_true (Some t) c h = by_second (same_second c.at t.at) refl h
  where
    by_mark : (m : Bool) → same_second c.at t.at ≡ true → same_mark c.mark t.mark ≡ m → cond (not m) AnotherMark Agreed ≡ Agreed → Some t ≡ Some c
    by_mark true second mark k = let same : same_claim c t ≡ true = rw (second, mark) refl in ap (λ (x : Claim). let o : Option Claim = Some x in o) (sym (same_is c t same))
    by_mark false second mark k = absurd cc

    by_second : (b : Bool) → same_second c.at t.at ≡ b → cond (not b) AnotherSecond (cond (not (same_mark c.mark t.mark)) AnotherMark Agreed) ≡ Agreed → Some t ≡ Some c
    by_second true second k = by_mark (same_mark c.mark t.mark) second refl k
    by_second false second k = absurd cc

to_truth : (truth : Option Claim) (told : Told) → kind_of truth told ≡ Agreed → IsTruth truth told
to_truth truth tells.Silence h = absurd cc
to_truth truth (tells.Fault f) h = absurd cc
to_truth truth (tells.Poor q) h = absurd cc
to_truth truth (tells.Claim c) h = (c, refl, agreed_is_true truth c h)

agreed_itself : (c : Claim) → kind_of_claim (Some c) c ≡ Agreed
agreed_itself c = let same = and_parts (same_second c.at c.at) (same_mark c.mark c.mark) (same_itself c) in rw (same.0, same.1) refl

from_truth : (truth : Option Claim) (told : Told) → IsTruth truth told → kind_of truth told ≡ Agreed
from_truth truth told h = ap (kind_of truth) h.1 ∙ ap (λ t. kind_of_claim t h.0) h.2 ∙ agreed_itself h.0

pub agreed_is_ok : (truth : Option Claim) (told : Told) → (kind_of truth told ≡ Agreed) ↔ (port_word truth told ≡ codes "ok")
agreed_is_ok truth told = (λ h. (ok_is_truth truth told).1 (to_truth truth told h), λ h. from_truth truth told ((ok_is_truth truth told).0 h))
