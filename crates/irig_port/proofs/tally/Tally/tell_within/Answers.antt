use Rattle.std.proofs.Common.{◌≡◌, ◌∙◌, ℕ, ap, sym, Option}
use Rattle.irig_control.specs.declared.control.Control.{Control}
use Rattle.irig_control.specs.Control.{control_of}
use Rattle.irig_time.specs.declared.claim.Claim.{Claim}
use Rattle.irig_port.specs.declared.told.Told.TheVariants as tells
use Rattle.irig_port.specs.Told.{told_of}
use Rattle.irig_port.specs.declared.limits.Limits.{Limits}
use Rattle.irig_port.specs.Limits.{quality_in, told_within}
use Rattle.irig_port.proofs.CarriesLaws.{carries_is_told}
use Rattle.irig_port.proofs.LimitLaws.{limited_by}
use Rattle.irig_port.proofs.tally.Tally.tell_within.Goals as goal

pub returns-in-Some-clause-told : goal.returns-in-Some-clause-told
returns-in-Some-clause-told c s h =
    let rules = c.args.rules.now in
    let quality : (claim : Claim) → told_of rules s ≡ tells.Claim claim → c.unpack.result.quality ≡ quality_in s =
    λ claim is.
    let carries = (carries_is_told rules s claim).0 is in
    ap (λ (k : Control). k.quality) c.unpack.ensures.meaning
    ∙ ap (λ (n : ℕ). (control_of n).quality) (c.control_word.ensures.frame s carries.coded h carries.reads ∙ carries.reads.control) in
    c.limited.ensures
    ∙ limited_by c.in-Some.limits rules s c.tell-told.result c.unpack.result.quality (c.tell-told.ensures.told s h) quality
    ∙ ap (λ (limits : Option Limits). told_within limits rules s) (sym c.in-Some.is)
