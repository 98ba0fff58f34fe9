use Rattle.std.proofs.Common.{◌≡◌, ◌∙◌, ℕ, Some, ap}
use Rattle.irig_time.specs.declared.claim.Claim.{Claim}
use Rattle.irig_port.specs.declared.limits.Limits.{Limits}
use Rattle.irig_port.specs.declared.told.Told.{Told}
use Rattle.irig_port.specs.declared.told.Told.TheVariants as tells
use Rattle.irig_port.specs.Limits.{told_within, quality_in}
use Rattle.irig_lines.specs.Steps.{whole_frame}
use Rattle.irig_lines.proofs.LineLaws.{told_quality, claim_carries}
use Rattle.irig_timekeeper.proofs.keeper.frame_told.Goals as goal

pub returns-clause-frame : goal.returns-clause-frame
returns-clause-frame g c r s stands same =
    let clock = c.args.clock.now in
    let told : c.told_by-told.result ≡ told_within (Some clock.limits.limits) r s = c.told_by-told.ensures.told r s stands same ∙ ap (λ (l : Limits). told_within (Some l) r s) c.limits.ensures in
    let says : (x : Claim) → told_within (Some clock.limits.limits) r s ≡ tells.Claim x → c.quality-quality.result ≡ quality_in s = λ x e. (let carries = claim_carries (Some clock.limits.limits) r s x e in c.quality-quality.ensures r s carries.coded stands carries.reads) in
    c.whole_frame.ensures
    ∙ ap (λ (t : Told). whole_frame clock c.args.begin_us c.args.rise_us t c.quality-quality.result) told
    ∙ ap (λ (q : ℕ). record (whole_frame clock c.args.begin_us c.args.rise_us (told_within (Some clock.limits.limits) r s) (quality_in s)) { quality = q }) (told_quality (told_within (Some clock.limits.limits) r s) c.quality-quality.result (quality_in s) says)
