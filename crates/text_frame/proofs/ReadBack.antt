-- A frame that is written with some options is read back by the same parity and sense.
use Rattle.std.proofs.Common.{◌≡◌, ◌+◌, ◌*◌, false, not, eqb, ltb, List, refl, ap, ◌∙◌, ℤ}
use Rattle.std.proofs.lemmas.Bool.{and_right, eq-eqb}
use Rattle.irig_frame.specs.declared.symbol.Symbol.{Symbol}
use Rattle.irig_frame.specs.declared.coded.Coded.{Coded}
use Rattle.irig_control.specs.declared.control.Control.{Control}
use Rattle.irig_control.specs.Control.{IsControl, control_of}
use Rattle.irig_time.specs.declared.rules.SbsUse.{SbsUse}
use Rattle.irig_time.specs.declared.rules.SbsUse.TheVariants.{Check, Ignore}
use Rattle.irig_time.specs.declared.second.UtcSecond.{UtcSecond}
use Rattle.irig_time.specs.Seconds.{IsValid}
use Rattle.irig_time.specs.CodedTime.{IsCodedOf}
use Rattle.irig_time.specs.Claims.{claim_by, claim_of_second}
use Rattle.irig_time.specs.Frames.{IsFrameOfSecond}
use Rattle.irig_gen.proofs.GenLaws.{offset_fits, by_sense, without_control, control_back}
use Rattle.irig_port.specs.Told.{claim_told, coded_told, is_sbs_wrong, told_of}
use Rattle.irig_port.proofs.CarriesLaws.{told_of_reading}
use Rattle.text_frame.specs.declared.frame.FrameOptions.{FrameOptions}
use Rattle.text_frame.specs.Frame.{IsFrameOptions, control_with, rules_with}

control_fits : (options : FrameOptions) → IsFrameOptions options → IsControl (control_with options)
control_fits options fit = record { offset = offset_fits options.sense options.local fit.local; quality = fit.quality }

sbs_right : (sbs : SbsUse) (u : UtcSecond) (h : ℤ) (c : Coded) → IsCodedOf u h (record c { control = 0 }) → is_sbs_wrong sbs c ≡ false
sbs_right Check u h c r = and_right (ltb c.second 60) (not (eqb c.sbs (3600 * c.hour + 60 * c.minute + c.second))) (ap not (eq-eqb c.sbs (3600 * c.hour + 60 * c.minute + c.second) r.sbs))
sbs_right Ignore u h c r = refl

pub read_back : (u : UtcSecond) (options : FrameOptions) (sbs : SbsUse) (s : List Symbol) → IsValid u → IsFrameOptions options
    → IsFrameOfSecond options.parity u options.local (control_with options) s
    → told_of (rules_with options sbs) s ≡ claim_told (claim_of_second u (control_with options)) options.quality
unfolding coded_told
read_back u options sbs s valid fit frame =
    let k = control_with options in
    let c = frame.coded in
    let back : control_of c.control ≡ k = control_back c.control k (control_fits options fit) frame.unused frame.control in
    let claims : claim_by options.sense c (control_of c.control) ≡ claim_of_second u k =
    ap (claim_by options.sense c) back ∙ without_control options.sense c k
    ∙ by_sense options.sense u options.local (record c { control = 0 }) k valid fit.local frame.time refl in
    let quality : (control_of c.control).quality ≡ options.quality = ap (λ (x : Control). x.quality) back in
    told_of_reading (rules_with options sbs) s c frame.reads frame.has_parity
    ∙ rw (sbs_right sbs u options.local c frame.time, claims, quality) refl
