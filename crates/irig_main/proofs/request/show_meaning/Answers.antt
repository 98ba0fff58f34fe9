use Rattle.std.proofs.Common.{◌≡◌, false, subst}
use Rattle.irig_device.specs.Watched.{has_failed}
use Rattle.irig_main.specs.declared.fault.Fault.TheVariants.{BadTime, BadFrameText, Write}
use Rattle.irig_main.specs.Serving.{IsUnknownWord}
use Rattle.irig_main.proofs.request.show_meaning.Goals as goal

pub returns-in-Ok-None-clause-write : goal.returns-in-Ok-None-clause-write
returns-in-Ok-None-clause-write g c = (
  λ e. let is : c.unknown_word.result ≡ Write = cc in absurd (subst IsUnknownWord is c.unknown_word.ensures),
  λ failed. let whole : has_failed c.args.output.now ≡ false = c.requires in absurd cc,
)

pub returns-in-Ok-None-clause-time : goal.returns-in-Ok-None-clause-time
returns-in-Ok-None-clause-time g c = λ e. let is : c.unknown_word.result ≡ BadTime = cc in subst IsUnknownWord is c.unknown_word.ensures

pub returns-in-Ok-None-clause-frame : goal.returns-in-Ok-None-clause-frame
returns-in-Ok-None-clause-frame g c = λ e. let is : c.unknown_word.result ≡ BadFrameText = cc in subst IsUnknownWord is c.unknown_word.ensures
