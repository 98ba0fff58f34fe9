-- All that a call that runs a scenario promises.
-- Source: docs/OUTPUT.md, docs/HEADLINE.md; this project's profile.
use Rattle.std.specs.Prelude.{◌≡◌, ◌↔◌, true, Result, Err, IfSome}
use Rattle.irig_device.specs.declared.watched.Watched.{Watched}
use Rattle.irig_device.specs.Lines.{Bytes}
use Rattle.irig_device.specs.Watched.{device_of, has_failed}
use Rattle.report_log.specs.declared.shown.Shown.{Shown}
use Rattle.irig_scene.specs.declared.outcome.Outcome.{Outcome}
use Rattle.report_run.specs.declared.fault.SceneFault.{SceneFault}
use Rattle.report_run.specs.declared.fault.SceneFault.TheVariants.{Read, Write}
use Rattle.irig_scene.specs.LogLines.{OfWritten, TellsTruth, VouchesForItself}
use Rattle.irig_scene.specs.VouchedLines.{VouchesByPlantLine}
use Rattle.irig_scene.specs.BrokenLogs.{VouchesUntilBroken}
use Rattle.irig_scene.specs.VouchedByPorts.{VouchesByPorts}
use Rattle.irig_scene.specs.Run.{RanShown}

-- what the input has left, by what a device of its kind has left
abbrev pub left : {R : Type 0} → (R → Bytes) → Watched R → Bytes
left remaining input = remaining (device_of input)

-- what was written to the output, by what a device of its kind holds
abbrev pub written : {W : Type 0} → (W → Bytes) → Watched W → Bytes
written contents output = contents (device_of output)

-- a run of the input `before`, which left `after`, with this answer: what it wrote to the output,
-- `old` before and `new` after, tells the truth
pub record RunsTruly {R W : Type 0} (remaining : R → Bytes) (contents : W → Bytes) (shown : Shown)
    (result : Result Outcome SceneFault) (before after : Watched R) (old new : Watched W)
    : Type 0 where
  -- a log vouches for itself: if the last whole line written is `premises kept`, each line above it
  -- that shows a time shows T of its edge
  pub vouches : IfSome (left remaining before) (λ x.
      OfWritten (written contents old) (written contents new) (VouchesForItself x))
  -- the same by the plant line of the bytes alone
  pub vouches_by_plant_line : IfSome (left remaining before) (λ x.
      OfWritten (written contents old) (written contents new) (VouchesByPlantLine x))
  -- a broken log vouches too: if the last whole line written says which edge of which reader broke
  -- the premises, each line above of that reader is true that shows an earlier edge, and each line
  -- of any reader that stands before the one of that edge
  pub vouches_until_broken : IfSome (left remaining before) (λ x.
      OfWritten (written contents old) (written contents new) (VouchesUntilBroken x))
  -- a log with port lines vouches line by line, whatever its last line says: the line of a vote is
  -- true by the port line behind it, unless most ports told one and the same untrue claim there
  pub vouches_by_ports : IfSome (left remaining before) (λ x.
      OfWritten (written contents old) (written contents new) (VouchesByPorts x))
  -- the headline over bytes: each whole line written that shows a time shows T of its edge, if its
  -- reader's table is true and its ports were kept up to that edge
  pub truth : IfSome (left remaining before) (λ x.
      OfWritten (written contents old) (written contents new) (TellsTruth x))
  -- after Ok or a refusal the log of the events is written, and the last line, and nothing else;
  -- after a failure a prefix of that. Nothing is read after the line in hand
  pub ran : RanShown result shown (left remaining before) (left remaining after)
      (written contents old) (written contents new)
  -- it answers Read exactly if the input has failed in this call
  pub read : (result ≡ Err Read) ↔ (has_failed after ≡ true)
  -- and Write exactly if the output has
  pub write : (result ≡ Err Write) ↔ (has_failed new ≡ true)
