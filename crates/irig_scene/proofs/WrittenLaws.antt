-- What a run wrote is a prefix of the log of the bytes that it read.
use Rattle.std.proofs.Common.{◌≡◌, ◌↔◌, true, ℕ, List, [], ◌++◌, Option, Some, None, Result, Ok, Err, ap, sym, subst, ◌∙◌, append-nil}
use Rattle.std.specs.Prelude.{IfSome}
use Rattle.std.specs.Io.KnownBytes.{Appends}
use Rattle.std.proofs.lemmas.List.{append_cancel_left}
use Rattle.irig_device.specs.declared.watched.Watched.{Watched}
use Rattle.irig_device.specs.Watched.{AppendsPart, has_failed}
use Rattle.report_log.specs.declared.shown.Shown.{Shown}
use Rattle.irig_scene.specs.declared.outcome.Outcome.{Outcome}
use Rattle.report_run.specs.declared.fault.SceneFault.{SceneFault}
use Rattle.report_run.specs.declared.fault.SceneFault.TheVariants.{Refused, Read, Write, Memory}
use Rattle.irig_scene.specs.Scene.{output_shown}
use Rattle.irig_scene.specs.Run.{RanOn, RanShown}
use Rattle.irig_scene.specs.LogLines.{OfWritten, TellsTruth, VouchesForItself}
use Rattle.irig_scene.specs.VouchedLines.{VouchesByPlantLine}
use Rattle.irig_scene.specs.BrokenLogs.{VouchesUntilBroken}
use Rattle.irig_scene.specs.VouchedByPorts.{VouchesByPorts}
use Rattle.irig_scene.specs.WholeRun.{RunsTruly, left, written}
use Rattle.irig_scene.proofs.TrueLines.{tells_truth, vouches_for_itself}
use Rattle.irig_scene.proofs.PlantLines.{vouches_by_plant_line}
use Rattle.irig_scene.proofs.BrokenLogs.{vouches_until_broken}
use Rattle.irig_scene.proofs.VouchedByPorts.{vouches_by_ports}

whole_part : (old new : Option (List ℕ)) (text : List ℕ) → Appends old new text → AppendsPart old new text
whole_part old new text wrote = record { front = text; rest = []; whole = sym (append-nil text); wrote = wrote }

front_written : (r : Result Outcome SceneFault) (x : List ℕ) (shown : Shown) (was left old new : Option (List ℕ)) → RanOn r x shown was left old new → AppendsPart old new (output_shown x shown)
front_written (Ok o) x shown was left old new ran = whole_part old new (output_shown x shown) ran.0
front_written (Err (Refused line refusal)) x shown was left old new ran = whole_part old new (output_shown x shown) ran.0
front_written (Err Read) x shown was left old new ran = ran.0
front_written (Err Write) x shown was left old new ran = ran.0
front_written (Err Memory) x shown was left old new ran = ran.0

of_front : (Fact : List ℕ → Type 0) (text : List ℕ) → ((w rest : List ℕ) → text ≡ w ++ rest → Fact w) → (old new : Option (List ℕ)) → AppendsPart old new text → OfWritten old new Fact
of_front Fact text fact None new part = tt
of_front Fact text fact (Some old) None part = tt
of_front Fact text fact (Some old) (Some new) part = λ written is.
    let same : part.front ≡ written = append_cancel_left old part.front written (sym part.wrote ∙ is) in
    fact written part.rest (part.whole ∙ ap (λ w. w ++ part.rest) same)

-- a fact of each prefix of the log of bytes is one of what was written for them
of_run : (Fact : List ℕ → List ℕ → Type 0) (r : Result Outcome SceneFault) (shown : Shown) (was left old new : Option (List ℕ)) → ((x w rest : List ℕ) → output_shown x shown ≡ w ++ rest → Fact x w)
    → RanShown r shown was left old new → IfSome was (λ x. OfWritten old new (Fact x))
of_run Fact r shown None left old new fact ran = tt
of_run Fact r shown (Some known) left old new fact ran =
    subst (λ x. OfWritten old new (Fact x)) ran.of_input
    (of_front (Fact ran.bytes) (output_shown ran.bytes shown) (fact ran.bytes) old new (front_written r ran.bytes shown (Some known) left old new ran.ran))

-- a run is true by what it wrote
pub runs_truly : {R W : Type 0} (remaining : R → Option (List ℕ)) (contents : W → Option (List ℕ)) (shown : Shown) (result : Result Outcome SceneFault) (before after : Watched R) (old new : Watched W)
    → RanShown result shown (left remaining before) (left remaining after) (written contents old) (written contents new)
    → (result ≡ Err Read) ↔ (has_failed after ≡ true) → (result ≡ Err Write) ↔ (has_failed new ≡ true) → RunsTruly remaining contents shown result before after old new
runs_truly remaining contents shown result before after old new ran read write =
    record {
      vouches = of_run VouchesForItself result shown (left remaining before) (left remaining after) (written contents old) (written contents new) (vouches_for_itself shown) ran;
      vouches_by_plant_line = of_run VouchesByPlantLine result shown (left remaining before) (left remaining after) (written contents old) (written contents new) (vouches_by_plant_line shown) ran;
      vouches_until_broken = of_run VouchesUntilBroken result shown (left remaining before) (left remaining after) (written contents old) (written contents new) (vouches_until_broken shown) ran;
      vouches_by_ports = of_run VouchesByPorts result shown (left remaining before) (left remaining after) (written contents old) (written contents new) (vouches_by_ports shown) ran;
      truth = of_run TellsTruth result shown (left remaining before) (left remaining after) (written contents old) (written contents new) (tells_truth shown) ran;
      ran = ran;
      read = read;
      write = write;
    }
