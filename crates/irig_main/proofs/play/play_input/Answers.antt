use Rattle.std.proofs.Common.{◌∙◌, Err, ap, sym}
use Rattle.irig_main.specs.Status.{result_of}
use Rattle.irig_main.proofs.play.play_input.Goals as goal

pub returns-in-Ok-clause-played : goal.returns-in-Ok-clause-played
returns-in-Ok-clause-played g c = record { run = _; answered = ap result_of (sym c.in-Ok.is); wrote = c.write_wanted.ensures.wrote }

pub returns-clause-played : goal.returns-clause-played
returns-clause-played g c = record { run = _; answered = ap (λ f. Err f) c.from.ensures ∙ ap result_of (sym c.in-Err.is); wrote = c.write_wanted.ensures.wrote }
