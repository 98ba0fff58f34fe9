use Rattle.std.proofs.Common.{ℕ, ap, ◌∙◌}
use Rattle.irig_control.specs.Control.{control_of}
use Rattle.irig_port.proofs.flow.FlowPortPort.quality.Goals as goal

pub returns : goal.returns
returns c rules s coded h reads =
    ap (λ k. k.quality) c.unpack.ensures.meaning
    ∙ ap (λ (n : ℕ). (control_of n).quality) (c.control_word.ensures.frame s coded h.numbers reads ∙ reads.control)
