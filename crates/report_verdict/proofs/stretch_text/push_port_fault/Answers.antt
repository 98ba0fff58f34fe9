use Rattle.std.proofs.Common.{◌∙◌, ◌++◌, ap}
use Rattle.std.specs.Prelude.{codes, string_bytes}
use Rattle.std.proofs.lemmas.List.{append_assoc}
use Rattle.text_faults.specs.PortFaults.{fault_text}
use Rattle.report_verdict.specs.VerdictText.{fault_part}
use Rattle.report_verdict.proofs.stretch_text.push_port_fault.Goals as goal

pub returns : goal.returns
unfolding fault_part
returns c = c.in_ok-push_fault.ensures ∙ ap (λ bs. bs ++ fault_text (codes " ") c.args.fault) c.in_ok-push_str.ensures.bytes ∙ append_assoc (string_bytes c.args.text.now) (codes " sends frames of fault ") (fault_text (codes " ") c.args.fault)
