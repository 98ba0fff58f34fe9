use Rattle.std.proofs.Common.{◌∙◌, sym}
use Rattle.report_blame.proofs.CarrierLaws.{carrier_written, other_passed}
use Rattle.report_blame.proofs.untrue_text.push_carriers.Goals as goal
use Rattle.report_blame.proofs.untrue_text.push_carriers.Goals.{then-is_carrier+in_ok-push_carrier, else-is_carrier}

pub loop-port-preserved : goal.loop-port-preserved
loop-port-preserved c =
    let g = c.args.basis.now in
    let n = c.loop-port.port in
    elim c.if-is_carrier.branch [
      | then-is_carrier+in_ok-push_carrier w ↦ rw (w.text-is, w.is_first-is) (carrier_written c.args.lines.now g n _ _ _ _ (sym c.is_carrier.ensures ∙ w.if-is_carrier.true) c.loop-port.invariant.0 c.loop-port.invariant.1 w.in_ok-push_carrier.ensures)
      | else-is_carrier w ↦ rw (w.text-is, w.is_first-is) (other_passed c.args.lines.now g n _ _ _ (sym c.is_carrier.ensures ∙ w.if-is_carrier.false) c.loop-port.invariant.0 c.loop-port.invariant.1)
    ]
