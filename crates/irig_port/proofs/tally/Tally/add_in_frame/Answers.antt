use Rattle.std.proofs.Common.{◌≡◌, arith, refl}
use Rattle.irig_frame.specs.Symbols.{symbol_of}
use Rattle.irig_port.specs.Tallies.{fault_in}
use Rattle.irig_port.specs.declared.tally.FirstFault.{FirstFault}
use Rattle.irig_port.proofs.NumberLaws.{numbers-push}
use Rattle.irig_port.proofs.tally.Tally.add_in_frame.Goals.{then-element-lt60, else-element-lt60}
use Rattle.irig_port.proofs.tally.Tally.add_in_frame.Goals as goal

pub returns-clause-added : goal.returns-clause-added
returns-clause-added c s h =
    let right = c.widths_of.ensures in
    let now = c.args.self.now in
    let after = c.if-element-lt60.self in
    elim c.if-element-lt60.branch [
      | then-element-lt60 w ↦
          let wrong : ◌≡◌ {A = FirstFault} now.wrong after.wrong = rw w.self-is refl in
          numbers-push now.count now.time now.control after.time after.control (fault_in now.wrong) (fault_in c.note.new.wrong) s (symbol_of c.args.width_us) h c.requires (record {
            low = λ low. rw (w.self-is, w.bit_if.ensures, c.is_one_width-is_one.ensures) refl;
            low_kept = λ low. rw w.self-is refl;
            high = λ high. absurd (omega (arith, high, w.if-element-lt60.true));
            high_kept = λ high. absurd (omega (arith, high, w.if-element-lt60.true));
          }) (λ low. rw wrong (c.note.ensures (right.least low) (right.count low)))
      | else-element-lt60 w ↦
          let wrong : ◌≡◌ {A = FirstFault} now.wrong after.wrong = rw w.self-is refl in
          numbers-push now.count now.time now.control after.time after.control (fault_in now.wrong) (fault_in c.note.new.wrong) s (symbol_of c.args.width_us) h c.requires (record {
            low = λ low. absurd (omega (arith, low, w.if-element-lt60.false));
            low_kept = λ low. absurd (omega (arith, low, w.if-element-lt60.false));
            high = λ high. rw (w.self-is, w.bit_if-else-element-lt60.ensures, c.is_one_width-is_one.ensures) refl;
            high_kept = λ high. rw w.self-is refl;
          }) (λ low. rw wrong (c.note.ensures (right.least low) (right.count low)))
    ]
