use Rattle.std.proofs.Common.{◌≡◌, ◌+◌, ◌*◌, ◌∙◌, refl}
use Rattle.irig_port.specs.Tallies.{control_word_in}
use Rattle.irig_port.proofs.NumberLaws.{word_is_read}
use Rattle.irig_port.proofs.tally.Tally.control_word.Goals as goal

pub returns-clause-frame : goal.returns-clause-frame
returns-clause-frame c s coded h reads =
    let word : c.bits_at.result + 512 * c.bits_at-2.result ≡ control_word_in c.args.self.now = rw (c.bits_at.ensures.exact, c.bits_at-2.ensures.exact) refl in
    word ∙ word_is_read c.args.self.now s coded h reads
