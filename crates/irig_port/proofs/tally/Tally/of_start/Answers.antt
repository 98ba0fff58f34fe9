use Rattle.std.proofs.Common.{None, length, refl, arith}
use Rattle.std.proofs.lemmas.List.{length-map}
use Rattle.irig_frame.specs.Symbols.{symbol_of}
use Rattle.irig_port.specs.Heard.{symbols_of}
use Rattle.irig_port.proofs.FrameLaws.{of_right}
use Rattle.irig_port.proofs.tally.Tally.of_start.Goals as goal

pub returns-clause-of_widths : goal.returns-clause-of_widths
returns-clause-of_widths c =
    let ws = c.args.widths_us.now in
    of_right (symbols_of ws) (length ws) c.bits_of.result c.bits_of-2.result None (length-map ws symbol_of) c.requires.some c.requires.few c.requires.right refl c.bits_of.ensures c.bits_of-2.ensures

pub bits_of-requires-2-clause-few : goal.bits_of-requires-2-clause-few
bits_of-requires-2-clause-few c = omega (arith, c.requires.few)
