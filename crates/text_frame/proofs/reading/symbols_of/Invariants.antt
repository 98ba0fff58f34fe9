use Rattle.std.proofs.Common.{take}
use Rattle.text_frame.proofs.ReadLetters.{HasRead}
use Rattle.text_frame.proofs.reading.symbols_of.Given as goal

abbrev pub invariant-loop-letter : goal.invariant-loop-letter
invariant-loop-letter l = HasRead (take l.letter-index l.text) l.symbols.items
