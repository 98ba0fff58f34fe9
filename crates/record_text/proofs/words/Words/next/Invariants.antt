use Rattle.std.proofs.Common.{◌≡◌, ℕ, List, ◌++◌, take}
use Rattle.record_text.specs.Words.{words_on}
use Rattle.record_text.proofs.words.Words.next.Given as goal

-- what was taken has left no word
abbrev pub invariant-loop-at : goal.invariant-loop-at
invariant-loop-at l = (more : List ℕ) → words_on l.fn.self (take l.at l.bytes ++ more) ≡ words_on l.self more
