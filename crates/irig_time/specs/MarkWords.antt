-- The words for what is said of a leap second.
-- Source: docs/FRAME.md and docs/OUTPUT.md, what a port tells; this project's profile.
use Rattle.std.specs.Prelude.{ℕ, List, codes}
use Rattle.irig_time.specs.declared.mark.Mark.{Mark}
use Rattle.irig_time.specs.declared.mark.Mark.TheVariants.{Unspoken, NoLeap, Insert, Delete}

-- what is said of a leap second
abbrev pub mark_word : Mark → List ℕ
mark_word Unspoken = codes "unspoken"
mark_word NoLeap = codes "no-leap"
mark_word Insert = codes "insert"
mark_word Delete = codes "delete"
