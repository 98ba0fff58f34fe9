-- A second of generators, beside what they send and what true lines have at all elements.
-- Source: docs/SCENARIOS.md; this project's profile.
use Rattle.std.specs.Prelude.{◌≡◌, ℕ, suc, ◌+◌, ◌*◌, ◌/◌, ◌%◌, ◌==◌, ◌<◌, if◌then◌else◌, List, get_or, slice_get, Option, Some, None, option_and_then}
use Rattle.std.specs.Option.{option_map}
use Rattle.irig_frame.specs.declared.symbol.Symbol.{Symbol}
use Rattle.irig_frame.specs.declared.symbol.Symbol.TheVariants.{Bad, Zero}
use Rattle.irig_witness.specs.TrueFrames.{blank_at}
use Rattle.irig_simulated.specs.declared.second.LineSecond.{LineSecond}
use Rattle.irig_simulated.specs.declared.second.Second.{Second}

-- the symbol at a place of a frame, 0 to 99
abbrev pub symbol_at : List Symbol → (place : ℕ) → Symbol
symbol_at frame place = get_or frame place Zero

-- what a generator sends at a place, if it sends
abbrev pub symbol_sent : (place : ℕ) → LineSecond → Option Symbol
symbol_sent place line = option_map (λ frame. symbol_at frame place) line.sent

-- what the generator of a line sends there
abbrev pub sent_in : Second → (line place : ℕ) → Option Symbol
sent_in s line place = option_and_then (symbol_sent place) (slice_get s.lines.items line)

-- the symbol at a place of a frame, if there is one; else that of a frame that claims nothing
abbrev pub symbol_in : (place : ℕ) → Option (List Symbol) → Symbol
symbol_in place None = blank_at place
symbol_in place (Some frame) = symbol_at frame place

-- what a true line has there
abbrev pub true_in : Second → (line place : ℕ) → Symbol
true_in s line place = symbol_in place (option_map (λ l. l.truth) (slice_get s.lines.items line))

-- what it had there in the second before
abbrev pub true_before : Second → (line place : ℕ) → Symbol
true_before s line place = symbol_in place (slice_get s.before.items line)

-- what is said of an element of a line: what a true line has there, in this second or the one before
abbrev pub asked_of : Second → (line element : ℕ) → Symbol
asked_of s line element =
    if element / 100 + 1 == s.number then true_before s line (element % 100)
    else true_in s line (element % 100)

-- in this second the signal of generators is what they send; and in it and the one before the symbols
-- of lines are those of true lines, which are never bad
pub record IsSecondOf (s : Second) (signal : (line element : ℕ) → Option Symbol)
    (symbol : (line element : ℕ) → Symbol)
    : Type 0 where
  pub sends : (line place : ℕ) → place < 100
      → signal line (100 * s.number + place) ≡ sent_in s line place
  pub has : (line place : ℕ) → place < 100
      → symbol line (100 * s.number + place) ≡ true_in s line place
  pub had : (line place before : ℕ) → place < 100 → s.number ≡ suc before
      → symbol line (100 * before + place) ≡ true_before s line place
  pub proper : (line element : ℕ) → ¬ (symbol line element ≡ Bad)
