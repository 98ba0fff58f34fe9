-- The audit of a device: a fold over its calls, beside what true lines would have sent. It says if
-- the premises were kept under which a timekeeper tells the truth.
-- Source: docs/WIRES.md, what a timekeeper asks.
use Rattle.std.specs.Prelude.{◌≡◌, ℕ, ◌+◌, ◌/◌, ◌==◌, ◌<◌, ◌≤◌, ◌⊎◌, Bool, true, false, ◌&&◌, nat_lt, nat_le, max, if◌then◌else◌, List, [], ◌∷◌, count_by, ⊤}
use Rattle.std.specs.List.{range_with_len}
use Rattle.irig_frame.specs.declared.symbol.Symbol.{Symbol}
use Rattle.irig_frame.specs.declared.symbol.Symbol.TheVariants.{Bad}
use Rattle.irig_frame.specs.Symbols.{symbol_of}
use Rattle.irig_sync.specs.Lines.{pulse_at}
use Rattle.irig_vote.specs.Vote.{f_of}
use Rattle.irig_lines.specs.declared.setup.ClockRules.{ClockRules}
use Rattle.irig_lines.specs.Lines.{ArePulsesLately}
use Rattle.irig_lines.specs.Steps.{is_pulse}
use Rattle.irig_timekeeper.specs.Life.{Call, pulses_on, AreInOrder}
use Rattle.irig_timekeeper.specs.Life.Call.{Hear, Tick}
use Rattle.irig_lives.specs.Decided.{in_order, is_pulse_of}
use Rattle.irig_witness.specs.declared.line.LineWitness.{LineWitness}
use Rattle.irig_witness.specs.Elements.{element_near}
use Rattle.irig_wires.specs.Oscillator.{edges_by}

-- what true lines would have sent: the symbol of each line at each element, when seconds begin, and
-- which element alone a rise may be of
pub record TrueLines : Type 0 where
  pub symbol : (line element : ℕ) → Symbol
  pub edges : ℕ → ℕ
  pub near : (rise : ℕ) → ℕ

-- the lines of these symbols, by a counter of a constant rate
abbrev pub lines_by : (symbol : (line element : ℕ) → Symbol) → (first rate : ℕ) → TrueLines
lines_by symbol first rate = record {
  symbol = symbol;
  edges = edges_by first rate;
  near = element_near first rate;
}

-- ---- one line

-- nothing has come
abbrev pub new_witness : LineWitness
new_witness = record { next = 0; before = 0; clear = 0; again = 0; rise = 0 }

-- the first tick that no longer asks for a pulse that rose then
abbrev pub forgets : (rise : ℕ) → ℕ
forgets rise = rise + 1200001

-- behind a pulse of no element, or of one that was past: the line is untrue until it is forgotten
abbrev pub after_false : LineWitness → (rise : ℕ) → LineWitness
after_false a rise = record a { clear = max a.clear (forgets rise); rise = rise }

-- behind a pulse of the j-th element: that is one that was yet to come; or it is that of the last
-- pulse, which then was the false one; or it was past
abbrev pub after_true : LineWitness → (j rise : ℕ) → LineWitness
after_true a j rise =
    if nat_le a.next j
    then record { next = j + 1; before = j; clear = a.clear; again = forgets rise; rise = rise }
    else (if nat_le a.before j
    then record {
      next = j + 1;
      before = j;
      clear = max a.clear a.again;
      again = forgets rise;
      rise = rise;
    }
    else after_false a rise)

-- behind a pulse that may be of the j-th element
abbrev pub after_rise : (within : ℕ) → (ℕ → Symbol) → (ℕ → ℕ) → LineWitness → (j rise width : ℕ)
    → LineWitness
after_rise within line edges a j rise width =
    if is_pulse_of within line edges j (pulse_at rise width) then after_true a j rise
    else after_false a rise

-- what an audit may be told of a pulse that may be of such an element: the symbol that the line has
-- there. Of a pulse that is as wide as no symbol, any other will do, if neither is bad
abbrev pub IsSaidOf : (line : ℕ → Symbol) → (element width : ℕ) → (said : Symbol) → Type 0
IsSaidOf line element width said =
    (said ≡ line element) ⊎ ((symbol_of width ≡ Bad) × ¬ (said ≡ Bad) × ¬ (line element ≡ Bad))

-- ---- a device's calls, the newest first

-- what is known of a line behind them
abbrev pub line_witness : (within : ℕ) → TrueLines → (line : ℕ) → List Call → LineWitness
line_witness within x line [] = new_witness
line_witness within x line (Hear port rise width ∷ calls) =
    if line == port && is_pulse width
    then after_rise within (x.symbol line) x.edges (line_witness within x line calls) (x.near rise)
    rise width
    else line_witness within x line calls
line_witness within x line (Tick now ∷ calls) = line_witness within x line calls

-- the line is untrue at a tick that comes now
abbrev pub is_doubted : (within : ℕ) → TrueLines → List Call → (now line : ℕ) → Bool
is_doubted within x calls now line = nat_lt now (line_witness within x line calls).clear

-- at most f of the five are so at each tick
abbrev pub were_true : (within f : ℕ) → TrueLines → List Call → Bool
were_true within f x [] = true
were_true within f x (Hear port rise width ∷ calls) = were_true within f x calls
were_true within f x (Tick now ∷ calls) =
    nat_le (count_by (is_doubted within x calls now) (range_with_len 0 5)) f
    && were_true within f x calls

-- the calls were in order, and at each tick at most f lines were untrue
abbrev pub is_kept : ClockRules → TrueLines → (start : ℕ) → List Call → Bool
is_kept c x start calls =
    in_order start c.redundancy calls && were_true c.within.us (f_of c.redundancy) x calls

-- ---- what it decides

-- all but at most f of the five lines brought of late only pulses that they would have sent
pub record AreTrueBeside (within f : ℕ) (x : TrueLines) (now : ℕ) (calls : List Call) : Type 0 where
  pub untrue : ℕ → Bool
  pub few : count_by untrue (range_with_len 0 5) ≤ f
  pub true_lines : (line : ℕ) → line < 5 → untrue line ≡ false
      → (k : ℕ) × ArePulsesLately within (x.symbol line) x.edges now k (pulses_on line calls)

-- so at each tick
abbrev pub WereTrueBeside : (within f : ℕ) → TrueLines → List Call → Type 0
WereTrueBeside within f x [] = ⊤
WereTrueBeside within f x (Hear port rise width ∷ calls) = WereTrueBeside within f x calls
WereTrueBeside within f x (Tick now ∷ calls) =
    AreTrueBeside within f x now calls × WereTrueBeside within f x calls

-- the premises as they are meant
pub record KeepsPremises (c : ClockRules) (x : TrueLines) (start : ℕ) (calls : List Call)
    : Type 0 where
  pub order : AreInOrder start c.redundancy calls
  pub truth : WereTrueBeside c.within.us (f_of c.redundancy) x calls

-- ---- of what it asks

-- lines of the one kind of symbols and of the other are the same in each second that begins before
-- a time, and none has a bad pulse
pub record AreSameBefore (edges : ℕ → ℕ) (time : ℕ) (symbol other : (line element : ℕ) → Symbol)
    : Type 0 where
  pub same : (line k : ℕ) → edges (k / 100) < time → symbol line k ≡ other line k
  pub good : (line k : ℕ) → ¬ (symbol line k ≡ Bad)
  pub other_good : (line k : ℕ) → ¬ (other line k ≡ Bad)

-- each pulse of these calls has ended by then
abbrev pub HaveEnded : (time : ℕ) → List Call → Type 0
HaveEnded time [] = ⊤
HaveEnded time (Hear port rise width ∷ calls) = (rise + width ≤ time) × HaveEnded time calls
HaveEnded time (Tick now ∷ calls) = HaveEnded time calls
