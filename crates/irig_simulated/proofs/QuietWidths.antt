-- The pulses of a quiet second: the symbols that they show, and that they have ended.
use Rattle.std.proofs.Common.{◌≡◌, ◌∙◌, ℕ, zero, suc, ◌+◌, ◌<◌, ◌≤◌, ◌==◌, List, [], ◌∷◌, ◌++◌, length, map, take, All, inl, inr, refl, sym, ap₂, subst, take-suc, arith}
use Rattle.std.proofs.lemmas.Bool.{cases_Bool, eq-eqb}
use Rattle.std.proofs.lemmas.List.Elements.{All-cons, All-nil, All-head, All-tail}
use Rattle.irig_frame.specs.declared.symbol.Symbol.{Symbol}
use Rattle.irig_frame.specs.declared.symbol.Symbol.TheVariants.{Bad, Marker, One, Zero}
use Rattle.irig_frame.specs.Symbols.{symbol_of, width_of}
use Rattle.irig_sync.specs.Lines.{Pulse, pulse_at}
use Rattle.irig_port.specs.Heard.{symbols_of}
use Rattle.irig_timekeeper.specs.Life.{Call, pulses_on}
use Rattle.irig_timekeeper.specs.Life.Call.{Hear, Tick}
use Rattle.irig_timekeeper.specs.Unfinished.{AreHears, most, pulses_by, symbols_by}
use Rattle.irig_timekeeper.proofs.LifeLaws.{others_pulses, own_pulses}
use Rattle.irig_witness.specs.Witness.{HaveEnded}
use Rattle.irig_simulated.specs.Kinds.{Kind}
use Rattle.irig_simulated.specs.Quiet.{wide_by}
use Rattle.irig_simulated.specs.Seconds.{symbol_at}

-- ---- symbols

width_shows : (symbol : Symbol) → symbol_of (width_of symbol) ≡ symbol
width_shows Zero = refl
width_shows One = refl
width_shows Marker = refl
width_shows Bad = refl

widths_back : (frame : List Symbol) → symbols_of (map width_of frame) ≡ frame
widths_back [] = refl
widths_back (symbol ∷ frame) = ap₂ (λ (x : Symbol) (xs : List Symbol). x ∷ xs) (width_shows symbol) (widths_back frame)

front_shows : (frame : List Symbol) (width : ℕ → ℕ) (n : ℕ) → n ≤ length frame → ((j : ℕ) → j < n → symbol_of (width j) ≡ symbol_at frame j) → take n frame ≡ symbols_by width n
front_shows frame width zero inside shows = refl
front_shows frame width (suc n) inside shows =
    take-suc frame n Zero (omega (arith, inside))
    ∙ ap₂ (λ (xs : List Symbol) (x : Symbol). xs ++ x ∷ []) (front_shows frame width n (omega (arith, inside)) (λ j less. shows j (omega (arith, less)))) (sym (shows n (omega arith)))

-- the nominal widths of a frame but its last are those of the symbols that a device hears
pub widths_show : (k : Kind) (n late : ℕ) (frame : List Symbol) (symbols : ℕ → Symbol) → length frame ≡ 100 → ((j : ℕ) → j < 100 → symbol_at frame j ≡ symbols j) → ((j : ℕ) → j < 100 → symbol_of (wide_by k n late symbols j) ≡ symbols j)
    → symbols_of (map width_of (take most frame)) ≡ symbols_by (wide_by k n late symbols) most
widths_show k n late frame symbols all same shows =
    widths_back (take most frame)
    ∙ front_shows frame (wide_by k n late symbols) most (omega (arith, all)) (λ j less. shows j (omega (arith, less)) ∙ sym (same j (omega (arith, less))))

-- ---- ends

-- a pulse has ended by then
abbrev has_ended : (time : ℕ) → Pulse → Type 0
has_ended time p = p.rise + p.width ≤ time

-- calls of hearing tell what has ended, if each line's pulses have
pub ended_by_line : (time : ℕ) (calls before : List Call) → AreHears 5 calls → HaveEnded time before → ((line : ℕ) → line < 5 → All (λ p. p.rise + p.width ≤ time) (pulses_on line calls)) → HaveEnded time (calls ++ before)
ended_by_line time [] before hears ended all = ended
ended_by_line time (Hear port rise width ∷ calls) before hears ended all = (
  All-head (has_ended time) (pulse_at rise width) (pulses_on port calls) (subst (All (has_ended time)) (own_pulses port port rise width calls hears.1 (eq-eqb port port refl)) (all port hears.0)),
  ended_by_line time calls before hears.2 ended rest,
)
  where
    rest : (line : ℕ) → line < 5 → All (λ p. p.rise + p.width ≤ time) (pulses_on line calls)
    rest line small = elim (cases_Bool (line == port)) [
      | inl same ↦ All-tail (has_ended time) (pulse_at rise width) (pulses_on line calls) (subst (All (has_ended time)) (own_pulses line port rise width calls hears.1 same) (all line small))
      | inr other ↦ subst (All (has_ended time)) (others_pulses line port rise width calls other) (all line small)
    ]
ended_by_line time (Tick now ∷ calls) before hears ended all = absurd hears

-- so have so many pulses, if each has
pub all_ended : (time : ℕ) (rise width : ℕ → ℕ) (n : ℕ) → ((i : ℕ) → i < n → rise i + width i ≤ time) → All (λ p. p.rise + p.width ≤ time) (pulses_by rise width n)
all_ended time rise width zero ended = All-nil (has_ended time)
all_ended time rise width (suc n) ended =
    All-cons (has_ended time) (pulse_at (rise n) (width n)) (pulses_by rise width n) (ended n (omega arith)) (all_ended time rise width n (λ i less. ended i (omega (arith, less))))
