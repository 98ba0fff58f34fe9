use Rattle.std.specs.Prelude.{◌&&◌, nat_lt}
use Rattle.std.proofs.Common.{◌≡◌, ◌∙◌, ℕ, ◌+◌, Bool, true, false, refl, sym}
use Rattle.irig_frame.specs.declared.symbol.Symbol.{Symbol}
use Rattle.irig_frame.specs.Symbols.{symbol_of}
use Rattle.irig_sync.specs.Edges.{element_at}
use Rattle.irig_sync.specs.Lines.{pulse_at}
use Rattle.irig_lives.specs.Decided.{is_pulse_of, is_same}
use Rattle.irig_witness.specs.Witness.{IsSaidOf}
use Rattle.irig_witness.proofs.SaidLaws.{said_same}
use Rattle.irig_witness.proofs.line.hear_rise.Goals as goal

-- the test is that of the line's pulses
test_is : (within : ℕ) (symbols : ℕ → Symbol) (edges : ℕ → ℕ) (element begins rise width : ℕ) (symbol : Symbol) (b : Bool) → begins ≡ element_at edges element → IsSaidOf symbols element width symbol
    → b ≡ (nat_lt begins (rise + within) && (nat_lt rise (begins + within) && is_same (symbol_of width) symbol)) → is_pulse_of within symbols edges element (pulse_at rise width) ≡ b
unfolding is_pulse_of
test_is within symbols edges element begins rise width symbol b at is e = (let same = said_same symbols element width symbol is in sym (e ∙ rw (at, same) refl))

pub returns-then-is_true : goal.returns-then-is_true
returns-then-is_true c symbols edges at is =
    let p = c.args.pulse in
    let e : is_pulse_of c.args.within_us symbols edges p.element (pulse_at p.rise p.width_us) ≡ true =
    test_is c.args.within_us symbols edges p.element p.begins p.rise p.width_us p.symbol true at is (sym c.if-is_true.true ∙ c.is_true.ensures) in
    rw e c.hear_true.ensures

pub returns-else-is_true : goal.returns-else-is_true
returns-else-is_true c symbols edges at is =
    let p = c.args.pulse in
    let e : is_pulse_of c.args.within_us symbols edges p.element (pulse_at p.rise p.width_us) ≡ false =
    test_is c.args.within_us symbols edges p.element p.begins p.rise p.width_us p.symbol false at is (sym c.if-is_true.false ∙ c.is_true.ensures) in
    rw e c.hear_false.ensures
