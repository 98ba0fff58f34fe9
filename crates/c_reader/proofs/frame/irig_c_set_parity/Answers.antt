use Rattle.std.proofs.Common.{◌≡◌, ◌∙◌, arith, map, slice_set}
use Rattle.irig_frame.specs.declared.symbol.Symbol.TheVariants.{Zero}
use Rattle.irig_control.specs.Parity.{data_symbol}
use Rattle.c_numbers.specs.Numbers.{symbol_in}
use Rattle.c_numbers.proofs.SymbolsBack.{set_back}
use Rattle.c_reader.proofs.frame.irig_c_set_parity.Goals as goal

pub returns-clause-parity : goal.returns-clause-parity
returns-clause-parity c done =
    let set = c.set_parity.ensures.others in
    let frame : c.set_parity.new.frame ≡ slice_set (map symbol_in c.args.symbols.now) 75 (data_symbol set.0) = rw (← c.symbols_of-frame.ensures) set.1 in
    let back = set_back c.args.symbols.now c.set_parity.new.frame (data_symbol set.0) Zero c.symbol_number.result 75 (omega (arith, c.set_parity.array_long)) frame c.symbol_number.ensures in
    rw (back, ← c.parity_of.ensures) c.set_parity.ensures.parity

pub returns-clause-others : goal.returns-clause-others
returns-clause-others c done =
    let set = c.set_parity.ensures.others in
    let frame : c.set_parity.new.frame ≡ slice_set (map symbol_in c.args.symbols.now) 75 (data_symbol set.0) = rw (← c.symbols_of-frame.ensures) set.1 in
    let back = set_back c.args.symbols.now c.set_parity.new.frame (data_symbol set.0) Zero c.symbol_number.result 75 (omega (arith, c.set_parity.array_long)) frame c.symbol_number.ensures in
    (set.0, back ∙ frame)
