use Rattle.std.proofs.Common.{◌++◌, sym, subst}
use Rattle.record_comtrade.specs.declared.reader.DataFault.{DataFault}
use Rattle.record_comtrade.specs.Data.{FaultSays}
use Rattle.record_samples.specs.Readers.{rows_to_come}
use Rattle.record_samples.proofs.ReadLaws.{opens_rows, refuses_long}
use Rattle.record_samples.proofs.rows.Rows.open.Goals as goal

pub returns-then-not-fits-clause-refuses : goal.returns-then-not-fits-clause-refuses
returns-then-not-fits-clause-refuses c = λ more.
    let P : DataFault → Type 0 = λ fault. FaultSays fault (rows_to_come c.args.self.now (c.args.bytes.now ++ more)) in
    subst P (sym c.refuse.ensures)
    (refuses_long c.args.self.now c.args.bytes.now more c.requires.goes c.requires.within c.requires.some (c.in_ok-fits.ensures.long c.if-not-fits.true))

pub returns-clause-says : goal.returns-clause-says
returns-clause-says c = λ more.
    opens_rows c.args.self.now c.args.bytes.now c.extend.new.line.items more c.requires.within c.requires.some (c.in_ok-fits.ensures.items c.if-not-fits.false)
