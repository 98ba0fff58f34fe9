use Rattle.std.proofs.Common.{◌≡◌, None, refl}
use Rattle.record_lines.proofs.PassLaws.{none_of, passes_on}
use Rattle.record_lines.proofs.receiver.Receiver.pass_to.Goals as goal

pub returns-then-is_none-clause-ticks : goal.returns-then-is_none-clause-ticks
returns-then-is_none-clause-ticks g c =
    let told = c.tick_until-told in
    let none : told.result ≡ None = none_of told.result c.if-is_none.ensures in
    passes_on c.args.self.now told.new.self _ told.result c.if-is_none.ensures told.ensures.ticks (told.ensures.none none).0 refl refl refl refl refl
