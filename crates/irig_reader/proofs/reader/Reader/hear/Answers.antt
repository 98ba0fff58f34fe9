use Rattle.std.proofs.Common.{◌≡◌, arith}
use Rattle.irig_reader.proofs.FedLaws.{at_most_five, heard-place, heard-hearing}
use Rattle.irig_reader.proofs.reader.Reader.hear.Goals as goal

pub returns-in-0-clause-fed : goal.returns-in-0-clause-fed
returns-in-0-clause-fed g c h s =
    let at : c.args.port ≡ 0 = omega arith in
    rw at (record { a = rw (heard-place c.hear.result h.fed.a c.args.width_us) (c.hear.ensures.heard h.rules _ s.a); b = s.b; c = s.c; d = s.d; e = s.e; reader_rules = s.reader_rules; table = s.table; redundancy = s.redundancy; limits = s.limits; state = s.state })

pub returns-in-1-clause-fed : goal.returns-in-1-clause-fed
returns-in-1-clause-fed g c h s =
    let at : c.args.port ≡ 1 = omega arith in
    rw at (record { a = s.a; b = rw (heard-place c.hear-in-1.result h.fed.b c.args.width_us) (c.hear-in-1.ensures.heard h.rules _ s.b); c = s.c; d = s.d; e = s.e; reader_rules = s.reader_rules; table = s.table; redundancy = s.redundancy; limits = s.limits; state = s.state })

pub returns-in-2-clause-fed : goal.returns-in-2-clause-fed
returns-in-2-clause-fed g c h s =
    let at : c.args.port ≡ 2 = omega arith in
    rw at (record { a = s.a; b = s.b; c = rw (heard-place c.hear-in-2.result h.fed.c c.args.width_us) (c.hear-in-2.ensures.heard h.rules _ s.c); d = s.d; e = s.e; reader_rules = s.reader_rules; table = s.table; redundancy = s.redundancy; limits = s.limits; state = s.state })

pub returns-in-3-clause-fed : goal.returns-in-3-clause-fed
returns-in-3-clause-fed g c h s =
    let at : c.args.port ≡ 3 = omega arith in
    rw at (record { a = s.a; b = s.b; c = s.c; d = rw (heard-place c.hear-in-3.result h.fed.d c.args.width_us) (c.hear-in-3.ensures.heard h.rules _ s.d); e = s.e; reader_rules = s.reader_rules; table = s.table; redundancy = s.redundancy; limits = s.limits; state = s.state })

pub returns-in_default-clause-fed : goal.returns-in_default-clause-fed
returns-in_default-clause-fed g c h s =
    let at : c.args.port ≡ 4 = omega (arith, c.requires, at_most_five c.args.self.now.redundancy) in
    rw at (record { a = s.a; b = s.b; c = s.c; d = s.d; e = rw (heard-place c.hear-in_default.result h.fed.e c.args.width_us) (c.hear-in_default.ensures.heard h.rules _ s.e); reader_rules = s.reader_rules; table = s.table; redundancy = s.redundancy; limits = s.limits; state = s.state })

pub returns-in-0-clause-stands : goal.returns-in-0-clause-stands
returns-in-0-clause-stands g c h = heard-hearing h c.args.port c.hear.result c.args.width_us

pub returns-in-1-clause-stands : goal.returns-in-1-clause-stands
returns-in-1-clause-stands g c h = heard-hearing h c.args.port c.hear-in-1.result c.args.width_us

pub returns-in-2-clause-stands : goal.returns-in-2-clause-stands
returns-in-2-clause-stands g c h = heard-hearing h c.args.port c.hear-in-2.result c.args.width_us

pub returns-in-3-clause-stands : goal.returns-in-3-clause-stands
returns-in-3-clause-stands g c h = heard-hearing h c.args.port c.hear-in-3.result c.args.width_us

pub returns-in_default-clause-stands : goal.returns-in_default-clause-stands
returns-in_default-clause-stands g c h = heard-hearing h c.args.port c.hear-in_default.result c.args.width_us
