use Rattle.std.proofs.Common.{◌≡◌, arith}
use Rattle.irig_port.proofs.HeardLaws.{heard-push}
use Rattle.irig_reader.proofs.FedLaws.{at_most_five}
use Rattle.irig_reader.proofs.reader.Reader.pulse.Goals as goal

pub returns-in-0-clause-fed : goal.returns-in-0-clause-fed
returns-in-0-clause-fed g c h s =
    let at : c.args.port ≡ 0 = omega arith in
    rw at (record { a = rw (heard-push h.fed.a c.args.width_us) (c.pulse.ensures h.rules _ s.a); b = s.b; c = s.c; d = s.d; e = s.e; reader_rules = s.reader_rules; table = s.table; redundancy = s.redundancy; limits = s.limits; state = s.state })

pub returns-in-1-clause-fed : goal.returns-in-1-clause-fed
returns-in-1-clause-fed g c h s =
    let at : c.args.port ≡ 1 = omega arith in
    rw at (record { a = s.a; b = rw (heard-push h.fed.b c.args.width_us) (c.pulse-in-1.ensures h.rules _ s.b); c = s.c; d = s.d; e = s.e; reader_rules = s.reader_rules; table = s.table; redundancy = s.redundancy; limits = s.limits; state = s.state })

pub returns-in-2-clause-fed : goal.returns-in-2-clause-fed
returns-in-2-clause-fed g c h s =
    let at : c.args.port ≡ 2 = omega arith in
    rw at (record { a = s.a; b = s.b; c = rw (heard-push h.fed.c c.args.width_us) (c.pulse-in-2.ensures h.rules _ s.c); d = s.d; e = s.e; reader_rules = s.reader_rules; table = s.table; redundancy = s.redundancy; limits = s.limits; state = s.state })

pub returns-in-3-clause-fed : goal.returns-in-3-clause-fed
returns-in-3-clause-fed g c h s =
    let at : c.args.port ≡ 3 = omega arith in
    rw at (record { a = s.a; b = s.b; c = s.c; d = rw (heard-push h.fed.d c.args.width_us) (c.pulse-in-3.ensures h.rules _ s.d); e = s.e; reader_rules = s.reader_rules; table = s.table; redundancy = s.redundancy; limits = s.limits; state = s.state })

pub returns-in_default-clause-fed : goal.returns-in_default-clause-fed
returns-in_default-clause-fed g c h s =
    let at : c.args.port ≡ 4 = omega (arith, c.requires, at_most_five c.args.self.now.redundancy) in
    rw at (record { a = s.a; b = s.b; c = s.c; d = s.d; e = rw (heard-push h.fed.e c.args.width_us) (c.pulse-in_default.ensures h.rules _ s.e); reader_rules = s.reader_rules; table = s.table; redundancy = s.redundancy; limits = s.limits; state = s.state })
