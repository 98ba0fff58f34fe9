use Rattle.std.proofs.Common.{◌≡◌, ℕ, List, [], ◌++◌, refl, ◌∙◌, arith}
use Rattle.irig_time.specs.declared.rules.Rules.{Rules}
use Rattle.irig_port.specs.declared.port.Port.{Ghosts}
use Rattle.irig_port.specs.Heard.{symbols_heard}
use Rattle.irig_reader.proofs.FedLaws.{at_most_five, heard_anew, none_heard}
use Rattle.irig_reader.proofs.reader.Reader.take_over.Goals as goal

-- a port that was empty stands for what it was fed
taken : {P : Type 0} (g : Ghosts P) (rules : Rules) (port : P) (fed widths : List ℕ) → symbols_heard fed ≡ [] → g.stands_for port rules (symbols_heard widths)
    → g.stands_for port rules (symbols_heard (fed ++ widths))
taken g rules port fed widths empty heard = rw (heard_anew fed widths empty) heard

pub returns-in-0 : goal.returns-in-0
returns-in-0 g c =
    let took = c.take_if_empty.ensures in
    let at : c.args.port ≡ 0 = omega arith in
    record {
      answer = λ h s. rw at (took.answer _ _ s.a ∙ none_heard h.fed.a);
      fed = λ empty rules widths heard h s.
          let port = taken g.P.Port _ _ h.fed.a widths (took.empty empty _ _ s.a) (took.taken empty _ _ _ _ s.a heard) in
          rw at (record { a = port; b = s.b; c = s.c; d = s.d; e = s.e; reader_rules = s.reader_rules; table = s.table; redundancy = s.redundancy; limits = s.limits; state = s.state });
      unchanged = λ full h s. record { a = rw (took.unchanged full) s.a; b = s.b; c = s.c; d = s.d; e = s.e; reader_rules = s.reader_rules; table = s.table; redundancy = s.redundancy; limits = s.limits; state = s.state };
      kept = took.kept;
      ports = refl;
    }

pub returns-in-1 : goal.returns-in-1
returns-in-1 g c =
    let took = c.take_if_empty-in-1.ensures in
    let at : c.args.port ≡ 1 = omega arith in
    record {
      answer = λ h s. rw at (took.answer _ _ s.b ∙ none_heard h.fed.b);
      fed = λ empty rules widths heard h s.
          let port = taken g.P.Port _ _ h.fed.b widths (took.empty empty _ _ s.b) (took.taken empty _ _ _ _ s.b heard) in
          rw at (record { a = s.a; b = port; c = s.c; d = s.d; e = s.e; reader_rules = s.reader_rules; table = s.table; redundancy = s.redundancy; limits = s.limits; state = s.state });
      unchanged = λ full h s. record { a = s.a; b = rw (took.unchanged full) s.b; c = s.c; d = s.d; e = s.e; reader_rules = s.reader_rules; table = s.table; redundancy = s.redundancy; limits = s.limits; state = s.state };
      kept = took.kept;
      ports = refl;
    }

pub returns-in-2 : goal.returns-in-2
returns-in-2 g c =
    let took = c.take_if_empty-in-2.ensures in
    let at : c.args.port ≡ 2 = omega arith in
    record {
      answer = λ h s. rw at (took.answer _ _ s.c ∙ none_heard h.fed.c);
      fed = λ empty rules widths heard h s.
          let port = taken g.P.Port _ _ h.fed.c widths (took.empty empty _ _ s.c) (took.taken empty _ _ _ _ s.c heard) in
          rw at (record { a = s.a; b = s.b; c = port; d = s.d; e = s.e; reader_rules = s.reader_rules; table = s.table; redundancy = s.redundancy; limits = s.limits; state = s.state });
      unchanged = λ full h s. record { a = s.a; b = s.b; c = rw (took.unchanged full) s.c; d = s.d; e = s.e; reader_rules = s.reader_rules; table = s.table; redundancy = s.redundancy; limits = s.limits; state = s.state };
      kept = took.kept;
      ports = refl;
    }

pub returns-in-3 : goal.returns-in-3
returns-in-3 g c =
    let took = c.take_if_empty-in-3.ensures in
    let at : c.args.port ≡ 3 = omega arith in
    record {
      answer = λ h s. rw at (took.answer _ _ s.d ∙ none_heard h.fed.d);
      fed = λ empty rules widths heard h s.
          let port = taken g.P.Port _ _ h.fed.d widths (took.empty empty _ _ s.d) (took.taken empty _ _ _ _ s.d heard) in
          rw at (record { a = s.a; b = s.b; c = s.c; d = port; e = s.e; reader_rules = s.reader_rules; table = s.table; redundancy = s.redundancy; limits = s.limits; state = s.state });
      unchanged = λ full h s. record { a = s.a; b = s.b; c = s.c; d = rw (took.unchanged full) s.d; e = s.e; reader_rules = s.reader_rules; table = s.table; redundancy = s.redundancy; limits = s.limits; state = s.state };
      kept = took.kept;
      ports = refl;
    }

pub returns-in_default : goal.returns-in_default
returns-in_default g c =
    let took = c.take_if_empty-in_default.ensures in
    let at : c.args.port ≡ 4 = omega (arith, c.requires, at_most_five c.args.self.now.redundancy) in
    record {
      answer = λ h s. rw at (took.answer _ _ s.e ∙ none_heard h.fed.e);
      fed = λ empty rules widths heard h s.
          let port = taken g.P.Port _ _ h.fed.e widths (took.empty empty _ _ s.e) (took.taken empty _ _ _ _ s.e heard) in
          rw at (record { a = s.a; b = s.b; c = s.c; d = s.d; e = port; reader_rules = s.reader_rules; table = s.table; redundancy = s.redundancy; limits = s.limits; state = s.state });
      unchanged = λ full h s. record { a = s.a; b = s.b; c = s.c; d = s.d; e = rw (took.unchanged full) s.e; reader_rules = s.reader_rules; table = s.table; redundancy = s.redundancy; limits = s.limits; state = s.state };
      kept = took.kept;
      ports = refl;
    }
