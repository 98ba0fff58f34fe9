use Rattle.c_reader.proofs.second.irig_c_second_read.Goals as goal

pub returns-in-Some-clause-read : goal.returns-in-Some-clause-read
returns-in-Some-clause-read c ok = (c.read_text.ensures.exact c.in-Some.utc).0 c.in-Some.is

pub returns-in-None-clause-none : goal.returns-in-None-clause-none
returns-in-None-clause-none c refused u valid text =
    let some = (c.read_text.ensures.exact u).1 (valid, text) in
    let none = c.in-None.is in
    absurd cc
