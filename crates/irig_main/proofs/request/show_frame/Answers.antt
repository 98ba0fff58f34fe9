use Rattle.std.proofs.Common.{subst, inr, rules}
use Rattle.text_frame.specs.Frame.{NamesNoSecond}
use Rattle.irig_main.proofs.request.show_frame.Goals as goal

pub returns-in-Err-clause-shown : goal.returns-in-Err-clause-shown
returns-in-Err-clause-shown g c = inr (subst NamesNoSecond c.as_bytes.ensures.value c.in-Err.ensures.bad_time, search rules)
