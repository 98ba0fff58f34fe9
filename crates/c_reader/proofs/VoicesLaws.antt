-- What the ports of a reader say beside the vote, by the pulses that were fed to them.
use Rattle.std.proofs.Common.{◌≡◌, ap, ◌∙◌}
use Rattle.irig_time.specs.declared.rules.Rules.{Rules}
use Rattle.irig_vote.specs.declared.redundancy.Redundancy.{Redundancy}
use Rattle.irig_vote.specs.declared.votes.Tells.{Tells}
use Rattle.irig_reader.specs.History.{ReaderHistory, told_at_tick, vote_at_tick}
use Rattle.c_numbers.specs.declared.reader.IrigReader.{IrigReader}
use Rattle.c_numbers.specs.Numbers.{sense_in}
use Rattle.c_numbers.specs.Setups.{redundancy_in}
use Rattle.c_numbers.specs.Voices.{voices_by, voices_of, voices_at_tick}
use Rattle.c_numbers.proofs.SentLaws.{sent_heard}
use Rattle.c_reader.specs.Readers.{IsReaderOf, tells_in}
use Rattle.c_reader.proofs.TellsLaws.{tells_are}

pub voices_heard : (r : IrigReader) (h : ReaderHistory) → IsReaderOf r h → voices_of (tells_in r) (redundancy_in r.setup) (sense_in r.setup.sense) r.ports ≡ voices_at_tick h
voices_heard r h s =
    ap (λ (t : Tells). voices_of t (redundancy_in r.setup) (sense_in r.setup.sense) r.ports) (tells_are r h s)
    ∙ (ap (λ (x : Redundancy). voices_of (told_at_tick h) x (sense_in r.setup.sense) r.ports) s.redundancy
    ∙ (ap (λ (x : Rules). voices_of (told_at_tick h) h.redundancy x.sense r.ports) s.rules
    ∙ ap (voices_by (vote_at_tick h) (told_at_tick h) h.redundancy) (sent_heard h r.ports s.heard)))
