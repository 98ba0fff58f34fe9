-- What ports told at an edge, beside the vote.
use Rattle.std.specs.Prelude.{ℕ, List, Option, Some, None}
use Rattle.irig_time.specs.declared.claim.Claim.{Claim}
use Rattle.irig_time.specs.declared.rules.Sense.{Sense}
use Rattle.irig_port.specs.declared.tally.Tally.{Tally}
use Rattle.irig_vote.specs.declared.redundancy.Redundancy.{Redundancy}
use Rattle.irig_vote.specs.declared.votes.Tells.{Tells}
use Rattle.irig_vote.specs.Vote.{f_of, vote_of}
use Rattle.irig_reader.specs.History.{ReaderHistory, told_at_tick, vote_at_tick}
use Rattle.c_numbers.specs.declared.standing.Standing.TheVariants.{Agreed, Differed, Faulty, Poor}
use Rattle.c_numbers.specs.declared.voices.Voices.{Voices}
use Rattle.c_numbers.specs.declared.zone.Sent.{Sent}
use Rattle.c_numbers.specs.Standings.{first_zone, mask_of, sent_by, sent_by_heard, standings_of, standings_to, worst_of}

-- the worst quality of frames that agree with a vote, 15 without one
abbrev pub quality_of : Option Claim → List (Option Sent) → ℕ
quality_of None sent = 15
quality_of (Some c) sent = worst_of sent

-- what ports tell beside a vote, by what the frames of those that agree say beside the time
abbrev pub voices_by : Option Claim → Tells → Redundancy → List (Option Sent) → Voices
voices_by vote t r sent =
    let x = standings_to vote t r in
    record {
      agreed = mask_of Agreed x;
      differed = mask_of Differed x;
      faulty = mask_of Faulty x;
      poor = mask_of Poor x;
      quality = quality_of vote sent;
      zone = first_zone (f_of r) sent sent;
    }

-- the same by what the ports heard
abbrev pub voices_to : Option Claim → Tells → Redundancy → Sense → List Tally → Voices
voices_to vote t r sense ports =
    voices_by vote t r (sent_by (standings_to vote t r) sense ports)

-- beside the vote of all that are there
abbrev pub voices_of : Tells → Redundancy → Sense → List Tally → Voices
voices_of t r sense ports = voices_to (vote_of t r) t r sense ports

-- at a tick of a reader, by the pulses that it was fed
abbrev pub voices_at_tick : ReaderHistory → Voices
voices_at_tick h =
    voices_by (vote_at_tick h) (told_at_tick h) h.redundancy
    (sent_by_heard (standings_of (told_at_tick h) h.redundancy) h.rules.sense h.fed)
