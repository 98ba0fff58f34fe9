-- Without a vote no port agrees with it.
use Rattle.std.specs.Prelude.{nat_lt}
use Rattle.std.proofs.Common.{◌≡◌, Bool, true, false, List, None, refl}
use Rattle.irig_port.specs.declared.tally.Tally.{Tally}
use Rattle.irig_port.specs.declared.told.Told.{Told}
use Rattle.irig_port.specs.declared.told.Told.TheVariants as tells
use Rattle.irig_time.specs.declared.rules.Sense.{Sense}
use Rattle.irig_vote.specs.declared.redundancy.Redundancy.{Redundancy}
use Rattle.irig_vote.specs.declared.votes.Tells.{Tells}
use Rattle.irig_vote.specs.Vote.{ports_in}
use Rattle.c_numbers.specs.declared.standing.Standing.TheVariants.{Agreed}
use Rattle.c_numbers.specs.Standings.{bit_of, standing_if}
use Rattle.c_numbers.specs.Voices.{voices_to}

none_at : (there : Bool) (told : Told) → bit_of Agreed (standing_if there None told) ≡ 0
none_at false told = refl
none_at true tells.Silence = refl
none_at true (tells.Fault f) = refl
none_at true (tells.Poor q) = refl
none_at true (tells.Claim c) = refl

pub none_agrees : (told : Tells) (r : Redundancy) (sense : Sense) (ports : List Tally) → (voices_to None told r sense ports).agreed ≡ 0
none_agrees told r sense ports =
    rw (none_at (nat_lt 0 (ports_in r)) told.a, none_at (nat_lt 1 (ports_in r)) told.b, none_at (nat_lt 2 (ports_in r)) told.c, none_at (nat_lt 3 (ports_in r)) told.d, none_at (nat_lt 4 (ports_in r)) told.e) refl
