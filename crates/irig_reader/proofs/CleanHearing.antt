-- An edge is clean by what the ports tell exactly if it is by what they heard.
use Rattle.std.proofs.Common.{◌≡◌, ◌↔◌, ℕ, ◌+◌, ◌<◌, ◌≤◌, true, Some, map, refl, ap, ◌∙◌, arith}
use Rattle.std.specs.List.{range_with_len}
use Rattle.irig_time.specs.declared.claim.Claim.{Claim}
use Rattle.irig_time.specs.Timelines.{TimelineValue}
use Rattle.irig_time.proofs.SecondAt.{claim_is}
use Rattle.irig_port.specs.declared.told.Told.{Told}
use Rattle.irig_port.specs.Heard.{symbols_of}
use Rattle.irig_port.specs.Limits.{widths_told_within}
use Rattle.irig_port.proofs.LimitLaws.{claim_within}
use Rattle.irig_port.proofs.CarriesLaws.{carries_is_told}
use Rattle.irig_vote.specs.declared.redundancy.Redundancy.{Redundancy}
use Rattle.irig_vote.specs.declared.redundancy.Redundancy.TheVariants.{One, Three, Five}
use Rattle.irig_vote.specs.declared.votes.Tells.{Tells}
use Rattle.irig_vote.specs.Vote.{f_of, ports_in, ports_of, is_told, carriers}
use Rattle.irig_vote.specs.Counts.{AtLeast}
use Rattle.irig_vote.proofs.CountLaws.{told_is, same_itself, vote_counts}
use Rattle.irig_vote.proofs.NumberedLaws.{count_from, at_least}
use Rattle.irig_reader.specs.History.{ReaderHistory, fed_to, told_at_tick, vote_at_tick}
use Rattle.irig_reader.specs.Clean.{IsClean, IsCarrier, HaveHeardCleanly}

-- what five ports tell, by their numbers
abbrev pub tells_from : (ℕ → Told) → Tells
tells_from tell = record { a = tell 0; b = tell 1; c = tell 2; d = tell 3; e = tell 4 }

pub ports_are : (tell : ℕ → Told) (redundancy : Redundancy) → ports_of (tells_from tell) redundancy ≡ map tell (range_with_len 0 (ports_in redundancy))
ports_are tell One = refl
ports_are tell Three = refl
ports_are tell Five = refl

module _ (h : ReaderHistory) (c : Claim) where
  abbrev tell : ℕ → Told
  tell p = widths_told_within h.limits h.rules (fed_to h.fed p)

  abbrev Carrier : ℕ → Type 0
  Carrier = IsCarrier h.limits h.rules h.redundancy (fed_to h.fed) c

  carrier_tells : (p : ℕ) → Carrier p → (p < ports_in h.redundancy) × (is_told c (tell p) ≡ true)
  carrier_tells p is =
      let s = symbols_of (fed_to h.fed p) in
      (is.is_port, ap (is_told c) ((claim_within h.limits h.rules s c).1 ((carries_is_told h.rules s c).1 is.carries, is.within)) ∙ same_itself c)

  is_carrier : (p : ℕ) → p < ports_in h.redundancy → is_told c (tell p) ≡ true → Carrier p
  is_carrier p low told =
      let s = symbols_of (fed_to h.fed p) in
      let here = (claim_within h.limits h.rules s c).0 (told_is c (tell p) told) in
      record { is_port = low; carries = (carries_is_told h.rules s c).0 here.0; within = here.1 }

  counted : carriers c (ports_of (told_at_tick h) h.redundancy) ≡ count_from (is_told c) tell 0 (ports_in h.redundancy)
  counted = ap (carriers c) (ports_are tell h.redundancy)

  pub enough_carry : (enough : ℕ) → (enough ≤ carriers c (ports_of (told_at_tick h) h.redundancy)) ↔ AtLeast enough Carrier
  enough_carry enough =
      let counts = at_least (is_told c) tell Carrier (ports_in h.redundancy) carrier_tells is_carrier enough in
      (λ many. counts.0 (omega (arith, many, counted)), λ many. omega (arith, counts.1 many, counted))

pub clean_hearing : (t : TimelineValue) (n : ℕ) (h : ReaderHistory) → IsClean t n (told_at_tick h) h.redundancy ↔ HaveHeardCleanly t n h.limits h.rules h.redundancy (fed_to h.fed)
clean_hearing t n h = (
  λ clean. record { no_other = λ c many. (claim_is t n c).0 (clean.no_other c ((enough_carry h c (f_of h.redundancy + 1)).1 many)) },
  λ heard. record { no_other = λ c many. (claim_is t n c).1 (heard.no_other c ((enough_carry h c (f_of h.redundancy + 1)).0 many)) },
)

pub votes_carried : (h : ReaderHistory) (c : Claim) → vote_at_tick h ≡ Some c → AtLeast (f_of h.redundancy + 1) (IsCarrier h.limits h.rules h.redundancy (fed_to h.fed) c)
votes_carried h c is = (enough_carry h c (f_of h.redundancy + 1)).0 ((vote_counts (told_at_tick h) h.redundancy c).0 is)
