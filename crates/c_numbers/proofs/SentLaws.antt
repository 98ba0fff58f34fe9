-- What the frames of ports that agree say beside the time, by the pulses that the ports heard.
use Rattle.std.proofs.Common.{◌≡◌, ◌<◌, ℕ, Bool, true, false, List, take, length, Option, Some, Ok, refl, sym, ap, subst, ◌∙◌, arith}
use Rattle.std.proofs.lemmas.List.{take_all}
use Rattle.irig_frame.specs.declared.coded.Coded.{Coded}
use Rattle.irig_frame.specs.declared.symbol.Symbol.{Symbol}
use Rattle.irig_frame.specs.Faults.{decode_result}
use Rattle.irig_frame.proofs.ReadingLaws.{decoded-reads}
use Rattle.irig_control.specs.Control.{control_of}
use Rattle.irig_time.specs.declared.claim.Claim.{Claim}
use Rattle.irig_time.specs.declared.rules.Rules.{Rules}
use Rattle.irig_time.specs.declared.rules.Sense.{Sense}
use Rattle.irig_port.specs.declared.limits.Limits.{Limits}
use Rattle.irig_port.specs.declared.tally.Tally.{Tally}
use Rattle.irig_port.specs.declared.told.Told.{Told}
use Rattle.irig_port.specs.declared.told.Told.TheVariants as tells
use Rattle.irig_port.specs.Heard.{symbols_of, symbols_heard}
use Rattle.irig_port.specs.Limits.{widths_told_within}
use Rattle.irig_port.specs.Tallies.{control_word_in, IsTallyOf}
use Rattle.irig_port.proofs.CarriesLaws.{carries_is_told}
use Rattle.irig_port.proofs.LimitLaws.{claim_within}
use Rattle.irig_port.proofs.NumberLaws.{word_is_read}
use Rattle.irig_reader.specs.History.{ReaderHistory, fed_to, told_at_tick, vote_at_tick}
use Rattle.c_numbers.specs.declared.standing.Standing.{Standing}
use Rattle.c_numbers.specs.declared.standing.Standing.TheVariants.{Silent, Agreed, Differed, Faulty, Poor}
use Rattle.c_numbers.specs.declared.zone.Sent.{Sent}
use Rattle.c_numbers.specs.Standings.{standing_of, standing_if, standings_of, sent_of, sent_if, sent_of_frame, sent_if_heard, sent_by, sent_by_heard}
use Rattle.c_numbers.specs.Tallies.{tally_at}

-- only a port that tells a claim agrees
agreed_claims : (vote : Option Claim) (told : Told) → standing_of vote told ≡ Agreed → (c : Claim) × (told ≡ tells.Claim c)
agreed_claims vote tells.Silence e = absurd cc
agreed_claims vote (tells.Fault f) e = absurd cc
agreed_claims vote (tells.Poor q) e = absurd cc
agreed_claims vote (tells.Claim c) e = (c, refl)

agreed_if : (there : Bool) (vote : Option Claim) (told : Told) → standing_if there vote told ≡ Agreed → (c : Claim) × (told ≡ tells.Claim c)
agreed_if true vote told e = agreed_claims vote told e
agreed_if false vote told e = absurd cc

-- a port that tells a claim holds the control bits of the frame that it heard
word_of_claim : (limits : Option Limits) (rules : Rules) (t : Tally) (widths : List ℕ) (c : Claim) → IsTallyOf t (symbols_heard widths) → widths_told_within limits rules widths ≡ tells.Claim c
    → (coded : Coded) × (decode_result (symbols_of widths) ≡ Ok coded) × (control_word_in t ≡ coded.control)
word_of_claim limits rules t widths c tally told =
    let carries = (carries_is_told rules (symbols_of widths) c).0 ((claim_within limits rules (symbols_of widths) c).0 told).0 in
    let all : symbols_heard widths ≡ symbols_of widths = whole (symbols_of widths) carries.reads.len in
    let of : IsTallyOf t (symbols_of widths) = subst (IsTallyOf t) all tally in
    (carries.coded, (decoded-reads (symbols_of widths) carries.coded).1 carries.reads, word_is_read t (symbols_of widths) carries.coded of carries.reads)
  where
    whole : (s : List Symbol) → length s ≡ 100 → take 101 s ≡ s
    whole s len = take_all 101 s (omega (arith, len))

same_sent : (there : Bool) (vote : Option Claim) (limits : Option Limits) (rules : Rules) (sense : Sense) (t : Tally) (widths : List ℕ) → IsTallyOf t (symbols_heard widths)
    → let x : Standing = standing_if there vote (widths_told_within limits rules widths) in sent_if x sense t ≡ sent_if_heard x sense widths
same_sent there vote limits rules sense t widths tally = of (standing_if there vote (widths_told_within limits rules widths)) refl
  where
    of : (x : Standing) → standing_if there vote (widths_told_within limits rules widths) ≡ x → sent_if x sense t ≡ sent_if_heard x sense widths
    of Silent is = refl
    of Differed is = refl
    of Faulty is = refl
    of Poor is = refl
    of Agreed is =
        let claim = agreed_if there vote (widths_told_within limits rules widths) is in
        let heard = word_of_claim limits rules t widths claim.0 tally claim.1 in
        ap (λ (word : ℕ). let o : Option Sent = Some (sent_of sense (control_of word)) in o) heard.2 ∙ sym (ap (sent_of_frame sense) heard.1)

pub sent_heard : (h : ReaderHistory) (ports : List Tally) → ((port : ℕ) → port < 5 → IsTallyOf (tally_at ports port) (symbols_heard (fed_to h.fed port)))
    → sent_by (standings_of (told_at_tick h) h.redundancy) h.rules.sense ports ≡ sent_by_heard (standings_of (told_at_tick h) h.redundancy) h.rules.sense h.fed
sent_heard h ports heard =
    let sent : (there : Bool) (t : Tally) (widths : List ℕ) → IsTallyOf t (symbols_heard widths)
    → let x : Standing = standing_if there (vote_at_tick h) (widths_told_within h.limits h.rules widths) in sent_if x h.rules.sense t ≡ sent_if_heard x h.rules.sense widths =
    λ there t widths tally. same_sent there (vote_at_tick h) h.limits h.rules h.rules.sense t widths tally in
    rw (
      sent _ (tally_at ports 0) h.fed.a (heard 0 (omega arith)),
      sent _ (tally_at ports 1) h.fed.b (heard 1 (omega arith)),
      sent _ (tally_at ports 2) h.fed.c (heard 2 (omega arith)),
      sent _ (tally_at ports 3) h.fed.d (heard 3 (omega arith)),
      sent _ (tally_at ports 4) h.fed.e (heard 4 (omega arith)),
    ) refl
