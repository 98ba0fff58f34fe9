-- A reader's report depends on how it is made and what it heard.
use Rattle.std.specs.Prelude.{◌==◌}
use Rattle.std.proofs.Common.{◌≡◌, ℕ, List, [], ◌∷◌, length, Option, Some, None, inl, inr, refl, sym, ap, ◌∙◌}
use Rattle.std.proofs.lemmas.Bool.{cases_Bool}
use Rattle.irig_time.specs.declared.rules.Rules.{Rules}
use Rattle.irig_time.specs.declared.claim.Claim.{Claim}
use Rattle.irig_vote.specs.declared.redundancy.Redundancy.{Redundancy}
use Rattle.irig_vote.specs.Vote.{redundancy_of}
use Rattle.irig_reader.specs.History.{Fed, ReaderHistory, vote_at_tick, report_at_tick}
use Rattle.irig_plant.specs.declared.event.Event.{Event}
use Rattle.irig_plant.specs.declared.event.Event.TheVariants.{Tick, Restart}
use Rattle.irig_plant.specs.declared.setup.ReaderSetup.{ReaderSetup}
use Rattle.irig_plant.specs.Schedule.{Setup, setup_at, fed_at, votes_of, history_of, entry_of}
use Rattle.irig_plant.specs.Hearing.{hearing_of, HearAlike}

abbrev history_by : Rules → ReaderSetup → Redundancy → Fed → List (Option Claim) → ReaderHistory
history_by rules reader_rules redundancy fed votes =
    record { rules = rules; reader_rules = reader_rules.rules; table = reader_rules.table; redundancy = redundancy; limits = None; fed = fed; votes = votes }

-- the votes that a hearing gives
abbrev votes_by : Rules → ReaderSetup → Redundancy → List (Option Fed) → List (Option Claim)
votes_by rules reader_rules redundancy [] = []
votes_by rules reader_rules redundancy (Some fed ∷ hearing) =
    vote_at_tick (history_by rules reader_rules redundancy fed (votes_by rules reader_rules redundancy hearing)) ∷ votes_by rules reader_rules redundancy hearing
votes_by rules reader_rules redundancy (None ∷ hearing) = []

abbrev votes_heard : Setup → ℕ → List Event → List (Option Claim)
votes_heard s r ev = votes_by s.rules (setup_at s.readers r) (redundancy_of (length s.generators)) (hearing_of s r ev)

votes_are : (s : Setup) (r : ℕ) (ev : List Event) → votes_of s r ev ≡ votes_heard s r ev
votes_are s r [] = refl
votes_are s r (Tick x ∷ ev) =
    elim (cases_Bool (x == r)) [
      | inl here ↦ rw (here, votes_are s r ev) refl
      | inr other ↦ rw other (votes_are s r ev)
    ]
votes_are s r (Restart x ∷ ev) =
    elim (cases_Bool (x == r)) [
      | inl here ↦ rw here refl
      | inr other ↦ rw other (votes_are s r ev)
    ]
votes_are s r (e ∷ ev) = votes_are s r ev

pub votes_heard_alike : (s : Setup) (r : ℕ) (ev other : List Event) → hearing_of s r ev ≡ hearing_of s r other → votes_of s r ev ≡ votes_of s r other
votes_heard_alike s r ev other same =
    votes_are s r ev ∙ ap (votes_by s.rules (setup_at s.readers r) (redundancy_of (length s.generators))) same ∙ sym (votes_are s r other)

history_heard : Rules → ReaderSetup → Redundancy → Fed → List (Option Fed) → ReaderHistory
history_heard rules reader_rules redundancy fed hearing = history_by rules reader_rules redundancy fed (votes_by rules reader_rules redundancy hearing)

history_is : (s : Setup) (r : ℕ) (ev : List Event) → history_of s r ev ≡ history_heard s.rules (setup_at s.readers r) (redundancy_of (length s.generators)) (fed_at s r ev) (hearing_of s r ev)
unfolding history_heard
history_is s r ev = ap (history_by s.rules (setup_at s.readers r) (redundancy_of (length s.generators)) (fed_at s r ev)) (votes_are s r ev)

pub alike_report : (s : Setup) (r : ℕ) (ev : List Event) (t : Setup) (q : ℕ) (other : List Event) → HearAlike s r ev t q other → (entry_of s r ev).report ≡ (entry_of t q other).report
alike_report s r ev t q other h =
    let same : history_heard s.rules (setup_at s.readers r) (redundancy_of (length s.generators)) (fed_at s r ev) (hearing_of s r ev)
    ≡ history_heard t.rules (setup_at t.readers q) (redundancy_of (length t.generators)) (fed_at t q other) (hearing_of t q other) =
    rw (h.rules, h.made, h.ports, h.now, h.before) refl in
    ap report_at_tick (history_is s r ev ∙ same ∙ sym (history_is t q other))
