-- What an entry announces by a vote, by the words of its port line.
use Rattle.std.proofs.Common.{◌≡◌, ◌==◌, ℕ, ◌+◌, Bool, true, false, cond, List, [], ◌∷◌, ◌++◌, length, Option, Some, None, Result, Ok, Err, refl, sym, arith}
use Rattle.std.specs.Prelude.{⊤}
use Rattle.std.specs.List.{AllByRecursion}
use Rattle.std.proofs.lemmas.List.Elements.{recursion_from_All}
use Rattle.irig_frame.specs.declared.layout.Field.TheVariants.{Second}
use Rattle.irig_control.specs.Control.{control_of}
use Rattle.irig_time.specs.declared.second.UtcSecond.{UtcSecond}
use Rattle.irig_time.specs.declared.claim.Claim.{Claim}
use Rattle.irig_time.specs.declared.rules.Rules.{Rules}
use Rattle.irig_time.specs.Tables.{TableValue}
use Rattle.irig_time.specs.Timelines.{TimelineValue, second_at}
use Rattle.irig_time.specs.TimelineFaults.{IsTimeline}
use Rattle.irig_time.proofs.ClaimedSeconds.{claim_valid}
use Rattle.irig_time.proofs.SecondAt.{second_is}
use Rattle.irig_port.specs.declared.told.Told.{Told}
use Rattle.irig_port.specs.declared.told.Told.TheVariants as tells
use Rattle.irig_port.specs.Heard.{symbols_of}
use Rattle.irig_port.specs.Told.{told_of_widths}
use Rattle.irig_port.proofs.CarriesLaws.{carries_is_told}
use Rattle.irig_vote.specs.Vote.{IsOfUtc, AreOfUtc, redundancy_of}
use Rattle.irig_hold.specs.declared.hold.Turn.{Turn}
use Rattle.irig_hold.specs.declared.hold.Turn.TheVariants as turn
use Rattle.irig_hold.specs.Steps.{HoldValue, hold_start, voted_by, alone_by}
use Rattle.irig_reader.specs.declared.rules.ReaderRules.{ReaderRules}
use Rattle.irig_reader.specs.declared.report.Lock.{Lock}
use Rattle.irig_reader.specs.declared.report.Lock.TheVariants as lock
use Rattle.irig_reader.specs.declared.report.Cause.{Cause}
use Rattle.irig_reader.specs.declared.report.Cause.TheVariants as cause
use Rattle.irig_reader.specs.declared.rule.State.{State}
use Rattle.irig_reader.specs.declared.rule.State.TheVariants.{Idle, Acquiring, Locked}
use Rattle.irig_reader.specs.declared.rule.Step.{Step}
use Rattle.irig_reader.specs.Rule.{announce_step, count_step, first_vote_step, later_vote_step_by, locked_step, step_of, state_of}
use Rattle.irig_reader.specs.History.{told_at_tick, vote_at_tick}
use Rattle.irig_reader.proofs.OneEdge.{voted_seconds}
use Rattle.irig_plant.specs.declared.event.Event.{Event}
use Rattle.irig_plant.specs.declared.entry.Entry.{Entry}
use Rattle.irig_plant.specs.Schedule.{Setup, setup_at, heard_at, ticks_of, votes_of, history_of, entry_of, log_of}
use Rattle.irig_plant.proofs.ExactLaws.{log_at}
use Rattle.report_log.specs.PortWords.{has_false_majority}
use Rattle.report_log.proofs.PortWordLaws.{port_words, clean_by_words}

-- ---- a vote is announced

abbrev Says : Step → Type 0
Says step = step.report.cause ≡ cause.Voted → (u : UtcSecond) × (step.report.announce ≡ Some u)

counted : (rules : ReaderRules) (h : HoldValue) (count : ℕ) → Says (count_step rules h count)
counted rules h count =
    either (count == rules.lock_after) (announce_step h h.last lock.Locked cause.Voted) (record { state = Acquiring h count; report = record { announce = None; lock = lock.Acquiring count; cause = cause.Acquiring } })
    (λ voted. (h.last, refl)) (λ voted. absurd cc)
  where
    either : (b : Bool) (x y : Step) → Says x → Says y → Says (cond b x y)
    either true x y p q = p
    either false x y p q = q

begun : (rules : ReaderRules) (first : Result HoldValue Turn) → Says (first_vote_step rules first)
begun rules (Ok h) = counted rules h 1
begun rules (Err (turn.Now u)) = λ voted. absurd cc
begun rules (Err turn.LeapGuard) = λ voted. absurd cc
begun rules (Err turn.Expired) = λ voted. absurd cc
begun rules (Err turn.RangeEnd) = λ voted. absurd cc
begun rules (Err turn.Jump) = λ voted. absurd cc

joined : (rules : ReaderRules) (count : ℕ) (anew : Step) (answer : Turn) (h : HoldValue) → Says anew → Says (later_vote_step_by rules count anew answer h)
joined rules count anew (turn.Now u) h first = counted rules h (count + 1)
joined rules count anew turn.Jump h first = first
joined rules count anew turn.LeapGuard h first = λ voted. absurd cc
joined rules count anew turn.Expired h first = λ voted. absurd cc
joined rules count anew turn.RangeEnd h first = λ voted. absurd cc

locked : (l : Lock) (c : Cause) (answer : Turn) (h : HoldValue) → Says (locked_step l c answer h)
locked l c (turn.Now u) h = λ voted. (u, refl)
locked l c turn.Jump h = λ voted. absurd cc
locked l c turn.LeapGuard h = λ voted. absurd cc
locked l c turn.Expired h = λ voted. absurd cc
locked l c turn.RangeEnd h = λ voted. absurd cc

voted_says : (rules : ReaderRules) (table : TableValue) (state : State) (vote : Option Claim) → Says (step_of rules table state vote)
unfolding step_of
voted_says rules table Idle None = λ voted. absurd cc
voted_says rules table Idle (Some c) = begun rules (hold_start table c)
voted_says rules table (Acquiring h count) None = λ voted. absurd cc
voted_says rules table (Acquiring h count) (Some c) = joined rules count _ (voted_by table h c).answer (voted_by table h c).new (begun rules (hold_start table c))
voted_says rules table (Locked h) (Some c) = locked _ cause.Voted (voted_by table h c).answer (voted_by table h c).new
voted_says rules table (Locked h) None = locked _ cause.Held (alone_by table h rules.holdover).answer (alone_by table h rules.holdover).new

-- ---- what a port claims is a second of UTC

pub told_of_utc : (rules : Rules) (widths : List ℕ) → IsOfUtc (told_of_widths rules widths)
told_of_utc rules widths = of (told_of_widths rules widths) refl
  where
    of : (told : Told) → told_of_widths rules widths ≡ told → IsOfUtc told
    of tells.Silence is = tt
    of (tells.Fault fault) is = tt
    of (tells.Poor quality) is = tt
    of (tells.Claim c) is =
        let carries = (carries_is_told rules (symbols_of widths) c).0 is in
        claim_valid rules.sense carries.coded (control_of carries.coded.control) c (omega (arith, carries.reads.second, (carries.reads.ranges Second).1)) carries.claims

are_of_utc : (s : Setup) (r : ℕ) (ev : List Event) → AreOfUtc (told_at_tick (history_of s r ev))
are_of_utc s r ev = record {
  a = told_of_utc s.rules (heard_at s r 0 ev);
  b = told_of_utc s.rules (heard_at s r 1 ev);
  c = told_of_utc s.rules (heard_at s r 2 ev);
  d = told_of_utc s.rules (heard_at s r 3 ev);
  e = told_of_utc s.rules (heard_at s r 4 ev);
}

-- ---- a tick

-- what the entry announces by a vote is T of its edge, unless the words have a false majority
abbrev pub IsTrueByWords : TimelineValue → Entry → Type 0
IsTrueByWords times e = e.report.cause ≡ cause.Voted → has_false_majority (port_words e) ≡ false → (u : UtcSecond) × (e.report.announce ≡ Some u) × (second_at times e.edge ≡ Some u)

true_by_words : (s : Setup) (r : ℕ) (ev : List Event) → IsTimeline s.times → IsTrueByWords s.times (entry_of s r ev)
true_by_words s r ev sound = λ voted none.
    let rules = (setup_at s.readers r).rules in
    let table = (setup_at s.readers r).table in
    let state = state_of rules table (votes_of s r ev) in
    let told = told_at_tick (history_of s r ev) in
    let redundancy = redundancy_of (length s.generators) in
    let says = voted_says rules table state (vote_at_tick (history_of s r ev)) voted in
    let clean = clean_by_words s.times (ticks_of r ev) told redundancy (are_of_utc s r ev) none in
    (says.0, says.1, (second_is s.times (ticks_of r ev + 1) says.0).1 (voted_seconds s.times (ticks_of r ev) rules table state told redundancy says.0 sound clean voted says.1))

pub log_true_by_words : (s : Setup) (ev : List Event) → IsTimeline s.times → AllByRecursion (IsTrueByWords s.times) (log_of s ev)
log_true_by_words s ev sound =
    recursion_from_All (IsTrueByWords s.times) (log_of s ev) (log_at s ev (IsTrueByWords s.times) (λ r later earlier is. true_by_words s r earlier sound) [] ev refl)
