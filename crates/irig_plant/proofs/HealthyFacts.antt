-- A healthy plant worked by hand from noon of 2000-01-31 on, with a reader that locks after one
-- vote and one that locks after two; and plants that are not healthy.
use Rattle.std.specs.Prelude.{is_some}
use Rattle.std.proofs.Common.{◌≡◌, ℕ, ◌+◌, ◌≤◌, inl, inr, true, false, List, [], ◌∷◌, Option, Some, None, refl, sym, ap, ◌∙◌, arith}
use Rattle.std.proofs.lemmas.Bool.{false≢true}
use Rattle.std.proofs.lemmas.List.Elements.{All-nil, All-cons, All-head}
use Rattle.irig_time.specs.declared.second.UtcSecond.{UtcSecond}
use Rattle.irig_time.specs.declared.leap.Leap.TheVariants as leap
use Rattle.irig_time.specs.declared.claim.Claim.{Claim}
use Rattle.irig_time.specs.declared.mark.Mark.TheVariants.{Unspoken}
use Rattle.irig_time.specs.Timelines.{TimelineValue, times, second_at}
use Rattle.irig_time.specs.Tables.{table}
use Rattle.irig_time.specs.TimelineFaults.{IsTimeline}
use Rattle.irig_time.proofs.StandardFacts.{known_first_end}
use Rattle.irig_port.specs.declared.told.Told.TheVariants as tells
use Rattle.irig_vote.specs.declared.redundancy.Redundancy.TheVariants.{Three}
use Rattle.irig_reader.specs.declared.report.Lock.TheVariants as lock
use Rattle.irig_reader.specs.declared.report.Cause.TheVariants as cause
use Rattle.irig_reader.specs.declared.report.Report.{Report}
use Rattle.irig_reader.specs.Rules.{IsReaderRules}
use Rattle.irig_plant.specs.declared.event.Event.TheVariants.{GenEdge, Tick, Carry}
use Rattle.irig_plant.specs.declared.entry.Entry.{Entry}
use Rattle.irig_plant.specs.declared.audit.Audit.TheVariants.{Kept}
use Rattle.irig_plant.specs.declared.setup.ReaderSetup.{ReaderSetup}
use Rattle.irig_plant.specs.Schedule.{Setup, log_of}
use Rattle.irig_plant.specs.Runs.{events_after, AreAccepted}
use Rattle.irig_plant.specs.Audits.{is_true_table, audit_of}
use Rattle.irig_plant.specs.Premises.{HasTrueTable}
use Rattle.irig_plant.specs.Exactly.{announcement, silence}
use Rattle.irig_plant.specs.HealthyPlant.{seconds_of, IsHealthyPlant, healthy_log}
use Rattle.irig_plant.proofs.NoonPlants.{at, noon, plant, reader, three_generators}
use Rattle.irig_plant.proofs.KeptLaws.{empty_true}
use Rattle.irig_plant.proofs.TableLaws.{true_by_test, test_by_true}
use Rattle.irig_plant.proofs.HealthyLaws.{takes_seconds, logs_health, keeps_health}

-- ---- a healthy plant

abbrev slow_reader : ReaderSetup
slow_reader = record { rules = record { lock_after = 2; holdover = 0 }; table = table 0 [] }

abbrev two_readers : Setup
two_readers = record (plant 3) { readers = reader ∷ slow_reader ∷ [] }

-- the same with another timeline
abbrev from_start : TimelineValue → Setup
from_start t = record two_readers { times = t }

healthy_from : (t : TimelineValue) → IsTimeline t → 1 ≤ t.start.day → IsHealthyPlant (from_start t)
healthy_from t line late =
    let empty : is_true_table t (table 0 []) ≡ true = test_by_true t (table 0 []) (empty_true t late) in
    let in_range : (n : ℕ) → 1 ≤ n → n ≤ 60 → IsReaderRules (record { lock_after = n; holdover = 0 }) = λ n low high. record { lock_after = (low, high); holdover = omega arith } in
    record {
      timeline = line;
      generators = record { new = three_generators.new; zones = three_generators.zones };
      readers = record {
        count = (omega arith, omega arith);
        range = All-cons (λ x. IsReaderRules x.rules) reader (slow_reader ∷ []) (in_range 1 (omega arith) (omega arith))
            (All-cons (λ x. IsReaderRules x.rules) slow_reader [] (in_range 2 (omega arith) (omega arith)) (All-nil (λ x. IsReaderRules x.rules)));
      };
      tables = All-cons (HasTrueTable t) reader (slow_reader ∷ []) empty (All-cons (HasTrueTable t) slow_reader [] empty (All-nil (HasTrueTable t)));
    }

healthy : IsHealthyPlant two_readers
healthy = healthy_from noon (record { sound = refl }) (omega arith)

-- the frames by reader, the ticks, the steps
one_second : seconds_of two_readers 1
    ≡ Carry 0 0 ∷ Carry 1 0 ∷ Carry 2 0 ∷ Carry 0 1 ∷ Carry 1 1 ∷ Carry 2 1 ∷ Tick 0 ∷ Tick 1 ∷ GenEdge 0 ∷ GenEdge 1 ∷ GenEdge 2 ∷ []
one_second = refl

-- ---- its log of two seconds

-- all three ports tell the second before
abbrev claim : ℕ → Claim
claim edge = record { at = at (43199 + edge); mark = Unspoken }

abbrev entry : ℕ → ℕ → Report → Entry
entry r edge said = record {
  reader = r;
  edge = edge;
  report = said;
  redundancy = Three;
  told = record { a = tells.Claim (claim edge); b = tells.Claim (claim edge); c = tells.Claim (claim edge); d = tells.Silence; e = tells.Silence };
  truth = Some (claim edge);
}

abbrev tells_second : ℕ → Report
tells_second sod = announcement (at sod) lock.Locked cause.Voted

-- at edge 1 the slow one counts, at edge 2 both tell the second
abbrev right_log : List Entry
right_log = entry 0 1 (tells_second 43201) ∷ entry 1 1 (silence (lock.Acquiring 1) cause.Acquiring) ∷ entry 0 2 (tells_second 43202) ∷ entry 1 2 (tells_second 43202) ∷ []

known_log : healthy_log two_readers 2 ≡ right_log
unfolding second_at
known_log = rw known_first_end refl

no_log : healthy_log two_readers 0 ≡ []
no_log = refl

two_there : is_some (second_at noon 2) ≡ true
unfolding second_at
two_there = refl

shown : log_of two_readers (events_after (seconds_of two_readers 2) []) ≡ right_log
shown = logs_health two_readers 2 healthy two_there ∙ known_log

kept : audit_of two_readers (events_after (seconds_of two_readers 2) []) ≡ Kept
kept = keeps_health two_readers 2 healthy two_there

taken : AreAccepted two_readers (seconds_of two_readers 2) []
taken = (takes_seconds two_readers 2 healthy).1 two_there

-- ---- logs that it is not

abbrev first_entry : List Entry → Option Entry
first_entry [] = None
first_entry (e ∷ es) = Some e

abbrev second_entry : List Entry → Option Entry
second_entry [] = None
second_entry (e ∷ es) = first_entry es

-- not the second before
not_late : ¬ (healthy_log two_readers 2 ≡ entry 0 1 (tells_second 43200) ∷ entry 1 1 (silence (lock.Acquiring 1) cause.Acquiring) ∷ entry 0 2 (tells_second 43201) ∷ entry 1 2 (tells_second 43201) ∷ [])
not_late e =
    let first : ◌≡◌ {A = Option Entry} (Some (entry 0 1 (tells_second 43201))) (Some (entry 0 1 (tells_second 43200))) = ap first_entry (sym known_log ∙ e) in
    let same : ◌≡◌ {A = Entry} (entry 0 1 (tells_second 43201)) (entry 0 1 (tells_second 43200)) = cc in
    let told : ◌≡◌ {A = Option UtcSecond} (Some (at 43201)) (Some (at 43200)) = ap (λ (x : Entry). x.report.announce) same in
    let there : at 43201 ≡ at 43200 = cc in
    omega (arith, ap (λ (u : UtcSecond). u.sod) there)

-- nor one if the slow reader tells the first second, or all edges of a reader come in a row
not_at_once : ¬ (healthy_log two_readers 2 ≡ entry 0 1 (tells_second 43201) ∷ entry 1 1 (tells_second 43201) ∷ entry 0 2 (tells_second 43202) ∷ entry 1 2 (tells_second 43202) ∷ [])
not_at_once e =
    let next : ◌≡◌ {A = Option Entry} (Some (entry 1 1 (silence (lock.Acquiring 1) cause.Acquiring))) (Some (entry 1 1 (tells_second 43201))) = ap second_entry (sym known_log ∙ e) in
    let same : ◌≡◌ {A = Entry} (entry 1 1 (silence (lock.Acquiring 1) cause.Acquiring)) (entry 1 1 (tells_second 43201)) = cc in
    false≢true (ap (λ (x : Entry). is_some x.report.announce) same)

not_by_reader : ¬ (healthy_log two_readers 2 ≡ entry 0 1 (tells_second 43201) ∷ entry 0 2 (tells_second 43202) ∷ entry 1 1 (silence (lock.Acquiring 1) cause.Acquiring) ∷ entry 1 2 (tells_second 43202) ∷ [])
not_by_reader e =
    let next : ◌≡◌ {A = Option Entry} (Some (entry 1 1 (silence (lock.Acquiring 1) cause.Acquiring))) (Some (entry 0 2 (tells_second 43202))) = ap second_entry (sym known_log ∙ e) in
    let same : ◌≡◌ {A = Entry} (entry 1 1 (silence (lock.Acquiring 1) cause.Acquiring)) (entry 0 2 (tells_second 43202)) = cc in
    omega (arith, ap (λ (x : Entry). x.reader) same)

-- ---- the end of the years

abbrev end : TimelineValue
end = times (record { day = 36523; sod = 86399 }) []

healthy_at_end : IsHealthyPlant (from_start end)
healthy_at_end = healthy_from end (record { sound = refl }) (omega arith)

-- there is a T(0) and no T(1), so not even one second is taken
last_there : is_some (second_at end 0) ≡ true
unfolding second_at
last_there = refl

none_there : is_some (second_at end 1) ≡ false
unfolding second_at
none_there = refl

not_taken : ¬ AreAccepted (from_start end) (seconds_of (from_start end) 1) []
not_taken taken = false≢true (sym none_there ∙ (takes_seconds (from_start end) 1 healthy_at_end).0 taken)

-- ---- plants that are not healthy

-- one with no reader, one of no generator, one whose reader has a table that invents a leap
no_reader : ¬ IsHealthyPlant (record two_readers { readers = [] })
no_reader h = omega (arith, h.readers.count.0)

no_generator : ¬ IsHealthyPlant (record two_readers { generators = [] })
no_generator h = elim h.generators.new.count [ inl e ↦ omega (arith, e) | inr e ↦ omega (arith, e) ]

false_table : ¬ IsHealthyPlant (record two_readers { readers = record reader { table = table 30 ((30, leap.Insert) ∷ []) } ∷ [] })
false_table h =
    let good = true_by_test noon (table 30 ((30, leap.Insert) ∷ [])) (All-head (HasTrueTable noon) (record reader { table = table 30 ((30, leap.Insert) ∷ []) }) [] h.tables) in
    let none : ◌≡◌ {A = Option _} (Some leap.Insert) None = good.leaps 30 known_first_end (omega arith) (omega arith) in
    cc
