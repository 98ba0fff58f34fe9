-- Readers whose ports were kept and whose tables are true stand at the truth, and so their entries
-- announce it.
use Rattle.std.proofs.Common.{◌≡◌, ◌↔◌, ◌==◌, ℕ, ◌+◌, ◌-◌, ◌<◌, ◌≤◌, false, List, [], ◌∷◌, ◌++◌, Option, Some, None, get_or, refl, sym, ap, subst, ◌∙◌, arith, inl, inr, eqb-true}
use Rattle.std.specs.Prelude.{All}
use Rattle.std.proofs.lemmas.Bool.{cases_Bool, cases_order}
use Rattle.std.proofs.lemmas.List.Elements.{All-nil, All-push, All-contains}
use Rattle.irig_time.specs.declared.second.UtcSecond.{UtcSecond}
use Rattle.irig_time.specs.Timelines.{TimelineValue, seconds_in, IsSecond, second_at}
use Rattle.irig_time.specs.TimelineFaults.{IsTimeline}
use Rattle.irig_time.proofs.TimeLaws.{in_order}
use Rattle.irig_time.proofs.SecondAt.{second_is}
use Rattle.irig_hold.specs.Truth.{IsTrueTable}
use Rattle.irig_reader.specs.declared.report.Cause.TheVariants.{Jump, RangeEnd}
use Rattle.irig_reader.specs.declared.rule.State.{State}
use Rattle.irig_reader.specs.Rule.{step_of, state_of}
use Rattle.irig_reader.specs.History.{vote_at_tick}
use Rattle.irig_reader.specs.Standing.{StandsAtTruth}
use Rattle.irig_reader.proofs.TrueSteps.{IsTrueStep, step_true}
use Rattle.irig_plant.specs.declared.event.Event.{Event}
use Rattle.irig_plant.specs.declared.event.Event.TheVariants.{Tick, Restart}
use Rattle.irig_plant.specs.declared.entry.Entry.{Entry}
use Rattle.irig_plant.specs.Schedule.{Setup, setup_at, ticks_of, votes_of, history_of, entry_of, log_of}
use Rattle.irig_plant.specs.Audits.{is_broken_now}
use Rattle.irig_plant.specs.Premises.{IsKeptUpTo, HasPremises}
use Rattle.irig_plant.specs.Truth.{Announces, IsBefore, AnnouncesTruth}
use Rattle.irig_plant.proofs.HeadlineVotes.{vote_is_true}

-- ---- the premise, one event earlier

pub kept_before : (s : Setup) (r n : ℕ) (e : Event) (ev : List Event) → IsKeptUpTo s r n (e ∷ ev) → IsKeptUpTo s r n ev
kept_before s r n e ev kept = record { ticks = λ later earlier is low. kept.ticks (e ∷ later) earlier (ap (λ es. e ∷ es) is) low }

pub kept_now : (s : Setup) (r n : ℕ) (ev : List Event) → IsKeptUpTo s r n (Tick r ∷ ev) → ticks_of r ev < n → is_broken_now s r ev ≡ false
kept_now s r n ev kept low = kept.ticks [] ev refl low

-- an event that is no tick of r up to its n-th adds nothing to it
kept_after : (s : Setup) (r n : ℕ) (e : Event) (ev : List Event) → (e ≡ Tick r → n ≤ ticks_of r ev) → IsKeptUpTo s r n ev → IsKeptUpTo s r n (e ∷ ev)
kept_after s r n e ev late kept = record { ticks = at }
  where
    at : (later earlier : List Event) → e ∷ ev ≡ later ++ (Tick r ∷ earlier) → ticks_of r earlier < n → is_broken_now s r earlier ≡ false
    at [] earlier is low =
        let tick : e ≡ Tick r = cc in
        let rest : ev ≡ earlier = cc in
        absurd (omega (arith, late tick, low, ap (ticks_of r) rest))
    at (x ∷ later) earlier is low =
        let rest : ev ≡ later ++ (Tick r ∷ earlier) = cc in
        kept.ticks later earlier rest low

pub harmless : (s : Setup) (r n : ℕ) (e : Event) (ev : List Event) → (e ≡ Tick r → n ≤ ticks_of r ev) → IsKeptUpTo s r n (e ∷ ev) ↔ IsKeptUpTo s r n ev
harmless s r n e ev late = (kept_before s r n e ev, kept_after s r n e ev late)

-- ---- where a reader stands

abbrev pub state_at : Setup → ℕ → List Event → State
state_at s r ev = state_of (setup_at s.readers r).rules (setup_at s.readers r).table (votes_of s r ev)

-- a reader with a true table of a plant over a sound timeline
pub record IsFit (s : Setup) (r : ℕ) : Type 0 where
  pub sound : IsTimeline s.times
  pub true_table : IsTrueTable s.times (setup_at s.readers r).table

abbrev now_step : Setup → ℕ → List Event → Type 0
now_step s r ev =
    IsTrueStep s.times (ticks_of r ev + 1) (step_of (setup_at s.readers r).rules (setup_at s.readers r).table (state_at s r ev) (vote_at_tick (history_of s r ev)))

tick_true : (s : Setup) (r n : ℕ) (ev : List Event) → IsFit s r → IsKeptUpTo s r n (Tick r ∷ ev) → ticks_of r ev < n → StandsAtTruth s.times (ticks_of r ev) (state_at s r ev) → now_step s r ev
tick_true s r n ev fit kept low at =
    step_true s.times (ticks_of r ev) (setup_at s.readers r).rules (setup_at s.readers r).table (state_at s r ev) (vote_at_tick (history_of s r ev)) fit.sound fit.true_table at
    (vote_is_true s r ev (kept_now s r n ev kept low))

pub stands_at_truth : (s : Setup) (r n : ℕ) (ev : List Event) → IsFit s r → IsKeptUpTo s r n ev → ticks_of r ev ≤ n → StandsAtTruth s.times (ticks_of r ev) (state_at s r ev)
stands_at_truth s r n [] fit kept low = tt
stands_at_truth s r n (Tick x ∷ ev) fit kept low =
    elim (cases_Bool (x == r)) [
      | inl here ↦
          let is : x ≡ r = eqb-true x r here in
          let now : IsKeptUpTo s r n (Tick r ∷ ev) = subst (λ (k : ℕ). IsKeptUpTo s r n (Tick k ∷ ev)) is kept in
          let room : ticks_of r ev < n = omega (arith, rw here at low) in
          let before = stands_at_truth s r n ev fit (kept_before s r n (Tick x) ev kept) (omega (arith, room)) in
          rw here (tick_true s r n ev fit now room before).state
      | inr other ↦ rw other (stands_at_truth s r n ev fit (kept_before s r n (Tick x) ev kept) (rw other at low))
    ]
stands_at_truth s r n (Restart x ∷ ev) fit kept low =
    elim (cases_Bool (x == r)) [
      | inl here ↦ rw here tt
      | inr other ↦ rw other (stands_at_truth s r n ev fit (kept_before s r n (Restart x) ev kept) low)
    ]
stands_at_truth s r n (e ∷ ev) fit kept low = stands_at_truth s r n ev fit (kept_before s r n e ev kept) low

-- ---- what is logged

last_step : (s : Setup) (r : ℕ) (ev : List Event) → IsFit s r → IsKeptUpTo s r (ticks_of r ev + 1) (Tick r ∷ ev) → now_step s r ev
last_step s r ev fit kept =
    tick_true s r (ticks_of r ev + 1) ev fit kept (omega arith)
    (stands_at_truth s r (ticks_of r ev + 1) ev fit (kept_before s r (ticks_of r ev + 1) (Tick r) ev kept) (omega arith))

-- what each entry has as it is logged and keeps
log_has : (s : Setup) (R : List Event → Entry → Type 0) → ((x : Event) (ev : List Event) (e : Entry) → R ev e → R (x ∷ ev) e)
    → ((r : ℕ) (ev : List Event) → R (Tick r ∷ ev) (entry_of s r ev)) → (ev : List Event) → All (R ev) (log_of s ev)
log_has s R keeps new [] = All-nil (R [])
log_has s R keeps new (Tick r ∷ ev) =
    All-push (R (Tick r ∷ ev)) (log_of s ev) (entry_of s r ev) (λ i d low. keeps (Tick r) ev (get_or (log_of s ev) i d) (log_has s R keeps new ev i d low)) (new r ev)
log_has s R keeps new (e ∷ ev) = λ i d low. keeps e ev (get_or (log_of s ev) i d) (log_has s R keeps new ev i d low)

before : (s : Setup) (x : Event) (ev : List Event) (e : Entry) → HasPremises s (x ∷ ev) e → HasPremises s ev e
before s x ev e p = record { true_table = p.true_table; kept = kept_before s e.reader e.edge x ev p.kept }

pub log_is_true : (s : Setup) (ev : List Event) → IsTimeline s.times → All (AnnouncesTruth s ev) (log_of s ev)
log_is_true s ev sound = log_has s (AnnouncesTruth s) keeps new ev
  where
    keeps : (x : Event) (ev : List Event) (e : Entry) → AnnouncesTruth s ev e → AnnouncesTruth s (x ∷ ev) e
    keeps x ev e h = record { second = λ p u is. h.second (before s x ev e p) u is }

    new : (r : ℕ) (ev : List Event) → AnnouncesTruth s (Tick r ∷ ev) (entry_of s r ev)
    new r ev = record {
      second = λ p u e.
          (second_is s.times (ticks_of r ev + 1) u).1 ((last_step s r ev (record { sound = sound; true_table = p.true_table }) p.kept).says u e);
    }

none_at : (t : TimelineValue) (n : ℕ) (o : Option UtcSecond) → o ≡ second_at t n → ((u : UtcSecond) → ¬ IsSecond t n u) → o ≡ None
none_at t n None e ends = refl
none_at t n (Some u) e ends = absurd (ends u ((second_is t n u).0 (sym e)))

-- an entry tells no jump, and the end of the range only if there is no T of its edge
pub record IsCalm (s : Setup) (ev : List Event) (e : Entry) : Type 0 where
  pub jump : HasPremises s ev e → ¬ (e.report.cause ≡ Jump)
  pub range_end : HasPremises s ev e → e.report.cause ≡ RangeEnd → second_at s.times e.edge ≡ None

pub log_keeps_calm : (s : Setup) (ev : List Event) → IsTimeline s.times → All (IsCalm s ev) (log_of s ev)
log_keeps_calm s ev sound = log_has s (IsCalm s) keeps new ev
  where
    keeps : (x : Event) (ev : List Event) (e : Entry) → IsCalm s ev e → IsCalm s (x ∷ ev) e
    keeps x ev e h = record {
      jump = λ p. h.jump (before s x ev e p);
      range_end = λ p is. h.range_end (before s x ev e p) is;
    }

    new : (r : ℕ) (ev : List Event) → IsCalm s (Tick r ∷ ev) (entry_of s r ev)
    new r ev = record {
      jump = λ p. (last_step s r ev (record { sound = sound; true_table = p.true_table }) p.kept).calm.jump;
      range_end = λ p is.
          none_at s.times (ticks_of r ev + 1) (second_at s.times (ticks_of r ev + 1)) refl
          ((last_step s r ev (record { sound = sound; true_table = p.true_table }) p.kept).calm.range_end is);
    }

-- ---- two entries

announced : (s : Setup) (ev : List Event) (e : Entry) (u : UtcSecond) → IsTimeline s.times → Announces s ev e u → second_at s.times e.edge ≡ Some u
announced s ev e u sound says =
    let truth : AnnouncesTruth s ev e = All-contains (AnnouncesTruth s ev) (log_of s ev) e (log_is_true s ev sound) says.logged in
    truth.second says.premises u says.second

pub entries_agree : (s : Setup) (ev : List Event) (one other : Entry) (u v : UtcSecond) → IsTimeline s.times → Announces s ev one u → Announces s ev other v → one.edge ≡ other.edge → u ≡ v
entries_agree s ev one other u v sound first second same =
    let both : ◌≡◌ {A = Option UtcSecond} (Some u) (Some v) = sym (announced s ev one u sound first) ∙ ap (second_at s.times) same ∙ announced s ev other v sound second in
    cc

before_by : (t : TimelineValue) (n m : ℕ) (u v : UtcSecond) → IsSecond t n u → IsSecond t m v → n < m → IsBefore u v
before_by t n m u v a b low =
    elim (cases_order u.day v.day) [
      | inl day ↦
          let sums : seconds_in t.leaps t.start.day (u.day - t.start.day) ≡ seconds_in t.leaps t.start.day (v.day - t.start.day) = ap (λ (d : ℕ). seconds_in t.leaps t.start.day (d - t.start.day)) day in
          inr (day, omega (arith, sums, a.sum, b.sum, low))
      | inr other ↦ elim other [
        | inl earlier ↦ inl earlier
        | inr later ↦ absurd (omega (arith, in_order t m n v u b a later, low))
      ]
    ]

pub entries_in_order : (s : Setup) (ev : List Event) (one other : Entry) (u v : UtcSecond) → IsTimeline s.times → Announces s ev one u → Announces s ev other v → one.edge < other.edge → IsBefore u v
entries_in_order s ev one other u v sound first second =
    before_by s.times one.edge other.edge u v ((second_is s.times one.edge u).0 (announced s ev one u sound first)) ((second_is s.times other.edge v).0 (announced s ev other v sound second))
