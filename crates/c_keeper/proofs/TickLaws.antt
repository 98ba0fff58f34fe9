-- What a tick gives and leaves, if it has nothing to do, if it takes up where its clock then stands, and
-- with its check word.
use Rattle.std.specs.Prelude.{IfSome}
use Rattle.std.proofs.Common.{◌≡◌, ◌∙◌, ◌==◌, ◌≤◌, ℕ, if◌then◌else◌, Option, Some, None, refl, sym, ap, subst, arith, inl, inr}
use Rattle.std.proofs.lemmas.Bool.{cases_Bool, eqb-true}
use Rattle.irig_time.specs.Seconds.{IsValid}
use Rattle.irig_lines.specs.Exactness.{most_vote_us}
use Rattle.irig_lines.specs.Intervals.{IsShort}
use Rattle.irig_timekeeper.specs.Clock.{AnnouncedOfUtc, AreSmall}
use Rattle.irig_timekeeper.specs.declared.clock.Beat.{Beat}
use Rattle.irig_timekeeper.specs.declared.clock.ClockState.{ClockState}
use Rattle.irig_timekeeper.specs.declared.stamp.Announced.{Announced}
use Rattle.c_lines.specs.Announced.{IsAnnounced, IsSmall}
use Rattle.c_keeper.specs.declared.second.IrigSecond.{IrigSecond}
use Rattle.c_keeper.specs.declared.timekeeper.IrigTimekeeper.{IrigTimekeeper}
use Rattle.c_keeper.specs.Quiet.{IsAtRest}
use Rattle.c_keeper.specs.Seconds.{nothing_told, IsSecondOf}
use Rattle.c_keeper.specs.Ticks.{IsGivenAtTick, IsLeftAtTick}
use Rattle.c_keeper.specs.Timekeepers.{answer_in, clock_state_in, interval_in, HasShortInterval, IsAccepted}
use Rattle.c_keeper.proofs.ValueLaws.{valid_told}

-- ---- a tick that has nothing to do

pub given_at_rest : (t : IrigTimekeeper) (now : ℕ) (s : IrigSecond) → IsAtRest t now → s ≡ nothing_told → IsGivenAtTick t t now s
given_at_rest t now s rest nothing = record {
  said = subst (λ (answer : Option Beat). IsSecondOf s answer) (sym rest.answer) nothing;
  valid = valid_told s None nothing tt;
  voices = λ beat is. absurd (none beat is);
  against = λ beat is. absurd (none beat is);
  strays = subst (λ (x : IrigSecond). x.strays ≡ (if x.is_told == 0 then 0 else t.strays)) (sym nothing) refl;
  doubt = subst (λ (x : IrigSecond). x.doubt ≡ (if x.is_told == 0 then 0 else t.doubt)) (sym nothing) refl;
  lines = λ beat is. absurd (none beat is);
}
  where
    none : (beat : Beat) → answer_in t now ≡ Some beat → ⊥
    none beat is = (let both : None ≡ Some beat = sym rest.answer ∙ is in absurd cc)

pub left_at_rest : (t : IrigTimekeeper) (now : ℕ) → IsAtRest t now → IsAccepted t → IsLeftAtTick t t now
left_at_rest t now rest accepted = record {
  setup = refl;
  table = refl;
  wires = refl;
  stands = sym rest.state;
  heard = λ heard h. h;
  bound = accepted.bound;
  known = accepted.known;
  is_state = accepted.is_state;
  last = accepted.last;
  before = accepted.before;
  ended = accepted.ended;
  ended_before = accepted.ended_before;
  absent = accepted.absent;
}

-- ---- another check word

pub given_checked : (t q : IrigTimekeeper) (now check : ℕ) (s : IrigSecond) → IsGivenAtTick t q now s → IsGivenAtTick t (record q { check = check }) now s
given_checked t q now check s h = record {
  said = h.said;
  valid = h.valid;
  voices = h.voices;
  against = h.against;
  strays = h.strays;
  doubt = h.doubt;
  lines = h.lines;
}

pub left_checked : (t q : IrigTimekeeper) (now check : ℕ) → IsLeftAtTick t q now → IsLeftAtTick t (record q { check = check }) now
left_checked t q now check h = record {
  setup = h.setup;
  table = h.table;
  wires = h.wires;
  stands = h.stands;
  heard = h.heard;
  bound = h.bound;
  known = record { interval = h.known.interval; pace = h.known.pace };
  is_state = h.is_state;
  last = h.last;
  before = h.before;
  ended = h.ended;
  ended_before = h.ended_before;
  absent = h.absent;
}

-- ---- numbers that take up where a clock stands

module _ (q : IrigTimekeeper) (left : ClockState) (rest : record (clock_state_in q) { lines = left.lines } ≡ left) where
  pub bound_kept : left.bound_us ≤ most_vote_us → q.bound_us ≤ most_vote_us
  bound_kept few = omega (arith, few, ap (λ (s : ClockState). s.bound_us) rest)

  pub known_kept : IsShort left.interval → HasShortInterval q
  known_kept short = elim (cases_Bool (q.has_interval == 0)) [
    | inl none ↦ inl (eqb-true q.has_interval 0 none)
    | inr some ↦
        let known : interval_in q ≡ Some (record { begin_us = q.begin_us; long_us = q.long_us }) = rw some refl in
        inr (subst IsShort (sym (ap (λ (s : ClockState). s.interval) rest)) short (record { begin_us = q.begin_us; long_us = q.long_us }) known)
  ]

  pub last_kept : AnnouncedOfUtc left → IsAnnounced q.last
  last_kept h = subst (λ (a : Option Announced). IfSome a (λ announced. IsValid announced.second)) (sym (ap (λ (s : ClockState). s.last) rest)) h.last

  pub before_kept : AnnouncedOfUtc left → IsAnnounced q.before
  before_kept h = subst (λ (a : Option Announced). IfSome a (λ announced. IsValid announced.second)) (sym (ap (λ (s : ClockState). s.before) rest)) h.before

  pub ended_kept : AreSmall left → IsSmall q.ended
  ended_kept h announced is = h.ended announced (sym (ap (λ (s : ClockState). s.ended) rest) ∙ is)

  pub ended_before_kept : AreSmall left → IsSmall q.ended_before
  ended_before_kept h announced is = h.before announced (sym (ap (λ (s : ClockState). s.ended_before) rest) ∙ is)
