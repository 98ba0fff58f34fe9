-- A quiet second of real numbers. A device is behind edge 0. Its lines 0 to 2 are 0, 200 and 400 us late, and
-- each brings a frame that claims nothing; lines 3 and 4 bring nothing. The counter gains 20 us a second.
use Rattle.std.specs.Prelude.{◌==◌, if◌then◌else◌, nat_lt}
use Rattle.std.proofs.Common.{◌≡◌, ◌∙◌, ℕ, zero, suc, ◌+◌, ◌*◌, ◌%◌, ◌^◌, ◌<◌, ◌≤◌, ◌⊎◌, Bool, true, false, List, [], ◌∷◌, ◌++◌, Option, Some, None, refl, sym, ap, arith, inl, inr}
use Rattle.std.proofs.lemmas.Bool.{cases_Bool, eqb-true, lt-ltb, ltb-true, ne_eqb}
use Rattle.irig_frame.specs.declared.symbol.Symbol.{Symbol}
use Rattle.irig_frame.specs.declared.symbol.Symbol.TheVariants.{Bad, Marker, Zero}
use Rattle.irig_frame.specs.FieldTable.{is_marker_place}
use Rattle.irig_sync.specs.Sync.{is_marker_symbol}
use Rattle.irig_vote.specs.declared.redundancy.Redundancy.TheVariants.{Three}
use Rattle.irig_lines.specs.Refusals.{limits_of, within_of}
use Rattle.irig_lines.specs.VoteLimits.{usual_limits}
use Rattle.irig_lines.specs.Steps.{line_at}
use Rattle.irig_timekeeper.specs.Keeping.{Keeping, place_told}
use Rattle.irig_timekeeper.specs.Life.{Call, pulses_on}
use Rattle.irig_timekeeper.specs.Lived.{keeping_after}
use Rattle.irig_timekeeper.specs.Unfinished.{AreHears, AreOfAFrame, most, pulses_by}
use Rattle.irig_timekeeper.proofs.UnfinishedLaws.{after_both, place_in_frame}
use Rattle.irig_lives.proofs.LifeFacts.{no_table, rules}
use Rattle.irig_witness.specs.TrueFrames.{blank_at}
use Rattle.irig_witness.proofs.UnfinishedLaws.{more_ports}
use Rattle.irig_wires.specs.Wires.{wire_at}
use Rattle.irig_simulated.specs.declared.setup.Ticking.TheVariants.{ByHand}
use Rattle.irig_simulated.specs.Kinds.{Kind, no_delay}
use Rattle.irig_simulated.specs.Courses.{Course, begun_with, stepped}
use Rattle.irig_simulated.specs.Quiet.{BringsAll, BringsNone, IsQuiet, Passes, risen_by, wide_by}
use Rattle.irig_simulated.specs.QuietLines.{IsAboutRight}
use Rattle.irig_simulated.proofs.QuietCourses.{passes}
use Rattle.irig_simulated.proofs.QuietPulses.{are_of_a_frame}

abbrev kind : Kind
kind = record {
  made = record {
    rules = rules;
    clock = record {
      reader_rules = record { lock_after = 2; holdover = 60 };
      redundancy = Three;
      within = within_of 450;
      limits = limits_of usual_limits;
      drift_us = 20;
      wander_ppb = 0;
      delays = no_delay;
      prefers_frames = false;
    };
    table = no_table;
  };
  first = 4294967296;
  rate = 1000020;
  ticking = ByHand;
}

abbrev symbols : (line element : ℕ) → Symbol
symbols line j = blank_at j

abbrev signal : (line element : ℕ) → Option Symbol
signal line element = if nat_lt line 3 then Some (blank_at (element % 100)) else None

abbrev on : ℕ → Bool
on line = nat_lt line 3

-- the first elements have been sent
abbrev sent : Course
sent = stepped kind signal (begun_with kind (0 ∷ 200 ∷ 400 ∷ []))

-- ---- a frame that claims nothing

marker_if : (b : Bool) → is_marker_symbol (if b then Marker else Zero) ≡ b
marker_if true = refl
marker_if false = refl

good_if : (b : Bool) → ¬ ((if b then Marker else Zero) ≡ Bad)
good_if true e = cc
good_if false e = cc

-- the first element is a marker, and each tenth
marks : (j : ℕ) → is_marker_place j ≡ true → (j ≡ 0) ⊎ (j % 10 ≡ 9)
marks j is = elim (cases_Bool (j == 0)) [
  | inl first ↦ inl (eqb-true j 0 first)
  | inr later ↦ inr (eqb-true (j % 10) 9 (rw later at is))
]

no_mark : (j : ℕ) → ¬ (j ≡ 0) → ¬ (j % 10 ≡ 9) → is_marker_place j ≡ false
no_mark j first tenth = rw (ne_eqb j 0 first, ne_eqb (j % 10) 9 tenth) refl

apart : (j : ℕ) → suc j < most → is_marker_symbol (blank_at j) ≡ true → is_marker_symbol (blank_at (suc j)) ≡ false
apart j less is = marker_if (is_marker_place (suc j)) ∙ (elim (marks j (sym (marker_if (is_marker_place j)) ∙ is)) [
  | inl first ↦ no_mark (suc j) (omega arith) (omega (arith, first))
  | inr tenth ↦ no_mark (suc j) (omega arith) (omega (arith, tenth))
])

right : IsAboutRight kind.rate
right = record { least = omega arith; most = omega arith }

frame_of : (late : ℕ) → late ≤ 448 → AreOfAFrame (risen_by kind 0 late) (wide_by kind 0 late blank_at)
frame_of late few = are_of_a_frame kind 0 late blank_at right few (λ j less. good_if (is_marker_place j)) refl apart refl

-- ---- each line

sends : (line : ℕ) → line < 3 → (j : ℕ) → j < 100 → signal line (100 * 0 + j) ≡ Some (symbols line j)
sends line low j less =
    let there : nat_lt line 3 ≡ true = lt-ltb line 3 low in
    let place : (100 * 0 + j) % 100 ≡ j = omega (arith, less) in
    rw (there, place) refl

brings : (line : ℕ) → line < 5 → on line ≡ true → BringsAll 0 (signal line) (symbols line) (wire_at sent.wires line)
brings zero low is = record { plugged = refl; late = omega arith; first = refl; sends = sends 0 (omega arith); last = omega arith }
brings (suc zero) low is = record { plugged = refl; late = omega arith; first = refl; sends = sends 1 (omega arith); last = omega arith }
brings (suc (suc zero)) low is = record { plugged = refl; late = omega arith; first = refl; sends = sends 2 (omega arith); last = omega arith }
brings (suc (suc (suc n))) low is = absurd (let less = ltb-true (suc (suc (suc n))) 3 is in omega (arith, less))

silent : (line : ℕ) → line < 5 → on line ≡ false → BringsNone 0 (signal line) (wire_at sent.wires line)
silent zero low is = absurd cc
silent (suc zero) low is = absurd cc
silent (suc (suc zero)) low is = absurd cc
silent (suc (suc (suc zero))) low is = record { none = refl; silent = inr (λ j less. refl) }
silent (suc (suc (suc (suc zero)))) low is = record { none = refl; silent = inr (λ j less. refl) }
silent (suc (suc (suc (suc (suc n))))) low is = absurd (omega (arith, low))

late_few : (line : ℕ) → on line ≡ true → (wire_at sent.wires line).late_us ≤ 448
late_few zero is = omega arith
late_few (suc zero) is = omega arith
late_few (suc (suc zero)) is = omega arith
late_few (suc (suc (suc n))) is = absurd (let less = ltb-true (suc (suc (suc n))) 3 is in omega (arith, less))

idle : (line : ℕ) → line < 5 → ((line_at (keeping_after kind.made []).state.lines line).sync.was_marker == 0) ≡ false
idle zero low = refl
idle (suc zero) low = refl
idle (suc (suc zero)) low = refl
idle (suc (suc (suc zero))) low = refl
idle (suc (suc (suc (suc zero)))) low = refl
idle (suc (suc (suc (suc (suc n))))) low = absurd (omega (arith, low))

goes_on : (calls : List Call) (line j : ℕ) → AreHears 3 calls → line < 5 → on line ≡ true → j < most
    → pulses_on line calls ≡ pulses_by (risen_by kind 0 (wire_at sent.wires line).late_us) (wide_by kind 0 (wire_at sent.wires line).late_us (symbols line)) j
    → place_told (keeping_after kind.made (calls ++ sent.calls)) line (risen_by kind 0 (wire_at sent.wires line).late_us j % 2 ^ 32) (wide_by kind 0 (wire_at sent.wires line).late_us (symbols line) j) < 100
goes_on calls line j hear low is less so =
    let late = (wire_at sent.wires line).late_us in
    let at = place_in_frame (keeping_after kind.made []) line j (risen_by kind 0 late) (wide_by kind 0 late blank_at) calls (more_ports 3 5 calls (omega arith) hear) low (frame_of late (late_few line is)) (idle line low) less so in
    let there = ap (λ (y : Keeping). place_told y line (risen_by kind 0 late j % 2 ^ 32) (wide_by kind 0 late blank_at j)) (after_both (keeping_after kind.made []) calls []) in
    omega (arith, there, at, less)

is_quiet : IsQuiet kind signal sent 3 0 on symbols
is_quiet = record {
  slow = omega arith;
  send = refl;
  now = λ line flight busy. omega arith;
  early = omega arith;
  tick = tt;
  few = omega arith;
  within = λ line is. ltb-true line 3 is;
  brings = brings;
  silent = silent;
  goes_on = goes_on;
}

-- so it is one step: each of three lines was told 99 pulses
one_step : Passes kind signal sent 3 0 on symbols
one_step = passes kind signal sent 3 0 on symbols is_quiet
