-- A short life for which all premises of a device's laws hold: three lines, of which one lies, by a
-- counter that is 100 us a second fast and wraps; four ticks.
use Rattle.irig_lines.specs.VoteLimits.{usual_limits}
use Rattle.irig_lines.specs.declared.limits.VoteLimits.{VoteLimits}
use Rattle.std.proofs.Common.{◌≡◌, ℕ, zero, suc, ◌+◌, ◌-◌, ◌*◌, ◌/◌, ◌%◌, ◌^◌, ◌<◌, ◌≤◌, ◌⊎◌, Bool, true, false, cond, not, ◌&&◌, List, [], ◌∷◌, ◌++◌, length, Some, None, refl, sym, subst, ap, ◌∙◌, arith, inl, inr}
use Rattle.std.specs.Prelude.{pos, slice_get, ◌==◌, nat_lt, nat_le, get_or}
use Rattle.std.proofs.lemmas.Bool.{cases_Bool, lt-ltb}
use Rattle.std.proofs.lemmas.Option.{same_Some, slice_get-get_or}
use Rattle.irig_frame.specs.declared.symbol.Symbol.{Symbol}
use Rattle.irig_frame.specs.declared.symbol.Symbol.TheVariants.{Zero, One, Marker, Bad}
use Rattle.irig_frame.specs.Decoder.{IsRight}
use Rattle.irig_frame.specs.Faults.{values_of, field_at}
use Rattle.irig_control.specs.Parity.{ones}
use Rattle.irig_control.specs.Control.{control_of, offset_in}
use Rattle.irig_time.specs.Claims.{utc_minute}
use Rattle.irig_time.specs.Days.{is_month_end, four_years}
use Rattle.irig_frame.specs.FieldTable.{is_marker_place}
use Rattle.irig_control.specs.declared.parity.Parity.TheVariants as parity
use Rattle.irig_sync.specs.Edges.{element_at}
use Rattle.irig_sync.specs.Lines.{Pulse, pulse_at, IsTrueLine, StandAt}
use Rattle.irig_time.specs.declared.second.UtcSecond.{UtcSecond}
use Rattle.irig_time.specs.declared.mark.Mark.TheVariants.{Unspoken}
use Rattle.irig_time.specs.declared.rules.Rules.{Rules}
use Rattle.irig_time.specs.declared.rules.Sense.TheVariants as sense
use Rattle.irig_time.specs.declared.rules.SbsUse.TheVariants as sbs
use Rattle.irig_time.specs.declared.claim.Claim.{Claim}
use Rattle.irig_time.specs.declared.leap.Leap.TheVariants as leap
use Rattle.irig_time.specs.Timelines.{TimelineValue, times, IsTrueClaim, true_mark}
use Rattle.irig_time.specs.TimelineFaults.{IsTimeline}
use Rattle.irig_time.specs.Tables.{TableValue, table}
use Rattle.irig_hold.specs.Truth.{IsTrueTable}
use Rattle.irig_port.specs.declared.told.Told.{Told}
use Rattle.irig_port.specs.declared.told.Told.TheVariants as tells
use Rattle.irig_port.specs.Told.{told_of, frame_told, coded_told}
use Rattle.irig_port.proofs.CarriesLaws.{carries_is_told}
use Rattle.irig_vote.specs.declared.redundancy.Redundancy.TheVariants as of
use Rattle.irig_vote.specs.declared.votes.Tells.{Tells}
use Rattle.irig_reader.specs.declared.rules.ReaderRules.{ReaderRules}
use Rattle.irig_reader.specs.declared.report.Lock.TheVariants as lock
use Rattle.irig_reader.specs.declared.report.Cause.TheVariants as cause
use Rattle.irig_reader.specs.Rule.{step_of}
use Rattle.irig_sync.proofs.EdgeLaws.{even_element}
use Rattle.irig_lines.specs.declared.lines.Line.{Line}
use Rattle.irig_lines.specs.declared.lines.Lines.{Lines}
use Rattle.irig_lines.specs.declared.lines.Vote.{Vote}
use Rattle.irig_timekeeper.proofs.LearnLaws.{plain_steps}
use Rattle.irig_timekeeper.specs.declared.clock.Beat.{Beat}
use Rattle.irig_lines.specs.declared.delay.Delays.{Delays}
use Rattle.irig_lines.specs.declared.setup.ClockRules.{ClockRules}
use Rattle.irig_lines.specs.Refusals.{within_of}
use Rattle.irig_lines.specs.Clocks.{IsTrueByItsClock}
use Rattle.irig_lines.specs.Edges.{IsQuartz}
use Rattle.irig_lines.specs.Lines.{IsLineOf, IsTrueLately}
use Rattle.irig_lines.specs.Steps.{IsNewLine, AreNewLines}
use Rattle.irig_timekeeper.specs.Keeping.{Keeping, new_keeping, restarted, after_pulse, after_tick, vote_at, answer_at, stamp_at}
use Rattle.irig_timekeeper.specs.Truth.{IsDevice, IsToldInHoldover, IsLaterSecond}
use Rattle.irig_timekeeper.specs.Life.{Made, life_of, Call, Made, AreTrueLately, last_tick, AreInOrder, AreTrueAtTicks, after_calls}
use Rattle.irig_timekeeper.specs.Life.Call.{Hear, Tick}
use Rattle.irig_timekeeper.specs.Healing.{HasHealed}
use Rattle.irig_lines.proofs.LineLaws.{true_by_any}
use Rattle.irig_timekeeper.proofs.LifeLaws.{TellAlwaysTruly, device_true, device_in_order}
use Rattle.irig_timekeeper.proofs.StrayLaws.{never_strays}
use Rattle.irig_timekeeper.proofs.ClockLines.{clocks_tell_truly}
use Rattle.irig_lives.specs.Decided.{is_after, have_risen, in_order, is_same, is_pulse_of, last_before, are_lately, are_true_lately, are_true_at_ticks}
use Rattle.irig_lives.proofs.DecidedLaws.{both, order_is, still_true, truly_is}
use Rattle.irig_timekeeper.specs.Rule.{step_checked, goes_against}

-- ---- the world

abbrev pub edges : ℕ → ℕ
edges n = 4293500000 + 1000100 * n

pub steady : IsQuartz 100 edges
steady = record { few = omega arith; steady = record { least = λ n. omega arith; most = λ n. omega arith } }

abbrev pub at : ℕ → UtcSecond
at sod = record { day = 6209; sod = sod }

abbrev pub noon : TimelineValue
noon = times (at 43200) []

is_timeline : IsTimeline noon
is_timeline = record { sound = refl }

abbrev pub no_table : TableValue
no_table = table 0 []

pub true_table : IsTrueTable noon no_table
true_table = record { leaps = λ day end from to. absurd (omega (arith, from, to)) }

-- no line is late
abbrev pub no_delays : Delays
no_delays = record { a = pos 0; b = pos 0; c = pos 0; d = pos 0; e = pos 0 }

-- no frame is too early, and none of a clock that says 1 ms has a vote
abbrev pub usual : VoteLimits
usual = record { limits = usual_limits; few = omega arith }

abbrev pub clock : ClockRules
clock = record { reader_rules = record { lock_after = 2; holdover = 100 }; redundancy = of.Three; within = within_of 450; limits = usual; drift_us = 100; wander_ppb = 0; delays = no_delays; prefers_frames = false }

pub is_device : IsDevice noon 100 edges clock.reader_rules no_table
is_device = record { steady = steady; sound = is_timeline; knows = inl true_table }

abbrev pub rules : Rules
rules = record { parity = parity.Even; sense = sense.Add; sbs = sbs.Check }

abbrev pub claim_of : ℕ → Claim
claim_of sod = record { at = at sod; mark = Unspoken }

abbrev new_line : Line
new_line = record { sync = record { rise_us = 0; place = 0; was_marker = 1 }; begin_us = 0; frame = None; seen = None; is_heard = false }

abbrev pub new_lines : Lines
new_lines = record { a = new_line; b = new_line; c = new_line; d = new_line; e = new_line }

is_new : IsNewLine new_line
is_new = record { sync = record { place = refl; last = refl }; frame = refl; seen = refl; heard = refl }

pub are_new : AreNewLines new_lines
are_new = record { a = is_new; b = is_new; c = is_new; d = is_new; e = is_new }

abbrev pub frame_0 : List Symbol
frame_0 = Marker ∷ Zero ∷ Zero ∷ Zero ∷ Zero ∷ Zero ∷ Zero ∷ Zero ∷ Zero ∷ Marker ∷ Zero ∷ Zero ∷ Zero ∷ Zero ∷ Zero ∷ Zero ∷ Zero ∷ Zero ∷ Zero ∷ Marker ∷ Zero ∷ One ∷ Zero ∷ Zero ∷ Zero ∷ One ∷ Zero ∷ Zero ∷ Zero ∷ Marker ∷ Zero ∷ One ∷ One ∷ Zero ∷ Zero ∷ Zero ∷ One ∷ One ∷ Zero ∷ Marker ∷ One ∷ One ∷ Zero ∷ Zero ∷ Zero ∷ Zero ∷ Zero ∷ Zero ∷ Zero ∷ Marker ∷ Zero ∷ One ∷ One ∷ Zero ∷ Zero ∷ One ∷ Zero ∷ Zero ∷ Zero ∷ Marker ∷ Zero ∷ Zero ∷ Zero ∷ Zero ∷ Zero ∷ Zero ∷ Zero ∷ Zero ∷ Zero ∷ Marker ∷ Zero ∷ Zero ∷ Zero ∷ Zero ∷ Zero ∷ One ∷ Zero ∷ Zero ∷ Zero ∷ Marker ∷ Zero ∷ Zero ∷ Zero ∷ Zero ∷ Zero ∷ Zero ∷ One ∷ One ∷ Zero ∷ Marker ∷ Zero ∷ Zero ∷ One ∷ Zero ∷ One ∷ Zero ∷ One ∷ Zero ∷ Zero ∷ Marker ∷ []

abbrev pub frame_1 : List Symbol
frame_1 = Marker ∷ One ∷ Zero ∷ Zero ∷ Zero ∷ Zero ∷ Zero ∷ Zero ∷ Zero ∷ Marker ∷ Zero ∷ Zero ∷ Zero ∷ Zero ∷ Zero ∷ Zero ∷ Zero ∷ Zero ∷ Zero ∷ Marker ∷ Zero ∷ One ∷ Zero ∷ Zero ∷ Zero ∷ One ∷ Zero ∷ Zero ∷ Zero ∷ Marker ∷ Zero ∷ One ∷ One ∷ Zero ∷ Zero ∷ Zero ∷ One ∷ One ∷ Zero ∷ Marker ∷ One ∷ One ∷ Zero ∷ Zero ∷ Zero ∷ Zero ∷ Zero ∷ Zero ∷ Zero ∷ Marker ∷ Zero ∷ One ∷ One ∷ Zero ∷ Zero ∷ One ∷ Zero ∷ Zero ∷ Zero ∷ Marker ∷ Zero ∷ Zero ∷ Zero ∷ Zero ∷ Zero ∷ Zero ∷ Zero ∷ Zero ∷ Zero ∷ Marker ∷ Zero ∷ Zero ∷ Zero ∷ Zero ∷ Zero ∷ Zero ∷ Zero ∷ Zero ∷ Zero ∷ Marker ∷ One ∷ Zero ∷ Zero ∷ Zero ∷ Zero ∷ Zero ∷ One ∷ One ∷ Zero ∷ Marker ∷ Zero ∷ Zero ∷ One ∷ Zero ∷ One ∷ Zero ∷ One ∷ Zero ∷ Zero ∷ Marker ∷ []

abbrev pub frame_2 : List Symbol
frame_2 = Marker ∷ Zero ∷ One ∷ Zero ∷ Zero ∷ Zero ∷ Zero ∷ Zero ∷ Zero ∷ Marker ∷ Zero ∷ Zero ∷ Zero ∷ Zero ∷ Zero ∷ Zero ∷ Zero ∷ Zero ∷ Zero ∷ Marker ∷ Zero ∷ One ∷ Zero ∷ Zero ∷ Zero ∷ One ∷ Zero ∷ Zero ∷ Zero ∷ Marker ∷ Zero ∷ One ∷ One ∷ Zero ∷ Zero ∷ Zero ∷ One ∷ One ∷ Zero ∷ Marker ∷ One ∷ One ∷ Zero ∷ Zero ∷ Zero ∷ Zero ∷ Zero ∷ Zero ∷ Zero ∷ Marker ∷ Zero ∷ One ∷ One ∷ Zero ∷ Zero ∷ One ∷ Zero ∷ Zero ∷ Zero ∷ Marker ∷ Zero ∷ Zero ∷ Zero ∷ Zero ∷ Zero ∷ Zero ∷ Zero ∷ Zero ∷ Zero ∷ Marker ∷ Zero ∷ Zero ∷ Zero ∷ Zero ∷ Zero ∷ Zero ∷ Zero ∷ Zero ∷ Zero ∷ Marker ∷ Zero ∷ One ∷ Zero ∷ Zero ∷ Zero ∷ Zero ∷ One ∷ One ∷ Zero ∷ Marker ∷ Zero ∷ Zero ∷ One ∷ Zero ∷ One ∷ Zero ∷ One ∷ Zero ∷ Zero ∷ Marker ∷ []

-- a frame that carries no claim: all its digits are 1
abbrev pub nothing : List Symbol
nothing = Marker ∷ One ∷ One ∷ One ∷ One ∷ One ∷ One ∷ One ∷ One ∷ Marker ∷ One ∷ One ∷ One ∷ One ∷ One ∷ One ∷ One ∷ One ∷ One ∷ Marker ∷ One ∷ One ∷ One ∷ One ∷ One ∷ One ∷ One ∷ One ∷ One ∷ Marker ∷ One ∷ One ∷ One ∷ One ∷ One ∷ One ∷ One ∷ One ∷ One ∷ Marker ∷ One ∷ One ∷ One ∷ One ∷ One ∷ One ∷ One ∷ One ∷ One ∷ Marker ∷ One ∷ One ∷ One ∷ One ∷ One ∷ One ∷ One ∷ One ∷ One ∷ Marker ∷ One ∷ One ∷ One ∷ One ∷ One ∷ One ∷ One ∷ One ∷ One ∷ Marker ∷ One ∷ One ∷ One ∷ One ∷ One ∷ One ∷ One ∷ One ∷ One ∷ Marker ∷ One ∷ One ∷ One ∷ One ∷ One ∷ One ∷ One ∷ One ∷ One ∷ Marker ∷ One ∷ One ∷ One ∷ One ∷ One ∷ One ∷ One ∷ One ∷ One ∷ Marker ∷ []

unfoldable pub frame : ℕ → List Symbol
frame zero = frame_0
frame (suc zero) = frame_1
frame (suc (suc zero)) = frame_2
frame (suc (suc (suc n))) = nothing

unfoldable pub line : ℕ → Symbol
line k = get_or (frame (k / 100)) (k % 100) Zero

-- ---- what is checked

unfoldable pub right : ℕ → Symbol → Bool
right i Marker = is_marker_place i
right i Bad = false
right i Zero = not (is_marker_place i)
right i One = not (is_marker_place i)

pub not_true : (b : Bool) → not b ≡ true → b ≡ false
not_true false e = refl
not_true true e = absurd cc

right_is : (i : ℕ) (x : Symbol) → right i x ≡ true → IsRight i (Some x)
unfolding right
right_is i Marker e = e
right_is i Bad e = absurd cc
right_is i Zero e = not_true (is_marker_place i) e
right_is i One e = not_true (is_marker_place i) e

unfoldable pub right_from : ℕ → List Symbol → Bool
right_from i [] = true
right_from i (x ∷ s) = right i x && right_from (i + 1) s

pub right_at : (i j : ℕ) (s : List Symbol) → right_from i s ≡ true → j < length s → IsRight (i + j) (Some (get_or s j Zero))
unfolding right_from
right_at i j [] e less = absurd (omega (arith, less))
right_at i zero (x ∷ s) e less = let same : i + 0 ≡ i = omega arith in rw same (right_is i x (both (right i x) (right_from (i + 1) s) e).0)
right_at i (suc j) (x ∷ s) e less =
    let same : i + suc j ≡ i + 1 + j = omega arith in
    rw same (right_at (i + 1) j s (both (right i x) (right_from (i + 1) s) e).1 (omega (arith, less)))

frame_is : (f : ℕ) → (length (frame f) ≡ 100) × (right_from 0 (frame f) ≡ true)
unfolding frame right_from right
frame_is zero = (refl, refl)
frame_is (suc zero) = (refl, refl)
frame_is (suc (suc zero)) = (refl, refl)
frame_is (suc (suc (suc n))) = (refl, refl)

is_true_line : IsTrueLine line
unfolding line
is_true_line k =
    let is = frame_is (k / 100) in
    let none : k % 100 ≡ 0 + k % 100 = omega arith in
    subst (λ (i : ℕ). IsRight i (Some (get_or (frame (k / 100)) (k % 100) Zero))) (sym none) (right_at 0 (k % 100) (frame (k / 100)) is.1 (omega (arith, is.0)))

pub same_list : (xs ys : List Symbol) → length xs ≡ length ys → ((i : ℕ) → i < length ys → slice_get xs i ≡ slice_get ys i) → xs ≡ ys
same_list [] [] l h = refl
same_list [] (y ∷ ys) l h = absurd cc
same_list (x ∷ xs) [] l h = absurd cc
same_list (x ∷ xs) (y ∷ ys) l h =
    let head : x ≡ y = same_Some x y (h 0 (omega arith)) in
    let tail : xs ≡ ys = same_list xs ys (omega (arith, l)) (λ i less. h (suc i) (omega (arith, less))) in
    rw (head, tail) refl

stands : (f : ℕ) (s : List Symbol) → StandAt line (100 * f) s → length s ≡ 100 → s ≡ frame f
unfolding line
stands f s at long =
    let is = frame_is f in
    same_list s (frame f) (omega (arith, long, is.0)) (λ i less.
    (let low : i < 100 = omega (arith, less, is.0) in
    let div : (100 * f + i) / 100 ≡ f = omega (arith, low) in
    let rest : (100 * f + i) % 100 ≡ i = omega (arith, low) in
    let get : slice_get s i ≡ Some (get_or (frame ((100 * f + i) / 100)) ((100 * f + i) % 100) Zero) = at i low in
    let got : slice_get s i ≡ Some (get_or (frame f) i Zero) = get ∙ rw (div, rest) refl in
    got ∙ sym (slice_get-get_or (frame f) i Zero less)))

marked : (claim_of 0).mark ≡ true_mark [] (at 0)
unfolding is_month_end four_years
marked = refl

pub true_claim : (n sod : ℕ) → sod ≡ 43200 + n → sod < 86341 → IsTrueClaim noon (n + 1) (claim_of sod)
true_claim n sod is less = record {
  second = (n, refl, record { from = omega arith; to = omega arith; sod = omega (arith, less); sum = (let s : 0 + sod ≡ 43200 + n = omega (arith, is) in s) });
  mark = (let low : nat_lt sod 86341 ≡ true = lt-ltb sod 86341 less in rw low marked);
}

pub same_claim : (c d : Claim) → tells.Claim c ≡ tells.Claim d → c ≡ d
same_claim c d e = cc

pub told_0 : told_of rules frame_0 ≡ tells.Claim (claim_of 43200)
unfolding told_of frame_told coded_told ones values_of field_at control_of offset_in utc_minute is_month_end four_years
told_0 = refl

pub told_1 : told_of rules frame_1 ≡ tells.Claim (claim_of 43201)
unfolding told_of frame_told coded_told ones values_of field_at control_of offset_in utc_minute is_month_end four_years
told_1 = refl

pub told_2 : told_of rules frame_2 ≡ tells.Claim (claim_of 43202)
unfolding told_of frame_told coded_told ones values_of field_at control_of offset_in utc_minute is_month_end four_years
told_2 = refl

unfoldable pub IsNoClaim : Told → Type 0
IsNoClaim (tells.Claim c) = ⊥
IsNoClaim tells.Silence = Unit {0}
IsNoClaim (tells.Fault f) = Unit {0}
IsNoClaim (tells.Poor q) = Unit {0}

pub told_none : IsNoClaim (told_of rules nothing)
unfolding IsNoClaim told_of frame_told coded_told ones values_of field_at control_of offset_in utc_minute is_month_end four_years
told_none = tt

carried : (f : ℕ) (c : Claim) → told_of rules (frame f) ≡ tells.Claim c → IsTrueClaim noon (f + 1) c
unfolding frame IsNoClaim
carried zero c e = subst (λ (d : Claim). IsTrueClaim noon 1 d) (same_claim (claim_of 43200) c (sym told_0 ∙ e)) (true_claim 0 43200 refl (omega arith))
carried (suc zero) c e = subst (λ (d : Claim). IsTrueClaim noon 2 d) (same_claim (claim_of 43201) c (sym told_1 ∙ e)) (true_claim 1 43201 refl (omega arith))
carried (suc (suc zero)) c e = subst (λ (d : Claim). IsTrueClaim noon 3 d) (same_claim (claim_of 43202) c (sym told_2 ∙ e)) (true_claim 2 43202 refl (omega arith))
carried (suc (suc (suc n))) c e = absurd (subst IsNoClaim e told_none)

pub is_line : IsLineOf rules noon line
is_line = record {
  right = is_true_line;
  truth = λ f s c at carries.
      let same : s ≡ frame f = stands f s at carries.reads.len in
      carried f c (ap (told_of rules) (sym same) ∙ (carries_is_told rules s c).1 carries);
}

-- ---- the calls: 300 elements of three lines, each told of the lines in turn, and two ticks

unfoldable pub width_of : Symbol → ℕ
width_of Zero = 2000
width_of One = 5000
width_of Marker = 8000
width_of Bad = 0

-- the liar sends the frame of another of these seconds
unfoldable pub lie : ℕ → Symbol
lie k = get_or (frame ((k / 100 + 1) % 3)) (k % 100) Zero

unfoldable pub pulse_told : ℕ → ℕ → Call
pulse_told zero k = Hear 0 (element_at edges k + 400) (width_of (line k))
pulse_told (suc zero) k = Hear 1 (element_at edges k - 400) (width_of (line k))
pulse_told (suc (suc i)) k = Hear 2 (element_at edges k + 999) (width_of (lie k))

unfoldable pub with_element : ℕ → List Call → List Call
with_element k calls = pulse_told 2 k ∷ pulse_told 1 k ∷ pulse_told 0 k ∷ calls

-- a tick 2 ms behind each edge
unfoldable pub with_tick : ℕ → List Call → List Call
with_tick k calls = cond ((k % 100 == 0) && nat_le 100 k) (Tick (edges (k / 100) + 2000) ∷ calls) calls

unfoldable pub elements_before : ℕ → List Call
elements_before zero = []
elements_before (suc k) = with_element k (with_tick k (elements_before k))

unfoldable pub calls_3 : List Call
calls_3 = elements_before 300

abbrev pub now_3 : ℕ
now_3 = 4296502300

abbrev pub now_4 : ℕ
now_4 = 4297510400

abbrev pub life_4 : List Call
life_4 = Tick now_4 ∷ ([] ++ (Tick now_3 ∷ calls_3))

pub order_4 : AreInOrder 4293400000 of.Three life_4
unfolding calls_3 elements_before with_element pulse_told with_tick width_of lie line frame in_order have_risen is_after
order_4 = order_is 4293400000 of.Three life_4 refl

pub truth_4 : AreTrueAtTicks (IsTrueLately 450 rules noon edges) 1 life_4
unfolding calls_3 elements_before with_element pulse_told with_tick width_of lie are_true_at_ticks are_true_lately are_lately last_before is_pulse_of is_same line frame
truth_4 = truly_is 450 rules noon edges line is_line 400 1 life_4 refl

abbrev pub device : Keeping
device = new_keeping rules clock no_table new_lines

abbrev pub silence : Tells
silence = record { a = tells.Silence; b = tells.Silence; c = tells.Silence; d = tells.Silence; e = tells.Silence }

-- the frames of lines 1 and 0 end 401 us before the edge and 399 us behind it, 800 us apart. So the
-- lines agree on the middle, 1 us before the edge, and its bound is that of a true line's frame, 450 us
-- with the drift of an element, and half of that
abbrev beat_3 : Beat
beat_3 = record {
  report = record { announce = Some (at 43203); lock = lock.Locked; cause = cause.Voted };
  told = record silence { a = tells.Claim (claim_of 43202); b = tells.Claim (claim_of 43202); c = tells.Claim (claim_of 43200) };
  edge_us = 1533003;
  bound_us = 850;
  missed = 0;
  moved = 0;
  against_table = false;
}

-- a second later by the own counter, which drifts 100 us more
abbrev pub beat_4 : Beat
beat_4 = record {
  report = record { announce = Some (at 43204); lock = lock.Holdover 1; cause = cause.Held };
  told = silence;
  edge_us = 2533003;
  bound_us = 950;
  missed = 0;
  moved = 0;
  against_table = false;
}

answer_3 : answer_at (after_calls device calls_3) (now_3 % 2 ^ 32) ≡ Some beat_3
unfolding calls_3 elements_before with_element pulse_told with_tick width_of lie line frame step_checked goes_against step_of told_of frame_told coded_told ones values_of field_at control_of offset_in utc_minute is_month_end four_years
answer_3 = refl

pub answer_4 : answer_at (after_calls device (Tick now_3 ∷ calls_3)) (now_4 % 2 ^ 32) ≡ Some beat_4
unfolding calls_3 elements_before with_element pulse_told with_tick width_of lie line frame step_checked goes_against step_of told_of frame_told coded_told ones values_of field_at control_of offset_in utc_minute is_month_end four_years
answer_4 = refl

-- so the laws speak of it
pub truly_told : TellAlwaysTruly (IsTrueLately 450 rules noon edges) clock rules noon edges 0 0
truly_told now half end pulses claim is frame soon = true_by_any clock rules noon 100 edges half now end pulses claim steady is frame soon

told_4 : IsToldInHoldover noon edges 0 0 clock now_4 beat_4 (at 43204)
told_4 = device_true rules clock no_table new_lines 4293400000 are_new (IsTrueLately 450 rules noon edges) noon edges 0 0 is_device (omega arith) truly_told (Tick now_3 ∷ calls_3) now_4 beat_4 (at 43204) order_4 truth_4 (plain_steps edges 0 0 (device) 4293400000 (record { off = refl; none = refl }) is_device.steady (life_4)) answer_4 refl

-- clocks that are all 1 ms early: by seconds of UTC that begin so much later the edge that is told lies no
-- further off than its bound, 950 us, and 1 ms
abbrev utc : ℕ → ℕ
utc n = 4293501000 + 1000100 * n

by_utc : IsDevice noon 100 utc clock.reader_rules no_table
by_utc = record { steady = record { few = omega arith; steady = record { least = λ n. omega arith; most = λ n. omega arith } }; sound = is_timeline; knows = inl true_table }

by_clocks : (now : ℕ) (pulses : List Pulse) → IsTrueLately 450 rules noon edges now pulses → IsTrueByItsClock 1000 450 100 rules noon utc now pulses
by_clocks now pulses is = record { own = edges; steady = steady; near = λ n. record { least = omega arith; most = omega arith }; truth = is }

told_early : IsToldInHoldover noon utc 1000 1000 clock now_4 beat_4 (at 43204)
told_early =
    device_true rules clock no_table new_lines 4293400000 are_new (IsTrueByItsClock 1000 450 100 rules noon utc) noon utc 1000 1000 by_utc (omega arith) (clocks_tell_truly 1000 clock rules noon utc)
    (Tick now_3 ∷ calls_3) now_4 beat_4 (at 43204) order_4 (still_true (IsTrueLately 450 rules noon edges) (IsTrueByItsClock 1000 450 100 rules noon utc) by_clocks 1 life_4 truth_4) (plain_steps utc 1000 1000 (device) 4293400000 (record { off = refl; none = refl }) by_utc.steady (life_4)) answer_4 refl

-- the vote of the tick before leaves 1,700 us, from 851 us before the edge on, and a second later the
-- counter's drift 100 us more at each end; no vote contradicted another
made_450 : Made
made_450 = record { rules = rules; clock = clock; table = no_table; lines = new_lines; fresh = are_new }

no_stray : (life_of made_450 (Tick now_4 ∷ (Tick now_3 ∷ calls_3))).state.strays ≡ 0
unfolding made_450
no_stray = never_strays noon edges made_450 4293400000 (Tick now_4 ∷ (Tick now_3 ∷ calls_3)) (record { is = is_device; learns = inl refl; order = order_4; truth = truth_4 })

later_4 : IsLaterSecond noon (at 43203) (at 43204)
later_4 = device_in_order rules clock no_table new_lines 4293400000 are_new (IsTrueLately 450 rules noon edges) noon edges 0 0 is_device (omega arith) truly_told calls_3 [] now_3 now_4 beat_3 beat_4 (at 43203) (at 43204) order_4 truth_4 (plain_steps edges 0 0 (device) 4293400000 (record { off = refl; none = refl }) is_device.steady (life_4)) answer_3 refl answer_4 refl

-- by the vote of its third second it has healed from whatever came before
abbrev pub made : Made
made = record { rules = rules; clock = clock; table = no_table; lines = new_lines; fresh = are_new }

abbrev vote_3 : Vote
vote_3 = record { claim = claim_of 43202; edge_us = 1533003; bound_us = 850 }

voted_3 : vote_at (after_calls device calls_3) (now_3 % 2 ^ 32) ≡ Some vote_3
unfolding calls_3 elements_before with_element with_tick width_of lie line frame step_checked goes_against step_of told_of frame_told coded_told ones values_of field_at control_of offset_in utc_minute is_month_end four_years pulse_told
voted_3 = refl

healed_4 : HasHealed (IsTrueLately 450) noon edges made 4293400000 life_4
healed_4 = record { is = is_device; plain = refl; order = order_4; later = Tick now_4 ∷ []; mend = now_3; earlier = calls_3; are = refl; vote = vote_3; voted = voted_3; beat = beat_3; answer = answer_3; truth = truth_4.1.0; since = (truth_4.0, tt) }

-- an event 0.25 s behind the last edge is stamped with its second, 2 ms before it with the one before
stamp_4 : (stamp_at (after_tick (after_calls device (Tick now_3 ∷ calls_3)) (now_4 % 2 ^ 32)) 2783003 ≡ Some (record { second = at 43204; offset_us = 250000; bound_us = 950 }))
    × (stamp_at (after_tick (after_calls device (Tick now_3 ∷ calls_3)) (now_4 % 2 ^ 32)) 2531003 ≡ Some (record { second = at 43203; offset_us = 998000; bound_us = 850 }))
unfolding calls_3 elements_before with_element pulse_told with_tick width_of lie line frame step_checked goes_against step_of told_of frame_told coded_told ones values_of field_at control_of offset_in utc_minute is_month_end four_years
stamp_4 = (refl, refl)

-- ---- the same pulses by a loop that has a queue for each line, and paused for the third second: it
-- tells line 0's of it, then line 1's, then line 2's, and then ticks

queued : ℕ → ℕ → ℕ → List Call → List Call
queued port from zero calls = calls
queued port from (suc n) calls = pulse_told port (from + n) ∷ queued port from n calls

unfoldable by_lines : List Call
by_lines = queued 2 200 100 (queued 1 200 100 (queued 0 200 100 (with_tick 200 (elements_before 200))))

order_by_lines : AreInOrder 4293400000 of.Three (Tick now_3 ∷ by_lines)
unfolding by_lines queued elements_before with_element pulse_told with_tick width_of lie line frame in_order have_risen is_after
order_by_lines = order_is 4293400000 of.Three (Tick now_3 ∷ by_lines) refl

truth_by_lines : AreTrueAtTicks (IsTrueLately 450 rules noon edges) 1 (Tick now_3 ∷ by_lines)
unfolding by_lines queued elements_before with_element pulse_told with_tick width_of lie are_true_at_ticks are_true_lately are_lately last_before is_pulse_of is_same line frame
truth_by_lines = truly_is 450 rules noon edges line is_line 400 1 (Tick now_3 ∷ by_lines) refl

answer_by_lines : answer_at (after_calls device by_lines) (now_3 % 2 ^ 32) ≡ Some beat_3
unfolding by_lines queued elements_before with_element pulse_told with_tick width_of lie line frame step_checked goes_against step_of told_of frame_told coded_told ones values_of field_at control_of offset_in utc_minute is_month_end four_years
answer_by_lines = refl

told_by_lines : IsToldInHoldover noon edges 0 0 clock now_3 beat_3 (at 43203)
told_by_lines = device_true rules clock no_table new_lines 4293400000 are_new (IsTrueLately 450 rules noon edges) noon edges 0 0 is_device (omega arith) truly_told by_lines now_3 beat_3 (at 43203) order_by_lines truth_by_lines (plain_steps edges 0 0 (device) 4293400000 (record { off = refl; none = refl }) is_device.steady (Tick now_3 ∷ by_lines)) answer_by_lines refl

-- ---- what the premises let through

-- a line that brings nothing is true; one that brings a pulse 600 us off is not, for 1.2 s
silent : (now : ℕ) → IsTrueLately 450 rules noon edges now []
silent now = record { line = line; next = 0; is_line = is_line; are = tt }

stray_pulse : List Pulse
stray_pulse = pulse_at 4293500600 8000 ∷ []

stray : ¬ IsTrueLately 450 rules noon edges 4293600000 stray_pulse
unfolding stray_pulse
stray is = elim is.are [
  | inl old ↦ absurd (omega (arith, old.0))
  | inr new ↦ (let low : new.0 % 100 < 100 = omega arith in let time = even_element 1000100 edges (λ n. omega arith) new.0 in absurd (omega (arith, low, time, new.2.0.0, new.2.0.1)))
]

stray_old : IsTrueLately 450 rules noon edges 4294700601 stray_pulse
unfolding stray_pulse
stray_old = record { line = line; next = 0; is_line = is_line; are = inl (omega arith, tt) }

-- one with a pulse of another width at a frame's first element is none either
damaged_pulse : List Pulse
damaged_pulse = pulse_at 4293500000 5000 ∷ []

damaged : ¬ IsTrueLately 450 rules noon edges 4293600000 damaged_pulse
unfolding damaged_pulse
damaged is = elim is.are [
  | inl old ↦ absurd (omega (arith, old.0))
  | inr new ↦
      let first : new.0 % 100 ≡ 0 = place_zero new.0 new.2.0.0 new.2.0.1 in
      let one : is.line new.0 ≡ One = sym new.2.1 in
      no_marker (subst (λ (i : ℕ). IsRight i (Some One)) first (subst (λ (x : Symbol). IsRight (new.0 % 100) (Some x)) one (is.is_line.right new.0)))
]
  where
    place_zero : (j : ℕ) → element_at edges j < 4293500000 + 450 → 4293500000 < element_at edges j + 450 → j % 100 ≡ 0
    place_zero j least most = let at = even_element 1000100 edges (λ n. omega arith) j in omega (arith, at, least, most)

    no_marker : ¬ IsRight 0 (Some One)
    no_marker e = cc

-- two lines that lie in turn, one behind the other within 1.2 s, are two untrue ones
in_turn : List Call
in_turn = Hear 1 4293590600 8000 ∷ Hear 0 4293500600 8000 ∷ []

rotating : ¬ AreTrueLately (IsTrueLately 450 rules noon edges) 1 4293600000 in_turn
unfolding in_turn
rotating is = elim (cases_Bool (is.untrue 0)) [
  | inr right ↦ stray_at 4293500600 (inl refl) (is.true_lines 0 (omega arith) right)
  | inl lies ↦ elim (cases_Bool (is.untrue 1)) [
    | inr right ↦ stray_at 4293590600 (inr refl) (is.true_lines 1 (omega arith) right)
    | inl too ↦ two (is.untrue 0) (is.untrue 1) (is.untrue 2) (is.untrue 3) (is.untrue 4) lies too is.few
  ]
]
  where
    stray_at : (rise : ℕ) → (rise ≡ 4293500600) ⊎ (rise ≡ 4293590600) → ¬ IsTrueLately 450 rules noon edges 4293600000 (pulse_at rise 8000 ∷ [])
    stray_at rise (inl at) is = elim is.are [
      | inl old ↦ absurd (omega (arith, old.0, at))
      | inr new ↦ (let low : new.0 % 100 < 100 = omega arith in let time = even_element 1000100 edges (λ n. omega arith) new.0 in absurd (omega (arith, low, at, time, new.2.0.0, new.2.0.1)))
    ]
    stray_at rise (inr at) is = elim is.are [
      | inl old ↦ absurd (omega (arith, old.0, at))
      | inr new ↦ (let low : new.0 % 100 < 100 = omega arith in let time = even_element 1000100 edges (λ n. omega arith) new.0 in absurd (omega (arith, low, at, time, new.2.0.0, new.2.0.1)))
    ]

    two : (a b c d e : Bool) → a ≡ true → b ≡ true → ¬ (0 + cond a 1 0 + cond b 1 0 + cond c 1 0 + cond d 1 0 + cond e 1 0 ≤ 1)
    two true true c d e p q few = omega (arith, few)
    two true false c d e p q few = absurd cc
    two false b c d e p q few = absurd cc

-- a device that was off for half an hour, and was not restarted, is not in order
power_cut : (start : ℕ) (calls : List Call) → ¬ AreInOrder start of.Three (Tick (last_tick start calls + 1800000000) ∷ calls)
power_cut start calls order = omega (arith, order.1)

-- nor is a tick more than 4 ms before a pulse rose that was told, or a pulse behind a tick of more than
-- half a second after it rose
too_early : (start rise : ℕ) → ¬ AreInOrder start of.Three (Tick rise ∷ (Hear 0 (rise + 4001) 2000 ∷ []))
too_early start rise order = (let risen : rise + 4001 ≤ rise + 4000 = order.2 0 in omega (arith, risen))

too_late : (start rise : ℕ) → ¬ AreInOrder start of.Three (Hear 0 rise 2000 ∷ (Tick (rise + 500001) ∷ []))
too_late start rise order = (let late : rise + 500001 ≤ rise + 500000 = (order.1 refl).1 in omega (arith, late))

-- a restart leaves what is new
as_new : (k : Keeping) (lines : Lines) → restarted k lines ≡ new_keeping k.rules k.clock k.table lines
as_new k lines = refl

-- a line that is stuck high for half a second or longer changes nothing, and ends nothing that the
-- laws say
stuck : (k : Keeping) (start rise : ℕ) → (after_pulse k 0 (rise % 2 ^ 32) 500000 ≡ k) × AreInOrder start of.Three (Hear 0 rise 500000 ∷ [])
stuck k start rise = (refl, (omega arith, (λ narrow. absurd cc), tt))

-- a device that holds over for at most 57 seconds needs no true table, and one that does for longer
-- needs one
abbrev rules_for : ℕ → ReaderRules
rules_for holdover = record { lock_after = 2; holdover = holdover }

abbrev false_table : TableValue
false_table = table 6209 ((6209, leap.Insert) ∷ [])

lies : ¬ IsTrueTable noon false_table
unfolding is_month_end four_years
lies is = let none : Some leap.Insert ≡ None = is.leaps 6209 refl (omega arith) (omega arith) in cc

short_holdover : IsDevice noon 100 edges (rules_for 57) false_table
short_holdover = record { steady = steady; sound = is_timeline; knows = inr (omega arith) }

longer_holdover : ¬ IsDevice noon 100 edges (rules_for 58) false_table
longer_holdover is = elim is.knows [
  | inl true_table ↦ lies true_table
  | inr short ↦ absurd (omega (arith, short))
]
