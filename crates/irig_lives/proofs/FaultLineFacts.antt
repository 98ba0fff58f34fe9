-- Lines with one fault, of which a frame ends as early and as late as the law of kept frames allows;
-- and why what is at fault has to come in place.
use Rattle.irig_frame.specs.Faults.{values_of, field_at}
use Rattle.irig_vote.specs.declared.redundancy.Redundancy.TheVariants as of
use Rattle.irig_port.specs.Limits.{quality_in}
use Rattle.irig_lines.specs.Widths.{half_us}
use Rattle.irig_lines.specs.declared.setup.ClockRules.{ClockRules}
use Rattle.std.proofs.Common.{◌≡◌, ℕ, zero, suc, ◌+◌, ◌-◌, ◌*◌, ◌/◌, ◌%◌, ◌<◌, ◌≤◌, false, List, [], ◌∷◌, take, drop, Some, None, pos, refl, subst, ap, ◌∙◌, arith, sym}
use Rattle.irig_frame.specs.declared.symbol.Symbol.{Symbol}
use Rattle.irig_frame.specs.declared.symbol.Symbol.TheVariants.{Zero, One, Marker, Bad}
use Rattle.irig_frame.specs.Symbols.{symbol_of, width_of}
use Rattle.irig_frame.specs.Decoder.{IsRight}
use Rattle.irig_control.specs.Parity.{ones}
use Rattle.irig_sync.specs.Lines.{Pulse, pulse_at, AreOnTime, IsTrueLine, symbols_of_last}
use Rattle.irig_sync.specs.Edges.{second_long, element_at}
use Rattle.irig_sync.specs.FaultyLines.{IsPulseOf, ArePulsesBefore, HasOneFault}
use Rattle.irig_sync.proofs.LineLaws.{on_time_is}
use Rattle.irig_time.specs.declared.mark.Mark.TheVariants.{Unspoken}
use Rattle.irig_time.specs.declared.claim.Claim.{Claim}
use Rattle.irig_time.specs.Days.{is_month_end, four_years}
use Rattle.irig_time.specs.Timelines.{IsTrueClaim, true_mark}
use Rattle.irig_control.specs.Control.{word_of, control_of}
use Rattle.irig_frame.specs.Encoder.{frame_of_coded}
use Rattle.irig_time.specs.CodedTime.{time_shown}
use Rattle.irig_time.specs.Frames.{frame_of_second}
use Rattle.irig_time.specs.Timelines.{second_at}
use Rattle.irig_time.specs.TimelineFaults.{IsTimeline}
use Rattle.irig_gen.specs.Frames.{GeneratorValue, gen, IsTrueFrame, IsFrameOrNone}
use Rattle.irig_gen.specs.Sent.{frame_of}
use Rattle.irig_gen.proofs.SentLaws.{frame_of_is}
use Rattle.irig_gen.proofs.GenLaws.{true_frames}
use Rattle.irig_port.specs.Told.{told_of}
use Rattle.irig_port.proofs.CarriesLaws.{carries_is_told}
use Rattle.irig_lines.specs.Edges.{IsQuartz}
use Rattle.irig_lines.specs.Refusals.{within_of}
use Rattle.irig_lines.specs.Lines.{line_of, AreEven, IsLastBefore, IsFrameOf, IsCheckedLineOf, HasOneFaultInPlace, IsTrueButForFaults}
use Rattle.irig_timekeeper.proofs.FaultLines.{faults_are_true, dropped, taken, faultless}
use Rattle.irig_lives.proofs.LifeFacts.{noon, rules, frame_0, told_0, usual, no_delays}
use Rattle.irig_lives.proofs.SentLines.{sent_is_checked}

-- ---- the world

-- by a counter that is 100 us a second fast, and by one that is as slow
abbrev pub fast : ℕ → ℕ
fast n = 1000000 + 1000100 * n

abbrev slow : ℕ → ℕ
slow n = 1000000 + 999900 * n

pub fast_steady : IsQuartz 100 fast
fast_steady = record { few = omega arith; steady = record { least = λ n. omega arith; most = λ n. omega arith } }

slow_steady : IsQuartz 100 slow
slow_steady = record { few = omega arith; steady = record { least = λ n. omega arith; most = λ n. omega arith } }

abbrev pub claim : Claim
claim = record { at = record { day = 6209; sod = 43200 }; mark = Unspoken }

pub timeline : IsTimeline noon
timeline = record { sound = refl }

marked : Unspoken ≡ true_mark [] (record { day = 6209; sod = 43200 })
unfolding is_month_end four_years
marked = refl

is_true_claim : IsTrueClaim noon 1 claim
is_true_claim = record { second = (0, refl, record { from = omega arith; to = omega arith; sod = omega arith; sum = refl }); mark = marked }

-- ---- the line: a frame of noon, and nothing behind it

-- a clock sends it
abbrev clock : GeneratorValue
clock = gen (record { half_hours = pos 0; dst = false }) [] rules 0 None 0

sends : frame_of None clock noon 0 ≡ Some frame_0
unfolding frame_of second_at frame_of_second frame_of_coded time_shown word_of ones is_month_end four_years
sends = refl

is_true_frame : IsTrueFrame clock noon 0 frame_0
is_true_frame = subst (IsFrameOrNone None clock noon 0) sends (frame_of_is None clock noon 0 (record { sound = refl }) timeline)

unfoldable pub line : ℕ → Symbol
line = line_of (λ f. frame_0) 1

pub is_checked : IsCheckedLineOf rules noon line
unfolding line
is_checked = sent_is_checked rules noon 1 (λ f. frame_0) (λ f low. let first : 0 ≡ f = omega (arith, low) in true_frames clock noon f frame_0 (record { sound = refl }) timeline (subst (λ (n : ℕ). IsTrueFrame clock noon n frame_0) first is_true_frame))

is_true_line : IsTrueLine line
is_true_line = is_checked.right

-- ---- its first pulses, so far apart, each so much later than 449 us early

abbrev pub pulse : ℕ → ℕ → ℕ → Pulse
pulse step off k = pulse_at (999551 + off + step * k) (width_of (line k))

abbrev pub pulses : ℕ → ℕ → ℕ → List Pulse
pulses step off zero = []
pulses step off (suc k) = pulse step off k ∷ pulses step off k

width_is : (i : ℕ) (x : Symbol) → IsRight i (Some x) → symbol_of (width_of x) ≡ x
width_is i Zero right = refl
width_is i One right = refl
width_is i Marker right = refl
width_is i Bad right = absurd right

module _ (step : ℕ) (least : 9000 ≤ step) (most : step < 11000) (off : ℕ) where
  in_time : (n : ℕ) → n < 100 → AreOnTime (suc n) (pulses step off (suc n))
  in_time zero low = tt
  in_time (suc n) low =
      let more : step * suc n ≡ step * n + step = omega arith in
      ((on_time_is (999551 + off + step * suc n - (999551 + off + step * n))).1 (omega (arith, more, least), omega (arith, more, most)), in_time n (omega (arith, low)))

module _ (edges : ℕ → ℕ) (start : edges 0 ≡ 1000000) (step : ℕ) (long : edges 1 ≡ 1000000 + 100 * step) (off : ℕ) (few : off ≤ 898) where
  pub is_pulse : (k : ℕ) → k < 100 → IsPulseOf line edges 450 k (pulse step off k)
  is_pulse k low =
      let frame : k / 100 ≡ 0 = omega (arith, low) in
      let place : k % 100 ≡ k = omega (arith, low) in
      let second : second_long edges 0 ≡ 100 * step = omega (arith, start, long) in
      let time : element_at edges k ≡ 1000000 + step * k = rw (frame, place, second) (omega (arith, start)) in
      ((omega (arith, time), omega (arith, time, few)), width_is (k % 100) (line k) (is_true_line k))

  pub are : (n : ℕ) → n ≤ 100 → ArePulsesBefore line edges 450 n (pulses step off n)
  are zero most = tt
  are (suc n) most = (is_pulse n (omega (arith, most)), are n (omega (arith, most)))

  -- behind what is at fault
  pub rest_is : (n k : ℕ) → k ≤ 100 → HasOneFaultInPlace 450 line edges (take 100 (drop n (pulses step off k)))
  rest_is n k most =
      let left = dropped 450 line edges n k (pulses step off k) (are k most) in
      faultless 450 line edges left.0 (take 100 (drop n (pulses step off k))) (taken 450 line edges 100 left.0 (drop n (pulses step off k)) left.1)

-- by lines that are so exact, and such a counter
abbrev setup : ClockRules
setup = record { reader_rules = record { lock_after = 1; holdover = 100 }; redundancy = of.One; within = within_of 450; limits = usual; drift_us = 100; wander_ppb = 0; delays = no_delays; prefers_frames = false }

-- the frame says quality 0
says_0 : quality_in frame_0 ≡ 0
unfolding values_of field_at control_of
says_0 = refl

frame_by : (ps : List Pulse) (end : ℕ) → AreOnTime 100 ps → symbols_of_last 100 ps ≡ frame_0 → IsLastBefore end ps → AreEven 450 100 ps → IsFrameOf setup rules claim 449 end ps
frame_by ps end on same last even = record {
  late = 0;
  on_time = on;
  carries = (carries_is_told rules (symbols_of_last 100 ps) claim).0 (ap (told_of rules) same ∙ told_0);
  last = last;
  even = even;
  says = ap (half_us setup) (sym (ap quality_in same ∙ says_0));
  votes = (let none = ap quality_in same ∙ says_0 in omega (arith, none));
}

-- ---- two pulses came in place of P98 and P99, the later one as early as an even frame may have it: the
-- frame ends 1.547 ms early

abbrev early : List Pulse
early = pulse_at 1988553 8000 ∷ (pulse_at 1978648 2000 ∷ pulses 10001 0 98)

early_symbols : symbols_of_last 100 early ≡ frame_0
unfolding line
early_symbols = refl

early_line : (now : ℕ) → IsTrueButForFaults 450 rules noon fast now early
early_line now = record { line = line; is_line = is_checked; few = λ n soon. by n }
  where
    by : (n : ℕ) → HasOneFaultInPlace 450 line fast (take 100 (drop n early))
    by zero = record {
      one = record {
        element = 98;
        after = [];
        fault = pulse_at 1988553 8000 ∷ (pulse_at 1978648 2000 ∷ []);
        before = pulses 10001 0 98;
        parts = refl;
        few = omega arith;
        later = tt;
        earlier = are fast refl 10001 refl 0 (omega arith) 98 (omega arith);
      };
      in_place = omega arith;
    }
    by (suc zero) = record {
      one = record {
        element = 98;
        after = [];
        fault = pulse_at 1978648 2000 ∷ [];
        before = pulses 10001 0 98;
        parts = refl;
        few = omega arith;
        later = tt;
        earlier = are fast refl 10001 refl 0 (omega arith) 98 (omega arith);
      };
      in_place = omega arith;
    }
    by (suc (suc n)) = rest_is fast refl 10001 refl 0 (omega arith) n 98 (omega arith)

early_frame : IsFrameOf setup rules claim 449 1998553 early × (1998553 + 1547 ≡ fast 1)
early_frame = (frame_by early 1998553 (refl, (refl, in_time 10001 (omega arith) (omega arith) 0 97 (omega arith))) early_symbols refl (omega arith, omega arith), refl)

-- ---- P99 came as late as it may: the frame ends 1.450 ms late

abbrev late : List Pulse
late = pulse_at 1991350 8000 ∷ pulses 9999 898 99

late_symbols : symbols_of_last 100 late ≡ frame_0
unfolding line
late_symbols = refl

late_line : (now : ℕ) → IsTrueButForFaults 450 rules noon slow now late
late_line now = record { line = line; is_line = is_checked; few = λ n soon. by n }
  where
    by : (n : ℕ) → HasOneFaultInPlace 450 line slow (take 100 (drop n late))
    by zero = record {
      one = record {
        element = 99;
        after = [];
        fault = pulse_at 1991350 8000 ∷ [];
        before = pulses 9999 898 99;
        parts = refl;
        few = omega arith;
        later = tt;
        earlier = are slow refl 9999 refl 898 (omega arith) 99 (omega arith);
      };
      in_place = omega arith;
    }
    by (suc n) = rest_is slow refl 9999 refl 898 (omega arith) n 99 (omega arith)

late_frame : IsFrameOf setup rules claim 449 2001350 late × (2001350 ≡ slow 1 + 1450)
late_frame = (frame_by late 2001350 (refl, in_time 9999 (omega arith) (omega arith) 898 98 (omega arith)) late_symbols refl (omega arith, omega arith), refl)

-- ---- two pulses, of which the later one rose behind the time of P99: the frame ends 1.547 ms late, so
-- a line on which that was one fault would not tell truly

abbrev past : List Pulse
past = pulse_at 1991447 8000 ∷ (pulse_at 1981351 2000 ∷ pulses 9999 898 98)

past_symbols : symbols_of_last 100 past ≡ frame_0
unfolding line
past_symbols = refl

past_fault : HasOneFault line slow 450 past
past_fault = record {
  element = 98;
  after = [];
  fault = pulse_at 1991447 8000 ∷ (pulse_at 1981351 2000 ∷ []);
  before = pulses 9999 898 98;
  parts = refl;
  few = omega arith;
  later = tt;
  earlier = are slow refl 9999 refl 898 (omega arith) 98 (omega arith);
}

past_frame : IsFrameOf setup rules claim 449 2001447 past × (2001447 ≡ slow 1 + 1547)
past_frame = (frame_by past 2001447 (refl, (refl, in_time 9999 (omega arith) (omega arith) 898 97 (omega arith))) past_symbols refl (omega arith, omega arith), refl)

past_line : (now : ℕ) → now ≤ 2101447 → ¬ (IsTrueButForFaults 450 rules noon slow now past)
past_line now soon is =
    let near = faults_are_true (within_of 450) rules noon 100 slow slow_steady now 2001447 past claim is past_frame.0.late past_frame.0.on_time past_frame.0.last past_frame.0.carries past_frame.0.even (omega (arith, soon)) in
    omega (arith, near.near.least, near.near.most)
