-- Two loops that announce: three lines, of which one lies, by a counter that is 100 us a second fast
-- and wraps. One ticks each 90 ms, the other 90 ms behind each time that `wait` names.
use Rattle.irig_lines.specs.VoteLimits.{usual_limits}
use Rattle.std.specs.Prelude.{◌==◌, nat_lt, nat_le, get_or, count_by}
use Rattle.std.specs.List.{range_with_len}
use Rattle.std.proofs.Common.{◌≡◌, ◌∙◌, ℕ, zero, suc, ◌+◌, ◌-◌, ◌*◌, ◌/◌, ◌%◌, ◌^◌, ◌<◌, ◌≤◌, Bool, true, false, cond, ◌&&◌, List, [], ◌∷◌, ◌++◌, drop, length, Some, None, refl, sym, ap, subst, arith, inl, inr, append-nil}
use Rattle.std.proofs.lemmas.Bool.{cases_Bool, cases_lt, ltb-true, leb-true, leb-false, eqb-false}
use Rattle.irig_frame.specs.declared.symbol.Symbol.{Symbol}
use Rattle.irig_frame.specs.declared.symbol.Symbol.TheVariants.{Zero, One, Marker, Bad}
use Rattle.irig_frame.specs.Symbols.{symbol_of}
use Rattle.irig_frame.specs.Decoder.{IsRight}
use Rattle.irig_frame.specs.Faults.{values_of, field_at}
use Rattle.irig_control.specs.Parity.{ones}
use Rattle.irig_control.specs.Control.{control_of, offset_in}
use Rattle.irig_sync.specs.Edges.{element_at}
use Rattle.irig_sync.specs.Lines.{Pulse, pulse_at, IsTimeOf, symbols_of_last}
use Rattle.irig_sync.specs.FaultyLines.{IsPulseOf, ArePulsesBefore, ArePulsesLeft}
use Rattle.irig_time.specs.Claims.{utc_minute}
use Rattle.irig_time.specs.Days.{is_month_end, four_years}
use Rattle.irig_time.specs.declared.claim.Claim.{Claim}
use Rattle.irig_time.specs.Carries.{Carries}
use Rattle.irig_time.specs.Timelines.{IsTrueClaim, IsSecond}
use Rattle.irig_port.specs.Limits.{told_within}
use Rattle.irig_port.specs.Told.{told_of, frame_told, coded_told}
use Rattle.irig_port.proofs.CarriesLaws.{carries_is_told}
use Rattle.irig_port.specs.declared.told.Told.TheVariants as tells
use Rattle.irig_vote.specs.declared.redundancy.Redundancy.TheVariants as of
use Rattle.irig_reader.specs.Rule.{step_of}
use Rattle.irig_reader.specs.declared.report.Lock.TheVariants as lock
use Rattle.irig_reader.specs.declared.report.Cause.TheVariants as cause
use Rattle.irig_timekeeper.specs.declared.clock.Beat.{Beat}
use Rattle.irig_lines.specs.Lines.{ArePulsesLately, IsLineOf, IsTrueLately, line_of}
use Rattle.irig_lines.specs.Steps.{is_pulse}
use Rattle.irig_timekeeper.specs.Keeping.{Keeping, place_told, vote_at, answer_at, wait_at}
use Rattle.irig_timekeeper.specs.Life.{Call, pulses_on, last_tick, AreInOrder, AreTrueOver, after_calls, after_call}
use Rattle.irig_timekeeper.specs.Life.Call.{Hear, Tick}
use Rattle.irig_timekeeper.specs.Announcing.{LeavesTheFirst, IsWhole, ComesWhole, Announces}
use Rattle.irig_timekeeper.specs.Loops.{TicksEach, AreToldInTime, made_at, latest, AreMadeInTurn, named, IsSoonEnough, GoesByWait, ComeInARow}
use Rattle.irig_timekeeper.proofs.LifeLaws.{own_pulses, others_pulses, no_pulse}
use Rattle.irig_lives.proofs.LifeFacts.{edges, at, noon, true_table, is_device, rules, claim_of, device, silence, made, frame_0, frame_1, frame_2, told_0, told_1, told_2, true_claim, width_of, clock}
use Rattle.irig_lives.specs.Decided.{is_after, have_risen, in_order}
use Rattle.irig_lives.proofs.DecidedLaws.{order_is}
use Rattle.irig_timekeeper.proofs.LoopLaws.{polling_announces}
use Rattle.irig_timekeeper.proofs.WaitLoops.{waiting_announces}
use Rattle.irig_lives.proofs.SentLines.{sent_is_checked, checked_is_line}
use Rattle.irig_timekeeper.specs.Rule.{step_checked, goes_against}

-- ---- four frames

abbrev frame_3 : List Symbol
frame_3 = Marker ∷ One ∷ One ∷ Zero ∷ Zero ∷ Zero ∷ Zero ∷ Zero ∷ Zero ∷ Marker ∷ Zero ∷ Zero ∷ Zero ∷ Zero ∷ Zero ∷ Zero ∷ Zero ∷ Zero ∷ Zero ∷ Marker ∷ Zero ∷ One ∷ Zero ∷ Zero ∷ Zero ∷ One ∷ Zero ∷ Zero ∷ Zero ∷ Marker ∷ Zero ∷ One ∷ One ∷ Zero ∷ Zero ∷ Zero ∷ One ∷ One ∷ Zero ∷ Marker ∷ One ∷ One ∷ Zero ∷ Zero ∷ Zero ∷ Zero ∷ Zero ∷ Zero ∷ Zero ∷ Marker ∷ Zero ∷ One ∷ One ∷ Zero ∷ Zero ∷ One ∷ Zero ∷ Zero ∷ Zero ∷ Marker ∷ Zero ∷ Zero ∷ Zero ∷ Zero ∷ Zero ∷ Zero ∷ Zero ∷ Zero ∷ Zero ∷ Marker ∷ Zero ∷ Zero ∷ Zero ∷ Zero ∷ Zero ∷ One ∷ Zero ∷ Zero ∷ Zero ∷ Marker ∷ One ∷ One ∷ Zero ∷ Zero ∷ Zero ∷ Zero ∷ One ∷ One ∷ Zero ∷ Marker ∷ Zero ∷ Zero ∷ One ∷ Zero ∷ One ∷ Zero ∷ One ∷ Zero ∷ Zero ∷ Marker ∷ []

told_3 : told_of rules frame_3 ≡ tells.Claim (claim_of 43203)
unfolding told_of frame_told coded_told ones values_of field_at control_of offset_in utc_minute is_month_end four_years
told_3 = refl

unfoldable pub frames : ℕ → List Symbol
frames zero = frame_0
frames (suc zero) = frame_1
frames (suc (suc zero)) = frame_2
frames (suc (suc (suc n))) = frame_3

abbrev line : ℕ → Symbol
line = line_of frames 4

carried : (f : ℕ) → f < 4 → (claim : Claim) × IsTrueClaim noon (f + 1) claim × Carries rules (frames f) claim
unfolding frames
carried zero low = (claim_of 43200, true_claim 0 43200 refl (omega arith), (carries_is_told rules frame_0 (claim_of 43200)).0 told_0)
carried (suc zero) low = (claim_of 43201, true_claim 1 43201 refl (omega arith), (carries_is_told rules frame_1 (claim_of 43201)).0 told_1)
carried (suc (suc zero)) low = (claim_of 43202, true_claim 2 43202 refl (omega arith), (carries_is_told rules frame_2 (claim_of 43202)).0 told_2)
carried (suc (suc (suc zero))) low = (claim_of 43203, true_claim 3 43203 refl (omega arith), (carries_is_told rules frame_3 (claim_of 43203)).0 told_3)
carried (suc (suc (suc (suc f)))) low = absurd (omega (arith, low))

is_line : IsLineOf rules noon line
is_line = checked_is_line rules noon line (sent_is_checked rules noon 4 frames carried)

-- ---- the pulses of the two lines that do not lie

unfoldable pub rise_of : ℕ → ℕ → ℕ
rise_of zero k = element_at edges k + 400
rise_of (suc i) k = element_at edges k - 400

unfoldable pub pulse : ℕ → ℕ → Pulse
pulse i k = pulse_at (rise_of i k) (width_of (line k))

unfoldable pub sent : ℕ → ℕ → List Pulse
sent i zero = []
sent i (suc k) = pulse i k ∷ sent i k

at_time : (i k : ℕ) → IsTimeOf edges 450 k (rise_of i k)
unfolding rise_of
at_time zero k = (omega arith, omega arith)
at_time (suc i) k = (omega arith, omega arith)

wide : (i : ℕ) (x : Symbol) → IsRight i (Some x) → symbol_of (width_of x) ≡ x
unfolding width_of
wide i Zero right = refl
wide i One right = refl
wide i Marker right = refl
wide i Bad right = absurd right

is_pulse_of : (i k : ℕ) → IsPulseOf line edges 450 k (pulse i k)
unfolding pulse
is_pulse_of i k = (at_time i k, wide (k % 100) (line k) (is_line.right k))

module _ (i k : ℕ) where
  recent : ℕ → List Pulse
  recent zero = []
  recent (suc n) = pulse i (k + n) ∷ recent n

  split : (n : ℕ) → sent i (k + n) ≡ recent n ++ sent i k
  unfolding sent recent
  split zero = let none : k + 0 ≡ k = omega arith in ap (sent i) none
  split (suc n) = let next : k + suc n ≡ suc (k + n) = omega arith in ap (sent i) next ∙ ap (λ (ps : List Pulse). pulse i (k + n) ∷ ps) (split n)

  are_recent : (n : ℕ) → ArePulsesBefore line edges 450 (k + n) (recent n)
  unfolding recent
  are_recent zero = tt
  are_recent (suc n) = let next : suc (k + n) ≡ k + suc n = omega arith in subst (λ (j : ℕ). ArePulsesBefore line edges 450 j (pulse i (k + n) ∷ recent n)) next (is_pulse_of i (k + n), are_recent n)

  so_many : (n : ℕ) → length (recent n) ≡ n
  unfolding recent
  so_many zero = refl
  so_many (suc n) = let rest = so_many n in omega (arith, rest)

  drop_sent : (n : ℕ) → drop n (sent i (k + n)) ≡ sent i k
  unfolding sent
  drop_sent zero = let none : k + 0 ≡ k = omega arith in ap (sent i) none
  drop_sent (suc n) = let next : k + suc n ≡ suc (k + n) = omega arith in ap (λ (j : ℕ). drop (suc n) (sent i j)) next ∙ drop_sent n

-- none of them is untrue
are_left : (i k : ℕ) → ArePulsesLeft line edges 450 k (sent i k)
unfolding sent
are_left i zero = tt
are_left i (suc k) = (k, omega arith, is_pulse_of i k, are_left i k)

-- a frame's last pulse is a marker
leaves : (i f : ℕ) → f < 4 → LeavesTheFirst 450 (edges f) (sent i (100 * f))
unfolding sent pulse frames width_of
leaves i zero low = tt
leaves i (suc zero) low = inl refl
leaves i (suc (suc zero)) low = inl refl
leaves i (suc (suc (suc zero))) low = inl refl
leaves i (suc (suc (suc (suc f)))) low = absurd (omega (arith, low))

tells_it : (i f : ℕ) → f < 4 → told_within (Some usual_limits) rules (symbols_of_last 100 (sent i (100 * f + 100))) ≡ tells.Claim (claim_of (43200 + f))
unfolding sent pulse frames width_of told_of frame_told coded_told ones values_of field_at control_of offset_in utc_minute is_month_end four_years
tells_it i zero low = refl
tells_it i (suc zero) low = refl
tells_it i (suc (suc zero)) low = refl
tells_it i (suc (suc (suc zero))) low = refl
tells_it i (suc (suc (suc (suc f)))) low = absurd (omega (arith, low))

is_whole : (i f : ℕ) → f < 4 → IsWhole clock rules noon edges (f + 1) (sent i (100 * f + 100))
is_whole i f low = record {
  line = line;
  right = is_line.right;
  f = f;
  here = refl;
  frame = recent i (100 * f) 100;
  earlier = sent i (100 * f);
  parts = split i (100 * f) 100;
  hundred = so_many i (100 * f) 100;
  are = are_recent i (100 * f) 100;
  first = leaves i f low;
  claim = claim_of (43200 + f);
  tells = tells_it i f low;
  truth = true_claim f (43200 + f) refl (omega (arith, low));
}

-- ---- the calls: each element is told of the lines by when their pulses end. The liar sends the
-- frame of another of these seconds

unfoldable pub lie : ℕ → Symbol
lie k = get_or (frames ((k / 100 + 1) % 4)) (k % 100) Zero

unfoldable pub own : ℕ → ℕ → Call
own i k = Hear i (rise_of i k) (width_of (line k))

unfoldable pub others : ℕ → Call
others k = Hear 2 (element_at edges k + 999) (width_of (lie k))

unfoldable pub with_element : ℕ → List Call → List Call
with_element k calls =
    cond (nat_lt (width_of (lie k)) (width_of (line k)))
    (own 0 k ∷ own 1 k ∷ others k ∷ calls)
    (others k ∷ own 0 k ∷ own 1 k ∷ calls)

-- with a tick before each ninth
unfoldable pub polls : ℕ → List Call
polls zero = []
polls (suc k) = with_element k (cond (k % 9 == 0) (Tick (element_at edges k - 1000) ∷ polls k) (polls k))

unfoldable polled : List Call
polled = polls 405

abbrev polled_now : ℕ
polled_now = 4297549400

unfoldable by_polls : List Call
by_polls = Tick polled_now ∷ polled

-- with one 90 ms behind each time that is named: the lines agree 1 us before the edge
waits : ℕ → List Call
waits zero = []
waits (suc k) = with_element k (cond ((k % 100 == 9) && nat_le 100 k) (Tick (edges (k / 100) + 89999) ∷ waits k) (waits k))

unfoldable waited : List Call
waited = waits 409

abbrev waited_now : ℕ
waited_now = 4297590399

unfoldable by_wait : List Call
by_wait = Tick waited_now ∷ waited

abbrev pub start : ℕ
start = 4293490000

-- ---- their order

polls_in_order : AreInOrder start of.Three by_polls
unfolding by_polls polled polls with_element own others rise_of width_of lie frames in_order have_risen is_after
polls_in_order = order_is start of.Three by_polls refl

waits_in_order : AreInOrder start of.Three by_wait
unfolding by_wait waited waits with_element own others rise_of width_of lie frames in_order have_risen is_after
waits_in_order = order_is start of.Three by_wait refl

-- ---- what they say: the frames of lines 1 and 0 end 401 us before the edge and 399 us behind it, so the
-- lines agree on the middle, and its bound is 450 us and half of what lies between their ends

abbrev beat : ℕ → Beat
beat edge = record {
  report = record { announce = Some (at 43204); lock = lock.Locked; cause = cause.Voted };
  told = record silence { a = tells.Claim (claim_of 43203); b = tells.Claim (claim_of 43203); c = tells.Claim (claim_of 43200) };
  edge_us = edge;
  bound_us = 850;
  missed = 0;
  moved = 0;
  against_table = false;
}

polls_answer : answer_at (after_calls device polled) (polled_now % 2 ^ 32) ≡ Some (beat 2533103)
unfolding polled polls with_element own others rise_of width_of lie frames step_checked goes_against step_of told_of frame_told coded_told ones values_of field_at control_of offset_in utc_minute is_month_end four_years
polls_answer = refl

waits_answer : answer_at (after_calls device waited) (waited_now % 2 ^ 32) ≡ Some (beat 2533103)
unfolding waited waits with_element own others rise_of width_of lie frames step_checked goes_against step_of told_of frame_told coded_told ones values_of field_at control_of offset_in utc_minute is_month_end four_years
waits_answer = refl

-- ---- whole frames

drop_some : (i n k m : ℕ) → m ≡ k + n → drop n (sent i m) ≡ sent i k
drop_some i n k m same = ap (λ (j : ℕ). drop n (sent i j)) same ∙ drop_sent i k n

pub comes_whole : (m : ℕ) (calls : List Call) → ((i : ℕ) → i < 2 → pulses_on i calls ≡ sent i m) → (n : ℕ) → n < 4 → 100 * n + 100 ≤ m → ComesWhole noon edges device (1 + n) calls
comes_whole m calls are n low long = record {
  whole = λ i. nat_lt i 2;
  many = (let two : count_by (λ (i : ℕ). nat_lt i 2) (range_with_len 0 5) ≡ 2 = refl in omega (arith, two));
  frames = λ i small first.
      let parts : m ≡ 100 * n + 100 + (m - (100 * n + 100)) = omega (arith, long) in
      let next : n + 1 ≡ 1 + n = omega arith in (
        m - (100 * n + 100),
        subst (λ (ps : List Pulse). IsWhole clock rules noon edges (1 + n) (drop (m - (100 * n + 100)) ps)) (sym (are i (ltb-true i 2 first)))
            (subst (IsWhole clock rules noon edges (1 + n)) (sym (drop_some i (m - (100 * n + 100)) (100 * n + 100) m parts))
            (subst (λ (j : ℕ). IsWhole clock rules noon edges j (sent i (100 * n + 100))) next (is_whole i n low))),
      );
}

polls_pulses : (i : ℕ) → i < 2 → pulses_on i by_polls ≡ sent i 405
unfolding by_polls polled polls with_element own others rise_of width_of lie frames sent pulse
polls_pulses zero low = refl
polls_pulses (suc zero) low = refl
polls_pulses (suc (suc i)) low = absurd (omega (arith, low))

waits_pulses : (i : ℕ) → i < 2 → pulses_on i by_wait ≡ sent i 409
unfolding by_wait waited waits with_element own others rise_of width_of lie frames sent pulse
waits_pulses zero low = refl
waits_pulses (suc zero) low = refl
waits_pulses (suc (suc i)) low = absurd (omega (arith, low))

polls_rest : (i : ℕ) → i < 5 → 2 < i → pulses_on i by_polls ≡ []
unfolding by_polls polled polls with_element own others rise_of width_of lie frames
polls_rest zero small high = absurd (omega (arith, high))
polls_rest (suc zero) small high = absurd (omega (arith, high))
polls_rest (suc (suc zero)) small high = absurd (omega (arith, high))
polls_rest (suc (suc (suc zero))) small high = refl
polls_rest (suc (suc (suc (suc zero)))) small high = refl
polls_rest (suc (suc (suc (suc (suc i))))) small high = absurd (omega (arith, small))

waits_rest : (i : ℕ) → i < 5 → 2 < i → pulses_on i by_wait ≡ []
unfolding by_wait waited waits with_element own others rise_of width_of lie frames
waits_rest zero small high = absurd (omega (arith, high))
waits_rest (suc zero) small high = absurd (omega (arith, high))
waits_rest (suc (suc zero)) small high = absurd (omega (arith, high))
waits_rest (suc (suc (suc zero))) small high = refl
waits_rest (suc (suc (suc (suc zero)))) small high = refl
waits_rest (suc (suc (suc (suc (suc i))))) small high = absurd (omega (arith, small))

-- ---- at each tick all lines but the third are true

unfoldable pub Left : ℕ → List Pulse → Type 0
Left k ps = ArePulsesLeft line edges 450 k ps

unfoldable pub AllLeft : ℕ → List Call → Type 0
AllLeft k calls = (i : ℕ) → i < 5 → ¬ (i ≡ 2) → Left k (pulses_on i calls)

left_tail : (k : ℕ) (p : Pulse) (ps : List Pulse) → Left k (p ∷ ps) → Left k ps
unfolding Left
left_tail k p [] left = tt
left_tail k p (q ∷ ps) left = let rest = left.3 in (rest.0, omega (arith, rest.1, left.1), rest.2, rest.3)

left_lately : (now k : ℕ) (ps : List Pulse) → Left k ps → ArePulsesLately 450 line edges now k ps
unfolding Left
left_lately now k [] left = tt
left_lately now k (p ∷ ps) left = inr (left.0, left.1, left.2, left_lately now left.0 ps left.3)

less_left : (k port rise width : ℕ) (calls : List Call) → AllLeft k (Hear port rise width ∷ calls) → AllLeft k calls
unfolding AllLeft
less_left k port rise width calls left i small other = elim (cases_Bool (is_pulse width)) [
  | inr wide ↦ subst (Left k) (no_pulse i port rise width calls wide) (left i small other)
  | inl narrow ↦ elim (cases_Bool (i == port)) [
    | inr apart ↦ subst (Left k) (others_pulses i port rise width calls apart) (left i small other)
    | inl same ↦ left_tail k (pulse_at rise width) (pulses_on i calls) (subst (Left k) (own_pulses i port rise width calls narrow same) (left i small other))
  ]
]

pub truly : (k : ℕ) (calls : List Call) → AllLeft k calls → AreTrueOver (IsTrueLately 450 rules noon edges) 1 calls []
unfolding AllLeft
truly k [] left = tt
truly k (Hear port rise width ∷ calls) left = truly k calls (less_left k port rise width calls left)
truly k (Tick now ∷ calls) left = (
  record {
    untrue = λ i. i == 2;
    few = (let one : count_by (λ (i : ℕ). i == 2) (range_with_len 0 5) ≡ 1 = refl in omega (arith, one));
    true_lines = λ i small other.
        let none : calls ++ [] ≡ calls = append-nil calls in
        subst (λ (c : List Call). IsTrueLately 450 rules noon edges now (pulses_on i c)) (sym none) (record { line = line; next = k; is_line = is_line; are = left_lately now k (pulses_on i calls) (left i small (eqb-false i 2 other)) });
  },
  truly k calls left,
)

pub all_left : (m : ℕ) (calls : List Call) → ((i : ℕ) → i < 2 → pulses_on i calls ≡ sent i m) → ((i : ℕ) → i < 5 → 2 < i → pulses_on i calls ≡ []) → AllLeft m calls
unfolding AllLeft Left
all_left m calls are none i small other = elim (cases_lt i 2) [
  | inl low ↦ subst (Left m) (sym (are i low)) (are_left i m)
  | inr from ↦ subst (Left m) (sym (none i small (omega (arith, from, other)))) tt
]

-- ---- the loops

split_and : (a b : Bool) → (a && b) ≡ true → (a ≡ true) × (b ≡ true)
split_and true b e = (refl, e)
split_and false b e = absurd cc

ticks_each : ℕ → List Call → Bool
ticks_each most [] = true
ticks_each most (Hear port rise width ∷ calls) = ticks_each most calls
ticks_each most (Tick now ∷ calls) = nat_le now (last_tick start calls + most) && ticks_each most calls

each_is : (most : ℕ) (calls : List Call) → ticks_each most calls ≡ true → TicksEach most start calls []
unfolding ticks_each
each_is most [] e = tt
each_is most (Hear port rise width ∷ calls) e = each_is most calls e
each_is most (Tick now ∷ calls) e =
    let a = split_and (nat_le now (last_tick start calls + most)) (ticks_each most calls) e in
    (subst (λ (c : List Call). now ≤ last_tick start c + most) (sym (append-nil calls)) (leb-true now (last_tick start calls + most) a.0), each_is most calls a.1)

told_in_time : List Call → Bool
told_in_time [] = true
told_in_time (Hear port rise width ∷ calls) = nat_le (last_tick start calls) (rise + width + 3000) && told_in_time calls
told_in_time (Tick now ∷ calls) = told_in_time calls

told_is : (calls : List Call) → told_in_time calls ≡ true → AreToldInTime start calls []
unfolding told_in_time
told_is [] e = tt
told_is (Hear port rise width ∷ calls) e =
    let a = split_and (nat_le (last_tick start calls) (rise + width + 3000)) (told_in_time calls) e in
    (subst (λ (c : List Call). last_tick start c ≤ rise + width + 3000) (sym (append-nil calls)) (leb-true (last_tick start calls) (rise + width + 3000) a.0), told_is calls a.1)
told_is (Tick now ∷ calls) e = told_is calls e

in_turn : List Call → Bool
in_turn [] = true
in_turn (call ∷ calls) = nat_le (latest start calls) (made_at call + 3000) && in_turn calls

turn_is : (calls : List Call) → in_turn calls ≡ true → AreMadeInTurn start calls []
unfolding in_turn
turn_is [] e = tt
turn_is (call ∷ calls) e =
    let a = split_and (nat_le (latest start calls) (made_at call + 3000)) (in_turn calls) e in
    (subst (λ (c : List Call). latest start c ≤ made_at call + 3000) (sym (append-nil calls)) (leb-true (latest start calls) (made_at call + 3000) a.0), turn_is calls a.1)

-- a run of the calls, with the least time that was named since the last tick, and if each tick came
-- soon behind it
record Run : Type 0 where
  state : Keeping
  least : ℕ
  is_soon : Bool

least_of_two : ℕ → ℕ → ℕ
least_of_two a b = cond (nat_le a b) a b

names : Keeping → ℕ → ℕ
names k time = time + wait_at k (time % 2 ^ 32)

step : ℕ → Run → Call → Run
step late r (Hear port rise width) =
    let k = after_call r.state (Hear port rise width) in
    record { state = k; least = cond (place_told r.state port (rise % 2 ^ 32) width == 100) (least_of_two (names k (rise + width)) r.least) r.least; is_soon = r.is_soon }
step late r (Tick now) =
    let k = after_call r.state (Tick now) in
    record { state = k; least = names k now; is_soon = nat_le now (r.least + late) && r.is_soon }

-- before the first call nothing was named
run : ℕ → List Call → Run
run late [] = record { state = device; least = 2 ^ 40; is_soon = true }
run late (call ∷ calls) = step late (run late calls) call

low_of_two : (a b : ℕ) → (least_of_two a b ≤ a) × (least_of_two a b ≤ b)
unfolding least_of_two
low_of_two a b = elim (cases_Bool (nat_le a b)) [
  | inl low ↦ rw low (omega arith, leb-true a b low)
  | inr high ↦ rw high (let more = leb-false a b high in (omega (arith, more), omega arith))
]

-- it is asked behind a frame's last pulse alone
if_asked : (place both before : ℕ) → (place ≡ 100 → cond (place == 100) both before ≡ both) × (both ≤ before → cond (place == 100) both before ≤ before)
if_asked place both before = elim (cases_Bool (place == 100)) [
  | inl whole ↦ rw whole (λ e. refl, λ less. less)
  | inr other ↦ rw other (λ e. absurd (eqb-false place 100 other e), λ less. omega arith)
]

run_is : (late : ℕ) (calls : List Call) → (run late calls).state ≡ after_calls device calls
unfolding run step
run_is late [] = refl
run_is late (Hear port rise width ∷ calls) = ap (λ (k : Keeping). after_call k (Hear port rise width)) (run_is late calls)
run_is late (Tick now ∷ calls) = ap (λ (k : Keeping). after_call k (Tick now)) (run_is late calls)

soon_is : (late now : ℕ) (calls : List Call) → now ≤ (run late calls).least + late → IsSoonEnough late device now calls []
unfolding run step names
soon_is late now [] soon = tt
soon_is late now (Tick time ∷ calls) soon =
    let k : names (run late (Tick time ∷ calls)).state time ≡ names (after_calls device (Tick time ∷ calls)) time = ap (λ (k : Keeping). names k time) (run_is late (Tick time ∷ calls)) in
    subst (λ (c : List Call). now ≤ named device c (Tick time) + late) (sym (append-nil calls)) (omega (arith, soon, k))
soon_is late now (Hear port rise width ∷ calls) soon =
    let k : names (run late (Hear port rise width ∷ calls)).state (rise + width) ≡ names (after_calls device (Hear port rise width ∷ calls)) (rise + width) = ap (λ (k : Keeping). names k (rise + width)) (run_is late (Hear port rise width ∷ calls)) in
    let low = low_of_two (names (run late (Hear port rise width ∷ calls)).state (rise + width)) (run late calls).least in
    let here = if_asked (place_told (run late calls).state port (rise % 2 ^ 32) width) (least_of_two (names (run late (Hear port rise width ∷ calls)).state (rise + width)) (run late calls).least) (run late calls).least in
    let state = run_is late calls in
    let less = here.1 low.1 in (
      subst (λ (c : List Call). place_told (after_calls device c) port (rise % 2 ^ 32) width ≡ 100 → now ≤ named device c (Hear port rise width) + late) (sym (append-nil calls))
          (λ place. (let asked = here.0 (subst (λ (k : Keeping). place_told k port (rise % 2 ^ 32) width ≡ 100) (sym state) place) in omega (arith, soon, low.0, k, asked))),
      soon_is late now calls (omega (arith, soon, less)),
    )

goes_is : (late : ℕ) (calls : List Call) → (run late calls).is_soon ≡ true → GoesByWait late device calls []
unfolding run step
goes_is late [] e = tt
goes_is late (Hear port rise width ∷ calls) e = goes_is late calls e
goes_is late (Tick now ∷ calls) e =
    let a = split_and (nat_le now ((run late calls).least + late)) (run late calls).is_soon e in
    (soon_is late now calls (leb-true now ((run late calls).least + late) a.0), goes_is late calls a.1)

-- ---- so the laws speak of them

in_a_row : (m : ℕ) (calls : List Call) → 400 ≤ m → ((i : ℕ) → i < 2 → pulses_on i calls ≡ sent i m) → ((i : ℕ) → i < 5 → 2 < i → pulses_on i calls ≡ []) → AreInOrder start of.Three calls → edges 4 + 3000 ≤ last_tick start calls → ComeInARow (IsTrueLately 450) noon edges made start 1 calls []
in_a_row m calls long are none order late =
    let same : calls ++ [] ≡ calls = append-nil calls in
    record {
      is = is_device;
      order = subst (AreInOrder start of.Three) (sym same) order;
      truth = truly m calls (all_left m calls are none);
      some = omega arith;
      locks = omega arith;
      told = start;
      risen = λ i. tt;
      ticked = omega arith;
      past = omega arith;
      whole = λ n low. subst (ComesWhole noon edges device (1 + n)) (sym same) (comes_whole m calls are n low (omega (arith, long, low)));
      last = subst (λ (c : List Call). edges 4 + 3000 ≤ last_tick start c) (sym same) late;
    }

pub second_4 : IsSecond noon 4 (at 43204)
second_4 = record { from = omega arith; to = omega arith; sod = omega arith; sum = refl }

polls_late : edges 4 + 3000 ≤ last_tick start by_polls
unfolding by_polls
polls_late = omega arith

polls_each : ticks_each 95000 by_polls ≡ true
unfolding by_polls polled polls with_element own others rise_of width_of lie frames ticks_each
polls_each = refl

polls_told : told_in_time by_polls ≡ true
unfolding by_polls polled polls with_element own others rise_of width_of lie frames told_in_time
polls_told = refl

polls_announce : Announces edges device 4 (at 43204) (by_polls ++ [])
polls_announce = polling_announces noon edges made start 1 95000 by_polls [] (at 43204) (in_a_row 405 by_polls (omega arith) polls_pulses polls_rest polls_in_order polls_late) (inr true_table) (omega arith) (each_is 95000 by_polls polls_each) (told_is by_polls polls_told) second_4

waits_late : edges 4 + 3000 ≤ last_tick start by_wait
unfolding by_wait
waits_late = omega arith

waits_soon : (run 90000 by_wait).is_soon ≡ true
unfolding by_wait waited waits with_element own others rise_of width_of lie frames run step names least_of_two step_checked goes_against step_of told_of frame_told coded_told ones values_of field_at control_of offset_in utc_minute is_month_end four_years
waits_soon = refl

waits_in_turn : in_turn by_wait ≡ true
unfolding by_wait waited waits with_element own others rise_of width_of lie frames in_turn
waits_in_turn = refl

waits_announce : Announces edges device 4 (at 43204) (by_wait ++ [])
waits_announce = waiting_announces noon edges made start 1 90000 by_wait [] (at 43204) (in_a_row 409 by_wait (omega arith) waits_pulses waits_rest waits_in_order waits_late) (inr true_table) (omega arith) (goes_is 90000 by_wait waits_soon) (turn_is by_wait waits_in_turn) second_4

-- its ticks come no sooner than 90 ms behind
waits_no_sooner : (run 89999 by_wait).is_soon ≡ false
unfolding by_wait waited waits with_element own others rise_of width_of lie frames run step names least_of_two step_checked goes_against step_of told_of frame_told coded_told ones values_of field_at control_of offset_in utc_minute is_month_end four_years
waits_no_sooner = refl

-- ---- what other loops lose

-- a frame's last pulses are told behind a tick that comes 6 ms behind the edge: then the own counter
-- has counted it, and the tick that has the vote announces nothing
unfoldable told_late : List Call
told_late = with_element 399 (Tick (edges 4 + 6000) ∷ polls 399)

late_vote : answer_at (after_calls device told_late) ((edges 4 + 50000) % 2 ^ 32) ≡ None
unfolding told_late polls with_element own others rise_of width_of lie frames step_checked goes_against step_of told_of frame_told coded_told ones values_of field_at control_of offset_in utc_minute is_month_end four_years
late_vote = refl

-- a tick 100 ms behind the end of line 1's frame has a vote; a microsecond later that frame is late, and
-- no two lines agree
too_late : (vote_at (after_calls device waited) ((edges 4 + 99599) % 2 ^ 32) ≡ Some (record { claim = claim_of 43203; edge_us = 2533103; bound_us = 850 })) × (vote_at (after_calls device waited) ((edges 4 + 99600) % 2 ^ 32) ≡ None)
unfolding waited waits with_element own others rise_of width_of lie frames step_checked goes_against step_of told_of frame_told coded_told ones values_of field_at control_of offset_in utc_minute is_month_end four_years
too_late = (refl, refl)
