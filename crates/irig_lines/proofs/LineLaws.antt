-- A line that was true for a frame: its claim is the frame's own.
use Rattle.std.proofs.Common.{◌≡◌, true, ℕ, zero, suc, ◌+◌, ◌-◌, ◌*◌, ◌/◌, ◌%◌, ◌^◌, ◌<◌, ◌≤◌, List, [], ◌∷◌, ◌++◌, length, length-append, drop, Option, Some, None, refl, sym, subst, ap, ◌∙◌, arith, inl, inr}
use Rattle.std.specs.Prelude.{slice_get, ◌==◌}
use Rattle.std.proofs.Math.Nat.{mul-le-mul_left}
use Rattle.std.proofs.lemmas.Bool.{cases_Bool, cases_lt, eqb-true, eqb-false}
use Rattle.irig_frame.specs.declared.symbol.Symbol.{Symbol}
use Rattle.irig_frame.specs.Symbols.{symbol_of}
use Rattle.irig_sync.specs.Lines.{Pulse, pulse_at, AreOnTime, IsTimeOf, StandAt, symbols_of_last}
use Rattle.irig_sync.specs.Edges.{IsSteady, second_long, element_at, IsClock}
use Rattle.irig_sync.specs.FaultyLines.{IsPulseOf}
use Rattle.irig_sync.proofs.LineLaws.{on_time_is, only_whole}
use Rattle.irig_sync.proofs.EdgeLaws.{is_next}
use Rattle.irig_time.specs.declared.rules.Rules.{Rules}
use Rattle.irig_time.specs.declared.claim.Claim.{Claim}
use Rattle.irig_time.specs.Carries.{Carries}
use Rattle.irig_time.specs.Timelines.{TimelineValue}
use Rattle.irig_port.specs.declared.told.Told.{Told}
use Rattle.irig_port.specs.declared.told.Told.TheVariants as tells
use Rattle.irig_port.specs.declared.limits.Limits.{Limits}
use Rattle.irig_port.specs.Limits.{told_within, quality_in}
use Rattle.irig_port.specs.Hearing.{IsRun}
use Rattle.irig_port.proofs.CarriesLaws.{carries_is_told}
use Rattle.irig_port.proofs.LimitLaws.{claim_within}
use Rattle.irig_lines.specs.declared.within.Within.{Within}
use Rattle.irig_lines.specs.Exactness.{end_off_us}
use Rattle.irig_lines.specs.Widths.{half_us, worst_of}
use Rattle.irig_lines.proofs.WidthLaws.{half_least}
use Rattle.irig_sync.specs.Edges.{element_drift}
use Rattle.irig_lines.specs.Edges.{IsQuartz, IsTrueNear}
use Rattle.irig_lines.specs.declared.setup.ClockRules.{ClockRules}
use Rattle.irig_lines.specs.declared.lines.KeptFrame.{KeptFrame}
use Rattle.irig_lines.specs.declared.lines.KeptClaim.{KeptClaim}
use Rattle.irig_lines.specs.Lines.{rise_before, AreEven, ArePulsesLately, IsLineOf, IsTrueLately, IsLastBefore, IsFrameOf, IfKept}
use Rattle.irig_lines.specs.Steps.{is_even, quality_told, claim_told, claim_kept, frame_behind}

-- ---- one symbol more

get_old : (s : List Symbol) (x : Symbol) (i : ℕ) (y : Symbol) → slice_get s i ≡ Some y → slice_get (s ++ x ∷ []) i ≡ Some y
get_old [] x i y e = absurd cc
get_old (a ∷ s) x zero y e = e
get_old (a ∷ s) x (suc i) y e = get_old s x i y e

get_new : (s : List Symbol) (x : Symbol) → slice_get (s ++ x ∷ []) (length s) ≡ Some x
get_new [] x = refl
get_new (a ∷ s) x = get_new s x

-- so many symbols of a line in a row, and the next one
StandFrom : (ℕ → Symbol) → ℕ → ℕ → List Symbol → Type 0
StandFrom line first n s = (length s ≡ n) × ((i : ℕ) → i < n → slice_get s i ≡ Some (line (first + i)))

stands_more : (line : ℕ → Symbol) (first n : ℕ) (s : List Symbol) (x : Symbol) → StandFrom line first n s → x ≡ line (first + n) → StandFrom line first (suc n) (s ++ x ∷ [])
unfolding StandFrom
stands_more line first n s x stands is = (
  length-append s (x ∷ []) ∙ (let long : length s + 1 ≡ suc n = omega (arith, stands.0) in long),
  λ i less. elim (cases_lt i n) [
    | inl old ↦ get_old s x i (line (first + i)) (stands.1 i old)
    | inr new ↦
        let last : i ≡ n = omega (arith, new, less) in
        let at : length s ≡ i = stands.0 ∙ sym last in
        subst (λ (j : ℕ). slice_get (s ++ x ∷ []) j ≡ Some (line (first + i))) at
        (get_new s x ∙ ap Some (is ∙ ap (λ (j : ℕ). line (first + j)) (sym last)))
  ],
)

stands_one : (line : ℕ → Symbol) (first : ℕ) (x : Symbol) → x ≡ line first → StandFrom line first 1 (x ∷ [])
unfolding StandFrom
stands_one line first x is = (refl, λ i less. (let none : i ≡ 0 = omega (arith, less) in let here : first + 0 ≡ first = omega arith in rw (none, here) (ap Some is)))

-- ---- pulses in a row

-- pulses of a true line are told apart
pub clock_of : (within : Within) (d : ℕ) (edges : ℕ → ℕ) → IsQuartz d edges → IsClock d within.us edges
clock_of within d edges steady = record { steady = steady.steady; near = omega (arith, steady.few, within.few) }

-- the rest of a second and a part of the next one, of 99 hundredths in all
parts : (d long next j m : ℕ) → j + m ≡ 99 → 1000000 ≤ long + d → long ≤ 1000000 + d → 1000000 ≤ next + d → next ≤ 1000000 + d
    → (long * suc j / 100 + 990000 ≤ long + next * j / 100 + d) × (long + next * j / 100 ≤ long * suc j / 100 + 990000 + d)
parts d long next j m all least most next_least next_most =
    let more : suc j + m ≡ 100 = omega (arith, all) in
    let whole : long * (suc j + m) ≡ long * 100 = ap (λ (n : ℕ). long * n) more in
    let drift : d * (j + m) ≡ d * 99 = ap (λ (n : ℕ). d * n) all in
    let rest_least = mul-le-mul_left m least in
    let rest_most = mul-le-mul_left m most in
    let part_least = mul-le-mul_left j next_least in
    let part_most = mul-le-mul_left j next_most in
    (omega (arith, all, whole, drift, rest_least, part_least), omega (arith, all, whole, drift, rest_most, part_most))

-- elements 99 apart
module _ (d : ℕ) (edges : ℕ → ℕ) (steady : IsSteady d edges) (few : d ≤ 100) where
  AreFar : ℕ → Type 0
  AreFar k = (element_at edges k + 990000 ≤ element_at edges (k + 99) + d) × (element_at edges (k + 99) ≤ element_at edges k + 990000 + d)

  -- from a frame's first one to its last
  far_in : (k : ℕ) → k % 100 ≡ 0 → AreFar k
  unfolding AreFar
  far_in k first =
      let frame : (k + 99) / 100 ≡ k / 100 = omega (arith, first) in
      let place : (k + 99) % 100 ≡ 99 = omega (arith, first) in
      rw (frame, place, first) (omega (arith, few, steady.least (k / 100), steady.most (k / 100)), omega (arith, few, steady.least (k / 100), steady.most (k / 100)))

  -- from another one to one of the next frame
  far_over : (k j : ℕ) → k % 100 ≡ suc j → AreFar k
  unfolding AreFar
  far_over k j at =
      let frame : (k + 99) / 100 ≡ k / 100 + 1 = omega (arith, at) in
      let place : (k + 99) % 100 ≡ j = omega (arith, at) in
      let here : element_at edges k ≡ edges (k / 100) + second_long edges (k / 100) * suc j / 100 = ap (λ (i : ℕ). edges (k / 100) + second_long edges (k / 100) * i / 100) at in
      let there : element_at edges (k + 99) ≡ edges (k / 100 + 1) + second_long edges (k / 100 + 1) * j / 100 = rw (frame, place) refl in
      let both = parts d (second_long edges (k / 100)) (second_long edges (k / 100 + 1)) j (99 - j) (omega (arith, at))
      (omega (arith, steady.least (k / 100))) (omega (arith, steady.most (k / 100))) (omega (arith, steady.least (k / 100 + 1))) (omega (arith, steady.most (k / 100 + 1))) in
      let long : edges (k / 100) + second_long edges (k / 100) ≡ edges (k / 100 + 1) = omega (arith, few, steady.least (k / 100)) in
      (omega (arith, here, there, long, both.0), omega (arith, here, there, long, both.1))

  far_off : (k : ℕ) → (element_at edges k + 990000 ≤ element_at edges (k + 99) + d) × (element_at edges (k + 99) ≤ element_at edges k + 990000 + d)
  unfolding AreFar
  far_off k = elim (cases_Bool (k % 100 == 0)) [
    | inl first ↦ far_in k (eqb-true (k % 100) 0 first)
    | inr other ↦ far_over k (k % 100 - 1) (let some = eqb-false (k % 100) 0 other in omega (arith, some))
  ]

module _ (within : Within) (d : ℕ) (edges : ℕ → ℕ) (steady : IsQuartz d edges) where
  -- the last pulses, each on time behind the one before, are those of elements in a row
  record AreInARow (line : ℕ → Symbol) (k m : ℕ) (p : Pulse) (ps : List Pulse) : Type 0 where
    first : ℕ
    low : first + m < k
    stand : StandFrom line first (suc m) (symbols_of_last (suc m) (p ∷ ps))
    here : IsPulseOf line edges within.us (first + m) p
    began : IsTimeOf edges within.us first (rise_before m (p ∷ ps))

  module _ (line : ℕ → Symbol) (now : ℕ) where
    alone : (k : ℕ) (p : Pulse) (ps : List Pulse) → ArePulsesLately within.us line edges now k (p ∷ ps) → now ≤ p.rise + 1200000 → AreInARow line k 0 p ps
    alone k p ps (inl old) late = absurd (omega (arith, old.0, late))
    alone k p ps (inr is) late =
        let j = is.0 in
        let here : j + 0 ≡ j = omega arith in
        record {
          first = j;
          low = omega (arith, is.1);
          stand = stands_one line j (symbol_of p.width) is.2.1;
          here = rw here is.2;
          began = is.2.0;
        }

    in_a_row : (m k : ℕ) (p : Pulse) (ps : List Pulse) → ArePulsesLately within.us line edges now k (p ∷ ps) → AreOnTime (suc m) (p ∷ ps) → now + 11000 * m ≤ p.rise + 1200000 → AreInARow line k m p ps
    in_a_row zero k p ps are on late = alone k p ps are (omega (arith, late))
    in_a_row (suc m) k p [] are on late = absurd on
    in_a_row (suc m) k p (q ∷ ps) (inl old) on late = absurd (omega (arith, old.0, late))
    in_a_row (suc m) k p (q ∷ ps) (inr is) on late =
        let gap = (on_time_is (p.rise - q.rise)).0 on.0 in
        let before = in_a_row m is.0 q ps is.3 on.1 (omega (arith, late, gap.0, gap.1)) in
        let next : is.0 ≡ suc (before.first + m) = is_next d within.us edges (clock_of within d edges steady) (before.first + m) is.0 q.rise p.rise before.here.0 is.2.0 before.low on.0 in
        let there : is.0 ≡ before.first + suc m = omega (arith, next) in
        record {
          first = before.first;
          low = omega (arith, is.1, next);
          stand = stands_more line before.first (suc m) (symbols_of_last (suc m) (q ∷ ps)) (symbol_of p.width) before.stand (is.2.1 ∙ ap line there);
          here = subst (λ (j : ℕ). IsPulseOf line edges within.us j p) there is.2;
          began = before.began;
        }

    -- of a hundred the first and the last are those of elements 99 apart
    even_row : (k : ℕ) (run : List Pulse) (end : ℕ) → ArePulsesLately within.us line edges now k run → AreOnTime 100 run → IsLastBefore end run → now ≤ end + 100000 → AreEven within.us d run
    even_row k [] end are on at soon = absurd at
    even_row k (p ∷ ps) end are on at soon =
        let row = in_a_row 99 k p ps are on (omega (arith, at, soon)) in
        let far = far_off d edges steady.steady (omega (arith, steady.few)) row.first in (
          omega (arith, far.0, row.began.1, row.here.0.0, within.some),
          omega (arith, far.1, row.began.0, row.here.0.1, within.some),
        )

    dropped : (n k : ℕ) (pulses : List Pulse) → ArePulsesLately within.us line edges now k pulses → (j : ℕ) × ArePulsesLately within.us line edges now j (drop n pulses)
    dropped zero k pulses are = (k, are)
    dropped (suc n) k [] are = (k, tt)
    dropped (suc n) k (p ∷ ps) (inl old) = dropped n k ps old.1
    dropped (suc n) k (p ∷ ps) (inr is) = dropped n is.0 ps is.3

-- ---- a frame that was heard whole

module _ (within : Within) (rules : Rules) (t : TimelineValue) (d : ℕ) (edges : ℕ → ℕ) (steady : IsQuartz d edges) where
  -- it ends near an edge, and its symbols are those of the line's frame that ends there
  pub record IsFramed (line : ℕ → Symbol) (end : ℕ) (run : List Pulse) (claim : Claim) : Type 0 where
    pub near : IsTrueNear t edges (end_off_us within.us d) (end_off_us within.us d) end claim
    pub stand : StandAt line (100 * near.second) (symbols_of_last 100 run)

  -- by its hundred pulses
  framed : (now end : ℕ) (line : ℕ → Symbol) (k : ℕ) (p : Pulse) (ps : List Pulse) (claim : Claim) → IsLineOf rules t line → ArePulsesLately within.us line edges now k (p ∷ ps) → AreOnTime 100 (p ∷ ps)
      → Carries rules (symbols_of_last 100 (p ∷ ps)) claim → end ≡ p.rise + 10000 → now ≤ end + 100000 → IsFramed line end (p ∷ ps) claim
  unfolding StandFrom
  framed now end line k p ps claim is are on carries at soon =
      let row = in_a_row within d edges steady line now 99 k p ps are on (omega (arith, at, soon)) in
      let whole : row.first % 100 ≡ 0 = only_whole line row.first (symbols_of_last 100 (p ∷ ps)) carries.coded is.right row.stand.1 carries.reads in
      let f : ℕ = row.first / 100 in
      let first : row.first ≡ 100 * f = omega (arith, whole) in
      let frame : (row.first + 99) / 100 ≡ f = omega (arith, whole) in
      let place : (row.first + 99) % 100 ≡ 99 = omega (arith, whole) in
      let last : element_at edges (row.first + 99) ≡ edges f + second_long edges f * 99 / 100 = rw (frame, place) refl in
      let stand = subst (λ (j : ℕ). StandAt line j (symbols_of_last 100 (p ∷ ps))) first row.stand.1 in
      record {
        near = record {
          second = f;
          near = record {
            least = omega (arith, at, last, row.here.0.0, steady.steady.most f);
            most = omega (arith, at, last, row.here.0.1, steady.steady.least f);
          };
          truth = is.truth f (symbols_of_last 100 (p ∷ ps)) claim stand carries;
        };
        stand = stand;
      }

  ended : (now end : ℕ) (line : ℕ → Symbol) (k : ℕ) (run : List Pulse) (claim : Claim) → IsLineOf rules t line → ArePulsesLately within.us line edges now k run
      → AreOnTime 100 run → IsLastBefore end run → Carries rules (symbols_of_last 100 run) claim → now ≤ end + 100000 → IsFramed line end run claim
  ended now end line k [] claim is are on at carries soon = absurd at
  ended now end line k (p ∷ ps) claim is are on at carries soon = framed now end line k p ps claim is are on carries at soon

  -- it is even, whatever it tells
  pub frame_is_even : (now end : ℕ) (pulses : List Pulse) → IsTrueLately within.us rules t edges now pulses → (late : ℕ) → AreOnTime 100 (drop late pulses) → IsLastBefore end (drop late pulses) → now ≤ end + 100000 → AreEven within.us d (drop late pulses)
  frame_is_even now end pulses is late on last soon =
      let left = dropped within d edges steady is.line now late is.next pulses is.are in
      even_row within d edges steady is.line now left.0 (drop late pulses) end left.1 on last soon

  -- its claim is true and its end near
  pub frame_is_framed : (now end : ℕ) (pulses : List Pulse) (claim : Claim) → (is : IsTrueLately within.us rules t edges now pulses) → (late : ℕ) → AreOnTime 100 (drop late pulses) → IsLastBefore end (drop late pulses) → Carries rules (symbols_of_last 100 (drop late pulses)) claim → now ≤ end + 100000 → IsFramed is.line end (drop late pulses) claim
  frame_is_framed now end pulses claim is late on last carries soon =
      let left = dropped within d edges steady is.line now late is.next pulses is.are in
      ended now end is.line left.0 (drop late pulses) claim is.is_line left.1 on last carries soon

  -- whatever drift it is even by
  pub frame_is_true : (c : ClockRules) (half now end : ℕ) (pulses : List Pulse) (claim : Claim) → IsTrueLately within.us rules t edges now pulses → IsFrameOf c rules claim half end pulses → now ≤ end + 100000 → IsTrueNear t edges (end_off_us within.us d) (end_off_us within.us d) end claim
  frame_is_true c half now end pulses claim is frame soon = (frame_is_framed now end pulses claim is frame.late frame.on_time frame.last frame.carries soon).near

-- the same, as far off as frames of its quality may be
pub true_by_any : (c : ClockRules) (rules : Rules) (t : TimelineValue) (d : ℕ) (edges : ℕ → ℕ) (half now end : ℕ) (pulses : List Pulse) (claim : Claim) → IsQuartz d edges → IsTrueLately c.within.us rules t edges now pulses → IsFrameOf c rules claim half end pulses → now ≤ end + 100000
    → IsTrueNear t edges (0 + (half + element_drift d)) (0 + (half + element_drift d)) end claim
true_by_any c rules t d edges half now end pulses claim steady is frame soon =
    let near = frame_is_true c.within rules t d edges steady c half now end pulses claim is frame soon in
    let least = half_least c half _ frame.says in
    record {
      second = near.second;
      near = record { least = omega (arith, near.near.least, least); most = omega (arith, near.near.most, least) };
      truth = near.truth;
    }

-- ---- the quality of what is told

-- of what claims no second it does not matter
pub told_quality : (told : Told) (q p : ℕ) → ((x : Claim) → told ≡ tells.Claim x → q ≡ p) → quality_told told q ≡ quality_told told p
told_quality (tells.Claim x) q p is = is x refl
told_quality tells.Silence q p is = refl
told_quality (tells.Fault f) q p is = refl
told_quality (tells.Poor n) q p is = refl

-- what claims a second is read
pub claim_carries : (limits : Option Limits) (rules : Rules) (s : List Symbol) (x : Claim) → told_within limits rules s ≡ tells.Claim x → Carries rules s x
claim_carries limits rules s x e = (carries_is_told rules s x).0 ((claim_within limits rules s x).0 e).0

-- ---- a pulse more

one_late : (EndsSo Ends : ℕ → Type 0) → ((end : ℕ) → EndsSo end → Ends end) → (c : ClockRules) (rules : Rules) (kept : Option KeptClaim) (p : Pulse) (pulses : List Pulse) → IfKept EndsSo c rules kept pulses → IfKept Ends c rules kept (p ∷ pulses)
one_late EndsSo Ends more c rules None p pulses before = tt
one_late EndsSo Ends more c rules (Some kept) p pulses before =
    let frame = before.2 in
    (before.0, before.1, record { late = suc frame.late; on_time = frame.on_time; carries = frame.carries; last = frame.last; even = frame.even; says = frame.says; votes = frame.votes }, more before.0 before.3)

-- a frame's last pulse: what the port then tells
told_here : (Ends : ℕ → Type 0) (c : ClockRules) (rules : Rules) (told : Told) (heard : List Symbol) (place time width : ℕ) (pulses : List Pulse) → told_within (Some c.limits.limits) rules heard ≡ told → 1 ≤ place → IsRun heard place (pulse_at time width ∷ pulses) → AreEven c.within.us c.drift_us (pulse_at time width ∷ pulses) → Ends (time + 10000)
    → IfKept Ends c rules (claim_told told ((time % 2 ^ 32 + 10000) % 2 ^ 32) (half_us c (quality_told told (quality_in heard)))) (pulse_at time width ∷ pulses)
told_here Ends c rules tells.Silence heard place time width pulses e some run even ends = tt
told_here Ends c rules (tells.Fault f) heard place time width pulses e some run even ends = tt
told_here Ends c rules (tells.Poor q) heard place time width pulses e some run even ends = tt
told_here Ends c rules (tells.Claim x) heard place time width pulses e some run even ends = elim run.step [
  | inl out ↦ absurd (omega (arith, out, some))
  | inr inside ↦
      let all : List Pulse = pulse_at time width ∷ pulses in
      let none : drop run.late all ≡ all = ap (λ (n : ℕ). drop n all) inside.0 in
      let within = (claim_within (Some c.limits.limits) rules heard x).0 e in
      let carries = (carries_is_told rules heard x).0 within.0 in
      let whole : run.count ≡ 100 = sym run.all ∙ carries.reads.len in
      let symbols : heard ≡ symbols_of_last 100 all = run.symbols ∙ ap (symbols_of_last run.count) none ∙ ap (λ (n : ℕ). symbols_of_last n all) whole in (
        time + 10000,
        omega arith,
        record {
          late = 0;
          on_time = subst (λ (n : ℕ). AreOnTime n all) whole (subst (AreOnTime run.count) none run.on_time);
          carries = subst (λ (s : List Symbol). Carries rules s x) symbols carries;
          last = refl;
          even = even;
          says = ap (λ (s : List Symbol). half_us c (quality_in s)) symbols;
          votes = subst (λ (s : List Symbol). quality_in s ≤ worst_of c) symbols (omega (arith, within.1.0));
        },
        ends,
      )
]

pub kept_more : (EndsSo Ends : ℕ → Type 0) → (c : ClockRules) (begin place : ℕ) → (¬ (place ≡ 100) → (end : ℕ) → EndsSo end → Ends end) → (rules : Rules) (frame : Option KeptFrame) (heard : List Symbol) (time width : ℕ) (pulses : List Pulse) → IsRun heard place (pulse_at time width ∷ pulses) → IfKept EndsSo c rules (claim_kept c frame) pulses → (place ≡ 100 → is_even c begin (time % 2 ^ 32) ≡ true → AreEven c.within.us c.drift_us (pulse_at time width ∷ pulses)) → (place ≡ 100 → Ends (time + 10000))
    → IfKept Ends c rules (claim_kept c (frame_behind c place begin (time % 2 ^ 32) (told_within (Some c.limits.limits) rules heard) (quality_in heard) frame)) (pulse_at time width ∷ pulses)
kept_more EndsSo Ends c begin place more rules frame heard time width pulses run before evens ends = elim (cases_Bool (place == 100)) [
  | inl whole ↦
      let at : place ≡ 100 = eqb-true place 100 whole in
      rw whole (elim (cases_Bool (is_even c begin (time % 2 ^ 32))) [
        | inl even ↦ rw even (told_here Ends c rules (told_within (Some c.limits.limits) rules heard) heard place time width pulses refl (omega (arith, at)) run (evens at even) (ends at))
        | inr odd ↦ rw odd tt
      ])
  | inr inside ↦ rw inside (one_late EndsSo Ends (more (eqb-false place 100 inside)) c rules (claim_kept c frame) (pulse_at time width) pulses before)
]
