-- A line behind a pulse, and the timekeeper that has it.
use Rattle.std.proofs.Common.{Option, Some, ◌≡◌, ◌↔◌, ◌∙◌, ◌<◌, ◌==◌, Bool, true, false, if◌then◌else◌, ℕ, zero, suc, List, refl, sym, ap, subst, arith, inl, inr}
use Rattle.std.proofs.lemmas.Bool.{cases_eq}
use Rattle.irig_frame.specs.declared.symbol.Symbol.{Symbol}
use Rattle.irig_time.specs.declared.rules.Rules.{Rules}
use Rattle.irig_port.specs.Hearing.{heard_at}
use Rattle.irig_port.specs.Tallies.{IsTallyOf}
use Rattle.irig_port.specs.declared.limits.Limits.{Limits}
use Rattle.irig_port.specs.Limits.{quality_in, told_within}
use Rattle.irig_sync.specs.Sync.{place_of}
use Rattle.irig_lines.specs.declared.setup.ClockRules.{ClockRules}
use Rattle.irig_timekeeper.specs.declared.clock.ClockState.{ClockState}
use Rattle.irig_lines.specs.declared.lines.Line.{Line}
use Rattle.irig_lines.specs.declared.lines.Lines.{Lines}
use Rattle.irig_timekeeper.specs.Keeping.{Heard, Keeping, heard_by, heard_then, one_pulse_more, with_heard, with_lines}
use Rattle.irig_lines.specs.Steps.{line_at, line_heard, with_line}
use Rattle.irig_vote.specs.Vote.{ports_in}
use Rattle.irig_reader.proofs.FedLaws.{at_most_five}
use Rattle.c_numbers.specs.Setups.{redundancy_in, rules_in}
use Rattle.c_lines.specs.declared.line.IrigLine.{IrigLine}
use Rattle.c_lines.specs.declared.line.IrigLines.{IrigLines}
use Rattle.c_keeper.specs.declared.timekeeper.IrigTimekeeper.{IrigTimekeeper}
use Rattle.c_keeper.specs.CheckWord.{IsSealed}
use Rattle.c_lines.specs.Lines.{line_in, lines_in, numbers_at, with_numbers, HaveHeard, KeepNoMore}
use Rattle.c_keeper.specs.Timekeepers.{clock_in, clock_state_in, IsTimekeeperOf}

-- a fact of each of five ports is one of a port
of_each : (P : ℕ → Type 0) → P 0 → P 1 → P 2 → P 3 → P 4 → (port : ℕ) → port < 5 → P port
of_each P p0 p1 p2 p3 p4 port here =
    elim (cases_eq port 0) [
      | inl is ↦ subst P (sym is) p0
      | inr not_0 ↦ elim (cases_eq port 1) [
        | inl is ↦ subst P (sym is) p1
        | inr not_1 ↦ elim (cases_eq port 2) [
          | inl is ↦ subst P (sym is) p2
          | inr not_2 ↦ elim (cases_eq port 3) [
            | inl is ↦ subst P (sym is) p3
            | inr not_3 ↦
                let is : port ≡ 4 = omega (arith, not_0, not_1, not_2, not_3, here) in
                subst P (sym is) p4
          ]
        ]
      ]
    ]

-- ---- the line of a port

one_of : {A B : Type 0} (f : A → B) (b : Bool) (x y : A) (z : B) → z ≡ f y → (if b then f x else z) ≡ f (if b then x else y)
one_of f true x y z is = refl
one_of f false x y z is = is

pub line_there : (limits : Option Limits) (rules : Rules) (ls : IrigLines) (port : ℕ) → line_at (lines_in limits rules ls) port ≡ line_in limits rules (numbers_at ls port)
line_there limits rules ls port =
    let line : IrigLine → Line = line_in limits rules in
    one_of line (port == 0) ls.a _ _ (one_of line (port == 1) ls.b _ _ (one_of line (port == 2) ls.c _ _ (one_of line (port == 3) ls.d ls.e (line ls.e) refl)))

line_put : (limits : Option Limits) (rules : Rules) (ls : IrigLines) (l : IrigLine) (port : ℕ) → port < 5
    → lines_in limits rules (with_numbers ls port l) ≡ with_line (lines_in limits rules ls) port (line_in limits rules l)
line_put limits rules ls l = of_each (λ port. lines_in limits rules (with_numbers ls port l) ≡ with_line (lines_in limits rules ls) port (line_in limits rules l)) refl refl refl refl refl

pub heard_there : (ls : IrigLines) (heard : Heard) → HaveHeard ls heard → (port : ℕ) → port < 5 → IsTallyOf (numbers_at ls port).port (heard_by heard port)
heard_there ls heard h = of_each (λ port. IsTallyOf (numbers_at ls port).port (heard_by heard port)) h.a h.b h.c h.d h.e

heard_put : (ls : IrigLines) (heard : Heard) (l : IrigLine) (s : List Symbol) → HaveHeard ls heard → IsTallyOf l.port s → (port : ℕ) → port < 5
    → HaveHeard (with_numbers ls port l) (with_heard heard port s)
heard_put ls heard l s h now =
    of_each (λ port. HaveHeard (with_numbers ls port l) (with_heard heard port s))
    (record { a = now; b = h.b; c = h.c; d = h.d; e = h.e })
    (record { a = h.a; b = now; c = h.c; d = h.d; e = h.e })
    (record { a = h.a; b = h.b; c = now; d = h.d; e = h.e })
    (record { a = h.a; b = h.b; c = h.c; d = now; e = h.e })
    (record { a = h.a; b = h.b; c = h.c; d = h.d; e = now })

-- the place that the value gives a pulse
pub place_as : (t : IrigTimekeeper) (k : Keeping) (port rise width : ℕ) → port < 5 → IsTimekeeperOf t k
    → place_of (numbers_at t.lines port).sync rise width ≡ place_of (line_at k.state.lines port).sync rise width
place_as t k port rise width here h =
    ap (λ (x : Line). place_of x.sync rise width) (sym (line_there (Some (clock_in t).limits.limits) (rules_in t.setup) t.lines port))
    ∙ ap (λ (s : ClockState). place_of (line_at s.lines port).sync rise width) h.state

-- ---- a pulse

-- a line's numbers behind a pulse with this place
pub record IsBehindPulse (clock : ClockRules) (rise width place : ℕ) (before after : IrigLine) : Type 0 where
  pub at : place ≡ place_of before.sync rise width
  pub line : (limits : Option Limits) (rules : Rules) (s : List Symbol) → IsTallyOf before.port s
      → line_in limits rules after ≡ line_heard clock (line_in limits rules before) rise width (told_within limits rules (heard_at place s width)) (quality_in (heard_at place s width))
  pub heard : (s : List Symbol) → IsTallyOf before.port s → IsTallyOf after.port (heard_at place s width)

-- a line that is there may keep a frame
put_there : (ports : ℕ) (ls : IrigLines) (l : IrigLine) (port : ℕ) → port < 5 → port < ports → KeepNoMore ports ls → KeepNoMore ports (with_numbers ls port l)
put_there ports ls l zero low there h = record { b = h.b; c = h.c; d = h.d; e = h.e }
put_there ports ls l (suc zero) low there h = record { b = λ few. absurd (omega (arith, few, there)); c = h.c; d = h.d; e = h.e }
put_there ports ls l (suc (suc zero)) low there h = record { b = h.b; c = λ few. absurd (omega (arith, few, there)); d = h.d; e = h.e }
put_there ports ls l (suc (suc (suc zero))) low there h = record { b = h.b; c = h.c; d = λ few. absurd (omega (arith, few, there)); e = h.e }
put_there ports ls l (suc (suc (suc (suc zero)))) low there h = record { b = h.b; c = h.c; d = h.d; e = λ few. absurd (omega (arith, few, there)) }
put_there ports ls l (suc (suc (suc (suc (suc n))))) low there h = absurd (omega (arith, low))

-- the timekeeper that has such a line is the value behind the pulse
pub one_more : (t q : IrigTimekeeper) (k : Keeping) (port rise width place : ℕ) (l : IrigLine) → port < ports_in (redundancy_in t.setup) → IsBehindPulse (clock_in t) rise width place (numbers_at t.lines port) l
    → q ≡ record t { lines = with_numbers t.lines port l; check = q.check } → (IsSealed q ↔ IsSealed t) → IsTimekeeperOf t k
    → IsTimekeeperOf q (one_pulse_more k port rise width)
one_more t q k port rise width place l there behind is seal h =
    subst (λ (x : IrigTimekeeper). IsTimekeeperOf x (one_pulse_more k port rise width)) (sym is) (record {
      rules = h.rules;
      clock = h.clock;
      table = h.table;
      heard = subst (λ (s : List Symbol). HaveHeard (with_numbers t.lines port l) (with_heard k.heard port s)) heard
          (heard_put t.lines k.heard l (heard_at place (heard_by k.heard port) width) h.heard (behind.heard _ was) port here);
      state = whole;
      accepted = record {
        setup = h.accepted.setup;
        wires = h.accepted.wires;
        bound = h.accepted.bound;
        known = record { interval = h.accepted.known.interval; pace = h.accepted.known.pace };
        steady = h.accepted.steady;
        is_state = h.accepted.is_state;
        last = h.accepted.last;
        before = h.accepted.before;
        ended = h.accepted.ended;
        ended_before = h.accepted.ended_before;
        absent = put_there (ports_in (redundancy_in t.setup)) t.lines l port here there h.accepted.absent;
        sealed = subst (λ (x : IrigTimekeeper). IsSealed x) is (seal.1 h.accepted.sealed);
      };
    })
  where
    here : port < 5
    here = omega (arith, there, at_most_five (redundancy_in t.setup))

    rules : Rules
    rules = rules_in t.setup

    limits : Option Limits
    limits = Some (clock_in t).limits.limits

    was : IsTallyOf (numbers_at t.lines port).port (heard_by k.heard port)
    was = heard_there t.lines k.heard h.heard port here

    -- the line of the value
    line : line_at k.state.lines port ≡ line_in limits rules (numbers_at t.lines port)
    line = ap (λ (s : ClockState). line_at s.lines port) (sym h.state) ∙ line_there limits rules t.lines port

    place_is : place_of (line_at k.state.lines port).sync rise width ≡ place
    place_is = ap (λ (x : Line). place_of x.sync rise width) line ∙ sym behind.at

    heard : heard_at place (heard_by k.heard port) width ≡ heard_then k port rise width
    heard = ap (λ (n : ℕ). heard_at n (heard_by k.heard port) width) (sym place_is)

    new_line : line_in limits rules l ≡ line_heard k.clock (line_at k.state.lines port) rise width (told_within (Some k.clock.limits.limits) k.rules (heard_then k port rise width)) (quality_in (heard_then k port rise width))
    new_line = behind.line limits rules (heard_by k.heard port) was
        ∙ (ap (λ (c : ClockRules). line_heard c (line_in limits rules (numbers_at t.lines port)) rise width (told_within (Some c.limits.limits) rules (heard_at place (heard_by k.heard port) width)) (quality_in (heard_at place (heard_by k.heard port) width))) h.clock
        ∙ (ap (λ (x : Line). line_heard k.clock x rise width (told_within (Some k.clock.limits.limits) rules (heard_at place (heard_by k.heard port) width)) (quality_in (heard_at place (heard_by k.heard port) width))) (sym line)
        ∙ (ap (λ (r : Rules). line_heard k.clock (line_at k.state.lines port) rise width (told_within (Some k.clock.limits.limits) r (heard_at place (heard_by k.heard port) width)) (quality_in (heard_at place (heard_by k.heard port) width))) h.rules
        ∙ ap (λ (s : List Symbol). line_heard k.clock (line_at k.state.lines port) rise width (told_within (Some k.clock.limits.limits) k.rules s) (quality_in s)) heard)))

    whole : clock_state_in (record t { lines = with_numbers t.lines port l; check = q.check })
        ≡ with_lines k.state (with_line k.state.lines port (line_heard k.clock (line_at k.state.lines port) rise width (told_within (Some k.clock.limits.limits) k.rules (heard_then k port rise width)) (quality_in (heard_then k port rise width))))
    whole = ap (λ (ls : Lines). with_lines (clock_state_in t) ls) (line_put limits rules t.lines l port here)
        ∙ (ap (λ (s : ClockState). with_lines s (with_line s.lines port (line_in limits rules l))) h.state
        ∙ ap (λ (x : Line). with_lines k.state (with_line k.state.lines port x)) new_line)
