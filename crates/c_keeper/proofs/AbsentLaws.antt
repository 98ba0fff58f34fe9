-- Lines that a timekeeper has not add nothing to what its lines brought.
use Rattle.std.specs.Prelude.{if◌then◌else◌, nat_lt, count_by}
use Rattle.std.specs.List.{range_with_len}
use Rattle.std.proofs.Common.{◌≡◌, ℕ, zero, suc, ◌+◌, ◌<◌, ◌≤◌, Bool, true, false, cond, List, [], Option, Some, None, refl, sym, subst, arith, inl, inr}
use Rattle.std.proofs.lemmas.Bool.{cases_Bool, ltb-true, ltb-false}
use Rattle.irig_sync.specs.Lines.{Pulse}
use Rattle.irig_time.specs.declared.rules.Rules.{Rules}
use Rattle.irig_port.specs.declared.limits.Limits.{Limits}
use Rattle.irig_vote.specs.declared.redundancy.Redundancy.{Redundancy}
use Rattle.irig_vote.specs.declared.redundancy.Redundancy.TheVariants.{One, Three, Five}
use Rattle.irig_vote.specs.Vote.{f_of, ports_in}
use Rattle.irig_lines.specs.declared.lines.KeptClaim.{KeptClaim}
use Rattle.irig_lines.specs.declared.setup.ClockRules.{ClockRules}
use Rattle.irig_lines.specs.Lines.{IfKept, IsInTurnOf}
use Rattle.irig_lines.specs.Steps.{claim_kept, line_at}
use Rattle.irig_timekeeper.specs.Truth.{AreHeardTruly}
use Rattle.c_numbers.specs.Setups.{redundancy_in, rules_in}
use Rattle.c_lines.specs.declared.line.IrigLine.{IrigLine}
use Rattle.c_lines.specs.declared.line.IrigLines.{IrigLines}
use Rattle.c_keeper.specs.declared.timekeeper.IrigTimekeeper.{IrigTimekeeper}
use Rattle.c_lines.specs.Lines.{line_in, lines_in, KeepNoMore}
use Rattle.c_keeper.specs.Timekeepers.{clock_in, HeardTruly}

-- what keeps no frame claims nothing
none_in : (c : ClockRules) (limits : Option Limits) (rules : Rules) (l : IrigLine) → l.has_frame ≡ 0 → claim_kept c (line_in limits rules l).frame ≡ None
none_in c limits rules l empty = rw empty refl

none_at : (c : ClockRules) (limits : Option Limits) (rules : Rules) (ls : IrigLines) (ports i : ℕ) → 1 ≤ ports → KeepNoMore ports ls → ports ≤ i → i < 5 → claim_kept c (line_at (lines_in limits rules ls) i).frame ≡ None
none_at c limits rules ls ports zero some absent past low = absurd (omega (arith, some, past))
none_at c limits rules ls ports (suc zero) some absent past low = none_in c limits rules ls.b (absent.b past).frame
none_at c limits rules ls ports (suc (suc zero)) some absent past low = none_in c limits rules ls.c (absent.c past).frame
none_at c limits rules ls ports (suc (suc (suc zero))) some absent past low = none_in c limits rules ls.d (absent.d past).frame
none_at c limits rules ls ports (suc (suc (suc (suc zero)))) some absent past low = none_in c limits rules ls.e (absent.e past).frame
none_at c limits rules ls ports (suc (suc (suc (suc (suc i))))) some absent past low = absurd (omega (arith, low))

some_port : (r : Redundancy) → 1 ≤ ports_in r
some_port One = omega arith
some_port Three = omega arith
some_port Five = omega arith

-- ---- which lines are untrue

abbrev there : Redundancy → (ℕ → Bool) → ℕ → Bool
there r untrue i = if nat_lt i (ports_in r) then untrue i else false

few_there : (r : Redundancy) (untrue : ℕ → Bool) (f : ℕ) → count_by untrue (range_with_len 0 (ports_in r)) ≤ f → count_by (there r untrue) (range_with_len 0 5) ≤ f
few_there One untrue f few = by (untrue 0) few
  where
    by : (a : Bool) → 0 + cond a 1 0 ≤ f → 0 + cond a 1 0 + 0 + 0 + 0 + 0 ≤ f
    by true few = omega (arith, few)
    by false few = omega (arith, few)
few_there Three untrue f few = by (untrue 0) (untrue 1) (untrue 2) few
  where
    by : (a b c : Bool) → 0 + cond a 1 0 + cond b 1 0 + cond c 1 0 ≤ f → 0 + cond a 1 0 + cond b 1 0 + cond c 1 0 + 0 + 0 ≤ f
    by a b c few = omega (arith, few)
few_there Five untrue f few = few

-- if there are lines that it has not, one that it has is true
one_true : (r : Redundancy) (untrue : ℕ → Bool) → ports_in r < 5 → count_by untrue (range_with_len 0 (ports_in r)) ≤ f_of r → (i : ℕ) × (i < ports_in r) × (untrue i ≡ false)
one_true One untrue less few = of (untrue 0) refl few
  where
    of : (a : Bool) → untrue 0 ≡ a → 0 + cond a 1 0 ≤ 0 → (i : ℕ) × (i < 1) × (untrue i ≡ false)
    of true e few = absurd (omega (arith, few))
    of false e few = (0, omega arith, e)
one_true Three untrue less few = of (untrue 0) (untrue 1) (untrue 2) refl refl few
  where
    of : (a b c : Bool) → untrue 0 ≡ a → untrue 1 ≡ b → 0 + cond a 1 0 + cond b 1 0 + cond c 1 0 ≤ 1 → (i : ℕ) × (i < 3) × (untrue i ≡ false)
    of false b c e g few = (0, omega arith, e)
    of true false c e g few = (1, omega arith, g)
    of true true c e g few = absurd (omega (arith, few))
one_true Five untrue less few = absurd (omega (arith, less))

-- ---- all five

abbrev pub pulses_there : Redundancy → (ℕ → List Pulse) → ℕ → List Pulse
pulses_there r pulses i = if nat_lt i (ports_in r) then pulses i else []

kept_nothing : (EndsSo : ℕ → Type 0) (c : ClockRules) (rules : Rules) (kept : Option KeptClaim) (pulses : List Pulse) → kept ≡ None → IfKept EndsSo c rules kept pulses
kept_nothing EndsSo c rules kept pulses none = subst (λ (o : Option KeptClaim). IfKept EndsSo c rules o pulses) (sym none) tt

pub all_heard : (IsTrue : List Pulse → Type 0) (t : IrigTimekeeper) (now : ℕ) (pulses : ℕ → List Pulse) → ((ps : List Pulse) → IsTrue ps → IsTrue []) → KeepNoMore (ports_in (redundancy_in t.setup)) t.lines → HeardTruly IsTrue t now pulses
    → AreHeardTruly IsTrue (clock_in t) (rules_in t.setup) (f_of (redundancy_in t.setup)) now (lines_in (Some (clock_in t).limits.limits) (rules_in t.setup) t.lines) (pulses_there (redundancy_in t.setup) pulses)
all_heard IsTrue t now pulses silent absent h = record {
  untrue = there r h.untrue;
  few = few_there r h.untrue (f_of r) h.few;
  true_lines = λ i low right. elim (cases_Bool (nat_lt i (ports_in r))) [
    | inl here ↦ rw here (h.true_lines i (ltb-true i (ports_in r) here) (let is : cond true (h.untrue i) false ≡ false = rw here at right in is))
    | inr gone ↦
        let past = ltb-false i (ports_in r) gone in
        let one = one_true r h.untrue (omega (arith, past, low)) h.few in
        rw gone (silent (pulses one.0) (h.true_lines one.0 one.1 one.2))
  ];
  kept = λ i low. elim (cases_Bool (nat_lt i (ports_in r))) [
    | inl here ↦ rw here (h.kept i (ltb-true i (ports_in r) here))
    | inr gone ↦ kept_nothing (IsInTurnOf now) (clock_in t) (rules_in t.setup) _ _ (none_at (clock_in t) (Some (clock_in t).limits.limits) (rules_in t.setup) t.lines (ports_in r) i (some_port r) absent (ltb-false i (ports_in r) gone) low)
  ];
}
  where
    r : Redundancy
    r = redundancy_in t.setup
