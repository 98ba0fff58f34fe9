-- What the functions of specs/Decided.antt say is so exactly if they say it.
use Rattle.std.proofs.Common.{◌≡◌, ◌∙◌, ◌↔◌, ◌⊎◌, ℕ, zero, suc, ◌+◌, ◌<◌, ◌≤◌, Bool, true, false, cond, not, ◌&&◌, List, [], ◌∷◌, ◌++◌, Option, Some, None, refl, sym, subst, ap, arith, inl, inr}
use Rattle.std.specs.Prelude.{nat_lt, nat_le, if◌then◌else◌}
use Rattle.std.proofs.lemmas.Bool.{cases_Bool, cases_lt, ltb-true, leb-true, lt-ltb, le-leb, and_from}
use Rattle.std.proofs.lemmas.Option.{same_Some}
use Rattle.irig_frame.specs.declared.symbol.Symbol.{Symbol}
use Rattle.irig_frame.specs.declared.symbol.Symbol.TheVariants.{Zero, One, Marker, Bad}
use Rattle.irig_frame.specs.Symbols.{symbol_of}
use Rattle.irig_sync.specs.Edges.{element_at}
use Rattle.irig_sync.specs.Lines.{Pulse, IsAfter}
use Rattle.irig_sync.specs.FaultyLines.{IsPulseOf}
use Rattle.irig_time.specs.declared.rules.Rules.{Rules}
use Rattle.irig_time.specs.Timelines.{TimelineValue}
use Rattle.irig_vote.specs.declared.redundancy.Redundancy.{Redundancy}
use Rattle.irig_vote.specs.Vote.{ports_in}
use Rattle.irig_lines.specs.Lines.{ArePulsesLately, IsLineOf, IsTrueLately}
use Rattle.irig_lines.specs.Steps.{is_pulse}
use Rattle.irig_timekeeper.specs.Life.{Call, pulses_on, last_tick, HaveRisen, AreInOrder, AreTrueLately, AreTrueAtTicks, AreTrueOver}
use Rattle.irig_timekeeper.specs.Life.Call.{Hear, Tick}
use Rattle.irig_lives.specs.Decided.{is_after, have_risen, in_order, is_same, is_pulse_of, last_before, are_lately, are_true_lately, are_true_at_ticks, are_true_over}
use Rattle.irig_timekeeper.proofs.OrderLaws.{five, silent_line}

pub both : (a b : Bool) → (a && b) ≡ true → (a ≡ true) × (b ≡ true)
both true b e = (refl, e)
both false b e = absurd cc

-- ---- the order of calls

after_is : (ps : List Pulse) (time : ℕ) → is_after ps time ≡ true → IsAfter ps time
unfolding is_after
after_is [] time e = tt
after_is (p ∷ ps) time e = leb-true p.rise time e

after_from : (ps : List Pulse) (time : ℕ) → IsAfter ps time → is_after ps time ≡ true
unfolding is_after
after_from [] time h = refl
after_from (p ∷ ps) time h = le-leb p.rise time h

risen_is : (start : ℕ) (r : Redundancy) (now : ℕ) (calls : List Call) → have_risen now calls ≡ true → AreInOrder start r calls → HaveRisen now calls
unfolding have_risen
risen_is start r now calls e order =
    let a = both (is_after (pulses_on 0 calls) now) _ e in
    let b = both (is_after (pulses_on 1 calls) now) _ a.1 in
    let c = both (is_after (pulses_on 2 calls) now) _ b.1 in
    let d = both (is_after (pulses_on 3 calls) now) _ c.1 in
    by a.0 b.0 c.0 d.0 d.1
  where
    none : (ps : List Pulse) → ps ≡ [] → IsAfter ps now
    none [] e = tt
    none (p ∷ ps) e = absurd cc

    by : is_after (pulses_on 0 calls) now ≡ true → is_after (pulses_on 1 calls) now ≡ true → is_after (pulses_on 2 calls) now ≡ true → is_after (pulses_on 3 calls) now ≡ true → is_after (pulses_on 4 calls) now ≡ true → HaveRisen now calls
    by a b c d e zero = after_is (pulses_on 0 calls) now a
    by a b c d e (suc zero) = after_is (pulses_on 1 calls) now b
    by a b c d e (suc (suc zero)) = after_is (pulses_on 2 calls) now c
    by a b c d e (suc (suc (suc zero))) = after_is (pulses_on 3 calls) now d
    by a b c d e (suc (suc (suc (suc zero)))) = after_is (pulses_on 4 calls) now e
    by a b c d e (suc (suc (suc (suc (suc i))))) = none (pulses_on (suc (suc (suc (suc (suc i))))) calls) (silent_line start r (suc (suc (suc (suc (suc i))))) (omega (arith, five r)) calls order)

risen_from : (now : ℕ) (calls : List Call) → HaveRisen now calls → have_risen now calls ≡ true
unfolding have_risen
risen_from now calls h = and_from _ _ (on 0) (and_from _ _ (on 1) (and_from _ _ (on 2) (and_from _ _ (on 3) (on 4))))
  where
    on : (line : ℕ) → is_after (pulses_on line calls) now ≡ true
    on line = after_from (pulses_on line calls) now (h line)

if_so : (b x : Bool) → (if b then x else true) ≡ true → b ≡ true → x ≡ true
if_so true x e so = e
if_so false x e so = absurd cc

so_if : (b x : Bool) → (b ≡ true → x ≡ true) → (if b then x else true) ≡ true
so_if true x h = h refl
so_if false x h = refl

pub order_is : (start : ℕ) (r : Redundancy) (calls : List Call) → in_order start r calls ≡ true → AreInOrder start r calls
unfolding in_order
order_is start r [] e = tt
order_is start r (Hear port rise width ∷ calls) e =
    let a = both (nat_lt port (ports_in r)) _ e in
    let b = both (if is_pulse width then is_after (pulses_on port calls) rise && nat_le (last_tick start calls) (rise + 500000) else true) _ a.1 in
    (ltb-true _ _ a.0, (λ narrow. (let c = both (is_after (pulses_on port calls) rise) _ (if_so (is_pulse width) _ b.0 narrow) in (after_is (pulses_on port calls) rise c.0, leb-true _ _ c.1))), order_is start r calls b.1)
order_is start r (Tick now ∷ calls) e =
    let a = both (nat_le (last_tick start calls) now) _ e in
    let b = both (nat_lt (now + 504000) (last_tick start calls + 1800000000)) _ a.1 in
    let c = both (have_risen (now + 4000) calls) _ b.1 in
    let order = order_is start r calls c.1 in
    (leb-true _ _ a.0, ltb-true _ _ b.0, risen_is start r (now + 4000) calls c.0 order, order)

order_from : (start : ℕ) (r : Redundancy) (calls : List Call) → AreInOrder start r calls → in_order start r calls ≡ true
unfolding in_order
order_from start r [] h = refl
order_from start r (Hear port rise width ∷ calls) h =
    and_from _ _ (lt-ltb _ _ h.0) (and_from _ _ (so_if (is_pulse width) _ (λ narrow. and_from _ _ (after_from (pulses_on port calls) rise (h.1 narrow).0) (le-leb _ _ (h.1 narrow).1))) (order_from start r calls h.2))
order_from start r (Tick now ∷ calls) h =
    and_from _ _ (le-leb _ _ h.0) (and_from _ _ (lt-ltb _ _ h.1) (and_from _ _ (risen_from (now + 4000) calls h.2) (order_from start r calls h.3)))

pub order_decided : (start : ℕ) (r : Redundancy) (calls : List Call) → AreInOrder start r calls ↔ (in_order start r calls ≡ true)
order_decided start r calls = (order_from start r calls, order_is start r calls)

-- ---- a line that is true of late

same_is : (x y : Symbol) → is_same x y ≡ true → x ≡ y
unfolding is_same
same_is Zero Zero e = refl
same_is Zero One e = absurd cc
same_is Zero Marker e = absurd cc
same_is Zero Bad e = absurd cc
same_is One Zero e = absurd cc
same_is One One e = refl
same_is One Marker e = absurd cc
same_is One Bad e = absurd cc
same_is Marker Zero e = absurd cc
same_is Marker One e = absurd cc
same_is Marker Marker e = refl
same_is Marker Bad e = absurd cc
same_is Bad Zero e = absurd cc
same_is Bad One e = absurd cc
same_is Bad Marker e = absurd cc
same_is Bad Bad e = refl

same_self : (x : Symbol) → is_same x x ≡ true
unfolding is_same
same_self Zero = refl
same_self One = refl
same_self Marker = refl
same_self Bad = refl

module _ (within : ℕ) (line : ℕ → Symbol) (edges : ℕ → ℕ) where
  pub pulse_is : (k : ℕ) (p : Pulse) → is_pulse_of within line edges k p ≡ true → IsPulseOf line edges within k p
  unfolding is_pulse_of
  pulse_is k p e =
      let a = both (nat_lt (element_at edges k) (p.rise + within)) _ e in
      let b = both (nat_lt p.rise (element_at edges k + within)) _ a.1 in
      ((ltb-true _ _ a.0, ltb-true _ _ b.0), same_is (symbol_of p.width) (line k) b.1)

  pub pulse_from : (k : ℕ) (p : Pulse) → IsPulseOf line edges within k p → is_pulse_of within line edges k p ≡ true
  unfolding is_pulse_of
  pulse_from k p h =
      let same : is_same (symbol_of p.width) (line k) ≡ true = subst (λ (x : Symbol). is_same (symbol_of p.width) x ≡ true) h.1 (same_self (symbol_of p.width)) in
      and_from _ _ (lt-ltb _ _ h.0.0) (and_from _ _ (lt-ltb _ _ h.0.1) same)

  chosen : (b : Bool) (k j : ℕ) (o : Option ℕ) → (if b then Some k else o) ≡ Some j → ((b ≡ true) × (k ≡ j)) ⊎ ((b ≡ false) × (o ≡ Some j))
  chosen true k j o e = inl (refl, same_Some k j e)
  chosen false k j o e = inr (refl, e)

  last_is : (k : ℕ) (p : Pulse) (j : ℕ) → last_before within line edges k p ≡ Some j → (j < k) × (is_pulse_of within line edges j p ≡ true)
  unfolding last_before
  last_is zero p j e = absurd cc
  last_is (suc k) p j e = elim (chosen (is_pulse_of within line edges k p) k j (last_before within line edges k p) e) [
    | inl found ↦ (omega (arith, found.1), subst (λ (i : ℕ). is_pulse_of within line edges i p ≡ true) found.1 found.0)
    | inr before ↦ (let is = last_is k p j before.1 in (omega (arith, is.0), is.1))
  ]

  last_from : (k : ℕ) (p : Pulse) (j : ℕ) → j < k → is_pulse_of within line edges j p ≡ true → (m : ℕ) × (last_before within line edges k p ≡ Some m) × (j ≤ m)
  unfolding last_before
  last_from zero p j less e = absurd (omega (arith, less))
  last_from (suc k) p j less e = elim (cases_Bool (is_pulse_of within line edges k p)) [
    | inl this_one ↦ (k, rw this_one refl, omega (arith, less))
    | inr other ↦ (let found = last_from k p j (below other (cases_lt j k)) e in (found.0, rw other found.1, found.2))
  ]
    where
      below : is_pulse_of within line edges k p ≡ false → (j < k) ⊎ (k ≤ j) → j < k
      below other (inl low) = low
      below other (inr high) =
          let same : j ≡ k = omega (arith, less, high) in
          let wrong : true ≡ false = sym e ∙ ap (λ (i : ℕ). is_pulse_of within line edges i p) same ∙ other in
          absurd cc

  module _ (now : ℕ) where
    from_last : (k : ℕ) (p : Pulse) (ps : List Pulse) → ((j : ℕ) → are_lately within line edges now (Some j) ps ≡ true → ArePulsesLately within line edges now j ps)
        → (o : Option ℕ) → last_before within line edges k p ≡ o → are_lately within line edges now o ps ≡ true → ArePulsesLately within line edges now k (p ∷ ps)
    unfolding are_lately
    from_last k p ps rest None is e = absurd cc
    from_last k p ps rest (Some j) is e = (let found = last_is k p j is in inr (j, found.0, pulse_is j p found.1, rest j e))

    lately_is : (k : ℕ) (ps : List Pulse) → are_lately within line edges now (Some k) ps ≡ true → ArePulsesLately within line edges now k ps
    unfolding are_lately
    lately_is k [] e = tt
    lately_is k (p ∷ ps) e = elim (cases_Bool (nat_lt (p.rise + 1200000) now)) [
      | inl old ↦ inl (ltb-true _ _ old, lately_is k ps (rw (are_lately, old) at e))
      | inr new ↦ from_last k p ps (λ j. lately_is j ps) (last_before within line edges k p) refl (rw (are_lately, new) at e)
    ]

    -- what is so below an element is so below a later one
    pub lower : (j k : ℕ) (ps : List Pulse) → j ≤ k → ArePulsesLately within line edges now j ps → ArePulsesLately within line edges now k ps
    lower j k [] less h = tt
    lower j k (p ∷ ps) less (inl old) = inl (old.0, lower j k ps less old.1)
    lower j k (p ∷ ps) less (inr new) = inr (new.0, omega (arith, less, new.1), new.2, new.3)

    behind : (k : ℕ) (p : Pulse) (ps : List Pulse) → ArePulsesLately within line edges now k (p ∷ ps) → ArePulsesLately within line edges now k ps
    behind k p ps (inl old) = old.1
    behind k p ps (inr new) = lower new.0 k ps (omega (arith, new.1)) new.3

    newest : (k : ℕ) (p : Pulse) (ps : List Pulse) → nat_lt (p.rise + 1200000) now ≡ false → ArePulsesLately within line edges now k (p ∷ ps)
        → (m : ℕ) × (last_before within line edges k p ≡ Some m) × ArePulsesLately within line edges now m ps
    newest k p ps new (inl old) = (let wrong : true ≡ false = sym (lt-ltb (p.rise + 1200000) now old.0) ∙ new in absurd cc)
    newest k p ps new (inr is) =
        let found = last_from k p is.0 is.1 (pulse_from is.0 p is.2) in
        (found.0, found.1, lower is.0 found.0 ps found.2 is.3)

    lately_from : (k : ℕ) (ps : List Pulse) → ArePulsesLately within line edges now k ps → are_lately within line edges now (Some k) ps ≡ true
    unfolding are_lately
    lately_from k [] h = refl
    lately_from k (p ∷ ps) h = elim (cases_Bool (nat_lt (p.rise + 1200000) now)) [
      | inl old ↦ rw (are_lately, old) (lately_from k ps (behind k p ps h))
      | inr new ↦ (let found = newest k p ps new h in rw (are_lately, new, found.1) ((lately_from found.0 ps found.2)))
    ]

pub lately_decided : (within : ℕ) (line : ℕ → Symbol) (edges : ℕ → ℕ) (now next : ℕ) (pulses : List Pulse) → ArePulsesLately within line edges now next pulses ↔ (are_lately within line edges now (Some next) pulses ≡ true)
lately_decided within line edges now next pulses = (lately_from within line edges now next pulses, lately_is within line edges now next pulses)

-- ---- lines that are true

not_no : (b : Bool) → not b ≡ false → b ≡ true
not_no true e = refl
not_no false e = absurd cc

pub no_more : (a b : Bool) → (b ≡ false → a ≡ false) → cond a 1 0 ≤ cond b 1 0
no_more true true h = omega arith
no_more false b h = omega arith
no_more true false h = (let wrong : true ≡ false = h refl in absurd cc)

pub five_more : (f a b c d e v w x y z : ℕ) → a ≤ v → b ≤ w → c ≤ x → d ≤ y → e ≤ z → 0 + v + w + x + y + z ≤ f → 0 + a + b + c + d + e ≤ f
five_more f a b c d e v w x y z la lb lc ld le few = omega (arith, la, lb, lc, ld, le, few)

module _ (IsTrue : ℕ → List Pulse → Type 0) (is_true : ℕ → List Pulse → Bool) (f : ℕ) (decides : (now : ℕ) (pulses : List Pulse) → IsTrue now pulses ↔ (is_true now pulses ≡ true)) where
  lines_are : (now : ℕ) (calls : List Call) → are_true_lately is_true f now calls ≡ true → AreTrueLately IsTrue f now calls
  unfolding are_true_lately
  lines_are now calls e = record {
    untrue = λ line. not (is_true now (pulses_on line calls));
    few = leb-true _ _ e;
    true_lines = λ line less right. (decides now (pulses_on line calls)).1 (not_no (is_true now (pulses_on line calls)) right);
  }

  lines_from : (now : ℕ) (calls : List Call) → AreTrueLately IsTrue f now calls → are_true_lately is_true f now calls ≡ true
  unfolding are_true_lately
  lines_from now calls h = le-leb _ _ (five_more f _ _ _ _ _ _ _ _ _ _ (on 0 (omega arith)) (on 1 (omega arith)) (on 2 (omega arith)) (on 3 (omega arith)) (on 4 (omega arith)) h.few)
    where
      turned : (b : Bool) → b ≡ true → not b ≡ false
      turned b e = rw e refl

      on : (line : ℕ) → line < 5 → cond (not (is_true now (pulses_on line calls))) 1 0 ≤ cond (h.untrue line) 1 0
      on line less = no_more (not (is_true now (pulses_on line calls))) (h.untrue line) (λ right. turned (is_true now (pulses_on line calls)) ((decides now (pulses_on line calls)).0 (h.true_lines line less right)))

  pub lines_decided : (now : ℕ) (calls : List Call) → AreTrueLately IsTrue f now calls ↔ (are_true_lately is_true f now calls ≡ true)
  lines_decided now calls = (lines_from now calls, lines_are now calls)

  ticks_are : (calls : List Call) → are_true_at_ticks is_true f calls ≡ true → AreTrueAtTicks IsTrue f calls
  unfolding are_true_at_ticks
  ticks_are [] e = tt
  ticks_are (Hear port rise width ∷ calls) e = ticks_are calls e
  ticks_are (Tick now ∷ calls) e = (let a = both (are_true_lately is_true f now calls) _ e in (lines_are now calls a.0, ticks_are calls a.1))

  ticks_from : (calls : List Call) → AreTrueAtTicks IsTrue f calls → are_true_at_ticks is_true f calls ≡ true
  unfolding are_true_at_ticks
  ticks_from [] h = refl
  ticks_from (Hear port rise width ∷ calls) h = ticks_from calls h
  ticks_from (Tick now ∷ calls) h = and_from _ _ (lines_from now calls h.0) (ticks_from calls h.1)

  pub ticks_decided : (calls : List Call) → AreTrueAtTicks IsTrue f calls ↔ (are_true_at_ticks is_true f calls ≡ true)
  ticks_decided calls = (ticks_from calls, ticks_are calls)

  over_are : (calls before : List Call) → are_true_over is_true f calls before ≡ true → AreTrueOver IsTrue f calls before
  unfolding are_true_over
  over_are [] before e = tt
  over_are (Hear port rise width ∷ calls) before e = over_are calls before e
  over_are (Tick now ∷ calls) before e = (let a = both (are_true_lately is_true f now (calls ++ before)) _ e in (lines_are now (calls ++ before) a.0, over_are calls before a.1))

  over_from : (calls before : List Call) → AreTrueOver IsTrue f calls before → are_true_over is_true f calls before ≡ true
  unfolding are_true_over
  over_from [] before h = refl
  over_from (Hear port rise width ∷ calls) before h = over_from calls before h
  over_from (Tick now ∷ calls) before h = and_from _ _ (lines_from now (calls ++ before) h.0) (over_from calls before h.1)

  pub over_decided : (calls before : List Call) → AreTrueOver IsTrue f calls before ↔ (are_true_over is_true f calls before ≡ true)
  over_decided calls before = (over_from calls before, over_are calls before)

-- lines that are true so are true in a way that asks no more
pub still_true : (Is IsTrue : ℕ → List Pulse → Type 0) → ((now : ℕ) (pulses : List Pulse) → Is now pulses → IsTrue now pulses) → (f : ℕ) (calls : List Call) → AreTrueAtTicks Is f calls → AreTrueAtTicks IsTrue f calls
still_true Is IsTrue weaker f [] h = tt
still_true Is IsTrue weaker f (Hear port rise width ∷ calls) h = still_true Is IsTrue weaker f calls h
still_true Is IsTrue weaker f (Tick now ∷ calls) h = (
  record { untrue = h.0.untrue; few = h.0.few; true_lines = λ i less right. weaker now (pulses_on i calls) (h.0.true_lines i less right) },
  still_true Is IsTrue weaker f calls h.1,
)

-- a line that is given is one that is true
pub truly_is : (within : ℕ) (rules : Rules) (t : TimelineValue) (edges : ℕ → ℕ) (line : ℕ → Symbol) → IsLineOf rules t line → (next f : ℕ) (calls : List Call)
    → are_true_at_ticks (λ now pulses. are_lately within line edges now (Some next) pulses) f calls ≡ true → AreTrueAtTicks (IsTrueLately within rules t edges) f calls
truly_is within rules t edges line is_line next f calls e =
    still_true IsSo (IsTrueLately within rules t edges) (λ now pulses are. record { line = line; next = next; is_line = is_line; are = are }) f calls
    ((ticks_decided IsSo (λ now pulses. are_lately within line edges now (Some next) pulses) f (λ now pulses. lately_decided within line edges now next pulses) calls).1 e)
  where
    IsSo : ℕ → List Pulse → Type 0
    IsSo now pulses = ArePulsesLately within line edges now next pulses
