-- What an audit keeps behind a call.
use Rattle.std.specs.Prelude.{◌==◌, ◌&&◌, nat_lt, nat_le, count_by}
use Rattle.std.specs.List.{range_with_len}
use Rattle.std.proofs.Common.{◌≡◌, ◌∙◌, ℕ, zero, suc, ◌+◌, ◌<◌, Bool, true, false, cond, List, [], ◌∷◌, refl, sym, ap, arith, inl, inr}
use Rattle.std.proofs.lemmas.Bool.{cases_Bool, eqb-true, le-leb, lt-ltb}
use Rattle.irig_frame.specs.declared.symbol.Symbol.{Symbol}
use Rattle.irig_sync.specs.Lines.{pulse_at}
use Rattle.irig_vote.specs.Vote.{f_of, ports_in}
use Rattle.irig_lines.specs.declared.setup.ClockRules.{ClockRules}
use Rattle.irig_lines.specs.Steps.{is_pulse}
use Rattle.irig_timekeeper.specs.Life.{Call, pulses_on}
use Rattle.irig_timekeeper.specs.Life.Call.{Hear, Tick}
use Rattle.irig_timekeeper.proofs.OrderLaws.{five}
use Rattle.irig_lives.specs.Decided.{have_risen, in_order, is_after, is_pulse_of}
use Rattle.irig_witness.specs.declared.line.LineWitness.{LineWitness}
use Rattle.irig_witness.specs.declared.watch.Watch.{Watch}
use Rattle.irig_witness.specs.Witness.{TrueLines, after_rise, after_true, is_doubted, is_kept, line_witness, new_witness, were_true}
use Rattle.irig_witness.specs.Watches.{IsWatchOf, doubted_in, kept_at_pulse, kept_at_tick, may_tick, rose_by, with_witness, witness_at}

-- ---- five lines

pub with_at : (w : Watch) (a : LineWitness) (p q : ℕ) → p < 5 → q < 5 → witness_at (with_witness w p a) q ≡ cond (q == p) a (witness_at w q)
with_at w a zero zero h k = refl
with_at w a zero (suc zero) h k = refl
with_at w a zero (suc (suc zero)) h k = refl
with_at w a zero (suc (suc (suc zero))) h k = refl
with_at w a zero (suc (suc (suc (suc zero)))) h k = refl
with_at w a zero (suc (suc (suc (suc (suc q))))) h k = absurd (omega (arith, k))
with_at w a (suc zero) zero h k = refl
with_at w a (suc zero) (suc zero) h k = refl
with_at w a (suc zero) (suc (suc zero)) h k = refl
with_at w a (suc zero) (suc (suc (suc zero))) h k = refl
with_at w a (suc zero) (suc (suc (suc (suc zero)))) h k = refl
with_at w a (suc zero) (suc (suc (suc (suc (suc q))))) h k = absurd (omega (arith, k))
with_at w a (suc (suc zero)) zero h k = refl
with_at w a (suc (suc zero)) (suc zero) h k = refl
with_at w a (suc (suc zero)) (suc (suc zero)) h k = refl
with_at w a (suc (suc zero)) (suc (suc (suc zero))) h k = refl
with_at w a (suc (suc zero)) (suc (suc (suc (suc zero)))) h k = refl
with_at w a (suc (suc zero)) (suc (suc (suc (suc (suc q))))) h k = absurd (omega (arith, k))
with_at w a (suc (suc (suc zero))) zero h k = refl
with_at w a (suc (suc (suc zero))) (suc zero) h k = refl
with_at w a (suc (suc (suc zero))) (suc (suc zero)) h k = refl
with_at w a (suc (suc (suc zero))) (suc (suc (suc zero))) h k = refl
with_at w a (suc (suc (suc zero))) (suc (suc (suc (suc zero)))) h k = refl
with_at w a (suc (suc (suc zero))) (suc (suc (suc (suc (suc q))))) h k = absurd (omega (arith, k))
with_at w a (suc (suc (suc (suc zero)))) zero h k = refl
with_at w a (suc (suc (suc (suc zero)))) (suc zero) h k = refl
with_at w a (suc (suc (suc (suc zero)))) (suc (suc zero)) h k = refl
with_at w a (suc (suc (suc (suc zero)))) (suc (suc (suc zero))) h k = refl
with_at w a (suc (suc (suc (suc zero)))) (suc (suc (suc (suc zero)))) h k = refl
with_at w a (suc (suc (suc (suc zero)))) (suc (suc (suc (suc (suc q))))) h k = absurd (omega (arith, k))
with_at w a (suc (suc (suc (suc (suc p))))) q h k = absurd (omega (arith, h))

pub tick_with : (w : Watch) (a : LineWitness) (p : ℕ) → p < 5 → (with_witness w p a).last_tick ≡ w.last_tick
tick_with w a zero h = refl
tick_with w a (suc zero) h = refl
tick_with w a (suc (suc zero)) h = refl
tick_with w a (suc (suc (suc zero))) h = refl
tick_with w a (suc (suc (suc (suc zero)))) h = refl
tick_with w a (suc (suc (suc (suc (suc p))))) h = absurd (omega (arith, h))

-- ---- tests, in another order

swap : (order truth more : Bool) → ((order && truth) && more) ≡ ((more && order) && truth)
swap true true true = refl
swap true true false = refl
swap true false true = refl
swap true false false = refl
swap false truth true = refl
swap false truth false = refl

swap_two : (order truth may few : Bool) → ((order && truth) && (may && few)) ≡ ((may && order) && (few && truth))
swap_two true true true true = refl
swap_two true true true false = refl
swap_two true true false few = refl
swap_two true false true true = refl
swap_two true false true false = refl
swap_two true false false few = refl
swap_two false truth true few = refl
swap_two false truth false few = refl

three : (a b c d : Bool) → ((a && (b && c)) && d) ≡ (a && (b && (c && d)))
three true true c d = refl
three true false c d = refl
three false b c d = refl

-- ---- one line

true_rose : (a : LineWitness) (j rise : ℕ) → (after_true a j rise).rise ≡ rise
true_rose a j rise = elim (cases_Bool (nat_le a.next j)) [
  | inl low ↦ rw low refl
  | inr high ↦ rw high (elim (cases_Bool (nat_le a.before j)) [
    | inl second ↦ rw second refl
    | inr earlier ↦ rw earlier refl
  ])
]

when_rose : (within : ℕ) (line : ℕ → Symbol) (edges : ℕ → ℕ) (a : LineWitness) (j rise width : ℕ) → (after_rise within line edges a j rise width).rise ≡ rise
when_rose within line edges a j rise width = elim (cases_Bool (is_pulse_of within line edges j (pulse_at rise width))) [
  | inl good ↦ rw good (true_rose a j rise)
  | inr bad ↦ rw bad refl
]

rose_is : (within : ℕ) (x : TrueLines) (line : ℕ) (calls : List Call) (time : ℕ) → is_after (pulses_on line calls) time ≡ nat_le (line_witness within x line calls).rise time
unfolding is_after
rose_is within x line [] time = sym (le-leb 0 time (omega arith))
rose_is within x line (Hear port rise width ∷ calls) time = elim (cases_Bool (line == port && is_pulse width)) [
  | inl here ↦ rw here (ap (λ (n : ℕ). nat_le n time) (sym (when_rose within (x.symbol line) x.edges (line_witness within x line calls) (x.near rise) rise width)))
  | inr other ↦ rw other (rose_is within x line calls time)
]
rose_is within x line (Tick now ∷ calls) time = rose_is within x line calls time

-- ---- an audit

module _ (w : Watch) (c : ClockRules) (x : TrueLines) (start : ℕ) (calls : List Call) (is : IsWatchOf w c x start calls) where
  rose_on : (line : ℕ) → line < 5 → (time : ℕ) → is_after (pulses_on line calls) time ≡ nat_le (witness_at w line).rise time
  rose_on line less time = rose_is c.within.us x line calls time ∙ ap (λ (a : LineWitness). nat_le a.rise time) (sym (is.lines line less))

  risen_is : (time : ℕ) → have_risen time calls ≡ rose_by w time
  unfolding have_risen
  risen_is time =
      let a = rose_on 0 (omega arith) time in
      let b = rose_on 1 (omega arith) time in
      let c = rose_on 2 (omega arith) time in
      let d = rose_on 3 (omega arith) time in
      let e = rose_on 4 (omega arith) time in
      rw (a, b, c, d, e) refl

  five_are : (a b c d e : ℕ) → 0 + a + b + c + d + e ≡ a + b + c + d + e
  five_are a b c d e = omega arith

  doubted_on : (now line : ℕ) → line < 5 → is_doubted c.within.us x calls now line ≡ nat_lt now (witness_at w line).clear
  doubted_on now line less = ap (λ (a : LineWitness). nat_lt now a.clear) (sym (is.lines line less))

  count_is : (now : ℕ) → count_by (is_doubted c.within.us x calls now) (range_with_len 0 5) ≡ doubted_in w now
  count_is now =
      let a : is_doubted c.within.us x calls now 0 ≡ nat_lt now w.a.clear = doubted_on now 0 (omega arith) in
      let b : is_doubted c.within.us x calls now 1 ≡ nat_lt now w.b.clear = doubted_on now 1 (omega arith) in
      let c' : is_doubted c.within.us x calls now 2 ≡ nat_lt now w.c.clear = doubted_on now 2 (omega arith) in
      let d : is_doubted c.within.us x calls now 3 ≡ nat_lt now w.d.clear = doubted_on now 3 (omega arith) in
      let e : is_doubted c.within.us x calls now 4 ≡ nat_lt now w.e.clear = doubted_on now 4 (omega arith) in
      rw (a, b, c', d, e) (five_are _ _ _ _ _)

  -- a tick now would be in order, if all calls were
  pub tick_is : (now : ℕ) → in_order start c.redundancy (Tick now ∷ calls) ≡ (may_tick w now && in_order start c.redundancy calls)
  unfolding in_order
  tick_is now =
      let at = is.tick in
      let risen = risen_is (now + 4000) in
      rw (risen, ← at) (sym (three _ _ (rose_by w (now + 4000)) _))

  pub ticks_on : (new : Watch) (now : ℕ) → ((line : ℕ) → witness_at new line ≡ witness_at w line) → new.last_tick ≡ now → new.is_kept ≡ kept_at_tick w (f_of c.redundancy) now
      → IsWatchOf new c x start (Tick now ∷ calls)
  ticks_on new now same at kept = record {
    lines = λ line less. same line ∙ is.lines line less;
    tick = at;
    kept = kept
        ∙ ap (λ (b : Bool). b && (may_tick w now && nat_le (doubted_in w now) (f_of c.redundancy))) is.kept
        ∙ swap_two (in_order start c.redundancy calls) (were_true c.within.us (f_of c.redundancy) x calls) (may_tick w now) (nat_le (doubted_in w now) (f_of c.redundancy))
        ∙ ap (λ (b : Bool). b && (nat_le (doubted_in w now) (f_of c.redundancy) && were_true c.within.us (f_of c.redundancy) x calls)) (sym (tick_is now))
        ∙ ap (λ (n : ℕ). in_order start c.redundancy (Tick now ∷ calls) && (nat_le n (f_of c.redundancy) && were_true c.within.us (f_of c.redundancy) x calls)) (sym (count_is now));
  }

  module _ (line rise width : ℕ) (there : line < ports_in c.redundancy) where
    heard_line : (q : ℕ) (b : Bool) → (q == line && is_pulse width) ≡ b
        → line_witness c.within.us x q (Hear line rise width ∷ calls) ≡ cond b (after_rise c.within.us (x.symbol q) x.edges (line_witness c.within.us x q calls) (x.near rise) rise width) (line_witness c.within.us x q calls)
    heard_line q b e = rw e refl

    -- what is too wide changes nothing
    pub stuck_on : is_pulse width ≡ false → IsWatchOf w c x start (Hear line rise width ∷ calls)
    unfolding in_order
    stuck_on wide = record {
      lines = λ q less. is.lines q less ∙ sym (heard_line q false (none q));
      tick = is.tick;
      kept = is.kept ∙ (let port : nat_lt line (ports_in c.redundancy) ≡ true = lt-ltb _ _ there in rw (port, wide) refl);
    }
      where
        no : (b : Bool) → (b && false) ≡ false
        no true = refl
        no false = refl

        none : (q : ℕ) → (q == line && is_pulse width) ≡ false
        none q = rw wide (no (q == line))

    pub hears_on : (new : Watch) (a : LineWitness) → is_pulse width ≡ true
        → a ≡ after_rise c.within.us (x.symbol line) x.edges (witness_at w line) (x.near rise) rise width
        → ((q : ℕ) → witness_at new q ≡ witness_at (with_witness w line a) q) → new.last_tick ≡ (with_witness w line a).last_tick → new.is_kept ≡ kept_at_pulse w line rise
        → IsWatchOf new c x start (Hear line rise width ∷ calls)
    unfolding in_order
    hears_on new a narrow after same at kept = record {
      lines = λ q less. same q ∙ with_at w a line q low less ∙ on q less;
      tick = at ∙ tick_with w a line low ∙ is.tick;
      kept = kept ∙ ap (λ (b : Bool). b && (nat_le (witness_at w line).rise rise && nat_le w.last_tick (rise + 500000))) is.kept
          ∙ swap (in_order start c.redundancy calls) (were_true c.within.us (f_of c.redundancy) x calls) _ ∙ order;
    }
      where
        low : line < 5
        low = omega (arith, there, five c.redundancy)

        order : ((((nat_le (witness_at w line).rise rise && nat_le w.last_tick (rise + 500000)) && in_order start c.redundancy calls)) && were_true c.within.us (f_of c.redundancy) x calls) ≡ is_kept c x start (Hear line rise width ∷ calls)
        order =
            let port : nat_lt line (ports_in c.redundancy) ≡ true = lt-ltb _ _ there in
            let rose = rose_on line low rise in
            let last = is.tick in
            rw (port, narrow, rose, ← last) refl

        on : (q : ℕ) → q < 5 → cond (q == line) a (witness_at w q) ≡ line_witness c.within.us x q (Hear line rise width ∷ calls)
        on q less = elim (cases_Bool (q == line)) [
          | inl here ↦
              let whole : (q == line && is_pulse width) ≡ true = rw (here, narrow) refl in
              let one : q ≡ line = eqb-true q line here in
              let here_it_is : cond (q == line) a (witness_at w q) ≡ a = rw here refl in
              here_it_is ∙ (after ∙ ap (λ (b : LineWitness). after_rise c.within.us (x.symbol line) x.edges b (x.near rise) rise width) (is.lines line low)
              ∙ ap (λ (n : ℕ). after_rise c.within.us (x.symbol n) x.edges (line_witness c.within.us x n calls) (x.near rise) rise width) (sym one) ∙ sym (heard_line q true whole))
          | inr other ↦
              let whole : (q == line && is_pulse width) ≡ false = rw other refl in
              let as_before : cond (q == line) a (witness_at w q) ≡ witness_at w q = rw other refl in
              as_before ∙ is.lines q less ∙ sym (heard_line q false whole)
        ]

-- nothing has come
all_new : (w : Watch) → w.a ≡ new_witness → w.b ≡ new_witness → w.c ≡ new_witness → w.d ≡ new_witness → w.e ≡ new_witness → (line : ℕ) → line < 5 → witness_at w line ≡ new_witness
all_new w a b c d e zero less = a
all_new w a b c d e (suc zero) less = b
all_new w a b c d e (suc (suc zero)) less = c
all_new w a b c d e (suc (suc (suc zero))) less = d
all_new w a b c d e (suc (suc (suc (suc zero)))) less = e
all_new w a b c d e (suc (suc (suc (suc (suc line))))) less = absurd (omega (arith, less))

pub new_on : (w : Watch) (c : ClockRules) (x : TrueLines) (start : ℕ) → w.a ≡ new_witness → w.b ≡ new_witness → w.c ≡ new_witness → w.d ≡ new_witness → w.e ≡ new_witness → w.last_tick ≡ start → w.is_kept ≡ true
    → IsWatchOf w c x start []
unfolding in_order
new_on w c x start one two three four five tick kept = record { lines = all_new w one two three four five; tick = tick; kept = kept }
