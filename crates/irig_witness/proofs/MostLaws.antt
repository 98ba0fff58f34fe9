-- An audit of all pulses of a frame but its last one.
use Rattle.std.specs.Prelude.{◌==◌, ◌&&◌, nat_le}
use Rattle.std.proofs.Common.{◌≡◌, ◌∙◌, ℕ, zero, suc, ◌+◌, ◌<◌, ◌≤◌, Bool, true, false, List, ◌++◌, refl, sym, ap, subst, arith, inl, inr}
use Rattle.std.proofs.lemmas.Bool.{and_from, cases_Bool, eqb-true, le-leb, leb-true}
use Rattle.irig_sync.specs.Lines.{pulse_at}
use Rattle.irig_vote.specs.Vote.{ports_in}
use Rattle.irig_lines.specs.declared.setup.ClockRules.{ClockRules}
use Rattle.irig_timekeeper.specs.Life.{Call}
use Rattle.irig_timekeeper.specs.Unfinished.{AreOfAFrame, hears, most, pulses_by}
use Rattle.irig_timekeeper.proofs.OrderLaws.{five}
use Rattle.irig_lives.specs.Decided.{is_pulse_of}
use Rattle.irig_lives.proofs.DecidedLaws.{both}
use Rattle.irig_witness.specs.declared.line.LineWitness.{LineWitness}
use Rattle.irig_witness.specs.declared.watch.Watch.{Watch}
use Rattle.irig_witness.specs.Witness.{TrueLines, after_rise, after_true}
use Rattle.irig_witness.specs.Watches.{IsWatchOf, may_hear, with_witness, witness_at}
use Rattle.irig_witness.specs.Unfinished.{WatchesUnfinished, after_more, may_begin}
use Rattle.irig_witness.proofs.WatchLaws.{hears_on, tick_with, with_at}

-- ---- five lines

with_twice : (w : Watch) (a b : LineWitness) (p : ℕ) → p < 5 → with_witness (with_witness w p a) p b ≡ with_witness w p b
with_twice w a b zero h = refl
with_twice w a b (suc zero) h = refl
with_twice w a b (suc (suc zero)) h = refl
with_twice w a b (suc (suc (suc zero))) h = refl
with_twice w a b (suc (suc (suc (suc zero)))) h = refl
with_twice w a b (suc (suc (suc (suc (suc p))))) h = absurd (omega (arith, h))

at_with : (w : Watch) (a : LineWitness) (p : ℕ) → p < 5 → witness_at (with_witness w p a) p ≡ a
at_with w a zero h = refl
at_with w a (suc zero) h = refl
at_with w a (suc (suc zero)) h = refl
at_with w a (suc (suc (suc zero))) h = refl
at_with w a (suc (suc (suc (suc zero)))) h = refl
at_with w a (suc (suc (suc (suc (suc p))))) h = absurd (omega (arith, h))

kept_with : (w : Watch) (a : LineWitness) (p : ℕ) → p < 5 → (with_witness w p a).is_kept ≡ w.is_kept
kept_with w a zero h = refl
kept_with w a (suc zero) h = refl
kept_with w a (suc (suc zero)) h = refl
kept_with w a (suc (suc (suc zero))) h = refl
kept_with w a (suc (suc (suc (suc zero)))) h = refl
kept_with w a (suc (suc (suc (suc (suc p))))) h = absurd (omega (arith, h))

other_with : (w : Watch) (a : LineWitness) (p q : ℕ) → p < 5 → q < 5 → ¬ (q ≡ p) → witness_at (with_witness w p a) q ≡ witness_at w q
other_with w a p q h k apart = elim (cases_Bool (q == p)) [
  | inl here ↦ absurd (apart (eqb-true q p here))
  | inr elsewhere ↦ with_at w a p q h k ∙ rw elsewhere refl
]

-- ---- one line

and_yes : (a b : Bool) → b ≡ true → a ≡ (a && b)
and_yes true b e = sym e
and_yes false b e = refl

yet_to_come : (a : LineWitness) (j rise : ℕ) → a.next ≤ j → after_true a j rise ≡ record { next = j + 1; before = j; clear = a.clear; again = rise + 1200001; rise = rise }
yet_to_come a j rise less = (let e : nat_le a.next j ≡ true = le-leb _ _ less in rw e refl)

module _ (w : Watch) (c : ClockRules) (x : TrueLines) (start : ℕ) (calls : List Call) (is : IsWatchOf w c x start calls) (line element : ℕ) (there : line < ports_in c.redundancy) (rise width : ℕ → ℕ) (frame : AreOfAFrame rise width)
    (may : may_begin w line (rise 0) element ≡ true)
    (are : (i : ℕ) → i < most → (x.near (rise i) ≡ element + i) × (is_pulse_of c.within.us (x.symbol line) x.edges (element + i) (pulse_at (rise i) (width i)) ≡ true)) where
  low : line < 5
  low = omega (arith, there, five c.redundancy)

  -- the audit behind the first n of these pulses
  abbrev behind : ℕ → Watch
  behind zero = w
  behind (suc n) = with_witness w line (after_more (witness_at w line) n element (rise n))

  -- the next one goes on there
  record GoesOn (n : ℕ) : Type 0 where
    pub next : (witness_at (behind n) line).next ≤ element + n
    pub clear : (witness_at (behind n) line).clear ≡ (witness_at w line).clear
    pub rose : (witness_at (behind n) line).rise ≤ rise n
    pub tick : (behind n).last_tick ≤ rise n + 500000
    pub kept : (behind n).is_kept ≡ w.is_kept
    pub with : (a : LineWitness) → with_witness (behind n) line a ≡ with_witness w line a

  begins : GoesOn 0
  begins =
      let a = both (nat_le (witness_at w line).next element) _ may in
      let b = both (nat_le (witness_at w line).rise (rise 0)) _ a.1 in
      record {
        next = omega (arith, leb-true _ _ a.0);
        clear = refl;
        rose = leb-true _ _ b.0;
        tick = leb-true _ _ b.1;
        kept = refl;
        with = λ a. refl;
      }

  rises : (n : ℕ) → suc n < most → rise n ≤ rise (suc n)
  rises n less = omega (arith, (frame.on_time n less).0)

  behind_first : (n : ℕ) → n < most → rise 0 ≤ rise n
  behind_first zero less = omega arith
  behind_first (suc n) less = omega (arith, rises n less, behind_first n (omega (arith, less)))

  goes_on : (n : ℕ) → n < most → GoesOn n
  goes_on zero less = begins
  goes_on (suc n) less =
      let a = after_more (witness_at w line) n element (rise n) in
      let at : witness_at (behind (suc n)) line ≡ a = at_with w a line low in
      let next : (witness_at (behind (suc n)) line).next ≡ element + n + 1 = ap (λ (b : LineWitness). b.next) at in
      let rose : (witness_at (behind (suc n)) line).rise ≡ rise n = ap (λ (b : LineWitness). b.rise) at in
      record {
        next = omega (arith, next);
        clear = ap (λ (b : LineWitness). b.clear) at;
        rose = omega (arith, rose, rises n less);
        tick = omega (arith, tick_with w a line low, begins.tick, behind_first (suc n) less);
        kept = kept_with w a line low;
        with = λ b. with_twice w a b line low;
      }

  after : (n : ℕ) → n < most → GoesOn n
      → after_more (witness_at w line) n element (rise n) ≡ after_rise c.within.us (x.symbol line) x.edges (witness_at (behind n) line) (x.near (rise n)) (rise n) (width n)
  after n less on =
      let at = (are n less).0 in
      let good = (are n less).1 in
      let come = yet_to_come (witness_at (behind n) line) (element + n) (rise n) on.next in
      let clear = on.clear in
      sym (rw (at, good) (come ∙ rw clear refl))

  watches : (n : ℕ) → n ≤ most → IsWatchOf (behind n) c x start (hears line (pulses_by rise width n) ++ calls)
  watches zero less = is
  watches (suc n) less =
      let small : n < most = omega (arith, less) in
      let on = goes_on n small in
      let a = after_more (witness_at w line) n element (rise n) in
      let same : behind (suc n) ≡ with_witness (behind n) line a = sym (on.with a) in
      let told : may_hear (behind n) line (rise n) ≡ true = and_from _ _ (le-leb _ _ on.rose) (le-leb _ _ on.tick) in
      hears_on (behind n) c x start (hears line (pulses_by rise width n) ++ calls) (watches n (omega (arith, less))) line (rise n) (width n) there
      (behind (suc n)) a (frame.pulses n small) (after n small on) (λ q. ap (λ (v : Watch). witness_at v q) same) (ap (λ (v : Watch). v.last_tick) same)
      (kept_with w a line low ∙ sym on.kept ∙ and_yes _ _ told)

pub hears_most : (w new : Watch) (line element last : ℕ) → new ≡ with_witness w line (after_more (witness_at w line) 98 element last) → WatchesUnfinished w new line element last
hears_most w new line element last e c x start calls rise width is there frame at may are =
    let whole : IsWatchOf (with_witness w line (after_more (witness_at w line) 98 element (rise 98))) c x start (hears line (pulses_by rise width most) ++ calls) =
    watches w c x start calls is line element there rise width frame may are 99 (omega arith) in
    let same : new ≡ with_witness w line (after_more (witness_at w line) 98 element (rise 98)) = e ∙ ap (λ (n : ℕ). with_witness w line (after_more (witness_at w line) 98 element n)) at in
    subst (λ (v : Watch). IsWatchOf v c x start (hears line (pulses_by rise width most) ++ calls)) (sym same) whole

-- of the other lines it knows the same
pub others_most : (w new : Watch) (line : ℕ) (a : LineWitness) → line < 5 → new ≡ with_witness w line a → (other : ℕ) → other < 5 → ¬ (other ≡ line) → witness_at new other ≡ witness_at w other
others_most w new line a low e other less apart = ap (λ (v : Watch). witness_at v other) e ∙ other_with w a line other low less apart

pub tick_most : (w new : Watch) (line : ℕ) (a : LineWitness) → line < 5 → new ≡ with_witness w line a → new.last_tick ≡ w.last_tick
tick_most w new line a low e = ap (λ (v : Watch). v.last_tick) e ∙ tick_with w a line low
