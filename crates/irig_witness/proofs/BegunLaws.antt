-- An audit asks only of seconds that have begun.
use Rattle.std.specs.Prelude.{◌==◌, ◌&&◌, nat_lt, nat_le, count_by}
use Rattle.std.specs.List.{range_with_len}
use Rattle.std.proofs.Common.{◌≡◌, ◌∙◌, ℕ, ◌+◌, ◌/◌, ◌<◌, ◌≤◌, Bool, true, false, cond, List, [], ◌∷◌, refl, ap, arith, inl, inr}
use Rattle.std.proofs.Math.Path.{fun_ext}
use Rattle.std.proofs.lemmas.Bool.{cases_Bool, lt-ltb, ltb-true}
use Rattle.irig_frame.specs.declared.symbol.Symbol.{Symbol}
use Rattle.irig_frame.specs.declared.symbol.Symbol.TheVariants.{Bad}
use Rattle.irig_frame.specs.Symbols.{symbol_of}
use Rattle.irig_sync.specs.Edges.{element_at}
use Rattle.irig_sync.specs.Lines.{pulse_at}
use Rattle.irig_port.specs.declared.port.Port.{Ghosts}
use Rattle.irig_vote.specs.Vote.{f_of}
use Rattle.irig_lines.specs.declared.setup.ClockRules.{ClockRules}
use Rattle.irig_lines.specs.Exactness.{most_within_us}
use Rattle.irig_lines.specs.Steps.{is_pulse}
use Rattle.irig_timekeeper.specs.Life.{Call}
use Rattle.irig_timekeeper.specs.Life.Call.{Hear, Tick}
use Rattle.irig_timekeeper.specs.Lived.{MadeOf}
use Rattle.irig_lives.specs.Decided.{in_order, is_pulse_of, is_same}
use Rattle.irig_wires.specs.Oscillator.{edges_by, rate_of}
use Rattle.irig_witness.specs.declared.device.Device.{Device}
use Rattle.irig_witness.specs.declared.line.LineWitness.{LineWitness}
use Rattle.irig_witness.specs.declared.watch.Watch.{Watch}
use Rattle.irig_witness.specs.Elements.{element_near}
use Rattle.irig_witness.specs.Witness.{AreSameBefore, HaveEnded, TrueLines, after_false, after_rise, after_true, is_doubted, is_kept, line_witness, lines_by, were_true}
use Rattle.irig_witness.specs.Watches.{IsWatchOf}
use Rattle.irig_witness.specs.Devices.{IsDeviceOf, edges_of}
use Rattle.irig_witness.proofs.SaidLaws.{bad_either}

not_less : (a b : ℕ) → nat_lt a b ≡ false → b ≤ a
not_less a b e = grind (arith, e)

narrow_bad : (width : ℕ) → width < 500 → symbol_of width ≡ Bad
narrow_bad width narrow = (let e : nat_lt width 500 ≡ true = lt-ltb width 500 narrow in rw e refl)

module _ (edges near : ℕ → ℕ) (time : ℕ) (symbol other : ℕ → ℕ → Symbol) (are : AreSameBefore edges time symbol other) (within : ℕ) (small : within ≤ most_within_us) where
  abbrev beside : (ℕ → ℕ → Symbol) → TrueLines
  beside s = record { symbol = s; edges = edges; near = near }

  -- of an element whose second has begun they have the same symbol; a pulse that has ended before is bad,
  -- if it is one of that element's time
  pulse_same : (line k rise width : ℕ) → rise + width ≤ time → is_pulse_of within (symbol line) edges k (pulse_at rise width) ≡ is_pulse_of within (other line) edges k (pulse_at rise width)
  unfolding is_pulse_of
  pulse_same line k rise width ended = elim (cases_Bool (nat_lt (edges (k / 100)) time)) [
    | inl begun ↦ ap (λ (s : Symbol). nat_lt (element_at edges k) (rise + within) && (nat_lt rise (element_at edges k + within) && is_same (symbol_of width) s)) (are.same line k (ltb-true _ _ begun))
    | inr ahead ↦ elim (cases_Bool (nat_lt (element_at edges k) (rise + within))) [
      | inl close ↦
          let narrow : width < 500 = omega (arith, ended, small, not_less _ _ ahead, ltb-true _ _ close) in
          ap (λ (b : Bool). nat_lt (element_at edges k) (rise + within) && (nat_lt rise (element_at edges k + within) && b))
          (bad_either (symbol_of width) (symbol line k) (other line k) (narrow_bad width narrow) (are.good line k) (are.other_good line k))
      | inr far ↦ rw far refl
    ]
  ]

  rise_same : (line : ℕ) (a : LineWitness) (j rise width : ℕ) → rise + width ≤ time → after_rise within (symbol line) edges a j rise width ≡ after_rise within (other line) edges a j rise width
  rise_same line a j rise width ended = ap (λ (b : Bool). cond b (after_true a j rise) (after_false a rise)) (pulse_same line j rise width ended)

  line_same : (line : ℕ) (calls : List Call) → HaveEnded time calls → line_witness within (beside symbol) line calls ≡ line_witness within (beside other) line calls
  line_same line [] h = refl
  line_same line (Hear port rise width ∷ calls) h = elim (cases_Bool (line == port && is_pulse width)) [
    | inl here ↦ rw here (ap (λ (a : LineWitness). after_rise within (symbol line) edges a (near rise) rise width) (line_same line calls h.1) ∙ rise_same line (line_witness within (beside other) line calls) (near rise) rise width h.0)
    | inr elsewhere ↦ rw elsewhere (line_same line calls h.1)
  ]
  line_same line (Tick now ∷ calls) h = line_same line calls h

  doubted_same : (calls : List Call) → HaveEnded time calls → (now line : ℕ) → is_doubted within (beside symbol) calls now line ≡ is_doubted within (beside other) calls now line
  doubted_same calls h now line = ap (λ (a : LineWitness). nat_lt now a.clear) (line_same line calls h)

  true_same : (f : ℕ) (calls : List Call) → HaveEnded time calls → were_true within f (beside symbol) calls ≡ were_true within f (beside other) calls
  true_same f [] h = refl
  true_same f (Hear port rise width ∷ calls) h = true_same f calls h.1
  true_same f (Tick now ∷ calls) h =
      ap (λ (p : ℕ → Bool). nat_le (count_by p (range_with_len 0 5)) f && were_true within f (beside symbol) calls) (fun_ext (doubted_same calls h now))
      ∙ ap (λ (b : Bool). nat_le (count_by (is_doubted within (beside other) calls now) (range_with_len 0 5)) f && b) (true_same f calls h)

module _ (first rate time : ℕ) (symbol other : ℕ → ℕ → Symbol) (are : AreSameBefore (edges_by first rate) time symbol other) (c : ClockRules) (start : ℕ) (calls : List Call) (ended : HaveEnded time calls) where
  pub kept_same : is_kept c (lines_by symbol first rate) start calls ≡ is_kept c (lines_by other first rate) start calls
  kept_same = ap (λ (b : Bool). in_order start c.redundancy calls && b) (true_same (edges_by first rate) (element_near first rate) time symbol other are c.within.us c.within.few (f_of c.redundancy) calls ended)

  pub watch_same : (w : Watch) → IsWatchOf w c (lines_by symbol first rate) start calls → IsWatchOf w c (lines_by other first rate) start calls
  watch_same w is = record {
    lines = λ line less. is.lines line less ∙ line_same (edges_by first rate) (element_near first rate) time symbol other are c.within.us c.within.few line calls ended;
    tick = is.tick;
    kept = is.kept ∙ kept_same;
  }

-- a device of which only seconds are known that have begun is one beside all
pub device_same : {P : Type 0} {g : Ghosts P} (device : Device P g) (made : MadeOf) (symbol other : ℕ → ℕ → Symbol) (start time : ℕ) (calls : List Call) → AreSameBefore (edges_of device) time symbol other → HaveEnded time calls
    → IsDeviceOf device made symbol start calls → IsDeviceOf device made other start calls
device_same device made symbol other start time calls are ended is = record {
  lived = is.lived;
  watch = watch_same device.oscillator.first (rate_of device.oscillator.gain_us) time symbol other are made.clock start calls ended device.watch is.watch;
  clock = is.clock;
}
