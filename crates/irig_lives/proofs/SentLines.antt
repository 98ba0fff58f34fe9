-- What clocks send is a line that may have faults, and lose pulses.
use Rattle.std.specs.Prelude.{if◌then◌else◌, slice_get, slice_set, get_or}
use Rattle.std.proofs.Common.{◌≡◌, ◌∙◌, ℕ, ◌+◌, ◌*◌, ◌/◌, ◌%◌, ◌<◌, ◌≤◌, List, Some, refl, sym, subst, ap, arith, inl, inr}
use Rattle.std.proofs.lemmas.Bool.{cases_Bool, cases_lt, lt-ltb, le-ltb}
use Rattle.std.proofs.lemmas.Option.{slice_get-get_or}
use Rattle.irig_frame.specs.declared.symbol.Symbol.{Symbol}
use Rattle.irig_frame.specs.declared.symbol.Symbol.TheVariants.{One, Marker, Bad}
use Rattle.irig_frame.specs.FieldTable.{units_of, is_marker_place}
use Rattle.irig_frame.specs.declared.layout.Field.TheVariants.{Second, Minute}
use Rattle.irig_frame.specs.Values.{value}
use Rattle.irig_frame.specs.Decoder.{IsRight}
use Rattle.irig_sync.specs.Lines.{IsTrueLine}
use Rattle.irig_time.specs.declared.rules.Rules.{Rules}
use Rattle.irig_time.specs.declared.claim.Claim.{Claim}
use Rattle.irig_time.specs.Carries.{Carries}
use Rattle.irig_time.specs.Timelines.{TimelineValue, IsTrueClaim}
use Rattle.irig_port.specs.declared.told.Told.TheVariants as tells
use Rattle.irig_port.specs.Told.{told_of}
use Rattle.irig_port.specs.Damage.{IsFaultOr}
use Rattle.irig_port.proofs.CarriesLaws.{carries_is_told}
use Rattle.irig_port.proofs.DamageLaws.{damage_told}
use Rattle.irig_lines.specs.Lines.{IsLineOf, StandButForOne, IsCheckedLineOf, line_of}
use Rattle.irig_timekeeper.proofs.FaultLines.{same_but}

-- ---- a frame whose digits are all ones is none

filler : ℕ → Symbol
filler i = if is_marker_place i then Marker else One

filler_right : (i : ℕ) → IsRight i (Some (filler i))
unfolding filler
filler_right i = elim (cases_Bool (is_marker_place i)) [ inl marker ↦ rw marker marker | inr other ↦ rw other other ]

seconds : (s : List Symbol) → slice_get s 1 ≡ Some One → slice_get s 2 ≡ Some One → slice_get s 3 ≡ Some One → slice_get s 4 ≡ Some One → value (units_of Second) s ≡ 15
seconds s a b c d = rw (a, b, c, d) refl

minutes : (s : List Symbol) → slice_get s 10 ≡ Some One → slice_get s 11 ≡ Some One → slice_get s 12 ≡ Some One → slice_get s 13 ≡ Some One → value (units_of Minute) s ≡ 15
minutes s a b c d = rw (a, b, c, d) refl

no_claim : (rules : Rules) (q : ℕ) (s : List Symbol) (claim : Claim) → ((i : ℕ) → i < 100 → ¬ (i ≡ q) → slice_get s i ≡ Some (filler i)) → ¬ (Carries rules s claim)
unfolding filler
no_claim rules q s claim are carries = elim (cases_lt q 10) [
  | inl low ↦
      let fifteen = minutes s (are 10 (omega arith) (omega (arith, low))) (are 11 (omega arith) (omega (arith, low))) (are 12 (omega arith) (omega (arith, low))) (are 13 (omega arith) (omega (arith, low))) in
      omega (arith, fifteen, (carries.reads.digits Minute).0)
  | inr high ↦
      let fifteen = seconds s (are 1 (omega arith) (omega (arith, high))) (are 2 (omega arith) (omega (arith, high))) (are 3 (omega arith) (omega (arith, high))) (are 4 (omega arith) (omega (arith, high))) in
      omega (arith, fifteen, (carries.reads.digits Second).0)
]

-- ---- a line of n frames

module _ (rules : Rules) (t : TimelineValue) (n : ℕ) (frames : ℕ → List Symbol) (are : (f : ℕ) → f < n → (claim : Claim) × IsTrueClaim t (f + 1) claim × Carries rules (frames f) claim) where
  within : (f i : ℕ) → i < 100 → f < n → line_of frames n (100 * f + i) ≡ get_or (frames f) i Bad
  within f i low early =
      let frame : (100 * f + i) / 100 ≡ f = omega (arith, low) in
      let place : (100 * f + i) % 100 ≡ i = omega (arith, low) in
      rw (frame, place, lt-ltb f n early) refl

  beyond : (f i : ℕ) → i < 100 → n ≤ f → line_of frames n (100 * f + i) ≡ filler i
  unfolding filler
  beyond f i low late =
      let frame : (100 * f + i) / 100 ≡ f = omega (arith, low) in
      let place : (100 * f + i) % 100 ≡ i = omega (arith, low) in
      rw (frame, place, le-ltb f n late) refl

  right_at : (f i : ℕ) → i < 100 → IsRight i (Some (line_of frames n (100 * f + i)))
  right_at f i low = elim (cases_lt f n) [
    | inl early ↦
        let reads = (are f early).2.reads in
        let got : slice_get (frames f) i ≡ Some (line_of frames n (100 * f + i)) = slice_get-get_or (frames f) i Bad (omega (arith, low, reads.len)) ∙ ap (λ (x : Symbol). Some x) (sym (within f i low early)) in
        subst (IsRight i) got (reads.elements i low)
    | inr late ↦ subst (λ (x : Symbol). IsRight i (Some x)) (sym (beyond f i low late)) (filler_right i)
  ]

  right : IsTrueLine (line_of frames n)
  right k =
      let low : k % 100 < 100 = omega arith in
      let here : 100 * (k / 100) + k % 100 ≡ k = omega arith in
      subst (λ (j : ℕ). IsRight (k % 100) (Some (line_of frames n j))) here (right_at (k / 100) (k % 100) low)

  early_claim : (f q : ℕ) (s : List Symbol) (c : Claim) → f < n → StandButForOne (line_of frames n) (100 * f) q s → Carries rules s c → IsTrueClaim t (f + 1) c
  early_claim f q s c early stands carries =
      let own = are f early in
      let whole = own.2.reads.len in
      let x : Symbol = get_or s q Bad in
      let is = same_but (frames f) q s whole carries.reads.len (λ i low away. stands i low away ∙ (ap (λ (y : Symbol). Some y) (within f i low early) ∙ sym (slice_get-get_or (frames f) i Bad (omega (arith, low, whole))))) in
      let told : told_of rules (slice_set (frames f) q x) ≡ tells.Claim c = ap (told_of rules) (sym is) ∙ (carries_is_told rules s c).1 carries in
      let same : c ≡ own.0 = subst (IsFaultOr own.0) told (damage_told rules (frames f) own.0 q x ((carries_is_told rules (frames f) own.0).1 own.2)) in
      subst (λ (a : Claim). IsTrueClaim t (f + 1) a) (sym same) own.1

  pub sent_is_checked : IsCheckedLineOf rules t (line_of frames n)
  sent_is_checked = record {
    right = right;
    truth = λ f q s c stands carries. elim (cases_lt f n) [
      | inl early ↦ early_claim f q s c early stands carries
      | inr late ↦ absurd (no_claim rules q s c (λ i low away. stands i low away ∙ ap (λ (x : Symbol). Some x) (beyond f i low late)) carries)
    ];
  }

-- a line that may have a fault in each frame is one of which none has a fault
pub checked_is_line : (rules : Rules) (t : TimelineValue) (line : ℕ → Symbol) → IsCheckedLineOf rules t line → IsLineOf rules t line
checked_is_line rules t line checked = record { right = checked.right; truth = λ f s c stands. checked.truth f 0 s c (λ i low away. stands i low) }
