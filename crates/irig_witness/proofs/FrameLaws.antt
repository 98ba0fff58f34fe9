-- The line that an audit compares with is true, whatever generators send.
use Rattle.std.specs.Prelude.{◌==◌, ◌&&◌, slice_get, is_none}
use Rattle.std.proofs.Common.{◌≡◌, ◌∙◌, ℕ, ◌+◌, ◌*◌, ◌/◌, ◌%◌, ◌<◌, ◌≤◌, true, List, [], ◌∷◌, length, get_or, Option, Some, None, refl, sym, ap, subst, arith, inl, inr}
use Rattle.std.proofs.lemmas.Bool.{cases_Bool, eqb-true}
use Rattle.std.proofs.lemmas.Option.{slice_get-get_or}
use Rattle.irig_frame.specs.declared.symbol.Symbol.{Symbol}
use Rattle.irig_frame.specs.declared.symbol.Symbol.TheVariants.{Zero}
use Rattle.irig_frame.specs.declared.fault.FrameFault.{FrameFault}
use Rattle.irig_frame.specs.Faults.{first_wrong}
use Rattle.irig_frame.specs.Decoder.{IsRight}
use Rattle.irig_frame.proofs.ReadingLaws.{all_right}
use Rattle.irig_frame.specs.FieldTable.{places_of}
use Rattle.irig_frame.specs.Values.{value}
use Rattle.irig_frame.specs.declared.layout.Field.TheVariants.{Day}
use Rattle.irig_sync.specs.Lines.{StandAt}
use Rattle.irig_time.specs.declared.rules.Rules.{Rules}
use Rattle.irig_time.specs.declared.claim.Claim.{Claim}
use Rattle.irig_time.specs.Carries.{Carries}
use Rattle.irig_time.specs.Timelines.{TimelineValue, truth_at, IsTrueClaim}
use Rattle.irig_time.proofs.SecondAt.{claim_is}
use Rattle.irig_vote.proofs.CountLaws.{same_is}
use Rattle.irig_port.specs.declared.told.Told.{Told}
use Rattle.irig_port.specs.declared.told.Told.TheVariants as tells
use Rattle.irig_port.proofs.CarriesLaws.{carries_is_told}
use Rattle.irig_lines.specs.Lines.{IsLineOf}
use Rattle.irig_lives.proofs.DecidedLaws.{both}
use Rattle.irig_lives.proofs.LifeFacts.{same_list}
use Rattle.irig_witness.specs.TrueFrames.{claims_only, is_harmless, blank, first_harmless, true_symbol}

-- such a frame of the f-th second
record IsHarmless (rules : Rules) (t : TimelineValue) (f : ℕ) (s : List Symbol) : Type 0 where
  len : length s ≡ 100
  right : first_wrong 0 s ≡ None
  truth : (c : Claim) → Carries rules s c → IsTrueClaim t (f + 1) c

none_is : (o : Option FrameFault) → is_none o ≡ true → o ≡ None
none_is None e = refl
none_is (Some f) e = absurd cc

claim_true : (t : TimelineValue) (f : ℕ) (c : Claim) (o : Option Claim) → truth_at t f ≡ o → claims_only o (tells.Claim c) ≡ true → IsTrueClaim t (f + 1) c
claim_true t f c None e only = absurd cc
claim_true t f c (Some truth) e only =
    let same : c ≡ truth = same_is c truth only in
    (claim_is t f c).0 (e ∙ ap Some (sym same))

harmless_is : (rules : Rules) (t : TimelineValue) (f : ℕ) (s : List Symbol) → is_harmless rules t f s ≡ true → IsHarmless rules t f s
harmless_is rules t f s e =
    let one = both (length s == 100 && is_none (first_wrong 0 s)) _ e in
    let two = both (length s == 100) _ one.0 in
    record {
      len = eqb-true _ _ two.0;
      right = none_is _ two.1;
      truth = λ c carries.
          let told = (carries_is_told rules s c).1 carries in
          claim_true t f c (truth_at t f) refl (subst (λ (x : Told). claims_only (truth_at t f) x ≡ true) told one.1);
    }

-- ---- the blank frame

blank_right : first_wrong 0 blank ≡ None
unfolding blank
blank_right = refl

blank_len : length blank ≡ 100
unfolding blank
blank_len = refl

blank_day : value (places_of Day) blank ≡ 0
unfolding blank
blank_day = refl

blank_silent : (rules : Rules) (c : Claim) → Carries rules blank c → ⊥
blank_silent rules c carries =
    let day : 1 ≤ value (places_of Day) blank = (carries.reads.ranges Day).0 in
    absurd (omega (arith, day, blank_day))

blank_harmless : (rules : Rules) (t : TimelineValue) (f : ℕ) → IsHarmless rules t f blank
blank_harmless rules t f = record {
  len = blank_len;
  right = blank_right;
  truth = λ c carries. absurd (blank_silent rules c carries);
}

first_is_harmless : (rules : Rules) (t : TimelineValue) (f : ℕ) (ss : List (List Symbol)) → IsHarmless rules t f (first_harmless rules t f ss)
first_is_harmless rules t f [] = blank_harmless rules t f
first_is_harmless rules t f (s ∷ ss) =
    elim (cases_Bool (is_harmless rules t f s)) [
      | inl good ↦ rw good (harmless_is rules t f s good)
      | inr bad ↦ rw bad (first_is_harmless rules t f ss)
    ]

-- ---- a line of such frames

module _ (rules : Rules) (t : TimelineValue) (frames : ℕ → List Symbol) (are : (f : ℕ) → IsHarmless rules t f (frames f)) where
  symbol : ℕ → Symbol
  symbol k = get_or (frames (k / 100)) (k % 100) Zero

  stands : (f i : ℕ) → i < 100 → slice_get (frames f) i ≡ Some (symbol (100 * f + i))
  unfolding symbol
  stands f i less =
      let there : (100 * f + i) / 100 ≡ f = omega (arith, less) in
      let at : (100 * f + i) % 100 ≡ i = omega (arith, less) in
      let get : slice_get (frames f) i ≡ Some (get_or (frames f) i Zero) = slice_get-get_or (frames f) i Zero (omega (arith, less, (are f).len)) in
      rw (there, at) get

  right_at : (k : ℕ) → IsRight (k % 100) (Some (symbol k))
  unfolding symbol
  right_at k =
      let f = k / 100 in
      let i = k % 100 in
      let less : i < 100 = omega arith in
      let is : slice_get (frames f) i ≡ Some (get_or (frames f) i Zero) = slice_get-get_or (frames f) i Zero (omega (arith, less, (are f).len)) in
      let right : IsRight (0 + i) (slice_get (frames f) i) = all_right 0 (frames f) (are f).right i (omega (arith, less, (are f).len)) in
      let none : 0 + i ≡ i = omega arith in
      subst (λ (o : Option Symbol). IsRight i o) is (subst (λ (j : ℕ). IsRight j (slice_get (frames f) i)) none right)

  frame_is : (f : ℕ) (s : List Symbol) → length s ≡ 100 → StandAt symbol (100 * f) s → s ≡ frames f
  frame_is f s len stand = same_list s (frames f) (len ∙ sym (are f).len) (λ i less.
      let small : i < 100 = omega (arith, less, (are f).len) in
      stand i small ∙ sym (stands f i small))

  line_true : IsLineOf rules t symbol
  line_true = record {
    right = right_at;
    truth = λ f s c stand carries. (are f).truth c (subst (λ (x : List Symbol). Carries rules x c) (frame_is f s carries.reads.len stand) carries);
  }

pub true_line_is : (rules : Rules) (t : TimelineValue) (sent : ℕ → List (List Symbol)) → IsLineOf rules t (true_symbol rules t sent)
unfolding symbol
true_line_is rules t sent = line_true rules t (λ f. first_harmless rules t f (sent f)) (λ f. first_is_harmless rules t f (sent f))
