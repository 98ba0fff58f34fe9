-- One damaged pulse: what is told of symbols of which one is another.
use Rattle.std.proofs.Common.{◌≡◌, ℕ, zero, suc, ◌+◌, ◌*◌, ◌%◌, ◌<◌, ◌≤◌, ◌⊎◌, Bool, true, false, not, ◌&&◌, ◌||◌, ◌/◌, cond, eqb, nat_lt, nat_le, List, [], ◌∷◌, length, Option, Some, None, Result, Ok, Err, get_or, slice_get, slice_set, refl, sym, zero-add, add-zero, ap, subst, ◌∙◌, arith, inl, inr}
use Rattle.std.specs.Option.{option_or}
use Rattle.std.specs.List.{list_all, Contains}
use Rattle.std.specs.Prelude.{pos, int_lt, unsigned_abs}
use Rattle.std.proofs.lemmas.List.Elements.{All-contains}
use Rattle.std.proofs.lemmas.List.Sums.{AllPass-from_list_all}
use Rattle.std.proofs.lemmas.Bool.{agree_below_at, and_parts, cases_Bool, cases_eq, cases_lt, eqb-true, eq-eqb, ne_eqb, ltb-true, ltb-false, lt-ltb, le-ltb, le-leb, leb-true, both_ways}
use Rattle.std.proofs.lemmas.List.{length-set, set_past, set-get_or}
use Rattle.std.proofs.lemmas.Option.{slice_get-get_or}
use Rattle.irig_frame.specs.declared.symbol.Symbol.{Symbol}
use Rattle.irig_frame.specs.declared.symbol.Symbol.TheVariants.{Zero, One, Marker, Bad}
use Rattle.irig_frame.specs.declared.fault.FrameFault.{FrameFault}
use Rattle.irig_frame.specs.declared.fault.FrameFault.TheVariants as frame_fault
use Rattle.irig_frame.specs.declared.layout.Field.{Field}
use Rattle.irig_frame.specs.declared.layout.Field.TheVariants.{Second, Minute, Hour, Day, Year}
use Rattle.irig_frame.specs.declared.coded.Coded.{Coded}
use Rattle.irig_frame.specs.FieldTable.{TableEntry, units_of, tens_of, places_of, control_places, straight_binary_places, is_marker_place}
use Rattle.irig_frame.specs.Values.{is_one, value}
use Rattle.irig_frame.specs.Decoder.{IsRight, Reads}
use Rattle.irig_frame.specs.Faults.{element_fault, first_wrong}
use Rattle.irig_frame.proofs.ReadingLaws.{first_of, no_fault, each, none_of}
use Rattle.irig_frame.proofs.WritingLaws.{ones as held, by_sum, get-set_same, get-set_other}
use Rattle.irig_control.specs.declared.control.Control.{Control}
use Rattle.irig_control.specs.Control.{control_of}
use Rattle.irig_control.proofs.ControlLaws.{same_bits}
use Rattle.irig_control.specs.Parity.{ones, remainder_of, has_parity, HasParity}
use Rattle.irig_control.proofs.ParityKeeps.{elements_after}
use Rattle.irig_time.specs.declared.rules.Rules.{Rules}
use Rattle.irig_time.specs.declared.claim.Claim.{Claim}
use Rattle.irig_time.specs.declared.claim.TimeFault.{TimeFault}
use Rattle.irig_time.specs.declared.claim.TimeFault.TheVariants as fault_of_time
use Rattle.irig_time.specs.declared.second.TheConstants.{FIRST_DAY, LAST_DAY}
use Rattle.irig_time.specs.Days.{is_month_end, year_length}
use Rattle.irig_time.specs.declared.rules.Sense.{Sense}
use Rattle.irig_time.specs.declared.rules.Sense.TheVariants.{Add, Subtract}
use Rattle.irig_time.specs.declared.rules.SbsUse.{SbsUse}
use Rattle.irig_time.specs.declared.rules.SbsUse.TheVariants.{Check, Ignore}
use Rattle.irig_time.specs.Claims.{utc_minute, is_last_minute, claim_at, claim_by}
use Rattle.irig_time.specs.Carries.{SbsAgrees, Carries}
use Rattle.irig_port.specs.declared.told.PortFault.{PortFault}
use Rattle.irig_port.specs.declared.told.PortFault.TheVariants as fault
use Rattle.irig_port.specs.declared.told.Told.{Told}
use Rattle.irig_port.specs.declared.told.Told.TheVariants as tells
use Rattle.irig_port.specs.Told.{is_sbs_wrong, coded_told, told_of, frame_told}
use Rattle.irig_port.specs.Damage.{IsFaultOr, IsOtherBit, compares_seconds, unread_places}
use Rattle.irig_port.proofs.ToldLaws.{parity_told}
use Rattle.irig_port.proofs.CarriesLaws.{told_of_reading, carries_is_told}
use Rattle.irig_port.proofs.SumLaws.{weight_at, parity_places, ones-held, cond-same, cond-add}

-- ---- elements

or_none : (a b : Option FrameFault) → b ≡ None → option_or a b ≡ a
or_none None b e = e
or_none (Some f) b e = refl

-- of right symbols with another one the fault is its own
first_wrong-set : (k : ℕ) (s : List Symbol) (i : ℕ) (x : Symbol) → first_wrong k s ≡ None → i < length s → first_wrong k (slice_set s i x) ≡ element_fault (k + i) x
first_wrong-set k [] i x e h = absurd (omega arith)
first_wrong-set k (y ∷ s) zero x e h =
    let parts = first_of (element_fault k y) (first_wrong (k + 1) s) e in
    or_none (element_fault k x) (first_wrong (k + 1) s) parts.1 ∙ ap (λ (j : ℕ). element_fault j x) (sym (add-zero k))
first_wrong-set k (y ∷ s) (suc i) x e h =
    let parts = first_of (element_fault k y) (first_wrong (k + 1) s) e in
    let there : k + 1 + i ≡ k + suc i = omega arith in
    rw (parts.0) (first_wrong-set (k + 1) s i x parts.1 (omega arith) ∙ ap (λ (j : ℕ). element_fault j x) there)

-- ---- the sum over some places

-- what the symbol adds to the sum over the places
abbrev adds : List TableEntry → ℕ → Option Symbol → ℕ
adds ps i o = cond (is_one o) (weight_at ps i) 0

place-set : (s : List Symbol) (i : ℕ) (x : Symbol) (j w : ℕ) → i < length s
    → cond (is_one (slice_get (slice_set s i x) j)) w 0 + cond (is_one (slice_get s i)) (cond (eqb j i) w 0) 0 ≡ cond (is_one (slice_get s j)) w 0 + cond (is_one (Some x)) (cond (eqb j i) w 0) 0
place-set s i x j w h =
    elim (cases_eq j i) [
      | inl same ↦
          let here : slice_get (slice_set s i x) j ≡ Some x = ap (slice_get (slice_set s i x)) same ∙ get-set_same s i x h in
          let was : slice_get s j ≡ slice_get s i = ap (slice_get s) same in
          rw (eq-eqb j i same, here, was) (omega arith)
      | inr apart ↦
          let here : slice_get (slice_set s i x) j ≡ slice_get s j = get-set_other s i j x (λ e. apart (sym e)) in
          rw (ne_eqb j i apart, here, cond-same (is_one (slice_get s i)), cond-same (is_one (Some x))) refl
    ]

held-set : (ps : List TableEntry) (s : List Symbol) (i : ℕ) (x : Symbol) → i < length s → held ps (slice_set s i x) + adds ps i (slice_get s i) ≡ held ps s + adds ps i (Some x)
held-set [] s i x h = rw (cond-same (is_one (slice_get s i)), cond-same (is_one (Some x))) refl
held-set (p ∷ ps) s i x h =
    let here = place-set s i x p.element p.weight h in
    let rest = held-set ps s i x h in
    let was = cond-add (is_one (slice_get s i)) (cond (eqb p.element i) p.weight 0) (weight_at ps i) in
    let is = cond-add (is_one (Some x)) (cond (eqb p.element i) p.weight 0) (weight_at ps i) in
    omega (arith, here, rest, was, is)

value-set : (ps : List TableEntry) (s : List Symbol) (i : ℕ) (x : Symbol) → i < length s → value ps (slice_set s i x) + adds ps i (slice_get s i) ≡ value ps s + adds ps i (Some x)
value-set ps s i x h = rw (by_sum ps (slice_set s i x), by_sum ps s) (held-set ps s i x h)

-- a place that is none of these changes nothing
value-kept : (ps : List TableEntry) (s : List Symbol) (i : ℕ) (x : Symbol) → i < length s → weight_at ps i ≡ 0 → value ps (slice_set s i x) ≡ value ps s
value-kept ps s i x h none =
    let was : adds ps i (slice_get s i) ≡ 0 = rw none (cond-same (is_one (slice_get s i))) in
    let is : adds ps i (Some x) ≡ 0 = rw none (cond-same (is_one (Some x))) in
    let whole = value-set ps s i x h in
    omega (arith, was, is, whole)

ones-set : (s : List Symbol) (i : ℕ) (x : Symbol) → i < length s → ones (slice_set s i x) + adds parity_places i (slice_get s i) ≡ ones s + adds parity_places i (Some x)
ones-set s i x h = rw (ones-held (slice_set s i x), ones-held s) (held-set parity_places s i x h)

-- ---- the other bit

-- which of the two bits stood there
other_cases : (o : Option Symbol) (x : Symbol) → IsOtherBit o x → ((o ≡ Some Zero) × (x ≡ One)) ⊎ ((o ≡ Some One) × (x ≡ Zero))
other_cases (Some Zero) One h = inl (refl, refl)
other_cases (Some One) Zero h = inr (refl, refl)
other_cases None x h = absurd h
other_cases (Some Zero) Zero h = absurd h
other_cases (Some Zero) Marker h = absurd h
other_cases (Some Zero) Bad h = absurd h
other_cases (Some One) One h = absurd h
other_cases (Some One) Marker h = absurd h
other_cases (Some One) Bad h = absurd h
other_cases (Some Marker) x h = absurd h
other_cases (Some Bad) x h = absurd h

-- it adds the weight, or takes it away
other-adds : (ps : List TableEntry) (i : ℕ) (o : Option Symbol) (x : Symbol) → IsOtherBit o x → adds ps i o + adds ps i (Some x) ≡ weight_at ps i
other-adds ps i o x h =
    elim (other_cases o x h) [
      | inl e ↦ rw (e.0, e.1) (zero-add (weight_at ps i))
      | inr e ↦ rw (e.0, e.1) (add-zero (weight_at ps i))
    ]

-- the other bit is right if a bit is
other_right : (i : ℕ) (o : Option Symbol) (x : Symbol) → IsRight i o → IsOtherBit o x → (is_marker_place i ≡ false) × IsRight i (Some x)
other_right i (Some Zero) One right h = (right, right)
other_right i (Some One) Zero right h = (right, right)
other_right i None x right h = absurd h
other_right i (Some Zero) Zero right h = absurd h
other_right i (Some Zero) Marker right h = absurd h
other_right i (Some Zero) Bad right h = absurd h
other_right i (Some One) One right h = absurd h
other_right i (Some One) Marker right h = absurd h
other_right i (Some One) Bad right h = absurd h
other_right i (Some Marker) x right h = absurd h
other_right i (Some Bad) x right h = absurd h

-- ---- what an element counts

-- below 100 an element counts for the parity if it is a data place below 76
abbrev counts_once : ℕ → ℕ
counts_once i = cond (nat_lt i 76 && not (is_marker_place i)) 1 0

parity_weight : (i : ℕ) → i < 100 → weight_at parity_places i ≡ counts_once i
unfolding parity_places
parity_weight i h = eqb-true _ _ (agree_below_at (λ k. eqb (weight_at parity_places k) (counts_once k)) (λ _. true) 100 i refl h)

-- no element from 76 on belongs to places below
abbrev are_below_76 : List TableEntry → Bool
are_below_76 ps = list_all (λ p. nat_lt p.element 76) ps

weight_above : (ps : List TableEntry) (i : ℕ) → are_below_76 ps ≡ true → 76 ≤ i → weight_at ps i ≡ 0
weight_above [] i h high = refl
weight_above (p ∷ ps) i h high =
    let parts = and_parts (nat_lt p.element 76) (are_below_76 ps) h in
    let low = ltb-true _ _ parts.0 in
    let apart : eqb p.element i ≡ false = ne_eqb p.element i (λ e. omega (arith, e, low, high)) in
    rw apart (zero-add (weight_at ps i) ∙ weight_above ps i parts.1 high)

-- ---- the symbols that tell a claim, with another one

-- they have 100 elements, all right
record Right (s : List Symbol) : Type 0 where
  len : length s ≡ 100
  plain : first_wrong 0 s ≡ None

right_of : (rules : Rules) (s : List Symbol) (c : Claim) → Carries rules s c → Right s
right_of rules s c h = record { len = h.reads.len; plain = none_of s h.coded h.reads }

-- what may not stand there
unreadable : (rules : Rules) (s : List Symbol) (i : ℕ) (x : Symbol) (f : FrameFault) → Right s → i < 100 → element_fault i x ≡ Some f → told_of rules (slice_set s i x) ≡ tells.Fault (fault.Frame f)
unfolding told_of frame_told
unreadable rules s i x f h low wrong =
    let len : length (slice_set s i x) ≡ 100 = length-set s i x ∙ h.len in
    let first : first_wrong 0 (slice_set s i x) ≡ Some f = first_wrong-set 0 s i x h.plain (omega (arith, h.len, low)) ∙ ap (λ (k : ℕ). element_fault k x) (zero-add i) ∙ wrong in
    rw (len, first) refl

-- with the other bit all elements are right
still_right : (s : List Symbol) (i : ℕ) (x : Symbol) → Right s → i < 100 → IsRight i (Some x) → Right (slice_set s i x)
still_right s i x h low right = record {
  len = length-set s i x ∙ h.len;
  plain = first_wrong-set 0 s i x h.plain (omega (arith, h.len, low)) ∙ ap (λ (k : ℕ). element_fault k x) (zero-add i) ∙ no_fault i x right;
}

-- a remainder by 2, after one more or one less
other_remainder : (m n a b : ℕ) → m + a ≡ n + b → a + b ≡ 1 → m % 2 ≡ n % 2 → ⊥
other_remainder m n a b e one same = omega (arith, e, one, same)

-- if the parity counts it
parity_lost : (rules : Rules) (s : List Symbol) (c : Claim) (i : ℕ) (x : Symbol) → Carries rules s c → i < 76 → IsOtherBit (slice_get s i) x → told_of rules (slice_set s i x) ≡ tells.Fault fault.Parity
parity_lost rules s c i x h low other =
    let right = right_of rules s c h in
    let own = other_right i (slice_get s i) x (h.reads.elements i (omega (arith, low))) other in
    let after = still_right s i x right (omega (arith, low)) own.1 in
    let once : weight_at parity_places i ≡ 1 = parity_weight i (omega (arith, low)) ∙ (rw (lt-ltb i 76 low, own.0) refl) in
    let count = ones-set s i x (omega (arith, right.len, low)) in
    let one = other-adds parity_places i (slice_get s i) x other ∙ once in
    let was : ones s % 2 ≡ remainder_of rules.parity = eqb-true _ _ h.parity in
    let lost : has_parity rules.parity (slice_set s i x) ≡ false =
    ne_eqb (ones (slice_set s i x) % 2) (remainder_of rules.parity) (λ e. other_remainder (ones (slice_set s i x)) (ones s) (adds parity_places i (slice_get s i)) (adds parity_places i (Some x)) count one (e ∙ sym was)) in
    parity_told rules (slice_set s i x) after.len after.plain lost

-- ---- another bit from element 76 on

-- the values with it
abbrev changed : Coded → List Symbol → Coded
changed c s = record c { control = value control_places s; sbs = value straight_binary_places s }

fields_low : (f : Field) → (are_below_76 (units_of f) ≡ true) × (are_below_76 (tens_of f) ≡ true) × (are_below_76 (places_of f) ≡ true)
fields_low = each _ (refl, refl, refl) (refl, refl, refl) (refl, refl, refl) (refl, refl, refl) (refl, refl, refl)

reads_after : (s : List Symbol) (i : ℕ) (x : Symbol) (c : Coded) → Reads s c → 76 ≤ i → i < 100 → IsRight i (Some x) → Reads (slice_set s i x) (changed c (slice_set s i x))
reads_after s i x c r high low own = record {
  len = length-set s i x ∙ r.len;
  elements = elements_after s i x r.len r.elements low own;
  digits = λ f. rw (kept (units_of f) (fields_low f).0, kept (tens_of f) (fields_low f).1) (r.digits f);
  ranges = λ f. rw (field f) (r.ranges f);
  second = r.second ∙ sym (field Second);
  minute = r.minute ∙ sym (field Minute);
  hour = r.hour ∙ sym (field Hour);
  day = r.day ∙ sym (field Day);
  year = r.year ∙ sym (field Year);
  control = refl;
  sbs = refl;
}
  where
    kept : (ps : List TableEntry) → are_below_76 ps ≡ true → value ps (slice_set s i x) ≡ value ps s
    kept ps h = value-kept ps s i x (omega (arith, r.len, low)) (weight_above ps i h high)

    field : (f : Field) → value (places_of f) (slice_set s i x) ≡ value (places_of f) s
    field f = kept (places_of f) (fields_low f).2

-- the parity does not count it
parity_after : (rules : Rules) (s : List Symbol) (i : ℕ) (x : Symbol) → length s ≡ 100 → HasParity rules.parity s → 76 ≤ i → i < 100 → HasParity rules.parity (slice_set s i x)
parity_after rules s i x len h high low =
    let none : weight_at parity_places i ≡ 0 = parity_weight i low ∙ (rw (le-ltb i 76 high) refl) in
    let was : adds parity_places i (slice_get s i) ≡ 0 = rw none (cond-same (is_one (slice_get s i))) in
    let is : adds parity_places i (Some x) ≡ 0 = rw none (cond-same (is_one (Some x))) in
    let count = ones-set s i x (omega (arith, len, low)) in
    let same : ones (slice_set s i x) ≡ ones s = omega (arith, count, was, is) in
    rw same h

-- it is no control bit that says anything
control_weight : (i : ℕ) → 76 ≤ i → i < 100 → weight_at control_places i % 32768 ≡ 0
control_weight i high low =
    let either : (nat_lt i 76 || eqb (weight_at control_places i % 32768) 0) ≡ true = agree_below_at (λ k. nat_lt k 76 || eqb (weight_at control_places k % 32768) 0) (λ _. true) 100 i refl low in
    let above : eqb (weight_at control_places i % 32768) 0 ≡ true = subst (λ b. (b || eqb (weight_at control_places i % 32768) 0) ≡ true) (le-ltb i 76 high) either in
    eqb-true _ _ above

adds_none : (b : Bool) (w : ℕ) → w % 32768 ≡ 0 → cond b w 0 % 32768 ≡ 0
adds_none true w h = h
adds_none false w h = refl

same_control : (v w : ℕ) → v % 32768 ≡ w % 32768 → control_of v ≡ control_of w
same_control v w e =
    same_bits v w (omega (arith, e)) (omega (arith, e)) (omega (arith, e)) (omega (arith, e)) (omega (arith, e)) (omega (arith, e)) (omega (arith, e)) (omega (arith, e))

control_after : (s : List Symbol) (i : ℕ) (x : Symbol) → length s ≡ 100 → 76 ≤ i → i < 100 → control_of (value control_places (slice_set s i x)) ≡ control_of (value control_places s)
control_after s i x len high low =
    let was : adds control_places i (slice_get s i) % 32768 ≡ 0 = adds_none (is_one (slice_get s i)) (weight_at control_places i) (control_weight i high low) in
    let is : adds control_places i (Some x) % 32768 ≡ 0 = adds_none (is_one (Some x)) (weight_at control_places i) (control_weight i high low) in
    let whole = value-set control_places s i x (omega (arith, len, low)) in
    same_control (value control_places (slice_set s i x)) (value control_places s) (remainders (value control_places (slice_set s i x)) (value control_places s) (adds control_places i (slice_get s i)) (adds control_places i (Some x)) whole was is)
  where
    remainders : (m n a b : ℕ) → m + a ≡ n + b → a % 32768 ≡ 0 → b % 32768 ≡ 0 → m % 32768 ≡ n % 32768
    remainders m n a b e p q = omega (arith, e, p, q)

-- ---- the straight binary seconds

-- the other bit is a 1 in place of a 0, or a 0 in place of a 1
other_parts : (ps : List TableEntry) (i : ℕ) (o : Option Symbol) (x : Symbol) → IsOtherBit o x
    → ((adds ps i o ≡ 0) × (adds ps i (Some x) ≡ weight_at ps i)) ⊎ ((adds ps i o ≡ weight_at ps i) × (adds ps i (Some x) ≡ 0))
other_parts ps i o x h =
    elim (other_cases o x h) [
      | inl e ↦ inl (rw (e.0) refl, rw (e.1) refl)
      | inr e ↦ inr (rw (e.0) refl, rw (e.1) refl)
    ]

other_value : (ps : List TableEntry) (s : List Symbol) (i : ℕ) (x : Symbol) → i < length s → IsOtherBit (slice_get s i) x → ¬ (weight_at ps i ≡ 0) → ¬ (value ps (slice_set s i x) ≡ value ps s)
other_value ps s i x low other some same =
    let whole = value-set ps s i x low in
    elim (other_parts ps i (slice_get s i) x other) [
      | inl e ↦ some (omega (arith, whole, same, e.0, e.1))
      | inr e ↦ some (omega (arith, whole, same, e.0, e.1))
    ]

guard : {A : Type 0} (b : Bool) (f : TimeFault) (r : Result A TimeFault) (y : A) → cond b (Err f) r ≡ Ok y → (b ≡ false) × (r ≡ Ok y)
guard true f r y e = absurd cc
guard false f r y e = (refl, e)

guard_else : {A : Type 0} (b : Bool) (f : TimeFault) (r : Result A TimeFault) (y : A) → cond b r (Err f) ≡ Ok y → r ≡ Ok y
guard_else true f r y e = e
guard_else false f r y e = absurd cc

of_test : (b a : Bool) → a ≡ true → (a && not b) ≡ false → b ≡ true
of_test true a h e = refl
of_test false true h e = absurd cc
of_test false false h e = absurd cc

-- a claim is of second 60 if it is of the second 86400 of its day
record IsSecondOf (k : Coded) (c : Claim) : Type 0 where
  below : c.at.sod < 86400 → k.second < 60
  back : k.second < 60 → c.at.sod < 86400

second_at : (minute : ℕ) (k : Coded) (j : Control) (c : Claim) → k.second ≤ 60 → claim_at minute k j ≡ Ok c → IsSecondOf k c
second_at minute k j c low e =
    let a = guard (eqb k.second 60 && not (is_last_minute minute)) fault_of_time.Second60 _ c e in
    let b = guard (is_last_minute minute && (eqb k.second 59 && (j.leap_pending && j.leap_delete))) fault_of_time.DeletedSecond _ c a.1 in
    let sod : 60 * (minute % 1440) + k.second ≡ c.at.sod = of_claim b.1 in
    record {
      below = λ day. elim (cases_eq k.second 60) [
        | inl e ↦ absurd (omega (arith, sod, day, e, last a.0 e))
        | inr ne ↦ omega (arith, low, ne)
      ];
      back = λ minute. omega (arith, sod, minute);
    }
  where
    of_claim : {d : Claim} → ◌≡◌ {A = Result Claim TimeFault} (Ok d) (Ok c) → d.at.sod ≡ c.at.sod
    of_claim e = cc

    last : (eqb k.second 60 && not (is_last_minute minute)) ≡ false → k.second ≡ 60 → minute % 1440 ≡ 1439
    last a e = eqb-true _ _ (and_parts (is_month_end (minute / 1440)) (eqb (minute % 1440) 1439) (of_test (is_last_minute minute) (eqb k.second 60) (eq-eqb k.second 60 e) a)).1

second_of : (sense : Sense) (k : Coded) (j : Control) (c : Claim) → k.second ≤ 60 → claim_by sense k j ≡ Ok c → IsSecondOf k c
second_of sense k j c low e =
    let a = guard (nat_lt (year_length k.year) k.day) fault_of_time.NoSuchDay _ c e in
    let b = guard (int_lt (utc_minute sense k j) (pos (FIRST_DAY * 1440))) fault_of_time.OutOfYears _ c a.1 in
    second_at (unsigned_abs (utc_minute sense k j)) k j c low (guard_else (int_lt (utc_minute sense k j) (pos ((LAST_DAY + 1) * 1440))) fault_of_time.OutOfYears _ c b.1)

-- the claim does not hang on the binary seconds
same_claim : (sense : Sense) (k : Coded) (control sbs : ℕ) (j : Control) → claim_by sense (record k { control = control; sbs = sbs }) j ≡ claim_by sense k j
unfolding utc_minute
same_claim Add k control sbs j = refl
same_claim Subtract k control sbs j = refl

-- ---- what is told with another bit from element 76 on

module _ (rules : Rules) (s : List Symbol) (c : Claim) (i : ℕ) (x : Symbol) (h : Carries rules s c) (high : 76 ≤ i) (low : i < 100) (own : IsRight i (Some x)) where
  -- the values then
  abbrev after : Coded
  after = changed h.coded (slice_set s i x)

  control_is_same : control_of (value control_places (slice_set s i x)) ≡ control_of h.coded.control
  control_is_same = control_after s i x h.reads.len high low ∙ ap control_of (sym h.reads.control)

  -- the claim, if the binary seconds are in order
  still_carries : SbsAgrees rules.sbs after → Carries rules (slice_set s i x) c
  still_carries agrees = record {
    coded = after;
    reads = reads_after s i x h.coded h.reads high low own;
    parity = parity_after rules s i x h.reads.len h.parity high low;
    sbs = agrees;
    quality = rw control_is_same h.quality;
    claims = rw control_is_same (same_claim rules.sense h.coded _ _ _ ∙ h.claims);
  }

  -- a bit that is none of the binary seconds
  still_told : weight_at straight_binary_places i ≡ 0 → told_of rules (slice_set s i x) ≡ tells.Claim c
  still_told none =
      let same : value straight_binary_places (slice_set s i x) ≡ h.coded.sbs = value-kept straight_binary_places s i x (omega (arith, h.reads.len, low)) none ∙ sym h.reads.sbs in
      (carries_is_told rules (slice_set s i x) c).1 (still_carries (agrees rules.sbs same h.sbs))
    where
      agrees : (usage : SbsUse) → value straight_binary_places (slice_set s i x) ≡ h.coded.sbs → SbsAgrees usage h.coded → SbsAgrees usage after
      agrees Ignore same was = tt
      agrees Check same was = λ minute. same ∙ was minute

  -- a bit of the binary seconds
  binary_told : IsOtherBit (slice_get s i) x → ¬ (weight_at straight_binary_places i ≡ 0)
      → told_of rules (slice_set s i x) ≡ cond (compares_seconds rules.sbs c) (tells.Fault fault.Sbs) (tells.Claim c)
  unfolding coded_told
  binary_told other some = by_test (compares_seconds rules.sbs c) refl
    where
      second : IsSecondOf h.coded c
      second = second_of rules.sense h.coded (control_of h.coded.control) c (omega (arith, h.reads.second, h.reads.ranges Second)) h.claims

      apart : ¬ (value straight_binary_places (slice_set s i x) ≡ h.coded.sbs)
      apart = λ e. other_value straight_binary_places s i x (omega (arith, h.reads.len, low)) other some (e ∙ h.reads.sbs)

      wrong : (usage : SbsUse) → compares_seconds usage c ≡ true → SbsAgrees usage h.coded → is_sbs_wrong usage after ≡ true
      wrong Ignore e was = absurd cc
      wrong Check e was =
          let minute : h.coded.second < 60 = second.below (ltb-true _ _ e) in
          rw (lt-ltb h.coded.second 60 minute, ne_eqb _ _ (λ same. apart (same ∙ sym (was minute)))) refl

      unasked : (usage : SbsUse) → compares_seconds usage c ≡ false → SbsAgrees usage after
      unasked Ignore e = tt
      unasked Check e = λ minute. let day = second.back minute in let late = ltb-false _ _ e in absurd (omega (arith, day, late))

      by_test : (b : Bool) → compares_seconds rules.sbs c ≡ b → told_of rules (slice_set s i x) ≡ cond b (tells.Fault fault.Sbs) (tells.Claim c)
      by_test true e = told_of_reading rules (slice_set s i x) after (reads_after s i x h.coded h.reads high low own) (parity_after rules s i x h.reads.len h.parity high low) ∙ (rw (wrong rules.sbs e h.sbs) refl)
      by_test false e = (carries_is_told rules (slice_set s i x) c).1 (still_carries (unasked rules.sbs e))

-- ---- element by element

-- an element of the binary seconds has a weight in them, if it is no marker place
straight_weight : (i : ℕ) → 80 ≤ i → i < 98 → is_marker_place i ≡ false → ¬ (weight_at straight_binary_places i ≡ 0)
straight_weight i high low plain none =
    let one_of : (not (nat_le 80 i && nat_lt i 98) || (is_marker_place i || nat_lt 0 (weight_at straight_binary_places i))) ≡ true =
    agree_below_at (λ k. not (nat_le 80 k && nat_lt k 98) || (is_marker_place k || nat_lt 0 (weight_at straight_binary_places k))) (λ _. true) 100 i refl (omega (arith, low)) in
    let weight : nat_lt 0 (weight_at straight_binary_places i) ≡ true = cc (one_of, le-leb 80 i high, lt-ltb i 98 low, plain) in
    let some = ltb-true _ _ weight in
    omega (arith, some, none)

abbrev is_unread : ℕ → Bool
is_unread i = nat_le 76 i && (nat_lt i 100 && eqb (weight_at straight_binary_places i) 0)

-- an unread element has none
record IsUnread (i : ℕ) : Type 0 where
  high : 76 ≤ i
  low : i < 100
  none : weight_at straight_binary_places i ≡ 0

unread_is : (i : ℕ) → Contains unread_places i → IsUnread i
unread_is i h =
    let test : is_unread i ≡ true = All-contains (λ k. is_unread k ≡ true) unread_places i (AllPass-from_list_all is_unread unread_places refl) h in
    let parts = and_parts (nat_le 76 i) (nat_lt i 100 && eqb (weight_at straight_binary_places i) 0) test in
    let rest = and_parts (nat_lt i 100) (eqb (weight_at straight_binary_places i) 0) parts.1 in
    record { high = leb-true _ _ parts.0; low = ltb-true _ _ rest.0; none = eqb-true _ _ rest.1 }

pub unreadable_told : (rules : Rules) (s : List Symbol) (c : Claim) (i : ℕ) (x : Symbol) (f : FrameFault) → told_of rules s ≡ tells.Claim c → i < 100 → element_fault i x ≡ Some f
    → told_of rules (slice_set s i x) ≡ tells.Fault (fault.Frame f)
unreadable_told rules s c i x f told = unreadable rules s i x f (right_of rules s c ((carries_is_told rules s c).0 told))

pub parity_is_told : (rules : Rules) (s : List Symbol) (c : Claim) (i : ℕ) (x : Symbol) → told_of rules s ≡ tells.Claim c → i < 76 → IsOtherBit (slice_get s i) x
    → told_of rules (slice_set s i x) ≡ tells.Fault fault.Parity
parity_is_told rules s c i x told = parity_lost rules s c i x ((carries_is_told rules s c).0 told)

pub seconds_told : (rules : Rules) (s : List Symbol) (c : Claim) (i : ℕ) (x : Symbol) → told_of rules s ≡ tells.Claim c → 80 ≤ i → i < 98 → IsOtherBit (slice_get s i) x
    → told_of rules (slice_set s i x) ≡ cond (compares_seconds rules.sbs c) (tells.Fault fault.Sbs) (tells.Claim c)
seconds_told rules s c i x told high low other =
    let h = (carries_is_told rules s c).0 told in
    let own = other_right i (slice_get s i) x (h.reads.elements i (omega (arith, low))) other in
    binary_told rules s c i x h (omega (arith, high)) (omega (arith, low)) own.1 other (straight_weight i high low own.0)

pub unread_told : (rules : Rules) (s : List Symbol) (c : Claim) (i : ℕ) (x : Symbol) → told_of rules s ≡ tells.Claim c → Contains unread_places i → IsOtherBit (slice_get s i) x
    → told_of rules (slice_set s i x) ≡ tells.Claim c
unread_told rules s c i x told unread other =
    let h = (carries_is_told rules s c).0 told in
    let place = unread_is i unread in
    let own = other_right i (slice_get s i) x (h.reads.elements i place.low) other in
    still_told rules s c i x h place.high place.low own.1 place.none

-- ---- all elements

-- what is right if a symbol is right is that symbol or the other bit
same_or_other : (i : ℕ) (y x : Symbol) → IsRight i (Some y) → IsRight i (Some x) → (y ≡ x) ⊎ IsOtherBit (Some y) x
same_or_other i Zero Zero a b = inl refl
same_or_other i Zero One a b = inr tt
same_or_other i One Zero a b = inr tt
same_or_other i One One a b = inl refl
same_or_other i Marker Marker a b = inl refl
same_or_other i Marker Zero a b = absurd (both_ways (is_marker_place i) b a)
same_or_other i Marker One a b = absurd (both_ways (is_marker_place i) b a)
same_or_other i Zero Marker a b = absurd (both_ways (is_marker_place i) a b)
same_or_other i One Marker a b = absurd (both_ways (is_marker_place i) a b)
same_or_other i Bad x a b = absurd a
same_or_other i Zero Bad a b = absurd b
same_or_other i One Bad a b = absurd b
same_or_other i Marker Bad a b = absurd b

pub right_or_not : (i : ℕ) (x : Symbol) → IsRight i (Some x) ⊎ ((f : FrameFault) × (element_fault i x ≡ Some f))
right_or_not i Bad = inr (frame_fault.Pulse i, refl)
right_or_not i Marker = elim (cases_Bool (is_marker_place i)) [ inl e ↦ inl e | inr e ↦ inr (frame_fault.Marker i, rw e refl) ]
right_or_not i Zero = elim (cases_Bool (is_marker_place i)) [ inl e ↦ inr (frame_fault.Marker i, rw e refl) | inr e ↦ inl e ]
right_or_not i One = elim (cases_Bool (is_marker_place i)) [ inl e ↦ inr (frame_fault.Marker i, rw e refl) | inr e ↦ inl e ]

fault_told : (c : Claim) (t : Told) (f : PortFault) → t ≡ tells.Fault f → IsFaultOr c t
fault_told c t f e = subst (IsFaultOr c) (sym e) tt

claim_told : (c : Claim) (t : Told) → t ≡ tells.Claim c → IsFaultOr c t
claim_told c t e = subst (IsFaultOr c) (sym e) refl

either_told : (c : Claim) (t : Told) (b : Bool) (f : PortFault) → t ≡ cond b (tells.Fault f) (tells.Claim c) → IsFaultOr c t
either_told c t true f e = fault_told c t f e
either_told c t false f e = claim_told c t e

-- the other bit
other_told : (rules : Rules) (s : List Symbol) (c : Claim) (i : ℕ) (x : Symbol) → Carries rules s c → i < 100 → IsRight i (Some x) → IsOtherBit (slice_get s i) x → IsFaultOr c (told_of rules (slice_set s i x))
other_told rules s c i x h low own other =
    elim (cases_lt i 76) [
      | inl early ↦ fault_told c (told_of rules (slice_set s i x)) fault.Parity (parity_lost rules s c i x h early other)
      | inr late ↦
          elim (cases_eq (weight_at straight_binary_places i) 0) [
            | inl none ↦ claim_told c (told_of rules (slice_set s i x)) (still_told rules s c i x h late low own none)
            | inr some ↦ either_told c (told_of rules (slice_set s i x)) (compares_seconds rules.sbs c) fault.Sbs (binary_told rules s c i x h late low own other some)
          ]
    ]

-- a symbol that is right there
right_told : (rules : Rules) (s : List Symbol) (c : Claim) (i : ℕ) (x : Symbol) → told_of rules s ≡ tells.Claim c → Carries rules s c → i < 100 → IsRight i (Some x) → IsFaultOr c (told_of rules (slice_set s i x))
right_told rules s c i x told h low own =
    let y : Symbol = get_or s i Zero in
    let there : slice_get s i ≡ Some y = slice_get-get_or s i Zero (omega (arith, h.reads.len, low)) in
    elim (same_or_other i y x (subst (λ o. IsRight i o) there (h.reads.elements i low)) own) [
      | inl same ↦
          let unchanged : slice_set s i x ≡ s = ap (λ (z : Symbol). slice_set s i z) (sym same) ∙ set-get_or s i Zero in
          claim_told c (told_of rules (slice_set s i x)) (ap (told_of rules) unchanged ∙ told)
      | inr other ↦ other_told rules s c i x h low own (subst (λ o. IsOtherBit o x) (sym there) other)
    ]

pub damage_told : (rules : Rules) (s : List Symbol) (c : Claim) (i : ℕ) (x : Symbol) → told_of rules s ≡ tells.Claim c → IsFaultOr c (told_of rules (slice_set s i x))
damage_told rules s c i x told =
    let h = (carries_is_told rules s c).0 told in
    elim (cases_lt i 100) [
      | inr past ↦ claim_told c (told_of rules (slice_set s i x)) (ap (told_of rules) (set_past s i x (omega (arith, h.reads.len, past))) ∙ told)
      | inl low ↦
          elim (right_or_not i x) [
            | inl own ↦ right_told rules s c i x told h low own
            | inr wrong ↦ fault_told c (told_of rules (slice_set s i x)) (fault.Frame wrong.0) (unreadable_told rules s c i x wrong.0 told low wrong.1)
          ]
    ]
