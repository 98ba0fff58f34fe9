-- A frame reads as a value exactly if it is decoded to it.
use Rattle.std.proofs.Common.{◌≡◌, ◌↔◌, ℕ, zero, suc, ◌+◌, ◌<◌, ◌≤◌, Bool, true, false, cond, nat_lt, List, [], ◌∷◌, length, Option, Some, None, Result, Ok, Err, slice_get, refl, sym, zero-add, not, ap, subst, ◌∙◌, arith}
use Rattle.std.specs.Prelude.{IfOk}
use Rattle.std.specs.Option.{option_or}
use Rattle.std.proofs.lemmas.List.Sums.{sum-map}
use Rattle.std.proofs.lemmas.List.Filters.{sum_by-filter_both}
use Rattle.irig_frame.specs.declared.layout.BitPosition.{BitPosition}
use Rattle.std.proofs.lemmas.Bool.{ltb-false, le-ltb}
use Rattle.irig_frame.specs.declared.symbol.Symbol.{Symbol}
use Rattle.irig_frame.specs.declared.symbol.Symbol.TheVariants.{Zero, One, Marker, Bad}
use Rattle.irig_frame.specs.declared.layout.Field.{Field}
use Rattle.irig_frame.specs.declared.layout.Field.TheVariants.{Second, Minute, Hour, Day, Year}
use Rattle.irig_frame.specs.declared.coded.Coded.{Coded}
use Rattle.irig_frame.specs.declared.fault.FrameFault.{FrameFault}
use Rattle.irig_frame.specs.declared.fault.FrameFault.TheVariants as fault
use Rattle.irig_frame.specs.FieldTable.{places_of, control_places, straight_binary_places, is_marker_place}
use Rattle.irig_frame.specs.Values.{value, weights, is_one_at}
use Rattle.irig_frame.specs.Decoder.{IsRight, HasDigits, IsInRange, Reads, IsCoded}
use Rattle.irig_frame.specs.Faults.{◌>>=◌, element_fault, first_wrong, unless, field_at, values_of, decode_result}

-- a test that did not fail
guard_ok : {A : Type 0} (b : Bool) (d : FrameFault) (r : Result A FrameFault) (y : A) → cond b (Err d) r ≡ Ok y → (b ≡ false) × (r ≡ Ok y)
guard_ok true d r y e = absurd cc
guard_ok false d r y e = (refl, e)

-- a step that did not fail
bind_ok : {A B : Type 0} (r : Result A FrameFault) (f : A → Result B FrameFault) (y : B) → (r >>= f) ≡ Ok y → (x : A) × (r ≡ Ok x) × (f x ≡ Ok y)
bind_ok (Ok x) f y e = (x, refl, e)
bind_ok (Err d) f y e = absurd cc

unless_ok : {A : Type 0} (o : Option FrameFault) (r : Result A FrameFault) (y : A) → unless o r ≡ Ok y → (o ≡ None) × (r ≡ Ok y)
unless_ok (Some f) r y e = absurd cc
unless_ok None r y e = (refl, e)

-- ---- elements

plain : (b : Bool) (i : ℕ) → cond b (Some (fault.Marker i)) None ≡ None → b ≡ false
plain true i e = absurd cc
plain false i e = refl

right_of : (i : ℕ) (x : Symbol) → element_fault i x ≡ None → IsRight i (Some x)
right_of i Bad e = absurd cc
right_of i Marker e = by_test (is_marker_place i) e
  where
    by_test : (b : Bool) → cond b None (Some (fault.Marker i)) ≡ None → b ≡ true
    by_test true e = refl
    by_test false e = absurd cc
right_of i Zero e = plain (is_marker_place i) i e
right_of i One e = plain (is_marker_place i) i e

pub no_fault : (i : ℕ) (x : Symbol) → IsRight i (Some x) → element_fault i x ≡ None
no_fault i Bad h = absurd h
no_fault i Marker h = rw h refl
no_fault i Zero h = rw h refl
no_fault i One h = rw h refl

pub first_of : (a b : Option FrameFault) → option_or a b ≡ None → (a ≡ None) × (b ≡ None)
first_of None b e = (refl, e)
first_of (Some f) b e = absurd cc

pub all_right : (i : ℕ) (s : List Symbol) → first_wrong i s ≡ None → (k : ℕ) → k < length s → IsRight (i + k) (slice_get s k)
all_right i [] e k h = absurd (omega arith)
all_right i (x ∷ xs) e zero h = let here : i + 0 ≡ i = omega arith in subst (λ (j : ℕ). IsRight j (Some x)) (sym here) (right_of i x (first_of (element_fault i x) (first_wrong (i + 1) xs) e).0)
all_right i (x ∷ xs) e (suc k) h =
    let there : i + suc k ≡ i + 1 + k = omega arith in
    subst (λ (j : ℕ). IsRight j (slice_get xs k)) (sym there) (all_right (i + 1) xs (first_of (element_fault i x) (first_wrong (i + 1) xs) e).1 k (omega arith))

none_wrong : (i : ℕ) (s : List Symbol) → ((k : ℕ) → k < length s → IsRight (i + k) (slice_get s k)) → first_wrong i s ≡ None
none_wrong i [] h = refl
none_wrong i (x ∷ xs) h =
    let here : i + 0 ≡ i = omega arith in
    let first : element_fault i x ≡ None = no_fault i x (subst (λ (j : ℕ). IsRight j (Some x)) here (h 0 (omega arith))) in
    let others : (k : ℕ) → k < length xs → IsRight (i + 1 + k) (slice_get xs k) = λ k lt. let there : i + suc k ≡ i + 1 + k = omega arith in subst (λ (j : ℕ). IsRight j (slice_get xs k)) there (h (suc k) (omega arith)) in
    rw (first, none_wrong (i + 1) xs others) refl

-- ---- fields

pub field_ok : (s : List Symbol) (f : Field) (n : ℕ) → field_at s f ≡ Ok n → HasDigits s f × IsInRange s f × (n ≡ value (places_of f) s)
unfolding field_at
field_ok s f n e =
    let a = guard_ok _ _ _ _ e in
    let b = guard_ok _ _ _ _ a.1 in
    let c = guard_ok _ _ _ _ b.1 in
    let d = guard_ok _ _ _ _ c.1 in
    ((ltb-false _ _ a.0, ltb-false _ _ b.0), (ltb-false _ _ c.0, ltb-false _ _ d.0), cc)

pub field_again : (s : List Symbol) (f : Field) → HasDigits s f → IsInRange s f → field_at s f ≡ Ok (value (places_of f) s)
unfolding field_at
field_again s f digits range =
    rw (le-ltb _ _ digits.0, le-ltb _ _ digits.1, le-ltb _ _ range.0, le-ltb _ _ range.1) refl

-- ---- the frame

pub each : (P : Field → Type 0) → P Second → P Minute → P Hour → P Day → P Year → (f : Field) → P f
each P a b c d e Second = a
each P a b c d e Minute = b
each P a b c d e Hour = c
each P a b c d e Day = d
each P a b c d e Year = e

abbrev coded_of : List Symbol → ℕ → ℕ → ℕ → ℕ → ℕ → Coded
coded_of s second minute hour day year = record { second = second; minute = minute; hour = hour; day = day; year = year; control = value control_places s; sbs = value straight_binary_places s }

pub reads_of : (s : List Symbol) (c : Coded) → length s ≡ 100 → first_wrong 0 s ≡ None → values_of s ≡ Ok c → Reads s c
unfolding values_of
reads_of s c len none e =
    let a = bind_ok (field_at s Second) _ c e in
    let b = bind_ok (field_at s Minute) _ c a.2 in
    let d = bind_ok (field_at s Hour) _ c b.2 in
    let g = bind_ok (field_at s Day) _ c d.2 in
    let h = bind_ok (field_at s Year) _ c g.2 in
    let fa = field_ok s Second a.0 a.1 in
    let fb = field_ok s Minute b.0 b.1 in
    let fd = field_ok s Hour d.0 d.1 in
    let fg = field_ok s Day g.0 g.1 in
    let fh = field_ok s Year h.0 h.1 in
    let is : coded_of s a.0 b.0 d.0 g.0 h.0 ≡ c = cc (h.2) in
    let elements : (i : ℕ) → i < 100 → IsRight i (slice_get s i) = λ i lt. subst (λ (j : ℕ). IsRight j (slice_get s i)) (zero-add i) (all_right 0 s none i (omega arith)) in
    record {
      len = len;
      elements = elements;
      digits = each _ fa.0 fb.0 fd.0 fg.0 fh.0;
      ranges = each _ fa.1 fb.1 fd.1 fg.1 fh.1;
      second = ap (λ (x : Coded). x.second) (sym is) ∙ fa.2;
      minute = ap (λ (x : Coded). x.minute) (sym is) ∙ fb.2;
      hour = ap (λ (x : Coded). x.hour) (sym is) ∙ fd.2;
      day = ap (λ (x : Coded). x.day) (sym is) ∙ fg.2;
      year = ap (λ (x : Coded). x.year) (sym is) ∙ fh.2;
      control = ap (λ (x : Coded). x.control) (sym is);
      sbs = ap (λ (x : Coded). x.sbs) (sym is);
    }

pub values_again : (s : List Symbol) (c : Coded) → Reads s c → values_of s ≡ Ok c
unfolding values_of
values_again s c r =
    let is : coded_of s (value (places_of Second) s) (value (places_of Minute) s) (value (places_of Hour) s) (value (places_of Day) s) (value (places_of Year) s) ≡ c = rw (← r.second, ← r.minute, ← r.hour, ← r.day, ← r.year, ← r.control, ← r.sbs) refl in
    rw (field_again s Second (r.digits Second) (r.ranges Second), field_again s Minute (r.digits Minute) (r.ranges Minute), field_again s Hour (r.digits Hour) (r.ranges Hour), field_again s Day (r.digits Day) (r.ranges Day), field_again s Year (r.digits Year) (r.ranges Year)) (ap (λ (x : Coded). Ok x) is)

pub none_of : (s : List Symbol) (c : Coded) → Reads s c → first_wrong 0 s ≡ None
none_of s c r = none_wrong 0 s (λ k lt. subst (λ (j : ℕ). IsRight j (slice_get s k)) (sym (zero-add k)) (r.elements k (omega (arith, r.len))))

reads_from : (s : List Symbol) (c : Coded) → decode_result s ≡ Ok c → Reads s c
unfolding decode_result
reads_from s c e =
    let rest : Result Coded FrameFault = unless (first_wrong 0 s) (values_of s) in
    let long : Result Coded FrameFault = cond (nat_lt 100 (length s)) (Err fault.Long) rest in
    let a = guard_ok (nat_lt (length s) 100) (fault.Short (length s)) long c e in
    let b = guard_ok (nat_lt 100 (length s)) fault.Long rest c a.1 in
    let u = unless_ok (first_wrong 0 s) (values_of s) c b.1 in
    let low = ltb-false _ _ a.0 in
    let high = ltb-false _ _ b.0 in
    reads_of s c (omega (arith, low, high)) u.0 u.1

decoded_from : (s : List Symbol) (c : Coded) → Reads s c → decode_result s ≡ Ok c
unfolding decode_result
decoded_from s c r =
    let len = r.len in
    rw (le-ltb (length s) 100 (omega (arith, len)), le-ltb 100 (length s) (omega (arith, len)), none_of s c r) (values_again s c r)

pub decoded-reads : (s : List Symbol) (c : Coded) → (decode_result s ≡ Ok c) ↔ Reads s c
decoded-reads s c = (reads_from s c, decoded_from s c)

-- a field holds no more than its weights
pub value_le : (ps : List BitPosition) (s : List Symbol) → value ps s ≤ weights ps
value_le ps s =
    let w : BitPosition → ℕ = λ p. p.weight in
    let part = sum_by-filter_both (is_one_at s) (λ p. not (is_one_at s p)) (λ _. refl) w ps in
    rw (sum-map w) (omega (arith, part))

pub Reads-in_range : (s : List Symbol) (c : Coded) → Reads s c → IsCoded c
Reads-in_range s c r = record {
  second = omega (arith, r.second, r.ranges Second);
  minute = omega (arith, r.minute, r.ranges Minute);
  hour = omega (arith, r.hour, r.ranges Hour);
  day = omega (arith, r.day, r.ranges Day);
  year = omega (arith, r.year, r.ranges Year);
  control = omega (arith, r.control, value_le control_places s);
  sbs = omega (arith, r.sbs, value_le straight_binary_places s);
}

pub decoded-in_range : (s : List Symbol) (r : Result Coded FrameFault) → r ≡ decode_result s → IfOk r IsCoded
decoded-in_range s (Ok c) e = Reads-in_range s c (reads_from s c (sym e))
decoded-in_range s (Err f) e = tt

pub one_reading : (s : List Symbol) (c d : Coded) → Reads s c → Reads s d → c ≡ d
one_reading s c d h k =
    let a : decode_result s ≡ Ok c = decoded_from s c h in
    let b : decode_result s ≡ Ok d = decoded_from s d k in
    cc
