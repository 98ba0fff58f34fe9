-- What decode answers, in two parts: the faults that go before the parity, and the others.
use Rattle.std.proofs.Common.{◌≡◌, ℕ, ◌+◌, Bool, true, false, cond, nat_lt, List, [], ◌∷◌, length, Option, Some, None, Result, Ok, Err, refl, sym, ◌∙◌, arith}
use Rattle.std.specs.Option.{option_or}
use Rattle.std.proofs.lemmas.Bool.{ltb-false, ne_eqb}
use Rattle.irig_frame.specs.declared.symbol.Symbol.{Symbol}
use Rattle.irig_frame.specs.declared.symbol.Symbol.TheVariants.{Zero, One, Marker, Bad}
use Rattle.irig_frame.specs.declared.layout.Field.{Field}
use Rattle.irig_frame.specs.declared.layout.Field.TheVariants.{Second, Minute, Hour, Day, Year}
use Rattle.irig_frame.specs.declared.coded.Coded.{Coded}
use Rattle.irig_frame.specs.declared.fault.FrameFault.{FrameFault}
use Rattle.irig_frame.specs.declared.fault.FrameFault.TheVariants as fault
use Rattle.irig_frame.specs.FieldTable.{is_marker_place, units_of, tens_of, places_of}
use Rattle.irig_frame.specs.Values.{value}
use Rattle.irig_frame.specs.Decoder.{least, most}
use Rattle.irig_frame.specs.Faults.{◌>>=◌, first_wrong, unless, field_at, values_of, decode_result}
use Rattle.irig_time.specs.declared.rules.Rules.{Rules}
use Rattle.irig_port.specs.declared.told.PortFault.TheVariants as port_fault
use Rattle.irig_port.specs.declared.told.Told.{Told}
use Rattle.irig_port.specs.declared.told.Told.TheVariants as tells
use Rattle.irig_port.specs.Told.{told_of, frame_told}
use Rattle.irig_port.specs.Early.{early_part}

-- ---- the fault of an element is one of the early ones

marker_first : (b : Bool) (i : ℕ) (o : Option FrameFault) (r : Result Coded FrameFault) → early_part (unless o r) ≡ o
    → early_part (unless (option_or (cond b (Some (fault.Marker i)) None) o) r) ≡ option_or (cond b (Some (fault.Marker i)) None) o
marker_first true i o r h = refl
marker_first false i o r h = h

no_marker_first : (b : Bool) (i : ℕ) (o : Option FrameFault) (r : Result Coded FrameFault) → early_part (unless o r) ≡ o
    → early_part (unless (option_or (cond b None (Some (fault.Marker i))) o) r) ≡ option_or (cond b None (Some (fault.Marker i))) o
no_marker_first true i o r h = h
no_marker_first false i o r h = refl

early_part-unless : (i : ℕ) (s : List Symbol) (r : Result Coded FrameFault) → early_part r ≡ None → early_part (unless (first_wrong i s) r) ≡ first_wrong i s
early_part-unless i [] r h = h
early_part-unless i (Bad ∷ xs) r h = refl
early_part-unless i (Marker ∷ xs) r h = no_marker_first (is_marker_place i) i (first_wrong (i + 1) xs) r (early_part-unless (i + 1) xs r h)
early_part-unless i (Zero ∷ xs) r h = marker_first (is_marker_place i) i (first_wrong (i + 1) xs) r (early_part-unless (i + 1) xs r h)
early_part-unless i (One ∷ xs) r h = marker_first (is_marker_place i) i (first_wrong (i + 1) xs) r (early_part-unless (i + 1) xs r h)

-- ---- the fault of a field is none of them

none-bind : {A B : Type 0} (r : Result A FrameFault) (f : A → Result B FrameFault) → early_part r ≡ None → ((x : A) → early_part (f x) ≡ None) → early_part (r >>= f) ≡ None
none-bind (Ok x) f h k = k x
none-bind (Err (fault.Digit d)) f h k = refl
none-bind (Err (fault.Range d)) f h k = refl
none-bind (Err (fault.Pulse i)) f h k = absurd cc
none-bind (Err (fault.Marker i)) f h k = absurd cc
none-bind (Err (fault.Short n)) f h k = absurd cc
none-bind (Err fault.Long) f h k = absurd cc

early_part-cond : {A : Type 0} (b : Bool) (r t : Result A FrameFault) → early_part (cond b r t) ≡ cond b (early_part r) (early_part t)
early_part-cond true r t = refl
early_part-cond false r t = refl

none-cond : {A : Type 0} (b : Bool) (r t : Result A FrameFault) → early_part r ≡ None → early_part t ≡ None → early_part (cond b r t) ≡ None
none-cond true r t h k = h
none-cond false r t h k = k

none-field : (s : List Symbol) (f : Field) → early_part (field_at s f) ≡ None
unfolding field_at
none-field s f =
    none-cond (nat_lt 9 (value (units_of f) s)) _ _ refl
    (none-cond (nat_lt 90 (value (tens_of f) s)) _ _ refl
    (none-cond (nat_lt (value (places_of f) s) (least f)) _ _ refl
    (none-cond (nat_lt (most f) (value (places_of f) s)) _ _ refl refl)))

none-values : (s : List Symbol) → early_part (values_of s) ≡ None
unfolding values_of
none-values s =
    none-bind (field_at s Second) _ (none-field s Second) (λ a.
    none-bind (field_at s Minute) _ (none-field s Minute) (λ b.
    none-bind (field_at s Hour) _ (none-field s Hour) (λ d.
    none-bind (field_at s Day) _ (none-field s Day) (λ e.
    none-bind (field_at s Year) _ (none-field s Year) (λ f. refl)))))

-- ---- the two parts of what is decoded

early_part-decoded : (s : List Symbol) → early_part (decode_result s)
    ≡ cond (nat_lt (length s) 100) (Some (fault.Short (length s))) (cond (nat_lt 100 (length s)) (Some fault.Long) (first_wrong 0 s))
unfolding decode_result
early_part-decoded s =
    rw (
      early_part-cond (nat_lt (length s) 100) (Err (fault.Short (length s))) (cond (nat_lt 100 (length s)) (Err fault.Long) (unless (first_wrong 0 s) (values_of s))),
      early_part-cond (nat_lt 100 (length s)) (Err fault.Long) (unless (first_wrong 0 s) (values_of s)),
      early_part-unless 0 s (values_of s) (none-values s),
    ) refl

-- an early fault is told
fault_cond : (a b : Bool) (x y : FrameFault) (o : Option FrameFault) (rest : Told) (f : FrameFault)
    → cond a (Some x) (cond b (Some y) o) ≡ Some f → (o ≡ Some f → rest ≡ tells.Fault (port_fault.Frame f))
    → cond a (tells.Fault (port_fault.Frame x)) (cond b (tells.Fault (port_fault.Frame y)) rest) ≡ tells.Fault (port_fault.Frame f)
fault_cond true b x y o rest f e k = cc
fault_cond false true x y o rest f e k = cc
fault_cond false false x y o rest f e k = k e

wrong_told : (rules : Rules) (s : List Symbol) (f : FrameFault) → first_wrong 0 s ≡ Some f → frame_told rules s ≡ tells.Fault (port_fault.Frame f)
unfolding frame_told
wrong_told rules s f e = rw e refl

pub early_told : (rules : Rules) (s : List Symbol) (f : FrameFault) → (length s ≡ 0 → ⊥) → early_part (decode_result s) ≡ Some f → told_of rules s ≡ tells.Fault (port_fault.Frame f)
unfolding told_of
early_told rules s f some e =
    rw (ne_eqb (length s) 0 some)
    (fault_cond (nat_lt (length s) 100) (nat_lt 100 (length s)) _ _ (first_wrong 0 s) (frame_told rules s) f (sym (early_part-decoded s) ∙ e) (wrong_told rules s f))

-- if there is no early fault
no_fault : (a b : Bool) (x y : FrameFault) (o : Option FrameFault) → cond a (Some x) (cond b (Some y) o) ≡ None → (a ≡ false) × (b ≡ false) × (o ≡ None)
no_fault true b x y o e = absurd cc
no_fault false true x y o e = absurd cc
no_fault false false x y o e = (refl, refl, e)

pub record IsRightFrame (s : List Symbol) : Type 0 where
  pub len : length s ≡ 100
  pub right : first_wrong 0 s ≡ None
  pub values : decode_result s ≡ values_of s

pub right_frame : (s : List Symbol) → early_part (decode_result s) ≡ None → IsRightFrame s
unfolding decode_result
right_frame s e =
    let parts = no_fault (nat_lt (length s) 100) (nat_lt 100 (length s)) (fault.Short (length s)) fault.Long (first_wrong 0 s) (sym (early_part-decoded s) ∙ e) in
    let low = ltb-false _ _ parts.0 in
    let high = ltb-false _ _ parts.1 in
    record { len = omega (arith, low, high); right = parts.2; values = rw (parts.0, parts.1, parts.2) refl }
