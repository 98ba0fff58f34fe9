-- A frame whose element 75 is written reads as before, but for the parity's own bit.
use Rattle.std.proofs.Common.{◌≡◌, ℕ, ◌+◌, ◌*◌, ◌%◌, ◌^◌, ◌<◌, ◌≤◌, ◌⊎◌, Bool, true, false, not, cond, eqb, nat_le, All, get_or, List, [], ◌∷◌, length, map, filter, sum, take, drop, Some, slice_get, slice_set, refl, sym, ap, subst, ◌∙◌, arith, inl, inr}
use Rattle.std.specs.List.{AllPass, list_all}
use Rattle.std.proofs.lemmas.Bool.{and_parts, leb-true, cases_eq, cases_Bool, eqb-false, not-true, false≢true}
use Rattle.std.proofs.lemmas.List.{length-set, set-set, set-get_or}
use Rattle.std.proofs.lemmas.List.Sums.{AllPass-from_list_all}
use Rattle.std.proofs.lemmas.Option.{slice_get-get_or}
use Rattle.irig_frame.specs.declared.symbol.Symbol.{Symbol}
use Rattle.irig_frame.specs.declared.symbol.Symbol.TheVariants.{Zero, One, Marker, Bad}
use Rattle.irig_frame.specs.declared.layout.Field.{Field}
use Rattle.irig_frame.specs.declared.layout.Field.TheVariants.{Second, Minute, Hour, Day, Year}
use Rattle.irig_frame.specs.declared.coded.Coded.{Coded}
use Rattle.irig_frame.specs.FieldTable.{TableEntry, at, units_of, tens_of, places_of, control_places, straight_binary_places, spare_places}
use Rattle.irig_frame.specs.Values.{is_one, is_one_at, value}
use Rattle.irig_frame.specs.Decoder.{Reads, IsRight}
use Rattle.irig_frame.proofs.ReadingLaws.{each, value_le}
use Rattle.irig_frame.proofs.WritingLaws.{get-set_same, get-set_other, by_sum, value-append}
use Rattle.irig_frame.proofs.OneFrame.{one_frame}
use Rattle.irig_control.specs.declared.parity.Parity.{Parity}
use Rattle.irig_control.specs.Control.{flag}
use Rattle.irig_control.specs.Parity.{data_symbol, HasParity}
use Rattle.irig_control.proofs.ParityLaws.{parity_decides}

abbrev written : List Symbol → Bool → List Symbol
written s b = slice_set s 75 (data_symbol b)

-- ---- the value of some places

value-cons : (p : TableEntry) (ps : List TableEntry) (s : List Symbol) → value (p ∷ ps) s ≡ cond (is_one_at s p) p.weight 0 + value ps s
value-cons p ps s = omega (arith, by_sum (p ∷ ps) s, by_sum ps s)

-- what is below each weight is 0
value_none : (w : ℕ) (ps : List TableEntry) (s : List Symbol) → list_all (λ p. nat_le w p.weight) ps ≡ true → value ps s < w → value ps s ≡ 0
value_none w [] s h low = refl
value_none w (p ∷ ps) s h low =
    let parts = and_parts (nat_le w p.weight) (list_all (λ q. nat_le w q.weight) ps) h in
    let heavy = leb-true w p.weight parts.0 in
    let whole = value-cons p ps s in
    elim (cases_Bool (is_one_at s p)) [
      | inl e ↦ let own : cond (is_one_at s p) p.weight 0 ≡ p.weight = rw e refl in absurd (omega (arith, own))
      | inr e ↦ let own : cond (is_one_at s p) p.weight 0 ≡ 0 = rw e refl in omega (arith, own, value_none w ps s parts.1 (omega (arith, own)))
    ]

-- ---- places without element 75

abbrev lack_parity : List TableEntry → Bool
lack_parity ps = list_all (λ p. not (eqb 75 p.element)) ps

filter_kept : (ps : List TableEntry) (s : List Symbol) (b : Bool) → lack_parity ps ≡ true → filter (is_one_at (written s b)) ps ≡ filter (is_one_at s) ps
filter_kept [] s b h = refl
filter_kept (p ∷ ps) s b h =
    let parts = and_parts (not (eqb 75 p.element)) (lack_parity ps) h in
    let here : slice_get (written s b) p.element ≡ slice_get s p.element = get-set_other s 75 p.element (data_symbol b) (eqb-false 75 p.element (not-true _ parts.0)) in
    rw (here, filter_kept ps s b parts.1) refl

-- such places have their value still
kept : (ps : List TableEntry) (s : List Symbol) (b : Bool) → lack_parity ps ≡ true → value ps (written s b) ≡ value ps s
kept ps s b h = ap (λ (qs : List TableEntry). sum (map (λ p. p.weight) qs)) (filter_kept ps s b h)

fields_lack : (f : Field) → (lack_parity (units_of f) ≡ true) × (lack_parity (tens_of f) ≡ true) × (lack_parity (places_of f) ≡ true)
fields_lack = each _ (refl, refl, refl) (refl, refl, refl) (refl, refl, refl) (refl, refl, refl) (refl, refl, refl)

-- ---- the control bits, before the parity and after it

abbrev low_places : List TableEntry
low_places = take 14 control_places

abbrev high_places : List TableEntry
high_places = drop 15 control_places

abbrev own_part : List Symbol → ℕ
own_part s = cond (is_one (slice_get s 75)) 16384 0

control-parts : (s : List Symbol) → value control_places s ≡ value low_places s + own_part s + value high_places s
control-parts s = omega (arith, value-append low_places (at 75 16384 ∷ high_places) s, value-cons (at 75 16384) high_places s)

own_part-written : (s : List Symbol) (b : Bool) → 75 < length s → own_part (written s b) ≡ 2 ^ 14 * flag b
own_part-written s true h = ap (λ o. cond (is_one o) 16384 0) (get-set_same s 75 One h)
own_part-written s false h = ap (λ o. cond (is_one o) 16384 0) (get-set_same s 75 Zero h)

own_cases : (s : List Symbol) → (own_part s ≡ 0) ⊎ (own_part s ≡ 16384)
own_cases s =
    elim (cases_Bool (is_one (slice_get s 75))) [
      | inl e ↦ inr (rw e refl)
      | inr e ↦ inl (rw e refl)
    ]

-- of a word without the last three bits what is left is written again, with the parity bit
control-written : (s : List Symbol) (b : Bool) → length s ≡ 100 → value control_places s < 2 ^ 15 → value control_places (written s b) ≡ value control_places s % 2 ^ 14 + 2 ^ 14 * flag b
control-written s b long small =
    let low = kept low_places s b refl in
    let high = kept high_places s b refl in
    let own = own_part-written s b (omega (arith, long)) in
    let was = control-parts s in
    let is = control-parts (written s b) in
    let below : value low_places s ≤ 16383 = value_le low_places s in
    let none = value_none 32768 high_places s refl (omega (arith, was, small)) in
    elim (own_cases s) [
      | inl e ↦ omega (arith, low, high, own, was, is, none, below, e)
      | inr e ↦ omega (arith, low, high, own, was, is, none, below, e)
    ]

-- ---- what a frame reads as

data_right : (b : Bool) → IsRight 75 (Some (data_symbol b))
data_right true = refl
data_right false = refl

pub elements_after : (s : List Symbol) (i : ℕ) (x : Symbol) → length s ≡ 100 → ((k : ℕ) → k < 100 → IsRight k (slice_get s k)) → i < 100 → IsRight i (Some x)
    → (k : ℕ) → k < 100 → IsRight k (slice_get (slice_set s i x) k)
elements_after s i x len right low own k h =
    elim (cases_eq i k) [
      | inl e ↦ subst (λ (j : ℕ). IsRight j (slice_get (slice_set s i x) j)) e (subst (λ o. IsRight i o) (sym (get-set_same s i x (omega (arith, len, low)))) own)
      | inr apart ↦ subst (λ o. IsRight k o) (sym (get-set_other s i k x apart)) (right k h)
    ]

-- the values of a frame whose element 75 is written, but for the control bits
reads_written : (s : List Symbol) (b : Bool) (c : Coded) (n : ℕ) → Reads s c → n ≡ value control_places (written s b) → Reads (written s b) (record c { control = n })
reads_written s b c n r control = record {
  len = length-set s 75 (data_symbol b) ∙ r.len;
  elements = elements_after s 75 (data_symbol b) r.len r.elements (omega arith) (data_right b);
  digits = λ f. rw (kept (units_of f) s b (fields_lack f).0, kept (tens_of f) s b (fields_lack f).1) (r.digits f);
  ranges = λ f. rw (field f) (r.ranges f);
  second = r.second ∙ sym (field Second);
  minute = r.minute ∙ sym (field Minute);
  hour = r.hour ∙ sym (field Hour);
  day = r.day ∙ sym (field Day);
  year = r.year ∙ sym (field Year);
  control = control;
  sbs = r.sbs ∙ sym (kept straight_binary_places s b refl);
}
  where
    field : (f : Field) → value (places_of f) (written s b) ≡ value (places_of f) s
    field f = kept (places_of f) s b (fields_lack f).2

pub reads_kept : (s : List Symbol) (b : Bool) (c : Coded) → Reads s c → c.control < 2 ^ 14 → Reads (written s b) (record c { control = c.control + 2 ^ 14 * flag b })
reads_kept s b c r small =
    reads_written s b c (c.control + 2 ^ 14 * flag b) r (omega (arith, r.control, control-written s b r.len (omega (arith, r.control, small))))

pub spare_kept : (s : List Symbol) (b : Bool) → All (λ i. slice_get s i ≡ Some Zero) spare_places → All (λ i. slice_get (written s b) i ≡ Some Zero) spare_places
spare_kept s b h = λ k d lt.
    get-set_other s 75 (get_or spare_places k d) (data_symbol b) (eqb-false 75 (get_or spare_places k d) (not-true _ (others k d lt))) ∙ h k d lt
  where
    others : AllPass (λ i. not (eqb 75 i)) spare_places
    others = AllPass-from_list_all (λ i. not (eqb 75 i)) spare_places refl

-- ---- frames with a parity

pub cleared_reads : (s : List Symbol) (c : Coded) → Reads s c → c.control < 2 ^ 15 → Reads (written s false) (record c { control = c.control % 2 ^ 14 })
cleared_reads s c r small =
    reads_written s false c (c.control % 2 ^ 14) r (omega (arith, r.control, control-written s false r.len (omega (arith, r.control, small))))

data_there : (x : Symbol) → IsRight 75 (Some x) → (b : Bool) × (x ≡ data_symbol b)
data_there Zero h = (false, refl)
data_there One h = (true, refl)
data_there Marker h = absurd (false≢true h)
data_there Bad h = absurd h

-- a frame is its cleared self with its own parity bit
own_bit : (s : List Symbol) (c : Coded) → Reads s c → (b : Bool) × (s ≡ slice_set (written s false) 75 (data_symbol b))
own_bit s c r =
    let x = get_or s 75 Zero in
    let there : slice_get s 75 ≡ Some x = slice_get-get_or s 75 Zero (omega (arith, r.len)) in
    let found = data_there x (subst (λ o. IsRight 75 o) there (r.elements 75 (omega arith))) in
    (found.0, sym (set-set s 75 Zero (data_symbol found.0) ∙ ap (λ (y : Symbol). slice_set s 75 y) (sym found.1) ∙ set-get_or s 75 Zero))

-- one frame at most has the values, the parity, and zeros where no field is
pub one_with_parity : (p : Parity) (s t : List Symbol) (c d : Coded) → Reads s c → Reads t d → c.control < 2 ^ 15 → d.control < 2 ^ 15 → record c { control = c.control % 2 ^ 14 } ≡ record d { control = d.control % 2 ^ 14 }
    → All (λ i. slice_get s i ≡ Some Zero) spare_places → All (λ i. slice_get t i ≡ Some Zero) spare_places → HasParity p s → HasParity p t → s ≡ t
one_with_parity p s t c d r q low high same u v a b =
    let first = cleared_reads s c r low in
    let second = subst (λ (x : Coded). Reads (written t false) x) (sym same) (cleared_reads t d q high) in
    let base : written s false ≡ written t false = one_frame (written s false) (written t false) (record c { control = c.control % 2 ^ 14 }) first second (spare_kept s false u) (spare_kept t false v) in
    let x = own_bit s c r in
    let y = own_bit t d q in
    let t_is : t ≡ slice_set (written s false) 75 (data_symbol y.0) = y.1 ∙ ap (λ (l : List Symbol). slice_set l 75 (data_symbol y.0)) (sym base) in
    let bits : x.0 ≡ y.0 = parity_decides p (written s false) x.0 y.0 (omega (arith, length-set s 75 Zero, r.len)) (subst (λ (l : List Symbol). HasParity p l) x.1 a) (subst (λ (l : List Symbol). HasParity p l) t_is b) in
    x.1 ∙ ap (λ (e : Bool). slice_set (written s false) 75 (data_symbol e)) bits ∙ sym t_is
