-- One fault of a line is never untrue.
use Rattle.std.proofs.Common.{◌≡◌, ℕ, zero, suc, ◌+◌, ◌-◌, ◌*◌, ◌/◌, ◌%◌, ◌<◌, ◌≤◌, ◌⊎◌, ◌&&◌, Bool, true, false, not, cond, eqb, nat_lt, List, [], ◌∷◌, ◌++◌, length, drop, take, slice_get, slice_set, Option, Some, None, refl, sym, subst, ap, ◌∙◌, arith, inl, inr}
use Rattle.std.proofs.lemmas.Bool.{agree_below_at, and_parts, cases_eq, cases_lt, ne_eqb, ltb-true}
use Rattle.std.proofs.lemmas.List.{set-append_right, length-set}
use Rattle.std.proofs.lemmas.List.FromFn.{length-map-range_with_len}
use Rattle.irig_frame.specs.declared.symbol.Symbol.{Symbol}
use Rattle.irig_frame.specs.declared.symbol.Symbol.TheVariants.{Zero, One, Marker, Bad}
use Rattle.irig_frame.specs.declared.fault.FrameFault.{FrameFault}
use Rattle.irig_frame.specs.FieldTable.{is_marker_place}
use Rattle.irig_frame.specs.Decoder.{IsRight}
use Rattle.irig_frame.specs.Faults.{first_wrong}
use Rattle.irig_sync.specs.declared.sync.Sync.{Sync}
use Rattle.irig_sync.specs.Edges.{IsClock}
use Rattle.irig_sync.specs.Lines.{Pulse, place_after, AreOnTime, IsTrueLine, symbols_of_last}
use Rattle.irig_sync.specs.FaultyLines.{ArePulsesBefore, ArePulsesLeft, HasOneFault, HasOneFaultInAHundred, LeavesTheNext}
use Rattle.irig_sync.proofs.FaultLaws.{row, row-get, put_one, last-first, of_row, Holds, one_less, holds, last-take, on-take, left_in_row, left_less}
use Rattle.irig_sync.proofs.CostLaws.{in_step, own_frame}
use Rattle.irig_frame.proofs.ReadingLaws.{all_right}
use Rattle.irig_frame.proofs.WritingLaws.{get-set_same, get-set_other}
use Rattle.irig_time.specs.declared.rules.Rules.{Rules}
use Rattle.irig_time.specs.declared.claim.Claim.{Claim}
use Rattle.irig_port.specs.declared.told.PortFault.{PortFault}
use Rattle.irig_port.specs.declared.told.PortFault.TheVariants as fault
use Rattle.irig_port.specs.declared.told.Told.{Told}
use Rattle.irig_port.specs.declared.told.Told.TheVariants as tells
use Rattle.irig_port.specs.Told.{told_of, frame_told}
use Rattle.irig_port.specs.Damage.{IsFaultOr}
use Rattle.irig_port.specs.Hearing.{heard_of_last, IsHearing}
use Rattle.irig_port.specs.OwnClaims.{frame_at, TellsClaims, IsFaultOrOwn}
use Rattle.irig_port.proofs.ToldLaws.{none_told, short_told, long_told, whole_told}
use Rattle.irig_port.proofs.CarriesLaws.{carries_is_told}
use Rattle.irig_port.proofs.RunLaws.{holds_place}
use Rattle.irig_port.proofs.DamageLaws.{damage_told}

-- ---- what is told

-- a symbol that may not stand where it does is a fault
IsFault : Told → Type 0
IsFault t = (f : PortFault) × (t ≡ tells.Fault f)

wrong_told : (rules : Rules) (s : List Symbol) (p : ℕ) → length s ≡ 100 → p < 100 → (IsRight p (slice_get s p) → ⊥) → IsFault (told_of rules s)
unfolding IsFault frame_told
wrong_told rules s p all low wrong = of (first_wrong 0 s) refl
  where
    of : (o : Option FrameFault) → first_wrong 0 s ≡ o → (f : PortFault) × (told_of rules s ≡ tells.Fault f)
    of None e = absurd (wrong (subst (λ (j : ℕ). IsRight j (slice_get s p)) (let same : 0 + p ≡ p = omega arith in same) (all_right 0 s e p (omega (arith, all, low)))))
    of (Some f) e = (fault.Frame f, whole_told rules s all ∙ rw e refl)

fault_own : (line : ℕ → Symbol) (claims : ℕ → Claim) (heard : List Symbol) (t : Told) → IsFault t → IsFaultOrOwn line claims heard t
unfolding IsFault
fault_own line claims heard t h = subst (IsFaultOrOwn line claims heard) (sym (h.1)) tt

damaged_own : (line : ℕ → Symbol) (claims : ℕ → Claim) (heard : List Symbol) (f i : ℕ) (x : Symbol) → heard ≡ slice_set (frame_at line f) i x → (t : Told) → IsFaultOr (claims f) t → IsFaultOrOwn line claims heard t
damaged_own line claims heard f i x e (tells.Claim c) h = (f, i, x, e, h)
damaged_own line claims heard f i x e (tells.Fault g) h = tt
damaged_own line claims heard f i x e tells.Silence h = absurd h
damaged_own line claims heard f i x e (tells.Poor q) h = absurd h

-- ---- rotated frames

-- the element p may not hold what stands r further on
pub odd_place : ℕ → ℕ → Bool
odd_place r p = cond (is_marker_place p) (not (is_marker_place ((p + r) % 100))) (is_marker_place ((p + r) % 100))

-- two such elements, which are no neighbours
pub first_odd : ℕ → ℕ
first_odd r = cond (eqb (r % 10) 0) 0 (cond (eqb r 91) 19 9)

pub second_odd : ℕ → ℕ
second_odd r = cond (eqb (r % 10) 0) (100 - r) (cond (eqb r 71) 19 29)

odd_test : ℕ → Bool
odd_test r = cond (eqb r 0) true (odd_place r (first_odd r) && odd_place r (second_odd r) && nat_lt (first_odd r + 1) (second_odd r) && nat_lt (second_odd r) 100)

pub odd_at : (r : ℕ) → r < 100 → (r ≡ 0 → ⊥) → (odd_place r (first_odd r) ≡ true) × (odd_place r (second_odd r) ≡ true) × (first_odd r + 1 < second_odd r) × (second_odd r < 100)
unfolding odd_place first_odd second_odd odd_test
odd_at r low some =
    let test : odd_test r ≡ true = agree_below_at odd_test (λ _. true) 100 r refl low in
    let no : eqb r 0 ≡ false = ne_eqb r 0 some in
    let so : (odd_place r (first_odd r) && odd_place r (second_odd r) && nat_lt (first_odd r + 1) (second_odd r) && nat_lt (second_odd r) 100) ≡ true = subst (λ (b : Bool). cond b true (odd_place r (first_odd r) && odd_place r (second_odd r) && nat_lt (first_odd r + 1) (second_odd r) && nat_lt (second_odd r) 100) ≡ true) no test in
    let three = and_parts _ _ so in
    let twos = and_parts _ _ (three.0) in
    let ones = and_parts _ _ (twos.0) in
    (ones.0, ones.1, ltb-true _ _ (twos.1), ltb-true _ _ (three.1))

pub misplaced : (r p j : ℕ) (x : Symbol) → j % 100 ≡ (p + r) % 100 → odd_place r p ≡ true → IsRight (j % 100) (Some x) → IsRight p (Some x) → ⊥
unfolding odd_place
misplaced r p j x e odd there here = of x (subst (λ (n : ℕ). IsRight n (Some x)) e there) here
  where
    both : (u v : Bool) → u ≡ v → cond u (not v) v ≡ true → ⊥
    both true true e h = absurd cc
    both true false e h = absurd cc
    both false true e h = absurd cc
    both false false e h = absurd cc

    of : (x : Symbol) → IsRight ((p + r) % 100) (Some x) → IsRight p (Some x) → ⊥
    of Marker a b = both (is_marker_place p) (is_marker_place ((p + r) % 100)) (b ∙ sym a) odd
    of Zero a b = both (is_marker_place p) (is_marker_place ((p + r) % 100)) (b ∙ sym a) odd
    of One a b = both (is_marker_place p) (is_marker_place ((p + r) % 100)) (b ∙ sym a) odd
    of Bad a b = a

-- but for two neighbours the symbols are those of the line, r elements further on
abbrev Fits : (ℕ → Symbol) → ℕ → ℕ → List Symbol → Type 0
Fits line r q heard = (i : ℕ) → i < 100 → (i ≡ q → ⊥) → (i ≡ suc q → ⊥) → (j : ℕ) × (slice_get heard i ≡ Some (line j)) × (j % 100 ≡ (i + r) % 100)

rotated : (rules : Rules) (line : ℕ → Symbol) (heard : List Symbol) (r q : ℕ) → IsTrueLine line → length heard ≡ 100 → r < 100 → (r ≡ 0 → ⊥) → Fits line r q heard → IsFault (told_of rules heard)
rotated rules line heard r q true_line all low some fits =
    let odd = odd_at r low some in
    let gap = odd.2 in
    let high = odd.3 in
    elim (cases_eq (first_odd r) q) [
      | inl e ↦ at (second_odd r) high (λ f. absurd (omega (arith, e, f, gap))) (λ f. absurd (omega (arith, e, f, gap))) (odd.1)
      | inr n ↦ elim (cases_eq (first_odd r) (suc q)) [
        | inl e ↦ at (second_odd r) high (λ f. absurd (omega (arith, e, f, gap))) (λ f. absurd (omega (arith, e, f, gap))) (odd.1)
        | inr m ↦ at (first_odd r) (omega (arith, gap, high)) n m (odd.0)
      ]
    ]
  where
    at : (p : ℕ) → p < 100 → (p ≡ q → ⊥) → (p ≡ suc q → ⊥) → odd_place r p ≡ true → IsFault (told_of rules heard)
    at p h n m odd =
        let it = fits p h n m in
        wrong_told rules heard p all h (λ right. misplaced r p (it.0) (line (it.0)) (it.2) odd (true_line (it.0)) (subst (IsRight p) (it.1) right))

-- ---- a line of frames

pub true_line : (rules : Rules) (line : ℕ → Symbol) (claims : ℕ → Claim) → TellsClaims rules line claims → IsTrueLine line
true_line rules line claims h k =
    let reads = ((carries_is_told rules (frame_at line (k / 100)) (claims (k / 100))).0 (h (k / 100))).reads in
    let same : 100 * (k / 100) + k % 100 ≡ k = omega arith in
    subst (IsRight (k % 100)) (row-get line (100 * (k / 100)) 100 (k % 100) (omega arith) ∙ ap (λ (j : ℕ). Some (line j)) same) (reads.elements (k % 100) (omega arith))

pub marker_at : (p : ℕ) (x : Symbol) → is_marker_place p ≡ true → IsRight p (Some x) → x ≡ Marker
marker_at p Marker m h = refl
marker_at p Zero m h = absurd cc
marker_at p One m h = absurd cc
marker_at p Bad m h = absurd h

marker_or_not : (p : ℕ) (x : Symbol) → is_marker_place p ≡ true → (x ≡ Marker) ⊎ (IsRight p (Some x) → ⊥)
marker_or_not p Marker m = inl refl
marker_or_not p Zero m = inr (λ h. absurd cc)
marker_or_not p One m = inr (λ h. absurd cc)
marker_or_not p Bad m = inr (λ h. h)

module _ (rules : Rules) (line : ℕ → Symbol) (claims : ℕ → Claim) (tell : TellsClaims rules line claims) (heard : List Symbol) (all : length heard ≡ 100) where
  near_told : (b i : ℕ) (x : Symbol) → heard ≡ slice_set (row line b 100) i x → IsFaultOrOwn line claims heard (told_of rules heard)
  near_told b i x e = elim (cases_eq (b % 100) 0) [
    | inl whole ↦
        let same : b ≡ 100 * (b / 100) = omega (arith, whole) in
        let of_frame : heard ≡ slice_set (frame_at line (b / 100)) i x = e ∙ ap (λ (k : ℕ). slice_set (row line k 100) i x) same in
        damaged_own line claims heard (b / 100) i x of_frame (told_of rules heard)
        (subst (λ (s : List Symbol). IsFaultOr (claims (b / 100)) (told_of rules s)) (sym of_frame) (damage_told rules (frame_at line (b / 100)) (claims (b / 100)) i x (tell (b / 100))))
    | inr some ↦ fault_own line claims heard (told_of rules heard) (rotated rules line heard (b % 100) i (true_line rules line claims tell) all (omega arith) some
        (λ p h n m. (b + p, ap (λ (s : List Symbol). slice_get s p) e ∙ get-set_other (row line b 100) i p x (λ f. n (sym f)) ∙ row-get line b 100 p h, omega arith)))
  ]

  begin_told : (k : ℕ) (x y : Symbol) → heard ≡ x ∷ (y ∷ row line (k + 1) 98) → IsFaultOrOwn line claims heard (told_of rules heard)
  begin_told k x y e = elim (cases_eq ((k + 99) % 100) 0) [
    | inl whole ↦ elim (marker_or_not 0 x refl) [
      | inl marker ↦
          let first : line (k - 1) ≡ Marker = marker_at ((k - 1) % 100) (line (k - 1)) (ap is_marker_place (let none : (k - 1) % 100 ≡ 0 = omega (arith, whole) in none)) (true_line rules line claims tell (k - 1)) in
          let from : k + 1 ≡ k - 1 + 1 + 1 = omega (arith, whole) in
          near_told (k - 1) 1 y (e ∙ ap (λ (z : Symbol). z ∷ (y ∷ row line (k + 1) 98)) (marker ∙ sym first) ∙ ap (λ (b : ℕ). line (k - 1) ∷ (y ∷ row line b 98)) from)
      | inr wrong ↦ fault_own line claims heard (told_of rules heard) (wrong_told rules heard 0 all (omega arith) (λ right. wrong (subst (λ (s : List Symbol). IsRight 0 (slice_get s 0)) e right)))
    ]
    | inr some ↦ fault_own line claims heard (told_of rules heard) (rotated rules line heard ((k + 99) % 100) 0 (true_line rules line claims tell) all (omega arith) some fits)
  ]
    where
      fits : Fits line ((k + 99) % 100) 0 heard
      fits zero h n m = absurd (n refl)
      fits (suc zero) h n m = absurd (m refl)
      fits (suc (suc i)) h n m = (k + 1 + i, ap (λ (s : List Symbol). slice_get s (suc (suc i))) e ∙ row-get line (k + 1) 98 i (omega arith), omega arith)

  end_told : (b : ℕ) (x y : Symbol) → heard ≡ row line b 98 ++ (x ∷ (y ∷ [])) → IsFaultOrOwn line claims heard (told_of rules heard)
  end_told b x y e =
      let one : row line b 98 ++ (x ∷ (line (b + 98 + 1) ∷ [])) ≡ slice_set (row line b 100) 98 x = put_one line b 98 1 x in
      let long : length (row line b 98) ≡ 98 = length-map-range_with_len line b 98 in
      let is : heard ≡ slice_set (slice_set (row line b 100) 98 x) 99 y =
      e ∙ sym (set-append_right (row line b 98) (x ∷ (line (b + 98 + 1) ∷ [])) 98 99 y long (omega arith)) ∙ ap (λ (s : List Symbol). slice_set s 99 y) one in
      elim (cases_eq (b % 100) 0) [
        | inl whole ↦ elim (marker_or_not 99 y refl) [
          | inl marker ↦
              let last : line (b + 98 + 1) ≡ Marker = marker_at ((b + 98 + 1) % 100) (line (b + 98 + 1)) (ap is_marker_place (let end : (b + 98 + 1) % 100 ≡ 99 = omega (arith, whole) in end)) (true_line rules line claims tell (b + 98 + 1)) in
              near_told b 98 x (e ∙ ap (λ (z : Symbol). row line b 98 ++ (x ∷ (z ∷ []))) (marker ∙ sym last) ∙ one)
          | inr wrong ↦ fault_own line claims heard (told_of rules heard) (wrong_told rules heard 99 all (omega arith)
              (λ right. wrong (subst (IsRight 99) (ap (λ (s : List Symbol). slice_get s 99) is ∙ get-set_same (slice_set (row line b 100) 98 x) 99 y (in_range b x)) right)))
        ]
        | inr some ↦ fault_own line claims heard (told_of rules heard) (rotated rules line heard (b % 100) 98 (true_line rules line claims tell) all (omega arith) some
            (λ p h n m. (b + p, ap (λ (s : List Symbol). slice_get s p) is ∙ get-set_other (slice_set (row line b 100) 98 x) 99 p y (λ f. m (sym f)) ∙ get-set_other (row line b 100) 98 p x (λ f. n (sym f)) ∙ row-get line b 100 p h, omega arith)))
      ]
    where
      in_range : (b : ℕ) (x : Symbol) → 99 < length (slice_set (row line b 100) 98 x)
      in_range b x = let same = length-set (row line b 100) 98 x in let long = length-map-range_with_len line b 100 in omega (arith, same, long)

  holds_told : Holds line heard → IsFaultOrOwn line claims heard (told_of rules heard)
  holds_told (inl h) = near_told (h.0) (h.1) (h.2) (h.3)
  holds_told (inr (inl h)) = begin_told (h.0) (h.1) (h.2) (h.3)
  holds_told (inr (inr h)) = end_told (h.0) (h.1) (h.2) (h.3)

-- what is no whole frame is a fault, or silence
unless_whole : (rules : Rules) (line : ℕ → Symbol) (claims : ℕ → Claim) (heard : List Symbol) → (length heard ≡ 100 → IsFaultOrOwn line claims heard (told_of rules heard)) → IsFaultOrOwn line claims heard (told_of rules heard)
unless_whole rules line claims heard whole =
    elim (cases_eq (length heard) 0) [
      | inl none ↦ subst (IsFaultOrOwn line claims heard) (sym (none_told rules heard none)) tt
      | inr some ↦ elim (cases_lt (length heard) 100) [
        | inl short ↦ subst (IsFaultOrOwn line claims heard) (sym (short_told rules heard (length heard) refl some short)) tt
        | inr many ↦ elim (cases_lt 100 (length heard)) [
          | inl long ↦ subst (IsFaultOrOwn line claims heard) (sym (long_told rules heard long)) tt
          | inr most ↦ whole (omega (arith, many, most))
        ]
      ]
    ]

pub one_fault : (rules : Rules) (line : ℕ → Symbol) (claims : ℕ → Claim) (edges : ℕ → ℕ) (off d : ℕ) (heard : List Symbol) (s : Sync) (pulses : List Pulse) (now : ℕ) → TellsClaims rules line claims → IsClock d off edges → HasOneFault line edges off pulses → IsHearing heard s pulses now
    → IsFaultOrOwn line claims heard (told_of rules heard)
one_fault rules line claims edges off d heard s pulses now tell clock h hears = unless_whole rules line claims heard (λ all.
    let count : hears.run.count ≡ 100 = sym (hears.run.all) ∙ all in
    let late : ℕ = hears.run.late in
    holds_told rules line claims tell heard all (holds line edges off d clock (drop late pulses) heard (one_less line edges off pulses h late) all
    (hears.run.symbols ∙ ap (λ (n : ℕ). symbols_of_last n (drop late pulses)) count) (subst (λ (n : ℕ). AreOnTime n (drop late pulses)) count (hears.run.on_time))))

pub seldom : (rules : Rules) (line : ℕ → Symbol) (claims : ℕ → Claim) (edges : ℕ → ℕ) (off d : ℕ) (heard : List Symbol) (s : Sync) (pulses : List Pulse) (now : ℕ) → TellsClaims rules line claims → IsClock d off edges → HasOneFaultInAHundred line edges off pulses → IsHearing heard s pulses now
    → IsFaultOrOwn line claims heard (told_of rules heard)
seldom rules line claims edges off d heard s pulses now tell clock h hears = unless_whole rules line claims heard (λ all.
    let count : hears.run.count ≡ 100 = sym (hears.run.all) ∙ all in
    let late : ℕ = hears.run.late in
    holds_told rules line claims tell heard all (holds line edges off d clock (take 100 (drop late pulses)) heard (h late) all
    (hears.run.symbols ∙ ap (λ (n : ℕ). symbols_of_last n (drop late pulses)) count ∙ sym (last-take 100 (drop late pulses)))
    (on-take 100 (drop late pulses) (subst (λ (n : ℕ). AreOnTime n (drop late pulses)) count (hears.run.on_time)))))

pub losses : (rules : Rules) (line : ℕ → Symbol) (claims : ℕ → Claim) (edges : ℕ → ℕ) (off d k : ℕ) (heard : List Symbol) (s : Sync) (pulses : List Pulse) (now : ℕ) → TellsClaims rules line claims → IsClock d off edges → ArePulsesLeft line edges off k pulses → IsHearing heard s pulses now
    → IsFaultOrOwn line claims heard (told_of rules heard)
losses rules line claims edges off d k heard s pulses now tell clock h hears = unless_whole rules line claims heard (λ all.
    let count : hears.run.count ≡ 100 = sym (hears.run.all) ∙ all in
    let late : ℕ = hears.run.late in
    let left = left_less line edges off k pulses h late in
    in_row (drop late pulses) (left.0) (left.1) all (hears.run.symbols ∙ ap (λ (n : ℕ). symbols_of_last n (drop late pulses)) count) (subst (λ (n : ℕ). AreOnTime n (drop late pulses)) count (hears.run.on_time)))
  where
    in_row : (ps : List Pulse) (j : ℕ) → ArePulsesLeft line edges off j ps → length heard ≡ 100 → heard ≡ symbols_of_last 100 ps → AreOnTime 100 ps → IsFaultOrOwn line claims heard (told_of rules heard)
    in_row [] j left all is on = absurd on
    in_row (p ∷ ps) j left all is on = let it = left_in_row line edges off d clock 99 j p ps left on in near_told rules line claims tell heard all (it.0) 0 (line (it.0)) (is ∙ it.2)

-- ---- the other frames

-- the port that held so many elements of the line tells their frame's claim
frame_told_whole : (rules : Rules) (line : ℕ → Symbol) (claims : ℕ → Claim) (n k : ℕ) (pulses : List Pulse) → TellsClaims rules line claims → place_after pulses ≡ k % 100 + 1 → k % 100 ≡ 99 → 100 ≤ n
    → symbols_of_last 100 pulses ≡ row line (suc k - 100) 100 → told_of rules (heard_of_last n pulses) ≡ tells.Claim (claims (k / 100))
frame_told_whole rules line claims n k pulses tell place last many is =
    let hundred : place_after pulses ≡ 100 = place ∙ ap (λ (i : ℕ). i + 1) last in
    let held : heard_of_last n pulses ≡ symbols_of_last 100 pulses =
    holds_place n pulses (omega (arith, hundred)) (omega (arith, hundred, many)) ∙ ap (λ (i : ℕ). symbols_of_last i pulses) hundred in
    let first : suc k - 100 ≡ 100 * (k / 100) = omega (arith, last) in
    ap (told_of rules) (held ∙ is ∙ ap (λ (b : ℕ). row line b 100) first) ∙ tell (k / 100)

pub before_told : (rules : Rules) (line : ℕ → Symbol) (claims : ℕ → Claim) (edges : ℕ → ℕ) (off d n k : ℕ) (pulses : List Pulse) → TellsClaims rules line claims → IsClock d off edges → ArePulsesBefore line edges off (suc k) pulses → 100 < length pulses → k % 100 ≡ 99 → 100 ≤ n
    → told_of rules (heard_of_last n pulses) ≡ tells.Claim (claims (k / 100))
before_told rules line claims edges off d n k [] tell clock h many last enough = absurd (omega (arith, many))
before_told rules line claims edges off d n k (p ∷ ps) tell clock h many last enough =
    frame_told_whole rules line claims n k (p ∷ ps) tell (in_step line edges off d clock (true_line rules line claims tell) k p ps h (omega (arith, many))) last enough
    ((of_row line edges off (suc k) 100 (p ∷ ps) h (omega (arith, many))).1)

pub behind_told : (rules : Rules) (line : ℕ → Symbol) (claims : ℕ → Claim) (edges : ℕ → ℕ) (off d n : ℕ) (pulses : List Pulse) → TellsClaims rules line claims → IsClock d off edges → (h : HasOneFault line edges off pulses)
    → (h.element % 100 < 99) ⊎ LeavesTheNext edges off d h.element h.fault h.before → 100 * (h.element / 100 + 1) ≤ h.element + length h.after → (h.element + length h.after) % 100 ≡ 99 → 100 ≤ n
    → told_of rules (heard_of_last n pulses) ≡ tells.Claim (claims ((h.element + length h.after) / 100))
behind_told rules line claims edges off d n pulses tell clock h mild past last enough =
    let many : 100 ≤ length h.after = omega (arith, past, last) in
    let newest : length h.after + suc h.element ≡ suc (h.element + length h.after) = omega arith in
    frame_told_whole rules line claims n (h.element + length h.after) pulses tell (own_frame line edges off d clock (true_line rules line claims tell) pulses h mild past) last enough
    (ap (symbols_of_last 100) (h.parts) ∙ last-first 100 (h.after) (h.fault ++ h.before) many ∙ (of_row line edges off (length h.after + suc h.element) 100 (h.after) (h.later) many).1
    ∙ ap (λ (i : ℕ). row line (i - 100) 100) newest)
