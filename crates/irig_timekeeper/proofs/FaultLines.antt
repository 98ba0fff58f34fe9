-- A line with one fault in each hundred pulses tells truly: which element each pulse of a frame is.
use Rattle.std.proofs.Common.{◌≡◌, ℕ, zero, suc, ◌+◌, ◌-◌, ◌*◌, ◌/◌, ◌%◌, ◌<◌, ◌≤◌, ◌⊎◌, true, List, [], ◌∷◌, ◌++◌, length, length-append, take, drop, Some, refl, sym, subst, ap, ◌∙◌, arith, inl, inr}
use Rattle.std.specs.Prelude.{slice_get, slice_set, get_or, min}
use Rattle.std.proofs.lemmas.Bool.{cases_eq, cases_lt}
use Rattle.std.proofs.lemmas.Grind.{get_or-set_at}
use Rattle.std.proofs.lemmas.List.{ext_get_or, get_or_append_left, get_or-append-add, length-set}
use Rattle.std.proofs.lemmas.Option.{slice_get-get_or, get_or_from_slice_get}
use Rattle.irig_frame.specs.declared.symbol.Symbol.{Symbol}
use Rattle.irig_frame.specs.declared.symbol.Symbol.TheVariants.{Marker, Bad}
use Rattle.irig_frame.specs.declared.coded.Coded.{Coded}
use Rattle.irig_frame.specs.Symbols.{symbol_of}
use Rattle.irig_frame.specs.FieldTable.{is_marker_place}
use Rattle.irig_frame.specs.Decoder.{IsRight, Reads}
use Rattle.irig_sync.specs.Lines.{Pulse, pulse_at, AreOnTime, IsTimeOf, IsTrueLine, symbols_of_last}
use Rattle.irig_sync.specs.Edges.{element_at, second_long, element_drift, IsClock}
use Rattle.irig_sync.specs.FaultyLines.{IsPulseOf, ArePulsesBefore}
use Rattle.irig_sync.proofs.LineLaws.{on_time_is}
use Rattle.irig_sync.proofs.EdgeLaws.{far_apart, two_apart}
use Rattle.irig_sync.proofs.FaultLaws.{last-take, on-take}
use Rattle.irig_frame.proofs.WritingLaws.{get-set_other}
use Rattle.irig_time.specs.declared.rules.Rules.{Rules}
use Rattle.irig_time.specs.declared.claim.Claim.{Claim}
use Rattle.irig_time.specs.Carries.{Carries}
use Rattle.irig_time.specs.Timelines.{TimelineValue}
use Rattle.irig_port.proofs.FaultLaws.{odd_place, first_odd, second_odd, odd_at, misplaced, marker_at}
use Rattle.irig_lines.specs.declared.within.Within.{Within}
use Rattle.irig_lines.specs.declared.setup.ClockRules.{ClockRules}
use Rattle.irig_lines.specs.Exactness.{end_off_us, fault_early_us, fault_late_us}
use Rattle.irig_lines.specs.Edges.{IsQuartz, IsTrueNear}
use Rattle.irig_lines.specs.Lines.{rise_before, AreEven, IsLastBefore, StandButForOne, IsCheckedLineOf, RoseBefore, HasOneFaultInPlace, RoseLately, IsTrueButForFaults, IsTrueOrFaulty}
use Rattle.irig_lines.proofs.LineLaws.{clock_of, true_by_any}
use Rattle.irig_lines.proofs.WidthLaws.{half_least}
use Rattle.irig_timekeeper.proofs.LifeLaws.{TellAlwaysTruly}

-- ---- one of some pulses

-- the j-th, the newest first
abbrev nth : List Pulse → ℕ → Pulse
nth ps j = get_or ps j (pulse_at 0 0)

nth_rise : (j : ℕ) (ps : List Pulse) → (nth ps j).rise ≡ rise_before j ps
nth_rise j [] = refl
nth_rise zero (p ∷ ps) = refl
nth_rise (suc j) (p ∷ ps) = nth_rise j ps

-- of the newest ones each is the same
taken_rise : (n j : ℕ) (ps : List Pulse) → j < n → rise_before j (take n ps) ≡ rise_before j ps
taken_rise zero j ps less = absurd (omega (arith, less))
taken_rise (suc n) j [] less = refl
taken_rise (suc n) zero (p ∷ ps) less = refl
taken_rise (suc n) (suc j) (p ∷ ps) less = taken_rise n j ps (omega (arith, less))

-- so many on time are so many
many_on : (n : ℕ) (ps : List Pulse) → AreOnTime (suc (suc n)) ps → suc (suc n) ≤ length ps
many_on n [] on = absurd on
many_on n (p ∷ []) on = absurd on
many_on zero (p ∷ (q ∷ ps)) on = omega arith
many_on (suc n) (p ∷ (q ∷ ps)) on = omega (arith, many_on n (q ∷ ps) on.1)

apart_at : (n j : ℕ) (ps : List Pulse) → AreOnTime n ps → suc j < n → ((nth ps (suc j)).rise + 9000 ≤ (nth ps j).rise) × ((nth ps j).rise < (nth ps (suc j)).rise + 11000)
apart_at zero j ps on less = absurd (omega (arith, less))
apart_at (suc zero) j ps on less = absurd (omega (arith, less))
apart_at (suc (suc n)) j [] on less = absurd on
apart_at (suc (suc n)) j (p ∷ []) on less = absurd on
apart_at (suc (suc n)) zero (p ∷ (q ∷ ps)) on less = let gap = (on_time_is (p.rise - q.rise)).0 on.0 in (omega (arith, gap.0), omega (arith, gap.0, gap.1))
apart_at (suc (suc n)) (suc j) (p ∷ (q ∷ ps)) on less = apart_at (suc n) j (q ∷ ps) on.1 (omega (arith, less))

last_long : (n : ℕ) (ps : List Pulse) → n ≤ length ps → length (symbols_of_last n ps) ≡ n
last_long zero ps few = refl
last_long (suc n) [] few = absurd (omega (arith, few))
last_long (suc n) (p ∷ ps) few =
    let rest = last_long n ps (omega (arith, few)) in
    length-append (symbols_of_last n ps) (symbol_of p.width ∷ []) ∙ (let one : length (symbols_of_last n ps) + 1 ≡ suc n = omega (arith, rest) in one)

symbol_in : (n i j : ℕ) (ps : List Pulse) → n ≤ length ps → i + suc j ≡ n → get_or (symbols_of_last n ps) i Bad ≡ symbol_of (nth ps j).width
symbol_in zero i j ps few e = absurd (omega (arith, e))
symbol_in (suc n) i j [] few e = absurd (omega (arith, few))
symbol_in (suc n) i zero (p ∷ ps) few e =
    let long = last_long n ps (omega (arith, few)) in
    let at : i ≡ length (symbols_of_last n ps) + 0 = omega (arith, e, long) in
    ap (λ (m : ℕ). get_or (symbols_of_last n ps ++ symbol_of p.width ∷ []) m Bad) at ∙ get_or-append-add (symbols_of_last n ps) (symbol_of p.width ∷ []) 0 Bad
symbol_in (suc n) i (suc j) (p ∷ ps) few e =
    let long = last_long n ps (omega (arith, few)) in
    get_or_append_left (symbols_of_last n ps) (symbol_of p.width ∷ []) Bad i (omega (arith, long, e)) ∙ symbol_in n i j ps (omega (arith, few)) (omega (arith, e))

symbol_at : (n i j : ℕ) (ps : List Pulse) → n ≤ length ps → i + suc j ≡ n → slice_get (symbols_of_last n ps) i ≡ Some (symbol_of (nth ps j).width)
symbol_at n i j ps few e = slice_get-get_or (symbols_of_last n ps) i Bad (omega (arith, last_long n ps few, e)) ∙ ap Some (symbol_in n i j ps few e)

-- ---- a hundred pulses

module _ (within : Within) (line : ℕ → Symbol) (edges : ℕ → ℕ) where
  before_at : (k j : ℕ) (ps : List Pulse) → ArePulsesBefore line edges within.us k ps → j < length ps → (e : ℕ) × (e + suc j ≡ k) × IsPulseOf line edges within.us e (nth ps j)
  before_at k j [] h less = absurd (omega (arith, less))
  before_at zero j (p ∷ ps) h less = absurd h
  before_at (suc k) zero (p ∷ ps) h less = (k, omega arith, h.0)
  before_at (suc k) (suc j) (p ∷ ps) h less = let rest = before_at k j ps h.1 (omega (arith, less)) in (rest.0, omega (arith, rest.1), rest.2)

  -- the pulse is of the element so many before the last
  abbrev IsBack : ℕ → ℕ → Pulse → Type 0
  IsBack last j p = (e : ℕ) × (e + j ≡ last) × IsPulseOf line edges within.us e p

  -- an element behind the newest pulse lies at most so far behind the end of the last element's frame: a
  -- pulse in place of its last one may rise 1 ms late
  abbrev IsNewest : ℕ → ℕ → Pulse → Type 0
  IsNewest d last p = p.rise + 10000 ≤ edges (last / 100 + 1) + (998 + within.us + element_drift (2 * d))

  -- but for one, or for two at the beginning or the end, a hundred pulses are of elements in a row
  record AreButForOne (d : ℕ) (ps : List Pulse) : Type 0 where
    last : ℕ
    odd : ℕ
    other : ℕ
    rest : (j : ℕ) → j < 100 → ¬ (j ≡ odd) → ¬ (j ≡ other) → IsBack last j (nth ps j)
    beside : (other ≡ odd) ⊎ (((odd ≡ 1) × (other ≡ 0)) ⊎ ((odd ≡ 98) × (other ≡ 99)))
    newest : last % 100 ≡ 99 → IsNewest d last (nth ps 0)

  module _ (d : ℕ) (steady : IsQuartz d edges) where
    -- the time of the 99th element of a frame, or of the 98th or the 97th
    in_frame : (last e i : ℕ) → e + i ≡ last → i ≤ 99 → last % 100 ≡ 99 → element_at edges e ≡ edges (last / 100) + second_long edges (last / 100) * (99 - i) / 100
    in_frame last e i at few end =
        let frame : e / 100 ≡ last / 100 = omega (arith, at, few, end) in
        let place : e % 100 ≡ 99 - i = omega (arith, at, few, end) in
        rw (frame, place) refl

    exact : (last : ℕ) (p : Pulse) → IsBack last 0 p → last % 100 ≡ 99 → IsNewest d last p
    exact last p is end =
        let time = is.2.0 in
        let at = in_frame last is.0 0 is.1 (omega arith) end in
        omega (arith, at, time.1, steady.steady.least (last / 100), steady.few, within.some)

    -- what stands in place of the last of a frame, or of the last two
    one_new : (e last : ℕ) (p q : Pulse) → e + 1 ≡ last → IsTimeOf edges within.us e q.rise → (q.rise + 9000 ≤ p.rise) × (p.rise < q.rise + 11000) → last % 100 ≡ 99 → IsNewest d last p
    one_new e last p q is time gap end =
        let at = in_frame last e 1 is (omega arith) end in
        omega (arith, at, time.1, gap.1, steady.steady.least (last / 100), steady.few, within.some)

    two_new : (last : ℕ) (p : Pulse) → p.rise < element_at edges last + within.us → last % 100 ≡ 99 → IsNewest d last p
    two_new last p most end =
        let here = in_frame last last 0 (omega arith) (omega arith) end in
        omega (arith, here, most, steady.steady.least (last / 100), steady.few, within.some)

  module _ (d : ℕ) (steady : IsQuartz d edges) (k : ℕ) (after fault before : List Pulse) (later : ArePulsesBefore line edges within.us (length after + suc k) after) (earlier : ArePulsesBefore line edges within.us k before)
      (on : AreOnTime 100 (after ++ (fault ++ before))) (many : 100 ≤ length (after ++ (fault ++ before))) where
    clock : IsClock d within.us edges
    clock = clock_of within d edges steady

    abbrev all : List Pulse
    all = after ++ (fault ++ before)

    total : length all ≡ length after + (length fault + length before)
    total = length-append after (fault ++ before) ∙ ap (λ (n : ℕ). length after + n) (length-append fault before)

    newer : (j : ℕ) → j < length after → IsBack (k + length after) j (nth all j)
    newer j less =
        let it = before_at (length after + suc k) j after later less in
        (it.0, omega (arith, it.1), subst (IsPulseOf line edges within.us it.0) (sym (get_or_append_left after (fault ++ before) (pulse_at 0 0) j less)) it.2)

    older : (j m : ℕ) → j ≡ length after + (length fault + m) → m < length before → (e : ℕ) × (e + suc m ≡ k) × IsPulseOf line edges within.us e (nth all j)
    older j m at less =
        let it = before_at k m before earlier less in
        let same : nth all j ≡ nth before m =
        ap (nth all) at ∙ get_or-append-add after (fault ++ before) (length fault + m) (pulse_at 0 0) ∙ get_or-append-add fault before m (pulse_at 0 0) in
        (it.0, it.1, subst (IsPulseOf line edges within.us it.0) (sym same) it.2)

    -- all hundred came behind the fault
    past : 100 ≤ length after → AreButForOne d all
    past long = record {
      last = k + length after;
      odd = 100;
      other = 100;
      rest = λ j less n m. newer j (omega (arith, less, long));
      beside = inl refl;
      newest = exact d steady (k + length after) (nth all 0) (newer 0 (omega (arith, long)));
    }

    -- nothing has come since a pulse was lost
    none : length fault ≡ 0 → length after ≡ 0 → AreButForOne d all
    none lost new = record {
      last = k - 1;
      odd = 100;
      other = 100;
      rest = λ j less n m. back j less;
      beside = inl refl;
      newest = exact d steady (k - 1) (nth all 0) (back 0 (omega arith));
    }
      where
        back : (j : ℕ) → j < 100 → IsBack (k - 1) j (nth all j)
        back j less = let it = older j j (omega (arith, lost, new)) (omega (arith, less, lost, new, total, many)) in (it.0, omega (arith, it.1), it.2)

    -- a pulse that was lost leaves no hundred on time
    lost : (a : ℕ) → length after ≡ suc a → length fault ≡ 0 → suc a < 100 → ⊥
    lost a at none few =
        let new = newer a (omega (arith, at)) in
        let old = older (suc a) 0 (omega (arith, at, none)) (omega (arith, at, none, few, total, many)) in
        let gap = apart_at 100 a all on few in
        let far = far_apart d within.us edges clock old.0 new.0 (nth all (suc a)).rise (nth all a).rise old.2.0 new.2.0 (omega (arith, old.1, new.1, at)) in
        omega (arith, far, gap.1)

    -- one pulse stands in the element's place
    changed : length fault ≡ 1 → length after < 100 → AreButForOne d all
    changed one few = record {
      last = k + length after;
      odd = length after;
      other = length after;
      rest = λ j less n m. back j less n;
      beside = inl refl;
      newest = λ end. elim (cases_eq (length after) 0) [
        | inl new ↦
            let it = older 1 0 (omega (arith, one, new)) (omega (arith, one, new, total, many)) in
            one_new d steady it.0 (k + length after) (nth all 0) (nth all 1) (omega (arith, it.1, new)) it.2.0 (apart_at 100 0 all on (omega arith)) end
        | inr old ↦ exact d steady (k + length after) (nth all 0) (newer 0 (omega (arith, old))) end
      ];
    }
      where
        back : (j : ℕ) → j < 100 → ¬ (j ≡ length after) → IsBack (k + length after) j (nth all j)
        back j less n = elim (cases_lt j (length after)) [
          | inl new ↦ newer j new
          | inr old ↦ elim (cases_lt (length after) j) [
            | inl there ↦
                let m : ℕ = j - suc (length after) in
                let it = older j m (omega (arith, one, there)) (omega (arith, less, there, one, total, many)) in
                (it.0, omega (arith, it.1, there), it.2)
            | inr here ↦ absurd (n (omega (arith, old, here)))
          ]
        ]

    -- of two pulses the newer one is the oldest of the hundred, or both are the oldest or the newest;
    -- else they leave no hundred on time
    alone : length after ≡ 99 → AreButForOne d all
    alone at = record {
      last = k + length after;
      odd = 99;
      other = 99;
      rest = λ j less n m. newer j (let in_after : j < length after = (elim (cases_lt j 99) [ inl low ↦ omega (arith, low, at) | inr high ↦ absurd (n (omega (arith, high, less))) ]) in in_after);
      beside = inl refl;
      newest = exact d steady (k + length after) (nth all 0) (newer 0 (omega (arith, at)));
    }

    begins : length after ≡ 98 → AreButForOne d all
    begins at = record {
      last = k + length after;
      odd = 98;
      other = 99;
      rest = λ j less n m. newer j (elim (cases_lt j 98) [ inl low ↦ omega (arith, low, at) | inr high ↦ elim (cases_lt j 99) [ inl low ↦ absurd (n (omega (arith, high, low))) | inr past ↦ absurd (m (omega (arith, past, less))) ] ]);
      beside = inr (inr (refl, refl));
      newest = exact d steady (k + length after) (nth all 0) (newer 0 (omega (arith, at)));
    }

    both : (a : ℕ) → length after ≡ suc a → length fault ≡ 2 → suc a < 98 → ⊥
    both a at two few =
        let new = newer a (omega (arith, at)) in
        let old = older (suc (suc (suc a))) 0 (omega (arith, at, two)) (omega (arith, at, two, few, total, many)) in
        let first = apart_at 100 a all on (omega (arith, few)) in
        let second = apart_at 100 (suc a) all on (omega (arith, few)) in
        let third = apart_at 100 (suc (suc a)) all on (omega (arith, few)) in
        let two_on : new.0 ≡ suc (suc old.0) = omega (arith, old.1, new.1, at) in
        let time : IsTimeOf edges within.us (suc (suc old.0)) (nth all a).rise = subst (λ (e : ℕ). IsTimeOf edges within.us e (nth all a).rise) two_on new.2.0 in
        let near = two_apart d within.us edges clock old.0 (nth all (suc (suc (suc a)))).rise (nth all a).rise old.2.0 time in
        omega (arith, near, first.0, second.0, third.0)

    ends : length after ≡ 0 → length fault ≡ 2 → (nth all 0).rise < element_at edges (k + 1) + within.us → AreButForOne d all
    ends at two most = record {
      last = k + 1;
      odd = 1;
      other = 0;
      rest = λ j less n m.
          elim (cases_lt 1 j) [
            | inl there ↦
                let it = older j (j - 2) (omega (arith, at, two, there)) (omega (arith, at, two, there, less, total, many)) in
                (it.0, omega (arith, it.1, there), it.2)
            | inr here ↦ elim (cases_lt 0 j) [ inl low ↦ absurd (n (omega (arith, low, here))) | inr low ↦ absurd (m (omega (arith, low))) ]
          ];
      beside = inr (inl (refl, refl));
      newest = λ end. two_new d steady (k + 1) (nth all 0) most end;
    }

  -- ---- by what is at fault

  module _ (d : ℕ) (steady : IsQuartz d edges) (k : ℕ) (before : List Pulse) (earlier : ArePulsesBefore line edges within.us k before) where
    by_fault : (after fault : List Pulse) → length fault ≤ 2 → RoseBefore (element_at edges (k + 1) + within.us) fault → ArePulsesBefore line edges within.us (length after + suc k) after
        → AreOnTime 100 (after ++ (fault ++ before)) → 100 ≤ length (after ++ (fault ++ before)) → length after < 100 → AreButForOne d (after ++ (fault ++ before))
    by_fault [] [] few rose later on many low = none d steady k [] [] before later earlier on many refl refl
    by_fault (p ∷ a) [] few rose later on many low = absurd (lost d steady k (p ∷ a) [] before later earlier on many (length a) (omega arith) refl (omega (arith, low)))
    by_fault after (x ∷ []) few rose later on many low = changed d steady k after (x ∷ []) before later earlier on many refl low
    by_fault [] (y ∷ (x ∷ [])) few rose later on many low = ends d steady k [] (y ∷ (x ∷ [])) before later earlier on many refl refl rose
    by_fault (p ∷ a) (y ∷ (x ∷ [])) few rose later on many low = elim (cases_lt (length (p ∷ a)) 98) [
      | inl inner ↦ absurd (both d steady k (p ∷ a) (y ∷ (x ∷ [])) before later earlier on many (length a) (omega arith) refl (omega (arith, inner)))
      | inr outer ↦ elim (cases_eq (length (p ∷ a)) 98) [
        | inl at ↦ begins d steady k (p ∷ a) (y ∷ (x ∷ [])) before later earlier on many at
        | inr away ↦ alone d steady k (p ∷ a) (y ∷ (x ∷ [])) before later earlier on many (elim (cases_lt (length (p ∷ a)) 99) [ inl less ↦ absurd (away (omega (arith, less, outer))) | inr more ↦ omega (arith, more, low) ])
      ]
    ]
    by_fault after (y ∷ (x ∷ (w ∷ more))) few rose later on many low = absurd (omega (arith, few))

  fits : (d : ℕ) → IsQuartz d edges → (ps : List Pulse) → HasOneFaultInPlace within.us line edges ps → AreOnTime 100 ps → AreButForOne d ps
  fits d steady ps is on =
      let h = is.one in
      let parts = h.parts in
      let on_parts = subst (AreOnTime 100) parts on in
      let many = subst (λ (l : List Pulse). 100 ≤ length l) parts (many_on 98 ps on) in
      subst (AreButForOne d) (sym parts)
      (elim (cases_lt (length h.after) 100) [
        | inl low ↦ by_fault d steady h.element h.before h.earlier h.after h.fault h.few is.in_place h.later on_parts many low
        | inr long ↦ past d steady h.element h.after h.fault h.before h.later h.earlier on_parts many long
      ])

-- ---- a frame

module _ (within : Within) (line : ℕ → Symbol) (edges : ℕ → ℕ) (right : IsTrueLine line) (ps : List Pulse) (d : ℕ) (is : AreButForOne within line edges d ps) (many : 100 ≤ length ps) (coded : Coded) (reads : Reads (symbols_of_last 100 ps) coded) where
  abbrev heard : List Symbol
  heard = symbols_of_last 100 ps

  own : (i j : ℕ) → i + suc j ≡ 100 → ¬ (j ≡ is.odd) → ¬ (j ≡ is.other) → (e : ℕ) × (e + j ≡ is.last) × (slice_get heard i ≡ Some (line e))
  own i j at n m =
      let back = is.rest j (omega (arith, at)) n m in
      (back.0, back.1, symbol_at 100 i j ps many at ∙ ap Some back.2.1)

  close : (is.odd ≤ is.other + 1) × (is.other ≤ is.odd + 1)
  close = elim is.beside [
    | inl same ↦ (omega (arith, same), omega (arith, same))
    | inr more ↦ elim more [ inl new ↦ (omega (arith, new.0, new.1), omega (arith, new.0, new.1)) | inr old ↦ (omega (arith, old.0, old.1), omega (arith, old.0, old.1)) ]
  ]

  -- the symbols are those of a frame from its first on, as in no other order all markers stand right
  module _ (some : ¬ ((is.last + 1) % 100 ≡ 0)) where
    abbrev turn : ℕ
    turn = (is.last + 1) % 100

    wrong : (p : ℕ) → p < 100 → ¬ (99 - p ≡ is.odd) → ¬ (99 - p ≡ is.other) → odd_place turn p ≡ true → ⊥
    wrong p low n m odd =
        let it = own p (99 - p) (omega (arith, low)) n m in
        let place : it.0 % 100 ≡ (p + turn) % 100 = omega (arith, it.1, low) in
        misplaced turn p it.0 (line it.0) place odd (right it.0) (subst (IsRight p) it.2 (reads.elements p low))

    turned : ⊥
    turned =
        let two = odd_at turn (omega arith) some in
        let other = wrong (second_odd turn) two.3 in
        elim (cases_eq (99 - first_odd turn) is.odd) [
          | inl e ↦ other (λ f. omega (arith, e, f, two.2, two.3)) (λ f. omega (arith, e, f, two.2, two.3, close.0)) two.1
          | inr n ↦ elim (cases_eq (99 - first_odd turn) is.other) [
            | inl e ↦ other (λ f. omega (arith, e, f, two.2, two.3, close.1)) (λ f. omega (arith, e, f, two.2, two.3)) two.1
            | inr m ↦ wrong (first_odd turn) (omega (arith, two.2, two.3)) n m two.0
          ]
        ]

  whole : is.last % 100 ≡ 99
  whole = elim (cases_eq ((is.last + 1) % 100) 0) [ inl e ↦ omega (arith, e) | inr some ↦ absurd (turned some) ]

  abbrev second : ℕ
  second = is.last / 100

  -- a marker stands where one belongs
  marked : (i : ℕ) → i < 100 → is_marker_place i ≡ true → slice_get heard i ≡ Some (line (100 * second + i))
  marked i low place =
      let x : Symbol = get_or heard i Bad in
      let there : slice_get heard i ≡ Some x = slice_get-get_or heard i Bad (omega (arith, last_long 100 ps many, low)) in
      let here : x ≡ Marker = marker_at i x place (subst (IsRight i) there (reads.elements i low)) in
      let at : (100 * second + i) % 100 ≡ i = omega (arith, low) in
      let of_line : line (100 * second + i) ≡ Marker = marker_at i (line (100 * second + i)) place (subst (λ (n : ℕ). IsRight n (Some (line (100 * second + i)))) at (right (100 * second + i))) in
      there ∙ ap Some (here ∙ sym of_line)

  of_frame : (i : ℕ) → (e : ℕ) × (e + (99 - i) ≡ is.last) × (slice_get heard i ≡ Some (line e)) → i < 100 → slice_get heard i ≡ Some (line (100 * second + i))
  of_frame i it low =
      let here : it.0 ≡ 100 * second + i = omega (arith, it.1, low, whole) in
      subst (λ (e : ℕ). slice_get heard i ≡ Some (line e)) here it.2

  stand : StandButForOne line (100 * second) (99 - is.odd) heard
  stand i low n = elim (cases_eq (99 - i) is.other) [
    | inr m ↦ of_frame i (own i (99 - i) (omega (arith, low)) (λ e. n (omega (arith, e, low))) m) low
    | inl e ↦ elim is.beside [
      | inl same ↦ absurd (n (omega (arith, e, same, low)))
      | inr more ↦ elim more [
        | inl new ↦ let at : i ≡ 99 = omega (arith, e, new.1, low) in marked i low (rw at refl)
        | inr old ↦ let at : i ≡ 0 = omega (arith, e, old.1, low) in marked i low (rw at refl)
      ]
    ]
  ]

  -- ---- where it ends

  -- it ends so near the edge behind its second
  abbrev EndsNear : Type 0
  EndsNear = (edges (second + 1) ≤ (nth ps 0).rise + 10000 + (end_off_us within.us d + fault_early_us within.us d)) × ((nth ps 0).rise + 10000 ≤ edges (second + 1) + (end_off_us within.us d + fault_late_us within.us d))

  -- by its last pulse
  near_by_last : IsQuartz d edges → IsBack within line edges is.last 0 (nth ps 0) → EndsNear
  near_by_last steady it =
      let time = it.2.0 in
      let at = in_frame within line edges d steady is.last it.0 0 it.1 (omega arith) whole in
      let least : edges (second + 1) ≤ (nth ps 0).rise + 10000 + end_off_us within.us d = omega (arith, at, time.0, steady.steady.most second, steady.few, within.some) in
      let most : (nth ps 0).rise + 10000 ≤ edges (second + 1) + end_off_us within.us d = omega (arith, at, time.1, steady.steady.least second, steady.few, within.some) in
      (omega (arith, least), omega (arith, most))

  -- by its first one, as it is even
  near_by_first : IsQuartz d edges → AreEven within.us d ps → IsBack within line edges is.last 99 (nth ps 99) → EndsNear
  near_by_first steady even it =
      let time = it.2.0 in
      let at = in_frame within line edges d steady is.last it.0 99 it.1 (omega arith) whole in
      let begin = nth_rise 99 ps in
      let rise = nth_rise 0 ps in
      let least : edges (second + 1) ≤ (nth ps 0).rise + 10000 + (end_off_us within.us d + fault_early_us within.us d) = omega (arith, at, time.0, begin, rise, even.0, steady.steady.most second, steady.few, within.some) in
      let most : (nth ps 0).rise + 10000 ≤ edges (second + 1) + (end_off_us within.us d + fault_early_us within.us d) = omega (arith, at, time.1, begin, rise, even.1, steady.steady.least second, steady.few, within.some) in
      let newest : (nth ps 0).rise + 10000 ≤ edges (second + 1) + (end_off_us within.us d + (999 + element_drift (2 * d) - element_drift d)) = (let new = is.newest whole in omega (arith, new, within.some)) in
      (least, under_both ((nth ps 0).rise + 10000) (edges (second + 1)) (end_off_us within.us d) (fault_early_us within.us d) (999 + element_drift (2 * d) - element_drift d) most newest)
    where
      under_both : (x y off a b : ℕ) → x ≤ y + (off + a) → x ≤ y + (off + b) → x ≤ y + (off + min a b)
      under_both x y off a b p q = grind (arith, p, q)

  ends_near : IsQuartz d edges → AreEven within.us d ps → EndsNear
  ends_near steady even = elim (cases_eq 0 is.odd) [
    | inl e ↦ near_by_first steady even (is.rest 99 (omega arith) (λ f. omega (arith, e, f)) (λ f. omega (arith, e, f, close.1)))
    | inr n ↦ elim (cases_eq 0 is.other) [
      | inl e ↦ near_by_first steady even (is.rest 99 (omega arith) (λ f. omega (arith, e, f, close.0)) (λ f. omega (arith, e, f)))
      | inr m ↦ near_by_last steady (is.rest 0 (omega arith) n m)
    ]
  ]

-- ---- lines

lately : (now n : ℕ) (p : Pulse) (ps : List Pulse) → AreOnTime (suc n) (p ∷ ps) → now + 11000 * n ≤ p.rise + 1200000 → RoseLately now (take (suc n) (p ∷ ps))
lately now zero p ps on soon = (omega (arith, soon), tt)
lately now (suc n) p [] on soon = absurd on
lately now (suc n) p (q ∷ ps) on soon =
    let gap = (on_time_is (p.rise - q.rise)).0 on.0 in
    (omega (arith, soon), lately now n q ps on.1 (omega (arith, soon, gap.0, gap.1)))

module _ (within : Within) (rules : Rules) (t : TimelineValue) (d : ℕ) (edges : ℕ → ℕ) (steady : IsQuartz d edges) where
  -- a frame with a fault ends so near its edge
  abbrev IsNearEdge : ℕ → Claim → Type 0
  IsNearEdge end claim = IsTrueNear t edges (end_off_us within.us d + fault_early_us within.us d) (end_off_us within.us d + fault_late_us within.us d) end claim

  framed : (line : ℕ → Symbol) (end : ℕ) (p : Pulse) (ps : List Pulse) (claim : Claim) → IsCheckedLineOf rules t line → HasOneFaultInPlace within.us line edges (take 100 (p ∷ ps)) → AreOnTime 100 (p ∷ ps)
      → Carries rules (symbols_of_last 100 (p ∷ ps)) claim → end ≡ p.rise + 10000 → AreEven within.us d (p ∷ ps) → IsNearEdge end claim
  framed line end p ps claim checked one on carries at even =
      let hundred : List Pulse = take 100 (p ∷ ps) in
      let on_time = on-take 100 (p ∷ ps) on in
      let is = fits within line edges d steady hundred one on_time in
      let many = many_on 98 hundred on_time in
      let same = last-take 100 (p ∷ ps) in
      let carried = subst (λ (s : List Symbol). Carries rules s claim) (sym same) carries in
      let f : ℕ = is.last / 100 in
      let first = taken_rise 100 99 (p ∷ ps) (omega arith) in
      let near = ends_near within line edges checked.right hundred d is many carried.coded carried.reads steady (omega (arith, first, even.0), omega (arith, first, even.1)) in
      record {
        second = f;
        near = record {
          least = omega (arith, at, near.0);
          most = omega (arith, at, near.1);
        };
        truth = checked.truth f (99 - is.odd) (symbols_of_last 100 hundred) claim (stand within line edges checked.right hundred d is many carried.coded carried.reads) carried;
      }

  ended : (line : ℕ → Symbol) (now end : ℕ) (run : List Pulse) (claim : Claim) → IsCheckedLineOf rules t line → (RoseLately now (take 100 run) → HasOneFaultInPlace within.us line edges (take 100 run)) → AreOnTime 100 run
      → IsLastBefore end run → Carries rules (symbols_of_last 100 run) claim → AreEven within.us d run → now ≤ end + 100000 → IsNearEdge end claim
  ended line now end [] claim checked few on at carries even soon = absurd at
  ended line now end (p ∷ ps) claim checked few on at carries even soon = framed line end p ps claim checked (few (lately now 99 p ps on (omega (arith, at, soon)))) on carries at even

  pub faults_are_true : (now end : ℕ) (pulses : List Pulse) (claim : Claim) → IsTrueButForFaults within.us rules t edges now pulses → (late : ℕ) → AreOnTime 100 (drop late pulses) → IsLastBefore end (drop late pulses) → Carries rules (symbols_of_last 100 (drop late pulses)) claim → AreEven within.us d (drop late pulses) → now ≤ end + 100000 → IsNearEdge end claim
  faults_are_true now end pulses claim is late on last carries even soon = ended is.line now end (drop late pulses) claim is.is_line (is.few late) on last carries even soon

-- so they tell truly, but for so much more before an edge and behind it
pub faults_tell_truly : (c : ClockRules) (rules : Rules) (t : TimelineValue) (edges : ℕ → ℕ) → IsQuartz c.drift_us edges → TellAlwaysTruly (IsTrueButForFaults c.within.us rules t edges) c rules t edges (fault_early_us c.within.us c.drift_us) (fault_late_us c.within.us c.drift_us)
faults_tell_truly c rules t edges steady now half end pulses claim is frame soon =
    let near = faults_are_true c.within rules t c.drift_us edges steady now end pulses claim is frame.late frame.on_time frame.last frame.carries frame.even soon in
    let least = half_least c half _ frame.says in
    record {
      second = near.second;
      near = record { least = omega (arith, near.near.least, least); most = omega (arith, near.near.most, least) };
      truth = near.truth;
    }

-- the same of lines of which any pulses may be lost, or which may have faults
pub either_tells_truly : (c : ClockRules) (rules : Rules) (t : TimelineValue) (edges : ℕ → ℕ) → IsQuartz c.drift_us edges → TellAlwaysTruly (IsTrueOrFaulty c.within.us rules t edges) c rules t edges (fault_early_us c.within.us c.drift_us) (fault_late_us c.within.us c.drift_us)
either_tells_truly c rules t edges steady now half end pulses claim (inr is) frame soon = faults_tell_truly c rules t edges steady now half end pulses claim is frame soon
either_tells_truly c rules t edges steady now half end pulses claim (inl is) frame soon =
    let near = true_by_any c rules t c.drift_us edges half now end pulses claim steady is frame soon in
    record {
      second = near.second;
      near = record { least = omega (arith, near.near.least); most = omega (arith, near.near.most) };
      truth = near.truth;
    }

-- less is allowed behind the edge than before it
pub late_below : (within d : ℕ) → fault_late_us within d ≤ fault_early_us within d
late_below within d = of (fault_early_us within d) (999 + element_drift (2 * d) - element_drift d)
  where
    of : (a b : ℕ) → min a b ≤ a
    of a b = grind arith

-- so much more is 1.1 ms at most
pub fault_small : (within : Within) (d : ℕ) → d ≤ 100 → (fault_early_us within.us d < 1100) × (fault_late_us within.us d ≤ 1000) × (fault_late_us within.us d ≤ fault_early_us within.us d)
fault_small within d few =
    (omega (arith, few, within.few), of (fault_early_us within.us d) (999 + element_drift (2 * d) - element_drift d) (omega (arith, few)), late_below within.us d)
  where
    of : (a b : ℕ) → b ≤ 1000 → min a b ≤ 1000
    of a b h = grind (arith, h)

-- ---- lines of such kinds

-- a hundred symbols that are others, but for one
pub same_but : (own : List Symbol) (q : ℕ) (s : List Symbol) → length own ≡ 100 → length s ≡ 100 → ((i : ℕ) → i < 100 → ¬ (i ≡ q) → slice_get s i ≡ slice_get own i) → s ≡ slice_set own q (get_or s q Bad)
same_but own q s whole long is =
    let x : Symbol = get_or s q Bad in
    let same : length (slice_set own q x) ≡ length own = length-set own q x in
    ext_get_or Bad s (slice_set own q x) (omega (arith, long, whole, same)) (λ i less.
    (let low : i < 100 = omega (arith, less, long) in
    elim (cases_eq i q) [
      | inl here ↦ ap (λ (j : ℕ). get_or s j Bad) here ∙ sym (get_or-set_at own q i x Bad here (omega (arith, here, low, whole)))
      | inr away ↦
          let own_at = slice_get-get_or own i Bad (omega (arith, low, whole)) in
          let there = get-set_other own q i x (λ e. away (sym e)) ∙ own_at in
          get_or_from_slice_get s i (get_or own i Bad) Bad (is i low away ∙ own_at) ∙ sym (get_or_from_slice_get (slice_set own q x) i (get_or own i Bad) Bad there)
    ]))

module _ (within : ℕ) (line : ℕ → Symbol) (edges : ℕ → ℕ) where
  pub dropped : (n k : ℕ) (ps : List Pulse) → ArePulsesBefore line edges within k ps → (j : ℕ) × ArePulsesBefore line edges within j (drop n ps)
  dropped zero k ps are = (k, are)
  dropped (suc n) k [] are = (k, tt)
  dropped (suc n) zero (p ∷ ps) are = absurd are
  dropped (suc n) (suc k) (p ∷ ps) are = dropped n k ps are.1

  pub taken : (n k : ℕ) (ps : List Pulse) → ArePulsesBefore line edges within k ps → ArePulsesBefore line edges within k (take n ps)
  taken zero k ps are = tt
  taken (suc n) k [] are = tt
  taken (suc n) zero (p ∷ ps) are = are
  taken (suc n) (suc k) (p ∷ ps) are = (are.0, taken n k ps are.1)

  -- nothing is at fault
  pub faultless : (k : ℕ) (ps : List Pulse) → ArePulsesBefore line edges within k ps → HasOneFaultInPlace within line edges ps
  faultless k ps are = record {
    one = record { element = k; after = []; fault = []; before = ps; parts = refl; few = omega arith; later = tt; earlier = are };
    in_place = tt;
  }

  pub whole_is_true : (rules : Rules) (t : TimelineValue) (now k : ℕ) (pulses : List Pulse) → IsCheckedLineOf rules t line → ArePulsesBefore line edges within k pulses → IsTrueButForFaults within rules t edges now pulses
  whole_is_true rules t now k pulses checked are = record {
    line = line;
    is_line = checked;
    few = λ n soon. let left = dropped n k pulses are in faultless left.0 (take 100 (drop n pulses)) (taken 100 left.0 (drop n pulses) left.1);
  }
