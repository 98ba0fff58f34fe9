-- A port that hears through a synchroniser holds the symbols of pulses in a row.
use Rattle.std.proofs.Common.{◌≡◌, ℕ, zero, suc, ◌+◌, ◌-◌, ◌%◌, ◌^◌, ◌<◌, ◌≤◌, ◌⊎◌, Bool, true, false, cond, nat_lt, List, [], ◌∷◌, ◌++◌, length, length-append, drop, refl, sym, subst, ap, ◌∙◌, arith, inl, inr}
use Rattle.std.proofs.lemmas.Bool.{ltb-true, ltb-false}
use Rattle.irig_frame.specs.declared.symbol.Symbol.{Symbol}
use Rattle.irig_frame.specs.Symbols.{symbol_of}
use Rattle.irig_sync.specs.declared.sync.Sync.{Sync}
use Rattle.irig_sync.specs.Sync.{is_marker, is_on_time, clock_gap, place_at, place_behind, place_of, pulse_of, is_idle, idle_of, flag}
use Rattle.irig_sync.specs.Lines.{Pulse, pulse_at, place_after, AreOnTime, IsSyncOf, IsAfter, IsSyncAt, IsSoon, symbols_of_last}
use Rattle.irig_sync.proofs.LineLaws.{first_at_time, place_at_time, pulse_at_time, idle_at_time}
use Rattle.irig_time.specs.declared.rules.Rules.{Rules}
use Rattle.irig_time.specs.declared.claim.Claim.{Claim}
use Rattle.irig_port.specs.declared.told.Told.TheVariants as tells
use Rattle.irig_port.specs.Told.{told_of}
use Rattle.irig_port.specs.Hearing.{heard_at, heard_of_last, IsRun, IsHearing, IsOfRun}
use Rattle.irig_port.proofs.CarriesLaws.{carries_is_told}

-- a place is 0, or 1, or one more than the place before, of a pulse on time
abbrev pub Places : Bool → ℕ → ℕ → Type 0
Places on place new = (new ≡ 0) ⊎ ((new ≡ 1) ⊎ ((on ≡ true) × (new ≡ suc place) × (1 ≤ place) × (place < 100)))

behind : (place : ℕ) → Places true place (place_behind place)
behind place = by_first (nat_lt place 1) refl
  where
    by_last : (b : Bool) → Places true place (cond b 0 1)
    by_last true = inl refl
    by_last false = inr (inl refl)

    by_next : 1 ≤ place → (b : Bool) → nat_lt place 100 ≡ b → Places true place (cond b (place + 1) (cond (nat_lt 100 place) 0 1))
    by_next some true e = let low = ltb-true place 100 e in inr (inr (refl, omega arith, some, low))
    by_next some false e = by_last (nat_lt 100 place)

    by_first : (b : Bool) → nat_lt place 1 ≡ b → Places true place (cond b 0 (cond (nat_lt place 100) (place + 1) (cond (nat_lt 100 place) 0 1)))
    by_first true e = inl refl
    by_first false e = by_next (let some = ltb-false place 1 e in omega (arith, some)) (nat_lt place 100) refl

pub places : (on marker was : Bool) (place : ℕ) → Places on place (place_at on marker was place)
places on true true place = inr (inl refl)
places true true false place = behind place
places false true false place = inr (inl refl)
places true false was place = behind place
places false false was place = inl refl

-- out of step the port stays as it is, and one more pulse came late
out_of_step : (heard : List Symbol) (place new : ℕ) (p : Pulse) (pulses : List Pulse) → IsRun heard place pulses → new ≡ place_after (p ∷ pulses) → new ≡ 0 → IsRun (heard_at new heard p.width) new (p ∷ pulses)
out_of_step heard place new p pulses r is e =
    subst (λ (n : ℕ). IsRun (heard_at n heard p.width) n (p ∷ pulses)) (sym e)
    (record { late = suc r.late; count = r.count; symbols = r.symbols; all = r.all; on_time = r.on_time; out = out; step = inl refl })
  where
    out : (i : ℕ) → i < suc r.late → place_after (drop i (p ∷ pulses)) ≡ 0
    out zero h = sym is ∙ e
    out (suc i) h = r.out i (omega (arith, h))

begun : (heard : List Symbol) (new : ℕ) (p : Pulse) (pulses : List Pulse) → new ≡ 1 → IsRun (heard_at new heard p.width) new (p ∷ pulses)
begun heard new p pulses e =
    subst (λ (n : ℕ). IsRun (heard_at n heard p.width) n (p ∷ pulses)) (sym e)
    (record { late = 0; count = 1; symbols = refl; all = refl; on_time = tt; out = λ i h. absurd (omega (arith, h)); step = inr (refl, omega arith) })

one_more : (n : ℕ) (p q : Pulse) (ps : List Pulse) → is_on_time (p.rise - q.rise) ≡ true → AreOnTime n (q ∷ ps) → AreOnTime (suc n) (p ∷ (q ∷ ps))
one_more zero p q ps on h = tt
one_more (suc n) p q ps on h = (on, h)

later : (new : ℕ) (heard : List Symbol) (width : ℕ) → 2 ≤ new → length heard < 101 → heard_at new heard width ≡ heard ++ symbol_of width ∷ []
later new heard width some few = grind (arith, some, few)

counted : (heard : List Symbol) (place new : ℕ) (p q : Pulse) (ps : List Pulse) → IsRun heard place (q ∷ ps)
    → is_on_time (p.rise - q.rise) ≡ true → new ≡ suc place → 1 ≤ place → place < 100 → IsRun (heard_at new heard p.width) new (p ∷ (q ∷ ps))
counted heard place new p q ps r on e some few = elim (r.step) [
  | inl out ↦ absurd (omega (arith, out, some))
  | inr inside ↦
      let none : drop r.late (q ∷ ps) ≡ q ∷ ps = ap (λ (n : ℕ). drop n (q ∷ ps)) (inside.0) in
      let stands : heard ≡ symbols_of_last r.count (q ∷ ps) = r.symbols ∙ ap (symbols_of_last r.count) none in
      let on_time : AreOnTime r.count (q ∷ ps) = subst (AreOnTime r.count) none (r.on_time) in
      let long : length heard ≡ r.count = r.all in
      let least : r.count ≤ place = inside.1 in
      let now : heard_at new heard p.width ≡ heard ++ symbol_of p.width ∷ [] = later new heard p.width (omega (arith, e, some)) (omega (arith, long, least, few)) in
      record {
        late = 0;
        count = suc r.count;
        symbols = now ∙ ap (λ (s : List Symbol). s ++ symbol_of p.width ∷ []) stands;
        all = ap length now ∙ length-append heard (symbol_of p.width ∷ []) ∙ (let more : length heard + 1 ≡ suc r.count = omega (arith, long) in more);
        on_time = one_more r.count p q ps on on_time;
        out = λ i h. absurd (omega (arith, h));
        step = inr (refl, omega (arith, e, least));
      }
]

-- by what the place is: of an out-of-step line, and of one on which a pulse came before
by_out : (heard : List Symbol) (place new : ℕ) (on : Bool) (p : Pulse) (pulses : List Pulse) → IsRun heard place pulses → new ≡ place_after (p ∷ pulses) → place ≡ 0 → Places on place new → IsRun (heard_at new heard p.width) new (p ∷ pulses)
by_out heard place new on p pulses r is out c = elim c [
  | inl e ↦ out_of_step heard place new p pulses r is e
  | inr more ↦ elim more [
    | inl e ↦ begun heard new p pulses e
    | inr on ↦ absurd (let some = on.2 in omega (arith, out, some))
  ]
]

by_place : (heard : List Symbol) (place new : ℕ) (p q : Pulse) (ps : List Pulse) → IsRun heard place (q ∷ ps) → new ≡ place_after (p ∷ (q ∷ ps)) → Places (is_on_time (p.rise - q.rise)) place new → IsRun (heard_at new heard p.width) new (p ∷ (q ∷ ps))
by_place heard place new p q ps r is c = elim c [
  | inl e ↦ out_of_step heard place new p (q ∷ ps) r is e
  | inr more ↦ elim more [
    | inl e ↦ begun heard new p (q ∷ ps) e
    | inr on ↦ counted heard place new p q ps r (on.0) (on.1) (on.2) (on.3)
  ]
]

run_more : (heard : List Symbol) (s : Sync) (pulses : List Pulse) (now time width : ℕ) → IsSyncAt s pulses now → IsRun heard s.place pulses → IsAfter pulses time → IsSoon now time
    → IsRun (heard_at (place_of s (time % 2 ^ 32) width) heard width) (place_of s (time % 2 ^ 32) width) (pulse_at time width ∷ pulses)
run_more heard s [] now time width (inl live) r after soon = absurd (live.1)
run_more heard s (q ∷ ps) now time width (inl live) r after soon =
    let same : place_of s (time % 2 ^ 32) width ≡ place_at (is_on_time (time - q.rise)) (is_marker width) (is_marker q.width) s.place =
    place_at_time s (q ∷ ps) now time width (inl live) after soon ∙ ap (place_at (is_on_time (time - q.rise)) (is_marker width) (is_marker q.width)) (sym (live.0).place) in
    by_place heard s.place (place_of s (time % 2 ^ 32) width) (pulse_at time width) q ps r (place_at_time s (q ∷ ps) now time width (inl live) after soon)
    (subst (Places (is_on_time (time - q.rise)) s.place) (sym same) (places (is_on_time (time - q.rise)) (is_marker width) (is_marker q.width) s.place))
run_more heard s pulses now time width (inr out) r after soon =
    by_out heard s.place (place_of s (time % 2 ^ 32) width) _ (pulse_at time width) pulses r (place_at_time s pulses now time width (inr out) after soon) ((out.0).0) (places _ (is_marker width) _ s.place)

hears_more : (heard : List Symbol) (s : Sync) (pulses : List Pulse) (now time width : ℕ) → IsHearing heard s pulses now → IsAfter pulses time → IsSoon now time
    → IsHearing (heard_at (place_of s (time % 2 ^ 32) width) heard width) (pulse_of s (time % 2 ^ 32) width) (pulse_at time width ∷ pulses) time
hears_more heard s pulses now time width h after soon = record {
  sync = pulse_at_time s pulses now time width h.sync after soon;
  run = run_more heard s pulses now time width h.sync h.run after soon;
}

-- the same, as a call says it
pub hears : (heard : List Symbol) (s t : Sync) (pulses : List Pulse) (now time rise width place : ℕ) → place ≡ place_of s rise width → t ≡ pulse_of s rise width
    → IsHearing heard s pulses now → rise ≡ time % 2 ^ 32 → IsAfter pulses time → IsSoon now time → IsHearing (heard_at place heard width) t (pulse_at time width ∷ pulses) time
hears heard s t pulses now time rise width place at left h e after soon =
    let there : place ≡ place_of s (time % 2 ^ 32) width = at ∙ ap (λ (r : ℕ). place_of s r width) e in
    let after_it : t ≡ pulse_of s (time % 2 ^ 32) width =
    left ∙ ap (λ (r : ℕ). pulse_of s r width) e in
    subst (λ (n : ℕ). IsHearing (heard_at n heard width) t (pulse_at time width ∷ pulses) time) (sym there)
    (subst (λ (u : Sync). IsHearing (heard_at (place_of s (time % 2 ^ 32) width) heard width) u (pulse_at time width ∷ pulses) time) (sym after_it) (hears_more heard s pulses now time width h after soon))

-- ---- nothing heard, and an idle line

none_run : (place : ℕ) (pulses : List Pulse) → IsRun [] place pulses
none_run place pulses = record { late = 0; count = 0; symbols = refl; all = refl; on_time = tt; out = λ i h. absurd (omega (arith, h)); step = inr (refl, omega arith) }

pub first_hears : (s : Sync) (now : ℕ) → IsSyncOf s [] → IsHearing [] s [] now
first_hears s now h = record { sync = first_at_time s now h; run = none_run s.place [] }

pub emptied_hears : (heard : List Symbol) (s : Sync) (pulses : List Pulse) (now : ℕ) → IsHearing heard s pulses now → IsHearing [] s pulses now
emptied_hears heard s pulses now h = record { sync = h.sync; run = none_run s.place pulses }

pub idle_run : (heard : List Symbol) (s : Sync) (pulses : List Pulse) (idle : Bool) → IsRun heard s.place pulses → IsRun heard (cond idle (record s { place = 0; was_marker = 1 }) s).place pulses
idle_run heard s pulses false run = run
idle_run heard s pulses true run = record { late = run.late; count = run.count; symbols = run.symbols; all = run.all; on_time = run.on_time; out = run.out; step = inl refl }

pub idle_hears : (heard : List Symbol) (s : Sync) (pulses : List Pulse) (now time : ℕ) → IsHearing heard s pulses now → now ≤ time → IsSoon now time → IsHearing heard (idle_of s (time % 2 ^ 32)) pulses time
idle_hears heard s pulses now time h on soon = record {
  sync = idle_at_time s pulses now time h.sync on soon;
  run = idle_run heard s pulses (is_idle (clock_gap s.rise_us (time % 2 ^ 32))) h.run;
}

pub claim_of_run : (rules : Rules) (claim : Claim) (heard : List Symbol) (s : Sync) (pulses : List Pulse) (now : ℕ) → IsHearing heard s pulses now → told_of rules heard ≡ tells.Claim claim → IsOfRun rules claim heard s.place pulses
claim_of_run rules claim heard s pulses now h e =
    let carries = (carries_is_told rules heard claim).0 e in
    let all : length heard ≡ h.run.count = h.run.all in
    let whole : h.run.count ≡ 100 = sym all ∙ carries.reads.len in
    record {
      late = h.run.late;
      symbols = h.run.symbols ∙ ap (λ (n : ℕ). symbols_of_last n (drop h.run.late pulses)) whole;
      on_time = subst (λ (n : ℕ). AreOnTime n (drop h.run.late pulses)) whole (h.run.on_time);
      carries = carries;
      out = h.run.out;
      step = elim (h.run.step) [ inl out ↦ inl out | inr inside ↦ inr (inside.0) ];
    }

-- ---- a port that is not emptied in between

last-most : (n : ℕ) (ps : List Pulse) → length (symbols_of_last n ps) ≤ n
last-most zero ps = omega arith
last-most (suc n) [] = omega arith
last-most (suc n) (p ∷ ps) = let more = length-append (symbols_of_last n ps) (symbol_of p.width ∷ []) in omega (arith, more, last-most n ps)

-- by what the place is
place_held : (n new place : ℕ) (on : Bool) (p : Pulse) (ps : List Pulse) → Places on place new → 1 ≤ new → new ≤ suc n → (1 ≤ place → place ≤ n → heard_of_last n ps ≡ symbols_of_last place ps)
    → heard_at new (heard_of_last n ps) p.width ≡ symbols_of_last new (p ∷ ps)
place_held n new place on p ps c some few before = elim c [
  | inl e ↦ absurd (omega (arith, e, some))
  | inr more ↦ elim more [
    | inl e ↦ subst (λ (k : ℕ). heard_at k (heard_of_last n ps) p.width ≡ symbols_of_last k (p ∷ ps)) (sym e) refl
    | inr next ↦
        let e : new ≡ suc place = next.1 in
        let low : 1 ≤ place = next.2 in
        let high : place < 100 = next.3 in
        let held : heard_of_last n ps ≡ symbols_of_last place ps = before low (omega (arith, e, few)) in
        let same : length (heard_of_last n ps) ≡ length (symbols_of_last place ps) = ap length held in
        let room : length (heard_of_last n ps) < 101 = let most = last-most place ps in omega (arith, same, most, high) in
        later new (heard_of_last n ps) p.width (omega (arith, e, low)) room ∙ ap (λ (s : List Symbol). s ++ symbol_of p.width ∷ []) held ∙ ap (λ (k : ℕ). symbols_of_last k (p ∷ ps)) (sym e)
  ]
]

pub holds_place : (n : ℕ) (pulses : List Pulse) → 1 ≤ place_after pulses → place_after pulses ≤ n → heard_of_last n pulses ≡ symbols_of_last (place_after pulses) pulses
holds_place zero pulses some few = absurd (omega (arith, some, few))
holds_place (suc n) [] some few = absurd (omega (arith, some))
holds_place (suc n) (p ∷ []) some few = of (is_marker p.width) some
  where
    of : (b : Bool) → 1 ≤ flag b → heard_at (flag b) (heard_of_last n []) p.width ≡ symbols_of_last (flag b) (p ∷ [])
    of true some = refl
    of false some = absurd (omega (arith, some))
holds_place (suc n) (p ∷ (q ∷ ps)) some few =
    place_held n (place_after (p ∷ (q ∷ ps))) (place_after (q ∷ ps)) (is_on_time (p.rise - q.rise)) p (q ∷ ps)
    (places (is_on_time (p.rise - q.rise)) (is_marker p.width) (is_marker q.width) (place_after (q ∷ ps))) some few (holds_place n (q ∷ ps))
