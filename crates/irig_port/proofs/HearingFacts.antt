-- What a port holds that hears a line, worked by hand, so that a wrong definition does not check.
use Rattle.std.proofs.Common.{◌≡◌, ℕ, zero, suc, ◌+◌, ◌*◌, ◌%◌, ◌<◌, List, [], ◌∷◌, map, drop, length, take, slice_set, get_or, refl, sym, ap, ◌∙◌, arith, inl, inr}
use Rattle.std.specs.List.{range_with_len}
use Rattle.std.proofs.lemmas.Bool.{cases_eq}
use Rattle.std.proofs.lemmas.List.{length-set}
use Rattle.std.proofs.lemmas.List.FromFn.{length-map-range_with_len}
use Rattle.irig_frame.specs.declared.symbol.Symbol.{Symbol}
use Rattle.irig_frame.specs.declared.symbol.Symbol.TheVariants.{Zero, One, Marker, Bad}
use Rattle.irig_frame.specs.Symbols.{width_of}
use Rattle.irig_sync.specs.declared.sync.Sync.{Sync}
use Rattle.irig_sync.specs.Lines.{Pulse, pulse_at, place_after, symbols_of_last}
use Rattle.irig_time.specs.declared.claim.Claim.{Claim}
use Rattle.irig_port.specs.declared.told.PortFault.TheVariants as fault
use Rattle.irig_port.specs.declared.told.Told.{Told}
use Rattle.irig_port.specs.declared.told.Told.TheVariants as tells
use Rattle.irig_port.specs.Told.{told_of}
use Rattle.irig_port.specs.Hearing.{heard_at, heard_of_last, IsRun, IsHearing, IsOfRun}
use Rattle.irig_port.specs.OwnClaims.{frame_at, TellsClaims, IsFaultOrOwn}
use Rattle.irig_sync.proofs.LineLaws.{counted}
use Rattle.irig_port.proofs.CarriesLaws.{carries_is_told}
use Rattle.irig_port.proofs.StandardFacts.{plain, rules, on_day_2, known_claim}

-- out of step nothing is heard, a frame's first pulse is heard alone, any other behind what was heard
pub known_heard : (map (λ place. heard_at place (One ∷ []) 2000) (0 ∷ 1 ∷ 2 ∷ 100 ∷ []) ≡ (One ∷ []) ∷ (Zero ∷ []) ∷ (One ∷ Zero ∷ []) ∷ (One ∷ Zero ∷ []) ∷ [])
known_heard = refl

-- the frame of 2000-01-03T00:00:00Z once a second
abbrev line : ℕ → Symbol
line k = get_or plain (k % 100) Bad

-- its first k pulses, the newest first
abbrev pulses : ℕ → List Pulse
pulses zero = []
pulses (suc k) = pulse_at (10000 * k) (width_of (line k)) ∷ pulses k

-- the first pulse is a marker behind a pause, and begins the frame. So of 100 pulses the port holds
-- all, of 101 the last, and of 150 the last 50
pub known_held : (heard_of_last 100 (pulses 100) ≡ plain) × (heard_of_last 101 (pulses 101) ≡ Marker ∷ []) × (heard_of_last 150 (pulses 150) ≡ take 50 plain)
known_held = (refl, refl, refl)

-- a port that was emptied within the frame holds what came since
pub known_emptied : heard_of_last 2 (pulses 100) ≡ Zero ∷ Marker ∷ []
known_emptied = refl

-- a glitch 5 ms behind the frame has no place, and the port still holds the frame: what it holds is
-- not always of the last pulses that came
pub known_late : (place_after (pulse_at 995000 20 ∷ pulses 100) ≡ 0) × (heard_of_last 101 (pulse_at 995000 20 ∷ pulses 100) ≡ plain)
known_late = (refl, refl)

-- a bit, and 30 ms later the first two pulses of a frame: the run is of the last two
abbrev begun : List Pulse
begun = pulse_at 40000 2000 ∷ (pulse_at 30000 8000 ∷ (pulse_at 0 5000 ∷ []))

pub known_run : IsRun (Marker ∷ Zero ∷ []) 2 begun
known_run = record { late = 0; count = 2; symbols = refl; all = refl; on_time = (refl, tt); out = λ i h. absurd (omega (arith, h)); step = inr (refl, omega arith) }

-- out of step a pulse came behind them
pub known_late_run : IsRun (Marker ∷ Zero ∷ []) 0 (pulse_at 45000 20 ∷ begun)
known_late_run = record { late = 1; count = 2; symbols = refl; all = refl; on_time = (refl, tt); out = out; step = inl refl }
  where
    out : (i : ℕ) → i < 1 → place_after (drop i (pulse_at 45000 20 ∷ begun)) ≡ 0
    out zero h = refl
    out (suc i) h = absurd (omega (arith, h))

-- in step the port holds no other symbols, and no more than the place says
pub known_no_run : ¬ IsRun (One ∷ []) 1 (pulse_at 0 8000 ∷ []) × ¬ IsRun (Marker ∷ Zero ∷ []) 1 begun
known_no_run = (
  λ r. elim (r.step) [
    | inl out ↦ absurd (omega (arith, out))
    | inr inside ↦
        let same : symbols_of_last r.count (drop r.late (pulse_at 0 8000 ∷ [])) ≡ Marker ∷ [] =
        ap (λ (n : ℕ). symbols_of_last n (drop r.late (pulse_at 0 8000 ∷ []))) (sym (r.all)) ∙ ap (λ (n : ℕ). symbols_of_last 1 (drop n (pulse_at 0 8000 ∷ []))) (inside.0) in
        let other : get_or (One ∷ []) 0 Bad ≡ get_or (Marker ∷ []) 0 Bad = ap (λ (s : List Symbol). get_or s 0 Bad) (r.symbols ∙ same) in
        absurd cc
  ],
  λ r. elim (r.step) [ inl out ↦ absurd (omega (arith, out)) | inr inside ↦ absurd (let two = r.all in omega (arith, two, inside.1)) ],
)

-- a pulse that was in step did not come late
pub known_not_late : ¬ IsRun (Marker ∷ []) 0 begun
known_not_late r = elim (cases_eq (r.late) 0) [
  | inl none ↦
      let same : symbols_of_last r.count (drop r.late begun) ≡ Zero ∷ [] = ap (λ (n : ℕ). symbols_of_last n (drop r.late begun)) (sym (r.all)) ∙ ap (λ (n : ℕ). symbols_of_last 1 (drop n begun)) none in
      let other : Marker ≡ Zero = ap (λ (s : List Symbol). get_or s 0 Bad) (r.symbols ∙ same) in
      absurd cc
  | inr some ↦ absurd (let place : 2 ≡ 0 = r.out 0 (omega (arith, some)) in omega (arith, place))
]

-- so it is heard, until a second after the last pulse
abbrev numbers : Sync
numbers = record { rise_us = 40000; place = 2; was_marker = 0 }

pub known_hearing : IsHearing (Marker ∷ Zero ∷ []) numbers begun 1039999 × ¬ IsHearing (Marker ∷ Zero ∷ []) numbers begun 1040000
known_hearing = (
  record { sync = inl (record { place = refl; last = (refl, refl) }, (omega arith, omega arith)); run = known_run },
  λ h. elim (h.sync) [ inl live ↦ absurd (omega (arith, live.1.1)) | inr out ↦ absurd (omega (arith, out.0.0)) ],
)

-- ---- claims

-- each frame of the line is the plain one
same_row : (a b n : ℕ) → a % 100 ≡ b % 100 → map line (range_with_len a n) ≡ map line (range_with_len b n)
same_row a b zero e = refl
same_row a b (suc n) e =
    ap (λ (i : ℕ). get_or plain i Bad ∷ map line (range_with_len (a + 1) n)) e ∙ ap (λ (s : List Symbol). line b ∷ s) (same_row (a + 1) (b + 1) n (omega (arith, e)))

abbrev sod_told : Told → ℕ
sod_told (tells.Claim c) = c.at.sod
sod_told (tells.Fault f) = 0
sod_told tells.Silence = 0
sod_told (tells.Poor q) = 0

-- it tells the plain frame's claim, and not one of a second later
pub known_claims : TellsClaims rules line (λ _. on_day_2 0) × ¬ TellsClaims rules line (λ _. on_day_2 1)
known_claims = (
  λ f. ap (told_of rules) (same_row (100 * f) 0 100 (omega arith)) ∙ known_claim,
  λ h. absurd (let same : 1 ≡ 0 = ap sod_told (sym (h 0) ∙ known_claim) in omega (arith, same)),
)

-- of the plain frame with another bit its claim is its own; a claim of another second, and a poor
-- frame, are not
pub known_own : IsFaultOrOwn line (λ _. on_day_2 0) (slice_set plain 98 One) (tells.Claim (on_day_2 0)) × IsFaultOrOwn line (λ _. on_day_2 0) plain (tells.Fault fault.Parity)
    × ¬ IsFaultOrOwn line (λ _. on_day_2 0) plain (tells.Claim (on_day_2 1)) × ¬ IsFaultOrOwn line (λ _. on_day_2 0) plain (tells.Poor 10)
known_own = ((0, 98, One, refl, refl), tt, λ h. absurd (let same : 1 ≡ 0 = ap (λ (c : Claim). c.at.sod) (h.4) in omega (arith, same)), λ never. never)

-- and of 99 symbols no claim is
pub known_not_own : ¬ IsFaultOrOwn line (λ _. on_day_2 0) (take 99 plain) (tells.Claim (on_day_2 0))
known_not_own h = absurd (let same : 99 ≡ length (slice_set (frame_at line (h.0)) (h.1) (h.2)) = ap length (h.3) in let long = length-set (frame_at line (h.0)) (h.1) (h.2) in let hundred = length-map-range_with_len line (100 * h.0) 100 in omega (arith, same, long, hundred))

-- a hundred pulses in a row carry the plain frame's claim, also if a glitch came behind them, out of
-- step; if it came in step they are not the last
pub known_of_run : IsOfRun rules (on_day_2 0) plain 0 (pulse_at 995000 20 ∷ pulses 100) × ¬ IsOfRun rules (on_day_2 0) plain 100 (pulse_at 995000 20 ∷ pulses 100)
known_of_run = (
  record { late = 1; symbols = refl; on_time = counted (pulses 100); carries = (carries_is_told rules plain (on_day_2 0)).0 known_claim; out = out; step = inl refl },
  λ r. elim (r.step) [
    | inl out ↦ absurd (omega (arith, out))
    | inr none ↦
        let last : plain ≡ symbols_of_last 100 (pulse_at 995000 20 ∷ pulses 100) = r.symbols ∙ ap (λ (n : ℕ). symbols_of_last 100 (drop n (pulse_at 995000 20 ∷ pulses 100))) none in
        let other : get_or plain 99 Marker ≡ Bad = ap (λ (s : List Symbol). get_or s 99 Marker) last in
        absurd cc
  ],
)
  where
    out : (i : ℕ) → i < 1 → place_after (drop i (pulse_at 995000 20 ∷ pulses 100)) ≡ 0
    out zero h = refl
    out (suc i) h = absurd (omega (arith, h))
