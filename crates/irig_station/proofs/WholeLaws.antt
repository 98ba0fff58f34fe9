-- A true frame that a cable brings comes whole: its pulses are a hundred of the line's, each at its element's
-- time by a counter that is about right, and tell what the frame claims.
use Rattle.std.proofs.Common.{◌≡◌, ◌∙◌, ℕ, zero, suc, ◌+◌, ◌-◌, ◌*◌, ◌%◌, ◌<◌, ◌≤◌, true, false, List, [], ◌∷◌, ◌++◌, drop, length, Option, Some, None, refl, sym, ap, arith, inl, inr, subst}
use Rattle.irig_frame.specs.declared.symbol.Symbol.{Symbol}
use Rattle.irig_frame.specs.declared.symbol.Symbol.TheVariants.{Bad, Marker, One, Zero}
use Rattle.irig_frame.specs.Decoder.{IsRight}
use Rattle.irig_frame.specs.Symbols.{symbol_of, width_of}
use Rattle.irig_sync.specs.FaultyLines.{ArePulsesBefore, IsPulseOf}
use Rattle.irig_sync.specs.Lines.{IsTrueLine, Pulse, pulse_at, symbols_of_last}
use Rattle.irig_sync.specs.Sync.{is_marker_symbol}
use Rattle.irig_time.specs.declared.claim.Claim.{Claim}
use Rattle.irig_time.specs.declared.rules.Rules.{Rules}
use Rattle.irig_time.specs.Timelines.{IsTrueClaim, TimelineValue}
use Rattle.irig_port.specs.Limits.{told_within}
use Rattle.irig_port.specs.declared.told.Told.TheVariants as tells
use Rattle.irig_lines.specs.declared.setup.ClockRules.{ClockRules}
use Rattle.irig_timekeeper.specs.Announcing.{IsWhole, LeavesTheFirst}
use Rattle.irig_timekeeper.specs.Unfinished.{pulses_by}
use Rattle.irig_wires.proofs.OscillatorLaws.{at_edges, monotone, over_a_time}
use Rattle.irig_witness.specs.Elements.{KeepsRate, begins_at}
use Rattle.irig_witness.proofs.LateLaws.{late_by}
use Rattle.irig_witness.proofs.OscillatorLaws.{element_is}
use Rattle.irig_simulated.specs.Kinds.{Kind, count, edges_by_kind}
use Rattle.irig_simulated.specs.Courses.{width_by}
use Rattle.irig_simulated.specs.QuietLines.{IsAboutRight, latest_us}
use Rattle.irig_simulated.proofs.QuietPulses.{symbol_wide}

never_bad : (i : ℕ) (x : Symbol) → IsRight i (Some x) → ¬ (x ≡ Bad)
never_bad i Zero right e = cc
never_bad i One right e = cc
never_bad i Marker right e = cc
never_bad i Bad right e = right

never_bad_marker : (x : Symbol) → is_marker_symbol x ≡ true → ¬ (x ≡ Bad)
never_bad_marker Zero marks e = cc
never_bad_marker One marks e = cc
never_bad_marker Marker marks e = cc
never_bad_marker Bad marks e = absurd (let none : false ≡ true = marks in cc)

-- ---- what a cable brings

-- when the pulse of an element rises by the counter, over a cable that is so late
abbrev pub rise_over : Kind → (late : ℕ) → (element : ℕ) → ℕ
rise_over k late e = count k (begins_at e + late)

-- how wide it then is
abbrev pub width_over : Kind → (late : ℕ) → (element : ℕ) → Symbol → ℕ
width_over k late e x = width_by k (begins_at e + late) (begins_at e + late + width_of x)

-- the pulse of an element, if it was sent, and those before it
abbrev pub with_sent : Kind → (late : ℕ) → (element : ℕ) → Option Symbol → List Pulse → List Pulse
with_sent k late e None ps = ps
with_sent k late e (Some x) ps = pulse_at (rise_over k late e) (width_over k late e x) ∷ ps

-- the pulses of the first n elements, the newest first
abbrev pub brought : Kind → (late : ℕ) → (sent : (element : ℕ) → Option Symbol) → (n : ℕ) → List Pulse
brought k late sent zero = []
brought k late sent (suc n) = with_sent k late n (sent n) (brought k late sent n)

-- symbols of a line, so many from one on
abbrev pub symbols_from : (line : ℕ → Symbol) → (first n : ℕ) → List Symbol
symbols_from line m zero = []
symbols_from line m (suc n) = symbols_from line m n ++ line (m + n) ∷ []

so_many : (rise width : ℕ → ℕ) (n : ℕ) → length (pulses_by rise width n) ≡ n
so_many rise width zero = refl
so_many rise width (suc n) = (let rest = so_many rise width n in omega (arith, rest))

-- without its newest pulses it is what was brought before
earlier_ones : (k : Kind) (late : ℕ) (sent : ℕ → Option Symbol) (m n : ℕ) → (more : ℕ) × (drop more (brought k late sent (m + n)) ≡ brought k late sent m)
earlier_ones k late sent m zero = (let none : m + 0 ≡ m = omega arith in (0, ap (brought k late sent) none))
earlier_ones k late sent m (suc n) =
    let next : suc (m + n) ≡ m + suc n = omega arith in
    let rest = earlier_ones k late sent m n in
    subst (λ (j : ℕ). (more : ℕ) × (drop more (brought k late sent j) ≡ brought k late sent m)) next (go (sent (m + n)) rest.0 rest.1)
  where
    go : (o : Option Symbol) (more : ℕ) → drop more (brought k late sent (m + n)) ≡ brought k late sent m → (more : ℕ) × (drop more (with_sent k late (m + n) o (brought k late sent (m + n))) ≡ brought k late sent m)
    go None more is = (more, is)
    go (Some x) more is = (suc more, is)

module _ (k : Kind) (is : IsAboutRight k.rate) (late : ℕ) (few : late ≤ latest_us) where
  keeps_rate : KeepsRate 100 k.rate
  keeps_rate = record { least = omega (arith, is.least); most = omega (arith, is.most); few = omega arith }

  shows : (e : ℕ) (x : Symbol) → ¬ (x ≡ Bad) → symbol_of (width_over k late e x) ≡ x
  shows e x good = symbol_wide k is (begins_at e + late) x good

  -- ---- what came before a frame leaves its first pulse

  module _ (sent : ℕ → Option Symbol) (within : ℕ) (wide : within ≤ 8000) where
    -- what was sent two elements before or earlier rose long before
    rose_before : (f e : ℕ) → e + 2 ≤ 100 * f → rise_over k late e + 11000 + within ≤ edges_by_kind k f
    rose_before f e earlier =
        let t = begins_at e + late in
        let over = (over_a_time k.first k.rate t 19500).0 in
        let later = monotone k.first k.rate (t + 19500) (f * 1000000) (omega (arith, earlier, few)) in
        let edge = at_edges k.first k.rate f in
        omega (arith, over, later, edge, is.least, wide)

    far : (f n : ℕ) → n + 1 ≤ 100 * f → LeavesTheFirst within (edges_by_kind k f) (brought k late sent n)
    far f zero before = tt
    far f (suc n) before = go (sent n) (far f n (omega (arith, before)))
      where
        go : (o : Option Symbol) → LeavesTheFirst within (edges_by_kind k f) (brought k late sent n) → LeavesTheFirst within (edges_by_kind k f) (with_sent k late n o (brought k late sent n))
        go None rest = rest
        go (Some x) rest = inr (rose_before f n (omega (arith, before)))

    -- and the last element before is a marker, if it was sent
    leaves : (f : ℕ) → ((x : Symbol) → 0 < f → sent (100 * f - 1) ≡ Some x → is_marker_symbol x ≡ true) → LeavesTheFirst within (edges_by_kind k f) (brought k late sent (100 * f))
    leaves zero marks = tt
    leaves (suc g) marks =
        let last : suc (100 * g + 99) ≡ 100 * suc g = omega arith in
        let place : 100 * suc g - 1 ≡ 100 * g + 99 = omega arith in
        subst (λ (n : ℕ). LeavesTheFirst within (edges_by_kind k (suc g)) (brought k late sent n)) last (go (sent (100 * g + 99)) (λ x e. marks x (omega arith) (ap sent place ∙ e)))
      where
        go : (o : Option Symbol) → ((x : Symbol) → o ≡ Some x → is_marker_symbol x ≡ true) → LeavesTheFirst within (edges_by_kind k (suc g)) (with_sent k late (100 * g + 99) o (brought k late sent (100 * g + 99)))
        go None mark = far (suc g) (100 * g + 99) (omega arith)
        go (Some x) mark = inl (let marker = mark x refl in ap is_marker_symbol (shows (100 * g + 99) x (never_bad_marker x marker)) ∙ marker)

  -- ---- a frame of a true line

  module _ (sent : ℕ → Option Symbol) (line : ℕ → Symbol) (right : IsTrueLine line) where
    of_element : (within : ℕ) → 450 ≤ within → (e : ℕ) → IsPulseOf line (edges_by_kind k) within e (pulse_at (rise_over k late e) (width_over k late e (line e)))
    of_element within wide e =
        let by = late_by 100 k.first k.rate keeps_rate e late (omega (arith, few)) in
        let at = element_is k.first k.rate e in
        ((omega (arith, by.0, at, wide), omega (arith, by.1, at, wide, few)), shows e (line e) (never_bad (e % 100) (line e) (right e)))

    -- the pulses of so many elements from one on
    abbrev frame : (m n : ℕ) → List Pulse
    frame m n = pulses_by (λ j. rise_over k late (m + j)) (λ j. width_over k late (m + j) (line (m + j))) n

    are_before : (within : ℕ) → 450 ≤ within → (m n : ℕ) → ArePulsesBefore line (edges_by_kind k) within (m + n) (frame m n)
    are_before within wide m zero = tt
    are_before within wide m (suc n) =
        let next : suc (m + n) ≡ m + suc n = omega arith in
        subst (λ (j : ℕ). ArePulsesBefore line (edges_by_kind k) within j (frame m (suc n))) next (of_element within wide (m + n), are_before within wide m n)

    symbols_are : (m n : ℕ) (earlier : List Pulse) → symbols_of_last n (frame m n ++ earlier) ≡ symbols_from line m n
    symbols_are m zero earlier = refl
    symbols_are m (suc n) earlier =
        ap (λ (s : List Symbol). s ++ symbol_of (width_over k late (m + n) (line (m + n))) ∷ []) (symbols_are m n earlier)
        ∙ ap (λ (x : Symbol). symbols_from line m n ++ x ∷ []) (shows (m + n) (line (m + n)) (never_bad ((m + n) % 100) (line (m + n)) (right (m + n))))

    parts : (m n : ℕ) → ((j : ℕ) → j < n → sent (m + j) ≡ Some (line (m + j))) → brought k late sent (m + n) ≡ frame m n ++ brought k late sent m
    parts m zero sends = (let none : m + 0 ≡ m = omega arith in ap (brought k late sent) none)
    parts m (suc n) sends =
        let next : m + suc n ≡ suc (m + n) = omega arith in
        ap (brought k late sent) next
        ∙ ap (λ (o : Option Symbol). with_sent k late (m + n) o (brought k late sent (m + n))) (sends n (omega arith))
        ∙ ap (λ (ps : List Pulse). pulse_at (rise_over k late (m + n)) (width_over k late (m + n) (line (m + n))) ∷ ps) (parts m n (λ j less. sends j (omega (arith, less))))

    -- the frame of a second in which what the line has is sent comes whole, if what it tells is true
    module _ (c : ClockRules) (rules : Rules) (t : TimelineValue) (f : ℕ) (claim : Claim) (least : 450 ≤ c.within.us) (most : c.within.us ≤ 8000) (sends : (j : ℕ) → j < 100 → sent (100 * f + j) ≡ Some (line (100 * f + j)))
        (marks : (x : Symbol) → 0 < f → sent (100 * f - 1) ≡ Some x → is_marker_symbol x ≡ true) (told : told_within (Some c.limits.limits) rules (symbols_from line (100 * f) 100) ≡ tells.Claim claim) (truth : IsTrueClaim t (f + 1) claim) where
      whole_frame : IsWhole c rules t (edges_by_kind k) (f + 1) (brought k late sent (100 * f + 100))
      whole_frame =
          let is_parts = parts (100 * f) 100 sends in
          record {
            line = line;
            right = right;
            f = f;
            here = refl;
            frame = frame (100 * f) 100;
            earlier = brought k late sent (100 * f);
            parts = is_parts;
            hundred = so_many (λ j. rise_over k late (100 * f + j)) (λ j. width_over k late (100 * f + j) (line (100 * f + j))) 100;
            are = are_before c.within.us least (100 * f) 100;
            first = leaves sent c.within.us most f marks;
            claim = claim;
            tells = ap (λ (ps : List Pulse). told_within (Some c.limits.limits) rules (symbols_of_last 100 ps)) is_parts
                ∙ ap (told_within (Some c.limits.limits) rules) (symbols_are (100 * f) 100 (brought k late sent (100 * f))) ∙ told;
            truth = truth;
          }

      -- whatever came since
      pub comes_whole : (n : ℕ) (pulses : List Pulse) → pulses ≡ brought k late sent n → 100 * f + 100 ≤ n → (more : ℕ) × IsWhole c rules t (edges_by_kind k) (f + 1) (drop more pulses)
      comes_whole n pulses are long =
          let since = n - (100 * f + 100) in
          let all : n ≡ 100 * f + 100 + since = omega (arith, long) in
          let before = earlier_ones k late sent (100 * f + 100) since in
          let same : drop before.0 pulses ≡ brought k late sent (100 * f + 100) = ap (drop before.0) (are ∙ ap (brought k late sent) all) ∙ before.1 in
          (before.0, subst (IsWhole c rules t (edges_by_kind k) (f + 1)) (sym same) whole_frame)
