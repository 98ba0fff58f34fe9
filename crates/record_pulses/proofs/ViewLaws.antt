-- A pulse more of a view.
use Rattle.std.proofs.Common.{rules, ◌≡◌, ◌∙◌, ℕ, suc, ◌+◌, ◌-◌, ◌%◌, ◌^◌, ◌<◌, ◌≤◌, ◌⊎◌, Bool, true, false, nat_lt, nat_eq, ◌&&◌, List, [], ◌∷◌, ◌++◌, length, take, Option, Some, refl, sym, subst, ap, arith, inl, inr}
use Rattle.std.specs.Prelude.{slice_set, if◌then◌else◌}
use Rattle.std.proofs.lemmas.Bool.{cases_Bool}
use Rattle.std.proofs.lemmas.List.{length-set, take_more_set}
use Rattle.std.proofs.Math.Seq.{take-length}
use Rattle.irig_sync.specs.declared.sync.Sync.{Sync}
use Rattle.irig_sync.specs.Sync.{is_marker, is_on_time, flag, no_sync, place_at, place_behind, place_of, pulse_of}
use Rattle.irig_sync.specs.Lines.{AreOnTime, IsSyncOf}
use Rattle.irig_sync.proofs.LineLaws.{counted as counted_on_time, one_more}
use Rattle.record_pulses.specs.declared.edge.Pulse.{Pulse}
use Rattle.record_pulses.specs.declared.frames.Frames.{Frames}
use Rattle.record_pulses.specs.declared.seen.Counts.{Counts}
use Rattle.record_pulses.specs.declared.seen.Seen.{Seen}
use Rattle.record_pulses.specs.declared.track.Step.{Step}
use Rattle.record_pulses.specs.declared.track.Track.{Track}
use Rattle.record_pulses.specs.Spreads.{IsSpreadOf, counted, with_time}
use Rattle.record_pulses.specs.Views.{AreCountsOf, AreFramesOf, AreWidthsOf, IsAfter, IsSeenOf, IsTrackOf, begun_by, ends_bare, is_bare, gap_from, gap_in_step, gap_of, gaps_in_step, gaps_of, heard, is_next, is_on, last_of, more_if, place_now, second_by, second_of, seconds_of, step_of, sync_after, with_count}

-- ---- its place

late_place : (marker was : Bool) (place : ℕ) → place_at false marker was place ≡ flag marker
late_place true true place = refl
late_place true false place = refl
late_place false true place = refl
late_place false false place = refl

far_gap : (g : ℕ) → 1000000 ≤ g → is_on_time g ≡ false
far_gap g h = grind (arith, h)

-- on a line after a long gap it is as on a new one
as_new : (p q : Pulse) (before : List Pulse) → 1000000 ≤ p.rise_us - q.rise_us → IsSyncOf (pulse_of no_sync (p.rise_us % 2 ^ 32) p.width_us) (heard (p ∷ (q ∷ before)))
as_new p q before long =
    let alone : IsSyncOf (pulse_of no_sync (p.rise_us % 2 ^ 32) p.width_us) (heard (p ∷ [])) = one_more no_sync [] p.rise_us p.width_us (record { place = refl; last = refl }) tt in
    let same : flag (is_marker p.width_us) ≡ place_now (p ∷ (q ∷ before)) =
    rw (far_gap (p.rise_us - q.rise_us) long) (sym (late_place (is_marker p.width_us) (is_marker q.width_us) (place_now (q ∷ before)))) in
    record { place = alone.place ∙ same; last = alone.last }

pub next_sync : (s : Sync) (p : Pulse) (pulses : List Pulse) → IsSyncOf s (heard pulses) → IsAfter p pulses
    → IsSyncOf (pulse_of (sync_after (gap_of p pulses) s) (p.rise_us % 2 ^ 32) p.width_us) (heard (p ∷ pulses))
next_sync s p [] h after = one_more s [] p.rise_us p.width_us h tt
next_sync s p (q ∷ before) h after = elim (cases_Bool (nat_lt (p.rise_us - q.rise_us) 1000000)) [
  | inl soon ↦
      let near : p.rise_us - q.rise_us < 1000000 = search rules in
      rw soon (one_more s (heard (q ∷ before)) p.rise_us p.width_us h (after, omega (arith, after, near)))
  | inr long ↦
      let far : 1000000 ≤ p.rise_us - q.rise_us = search rules in
      rw long (as_new p q before far)
]

-- ---- where the line stands

pub gap_is : (t : Track) (p : Pulse) (pulses : List Pulse) (gap : Option ℕ) → IsTrackOf t pulses → gap ≡ gap_from p.rise_us t.last_us → gap ≡ gap_of p pulses
gap_is t p pulses gap h e = e ∙ ap (gap_from p.rise_us) h.last

pub place_is : (t : Track) (p : Pulse) (pulses : List Pulse) (gap : Option ℕ) (place : ℕ) → IsTrackOf t pulses → IsAfter p pulses → gap ≡ gap_of p pulses
    → place ≡ place_of (sync_after gap t.sync) (p.rise_us % 2 ^ 32) p.width_us → place ≡ place_now (p ∷ pulses)
place_is t p pulses gap place h after g e =
    let next = next_sync t.sync p pulses h.of_sync after in
    e ∙ ap (λ (x : Option ℕ). place_of (sync_after x t.sync) (p.rise_us % 2 ^ 32) p.width_us) g ∙ next.place

pub same_step : (t : Track) (p : Pulse) (pulses : List Pulse) (gap second : Option ℕ) (place : ℕ) → IsTrackOf t pulses → IsAfter p pulses → gap ≡ gap_from p.rise_us t.last_us
    → place ≡ place_of (sync_after gap t.sync) (p.rise_us % 2 ^ 32) p.width_us → second ≡ second_by (is_next t.sync.place place gap) p.rise_us t.begun_us
    → ◌≡◌ {A = Step} (record { place = place; gap_us = gap; second_us = second }) (step_of p pulses)
same_step t p pulses gap second place h after g e s =
    let gap_same = gap_is t p pulses gap h g in
    let place_same = place_is t p pulses gap place h after gap_same e in
    let was = h.of_sync.place in
    let began = h.begun in
    let second_same : second ≡ second_of p pulses = rw (gap_same, place_same, was, began) at s in
    rw (gap_same, place_same, second_same) refl

pub same_track : (t : Track) (p : Pulse) (pulses : List Pulse) (gap : Option ℕ) (s : Sync) (place begun : ℕ) → IsTrackOf t pulses → IsAfter p pulses → gap ≡ gap_from p.rise_us t.last_us
    → place ≡ place_of (sync_after gap t.sync) (p.rise_us % 2 ^ 32) p.width_us → s ≡ pulse_of (sync_after gap t.sync) (p.rise_us % 2 ^ 32) p.width_us
    → begun ≡ begun_by place p.rise_us t.begun_us → IsTrackOf (record { sync = s; last_us = Some p.rise_us; begun_us = begun }) (p ∷ pulses)
same_track t p pulses gap s place begun h after g e new b =
    let gap_same = gap_is t p pulses gap h g in
    let place_same = place_is t p pulses gap place h after gap_same e in
    let began = h.begun in
    record {
      of_sync = rw (new, gap_same) (next_sync t.sync p pulses h.of_sync after);
      last = refl;
      begun = rw (place_same, began) at b;
    }

-- ---- counts

more : (b : Bool) (n : ℕ) → more_if b (counted n) ≡ counted ((if b then 1 else 0) + n)
more true n = omega arith
more false n = ap counted (omega arith)

counts_more : (c : Counts) (p : Pulse) (pulses : List Pulse) → AreCountsOf c pulses → AreCountsOf (with_count (place_now (p ∷ pulses)) (is_on (gap_of p pulses)) (ends_bare p pulses) c) (p ∷ pulses)
counts_more c p pulses h =
    let all : 1 + length pulses ≡ length (p ∷ pulses) = omega arith in
    record {
      pulses_are = ap (more_if true) h.pulses_are ∙ more true (length pulses) ∙ ap counted all;
      frames = ap (more_if (nat_eq (place_now (p ∷ pulses)) 100)) h.frames ∙ more _ _;
      out = ap (more_if (nat_eq (place_now (p ∷ pulses)) 0)) h.out ∙ more _ _;
      on_time = ap (more_if (is_on (gap_of p pulses))) h.on_time ∙ more _ _;
      begun = ap (more_if (nat_eq (place_now (p ∷ pulses)) 1)) h.begun ∙ more _ _;
      bare = ap (more_if (ends_bare p pulses)) h.bare ∙ more _ _;
    }

pub seen_more : (seen new : Seen) (p : Pulse) (pulses : List Pulse) (step : Step) (bare : Bool) → IsSeenOf seen pulses → step ≡ step_of p pulses
    → bare ≡ ends_bare p pulses → new.counts ≡ with_count step.place (is_on step.gap_us) bare seen.counts → AreWidthsOf new.widths (p ∷ pulses)
    → IsSpreadOf new.gaps (with_time step.gap_us (gaps_of pulses))
    → IsSpreadOf new.gaps_in_step (with_time (gap_in_step step.place step.gap_us) (gaps_in_step pulses))
    → IsSpreadOf new.seconds (with_time step.second_us (seconds_of pulses)) → IsSeenOf new (p ∷ pulses)
seen_more seen new p pulses step bare h e same counts widths gaps in_step seconds = record {
  counts =
      let by_step : new.counts ≡ with_count (place_now (p ∷ pulses)) (is_on (gap_of p pulses)) bare seen.counts = subst (λ (x : Step). new.counts ≡ with_count x.place (is_on x.gap_us) bare seen.counts) e counts in
      let is : new.counts ≡ with_count (place_now (p ∷ pulses)) (is_on (gap_of p pulses)) (ends_bare p pulses) seen.counts = subst (λ (x : Bool). new.counts ≡ with_count (place_now (p ∷ pulses)) (is_on (gap_of p pulses)) x seen.counts) same by_step in
      subst (λ (x : Counts). AreCountsOf x (p ∷ pulses)) (sym is) (counts_more seen.counts p pulses h.counts);
  widths = widths;
  gaps = subst (λ (x : Step). IsSpreadOf new.gaps (with_time x.gap_us (gaps_of pulses))) e gaps;
  in_step = subst (λ (x : Step). IsSpreadOf new.gaps_in_step (with_time (gap_in_step x.place x.gap_us) (gaps_in_step pulses))) e in_step;
  seconds = subst (λ (x : Step). IsSpreadOf new.seconds (with_time x.second_us (seconds_of pulses))) e seconds;
}

-- ---- frames

-- the place of a pulse is none, the first, or the one after that of the pulse before it
abbrev Follows : ℕ → ℕ → Type 0
Follows before place = (place ≡ 0) ⊎ ((place ≡ 1) ⊎ ((place ≡ suc before) × (suc before ≤ 100)))

behind : (place : ℕ) → Follows place (place_behind place)
behind place = elim (cases_Bool (nat_lt place 1)) [
  | inl none ↦ rw none (inl refl)
  | inr some ↦ elim (cases_Bool (nat_lt place 100)) [
    | inl within ↦
        let less : place < 100 = search rules in
        let next : place + 1 ≡ suc place = omega arith in
        rw (some, within) (inr (inr (next, omega (arith, less))))
    | inr at_end ↦ elim (cases_Bool (nat_lt 100 place)) [ inl far ↦ rw (some, at_end, far) (inl refl) | inr last ↦ rw (some, at_end, last) (inr (inl refl)) ]
  ]
]

follows_at : (on marker was : Bool) (place : ℕ) → Follows place (place_at on marker was place)
follows_at true true true place = inr (inl refl)
follows_at false true true place = inr (inl refl)
follows_at false true false place = inr (inl refl)
follows_at true true false place = behind place
follows_at true false true place = behind place
follows_at true false false place = behind place
follows_at false false true place = inl refl
follows_at false false false place = inl refl

alone : (marker : Bool) → Follows 0 (flag marker)
alone true = inr (inl refl)
alone false = inl refl

follows : (p : Pulse) (pulses : List Pulse) → Follows (place_now pulses) (place_now (p ∷ pulses))
follows p [] = alone (is_marker p.width_us)
follows p (q ∷ before) = follows_at (is_on_time (p.rise_us - q.rise_us)) (is_marker p.width_us) (is_marker q.width_us) (place_now (q ∷ before))

one_more_heard : (f : List Pulse) (p : Pulse) (pulses : List Pulse) (n : ℕ) → n < length f → take n f ≡ last_of n pulses → take (suc n) (slice_set f (suc n - 1) p) ≡ last_of (suc n) (p ∷ pulses)
one_more_heard f p pulses n less h =
    let at : suc n - 1 ≡ n = omega arith in
    let next : n + 1 ≡ suc n = omega arith in
    rw at (subst (λ (m : ℕ). take m (slice_set f n p) ≡ take n f ++ p ∷ []) next (take_more_set f n p less) ∙ ap (λ (l : List Pulse). l ++ p ∷ []) h)

heard_more : (f : List Pulse) (p : Pulse) (pulses : List Pulse) (place : ℕ) → length f ≡ 100 → take (place_now pulses) f ≡ last_of (place_now pulses) pulses
    → Follows (place_now pulses) place → ¬ (place ≡ 0) → take place (slice_set f (place - 1) p) ≡ last_of place (p ∷ pulses)
heard_more f p pulses place long h (inl none) some = absurd (some none)
heard_more f p pulses place long h (inr (inl first)) some = rw first (one_more_heard f p pulses 0 (omega (arith, long)) refl)
heard_more f p pulses place long h (inr (inr next)) some =
    let e = next.0 in rw e (one_more_heard f p pulses (place_now pulses) (omega (arith, long, next.1)) h)

-- with a pulse in step, by its place
pub keeps : (f : Frames) (p : Pulse) (pulses : List Pulse) (place : ℕ) → length f.heard ≡ 100 → AreFramesOf f pulses → place ≡ place_now (p ∷ pulses) → ¬ (place ≡ 0) → ¬ (place ≡ 100)
    → AreFramesOf (record { heard = slice_set f.heard (place - 1) p; whole = f.whole }) (p ∷ pulses)
keeps f p pulses place long h e some not_last =
    let part = heard_more f.heard p pulses place long h.begun (subst (λ (x : ℕ). Follows (place_now pulses) x) (sym e) (follows p pulses)) some in
    let test : nat_eq (place_now (p ∷ pulses)) 100 ≡ false = subst (λ (x : ℕ). nat_eq x 100 ≡ false) e (search rules) in
    record { begun = rw (sym e) part; whole = rw test h.whole }

-- with the last of a frame
pub keeps_whole : (f : Frames) (p : Pulse) (pulses : List Pulse) (place : ℕ) → length f.heard ≡ 100 → AreFramesOf f pulses → place ≡ place_now (p ∷ pulses) → place ≡ 100
    → AreFramesOf (record { heard = slice_set f.heard (place - 1) p; whole = slice_set f.heard (place - 1) p }) (p ∷ pulses)
keeps_whole f p pulses place long h e last =
    let part = heard_more f.heard p pulses place long h.begun (subst (λ (x : ℕ). Follows (place_now pulses) x) (sym e) (follows p pulses)) (λ none. absurd (omega (arith, none, last))) in
    let is : place_now (p ∷ pulses) ≡ 100 = sym e ∙ last in
    let all : length (slice_set f.heard (place - 1) p) ≡ 100 = length-set f.heard (place - 1) p ∙ long in
    let full : take 100 (slice_set f.heard (place - 1) p) ≡ slice_set f.heard (place - 1) p =
    subst (λ (n : ℕ). take n (slice_set f.heard (place - 1) p) ≡ slice_set f.heard (place - 1) p) all (take-length (slice_set f.heard (place - 1) p)) in
    let that : take 100 (slice_set f.heard (place - 1) p) ≡ last_of 100 (p ∷ pulses) =
    subst (λ (n : ℕ). take n (slice_set f.heard (place - 1) p) ≡ last_of n (p ∷ pulses)) last part in
    record { begun = rw (sym e) part; whole = rw is (sym full ∙ that) }

pub in_step : (pulses : List Pulse) → place_now pulses ≡ 100 → AreOnTime 100 (heard pulses)
in_step pulses last = subst (λ (n : ℕ). AreOnTime n (heard pulses)) last (counted_on_time (heard pulses))

-- ---- bare frames

pub bare_more : (f : Frames) (p : Pulse) (pulses : List Pulse) (place : ℕ) → AreFramesOf f (p ∷ pulses) → place ≡ place_now (p ∷ pulses)
    → (nat_eq place 100 && is_bare f.whole) ≡ ends_bare p pulses
bare_more f p pulses place h e = elim (cases_Bool (nat_eq (place_now (p ∷ pulses)) 100)) [
  | inl is ↦
      let whole : f.whole ≡ last_of 100 (p ∷ pulses) = rw is at h.whole in
      rw (e, is, whole) refl
  | inr other ↦ rw (e, other) refl
]
