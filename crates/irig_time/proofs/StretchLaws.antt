-- The stretches of a timeline, and the second that is found by them.
use Rattle.std.proofs.Common.{leb, leb-true, take, drop, ◌≡◌, ℕ, zero, suc, ◌+◌, ◌-◌, ◌*◌, ◌/◌, ◌^◌, ◌<◌, ◌≤◌, min, ◌⊎◌, true, false, All, get_or, List, [], ◌∷◌, ◌++◌, length, slice_get, Option, Some, None, refl, sym, ap, subst, ◌∙◌, arith, inl, inr}
use Rattle.std.specs.List.{AllAdjacentBelow}
use Rattle.std.proofs.lemmas.Bool.{cases_lt, leb-false, ne_eqb, eq-eqb}
use Rattle.std.specs.Prelude.{MatchOption}
use Rattle.std.proofs.lemmas.Option.{slice_get_within}
use Rattle.std.proofs.lemmas.List.Sorted.{IsNonDecreasingBy-from_all_adjacent, all_adjacent_more}
use Rattle.std.proofs.lemmas.List.Elements.{All-push}
use Rattle.std.proofs.lemmas.List.{length-append, length-drop, length-take-le, get_or-drop, get_or-take}
use Rattle.std.specs.List.Sorted.{IsPartitionPoint}
use Rattle.std.proofs.Math.ListN.{get_or-append}
use Rattle.std.proofs.Math.Seq.{get_or-append_seam}
use Rattle.irig_time.specs.declared.second.UtcSecond.{UtcSecond}
use Rattle.irig_time.specs.declared.leap.Leap.{Leap}
use Rattle.irig_time.specs.declared.stretches.Stretch.{Stretch}
use Rattle.irig_time.specs.Timelines.{TimelineValue, leap_of, length_by, day_length, seconds_in, IsSecond}
use Rattle.irig_time.specs.TimelineFaults.{first_leap_fault}
use Rattle.irig_time.specs.Stretches.{HasNoLeapFrom, IsNextLeap, IsPlaced, Joins, IsIndex, IsIndexed, IsRising, Holds}
use Rattle.irig_time.proofs.TimeLaws.{length_bounds, seconds_bounds, seconds_to_next, seconds_before_later, neither, no_fault, once_only, the_last}

-- ---- stretches

-- days without a leap are 86400 seconds long
plain_by : (leaps : List (ℕ × Leap)) (first : ℕ) (s : Stretch) (k : ℕ) → IsPlaced leaps first s → ((day : ℕ) → s.day ≤ day → day < s.day + k → leap_of leaps day ≡ None) → seconds_in leaps first (s.day + k - first) ≡ s.seconds + 86400 * k
plain_by leaps first s zero placed plain =
    let e : s.day + 0 - first ≡ s.day - first = omega arith in
    ap (seconds_in leaps first) e ∙ omega (arith, placed.seconds)
plain_by leaps first s (suc k) placed plain =
    let so_far = plain_by leaps first s k placed (λ day low high. plain day low (omega arith)) in
    let next = seconds_to_next leaps first (s.day + k) (omega (arith, placed.from_on)) in
    let none : day_length leaps (s.day + k) ≡ 86400 = ap length_by (plain (s.day + k) (omega arith) (omega arith)) in
    let e : s.day + suc k - first ≡ s.day + k + 1 - first = omega arith in
    ap (seconds_in leaps first) e ∙ omega (arith, so_far, next, none)

pub plain_until : (leaps : List (ℕ × Leap)) (first : ℕ) (s : Stretch) (day : ℕ) → IsPlaced leaps first s → s.day ≤ day → ((d : ℕ) → s.day ≤ d → d < day → leap_of leaps d ≡ None) → seconds_in leaps first (day - first) ≡ s.seconds + 86400 * (day - s.day)
plain_until leaps first s day placed from plain =
    let e : day - first ≡ s.day + (day - s.day) - first = omega arith in
    ap (seconds_in leaps first) e ∙ plain_by leaps first s (day - s.day) placed (λ d low high. plain d low (omega arith))

-- the stretch after a leap
pub next_placed : (leaps : List (ℕ × Leap)) (first : ℕ) (s : Stretch) (leap : ℕ × Leap) (seconds : ℕ) → IsPlaced leaps first s → IsNextLeap leaps s.day leap → seconds ≡ s.seconds + 86400 * (leap.0 - s.day) + length_by (Some leap.1)
    → IsPlaced leaps first (record { day = leap.0 + 1; seconds = seconds; leap = Some leap.1 })
next_placed leaps first s leap seconds placed next e =
    let sum = plain_until leaps first s leap.0 placed next.from_on next.none_before in
    let more = seconds_to_next leaps first leap.0 (omega (arith, placed.from_on, next.from_on)) in
    let long : day_length leaps leap.0 ≡ length_by (Some leap.1) = ap length_by next.there in
    record { from_on = omega (arith, placed.from_on, next.from_on); served = omega (arith, next.served); seconds = omega (arith, e, sum, more, long) }

pub next_joins : (leaps : List (ℕ × Leap)) (s : Stretch) (leap : ℕ × Leap) (seconds : ℕ) → IsNextLeap leaps s.day leap → Joins leaps s (record { day = leap.0 + 1; seconds = seconds; leap = Some leap.1 })
next_joins leaps s leap seconds next =
    let before : leap.0 + 1 - 1 ≡ leap.0 = omega arith in
    record {
      later = omega (arith, next.from_on);
      plain = λ day low high. next.none_before day low (omega arith);
      leap = ap (leap_of leaps) before ∙ next.there;
    }

-- the stretches so far, and the one that is to follow
pub record IsBuilt (leaps : List (ℕ × Leap)) (first : ℕ) (all : List Stretch) : Type 0 where
  pub some : 0 < length all
  pub start : (d : Stretch) → (get_or all 0 d).seconds ≡ 0
  pub placed : All (IsPlaced leaps first) all
  pub joined : AllAdjacentBelow (Joins leaps) all (length all)

pub next_built : (leaps : List (ℕ × Leap)) (first : ℕ) (front : List Stretch) (s next : Stretch) → IsBuilt leaps first (front ++ s ∷ []) → IsPlaced leaps first next → Joins leaps s next → IsBuilt leaps first ((front ++ s ∷ []) ++ next ∷ [])
next_built leaps first front s next built placed joins =
    let all = front ++ s ∷ [] in
    let long : length all ≡ length front + 1 = length-append front (s ∷ []) in
    let longer : length (all ++ next ∷ []) ≡ length all + 1 = length-append all (next ∷ []) in
    let old : AllAdjacentBelow (Joins leaps) (all ++ next ∷ []) (length all) = λ k d lt. rw (get_or-append all (next ∷ []) d k (omega arith), get_or-append all (next ∷ []) d (k + 1) (omega arith)) (built.joined k d lt) in
    let at_seam : (d : Stretch) → Joins leaps (get_or (all ++ next ∷ []) (length all - 1) d) (get_or (all ++ next ∷ []) (length all) d) = λ d.
    let last : length all - 1 ≡ length front = omega (arith, long) in
    rw (get_or-append all (next ∷ []) d (length all - 1) (omega (arith, long)), last, get_or-append_seam front s [] d, get_or-append_seam all next [] d) joins in
    record {
      some = omega (arith, longer);
      start = λ d. rw (get_or-append all (next ∷ []) d 0 built.some) (built.start d);
      placed = All-push (IsPlaced leaps first) all next built.placed placed;
      joined = rw longer (all_adjacent_more (all ++ next ∷ []) (Joins leaps) (length all) built.some old at_seam);
    }

pub last_placed : (leaps : List (ℕ × Leap)) (first : ℕ) (front : List Stretch) (s : Stretch) → IsBuilt leaps first (front ++ s ∷ []) → IsPlaced leaps first s
last_placed leaps first front s built =
    let at : get_or (front ++ s ∷ []) (length front) s ≡ s = get_or-append_seam front s [] s in
    subst (IsPlaced leaps first) at (built.placed (length front) s (omega (arith, length-append front (s ∷ []))))

-- all seconds served are few
pub few_seconds : (leaps : List (ℕ × Leap)) (first : ℕ) (s : Stretch) → IsPlaced leaps first s → s.seconds < 2 ^ 32
few_seconds leaps first s placed = omega (arith, placed.seconds, placed.served, (seconds_bounds leaps first (s.day - first)).1)

-- ---- the first leap from a day on

-- of the first i leaps this is the first from a day on
abbrev pub IsFirstOf : List (ℕ × Leap) → ℕ → ℕ → Option (ℕ × Leap) → Type 0
IsFirstOf leaps from i None = (k : ℕ) (x : ℕ × Leap) → k < i → slice_get leaps k ≡ Some x → x.0 < from
IsFirstOf leaps from i (Some e) =
    (from ≤ e.0) × ((k : ℕ) × (slice_get leaps k ≡ Some e)) × ((k : ℕ) (x : ℕ × Leap) → k < i → slice_get leaps k ≡ Some x → (x.0 < from) ⊎ (e.0 ≤ x.0))

-- no entry of the day
none_there : (xs : List (ℕ × Leap)) (day : ℕ) → ((k : ℕ) (x : ℕ × Leap) → slice_get xs k ≡ Some x → ¬ (x.0 ≡ day)) → leap_of xs day ≡ None
none_there [] day h = refl
none_there (x ∷ xs) day h = rw (ne_eqb x.0 day (h 0 x refl)) (none_there xs day (λ k y e. h (suc k) y e))

not_both : (o : Option Leap) (l : Leap) → o ≡ None → ◌≡◌ {A = Option Leap} o (Some l) → ⊥
not_both o l e h = absurd cc

-- an entry of a sound list is the one of its day
leap_there : (before xs : List (ℕ × Leap)) (k : ℕ) (e : ℕ × Leap) → first_leap_fault before xs ≡ None → slice_get xs k ≡ Some e → (e.0 ≤ 36523) × (leap_of xs e.0 ≡ Some e.1)
leap_there before [] k e sound h = absurd cc
leap_there before (x ∷ xs) zero e sound h =
    let same : x ≡ e = cc in
    let free = no_fault before x.0 (neither _ _ sound).0 in
    subst (λ (y : ℕ × Leap). (y.0 ≤ 36523) × (leap_of (x ∷ xs) y.0 ≡ Some y.1)) same (free.served.1, rw (eq-eqb x.0 x.0 refl) refl)
leap_there before (x ∷ xs) (suc k) e sound h =
    let parts = neither _ _ sound in
    let rest = leap_there (before ++ x ∷ []) xs k e parts.1 h in
    let other : ¬ (x.0 ≡ e.0) = λ same. not_both (leap_of xs e.0) e.1 (once_only (before ++ x ∷ []) xs e.0 parts.1 (the_last before x e.0 same)) rest.1 in
    (rest.0, rw (ne_eqb x.0 e.0 other) rest.1)

pub first_found : (leaps : List (ℕ × Leap)) (from : ℕ) (next : Option (ℕ × Leap)) → first_leap_fault [] leaps ≡ None → IsFirstOf leaps from (length leaps) next → MatchOption next (HasNoLeapFrom leaps from) (IsNextLeap leaps from)
first_found leaps from None sound h = λ day low. none_there leaps day (λ k x e is. omega (arith, h k x (slice_get_within leaps k x e) e))
first_found leaps from (Some n) sound h =
    let there = leap_there [] leaps h.1.0 n sound h.1.1 in
    record {
      from_on = h.0;
      served = there.0;
      there = there.1;
      none_before = λ day low high. none_there leaps day (λ k x e is. elim (h.2 k x (slice_get_within leaps k x e) e) [ inl out ↦ omega (arith, out) | inr later ↦ omega (arith, later) ]);
    }

-- ---- the second of a stretch

pub plain_seconds : (t : TimelineValue) (total : ℕ) (s : Stretch) (last day : ℕ) → Holds t total s last → s.day ≤ day → day ≤ last → seconds_in t.leaps t.start.day (day - t.start.day) ≡ s.seconds + 86400 * (day - s.day)
plain_seconds t total s last day h from to = plain_until t.leaps t.start.day s day h.placed from (λ d low high. h.plain d low (omega arith))

abbrev second : ℕ → ℕ → UtcSecond
second day sod = record { day = day; sod = sod }

-- if the day is served, the second is found
pub found_in : (t : TimelineValue) (n total : ℕ) (s : Stretch) (last days : ℕ) → Holds t total s last → total ≡ t.start.sod + n → days ≡ min ((total - s.seconds) / 86400) (last - s.day) → s.day + days ≤ 36523
    → IsSecond t n (second (s.day + days) (total - s.seconds - days * 86400))
found_in t n total s last days h e is served =
    let sum = plain_seconds t total s last (s.day + days) h (omega arith) (omega (arith, is, h.within)) in
    let long = length_bounds (leap_of t.leaps (s.day + days)) in
    let begun = h.begun in
    let sod : total - s.seconds - days * 86400 < day_length t.leaps (s.day + days) = elim (cases_lt (s.day + days) last) [
      | inl lt ↦
          let none : day_length t.leaps (s.day + days) ≡ 86400 = ap length_by (h.plain (s.day + days) (omega arith) lt) in
          omega (arith, is, none, lt)
      | inr ge ↦ elim h.before_end [
        | inl past ↦ absurd (omega (arith, past, ge, served))
        | inr before ↦
            let at : s.day + days ≡ last = omega (arith, is, ge, h.within) in
            let next = seconds_to_next t.leaps t.start.day (s.day + days) (omega (arith, h.placed.from_on)) in
            let end : seconds_in t.leaps t.start.day (last + 1 - t.start.day) ≡ seconds_in t.leaps t.start.day (s.day + days + 1 - t.start.day) = ap (λ (x : ℕ). seconds_in t.leaps t.start.day (x + 1 - t.start.day)) (sym at) in
            let there : s.day + days - s.day ≡ days = omega arith in
            omega (arith, before, end, next, sum, is, begun)
      ]
    ] in
    record {
      from = omega (arith, h.placed.from_on);
      to = served;
      sod = sod;
      sum = omega (arith, sum, e, begun, is);
    }

-- if it isn't, there is no second
pub late_in : (t : TimelineValue) (n total : ℕ) (s : Stretch) (last days : ℕ) → Holds t total s last → total ≡ t.start.sod + n → days ≡ min ((total - s.seconds) / 86400) (last - s.day) → 36523 < s.day + days
    → (u : UtcSecond) → IsSecond t n u → ⊥
late_in t n total s last days h e is past u a =
    let sum = plain_seconds t total s last (s.day + days) h (omega arith) (omega (arith, is, h.within)) in
    let later = seconds_before_later t.leaps t.start.day u.day (s.day + days) a.from (omega (arith, a.to)) in
    omega (arith, sum, later, e, is, h.begun, a.sum, a.sod)

-- ---- the search

-- the seconds of the stretches rise
pub rising : (leaps : List (ℕ × Leap)) (first : ℕ) (stretches : List Stretch) → IsIndex leaps first stretches → IsRising stretches
rising leaps first stretches index = record {
  some = index.some;
  start = index.start;
  rising = IsNonDecreasingBy-from_all_adjacent (λ s. s.seconds) stretches (λ k d lt.
      let one = index.placed k d (omega arith) in
      let other = index.placed (k + 1) d (omega arith) in
      let joined = index.joined k d lt in
      let later = seconds_before_later leaps first (get_or stretches k d).day (get_or stretches (k + 1) d).day one.from_on joined.later in
      omega (arith, one.seconds, other.seconds, later));
  later = λ k d lt. (index.joined k d lt).later;
}

-- so many stretches have begun
pub record HasBegun (stretches : List Stretch) (total begun : ℕ) : Type 0 where
  pub some : 0 < begun
  pub within : begun ≤ length stretches
  pub last : (d : Stretch) → (get_or stretches (begun - 1) d).seconds ≤ total
  pub next : (d : Stretch) → begun < length stretches → total < (get_or stretches begun d).seconds

-- what was found among some of the stretches
pub found_among : (all : List Stretch) (low high point total : ℕ) → low < high → high ≤ length all
    → ((d : Stretch) → (get_or all low d).seconds ≤ total) → ((d : Stretch) → high < length all → total < (get_or all high d).seconds)
    → point ≤ length (take (high - low) (drop low all))
    → IsPartitionPoint (λ s. leb s.seconds total ≡ true) (λ s. leb s.seconds total ≡ false) (take (high - low) (drop low all)) point
    → HasBegun all total (low + point)
found_among all low high point total up within first past bound found =
    let some : 0 < point = elim (cases_lt 0 point) [
      | inl some ↦ some
      | inr none ↦
          let d : Stretch = record { day = 0; seconds = 0; leap = None } in
          let late = leb-false _ _ (found.1 0 d none (omega (arith, long, up))) in
          let here : low + 0 ≡ low = omega arith in
          absurd (omega (arith, late, seconds_at 0 d (omega (arith, up)), ap (λ (k : ℕ). (get_or all k d).seconds) here, first d))
    ] in
    record {
      some = omega (arith, some);
      within = omega (arith, bound, long, up, within);
      last = λ d.
          let before : low + (point - 1) ≡ low + point - 1 = omega (arith, some) in
          let begun = leb-true _ _ (found.0 (point - 1) d (omega arith) (omega (arith, some))) in
          omega (arith, begun, seconds_at (point - 1) d (omega (arith, some, bound, long)), ap (λ (k : ℕ). (get_or all k d).seconds) before);
      next = λ d lt. elim (cases_lt point (high - low)) [
        | inl inside ↦
            let later = leb-false _ _ (found.1 point d (omega arith) (omega (arith, long, inside))) in
            omega (arith, later, seconds_at point d inside)
        | inr end ↦
            let same : high ≡ low + point = omega (arith, end, bound, long, up) in
            omega (arith, past d (omega (arith, same, lt)), ap (λ (k : ℕ). (get_or all k d).seconds) same)
      ];
    }
  where
    long : length (take (high - low) (drop low all)) ≡ high - low
    long = length-take-le (high - low) (drop low all) (omega (arith, length-drop low all, within))

    seconds_at : (k : ℕ) (d : Stretch) → k < high - low → (get_or (take (high - low) (drop low all)) k d).seconds ≡ (get_or all (low + k) d).seconds
    seconds_at k d lt = ap (λ (s : Stretch). s.seconds) (get_or-take (high - low) (drop low all) k d lt ∙ get_or-drop low all k d)

-- the stretch that is the last to have begun holds the second
pub held_until : (t : TimelineValue) (stretches : List Stretch) (total begun : ℕ) (d : Stretch) → IsIndex t.leaps t.start.day stretches → 0 < begun → begun < length stretches
    → (get_or stretches (begun - 1) d).seconds ≤ total → total < (get_or stretches begun d).seconds → Holds t total (get_or stretches (begun - 1) d) ((get_or stretches begun d).day - 1)
held_until t stretches total begun d index some lt low high =
    let at : begun - 1 + 1 ≡ begun = omega arith in
    let one = index.placed (begun - 1) d (omega arith) in
    let other = index.placed begun d lt in
    let joins : Joins t.leaps (get_or stretches (begun - 1) d) (get_or stretches begun d) = subst (λ (k : ℕ). Joins t.leaps (get_or stretches (begun - 1) d) (get_or stretches k d)) at (index.joined (begun - 1) d (omega arith)) in
    let day : (get_or stretches begun d).day - 1 + 1 ≡ (get_or stretches begun d).day = omega (arith, joins.later) in
    let end : seconds_in t.leaps t.start.day ((get_or stretches begun d).day - 1 + 1 - t.start.day) ≡ (get_or stretches begun d).seconds = ap (λ (x : ℕ). seconds_in t.leaps t.start.day (x - t.start.day)) day ∙ sym other.seconds in
    record {
      placed = one;
      within = omega (arith, joins.later);
      served = omega (arith, other.served);
      begun = low;
      plain = λ x from to. joins.plain x from (omega (arith, to));
      before_end = inr (omega (arith, end, high));
    }

pub held_for_ever : (t : TimelineValue) (stretches : List Stretch) (total begun : ℕ) (d : Stretch) → IsIndex t.leaps t.start.day stretches → begun ≡ length stretches
    → (get_or stretches (begun - 1) d).seconds ≤ total → Holds t total (get_or stretches (begun - 1) d) 36524
held_for_ever t stretches total begun d index all low =
    let last : length stretches - 1 ≡ begun - 1 = omega (arith, all) in
    let one = index.placed (begun - 1) d (omega (arith, all, index.some)) in
    let plain : HasNoLeapFrom t.leaps (get_or stretches (begun - 1) d).day = subst (λ (k : ℕ). HasNoLeapFrom t.leaps (get_or stretches k d).day) last (index.plain_after d) in
    record {
      placed = one;
      within = one.served;
      served = omega arith;
      begun = low;
      plain = λ x from to. plain x from;
      before_end = inl refl;
    }

-- ---- the leap of a day

-- the first stretch begins on the first day
first_stretch : (leaps : List (ℕ × Leap)) (first : ℕ) (stretches : List Stretch) (d : Stretch)
    → IsIndex leaps first stretches → (get_or stretches 0 d).day ≡ first
first_stretch leaps first stretches d index =
    let one = index.placed 0 d index.some in
    let long = seconds_bounds leaps first ((get_or stretches 0 d).day - first) in
    omega (arith, one.from_on, one.seconds, index.start d, long.0)

-- the stretch after the day of a leap names it
pub leap_told : (leaps : List (ℕ × Leap)) (first day begun : ℕ) (stretches : List Stretch) (d : Stretch)
    → IsIndex leaps first stretches → first ≤ day → begun < length stretches
    → (0 < begun → (get_or stretches (begun - 1) d).day ≤ day) → day < (get_or stretches begun d).day
    → ((get_or stretches begun d).day - day ≡ 1 → leap_of leaps day ≡ (get_or stretches begun d).leap)
    × (¬ ((get_or stretches begun d).day - day ≡ 1) → leap_of leaps day ≡ None)
leap_told leaps first day begun stretches d index from lt low high =
    let some : 0 < begun = elim (cases_lt 0 begun) [
      | inl some ↦ some
      | inr none ↦
          let zero : begun ≡ 0 = omega arith in
          let here : (get_or stretches begun d).day ≡ first = ap (λ (k : ℕ). (get_or stretches k d).day) zero ∙ first_stretch leaps first stretches d index in
          absurd (omega (arith, here, from, high))
    ] in
    let at : begun - 1 + 1 ≡ begun = omega (arith, some) in
    let joins : Joins leaps (get_or stretches (begun - 1) d) (get_or stretches begun d) = subst (λ (k : ℕ). Joins leaps (get_or stretches (begun - 1) d) (get_or stretches k d)) at (index.joined (begun - 1) d (omega (arith, some, lt))) in (
      λ next. let same : day ≡ (get_or stretches begun d).day - 1 = omega (arith, next, high) in ap (leap_of leaps) same ∙ joins.leap,
      λ other. joins.plain day (low some) (far other),
    )
  where
    far : ¬ ((get_or stretches begun d).day - day ≡ 1) → day + 1 < (get_or stretches begun d).day
    far other = elim (cases_lt (day + 1) (get_or stretches begun d).day) [
      | inl later ↦ later
      | inr ge ↦ absurd (other (omega (arith, ge, high)))
    ]

-- no leap comes if the last stretch has begun
pub none_told : (leaps : List (ℕ × Leap)) (first day begun : ℕ) (stretches : List Stretch) (d : Stretch)
    → IsIndex leaps first stretches → begun ≡ length stretches
    → (0 < begun → (get_or stretches (begun - 1) d).day ≤ day) → leap_of leaps day ≡ None
none_told leaps first day begun stretches d index all low =
    let last : length stretches - 1 ≡ begun - 1 = omega (arith, all) in
    let plain : HasNoLeapFrom leaps (get_or stretches (begun - 1) d).day = subst (λ (k : ℕ). HasNoLeapFrom leaps (get_or stretches k d).day) last (index.plain_after d) in
    plain day (low (omega (arith, all, index.some)))

-- the index of the same timeline, as the same list
pub indexed_by : (s t : TimelineValue) (items slice : List Stretch) → s ≡ t → slice ≡ items → IsIndexed s items → IsIndexed t slice
indexed_by s t items slice e f h = subst (λ (x : TimelineValue). IsIndexed x slice) e (subst (λ (xs : List Stretch). IsIndexed s xs) (sym f) h)
