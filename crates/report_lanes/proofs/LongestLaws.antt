-- An open lane is a longest run of a reader's ticks.
use Rattle.std.proofs.Common.{rules, ◌≡◌, ℕ, Bool, true, false, cond, List, [], ◌∷◌, ◌++◌, Option, Some, None, refl, ap, ◌∙◌, subst}
use Rattle.std.specs.Prelude.{◌&&◌, ⊤}
use Rattle.std.specs.List.{AllByRecursion}
use Rattle.std.proofs.lemmas.Bool.{and_parts}
use Rattle.std.proofs.lemmas.List.Elements.{recursion_from_All, All-from_recursion}
use Rattle.irig_reader.specs.declared.report.Cause.{Cause}
use Rattle.irig_reader.specs.declared.report.Lock.{Lock}
use Rattle.report_found.specs.declared.kind.Kind.{Kind}
use Rattle.report_found.specs.declared.tick.Tick.{Tick}
use Rattle.report_found.specs.Kinds.{same_kind}
use Rattle.report_found.specs.Stretches.{same_cause}
use Rattle.report_found.specs.Ticks.{kind_at}
use Rattle.report_lanes.specs.declared.lane.Lane.{Lane}
use Rattle.report_lanes.specs.declared.lane.Shows.{Shows}
use Rattle.report_lanes.specs.declared.lane.Shows.TheVariants.{Stood, Told, Mark}
use Rattle.report_lanes.specs.Lanes.{same_lock, are_alike, grown, lane_of, stood_at, told_at}
use Rattle.report_lanes.specs.LongestRuns.{IsOther, IsLongest}

-- ---- what is alike

lock_itself : (a : Lock) → same_lock a a ≡ true
lock_itself a = search rules

cause_itself : (a : Cause) → same_cause a a ≡ true
cause_itself a = search rules

kind_itself : (a : Kind) → same_kind a a ≡ true
kind_itself a = search rules

-- a third is like one of two that are alike as it is like the other
lock_third : (a b c : Lock) → same_lock a b ≡ true → same_lock c b ≡ same_lock a c
lock_third a b c h = search rules

cause_third : (a b c : Cause) → same_cause a b ≡ true → same_cause c b ≡ same_cause a c
cause_third a b c h = search rules

kind_third : (a b c : Kind) → same_kind a b ≡ true → same_kind c b ≡ same_kind a c
kind_third a b c h = search rules

third : (a b c : Shows) → are_alike a b ≡ true → are_alike a c ≡ false → are_alike c b ≡ false
third (Stood l0 c0) (Stood l1 c1) (Stood l2 c2) h k =
    let both = and_parts (same_lock l0 l1) (same_cause c0 c1) h in
    ap (λ b. b && same_cause c2 c1) (lock_third l0 l1 l2 both.0) ∙ ap (λ b. same_lock l0 l2 && b) (cause_third c0 c1 c2 both.1) ∙ k
third (Stood l0 c0) (Stood l1 c1) (Told p2 k2) h k = refl
third (Stood l0 c0) (Stood l1 c1) (Mark m2) h k = refl
third (Stood l0 c0) (Told p1 k1) c h k = absurd cc
third (Stood l0 c0) (Mark m1) c h k = absurd cc
third (Told p0 k0) (Told p1 k1) (Told p2 k2) h k = kind_third k0 k1 k2 h ∙ k
third (Told p0 k0) (Told p1 k1) (Stood l2 c2) h k = refl
third (Told p0 k0) (Told p1 k1) (Mark m2) h k = refl
third (Told p0 k0) (Stood l1 c1) c h k = absurd cc
third (Told p0 k0) (Mark m1) c h k = absurd cc
third (Mark m0) b c h k = absurd cc

-- ---- of what is to be seen at each tick, which is like itself

module _ (seen : Tick → Lane) (itself : (t : Tick) → are_alike (seen t).shows (seen t).shows ≡ true)
    (one_edge : (t : Tick) → (seen t).first ≡ (seen t).last) where
  begun : (t : Tick) (ts : List Tick) → IsOther seen (seen t) ts → IsLongest seen (t ∷ ts) (seen t)
  begun t ts other = record {
    later = [];
    begins = t;
    ends = t;
    before = ts;
    parts = refl;
    alike = All-from_recursion (λ x. are_alike (seen t).shows (seen x).shows ≡ true) (t ∷ []) (itself t, tt);
    other = other;
    shows = refl;
    reader = refl;
    first = refl;
    newest = refl;
    last = refl;
  }

  longer : (t : Tick) (ts : List Tick) (lane : Lane) → are_alike lane.shows (seen t).shows ≡ true → IsLongest seen ts lane → IsLongest seen (t ∷ ts) (record lane { last = (seen t).last })
  longer t ts lane alike h = record {
    later = t ∷ h.later;
    begins = h.begins;
    ends = t;
    before = h.before;
    parts = ap (λ ts. t ∷ ts) h.parts;
    alike = All-from_recursion (λ x. are_alike lane.shows (seen x).shows ≡ true) (t ∷ (h.later ++ h.begins ∷ [])) (alike, recursion_from_All (λ x. are_alike lane.shows (seen x).shows ≡ true) (h.later ++ h.begins ∷ []) h.alike);
    other = h.other;
    shows = h.shows;
    reader = h.reader;
    first = h.first;
    newest = refl;
    last = refl;
  }

  abbrev Stands : List Tick → Option Lane → Type 0
  Stands [] None = ⊤
  Stands [] (Some lane) = ⊥
  Stands (t ∷ ts) None = ⊥
  Stands (t ∷ ts) (Some lane) = IsLongest seen (t ∷ ts) lane

  head_alike : (lane : Lane) (t first : Tick) (ts later before : List Tick) → t ∷ ts ≡ (later ++ first ∷ []) ++ before
      → AllByRecursion (λ x. are_alike lane.shows (seen x).shows ≡ true) (later ++ first ∷ []) → are_alike lane.shows (seen t).shows ≡ true
  head_alike lane t first ts [] before e all = let same : t ≡ first = cc in ap (λ t. are_alike lane.shows (seen t).shows) same ∙ all.0
  head_alike lane t first ts (x ∷ later) before e all = let same : t ≡ x = cc in ap (λ t. are_alike lane.shows (seen t).shows) same ∙ all.0

  other_before : (lane : Lane) (t x : Tick) (ts : List Tick) → are_alike lane.shows (seen t).shows ≡ false → IsLongest seen (x ∷ ts) lane → IsOther seen (seen t) (x ∷ ts)
  other_before lane t x ts not h =
      third lane.shows (seen x).shows (seen t).shows
      (head_alike lane x h.begins ts h.later h.before h.parts (recursion_from_All (λ x. are_alike lane.shows (seen x).shows ≡ true) (h.later ++ h.begins ∷ []) h.alike))
      not

  after : (t : Tick) (ts : List Tick) (o : Option Lane) → Stands ts o → IsLongest seen (t ∷ ts) (grown o (seen t))
  after t [] None h = begun t [] tt
  after t [] (Some lane) h = absurd h
  after t (x ∷ ts) None h = absurd h
  after t (x ∷ ts) (Some lane) h = by_test (are_alike lane.shows (seen t).shows) refl
    where
      by_test : (b : Bool) → are_alike lane.shows (seen t).shows ≡ b → IsLongest seen (t ∷ (x ∷ ts)) (cond b (record lane { last = (seen t).last }) (seen t))
      by_test true is = longer t (x ∷ ts) lane is h
      by_test false is = begun t (x ∷ ts) (other_before lane t x ts is h)

  stands : (ts : List Tick) → Stands ts (lane_of seen ts)
  stands [] = tt
  stands (t ∷ ts) = after t ts (lane_of seen ts) (stands ts)

  by_stands : (ts : List Tick) (lane : Lane) → Stands ts (Some lane) → IsLongest seen ts lane
  by_stands [] lane h = absurd h
  by_stands (t ∷ ts) lane h = h

  lane_is_longest : (ts : List Tick) (lane : Lane) → lane_of seen ts ≡ Some lane → IsLongest seen ts lane
  lane_is_longest ts lane is = by_stands ts lane (subst (Stands ts) is (stands ts))

-- ---- the laws

stood_itself : (t : Tick) → are_alike (stood_at t).shows (stood_at t).shows ≡ true
stood_itself t = rw (lock_itself t.entry.report.lock, cause_itself t.entry.report.cause) refl

pub stood_is_longest : (ts : List Tick) (lane : Lane) → lane_of stood_at ts ≡ Some lane → IsLongest stood_at ts lane
stood_is_longest = lane_is_longest stood_at stood_itself (λ t. refl)

pub told_is_longest : (port : ℕ) (ts : List Tick) (lane : Lane) → lane_of (told_at port) ts ≡ Some lane → IsLongest (told_at port) ts lane
told_is_longest port = lane_is_longest (told_at port) (λ t. kind_itself (kind_at port t)) (λ t. refl)
