-- The open stretch of a port is its open lane.
use Rattle.std.proofs.Common.{rules, ◌≡◌, ℕ, Bool, true, false, cond, List, [], ◌∷◌, Option, Some, None, refl, sym, ap, ◌∙◌, subst}
use Rattle.std.specs.Prelude.{⊤, IfSome, is_some}
use Rattle.report_found.specs.declared.kind.Kind.{Kind}
use Rattle.report_found.specs.declared.kind.Kind.TheVariants.{Agreed}
use Rattle.report_found.specs.declared.stretch.Stretch.{Stretch}
use Rattle.report_found.specs.declared.tick.Tick.{Tick}
use Rattle.report_found.specs.Kinds.{same_kind}
use Rattle.report_found.specs.Stretches.{begun, more, stretch_past, stretch_after, stretch_of}
use Rattle.report_found.specs.Ticks.{kind_at}
use Rattle.report_lanes.specs.declared.lane.Lane.{Lane}
use Rattle.report_lanes.specs.declared.lane.Shows.TheVariants.{Told}
use Rattle.report_lanes.specs.Lanes.{are_alike, grown, lane_of, told_at}
use Rattle.report_lanes.specs.LongestRuns.{IsOfStretch}

-- an open lane of agreed ticks, or none
abbrev IsAgreedLane : Option Lane → Type 0
IsAgreedLane None = ⊤
IsAgreedLane (Some lane) = (port : ℕ) × (lane.shows ≡ Told port Agreed)

-- the stretch and the lane of a port, behind some ticks
abbrev Match : ℕ → Option Stretch → Option Lane → Type 0
Match port None o = IsAgreedLane o
Match port (Some s) None = ⊥
Match port (Some s) (Some lane) = IsOfStretch port s lane

agreed_is : (k : Kind) → same_kind k Agreed ≡ true → k ≡ Agreed
agreed_is k h = search rules

other_kind : (k : Kind) → same_kind k Agreed ≡ false → same_kind Agreed k ≡ false
other_kind k h = search rules

not_agreed : (k a : Kind) → same_kind k Agreed ≡ false → same_kind a Agreed ≡ true → same_kind k a ≡ false
not_agreed k a h e = search rules

begun_is : (port : ℕ) (t : Tick) → IsOfStretch port (begun (kind_at port t) t) (told_at port t)
begun_is port t = record { shows = refl; first = refl; last = refl }

-- a tick at which the port agrees
agreed_after : (port : ℕ) (t : Tick) (o : Option Lane) → kind_at port t ≡ Agreed → ((lane : Lane) → o ≡ Some lane → (p : ℕ) × ((k : Kind) × (lane.shows ≡ Told p k))) → IsAgreedLane (Some (grown o (told_at port t)))
agreed_after port t None is told = (port, ap (λ k. Told port k) is)
agreed_after port t (Some lane) is told = by_test (are_alike lane.shows (told_at port t).shows) refl
  where
    by_test : (b : Bool) → are_alike lane.shows (told_at port t).shows ≡ b → IsAgreedLane (Some (cond b (record lane { last = (told_at port t).last }) (told_at port t)))
    by_test true alike =
        let of = told lane refl in
        let kinds : same_kind of.1.0 Agreed ≡ true = sym (ap (same_kind of.1.0) is) ∙ sym (ap (λ shows. are_alike shows (Told port (kind_at port t))) of.1.1) ∙ alike in
        (of.0, of.1.1 ∙ ap (λ k. Told of.0 k) (agreed_is of.1.0 kinds))
    by_test false alike = (port, ap (λ k. Told port k) is)

-- the lane of a port tells of it
tells : (port : ℕ) (s : Option Stretch) (o : Option Lane) → Match port s o → (lane : Lane) → o ≡ Some lane → (p : ℕ) × ((k : Kind) × (lane.shows ≡ Told p k))
tells port None None h lane is = absurd cc
tells port None (Some x) h lane is = let same : x ≡ lane = cc in (h.0, (Agreed, ap (λ (x : Lane). x.shows) (sym same) ∙ h.1))
tells port (Some s) None h lane is = absurd h
tells port (Some s) (Some x) h lane is = let same : x ≡ lane = cc in (port, (s.kind, ap (λ (x : Lane). x.shows) (sym same) ∙ h.shows))

-- a tick at which it does not
wrong_after : (port : ℕ) (t : Tick) (s : Option Stretch) (o : Option Lane) → same_kind (kind_at port t) Agreed ≡ false → Match port s o → IsOfStretch port (stretch_past port s t) (grown o (told_at port t))
wrong_after port t None None wrong h = begun_is port t
wrong_after port t None (Some lane) wrong h =
    let other : are_alike lane.shows (told_at port t).shows ≡ false = ap (λ shows. are_alike shows (Told port (kind_at port t))) h.1 ∙ other_kind (kind_at port t) wrong in
    rw other (begun_is port t)
wrong_after port t (Some s) None wrong h = absurd h
wrong_after port t (Some s) (Some lane) wrong h = by_test (same_kind s.kind (kind_at port t)) refl
  where
    alike : are_alike lane.shows (told_at port t).shows ≡ same_kind s.kind (kind_at port t)
    alike = ap (λ shows. are_alike shows (Told port (kind_at port t))) h.shows

    by_test : (b : Bool) → same_kind s.kind (kind_at port t) ≡ b
        → IsOfStretch port (cond (same_kind s.kind (kind_at port t)) (more port s t) (begun (kind_at port t) t)) (cond (are_alike lane.shows (told_at port t).shows) (record lane { last = (told_at port t).last }) (told_at port t))
    by_test true is = rw (is, alike ∙ is) (record { shows = h.shows; first = h.first; last = refl })
    by_test false is = rw (is, alike ∙ is) (begun_is port t)

match_after : (port : ℕ) (t : Tick) (s : Option Stretch) (o : Option Lane) → Match port s o → Match port (stretch_after port s t) (Some (grown o (told_at port t)))
match_after port t s o h = by_test (same_kind (kind_at port t) Agreed) refl
  where
    by_test : (b : Bool) → same_kind (kind_at port t) Agreed ≡ b → Match port (cond b None (Some (stretch_past port s t))) (Some (grown o (told_at port t)))
    by_test true is = agreed_after port t o (agreed_is (kind_at port t) is) (tells port s o h)
    by_test false is = wrong_after port t s o is h

matches : (port : ℕ) (ts : List Tick) → Match port (stretch_of port ts) (lane_of (told_at port) ts)
matches port [] = tt
matches port (t ∷ ts) = match_after port t (stretch_of port ts) (lane_of (told_at port) ts) (matches port ts)

same : (port : ℕ) (s : Stretch) (o : Option Lane) → Match port (Some s) o → IfSome o (IsOfStretch port s)
same port s None h = absurd h
same port s (Some lane) h = h

there : (port : ℕ) (s : Stretch) (o : Option Lane) → Match port (Some s) o → is_some o ≡ true
there port s None h = absurd h
there port s (Some lane) h = refl

pub stretch_is_lane : (port : ℕ) (ts : List Tick) (s : Stretch) → stretch_of port ts ≡ Some s → IfSome (lane_of (told_at port) ts) (IsOfStretch port s)
stretch_is_lane port ts s is = same port s (lane_of (told_at port) ts) (subst (λ x. Match port x (lane_of (told_at port) ts)) is (matches port ts))

pub stretch_has_lane : (port : ℕ) (ts : List Tick) (s : Stretch) → stretch_of port ts ≡ Some s → is_some (lane_of (told_at port) ts) ≡ true
stretch_has_lane port ts s is = there port s (lane_of (told_at port) ts) (subst (λ x. Match port x (lane_of (told_at port) ts)) is (matches port ts))
