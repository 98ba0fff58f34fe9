-- What a device measures of its counter is so, in every life in which lines are true.
use Rattle.std.specs.Prelude.{◌==◌, is_none}
use Rattle.std.proofs.Common.{◌≡◌, ◌∙◌, ℕ, ◌+◌, ◌≤◌, Bool, true, false, cond, List, Option, Some, None, refl, sym, ap, subst, arith, inl, inr}
use Rattle.std.proofs.lemmas.Bool.{cases_Bool, eqb-false}
use Rattle.irig_time.specs.Timelines.{TimelineValue}
use Rattle.irig_lines.specs.declared.interval.Interval.{Interval}
use Rattle.irig_lines.specs.declared.rate.Anchor.{Anchor}
use Rattle.irig_lines.specs.declared.rate.Anchors.{Anchors}
use Rattle.irig_lines.specs.declared.rate.Rate.{Rate}
use Rattle.irig_lines.specs.Edges.{IsQuartz, IsNear}
use Rattle.irig_lines.specs.Exactness.{most_held_us, most_vote_us}
use Rattle.irig_lines.specs.declared.pace.Pace.{Pace}
use Rattle.irig_lines.specs.Lines.{IsTrueLately}
use Rattle.irig_lines.specs.declared.lines.Vote.{Vote}
use Rattle.irig_lines.specs.Counting.{edges_own, edges_to_vote}
use Rattle.irig_lines.specs.Intervals.{by_vote, carried_on, contradicts}
use Rattle.irig_lines.specs.Rates.{no_anchors, anchors_on, mean_since, rate_of, serving}
use Rattle.irig_lines.proofs.RateLaws.{AreRound, mean_is}
use Rattle.irig_timekeeper.specs.Truth.{IsEdgeAt}
use Rattle.irig_lines.specs.declared.setup.ClockRules.{ClockRules}
use Rattle.irig_timekeeper.specs.Measures.{IsMeasured}
use Rattle.irig_timekeeper.specs.declared.clock.ClockState.{ClockState}
use Rattle.irig_timekeeper.specs.Clock.{after_own, clock_by, is_unsteady, known_at, settled_at, age_of}
use Rattle.irig_timekeeper.specs.Keeping.{Keeping, vote_at, after_tick, rate_at}
use Rattle.irig_timekeeper.specs.Life.{Call, Made, life_of, last_tick, LivesTruly}
use Rattle.irig_timekeeper.proofs.AnchorLaws.{IfAnchored, is_served}
use Rattle.irig_timekeeper.proofs.IntervalLaws.{IsAround}
use Rattle.irig_timekeeper.proofs.StrayLaws.{KnowsEdge, IfEdge, knows}

module _ (d : ℕ) (edges : ℕ → ℕ) (quartz : IsQuartz d edges) (tick : ℕ) (rate : Rate) where
  module _ (e edge w : ℕ) (at : IsEdgeAt e edge tick) (x : Interval) (h : KnowsEdge edges edge w x) where
    by_anchor : (o : Option Anchor) → IfAnchored edges w o → rate_of (Some x) o ≡ Some rate → IsMeasured edges tick (Some e) rate
    by_anchor None p is = absurd cc
    by_anchor (Some a) p is = of (a.seconds == 0) refl is
      where
        around : IsAround x h.begin (edges (p.from + a.seconds))
        around = subst (λ (i : ℕ). IsAround x h.begin (edges i)) (sym p.since) h.around

        round : AreRound edges p.from a.seconds a x p.begin h.begin
        round = record {
          clock = p.clock;
          least = p.least;
          most = p.most;
          short = p.short;
          clock_later = around.clock;
          least_later = around.least;
          most_later = around.most;
          short_later = h.short;
        }

        measured : 1 ≤ a.seconds → IsMeasured edges tick (Some e) (mean_since a x)
        measured some = record {
          from = p.from;
          some = some;
          few = p.few;
          mean = mean_is d edges quartz p.from a x p.begin h.begin round some p.few;
          e = e;
          edge = edge;
          told = refl;
          at = at;
          near = subst (λ (i : ℕ). IsNear edges (most_vote_us + most_held_us) (most_vote_us + most_held_us) i edge) (sym p.since) (record {
            least = omega (arith, h.near.least, h.grown, h.short);
            most = omega (arith, h.near.most, h.grown, h.short);
          });
        }

        of : (none : Bool) → (a.seconds == 0) ≡ none → cond none None (Some (mean_since a x)) ≡ Some rate → IsMeasured edges tick (Some e) rate
        of true zero is = absurd cc
        of false some is =
            let same : mean_since a x ≡ rate = cc in
            subst (IsMeasured edges tick (Some e)) same (measured (omega (arith, eqb-false a.seconds 0 some)))

  by_edge : (c : ClockRules) (o : Option ℕ) (known : Option Interval) (anchors : Anchors) (age voted : ℕ) (pace : Option Pace) → IfEdge edges c tick o known anchors age voted pace → rate_of known (serving anchors) ≡ Some rate → IsMeasured edges tick o rate
  by_edge c None known anchors age voted pace none is = let nothing : None ≡ Some rate = rw none.0 at is in absurd cc
  by_edge c (Some e) None anchors age voted pace h is = absurd cc
  by_edge c (Some e) (Some x) anchors age voted pace h is = by_anchor e h.0 h.1 h.2 x h.3 (serving anchors) (is_served edges h.1 anchors h.4) is

pub measures_truly : (t : TimelineValue) (edges : ℕ → ℕ) (made : Made) (start : ℕ) (calls : List Call) (rate : Rate) → LivesTruly (IsTrueLately made.clock.within.us) t edges made start calls
    → rate_at (life_of made calls) ≡ Some rate → IsMeasured edges (last_tick start calls) (life_of made calls).state.edge_us rate
measures_truly t edges made start calls rate lives is =
    let s = (life_of made calls).state in
    by_edge made.clock.drift_us edges lives.is.steady (last_tick start calls) rate (life_of made calls).clock s.edge_us s.interval s.anchors (age_of s.reader) s.bound_us s.pace (knows t edges made start calls lives).known is

-- ---- behind a tick at which a vote contradicts those before it, or frames tell that the counter is
-- unsteady, nothing is measured: no anchor serves, or one of that second

none_serves : (n : ℕ) (known : Option Interval) → rate_of known (serving (anchors_on n known no_anchors)) ≡ None
none_serves n None = refl
none_serves n (Some x) = refl

pub begins_anew : (k : Keeping) (clock : ℕ) → ¬ ((after_tick k clock).state.strays ≡ k.state.strays) → rate_at (after_tick k clock) ≡ None
begins_anew k clock = of (vote_at k clock) refl
  where
    s : ClockState
    s = settled_at k.clock k.state clock

    stays : (n : ℕ) → (after_own k.clock k.table s n).strays ≡ s.strays
    stays n = elim (cases_Bool (n == 0)) [ inl none ↦ rw none refl | inr some ↦ rw some refl ]

    -- with a vote frames do not
    steady : (o : Option Vote) → o ≡ vote_at k clock → is_none o ≡ false → is_unsteady k.clock k.state clock ≡ false
    steady o at some = let none : is_none (vote_at k clock) ≡ false = ap is_none (sym at) ∙ some in rw none refl

    of : (o : Option Vote) → o ≡ vote_at k clock → ¬ ((clock_by k.clock k.table s clock o).strays ≡ k.state.strays)
        → rate_of (clock_by k.clock k.table s clock o).interval (serving (clock_by k.clock k.table s clock o).anchors) ≡ None
    of None at other =
        let n = edges_own s.pace k.state.edge_us clock in
        elim (cases_Bool (is_unsteady k.clock k.state clock)) [
          | inl unsteady ↦ rw unsteady (none_serves (edges_own None k.state.edge_us clock) (carried_on k.clock.drift_us (edges_own None k.state.edge_us clock) k.state.interval))
          | inr even ↦ (let same : s.strays ≡ k.state.strays = rw even refl in absurd (other (stays n ∙ same)))
        ]
    of (Some v) at other =
        let even = steady (Some v) at refl in
        elim (cases_Bool (contradicts (known_at k.clock s (edges_to_vote k.state.edge_us v.edge_us)) (by_vote v))) [
          | inl strays ↦ rw strays refl
          | inr agrees ↦ absurd (other (rw (agrees, even) refl))
        ]
