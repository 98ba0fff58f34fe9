-- How far off an edge may lie that a device tells, by what it says, whatever lines carry.
use Rattle.std.specs.Prelude.{◌==◌, ◌&&◌, count_by, nat_lt, min}
use Rattle.std.proofs.Common.{◌≡◌, ◌∙◌, ℕ, ◌+◌, ◌-◌, ◌*◌, ◌%◌, ◌^◌, ◌≤◌, Bool, true, false, cond, List, [], ◌∷◌, Option, Some, None, refl, sym, ap, subst, arith, inl, inr}
use Rattle.std.proofs.lemmas.Bool.{cases_Bool, cases_lt, eqb-false}
use Rattle.irig_time.specs.declared.claim.Claim.{Claim}
use Rattle.irig_reader.specs.declared.rule.Step.{Step}
use Rattle.irig_lines.specs.declared.lines.KeptClaim.{KeptClaim}
use Rattle.irig_lines.specs.declared.lines.Lines.{Lines}
use Rattle.irig_lines.specs.declared.lines.Vote.{Vote}
use Rattle.irig_timekeeper.specs.declared.clock.Beat.{Beat}
use Rattle.irig_lines.specs.declared.setup.ClockRules.{ClockRules}
use Rattle.irig_timekeeper.specs.declared.clock.ClockState.{ClockState}
use Rattle.irig_vote.specs.Vote.{f_of}
use Rattle.irig_lines.specs.Widths.{reach_us, vote_us}
use Rattle.irig_lines.specs.Counting.{edges_to_vote, edges_own}
use Rattle.irig_timekeeper.specs.Rule.{missed, against_table}
use Rattle.irig_lines.specs.Steps.{is_pulse, all_kept, ends_by, ends_from, ends_near, begins_near, last_behind, first_before, less_behind, less_before, least_behind, least_before, agreed, settled}
use Rattle.irig_lines.proofs.PaceLaws.{grown_most}
use Rattle.irig_lines.specs.Paces.{grown_us}
use Rattle.irig_timekeeper.specs.Clock.{after_own, after_vote, answer_alone, answer_to_vote, lasted, bound_of, knowing, knowing_vote, learning, own_edge, beat_by, rules_on, step_to, clock_by, answer_by, settled_at}
use Rattle.irig_timekeeper.specs.Keeping.{Keeping, vote_at, after_tick, answer_at}
use Rattle.irig_timekeeper.specs.Life.{Call, after_calls}
use Rattle.irig_timekeeper.specs.Life.Call.{Hear, Tick}
use Rattle.irig_timekeeper.proofs.AgeLaws.{step_lasts}
use Rattle.irig_timekeeper.proofs.SpentLaws.{held_small, no_longer}
use Rattle.irig_lines.proofs.PartLaws.{agreed_first}
use Rattle.irig_timekeeper.proofs.VoteLaws.{come}

-- ---- a vote

no_more : (b : Bool) (p so_far : ℕ) → cond b (min p so_far) so_far ≤ so_far
no_more true p so_far = elim (cases_lt p so_far) [
  | inl less ↦ let is : min p so_far ≡ p = grind (arith, less) in omega (arith, is, less)
  | inr more ↦ let is : min p so_far ≡ so_far = grind (arith, more) in omega (arith, is)
]
no_more false p so_far = omega arith

behind_low : (window f : ℕ) (x : KeptClaim) (all ys : List (Option KeptClaim)) (so_far : ℕ) → least_behind window f x all ys so_far ≤ so_far
behind_low window f x all [] so_far = omega arith
behind_low window f x all (y ∷ ys) so_far =
    let rest = behind_low window f x all ys (less_behind window f x all y so_far) in
    let one = no_more (ends_near window x y && nat_lt f (count_by (ends_by x (last_behind x y)) all)) (last_behind x y) so_far in
    omega (arith, rest, one)

before_low : (window f : ℕ) (x : KeptClaim) (all ys : List (Option KeptClaim)) (so_far : ℕ) → least_before window f x all ys so_far ≤ so_far
before_low window f x all [] so_far = omega arith
before_low window f x all (y ∷ ys) so_far =
    let rest = before_low window f x all ys (less_before window f x all y so_far) in
    let one = no_more (begins_near window x y && nat_lt f (count_by (ends_from x (first_before x y)) all)) (first_before x y) so_far in
    omega (arith, rest, one)

pub vote_bound : (c : ClockRules) (lines : Lines) (v : Vote) → agreed c lines ≡ Some v → v.bound_us ≤ vote_us c c.drift_us
vote_bound c lines v e =
    let first = agreed_first c lines v e in
    let all = all_kept c lines in
    let behind = behind_low (reach_us c) (f_of c.redundancy) first.0 all all (reach_us c) in
    let before = before_low (reach_us c) (f_of c.redundancy) first.0 all all (reach_us c) in
    let bound = ap (λ (x : Vote). x.bound_us) first.2 in
    omega (arith, bound, behind, before)

-- ---- a tick

-- the last vote's bound is no more than a vote's, and so is what is told, but for the drift of the edges
-- that the holdover has lasted, and for 490 ms
pub record HasBound (c : ClockRules) (new : ClockState) (answer : Option Beat) : Type 0 where
  pub voted : new.bound_us ≤ vote_us c c.drift_us
  pub bound : (b : Beat) → answer ≡ Some b → b.bound_us ≤ vote_us c c.drift_us + lasted b.report.lock * c.drift_us
  pub few : (b : Beat) → answer ≡ Some b → lasted b.report.lock ≤ c.reader_rules.holdover
  pub small : (b : Beat) → answer ≡ Some b → b.bound_us ≤ vote_us c c.drift_us + 490000

module _ (k : Keeping) (clock : ℕ) where
  abbrev s : ClockState
  s = settled_at k.clock k.state clock

  abbrev most : ℕ
  most = vote_us k.clock k.clock.drift_us

  -- where it tells no edge
  waits : (new : ClockState) → new.bound_us ≤ most → HasBound k.clock new None
  waits new low = record { voted = low; bound = λ b e. absurd cc; few = λ b e. absurd cc; small = λ b e. absurd cc }

  -- and where it tells one, to which so many seconds were counted
  tells : (n : ℕ) → 1 ≤ n → (against : Bool) (vote : Option Claim) (edge voted : ℕ) (new : ClockState) → voted ≤ most → new.bound_us ≡ voted → HasBound k.clock new (Some (beat_by k.clock s against (step_to k.clock k.table s n vote) (n - 1) edge voted))
  tells n some against vote edge voted new low then = record {
    voted = omega (arith, then, low);
    bound = λ b e. omega (arith, is_bound b e, low, grown_most k.clock.drift_us s.pace (lasted b.report.lock));
    few = λ b e.
        let lasts = step_lasts k.clock.prefers_frames (rules_on k.clock s.pace k.state.reader n) k.table (missed k.clock.prefers_frames (rules_on k.clock s.pace k.state.reader n) k.table (n - 1) k.state.reader) vote in
        subst (λ (x : Beat). lasted x.report.lock ≤ k.clock.reader_rules.holdover) (is_beat b e) (omega (arith, lasts, no_longer k.clock s.pace k.state.reader n));
    small = λ b e.
        let held = held_small k.clock s.pace k.state.reader n k.clock.prefers_frames k.table vote some in
        let bound = subst (λ (x : Beat). grown_us k.clock.drift_us s.pace (lasted x.report.lock) ≤ 490000) (is_beat b e) held in
        omega (arith, is_bound b e, low, bound);
  }
    where
      is_beat : (b : Beat) → Some (beat_by k.clock s against (step_to k.clock k.table s n vote) (n - 1) edge voted) ≡ Some b → beat_by k.clock s against (step_to k.clock k.table s n vote) (n - 1) edge voted ≡ b
      is_beat b e = cc

      is_bound : (b : Beat) → Some (beat_by k.clock s against (step_to k.clock k.table s n vote) (n - 1) edge voted) ≡ Some b → b.bound_us ≡ bound_of k.clock.drift_us s.pace voted b.report.lock
      is_bound b e = ap (λ (x : Beat). x.bound_us) (sym (is_beat b e)) ∙ ap (λ (x : Beat). bound_of k.clock.drift_us s.pace voted x.report.lock) (is_beat b e)

  pub tick_bound : k.state.bound_us ≤ most → HasBound k.clock (after_tick k clock).state (answer_at k clock)
  tick_bound low = of (vote_at k clock) refl
    where
      own : (n : ℕ) (test : Bool) → (n == 0) ≡ test → HasBound k.clock (knowing k.clock s n (after_own k.clock k.table s n)) (answer_alone k.clock k.table s n)
      own n true none = rw none (waits _ low)
      own n false some = rw some (tells n (let more = eqb-false n 0 some in omega (arith, more)) false None (own_edge s.pace k.state.edge_us n) k.state.bound_us _ low refl)

      voted : (v : Vote) → v.bound_us ≤ most → (n : ℕ) (test : Bool) → (n == 0) ≡ test → HasBound k.clock (learning k.clock (knowing_vote k.clock s v n (after_vote k.clock k.table s v n))) (answer_to_vote k.clock k.table s v n)
      voted v small n true none = rw none (waits _ small)
      voted v small n false some = rw some (tells n (let more = eqb-false n 0 some in omega (arith, more)) (against_table k.table (Some v.claim)) (Some v.claim) v.edge_us v.bound_us _ small refl)

      of : (o : Option Vote) → vote_at k clock ≡ o → HasBound k.clock (clock_by k.clock k.table s clock o) (answer_by k.clock k.table s clock o)
      of None e = own (edges_own s.pace k.state.edge_us clock) _ refl
      of (Some v) e = voted v (vote_bound k.clock (settled clock k.state.lines) v (come clock (agreed k.clock (settled clock k.state.lines)) v e).0) (edges_to_vote k.state.edge_us v.edge_us) _ refl

-- ---- a life

module _ (new : Keeping) (begins : new.state.bound_us ≤ vote_us new.clock new.clock.drift_us) where
  same_clock : (calls : List Call) → (after_calls new calls).clock ≡ new.clock
  same_clock [] = refl
  same_clock (Hear port rise width ∷ calls) = elim (cases_Bool (is_pulse width)) [ inl narrow ↦ rw narrow (same_clock calls) | inr wide ↦ rw wide (same_clock calls) ]
  same_clock (Tick now ∷ calls) = same_clock calls

  -- what a tick behind such calls leaves, if the last vote's bound was no more
  tick_so : (calls : List Call) (clock : ℕ) → (after_calls new calls).state.bound_us ≤ vote_us new.clock new.clock.drift_us → HasBound new.clock (after_tick (after_calls new calls) clock).state (answer_at (after_calls new calls) clock)
  tick_so calls clock =
      subst (λ (c : ClockRules). (after_calls new calls).state.bound_us ≤ vote_us c c.drift_us → HasBound c (after_tick (after_calls new calls) clock).state (answer_at (after_calls new calls) clock)) (same_clock calls)
      (tick_bound (after_calls new calls) clock)

  pub life_bound : (calls : List Call) → (after_calls new calls).state.bound_us ≤ vote_us new.clock new.clock.drift_us
  life_bound [] = begins
  life_bound (Hear port rise width ∷ calls) = elim (cases_Bool (is_pulse width)) [ inl narrow ↦ rw narrow (life_bound calls) | inr wide ↦ rw wide (life_bound calls) ]
  life_bound (Tick now ∷ calls) = (tick_so calls (now % 2 ^ 32) (life_bound calls)).voted

  pub answer_bound : (calls : List Call) (clock : ℕ) → HasBound new.clock (after_tick (after_calls new calls) clock).state (answer_at (after_calls new calls) clock)
  answer_bound calls clock = tick_so calls clock (life_bound calls)
