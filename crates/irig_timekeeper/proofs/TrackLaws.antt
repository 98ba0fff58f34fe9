-- A device at a tick keeps to the truth.
use Rattle.std.specs.Prelude.{◌==◌}
use Rattle.std.proofs.Common.{◌≡◌, ◌∙◌, ℕ, suc, ◌+◌, ◌-◌, ◌*◌, ◌%◌, ◌^◌, ◌<◌, ◌≤◌, ◌⊎◌, List, Option, Some, None, refl, sym, ap, subst, arith, inl, inr, Bool, true, false}
use Rattle.std.proofs.Math.Nat.{mul-le-mul_left, mul-le-mul_right}
use Rattle.std.proofs.lemmas.Bool.{cases_Bool, cases_lt, eqb-true, eqb-false}
use Rattle.irig_time.specs.declared.second.UtcSecond.{UtcSecond}
use Rattle.irig_time.specs.Timelines.{TimelineValue, IsSecond, truth_at}
use Rattle.irig_time.specs.Tables.{TableValue}
use Rattle.irig_time.proofs.SecondAt.{claim_is}
use Rattle.irig_hold.specs.Steps.{HoldValue}
use Rattle.irig_reader.specs.declared.rules.ReaderRules.{ReaderRules}
use Rattle.irig_reader.specs.declared.report.Cause.TheVariants as cause
use Rattle.irig_reader.specs.declared.rule.State.{State}
use Rattle.irig_reader.specs.declared.rule.State.TheVariants.{Idle, Locked}
use Rattle.irig_reader.specs.declared.rule.Step.{Step}
use Rattle.irig_lines.specs.declared.lines.Vote.{Vote}
use Rattle.irig_timekeeper.specs.declared.clock.Beat.{Beat}
use Rattle.irig_lines.specs.Edges.{IsNear}
use Rattle.irig_lines.specs.Exactness.{most_vote_us}
use Rattle.irig_lines.specs.Counting.{edges_between, edges_to, edges_to_vote, edges_own}
use Rattle.irig_lines.specs.declared.pace.Pace.{Pace}
use Rattle.irig_lines.specs.Paces.{IsSound, ahead_us, edge_on, grown_us, pace_on}
use Rattle.irig_lines.proofs.PaceLaws.{grown_more, grown_on, rest_grown}
use Rattle.irig_timekeeper.specs.Rule.{missed, step_behind, against_table, step_checked}
use Rattle.irig_timekeeper.specs.Truth.{IsTrueVote, IsEdgeAt, StandsAt, IsOnTrack, IsToldTruly, IsDevice, StandsSurely}
use Rattle.irig_sync.specs.Lines.{Pulse}
use Rattle.irig_vote.specs.Vote.{f_of}
use Rattle.irig_timekeeper.specs.Truth.{AreHeardTruly}
use Rattle.irig_lines.specs.declared.setup.ClockRules.{ClockRules}
use Rattle.irig_timekeeper.specs.declared.clock.ClockState.{ClockState}
use Rattle.irig_timekeeper.specs.Clock.{age_of, is_held, is_unsteady, knowing_vote, lasted, learning, bound_of, pace_unless, rules_on, own_edge, beat_by, step_to, after_vote, answer_to_vote, after_own, answer_alone, clock_by, answer_by, settled_at}
use Rattle.irig_timekeeper.specs.Keeping.{Keeping, vote_at, after_tick, answer_at}
use Rattle.irig_timekeeper.proofs.VoteLaws.{TellsTruly, vote_is_true}
use Rattle.irig_lines.proofs.CountingLaws.{apart, counts, rises}
use Rattle.irig_timekeeper.proofs.TimeLaws.{own_come, own_count, still_edge, own_edge_at, lasts_so, voted_count}
use Rattle.irig_timekeeper.proofs.AgeLaws.{alone_step, gone, gone_idle, missed_idle}
use Rattle.irig_timekeeper.proofs.DoubtedSteps.{rule_announces}
use Rattle.irig_timekeeper.proofs.SpentLaws.{either_rules, is_by, unless_grown}
use Rattle.irig_timekeeper.proofs.SureSteps.{IsSureStep, sure_step, missed_surely}

-- so many seconds behind an edge that lies near T(w), as a device's edge does whose last vote was as old,
-- its next edge lies near T(w + n), by what comes of the seconds since that vote, if the holdover goes on
pub record KeepsPace (edges : ℕ → ℕ) (early late d : ℕ) (pace : Option Pace) (edge voted age n : ℕ) : Type 0 where
  pub sound : IsSound pace
  pub near : (w more k : ℕ) → voted ≤ most_vote_us → IsNear edges (early + voted + more) (late + voted + more) w edge → more ≤ grown_us d pace age → more ≤ 490000 → grown_us d pace age + n * d ≤ 490000 → 1 ≤ n → age + n ≤ k
      → IsNear edges (early + voted + grown_us d pace k) (late + voted + grown_us d pace k) (w + n) (edge + ahead_us pace n)

-- so does a clock from its last edge, if there is one
abbrev pub StepsBy : (ℕ → ℕ) → (early late : ℕ) → ClockRules → ClockState → (tick now : ℕ) → Type 0
StepsBy edges early late c s tick now =
    (e edge : ℕ) → s.edge_us ≡ Some e → IsEdgeAt e edge tick → KeepsPace edges early late c.drift_us s.pace edge s.bound_us (age_of s.reader) (edges_own s.pace s.edge_us (now % 2 ^ 32))

-- so does a device at a tick without a vote
abbrev pub StepsAt : (ℕ → ℕ) → (early late : ℕ) → Keeping → (tick now : ℕ) → Type 0
StepsAt edges early late k tick now = vote_at k (now % 2 ^ 32) ≡ None → StepsBy edges early late k.clock (settled_at k.clock k.state (now % 2 ^ 32)) tick now

-- it announces a later second than the last one, and stands there
pub record IsToldNewly (t : TimelineValue) (d : ℕ) (edges : ℕ → ℕ) (early late : ℕ) (M : ℕ) (table : TableValue) (now : ℕ) (b : Beat) (u : UtcSecond) (s : State) (voted : ℕ) (pace : Option Pace) (o : Option ℕ) : Type 0 where
  pub told : IsToldTruly t edges (early + b.bound_us) (late + b.bound_us) now b u
  pub later : M < told.m
  pub track : IsOnTrack t edges early late d told.m table now s voted pace o

module _ (t : TimelineValue) (d : ℕ) (edges : ℕ → ℕ) (early late : ℕ) (prefers : Bool) (rules : ReaderRules) (table : TableValue) (is : IsDevice t d edges rules table) (room : early + late ≤ 3002) (M : ℕ) where
  -- ---- with a vote

  -- a true vote leads to the truth from there, or from nothing
  module _ (now : ℕ) (v : Vote) (vote : IsTrueVote t edges early late now v) where
    m : ℕ
    m = vote.truth.second + 1

    true_vote : Some v.claim ≡ truth_at t vote.truth.second
    true_vote = sym ((claim_is t vote.truth.second v.claim).1 vote.truth.truth)

    edge_now : IsEdgeAt v.edge_us vote.edge now
    edge_now = record { clock = vote.clock; come = vote.come; soon = omega (arith, vote.soon) }

    near_now : IsNear edges (early + v.bound_us + 0) (late + v.bound_us + 0) (vote.truth.second + 1) vote.edge
    near_now = record {
      least = omega (arith, vote.truth.near.least);
      most = omega (arith, vote.truth.near.most);
    }

    votes : (s : State) → StandsSurely t table vote.truth.second s → IsSureStep t table (vote.truth.second + 1) (step_checked prefers rules table s (Some v.claim))
    votes s at = sure_step t rules table is.sound is.knows prefers vote.truth.second s (Some v.claim) at (inr true_vote)

    on_track : (last : ℕ) (s : State) (pace : Option Pace) → last ≤ vote.truth.second + 1 → StandsSurely t table vote.truth.second s → IsOnTrack t edges early late d last table now (step_checked prefers rules table s (Some v.claim)).state v.bound_us pace (Some v.edge_us)
    on_track last s pace low at = inr (
      vote.truth.second + 1,
      0,
      record {
        edge = vote.edge;
        at = edge_now;
        near = near_now;
        small = vote.small;
        truth = (votes s at).state;
        grown = omega arith;
        few = omega arith;
        behind = low;
      },
    )

    abbrev told : (s : State) (b : Beat) (u : UtcSecond) → StandsSurely t table vote.truth.second s → b.edge_us ≡ v.edge_us → v.bound_us ≤ b.bound_us → (step_checked prefers rules table s (Some v.claim)).report.announce ≡ Some u → IsToldTruly t edges (early + b.bound_us) (late + b.bound_us) now b u
    told s b u at e wide says = record {
      m = vote.truth.second + 1;
      edge = vote.edge;
      clock = e ∙ vote.clock;
      near = record { least = omega (arith, wide, near_now.least); most = omega (arith, wide, near_now.most) };
      come = vote.come;
      soon = omega (arith, vote.soon);
      truth = (votes s at).says u says;
    }

    -- the edges counted from the last edge, and where the rule then stands before the vote
    record Comes (tick : ℕ) (s : State) (e n : ℕ) : Type 0 where
      before : 1 ≤ n → StandsSurely t table vote.truth.second (missed prefers rules table (n - 1) s)
      none : n ≡ 0 → (pace : Option Pace) → IsOnTrack t edges early late d M table now s v.bound_us pace (Some v.edge_us)
      later : 1 ≤ n → M < vote.truth.second + 1

    idle_begins : (tick : ℕ) (s : State) → s ≡ Idle → M ≡ 0 → Comes tick s 0 1
    idle_begins tick s idle never = record {
      before = λ some. subst (StandsSurely t table vote.truth.second) (sym (missed_idle prefers rules table 0 s idle)) tt;
      none = λ nothing pace. absurd (omega (arith, nothing));
      later = λ some. omega (arith, never);
    }

    -- the edges of seconds rise
    up : (i j : ℕ) → i ≤ j → edges i ≤ edges j
    up i j less =
        let there : i + (j - i) ≡ j = omega (arith, less) in
        let rise = subst (λ (x : ℕ). edges i + (j - i) * 999900 ≤ edges x) there (rises d edges is.steady i (j - i)) in
        omega (arith, rise)

    up_one : (i j : ℕ) → i < j → edges i + 999900 ≤ edges j
    up_one i j less =
        let there : i + (j - i) ≡ j = omega (arith, less) in
        let rise = subst (λ (x : ℕ). edges i + (j - i) * 999900 ≤ edges x) there (rises d edges is.steady i (j - i)) in
        omega (arith, rise, less)

    module _ (tick : ℕ) (order : tick ≤ now) (soon : now ≤ tick + 1800000000) (e edge : ℕ) (at : IsEdgeAt e edge tick) where
      counted_at : edges_to e v.edge_us ≡ edges_between edge vote.edge
      counted_at = voted_count tick now order soon e edge at v.edge_us vote.edge edge_now vote.soon

      idle_comes : (s : State) → s ≡ Idle → edges M + late + most_vote_us < edge + 500000 → Comes tick s e (edges_to e v.edge_us)
      idle_comes s idle ahead = record {
        before = λ some. subst (StandsSurely t table vote.truth.second) (sym (missed_idle prefers rules table (edges_to e v.edge_us - 1) s idle)) tt;
        none = λ nothing pace. inl (
          idle,
          (
            vote.edge,
            edge_now,
            elim (cases_lt (vote.truth.second + 1) M) [
              | inl less ↦ absurd (omega (arith, room, vote.small, up_one (vote.truth.second + 1) M less, near_now.most, vote.soon, at.come, order, ahead))
              | inr more ↦ omega (arith, room, vote.small, up M (vote.truth.second + 1) more, near_now.least)
            ],
          ),
        );
        later = λ some. elim (cases_lt M (vote.truth.second + 1)) [
          | inl less ↦ less
          | inr more ↦ absurd (omega (arith, room, vote.small, up (vote.truth.second + 1) M more, near_now.most, ahead, counted_at, some))
        ];
      }

    module _ (tick : ℕ) (order : tick ≤ now) (soon : now ≤ tick + 1800000000) (s : State) (voted : ℕ) (pace : Option Pace) (e w more : ℕ) (stands : StandsAt t edges early late d M table tick s voted pace e w more) where
      counted : edges_to e v.edge_us ≡ edges_between stands.edge vote.edge
      counted = counted_at tick order soon e stands.edge stands.at

      -- time goes on
      not_before : w ≤ vote.truth.second + 1
      not_before = elim (cases_lt (vote.truth.second + 1) w) [
        | inr later ↦ later
        | inl before ↦
            let k : ℕ = w - (vote.truth.second + 1) in
            let there : vote.truth.second + 1 + k ≡ w = omega (arith, before) in
            let rise = subst (λ (i : ℕ). edges (vote.truth.second + 1) + k * 999900 ≤ edges i) there (rises d edges is.steady (vote.truth.second + 1) k) in
            let one : 1 ≤ k = omega (arith, before) in
            absurd (omega (arith, room, rise, one, stands.few, vote.small, stands.small, stands.near.least, near_now.most, vote.soon, stands.at.come, order))
      ]

      k : ℕ
      k = vote.truth.second + 1 - w

      there : w + k ≡ vote.truth.second + 1
      unfolding k
      there = omega (arith, not_before)

      -- as long as an edge lies less than half a second off it counts right
      in_holdover : more + k * d ≤ 490200 → edges_between stands.edge vote.edge ≡ k
      unfolding k
      in_holdover few =
          let here = subst (λ (i : ℕ). IsNear edges (early + v.bound_us + 0) (late + v.bound_us + 0) i vote.edge) (sym there) near_now in
          counts d (early + voted + more) (late + voted + more) (early + v.bound_us + 0) (late + v.bound_us + 0) w (vote.truth.second + 1 - w) stands.edge vote.edge edges is.steady stands.near here
          (omega (arith, room, vote.small, stands.small, few)) (omega (arith, room, vote.small, stands.small, few))

      -- beyond that enough
      beyond : k ≤ edges_between stands.edge vote.edge + 1
      unfolding k
      beyond =
          let n : ℕ = vote.truth.second + 1 - w in
          let far = apart d edges is.steady w n in
          let upto = subst (λ (i : ℕ). edges w + n * 1000000 ≤ edges i + n * d) there far.least in
          let slow = mul-le-mul_left n is.steady.few in
          let few : n ≤ 1803 = omega (arith, room, vote.small, stands.small, upto, slow, stands.few, near_now.least, stands.near.most, vote.come, soon, stands.at.soon) in
          let drifts = mul-le-mul_left d few in
          omega (arith, room, vote.small, stands.small, upto, drifts, stands.few, is.steady.few, near_now.least, stands.near.most)

      comes_in : (n : ℕ) → n ≡ k → Comes tick s e n
      comes_in n same = record {
        before = λ some.
            let reached : w + (n - 1) ≡ vote.truth.second = omega (arith, same, there, some) in
            subst (λ (i : ℕ). StandsSurely t table i (missed prefers rules table (n - 1) s)) reached (missed_surely t rules table is.sound is.knows prefers w (n - 1) s stands.truth);
        none = λ zero pace.
            let at : w ≡ vote.truth.second + 1 = omega (arith, same, there, zero) in
            inr (
              vote.truth.second + 1,
              0,
              record {
                edge = vote.edge;
                at = edge_now;
                near = near_now;
                small = vote.small;
                truth = subst (λ (i : ℕ). StandsSurely t table i s) at stands.truth;
                grown = omega arith;
                few = omega arith;
                behind = omega (arith, stands.behind, at);
              },
            );
        later = λ some. omega (arith, same, there, some, stands.behind);
      }

      -- by then the holdover is spent
      comes_beyond : (n : ℕ) → 490200 < more + k * d → k ≤ n + 1 → rules.holdover ≡ 0 → Comes tick s e n
      comes_beyond n long enough ended =
          let least : 3 ≤ k = elim (cases_lt k 3) [
            | inr least ↦ least
            | inl few ↦ (let most = mul-le-mul_right d (let two : k ≤ 2 = omega (arith, few) in two) in absurd (omega (arith, most, long, stands.few, is.steady.few)))
          ] in
          record {
            before = λ some.
                let gone : missed prefers rules table (n - 1) s ≡ Idle = gone_idle prefers rules table (n - 1) s (omega (arith, least, enough)) (omega (arith, least, enough, ended)) in
                subst (StandsSurely t table vote.truth.second) (sym gone) tt;
            none = λ zero pace. absurd (omega (arith, zero, least, enough));
            later = λ some. omega (arith, there, least, stands.behind);
          }

      stands_comes : (n : ℕ) → n ≡ edges_to e v.edge_us → (490000 < grown_us d pace (age_of s) + n * d → rules.holdover ≡ 0) → Comes tick s e n
      stands_comes n same ends = elim (cases_lt 490200 (more + k * d)) [
        | inl long ↦
            let enough : k ≤ n + 1 = omega (arith, room, beyond, counted, same) in
            let drifts = mul-le-mul_right d enough in
            comes_beyond n long enough (ends (omega (arith, long, drifts, stands.grown, is.steady.few)))
        | inr few ↦ comes_in n (same ∙ counted ∙ in_holdover few)
      ]

  -- ---- without a vote

  module _ (tick now : ℕ) (order : tick ≤ now) (soon : now ≤ tick + 1800000000) (e edge : ℕ) (at : IsEdgeAt e edge tick) where
    module _ (s : State) (pace : Option Pace) (sound : IsSound pace) (n : ℕ) (same_count : n ≡ own_come pace edge now) (some : 1 ≤ n) where
      abbrev last : Step
      last = step_behind prefers rules table (n - 1) s None

      one_more : suc (n - 1) ≡ n
      one_more = omega (arith, some)

      idle_alone : (voted : ℕ) → s ≡ Idle → edges M + late + most_vote_us < edge + 500000 → IsOnTrack t edges early late d M table now last.state voted (pace_on (is_held last.state) n pace) (Some (edge_on pace e n))
      idle_alone voted idle ahead = inl (missed_idle prefers rules table (suc (n - 1)) s idle, (edge + ahead_us pace n, own_edge_at tick now order soon e edge at pace sound n same_count some, omega (arith, room, ahead)))

      idle_says : s ≡ Idle → last.report.announce ≡ None
      idle_says idle = elim (alone_step prefers rules table (missed prefers rules table (n - 1) s)) [
        | inl stop ↦ stop.1
        | inr older ↦ let both : Idle ≡ Locked older.locked.h = sym (missed_idle prefers rules table (suc (n - 1)) s idle) ∙ older.locked.is in absurd cc
      ]

      module _ (voted w more : ℕ) (near : IsNear edges (early + voted + more) (late + voted + more) w edge) (small : voted ≤ most_vote_us) (truth : StandsSurely t table w s) (grown : more ≤ grown_us d pace (age_of s)) (few : more ≤ 490000)
          (keeps : KeepsPace edges early late d pace edge voted (age_of s) n) (ends : (rules.holdover ≡ 0) ⊎ (grown_us d pace (age_of s) + n * d ≤ 490000)) where
        ahead_then : M ≤ w → edges M + late + most_vote_us < edge + ahead_us pace n + 500000
        ahead_then low =
            let rise = rises d edges is.steady M (w - M) in
            let there : M + (w - M) ≡ w = omega (arith, low) in
            let upto = subst (λ (x : ℕ). edges M + (w - M) * 999900 ≤ edges x) there rise in
            let long = (lasts_so pace sound n).least in
            omega (arith, room, small, upto, few, near.least, some, long)

        -- while it goes on the holdover is not spent
        unspent : (h : HoldValue) → last.state ≡ Locked h → h.age ≡ age_of s + suc (n - 1) → h.age ≤ rules.holdover → grown_us d pace (age_of s) + n * d ≤ 490000
        unspent h locked older young = elim ends [ inl none ↦ absurd (omega (arith, older, young, none)) | inr goes ↦ goes ]

        -- it stands at the next second
        goes_to : (low : ℕ) → low ≤ w + n → (h : HoldValue) → last.state ≡ Locked h → h.age ≡ age_of s + suc (n - 1) → h.age ≤ rules.holdover → StandsAt t edges early late d low table now last.state voted (pace_on (is_held last.state) n pace) (edge_on pace e n) (w + n) (grown_us d pace (age_of s + n))
        goes_to low upto h locked older young =
            let reached : w + suc (n - 1) ≡ w + n = omega (arith, one_more) in
            let age : age_of last.state ≡ age_of s + n = ap age_of locked ∙ (let same : h.age ≡ age_of s + n = omega (arith, older, one_more) in same) in
            let goes = unspent h locked older young in
            let held : is_held last.state ≡ true = ap is_held locked in
            let same : grown_us d (pace_on (is_held last.state) n pace) (age_of last.state) ≡ grown_us d pace (age_of s + n) = rw (held, age) (rest_grown d n pace (age_of s + n)) in
            record {
              edge = edge + ahead_us pace n;
              at = own_edge_at tick now order soon e edge at pace sound n same_count some;
              near = keeps.near w more (age_of s + n) small near grown few goes some (omega arith);
              small = small;
              truth = subst (λ (i : ℕ). StandsSurely t table i last.state) reached (missed_surely t rules table is.sound is.knows prefers w (suc (n - 1)) s truth);
              grown = omega (arith, same);
              few = omega (arith, goes, grown_on d pace (age_of s) n);
              behind = upto;
            }

        stands_alone : M ≤ w → IsOnTrack t edges early late d M table now last.state voted (pace_on (is_held last.state) n pace) (Some (edge_on pace e n))
        stands_alone low = elim (gone prefers rules table (n - 1) s) [
          | inl idle ↦ inl (idle, (edge + ahead_us pace n, own_edge_at tick now order soon e edge at pace sound n same_count some, ahead_then low))
          | inr older ↦ inr (w + n, grown_us d pace (age_of s + n), goes_to M (omega (arith, low)) older.h older.is older.older older.young)
        ]

        says_alone : (b : Beat) (u : UtcSecond) → b.edge_us ≡ edge_on pace e n → b.bound_us ≡ bound_of d pace voted b.report.lock → last.report.lock ≡ b.report.lock → last.report.announce ≡ Some u → M ≤ w
            → IsToldNewly t d edges early late M table now b u last.state voted (pace_on (is_held last.state) n pace) (Some (edge_on pace e n))
        says_alone b u is_edge is_bound locks says low = elim (alone_step prefers rules table (missed prefers rules table (n - 1) s)) [
          | inl stop ↦ absurd (let both : None ≡ Some u = sym stop.1 ∙ says in cc)
          | inr older ↦ elim (gone prefers rules table (n - 1) s) [
            | inl idle ↦ absurd (let both : Idle ≡ Locked older.locked.h = sym idle ∙ older.locked.is in cc)
            | inr gone ↦
                let before = missed_surely t rules table is.sound is.knows prefers w (n - 1) s truth in
                let reached : w + (n - 1) + 1 ≡ w + n = omega (arith, some) in
                let second = (sure_step t rules table is.sound is.knows prefers (w + (n - 1)) (missed prefers rules table (n - 1) s) None before (inl refl)).says u says in
                let age : older.locked.h.age ≡ gone.h.age = ap age_of (sym older.locked.is ∙ gone.is) in
                let lasts : lasted b.report.lock ≡ age_of (missed prefers rules table (n - 1) s) + 1 = ap lasted (sym locks ∙ older.says) in
                let held : age_of s + n ≤ lasted b.report.lock = omega (arith, lasts, older.locked.older, age, gone.older, one_more) in
                let then = keeps.near w more (lasted b.report.lock) small near grown few (unspent gone.h gone.is gone.older gone.young) some held in
                record {
                  told = record {
                    m = w + n;
                    edge = edge + ahead_us pace n;
                    clock = is_edge ∙ (own_edge_at tick now order soon e edge at pace sound n same_count some).clock;
                    near = record { least = omega (arith, is_bound, then.least); most = omega (arith, is_bound, then.most) };
                    come = (own_edge_at tick now order soon e edge at pace sound n same_count some).come;
                    soon = (own_edge_at tick now order soon e edge at pace sound n same_count some).soon;
                    truth = subst (λ (i : ℕ). IsSecond t i u) reached second;
                  };
                  later = omega (arith, low, some);
                  track = inr (w + n, grown_us d pace (age_of s + n), goes_to (w + n) (omega arith) gone.h gone.is gone.older gone.young);
                }
          ]
        ]

  -- ---- a tick, by the last edge

  module _ (tick now : ℕ) (order : tick ≤ now) (soon : now ≤ tick + 1800000000) where
    comes : (v : Vote) (vote : IsTrueVote t edges early late now v) (voted : ℕ) (pace : Option Pace) (o : Option ℕ) (s : State) → IsOnTrack t edges early late d M table tick s voted pace o → (n : ℕ) → n ≡ edges_to_vote o v.edge_us → (490000 < grown_us d pace (age_of s) + n * d → rules.holdover ≡ 0)
        → Comes now v vote tick s 0 n
    comes v vote voted pace None s idle n same ends = subst (Comes now v vote tick s 0) (sym same) (idle_begins now v vote tick s idle.0 idle.1)
    comes v vote voted pace (Some e) s (inl idle) n same ends =
        let c = subst (Comes now v vote tick s e) (sym same) (idle_comes now v vote tick order soon e idle.1.0 idle.1.1 s idle.0 idle.1.2) in
        record { before = c.before; none = c.none; later = c.later }
    comes v vote voted pace (Some e) s (inr at) n same ends = let c = stands_comes now v vote tick order soon s voted pace e at.0 at.1 at.2 n same ends in record { before = c.before; none = c.none; later = c.later }

    own_waits : (voted : ℕ) (pace : Option Pace) (o : Option ℕ) (s : State) → IsOnTrack t edges early late d M table tick s voted pace o → edges_own pace o (now % 2 ^ 32) ≡ 0 → IsOnTrack t edges early late d M table now s voted pace o
    own_waits voted pace None s idle none = idle
    own_waits voted pace (Some e) s (inl idle) none =
        let at = idle.1 in
        inl (idle.0, (at.0, still_edge tick now order soon e at.0 at.1 pace (sym (own_count tick now order soon e at.0 at.1 pace) ∙ none), at.2))
    own_waits voted pace (Some e) s (inr at) none =
        let stands = at.2 in
        inr (
          at.0,
          at.1,
          record {
            edge = stands.edge;
            at = still_edge tick now order soon e stands.edge stands.at pace (sym (own_count tick now order soon e stands.edge stands.at pace) ∙ none);
            near = stands.near;
            small = stands.small;
            truth = stands.truth;
            grown = stands.grown;
            few = stands.few;
            behind = stands.behind;
          },
        )

    -- how it goes on from its last edge, if there is one
    abbrev GoesOn : (voted : ℕ) → Option Pace → Option ℕ → State → ℕ → Type 0
    GoesOn voted pace o s n = (e edge : ℕ) → o ≡ Some e → IsEdgeAt e edge tick → KeepsPace edges early late d pace edge voted (age_of s) n

    -- its holdover ends there, or no edge lies too far off
    abbrev Ends : Option Pace → State → ℕ → Type 0
    Ends pace s n = (rules.holdover ≡ 0) ⊎ (grown_us d pace (age_of s) + n * d ≤ 490000)

    -- where the reader and what was learned then stand
    abbrev reader_then : State → ℕ → State
    reader_then s n = (step_behind prefers rules table (n - 1) s None).state

    own_tracks : (voted : ℕ) (pace : Option Pace) (o : Option ℕ) (s : State) → IsOnTrack t edges early late d M table tick s voted pace o → (n : ℕ) → n ≡ edges_own pace o (now % 2 ^ 32) → 1 ≤ n → GoesOn voted pace o s n → Ends pace s n
        → IsOnTrack t edges early late d M table now (reader_then s n) voted (pace_on (is_held (reader_then s n)) n pace) (Some (own_edge pace o n))
    own_tracks voted pace None s idle n same some keeps ends = absurd (omega (arith, same, some))
    own_tracks voted pace (Some e) s (inl idle) n same some keeps ends =
        let at = idle.1 in
        let paced = keeps e at.0 refl at.1 in
        idle_alone tick now order soon e at.0 at.1 s pace paced.sound n (same ∙ own_count tick now order soon e at.0 at.1 pace) some voted idle.0 idle.1.2
    own_tracks voted pace (Some e) s (inr at) n same some keeps ends =
        let stands = at.2 in
        let paced = keeps e stands.edge refl stands.at in
        stands_alone tick now order soon e stands.edge stands.at s pace paced.sound n (same ∙ own_count tick now order soon e stands.edge stands.at pace) some voted at.0 at.1 stands.near stands.small stands.truth stands.grown stands.few paced ends stands.behind

    own_says : (voted : ℕ) (pace : Option Pace) (o : Option ℕ) (s : State) → IsOnTrack t edges early late d M table tick s voted pace o → (n : ℕ) → n ≡ edges_own pace o (now % 2 ^ 32) → 1 ≤ n → GoesOn voted pace o s n → Ends pace s n → (b : Beat) (u : UtcSecond) → b.edge_us ≡ own_edge pace o n → b.bound_us ≡ bound_of d pace voted b.report.lock
        → (step_behind prefers rules table (n - 1) s None).report.lock ≡ b.report.lock → (step_behind prefers rules table (n - 1) s None).report.announce ≡ Some u → IsToldNewly t d edges early late M table now b u (reader_then s n) voted (pace_on (is_held (reader_then s n)) n pace) (Some (own_edge pace o n))
    own_says voted pace None s idle n same some keeps ends b u is_edge is_bound locks says = absurd (omega (arith, same, some))
    own_says voted pace (Some e) s (inl idle) n same some keeps ends b u is_edge is_bound locks says =
        let at = idle.1 in
        let paced = keeps e at.0 refl at.1 in
        absurd (let both : None ≡ Some u = sym (idle_says tick now order soon e at.0 at.1 s pace paced.sound n (same ∙ own_count tick now order soon e at.0 at.1 pace) some idle.0) ∙ says in cc)
    own_says voted pace (Some e) s (inr at) n same some keeps ends b u is_edge is_bound locks says =
        let stands = at.2 in
        let paced = keeps e stands.edge refl stands.at in
        says_alone tick now order soon e stands.edge stands.at s pace paced.sound n (same ∙ own_count tick now order soon e stands.edge stands.at pace) some voted at.0 at.1 stands.near stands.small stands.truth stands.grown stands.few paced ends b u is_edge is_bound locks says stands.behind

  -- by the own counter it tells no jump
  own_calm : (voted : ℕ) (pace : Option Pace) (o : Option ℕ) (s : State) (tick : ℕ) → IsOnTrack t edges early late d M table tick s voted pace o → (n : ℕ) → ¬ ((step_behind prefers rules table n s None).report.cause ≡ cause.Jump)
  own_calm voted pace None s tick idle n = calm_from 0 s n (subst (StandsSurely t table 0) (sym idle.0) tt)
    where
      calm_from : (w : ℕ) (s : State) (n : ℕ) → StandsSurely t table w s → ¬ ((step_behind prefers rules table n s None).report.cause ≡ cause.Jump)
      calm_from w s n at = (sure_step t rules table is.sound is.knows prefers (w + n) (missed prefers rules table n s) None (missed_surely t rules table is.sound is.knows prefers w n s at) (inl refl)).jump
  own_calm voted pace (Some e) s tick (inl idle) n = calm_from 0 s n (subst (StandsSurely t table 0) (sym idle.0) tt)
    where
      calm_from : (w : ℕ) (s : State) (n : ℕ) → StandsSurely t table w s → ¬ ((step_behind prefers rules table n s None).report.cause ≡ cause.Jump)
      calm_from w s n at = (sure_step t rules table is.sound is.knows prefers (w + n) (missed prefers rules table n s) None (missed_surely t rules table is.sound is.knows prefers w n s at) (inl refl)).jump
  own_calm voted pace (Some e) s tick (inr at) n = (sure_step t rules table is.sound is.knows prefers (at.0 + n) (missed prefers rules table n s) None (missed_surely t rules table is.sound is.knows prefers at.0 n s at.2.truth) (inl refl)).jump

-- with its lines settled it stands there yet
settled_track : (t : TimelineValue) (edges : ℕ → ℕ) (early late d M : ℕ) (table : TableValue) (tick : ℕ) (s : State) (voted : ℕ) (unsteady : Bool) (pace : Option Pace) (o : Option ℕ) → IsOnTrack t edges early late d M table tick s voted pace o → IsOnTrack t edges early late d M table tick s voted (pace_unless unsteady pace) o
settled_track t edges early late d M table tick s voted unsteady pace None on = on
settled_track t edges early late d M table tick s voted unsteady pace (Some e) (inl idle) = inl idle
settled_track t edges early late d M table tick s voted unsteady pace (Some e) (inr at) =
    let stands = at.2 in
    inr (
      at.0,
      at.1,
      record {
        edge = stands.edge;
        at = stands.at;
        near = stands.near;
        small = stands.small;
        truth = stands.truth;
        grown = omega (arith, stands.grown, unless_grown d unsteady pace (age_of s));
        few = stands.few;
        behind = stands.behind;
      },
    )

-- ---- a tick

-- a device that is on its track stays there, and what it answers is true
pub record KeepsTrue (t : TimelineValue) (d : ℕ) (edges : ℕ → ℕ) (early late : ℕ) (M : ℕ) (table : TableValue) (now : ℕ) (new : ClockState) (answer : Option Beat) : Type 0 where
  pub track : IsOnTrack t edges early late d M table now new.reader new.bound_us new.pace new.edge_us
  pub told : (b : Beat) (u : UtcSecond) → answer ≡ Some b → b.report.announce ≡ Some u → IsToldNewly t d edges early late M table now b u new.reader new.bound_us new.pace new.edge_us
  pub calm : (b : Beat) → answer ≡ Some b → ¬ (b.report.cause ≡ cause.Jump)

module _ (t : TimelineValue) (edges : ℕ → ℕ) (early late : ℕ) (c : ClockRules) (table : TableValue) (s : ClockState) (is : IsDevice t c.drift_us edges c.reader_rules table) (room : early + late ≤ 3002) (M tick now : ℕ) (order : tick ≤ now) (soon : now ≤ tick + 1800000000)
    (on : IsOnTrack t edges early late c.drift_us M table tick s.reader s.bound_us s.pace s.edge_us) where
  -- the rules there
  abbrev by : ℕ → ReaderRules
  by n = rules_on c s.pace s.reader n

  is_on : (n : ℕ) → IsDevice t c.drift_us edges (by n) table
  is_on n = is_by c s.pace s.reader n t edges table is

  ends_so : (n : ℕ) → ((by n).holdover ≡ 0) ⊎ (grown_us c.drift_us s.pace (age_of s.reader) + n * c.drift_us ≤ 490000)
  ends_so n = elim (either_rules c s.pace s.reader n) [ inl ended ↦ inl ended.1 | inr goes ↦ inr goes.0 ]

  ends_if : (n : ℕ) → 490000 < grown_us c.drift_us s.pace (age_of s.reader) + n * c.drift_us → (by n).holdover ≡ 0
  ends_if n long = elim (ends_so n) [ inl ended ↦ ended | inr goes ↦ absurd (omega (arith, goes, long)) ]

  -- whatever is learned there
  by_vote : (v : Vote) (vote : IsTrueVote t edges early late now v) (n : ℕ) → n ≡ edges_to_vote s.edge_us v.edge_us → (pace : Option Pace) → KeepsTrue t c.drift_us edges early late M table now (record (after_vote c table s v n) { pace = pace }) (answer_to_vote c table s v n)
  by_vote v vote n same pace =
      let all = comes t c.drift_us edges early late c.prefers_frames (by n) table (is_on n) room M tick now order soon v vote s.bound_us s.pace s.edge_us s.reader on n same (ends_if n) in
      let state = missed c.prefers_frames (by n) table (n - 1) s.reader in
      elim (cases_Bool (n == 0)) [
        | inl waits ↦
            let none : n ≡ 0 = eqb-true n 0 waits in
            rw waits (record { track = all.none none pace; told = λ b u e says. absurd cc; calm = λ b e. absurd cc })
        | inr more ↦
            let some : 1 ≤ n = omega (arith, eqb-false n 0 more) in
            let reached = all.before some in
            rw more (record {
              track = on_track t c.drift_us edges early late c.prefers_frames (by n) table (is_on n) room M now v vote M state pace (let less = all.later some in omega (arith, less)) reached;
              told = λ b u e says.
                  let beat : b ≡ beat_by c s (against_table table (Some v.claim)) (step_to c table s n (Some v.claim)) (n - 1) v.edge_us v.bound_us = cc in
                  record {
                    told =
                        let bound : b.bound_us ≡ bound_of c.drift_us s.pace v.bound_us (step_to c table s n (Some v.claim)).report.lock = ap (λ (x : Beat). x.bound_us) beat in
                        told t c.drift_us edges early late c.prefers_frames (by n) table (is_on n) room M now v vote state b u reached (ap (λ (x : Beat). x.edge_us) beat) (omega (arith, bound)) (sym (ap (λ (x : Beat). x.report.announce) beat) ∙ says);
                    later = all.later some;
                    track = on_track t c.drift_us edges early late c.prefers_frames (by n) table (is_on n) room M now v vote (vote.truth.second + 1) state pace (omega arith) reached;
                  };
              calm = λ b e jumps.
                  let beat : b ≡ beat_by c s (against_table table (Some v.claim)) (step_to c table s n (Some v.claim)) (n - 1) v.edge_us v.bound_us = cc in
                  (votes t c.drift_us edges early late c.prefers_frames (by n) table (is_on n) room M now v vote state reached).jump (sym (ap (λ (x : Beat). x.report.cause) beat) ∙ jumps);
            })
      ]

  alone : StepsBy edges early late c s tick now → (n : ℕ) → n ≡ edges_own s.pace s.edge_us (now % 2 ^ 32) → KeepsTrue t c.drift_us edges early late M table now (after_own c table s n) (answer_alone c table s n)
  alone steps n same =
      let keeps : (e edge : ℕ) → s.edge_us ≡ Some e → IsEdgeAt e edge tick → KeepsPace edges early late c.drift_us s.pace edge s.bound_us (age_of s.reader) n = λ e edge is_edge at. subst (KeepsPace edges early late c.drift_us s.pace edge s.bound_us (age_of s.reader)) (sym same) (steps e edge is_edge at) in
      elim (cases_Bool (n == 0)) [
        | inl waits ↦
            let none : edges_own s.pace s.edge_us (now % 2 ^ 32) ≡ 0 = sym same ∙ eqb-true n 0 waits in
            rw waits (record { track = own_waits t c.drift_us edges early late c.prefers_frames (by n) table (is_on n) room M tick now order soon s.bound_us s.pace s.edge_us s.reader on none; told = λ b u e says. absurd cc; calm = λ b e. absurd cc })
        | inr more ↦
            let some : 1 ≤ n = omega (arith, eqb-false n 0 more) in
            rw more (record {
              track = own_tracks t c.drift_us edges early late c.prefers_frames (by n) table (is_on n) room M tick now order soon s.bound_us s.pace s.edge_us s.reader on n same some keeps (ends_so n);
              told = λ b u e says.
                  let beat : b ≡ beat_by c s false (step_to c table s n None) (n - 1) (own_edge s.pace s.edge_us n) s.bound_us = cc in
                  own_says t c.drift_us edges early late c.prefers_frames (by n) table (is_on n) room M tick now order soon s.bound_us s.pace s.edge_us s.reader on n same some keeps (ends_so n) b u (ap (λ (x : Beat). x.edge_us) beat)
                  (ap (λ (x : Beat). x.bound_us) beat ∙ ap (λ (x : Beat). bound_of c.drift_us s.pace s.bound_us x.report.lock) (sym beat)) (sym (ap (λ (x : Beat). x.report.lock) beat))
                  (rule_announces s.doubt None (step_behind c.prefers_frames (by n) table (n - 1) s.reader None).report.announce u (sym (ap (λ (x : Beat). x.report.announce) beat) ∙ says));
              calm = λ b e jumps.
                  let beat : b ≡ beat_by c s false (step_to c table s n None) (n - 1) (own_edge s.pace s.edge_us n) s.bound_us = cc in
                  own_calm t c.drift_us edges early late c.prefers_frames (by n) table (is_on n) room M s.bound_us s.pace s.edge_us s.reader tick on (n - 1) (sym (ap (λ (x : Beat). x.report.cause) beat) ∙ jumps);
            })
      ]

-- with what its lines brought
pub tick_true : (IsTrue : List Pulse → Type 0) (t : TimelineValue) (edges : ℕ → ℕ) (early late : ℕ) (k : Keeping) (M tick now : ℕ) (pulses : ℕ → List Pulse) → early + late ≤ 3002 → TellsTruly IsTrue k.clock k.rules t edges early late now
    → IsDevice t k.clock.drift_us edges k.clock.reader_rules k.table → tick ≤ now → now ≤ tick + 1800000000
    → IsOnTrack t edges early late k.clock.drift_us M k.table tick k.state.reader k.state.bound_us k.state.pace k.state.edge_us → AreHeardTruly IsTrue k.clock k.rules (f_of k.clock.redundancy) now k.state.lines pulses
    → StepsAt edges early late k tick now → KeepsTrue t k.clock.drift_us edges early late M k.table now (after_tick k (now % 2 ^ 32)).state (answer_at k (now % 2 ^ 32))
tick_true IsTrue t edges early late k M tick now pulses room truly is order soon on heard steps = of (vote_at k (now % 2 ^ 32)) refl
  where
    s : ClockState
    s = settled_at k.clock k.state (now % 2 ^ 32)

    there : IsOnTrack t edges early late k.clock.drift_us M k.table tick s.reader s.bound_us s.pace s.edge_us
    there = settled_track t edges early late k.clock.drift_us M k.table tick k.state.reader k.state.bound_us (is_unsteady k.clock k.state (now % 2 ^ 32)) k.state.pace k.state.edge_us on

    of : (v : Option Vote) → vote_at k (now % 2 ^ 32) ≡ v → KeepsTrue t k.clock.drift_us edges early late M k.table now (clock_by k.clock k.table s (now % 2 ^ 32) v) (answer_by k.clock k.table s (now % 2 ^ 32) v)
    of None e =
        let h = alone t edges early late k.clock k.table s is room M tick now order soon there (steps e) (edges_own s.pace s.edge_us (now % 2 ^ 32)) refl in
        record { track = h.track; told = h.told; calm = h.calm }
    of (Some v) e =
        let vote = vote_is_true IsTrue k.rules t k.clock edges is.steady early late room now k.state.lines pulses truly heard v e in
        let n = edges_to_vote s.edge_us v.edge_us in
        let h = by_vote t edges early late k.clock k.table s is room M tick now order soon there v vote n refl (learning k.clock (knowing_vote k.clock s v n (after_vote k.clock k.table s v n))).pace in
        record { track = h.track; told = h.told; calm = h.calm }
