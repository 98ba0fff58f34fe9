-- The second that ended at a told edge is a true one, and its edge lies no further off than its bound.
use Rattle.std.specs.Prelude.{◌==◌}
use Rattle.std.proofs.Common.{◌≡◌, ◌∙◌, ℕ, ◌+◌, ◌-◌, ◌*◌, ◌%◌, ◌^◌, ◌<◌, ◌≤◌, Bool, true, false, cond, List, [], ◌∷◌, Option, Some, None, refl, sym, ap, subst, arith, inl, inr}
use Rattle.std.proofs.lemmas.Bool.{cases_Bool, cases_order, eqb-true, eqb-false}
use Rattle.irig_sync.specs.Lines.{Pulse}
use Rattle.irig_time.specs.declared.second.UtcSecond.{UtcSecond}
use Rattle.irig_time.specs.Timelines.{TimelineValue, IsSecond}
use Rattle.irig_time.specs.Tables.{TableValue}
use Rattle.irig_reader.specs.declared.report.Lock.{Lock}
use Rattle.irig_reader.specs.declared.rule.State.{State}
use Rattle.irig_reader.specs.declared.rule.State.TheVariants.{Idle, Acquiring, Locked}
use Rattle.irig_vote.specs.Vote.{f_of}
use Rattle.irig_lines.specs.declared.lines.Vote.{Vote}
use Rattle.irig_timekeeper.specs.declared.stamp.Announced.{Announced}
use Rattle.irig_timekeeper.specs.declared.clock.Beat.{Beat}
use Rattle.irig_lines.specs.declared.setup.ClockRules.{ClockRules}
use Rattle.irig_timekeeper.specs.declared.clock.ClockState.{ClockState}
use Rattle.irig_lines.specs.Edges.{IsQuartz, IsNear}
use Rattle.irig_lines.specs.Counting.{edges_between, edges_to_vote, edges_own}
use Rattle.irig_reader.specs.declared.rules.ReaderRules.{ReaderRules}
use Rattle.irig_timekeeper.specs.Rule.{step_behind}
use Rattle.irig_timekeeper.specs.Clock.{lasted, bound_of, announced_at, held_second, second_ended, own_edge, beat_by, step_to, after_own, after_vote, answer_alone, knowing, knowing_vote, clock_by, answer_by, settled_at, rules_on}
use Rattle.irig_lines.specs.Steps.{is_pulse, settled, agreed, if_come}
use Rattle.irig_timekeeper.specs.Keeping.{Keeping, vote_at, after_tick, answer_at}
use Rattle.irig_timekeeper.specs.Life.{Call, after_calls, last_tick, pulses_on, AreInOrder, AreTrueLately, AreTrueAtTicks}
use Rattle.irig_timekeeper.specs.Life.Call.{Hear, Tick}
use Rattle.irig_timekeeper.specs.Truth.{IsTrueVote, IsEdgeAt, IsOnTrack, StandsSurely, IsDevice}
use Rattle.irig_timekeeper.specs.LineTruths.{IsEndedTruly}
use Rattle.irig_lines.proofs.CountingLaws.{rises}
use Rattle.irig_lines.specs.declared.pace.Pace.{Pace}
use Rattle.irig_lines.specs.Paces.{IsSound, ahead_us, grown_us}
use Rattle.irig_timekeeper.proofs.SoundLaws.{settled_sound}
use Rattle.irig_timekeeper.proofs.TimeLaws.{own_come, own_count, still_edge, own_edge_at, voted_count, lasts_so}
use Rattle.irig_timekeeper.proofs.SpentLaws.{held_small, is_by}
use Rattle.irig_timekeeper.proofs.SureSteps.{sure_step}
use Rattle.irig_timekeeper.proofs.DoubtedSteps.{rule_announces}
use Rattle.irig_timekeeper.proofs.VoteLaws.{vote_is_true}
use Rattle.irig_timekeeper.proofs.TrackLaws.{KeepsTrue, StepsAt}
use Rattle.irig_timekeeper.proofs.LifeLaws.{AreLinesAt, StepsIn, IsSameSetup, TellAlwaysTruly, IsTrack, heard_truly, lines_after, tick_in}

-- ---- where seconds ended

-- the second before T(n)'s, if it is known
abbrev pub IfBefore : TimelineValue → (ℕ → ℕ) → ℕ → Option Announced → Type 0
IfBefore t edges n None = Unit {0}
IfBefore t edges n (Some b) = (k : ℕ) × (told : ℕ) × (n ≡ k + 1) × IsEndedTruly t edges b k told

-- a second ended truly, and the last edge of the clock, which a vote may have set since, lies near that one
pub record IsEndedAt (t : TimelineValue) (edges : ℕ → ℕ) (edge : ℕ) (a : Announced) (earlier : Option Announced) : Type 0 where
  pub n : ℕ
  pub told : ℕ
  pub is : IsEndedTruly t edges a n told
  pub here : IsNear edges 492899 492899 (n + 1) edge
  pub before : IfBefore t edges n earlier

abbrev pub IfEndedAt : TimelineValue → (ℕ → ℕ) → ℕ → (ended before : Option Announced) → Type 0
IfEndedAt t edges edge None before = Unit {0}
IfEndedAt t edges edge (Some a) before = IsEndedAt t edges edge a before

-- none ended before the first edge
abbrev pub EndedBy : TimelineValue → (ℕ → ℕ) → (tick : ℕ) → Option ℕ → (ended before : Option Announced) → Type 0
EndedBy t edges tick None ended before = ended ≡ None
EndedBy t edges tick (Some e) ended before = (edge : ℕ) × IsEdgeAt e edge tick × IfEndedAt t edges edge ended before

-- ---- which edge it is

module _ (d : ℕ) (edges : ℕ → ℕ) (quartz : IsQuartz d edges) where
  pub up_one : (i j : ℕ) → i < j → edges i + 999900 ≤ edges j
  up_one i j less =
      let there : i + (j - i) ≡ j = omega (arith, less) in
      let rise = subst (λ (x : ℕ). edges i + (j - i) * 999900 ≤ edges x) there (rises d edges quartz i (j - i)) in
      omega (arith, rise, less)

  pub up_two : (i j : ℕ) → i + 1 < j → edges i + 1999800 ≤ edges j
  up_two i j less =
      let there : i + (j - i) ≡ j = omega (arith, less) in
      let rise = subst (λ (x : ℕ). edges i + (j - i) * 999900 ≤ edges x) there (rises d edges quartz i (j - i)) in
      omega (arith, rise, less)

  -- the same one
  close : (i j x y : ℕ) → IsNear edges 492899 492899 i x → IsNear edges 2899 2899 j y → x ≤ y + 500000 → y ≤ x + 500000 → i ≡ j
  close i j x y at at' near near' = elim (cases_order i j) [
    | inl same ↦ same
    | inr (inl less) ↦ absurd (omega (arith, up_one i j less, at.most, at'.least, near'))
    | inr (inr more) ↦ absurd (omega (arith, up_one j i more, at.least, at'.most, near))
  ]

  -- the next one
  near_next : (b i j x y : ℕ) → IsNear edges 492899 492899 i x → IsNear edges b b j y → x + b + 492899 < y → y + b + 492899 < x + 1999800 → j ≡ i + 1
  near_next b i j x y at at' more less = elim (cases_order j (i + 1)) [
    | inl same ↦ same
    | inr (inl before) ↦ elim (cases_order j i) [
      | inl same ↦ absurd (let here : edges j ≡ edges i = ap edges same in omega (arith, here, at.least, at'.most, more))
      | inr (inl low) ↦ absurd (omega (arith, up_one j i low, at.least, at'.most, more))
      | inr (inr high) ↦ absurd (omega (arith, before, high))
    ]
    | inr (inr beyond) ↦ absurd (omega (arith, up_two i j beyond, at.most, at'.least, less))
  ]

-- ---- a tick

pub second_one : (t : TimelineValue) (m n : ℕ) (u : UtcSecond) → IsSecond t m u → IsSecond t n u → m ≡ n
second_one t m n u a b = omega (arith, a.sum, b.sum)

module _ (t : TimelineValue) (edges : ℕ → ℕ) (c : ClockRules) (table : TableValue) (is : IsDevice t c.drift_us edges c.reader_rules table) (tick now : ℕ) (order : tick ≤ now) (soon : now ≤ tick + 1800000000) where
  -- by a true vote
  module _ (v : Vote) (vote : IsTrueVote t edges 0 0 now v) where
    edge_now : IsEdgeAt v.edge_us vote.edge now
    edge_now = record { clock = vote.clock; come = vote.come; soon = omega (arith, vote.soon) }

    near_now : IsNear edges 2899 2899 (vote.truth.second + 1) vote.edge
    near_now = record { least = omega (arith, vote.truth.near.least, vote.small); most = omega (arith, vote.truth.near.most, vote.small) }

    second_voted : IsSecond t vote.truth.second v.claim.at
    second_voted =
        let at = vote.truth.truth.second in
        let same : at.0 ≡ vote.truth.second = omega (arith, at.1) in
        subst (λ (m : ℕ). IsSecond t m v.claim.at) same at.2

    -- an edge that it sets right
    stays : (o : Option ℕ) (ended before : Option Announced) → EndedBy t edges tick o ended before → edges_to_vote o v.edge_us ≡ 0 → EndedBy t edges now (Some v.edge_us) ended before
    stays None ended before h none = absurd (omega (arith, none))
    stays (Some e) None before h none = (vote.edge, edge_now, tt)
    stays (Some e) (Some a) before h none =
        let ended = h.2 in
        let count : edges_between h.0 vote.edge ≡ 0 = sym (voted_count tick now order soon e h.0 h.1 v.edge_us vote.edge edge_now vote.soon) ∙ none in
        let same : ended.n + 1 ≡ vote.truth.second + 1 = close c.drift_us edges is.steady (ended.n + 1) (vote.truth.second + 1) h.0 vote.edge ended.here near_now (omega (arith, count, h.1.come, order, vote.soon)) (omega (arith, count)) in
        let here : IsNear edges 492899 492899 (vote.truth.second + 1) vote.edge = record { least = omega (arith, near_now.least); most = omega (arith, near_now.most) } in
        (vote.edge, edge_now, record { n = ended.n; told = ended.told; is = ended.is; here = subst (λ (m : ℕ). IsNear edges 492899 492899 m vote.edge) (sym same) here; before = ended.before })

    -- one that it counts
    before_voted : (o : Option ℕ) (ended before : Option Announced) → EndedBy t edges tick o ended before → edges_to_vote o v.edge_us ≡ 1 → IfBefore t edges vote.truth.second ended
    before_voted None ended before none one = subst (IfBefore t edges vote.truth.second) (sym none) tt
    before_voted (Some e) None before h one = tt
    before_voted (Some e) (Some a) before h one =
        let ended = h.2 in
        let count : edges_between h.0 vote.edge ≡ 1 = sym (voted_count tick now order soon e h.0 h.1 v.edge_us vote.edge edge_now vote.soon) ∙ one in
        let next = near_next c.drift_us edges is.steady 2899 (ended.n + 1) (vote.truth.second + 1) h.0 vote.edge ended.here near_now (omega (arith, count)) (omega (arith, count)) in
        (ended.n, ended.told, omega (arith, next), ended.is)

    voted : (pace : Option Pace) (o : Option ℕ) (ended before : Option Announced) (lock : Lock) → EndedBy t edges tick o ended before → grown_us c.drift_us pace (lasted lock) ≤ 490000 → (n : ℕ) → n ≡ edges_to_vote o v.edge_us → 1 ≤ n
        → EndedBy t edges now (Some v.edge_us) (announced_at v.edge_us (bound_of c.drift_us pace v.bound_us lock) (Some v.claim.at)) (cond (n - 1 == 0) ended None)
    voted pace o ended before lock h few n same some = (
      vote.edge,
      edge_now,
      record {
        n = vote.truth.second;
        told = vote.edge;
        is = record {
          truth = second_voted;
          clock = vote.clock;
          near = record { least = omega (arith, vote.truth.near.least); most = omega (arith, vote.truth.near.most) };
          small = omega (arith, vote.small, few);
        };
        here = record { least = omega (arith, near_now.least); most = omega (arith, near_now.most) };
        before = elim (cases_Bool (n - 1 == 0)) [
          | inl one ↦ rw one (before_voted o ended before h (let only : n ≡ 1 = omega (arith, eqb-true (n - 1) 0 one, some) in sym same ∙ only))
          | inr more ↦ rw more tt
        ];
      },
    )

  -- by the own counter
  waits : (pace : Option Pace) (o : Option ℕ) (ended before : Option Announced) → EndedBy t edges tick o ended before → edges_own pace o (now % 2 ^ 32) ≡ 0 → EndedBy t edges now o ended before
  waits pace None ended before h none = h
  waits pace (Some e) ended before h none = (h.0, still_edge tick now order soon e h.0 h.1 pace (sym (own_count tick now order soon e h.0 h.1 pace) ∙ none), h.2)

  -- what was told truly by it, of a reader that stood at the second before
  alone_one : (pace : Option Pace) (sound : IsSound pace) (e edge : ℕ) (at : IsEdgeAt e edge tick) (ended before : Option Announced) → IfEndedAt t edges edge ended before → (n : ℕ) → n ≡ edges_own pace (Some e) (now % 2 ^ 32) → n ≡ 1 → (second : UtcSecond) (w m bound told : ℕ) → IsSecond t w second → m ≡ w + 1
      → own_edge pace (Some e) n ≡ told % 2 ^ 32 → IsNear edges bound bound m told → told ≤ now → now < told + 1006000 → bound ≤ 492899
      → EndedBy t edges now (Some (own_edge pace (Some e) n)) (Some (record { second = second; edge_us = own_edge pace (Some e) n; bound_us = bound })) (cond (n - 1 == 0) ended None)
  alone_one pace sound e edge at ended before h n same one second w m bound told truth next clock near come late small =
      let count : n ≡ own_come pace edge now = same ∙ own_count tick now order soon e edge at pace in
      let own = own_edge_at tick now order soon e edge at pace sound n count (omega (arith, one)) in
      let long = lasts_so pace sound n in
      let there : told ≡ edge + ahead_us pace n = by_clock (own_edge pace (Some e) n) told (edge + ahead_us pace n) clock own.clock (omega (arith, come, own.soon)) (omega (arith, own.come, late)) in
      let only : (n - 1 == 0) ≡ true = (let none : n ≡ 1 = one in rw none refl) in
      let at_next : IsNear edges bound bound (w + 1) told = subst (λ (i : ℕ). IsNear edges bound bound i told) next near in (
        told,
        record { clock = clock; come = come; soon = late },
        record {
          n = w;
          told = told;
          is = record { truth = truth; clock = clock; near = at_next; small = small };
          here = record { least = omega (arith, at_next.least, small); most = omega (arith, at_next.most, small) };
          before = rw only (known ended h (omega (arith, there, one, long.least)) (omega (arith, there, one, long.most)) at_next);
        },
      )
    where
      by_clock : (e x y : ℕ) → e ≡ x % 2 ^ 32 → e ≡ y % 2 ^ 32 → x ≤ y + 1006000 → y ≤ x + 1006000 → x ≡ y
      by_clock e x y p q near near' = omega (arith, p, q, near, near')

      known : (ended : Option Announced) → IfEndedAt t edges edge ended before → edge + 999900 ≤ told → told ≤ edge + 1000100 → IsNear edges bound bound (w + 1) told → IfBefore t edges w ended
      known None h least most at = tt
      known (Some a) h least most at =
          let next = near_next c.drift_us edges is.steady bound (h.n + 1) (w + 1) edge told h.here at (omega (arith, least, most, small)) (omega (arith, least, most, small)) in
          (h.n, h.told, omega (arith, next), h.is)

-- ---- a tick of a device

module _ (t : TimelineValue) (edges : ℕ → ℕ) where
  abbrev pub Ends : ℕ → ClockState → Type 0
  Ends tick s = EndedBy t edges tick s.edge_us s.ended s.ended_before

  module _ (k : Keeping) (tick now : ℕ) (order : tick ≤ now) (soon : now ≤ tick + 1800000000) (is : IsDevice t k.clock.drift_us edges k.clock.reader_rules k.table) (on : IsOnTrack t edges 0 0 k.clock.drift_us 0 k.table tick k.state.reader k.state.bound_us k.state.pace k.state.edge_us)
      (keeps : KeepsTrue t k.clock.drift_us edges 0 0 0 k.table now (after_tick k (now % 2 ^ 32)).state (answer_at k (now % 2 ^ 32))) (ends : Ends tick k.state) (sound : IsSound k.state.pace) where
    abbrev pace : Option Pace
    pace = (settled_at k.clock k.state (now % 2 ^ 32)).pace

    -- the rules where so many seconds are counted
    abbrev by : ℕ → ReaderRules
    by n = rules_on k.clock pace k.state.reader n

    -- by the own counter
    module _ (alone : vote_at k (now % 2 ^ 32) ≡ None) (n : ℕ) (count : n ≡ edges_own pace k.state.edge_us (now % 2 ^ 32)) where
      abbrev beat : Beat
      beat = beat_by k.clock (settled_at k.clock k.state (now % 2 ^ 32)) false (step_to k.clock k.table (settled_at k.clock k.state (now % 2 ^ 32)) n None) (n - 1) (own_edge pace k.state.edge_us n) k.state.bound_us

      settled_is : IsSound pace
      settled_is = settled_sound k sound (now % 2 ^ 32)

      module _ (some : 1 ≤ n) (counts : (n == 0) ≡ false) (e : ℕ) (here : k.state.edge_us ≡ Some e) where
        at_edge : EndedBy t edges tick (Some e) k.state.ended k.state.ended_before
        at_edge = subst (λ (o : Option ℕ). EndedBy t edges tick o k.state.ended k.state.ended_before) here ends

        count_here : n ≡ edges_own pace (Some e) (now % 2 ^ 32)
        count_here = count ∙ ap (λ (o : Option ℕ). edges_own pace o (now % 2 ^ 32)) here

        nothing : (before : Option Announced) → EndedBy t edges now (Some (own_edge pace (Some e) n)) None before
        nothing before = (at_edge.0 + ahead_us pace n, own_edge_at tick now order soon e at_edge.0 at_edge.1 pace settled_is n (count_here ∙ own_count tick now order soon e at_edge.0 at_edge.1 pace) some, tt)

        held : (reader : State) → k.state.reader ≡ reader → (u : UtcSecond) → beat.report.announce ≡ Some u → (n - 1 == 0) ≡ true
            → EndedBy t edges now (Some (own_edge pace (Some e) n)) (announced_at (own_edge pace (Some e) n) beat.bound_us (held_second reader)) (cond (n - 1 == 0) k.state.ended None)
        held Idle at u says only = nothing (cond (n - 1 == 0) k.state.ended None)
        held (Acquiring h c) at u says only = nothing (cond (n - 1 == 0) k.state.ended None)
        held (Locked h) at u says only = elim (subst (λ (o : Option ℕ). IsOnTrack t edges 0 0 k.clock.drift_us 0 k.table tick k.state.reader k.state.bound_us k.state.pace o) here on) [
          | inl idle ↦ absurd (let both : Idle ≡ Locked h = sym idle.0 ∙ at in cc)
          | inr stood ↦
              let w = stood.0 in
              let stands = stood.2 in
              let zero_more : n - 1 ≡ 0 = eqb-true (n - 1) 0 only in
              let answers : answer_at k (now % 2 ^ 32) ≡ Some beat = ap (answer_by k.clock k.table (settled_at k.clock k.state (now % 2 ^ 32)) (now % 2 ^ 32)) alone ∙ (let one : answer_alone k.clock k.table (settled_at k.clock k.state (now % 2 ^ 32)) (edges_own pace k.state.edge_us (now % 2 ^ 32)) ≡ Some beat = subst (λ (m : ℕ). answer_alone k.clock k.table (settled_at k.clock k.state (now % 2 ^ 32)) m ≡ Some beat) count (rw counts refl) in one) in
              let told = (keeps.told beat u answers says).told in
              let sure = subst (λ (r : State). StandsSurely t k.table w r) at stands.truth in
              let by_rule = rule_announces (settled_at k.clock k.state (now % 2 ^ 32)).doubt None (step_behind k.clock.prefers_frames (by n) k.table (n - 1) k.state.reader None).report.announce u says in
              let one_step = subst (λ (i : ℕ). (step_behind k.clock.prefers_frames (by n) k.table i k.state.reader None).report.announce ≡ Some u) zero_more by_rule in
              let next = (sure_step t (by n) k.table is.sound (is_by k.clock pace k.state.reader n t edges k.table is).knows k.clock.prefers_frames w k.state.reader None stands.truth (inl refl)).says u one_step in
              let few = held_small k.clock pace k.state.reader n k.clock.prefers_frames k.table None some in
              let near : IsNear edges beat.bound_us beat.bound_us told.m told.edge = record { least = omega (arith, told.near.least); most = omega (arith, told.near.most) } in
              alone_one t edges k.clock k.table is tick now order soon pace settled_is e at_edge.0 at_edge.1 k.state.ended k.state.ended_before at_edge.2 n count_here (omega (arith, zero_more, some)) h.last w told.m beat.bound_us told.edge
              sure.on_time.last (second_one t told.m (w + 1) u told.truth next) (sym (ap (λ (o : Option ℕ). own_edge pace o n) here) ∙ told.clock) near told.come told.soon
              (omega (arith, stands.small, few))
        ]

        announced : (announce : Option UtcSecond) → beat.report.announce ≡ announce
            → EndedBy t edges now (Some (own_edge pace (Some e) n)) (announced_at (own_edge pace (Some e) n) beat.bound_us (second_ended (held_second k.state.reader) (n - 1) None announce)) (cond (n - 1 == 0) k.state.ended None)
        announced None says = nothing (cond (n - 1 == 0) k.state.ended None)
        announced (Some u) says = by (n - 1 == 0) refl
          where
            by : (b : Bool) → (n - 1 == 0) ≡ b → EndedBy t edges now (Some (own_edge pace (Some e) n)) (announced_at (own_edge pace (Some e) n) beat.bound_us (cond b (held_second k.state.reader) None)) (cond (n - 1 == 0) k.state.ended None)
            by true only = held k.state.reader refl u says only
            by false more = nothing (cond (n - 1 == 0) k.state.ended None)

      own_ended : (some : 1 ≤ n) (counts : (n == 0) ≡ false) (o : Option ℕ) → k.state.edge_us ≡ o
          → EndedBy t edges now (Some (own_edge pace o n)) (announced_at (own_edge pace o n) beat.bound_us (second_ended (held_second k.state.reader) (n - 1) None beat.report.announce)) (cond (n - 1 == 0) k.state.ended None)
      own_ended some counts None here = absurd (let none : n ≡ 0 = count ∙ ap (λ (o : Option ℕ). edges_own pace o (now % 2 ^ 32)) here in omega (arith, none, some))
      own_ended some counts (Some e) here = announced some counts e here beat.report.announce refl

      own_tick : Ends now (knowing k.clock (settled_at k.clock k.state (now % 2 ^ 32)) n (after_own k.clock k.table (settled_at k.clock k.state (now % 2 ^ 32)) n))
      own_tick = elim (cases_Bool (n == 0)) [
        | inl none ↦ rw none (waits t edges k.clock k.table is tick now order soon pace k.state.edge_us k.state.ended k.state.ended_before ends (sym count ∙ eqb-true n 0 none))
        | inr some ↦ rw some (own_ended (omega (arith, eqb-false n 0 some)) some k.state.edge_us refl)
      ]

    -- by a true vote
    vote_tick : (v : Vote) → IsTrueVote t edges 0 0 now v → (n : ℕ) → n ≡ edges_to_vote k.state.edge_us v.edge_us → Ends now (knowing_vote k.clock (settled_at k.clock k.state (now % 2 ^ 32)) v n (after_vote k.clock k.table (settled_at k.clock k.state (now % 2 ^ 32)) v n))
    vote_tick v vote n count = elim (cases_Bool (n == 0)) [
      | inl none ↦ rw none (stays t edges k.clock k.table is tick now order soon v vote k.state.edge_us k.state.ended k.state.ended_before ends (sym count ∙ eqb-true n 0 none))
      | inr some ↦
          let few = held_small k.clock pace k.state.reader n k.clock.prefers_frames k.table (Some v.claim) (omega (arith, eqb-false n 0 some)) in
          rw some (voted t edges k.clock k.table is tick now order soon v vote pace k.state.edge_us k.state.ended k.state.ended_before (step_to k.clock k.table (settled_at k.clock k.state (now % 2 ^ 32)) n (Some v.claim)).report.lock ends few n count (omega (arith, eqb-false n 0 some)))
    ]

    pub tick_ends : ((v : Vote) → vote_at k (now % 2 ^ 32) ≡ Some v → IsTrueVote t edges 0 0 now v) → Ends now (after_tick k (now % 2 ^ 32)).state
    tick_ends true_vote = of (vote_at k (now % 2 ^ 32)) refl
      where
        of : (o : Option Vote) → vote_at k (now % 2 ^ 32) ≡ o → Ends now (clock_by k.clock k.table (settled_at k.clock k.state (now % 2 ^ 32)) (now % 2 ^ 32) o)
        of None e = own_tick e (edges_own pace k.state.edge_us (now % 2 ^ 32)) refl
        of (Some v) e = vote_tick v (true_vote v e) (edges_to_vote k.state.edge_us v.edge_us) refl

-- ---- a life

module _ (IsTrue : ℕ → List Pulse → Type 0) (t : TimelineValue) (edges : ℕ → ℕ) (new : Keeping) (start : ℕ) (begins : AreLinesAt new new (λ i. []) start start) (is : IsDevice t new.clock.drift_us edges new.clock.reader_rules new.table)
    (truly : TellAlwaysTruly IsTrue new.clock new.rules t edges 0 0) where
  -- where it stands, and which seconds ended
  record StandsAndEnds (calls : List Call) : Type 0 where
    track : IsTrack IsTrue t edges 0 0 new start begins 0 (last_tick start calls) (after_calls new calls)
    ends : Ends t edges (last_tick start calls) (after_calls new calls).state

  at_tick : (calls : List Call) (now : ℕ) → AreInOrder start new.clock.redundancy (Tick now ∷ calls) → AreTrueLately IsTrue (f_of new.clock.redundancy) now calls → StepsAt edges 0 0 (after_calls new calls) (last_tick start calls) now → StandsAndEnds calls → StandsAndEnds (Tick now ∷ calls)
  at_tick calls now order lately steps h =
      let k : Keeping = after_calls new calls in
      let same = (lines_after new start begins calls now order).same in
      let keeps = tick_in IsTrue t edges 0 0 new start begins is (omega arith) truly 0 calls now order lately h.track steps in
      record {
        track = keeps.track;
        ends = tick_ends t edges k (last_tick start calls) now order.0 (omega (arith, order.1))
            (moves k same (λ c table. IsDevice t c.drift_us edges c.reader_rules table) is)
            (moves k same (λ c table. IsOnTrack t edges 0 0 c.drift_us 0 table (last_tick start calls) k.state.reader k.state.bound_us k.state.pace k.state.edge_us) h.track)
            (moves k same (λ c table. KeepsTrue t c.drift_us edges 0 0 0 table now (after_tick k (now % 2 ^ 32)).state (answer_at k (now % 2 ^ 32))) keeps)
            h.ends (lines_after new start begins calls now order).sound
            (λ v e. vote_is_true (IsTrue now) new.rules t new.clock edges is.steady 0 0 (omega arith) now k.state.lines (λ i. pulses_on i calls) (truly now) (heard_truly IsTrue t edges 0 0 new start begins calls now order lately) v
            (ap (λ (c : ClockRules). if_come (now % 2 ^ 32) (agreed c (settled (now % 2 ^ 32) k.state.lines))) (sym same.clock) ∙ e));
      }
    where
      moves : (k : Keeping) → IsSameSetup new k → (P : ClockRules → TableValue → Type 0) → P new.clock new.table → P k.clock k.table
      moves k same P p = subst (λ (c : ClockRules). P c k.table) (sym same.clock) (subst (P new.clock) (sym same.table) p)

  at_pulse : (calls : List Call) (port rise width : ℕ) → StandsAndEnds calls → StandsAndEnds (Hear port rise width ∷ calls)
  at_pulse calls port rise width h = elim (cases_Bool (is_pulse width)) [
    | inl narrow ↦ record { track = rw narrow h.track; ends = rw narrow h.ends }
    | inr wide ↦ record { track = rw wide h.track; ends = rw wide h.ends }
  ]

  all_along : StandsAndEnds [] → (calls : List Call) → AreInOrder start new.clock.redundancy calls → AreTrueAtTicks IsTrue (f_of new.clock.redundancy) calls → StepsIn edges 0 0 new start calls → StandsAndEnds calls
  all_along from [] order truth steps = from
  all_along from (Hear port rise width ∷ calls) order truth steps = at_pulse calls port rise width (all_along from calls order.2 truth steps)
  all_along from (Tick now ∷ calls) order truth steps = at_tick calls now order truth.0 steps.0 (all_along from calls order.3 truth.1 steps.1)

  pub ends_truly : (new.state.reader ≡ Idle) → (new.state.edge_us ≡ None) → (new.state.ended ≡ None) → (calls : List Call) → AreInOrder start new.clock.redundancy calls → AreTrueAtTicks IsTrue (f_of new.clock.redundancy) calls → StepsIn edges 0 0 new start calls → Ends t edges (last_tick start calls) (after_calls new calls).state
  ends_truly idle none never calls order truth steps = (all_along (record {
    track = subst (λ (o : Option ℕ). IsOnTrack t edges 0 0 new.clock.drift_us 0 new.table start new.state.reader new.state.bound_us new.state.pace o) (sym none) (idle, refl);
    ends = subst (λ (o : Option ℕ). EndedBy t edges start o new.state.ended new.state.ended_before) (sym none) never;
  }) calls order truth steps).ends
