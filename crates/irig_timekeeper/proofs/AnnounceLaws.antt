-- A device whose lines are heard well announces, whatever f of them send.
use Rattle.std.specs.Prelude.{◌==◌}
use Rattle.std.proofs.Common.{◌≡◌, ◌∙◌, ◌⊎◌, ℕ, zero, suc, ◌+◌, ◌-◌, ◌%◌, ◌^◌, ◌<◌, ◌≤◌, Bool, true, false, List, [], ◌∷◌, ◌++◌, Option, Some, None, refl, sym, ap, subst, arith, inl, inr}
use Rattle.std.proofs.lemmas.Bool.{cases_Bool, cases_lt, eqb-true, eqb-false}
use Rattle.std.proofs.lemmas.List.{append_assoc}
use Rattle.irig_sync.specs.Lines.{Pulse}
use Rattle.irig_time.specs.declared.claim.Claim.{Claim}
use Rattle.irig_time.specs.declared.second.UtcSecond.{UtcSecond}
use Rattle.irig_time.specs.Tables.{TableValue}
use Rattle.irig_time.specs.Timelines.{TimelineValue, IsSecond, truth_at}
use Rattle.irig_time.proofs.SecondAt.{claim_is}
use Rattle.irig_vote.specs.Vote.{f_of}
use Rattle.irig_reader.specs.declared.rule.State.{State}
use Rattle.irig_reader.specs.Locking.{then_true}
use Rattle.irig_reader.specs.Rule.{step_of, state_of, report_of}
use Rattle.irig_reader.proofs.TrueVotesInARow.{locked_from_anywhere}
use Rattle.irig_lines.specs.declared.lines.Vote.{Vote}
use Rattle.irig_timekeeper.specs.declared.clock.Beat.{Beat}
use Rattle.irig_lines.specs.declared.setup.ClockRules.{ClockRules}
use Rattle.irig_timekeeper.specs.declared.clock.ClockState.{ClockState}
use Rattle.irig_lines.specs.Edges.{IsNear}
use Rattle.irig_lines.specs.Exactness.{most_vote_us}
use Rattle.irig_lines.specs.Widths.{vote_us}
use Rattle.irig_lines.specs.Counting.{edges_to_vote, edges_own}
use Rattle.irig_timekeeper.specs.Rule.{missed, against_table, step_behind}
use Rattle.irig_lines.specs.Steps.{is_pulse, settled, agreed, if_come}
use Rattle.irig_timekeeper.specs.Clock.{knowing_vote, learning, step_to, beat_by, after_vote, answer_to_vote, after_own, clock_by, answer_by, settled_at, rules_on}
use Rattle.irig_timekeeper.specs.Keeping.{Keeping, vote_at, after_pulse, after_tick, answer_at}
use Rattle.irig_timekeeper.specs.Truth.{IsEdgeAt, IsDevice, FollowsTruth}
use Rattle.irig_timekeeper.specs.Life.{Call, after_calls, pulses_on, last_tick, HaveRisen, AreInOrder, AreTrueLately, AreTrueOver}
use Rattle.irig_timekeeper.specs.Life.Call.{Hear, Tick}
use Rattle.irig_timekeeper.specs.Announcing.{ComesWhole, AreWellHeard, Announces}
use Rattle.irig_lines.proofs.CountingLaws.{counts}
use Rattle.irig_lines.specs.declared.pace.Pace.{Pace}
use Rattle.irig_timekeeper.proofs.TimeLaws.{none_before, own_come, own_count, still_edge, voted_count}
use Rattle.irig_timekeeper.proofs.VoteLaws.{vote_is_true}
use Rattle.irig_timekeeper.proofs.LockLaws.{IsLed, led_on}
use Rattle.irig_timekeeper.proofs.SpentLaws.{same_vote}
use Rattle.irig_timekeeper.proofs.LifeLaws.{AreLinesAt, lines_after, TellAlwaysTruly, heard_truly, order_before}
use Rattle.irig_timekeeper.proofs.OrderLaws.{IsSetByVote, set_before, votes_apart, edge_of}
use Rattle.irig_timekeeper.proofs.FrameLaws.{HaveNoVotes, whole_kept}
use Rattle.irig_timekeeper.proofs.EnoughLaws.{one_edge, has_vote}
use Rattle.irig_timekeeper.proofs.GuardLaws.{passes_truth}
use Rattle.irig_reader.specs.declared.rule.Step.{Step}

-- ---- what a tick leaves

-- without a vote, and before the own counter counts
record IsQuiet (old new : ClockState) : Type 0 where
  edge : new.edge_us ≡ old.edge_us
  reader : new.reader ≡ old.reader

quiet : (k : Keeping) (clock : ℕ) → vote_at k clock ≡ None → edges_own (settled_at k.clock k.state clock).pace k.state.edge_us clock ≡ 0 → IsQuiet k.state (after_tick k clock).state
quiet k clock none nothing = of (vote_at k clock) none
  where
    s : ClockState
    s = settled_at k.clock k.state clock

    by : (n : ℕ) → n ≡ 0 → IsQuiet k.state (after_own k.clock k.table s n)
    by n e = rw e (record { edge = refl; reader = refl })

    of : (o : Option Vote) → o ≡ None → IsQuiet k.state (clock_by k.clock k.table s clock o)
    of (Some v) e = absurd cc
    of None e = let q = by (edges_own (settled_at k.clock k.state clock).pace k.state.edge_us clock) nothing in record { edge = q.edge; reader = q.reader }

-- with one, by the edges that it counts
record IsVoted (c : ClockRules) (table : TableValue) (s : ClockState) (v : Vote) (n : ℕ) (new : ClockState) (answer : Option Beat) : Type 0 where
  edge : new.edge_us ≡ Some v.edge_us
  none : n ≡ 0 → new.reader ≡ s.reader
  some : 1 ≤ n → new.reader ≡ (step_to c table s n (Some v.claim)).state
  tells : 1 ≤ n → (b : Beat) × (answer ≡ Some b) × (b.report ≡ (step_to c table s n (Some v.claim)).report)

voted_by : (c : ClockRules) (table : TableValue) (s : ClockState) (v : Vote) (n : ℕ) → IsVoted c table s v n (after_vote c table s v n) (answer_to_vote c table s v n)
voted_by c table s v n = elim (cases_Bool (n == 0)) [
  | inl waits ↦
      let nothing : n ≡ 0 = eqb-true n 0 waits in
      rw waits (record { edge = refl; none = λ e. refl; some = λ e. absurd (omega (arith, e, nothing)); tells = λ e. absurd (omega (arith, e, nothing)) })
  | inr more ↦
      let apart = eqb-false n 0 more in
      rw more (record { edge = refl; none = λ e. absurd (apart e); some = λ e. refl; tells = λ e. (beat_by c s (against_table table (Some v.claim)) (step_to c table s n (Some v.claim)) (n - 1) v.edge_us v.bound_us, refl, refl) })
]

voted : (k : Keeping) (clock : ℕ) (v : Vote) → vote_at k clock ≡ Some v → IsVoted k.clock k.table (settled_at k.clock k.state clock) v (edges_to_vote k.state.edge_us v.edge_us) (after_tick k clock).state (answer_at k clock)
voted k clock v e = of (vote_at k clock) e
  where
    s : ClockState
    s = settled_at k.clock k.state clock

    of : (o : Option Vote) → o ≡ Some v → IsVoted k.clock k.table s v (edges_to_vote k.state.edge_us v.edge_us) (clock_by k.clock k.table s clock o) (answer_by k.clock k.table s clock o)
    of None e = absurd cc
    of (Some x) e =
        let same : v ≡ x = cc in
        let n = edges_to_vote k.state.edge_us x.edge_us in
        let h = voted_by k.clock k.table s x n in
        let knows : IsVoted k.clock k.table s x n (learning k.clock (knowing_vote k.clock s x n (after_vote k.clock k.table s x n))) (answer_to_vote k.clock k.table s x n) = record { edge = h.edge; none = h.none; some = h.some; tells = h.tells } in
        subst (λ (y : Vote). IsVoted k.clock k.table s y (edges_to_vote k.state.edge_us y.edge_us) (learning k.clock (knowing_vote k.clock s x n (after_vote k.clock k.table s x n))) (answer_to_vote k.clock k.table s x (edges_to_vote k.state.edge_us x.edge_us))) (sym same) knows

-- a tick leaves the reader, or steps on by some edges and a vote, or none
abbrev Stepped : ClockRules → TableValue → State → State → Type 0
Stepped c table old new = (new ≡ old) ⊎ ((n : ℕ) × (vote : Option Claim) × (pace : Option Pace) × (edges : ℕ) × (new ≡ (step_behind c.prefers_frames (rules_on c pace old edges) table n old vote).state))

stepped : (k : Keeping) (clock : ℕ) → Stepped k.clock k.table k.state.reader (after_tick k clock).state.reader
stepped k clock = of (vote_at k clock)
  where
    s : ClockState
    s = settled_at k.clock k.state clock

    own : (n : ℕ) (test : Bool) → (n == 0) ≡ test → Stepped k.clock k.table k.state.reader (after_own k.clock k.table s n).reader
    own n true e = rw e (inl refl)
    own n false e = rw e (inr (n - 1, None, s.pace, n, refl))

    by_vote : (v : Vote) (n : ℕ) (test : Bool) → (n == 0) ≡ test → Stepped k.clock k.table k.state.reader (after_vote k.clock k.table s v n).reader
    by_vote v n true e = rw e (inl refl)
    by_vote v n false e = rw e (inr (n - 1, Some v.claim, s.pace, n, refl))

    of : (o : Option Vote) → Stepped k.clock k.table k.state.reader (clock_by k.clock k.table s clock o).reader
    of None = own (edges_own (settled_at k.clock k.state clock).pace k.state.edge_us clock) _ refl
    of (Some v) = by_vote v (edges_to_vote k.state.edge_us v.edge_us) _ refl

-- a pulse changes neither the edge nor the reader
passes_by : (k : Keeping) (port rise width : ℕ) → IsQuiet k.state (after_pulse k port rise width).state
passes_by k port rise width = elim (cases_Bool (is_pulse width)) [ inl narrow ↦ rw narrow (record { edge = refl; reader = refl }) | inr wide ↦ rw wide (record { edge = refl; reader = refl }) ]

-- ---- the seconds

-- the calls of the m-th second, behind others: the last of them is a tick at which more than f lines
-- have told its frame whole, or which has a vote
pub record IsServed (IsTrue : ℕ → List Pulse → Type 0) (t : TimelineValue) (edges : ℕ → ℕ) (new : Keeping) (start m : ℕ) (calls before : List Call) : Type 0 where
  pub now : ℕ
  pub others : List Call
  pub are : calls ≡ Tick now ∷ others
  pub early : last_tick start (others ++ before) ≤ edges m + 3000
  pub soon : now ≤ edges m + 98000
  pub comes : ((edges m + vote_us new.clock new.clock.drift_us ≤ now) × ComesWhole t edges new m (others ++ before)) ⊎ ((edges m ≤ now + 17000) × ((v : Vote) × (vote_at (after_calls new (others ++ before)) (now % 2 ^ 32) ≡ Some v)))
  pub truth : AreTrueOver IsTrue (f_of new.clock.redundancy) calls before

-- so many in a row
abbrev pub AreServed : (ℕ → List Pulse → Type 0) → TimelineValue → (ℕ → ℕ) → Keeping → ℕ → ℕ → ℕ → List Call → List Call → Type 0
AreServed IsTrue t edges new start m zero calls before = calls ≡ before
AreServed IsTrue t edges new start m (suc n) calls before = (last : List Call) × (older : List Call) × (calls ≡ last ++ older) × IsServed IsTrue t edges new start (m + n) last older × AreServed IsTrue t edges new start m n older before

pub heard_serve : (IsTrue : ℕ → List Pulse → Type 0) (t : TimelineValue) (edges : ℕ → ℕ) (new : Keeping) (start m n : ℕ) (calls before : List Call) → AreWellHeard IsTrue t edges new start m n calls before → AreServed IsTrue t edges new start m n calls before
heard_serve IsTrue t edges new start m zero calls before heard = heard
heard_serve IsTrue t edges new start m (suc n) calls before heard =
    let w = heard.3 in (
      heard.0,
      heard.1,
      heard.2,
      record { now = w.now; others = w.others; are = w.are; early = w.early; soon = w.soon; comes = inl (w.come, w.frames); truth = w.truth },
      heard_serve IsTrue t edges new start m n heard.1 before heard.4,
    )

module _ (IsTrue : ℕ → List Pulse → Type 0) (t : TimelineValue) (edges : ℕ → ℕ) (new : Keeping) (start : ℕ) (begun : AreLinesAt new new (λ i. []) start start) (is : IsDevice t new.clock.drift_us edges new.clock.reader_rules new.table) (follows : FollowsTruth t new.clock.prefers_frames new.table) (truly : TellAlwaysTruly IsTrue new.clock new.rules t edges 0 0) where
  abbrev state : List Call → ClockState
  state calls = (after_calls new calls).state

  abbrev f : ℕ
  f = f_of new.clock.redundancy

  abbrev Reads : List (Option Claim) → State → Type 0
  Reads votes reader = reader ≡ state_of new.clock.reader_rules new.table votes

  -- the last edge was voted near the m-th, and the reader has had these votes
  record IsVotedAt (m : ℕ) (votes : List (Option Claim)) (calls : List Call) : Type 0 where
    e : ℕ
    edge : (state calls).edge_us ≡ Some e
    V : ℕ
    at : IsEdgeAt e V (last_tick start calls)
    near : IsNear edges most_vote_us most_vote_us m V
    set : IsSetByVote new start begun V calls
    reads : Reads votes (state calls).reader

  -- one of these calls, behind those, is a tick that reports this vote behind those
  record IsReported (m : ℕ) (vote : Option Claim) (votes : List (Option Claim)) (later older : List Call) : Type 0 where
    now : ℕ
    x : List Call
    y : List Call
    are : later ≡ x ++ (Tick now ∷ y)
    soon : now ≤ edges m + 98000
    beat : Beat
    answer : answer_at (after_calls new (y ++ older)) (now % 2 ^ 32) ≡ Some beat
    report : beat.report ≡ report_of new.clock.reader_rules new.table vote votes

  reported_on : (m : ℕ) (vote : Option Claim) (votes : List (Option Claim)) (call : Call) (later older : List Call) → IsReported m vote votes later older → IsReported m vote votes (call ∷ later) older
  reported_on m vote votes call later older r = record { now = r.now; x = call ∷ r.x; y = r.y; are = ap (λ (l : List Call). call ∷ l) r.are; soon = r.soon; beat = r.beat; answer = r.answer; report = r.report }

  same_clock : (calls : List Call) (now : ℕ) → AreInOrder start new.clock.redundancy (Tick now ∷ calls) → (after_calls new calls).clock ≡ new.clock
  same_clock calls now order = (lines_after new start begun calls now order).same.clock

  same_table : (calls : List Call) (now : ℕ) → AreInOrder start new.clock.redundancy (Tick now ∷ calls) → (after_calls new calls).table ≡ new.table
  same_table calls now order = (lines_after new start begun calls now order).same.table

  -- ---- what keeps it so

  voted_hears : (m : ℕ) (votes : List (Option Claim)) (port rise width : ℕ) (calls : List Call) → IsVotedAt m votes calls → IsVotedAt m votes (Hear port rise width ∷ calls)
  voted_hears m votes port rise width calls v =
      let same = passes_by (after_calls new calls) port (rise % 2 ^ 32) width in
      record {
        e = v.e;
        edge = same.edge ∙ v.edge;
        V = v.V;
        at = v.at;
        near = v.near;
        set = set_before new start begun v.V (Hear port rise width) calls v.set;
        reads = same.reader ∙ v.reads;
      }

  voted_waits : (m : ℕ) (votes : List (Option Claim)) (now : ℕ) (calls : List Call) → AreInOrder start new.clock.redundancy (Tick now ∷ calls) → vote_at (after_calls new calls) (now % 2 ^ 32) ≡ None → (v : IsVotedAt m votes calls) → now < v.V + 1006000 → IsVotedAt m votes (Tick now ∷ calls)
  voted_waits m votes now calls order none v soon =
      let pace : Option Pace = (settled_at (after_calls new calls).clock (after_calls new calls).state (now % 2 ^ 32)).pace in
      let count = own_count (last_tick start calls) now order.0 (omega (arith, order.1)) v.e v.V v.at pace in
      let waits : own_come pace v.V now ≡ 0 = none_before pace (now - v.V) (omega (arith, soon, v.at.come, order.0)) in
      let nothing : edges_own pace (state calls).edge_us (now % 2 ^ 32) ≡ 0 = ap (λ (o : Option ℕ). edges_own pace o (now % 2 ^ 32)) v.edge ∙ count ∙ waits in
      let same = quiet (after_calls new calls) (now % 2 ^ 32) none nothing in
      record {
        e = v.e;
        edge = same.edge ∙ v.edge;
        V = v.V;
        at = still_edge (last_tick start calls) now order.0 (omega (arith, order.1)) v.e v.V v.at pace waits;
        near = v.near;
        set = set_before new start begun v.V (Tick now) calls v.set;
        reads = same.reader ∙ v.reads;
      }

  -- two votes do not come in one second
  far_apart : (V now : ℕ) (calls : List Call) → AreInOrder start new.clock.redundancy (Tick now ∷ calls) → IsSetByVote new start begun V calls → (v : Vote) → vote_at (after_calls new calls) (now % 2 ^ 32) ≡ Some v → (V' : ℕ) → IsEdgeAt v.edge_us V' now → V + 885000 ≤ V'
  far_apart V now calls order set v voted V' at =
      votes_apart new start begun set.earlier set.later set.before now set.v v V V'
      (subst (λ (c : List Call). AreInOrder start new.clock.redundancy (Tick now ∷ c)) set.are order) set.voted set.at
      (subst (λ (c : List Call). vote_at (after_calls new c) (now % 2 ^ 32) ≡ Some v) set.are voted) at

  no_second : (m : ℕ) (votes : List (Option Claim)) (now : ℕ) (calls : List Call) → AreInOrder start new.clock.redundancy (Tick now ∷ calls) → now ≤ edges m + 98000 → IsVotedAt m votes calls → vote_at (after_calls new calls) (now % 2 ^ 32) ≡ None
  no_second m votes now calls order upto v = of (vote_at (after_calls new calls) (now % 2 ^ 32)) refl
    where
      of : (o : Option Vote) → vote_at (after_calls new calls) (now % 2 ^ 32) ≡ o → o ≡ None
      of None e = refl
      of (Some x) e =
          let V' = edge_of new start begun calls now order x e in
          let far = far_apart v.V now calls order v.set x e V'.0 V'.1 in
          absurd (omega (arith, far, V'.1.come, v.near.least, upto))

  -- ---- a vote of the m-th second

  record IsVoteOf (m now : ℕ) (v : Vote) : Type 0 where
    V : ℕ
    at : IsEdgeAt v.edge_us V now
    close : now ≤ V + 103000
    near : IsNear edges most_vote_us most_vote_us m V
    claim : truth_at t (m - 1) ≡ Some v.claim

  vote_of : (m now : ℕ) (calls : List Call) → AreInOrder start new.clock.redundancy (Tick now ∷ calls) → AreTrueLately IsTrue f now calls → edges m ≤ now + 890000 → now ≤ edges m + 98000 → (v : Vote) → vote_at (after_calls new calls) (now % 2 ^ 32) ≡ Some v → IsVoteOf m now v
  vote_of m now calls order lately from upto v voted =
      let h = heard_truly IsTrue t edges 0 0 new start begun calls now order lately in
      let same = ap (λ (c : ClockRules). if_come (now % 2 ^ 32) (agreed c (settled (now % 2 ^ 32) (state calls).lines))) (sym (same_clock calls now order)) in
      let vote = vote_is_true (IsTrue now) new.rules t new.clock edges is.steady 0 0 (omega arith) now (state calls).lines (λ i. pulses_on i calls) (truly now) h v (same ∙ voted) in
      let here : vote.truth.second + 1 ≡ m = one_edge new.clock.drift_us edges is.steady (vote.truth.second + 1) m (omega (arith, vote.truth.near.least, vote.small, vote.come, upto)) (omega (arith, vote.truth.near.most, vote.small, vote.soon, from)) in
      let before : vote.truth.second ≡ m - 1 = omega (arith, here) in
      record {
        V = vote.edge;
        at = record { clock = vote.clock; come = vote.come; soon = omega (arith, vote.soon) };
        close = vote.soon;
        near = subst (λ (i : ℕ). IsNear edges most_vote_us most_vote_us i vote.edge) here (record { least = omega (arith, vote.truth.near.least, vote.small); most = omega (arith, vote.truth.near.most, vote.small) });
        claim = ap (truth_at t) (sym before) ∙ (claim_is t vote.truth.second v.claim).1 vote.truth.truth;
      }

  -- wherever the device stood, it then stands there
  abbrev IsReached : List Call → Type 0
  IsReached calls = IsLed new.clock.reader_rules new.table (state calls).reader

  set_here : (V now : ℕ) (calls : List Call) (v : Vote) → vote_at (after_calls new calls) (now % 2 ^ 32) ≡ Some v → IsEdgeAt v.edge_us V now → IsSetByVote new start begun V (Tick now ∷ calls)
  set_here V now calls v voted at = record { earlier = calls; later = []; before = now; v = v; are = refl; voted = voted; at = at }

  record IsFirstVoted (m : ℕ) (calls : List Call) : Type 0 where
    votes : List (Option Claim)
    voted_at : IsVotedAt m votes calls

  -- a tick leads on
  leads : (k : Keeping) (n : ℕ) (vote : Option Claim) (pace : Option Pace) (edges : ℕ) → k.clock ≡ new.clock → k.table ≡ new.table → IsLed new.clock.reader_rules new.table k.state.reader
      → IsLed new.clock.reader_rules new.table (step_behind k.clock.prefers_frames (rules_on k.clock pace k.state.reader edges) k.table n k.state.reader vote).state
  leads k n vote pace edges clock table led =
      subst (λ (c : ClockRules). IsLed new.clock.reader_rules new.table (step_behind c.prefers_frames (rules_on c pace k.state.reader edges) k.table n k.state.reader vote).state) (sym clock)
      (subst (λ (x : TableValue). IsLed new.clock.reader_rules new.table (step_behind new.clock.prefers_frames (rules_on new.clock pace k.state.reader edges) x n k.state.reader vote).state) (sym table)
      (led_on new.clock pace k.state.reader edges new.clock.prefers_frames new.table n k.state.reader vote led))

  -- one more true vote is the rule's
  step_reads : (k : Keeping) (m : ℕ) (votes : List (Option Claim)) (v : Vote) (pace : Option Pace) → k.clock ≡ new.clock → k.table ≡ new.table → Reads votes k.state.reader → truth_at t m ≡ Some v.claim
      → step_behind k.clock.prefers_frames (rules_on k.clock pace k.state.reader 1) k.table 0 k.state.reader (Some v.claim) ≡ step_of new.clock.reader_rules new.table (state_of new.clock.reader_rules new.table votes) (Some v.claim)
  step_reads k m votes v pace clock table reads truth =
      same_vote k.clock pace k.state.reader 1 k.clock.prefers_frames k.table k.state.reader v.claim
      ∙ ap (λ (c : ClockRules). step_behind c.prefers_frames c.reader_rules k.table 0 k.state.reader (Some v.claim)) clock
      ∙ ap (λ (x : TableValue). step_behind new.clock.prefers_frames new.clock.reader_rules x 0 k.state.reader (Some v.claim)) table
      ∙ passes_truth t new.clock.prefers_frames new.clock.reader_rules new.table follows m k.state.reader v.claim truth
      ∙ ap (λ (s : State). step_of new.clock.reader_rules new.table s (Some v.claim)) reads

  first_voted : (m now : ℕ) (calls : List Call) → AreInOrder start new.clock.redundancy (Tick now ∷ calls) → (v : Vote) → vote_at (after_calls new calls) (now % 2 ^ 32) ≡ Some v → IsVoteOf m now v → IsReached calls → IsFirstVoted m (Tick now ∷ calls)
  first_voted m now calls order v is_voted vote reached =
      let k : Keeping = after_calls new calls in
      let n : ℕ = edges_to_vote k.state.edge_us v.edge_us in
      let left = voted k (now % 2 ^ 32) v is_voted in
      elim (cases_Bool (n == 0)) [
        | inl waits ↦ by reached.votes (left.none (eqb-true n 0 waits) ∙ reached.reads) left.edge
        | inr more ↦
            let some : 1 ≤ n = (let apart = eqb-false n 0 more in omega (arith, apart)) in
            let led = leads k (n - 1) (Some v.claim) (settled_at k.clock k.state (now % 2 ^ 32)).pace n (same_clock calls now order) (same_table calls now order) reached in
            by led.votes (left.some some ∙ led.reads) left.edge
      ]
    where
      by : (votes : List (Option Claim)) → Reads votes (state (Tick now ∷ calls)).reader → (state (Tick now ∷ calls)).edge_us ≡ Some v.edge_us → IsFirstVoted m (Tick now ∷ calls)
      by votes reads edge = record {
        votes = votes;
        voted_at = record { e = v.edge_us; edge = edge; V = vote.V; at = vote.at; near = vote.near; set = set_here vote.V now calls v is_voted vote.at; reads = reads };
      }

  -- behind a second that was voted it counts one
  counts_one : (m now : ℕ) (votes : List (Option Claim)) (calls : List Call) → AreInOrder start new.clock.redundancy (Tick now ∷ calls) → (v : Vote) (vote : IsVoteOf (m + 1) now v) → (at : IsVotedAt m votes calls) → edges_to_vote (state calls).edge_us v.edge_us ≡ 1
  counts_one m now votes calls order v vote at =
      ap (λ (o : Option ℕ). edges_to_vote o v.edge_us) at.edge
      ∙ voted_count (last_tick start calls) now order.0 (omega (arith, order.1)) at.e at.V at.at v.edge_us vote.V vote.at vote.close
      ∙ counts new.clock.drift_us most_vote_us most_vote_us most_vote_us most_vote_us m 1 at.V vote.V edges is.steady at.near vote.near (omega (arith, is.steady.few)) (omega (arith, is.steady.few))

  record IsVotedNext (m : ℕ) (votes : List (Option Claim)) (now : ℕ) (calls : List Call) : Type 0 where
    voted_at : IsVotedAt (m + 1) (truth_at t m ∷ votes) (Tick now ∷ calls)
    beat : Beat
    answer : answer_at (after_calls new calls) (now % 2 ^ 32) ≡ Some beat
    report : beat.report ≡ report_of new.clock.reader_rules new.table (truth_at t m) votes

  next_voted : (m now : ℕ) (votes : List (Option Claim)) (calls : List Call) → AreInOrder start new.clock.redundancy (Tick now ∷ calls) → (v : Vote) → vote_at (after_calls new calls) (now % 2 ^ 32) ≡ Some v → IsVoteOf (m + 1) now v → IsVotedAt m votes calls → IsVotedNext m votes now calls
  next_voted m now votes calls order v is_voted vote at =
      let k : Keeping = after_calls new calls in
      let n : ℕ = edges_to_vote k.state.edge_us v.edge_us in
      let one : n ≡ 1 = counts_one m now votes calls order v vote at in
      let some : 1 ≤ n = omega (arith, one) in
      let left = voted k (now % 2 ^ 32) v is_voted in
      let told = left.tells some in
      let same : m + 1 - 1 ≡ m = omega arith in
      let claim : Some v.claim ≡ truth_at t m = sym vote.claim ∙ ap (truth_at t) same in
      let rule = step_reads k m votes v (settled_at k.clock k.state (now % 2 ^ 32)).pace (same_clock calls now order) (same_table calls now order) at.reads (sym claim) in
      record {
        voted_at = record {
          e = v.edge_us;
          edge = left.edge;
          V = vote.V;
          at = vote.at;
          near = vote.near;
          set = set_here vote.V now calls v is_voted vote.at;
          reads = left.some some ∙ ap (λ (x : ℕ). (step_to k.clock k.table (settled_at k.clock k.state (now % 2 ^ 32)) x (Some v.claim)).state) one ∙ ap (λ (x : Step). x.state) rule ∙ ap (λ (o : Option Claim). state_of new.clock.reader_rules new.table (o ∷ votes)) claim;
        };
        beat = told.0;
        answer = told.1;
        report =
            told.2
            ∙ ap (λ (x : ℕ). (step_to k.clock k.table (settled_at k.clock k.state (now % 2 ^ 32)) x (Some v.claim)).report) one
            ∙ ap (λ (x : Step). x.report) rule
            ∙ ap (λ (o : Option Claim). report_of new.clock.reader_rules new.table o votes) claim;
      }

  -- ---- over the calls of a second

  Waits : ℕ → List (Option Claim) → List Call → List Call → Type 0
  Waits m votes later older = IsVotedAt m votes (later ++ older) × HaveNoVotes new (edges (m + 1) - 17000) later older

  Goes : ℕ → List (Option Claim) → List Call → List Call → Type 0
  Goes m votes later older = IsVotedAt (m + 1) (truth_at t m ∷ votes) (later ++ older) × IsReported (m + 1) (truth_at t m) votes later older

  -- one that comes before has none
  walk : (m : ℕ) (votes : List (Option Claim)) (older : List Call) → IsVotedAt m votes older → (later : List Call) → AreInOrder start new.clock.redundancy (later ++ older) → AreTrueOver IsTrue f later older → last_tick start (later ++ older) ≤ edges (m + 1) + 3000 → Waits m votes later older ⊎ Goes m votes later older
  unfolding Waits Goes
  walk m votes older at [] order truth early = inl (at, tt)
  walk m votes older at (Hear port rise width ∷ later) order truth early = elim (walk m votes older at later order.2 truth early) [
    | inl waits ↦ inl (voted_hears m votes port rise width (later ++ older) waits.0, waits.1)
    | inr goes ↦ inr (voted_hears (m + 1) (truth_at t m ∷ votes) port rise width (later ++ older) goes.0, reported_on (m + 1) (truth_at t m) votes (Hear port rise width) later older goes.1)
  ]
  walk m votes older at (Tick now ∷ later) order truth early = elim (walk m votes older at later order.3 truth.1 (omega (arith, order.0, early))) [
    | inl waits ↦ by waits (vote_at (after_calls new (later ++ older)) (now % 2 ^ 32)) refl
    | inr goes ↦
        let none = no_second (m + 1) (truth_at t m ∷ votes) now (later ++ older) order (omega (arith, early)) goes.0 in
        inr (
          voted_waits (m + 1) (truth_at t m ∷ votes) now (later ++ older) order none goes.0 (omega (arith, goes.0.near.least, early)),
          reported_on (m + 1) (truth_at t m) votes (Tick now) later older goes.1,
        )
  ]
    where
      by : Waits m votes later older → (o : Option Vote) → vote_at (after_calls new (later ++ older)) (now % 2 ^ 32) ≡ o → Waits m votes (Tick now ∷ later) older ⊎ Goes m votes (Tick now ∷ later) older
      by waits None e = inl (voted_waits m votes now (later ++ older) order e waits.0 (omega (arith, waits.0.near.least, early, is.steady.steady.most m, is.steady.few)), (λ _. e, waits.1))
      by waits (Some v) e =
          let V' = edge_of new start begun (later ++ older) now order v e in
          let far = far_apart waits.0.V now (later ++ older) order waits.0.set v e V'.0 V'.1 in
          let vote = vote_of (m + 1) now (later ++ older) order truth.0 (omega (arith, far, V'.1.come, waits.0.near.least, is.steady.steady.most m, is.steady.few)) (omega (arith, early)) v e in
          let next = next_voted m now votes (later ++ older) order v e vote waits.0 in
          inr (next.voted_at, record { now = now; x = []; y = later; are = refl; soon = omega (arith, early); beat = next.beat; answer = next.answer; report = next.report })

  -- the last tick of a second has a vote, if none has
  has_one : (m : ℕ) → 1 ≤ m → (older : List Call) (told : ℕ) → HaveRisen told older → told + 11000 < edges m → (others : List Call) (now : ℕ) → AreInOrder start new.clock.redundancy (Tick now ∷ (others ++ older)) → HaveNoVotes new (edges m - 17000) others older
      → AreTrueLately IsTrue f now (others ++ older) → now ≤ edges m + 98000 → ((edges m + vote_us new.clock new.clock.drift_us ≤ now) × ComesWhole t edges new m (others ++ older)) ⊎ ((edges m ≤ now + 17000) × ((v : Vote) × (vote_at (after_calls new (others ++ older)) (now % 2 ^ 32) ≡ Some v)))
      → (edges m ≤ now + 17000) × ((v : Vote) × (vote_at (after_calls new (others ++ older)) (now % 2 ^ 32) ≡ Some v))
  has_one m some older told risen past others now order none lately soon (inr voted) = voted
  has_one m some older told risen past others now order none lately soon (inl come) =
      let whole = come.1 in (
        omega (arith, come.0),
        has_vote IsTrue t edges new is.steady start begun truly m some older told risen past (others ++ older) now order soon whole.whole whole.many
            (λ i small is_whole. (let w = whole.frames i small is_whole in whole_kept t edges new is.steady start begun i small m older told risen past others now order none soon w.0 w.1)) come.0 lately,
      )

  -- the last of them has one, if none has
  finish : (m : ℕ) (votes : List (Option Claim)) (older last : List Call) → IsVotedAt m votes older → (told : ℕ) → HaveRisen told older → told + 11000 < edges (m + 1) → (w : IsServed IsTrue t edges new start (m + 1) last older) → AreInOrder start new.clock.redundancy (last ++ older) → Goes m votes last older
  unfolding Goes Waits
  finish m votes older last at told risen past w order =
      subst (λ (x : List Call). Goes m votes x older) (sym w.are)
      (by (subst (λ (x : List Call). AreInOrder start new.clock.redundancy (x ++ older)) w.are order) (subst (λ (x : List Call). AreTrueOver IsTrue f x older) w.are w.truth))
    where
      by : AreInOrder start new.clock.redundancy (Tick w.now ∷ (w.others ++ older)) → AreTrueOver IsTrue f (Tick w.now ∷ w.others) older → Goes m votes (Tick w.now ∷ w.others) older
      by order truth = elim (walk m votes older at w.others order.3 truth.1 w.early) [
        | inr goes ↦
            let none = no_second (m + 1) (truth_at t m ∷ votes) w.now (w.others ++ older) order w.soon goes.0 in (
              voted_waits (m + 1) (truth_at t m ∷ votes) w.now (w.others ++ older) order none goes.0 (omega (arith, goes.0.near.least, w.soon)),
              reported_on (m + 1) (truth_at t m) votes (Tick w.now) w.others older goes.1,
            )
        | inl waits ↦
            let has = has_one (m + 1) (omega arith) older told risen past w.others w.now order waits.1 truth.0 w.soon w.comes in
            let vote = vote_of (m + 1) w.now (w.others ++ older) order truth.0 (omega (arith, has.0)) w.soon has.1.0 has.1.1 in
            let next = next_voted m w.now votes (w.others ++ older) order has.1.0 has.1.1 vote waits.0 in
            (next.voted_at, record { now = w.now; x = []; y = w.others; are = refl; soon = w.soon; beat = next.beat; answer = next.answer; report = next.report })
      ]

  -- ---- the first second, from wherever the device stands

  module _ (fresh : new.state.reader ≡ state_of new.clock.reader_rules new.table []) where
    reached : (calls : List Call) → AreInOrder start new.clock.redundancy calls → IsReached calls
    reached [] order = record { votes = []; reads = fresh }
    reached (Hear port rise width ∷ calls) order =
        let before = reached calls order.2 in
        record { votes = before.votes; reads = (passes_by (after_calls new calls) port (rise % 2 ^ 32) width).reader ∙ before.reads }
    reached (Tick now ∷ calls) order = by (reached calls order.3) (stepped (after_calls new calls) (now % 2 ^ 32))
      where
        by : IsReached calls → Stepped (after_calls new calls).clock (after_calls new calls).table (state calls).reader (state (Tick now ∷ calls)).reader → IsReached (Tick now ∷ calls)
        by before (inl same) = record { votes = before.votes; reads = same ∙ before.reads }
        by before (inr step) =
            let led = leads (after_calls new calls) step.0 step.1 step.2 step.3 (same_clock calls now order) (same_table calls now order) before in
            record { votes = led.votes; reads = step.4 ∙ led.reads }

    walk_first : (m : ℕ) (older later : List Call) → AreInOrder start new.clock.redundancy (later ++ older) → AreTrueOver IsTrue f later older → last_tick start (later ++ older) ≤ edges m + 3000 → HaveNoVotes new (edges m - 17000) later older ⊎ IsFirstVoted m (later ++ older)
    walk_first m older [] order truth early = inl tt
    walk_first m older (Hear port rise width ∷ later) order truth early = elim (walk_first m older later order.2 truth early) [
      | inl none ↦ inl none
      | inr v ↦ inr (record { votes = v.votes; voted_at = voted_hears m v.votes port rise width (later ++ older) v.voted_at })
    ]
    walk_first m older (Tick now ∷ later) order truth early = elim (walk_first m older later order.3 truth.1 (omega (arith, order.0, early))) [
      | inr v ↦
          let none = no_second m v.votes now (later ++ older) order (omega (arith, early)) v.voted_at in
          inr (record { votes = v.votes; voted_at = voted_waits m v.votes now (later ++ older) order none v.voted_at (omega (arith, v.voted_at.near.least, early)) })
      | inl none ↦ by none (vote_at (after_calls new (later ++ older)) (now % 2 ^ 32)) refl
    ]
      where
        by : HaveNoVotes new (edges m - 17000) later older → (o : Option Vote) → vote_at (after_calls new (later ++ older)) (now % 2 ^ 32) ≡ o → HaveNoVotes new (edges m - 17000) (Tick now ∷ later) older ⊎ IsFirstVoted m (Tick now ∷ (later ++ older))
        by none None e = inl (λ _. e, none)
        by none (Some v) e = elim (cases_lt (now + 17000) (edges m)) [
          | inl before ↦ inl (λ from. absurd (omega (arith, from, before)), none)
          | inr behind ↦
              let vote = vote_of m now (later ++ older) order truth.0 (omega (arith, behind)) (omega (arith, early)) v e in
              inr (first_voted m now (later ++ older) order v e vote (reached (later ++ older) order.3))
        ]

    finish_first : (m : ℕ) → 1 ≤ m → (older last : List Call) (told : ℕ) → HaveRisen told older → told + 11000 < edges m → (w : IsServed IsTrue t edges new start m last older) → AreInOrder start new.clock.redundancy (last ++ older) → IsFirstVoted m (last ++ older)
    finish_first m some older last told risen past w order =
        subst (λ (x : List Call). IsFirstVoted m (x ++ older)) (sym w.are)
        (by (subst (λ (x : List Call). AreInOrder start new.clock.redundancy (x ++ older)) w.are order) (subst (λ (x : List Call). AreTrueOver IsTrue f x older) w.are w.truth))
      where
        by : AreInOrder start new.clock.redundancy (Tick w.now ∷ (w.others ++ older)) → AreTrueOver IsTrue f (Tick w.now ∷ w.others) older → IsFirstVoted m (Tick w.now ∷ (w.others ++ older))
        by order truth = elim (walk_first m older w.others order.3 truth.1 w.early) [
          | inr v ↦
              let none = no_second m v.votes w.now (w.others ++ older) order w.soon v.voted_at in
              record { votes = v.votes; voted_at = voted_waits m v.votes w.now (w.others ++ older) order none v.voted_at (omega (arith, v.voted_at.near.least, w.soon)) }
          | inl none ↦
              let has = has_one m some older told risen past w.others w.now order none truth.0 w.soon w.comes in
              let vote = vote_of m w.now (w.others ++ older) order truth.0 (omega (arith, has.0)) w.soon has.1.0 has.1.1 in
              first_voted m w.now (w.others ++ older) order has.1.0 has.1.1 vote (reached (w.others ++ older) order.3)
        ]

    -- ---- seconds in a row

    record IsRow (a n : ℕ) (votes : List (Option Claim)) (calls : List Call) : Type 0 where
      voted_at : IsVotedAt (a + n) (then_true t a n votes) calls
      told : ℕ
      risen : HaveRisen told calls
      upto : told ≤ edges (a + n) + 102000

    risen_by : (m : ℕ) (last older : List Call) (w : IsServed IsTrue t edges new start m last older) → AreInOrder start new.clock.redundancy (last ++ older) → HaveRisen (w.now + 4000) (last ++ older)
    risen_by m last older w order = subst (λ (x : List Call). HaveRisen (w.now + 4000) (x ++ older)) (sym w.are) (subst (λ (x : List Call). AreInOrder start new.clock.redundancy (x ++ older)) w.are order).2

    row : (a : ℕ) → 1 ≤ a → (before : List Call) (told : ℕ) → HaveRisen told before → told + 11000 < edges a → (n : ℕ) (calls : List Call) → AreServed IsTrue t edges new start a (suc n) calls before → AreInOrder start new.clock.redundancy calls → (votes : List (Option Claim)) × IsRow a n votes calls
    unfolding Goes
    row a some before told risen past zero calls heard order =
        let last : List Call = heard.0 in
        let here : heard.1 ≡ before = heard.4 in
        let are : calls ≡ last ++ before = heard.2 ∙ ap (λ (x : List Call). last ++ x) here in
        let same : a + 0 ≡ a = omega arith in
        let w = subst (λ (m : ℕ). IsServed IsTrue t edges new start m last before) same (subst (λ (x : List Call). IsServed IsTrue t edges new start (a + 0) last x) here heard.3) in
        let ordered = subst (AreInOrder start new.clock.redundancy) are order in
        let first = finish_first a some before last told risen past w ordered in (
          first.votes,
          record {
            voted_at = subst (λ (m : ℕ). IsVotedAt m first.votes calls) (sym same) (subst (IsVotedAt a first.votes) (sym are) first.voted_at);
            told = w.now + 4000;
            risen = subst (HaveRisen (w.now + 4000)) (sym are) (risen_by a last before w ordered);
            upto = subst (λ (m : ℕ). w.now + 4000 ≤ edges m + 102000) (sym same) (omega (arith, w.soon));
          },
        )
    row a some before told risen past (suc n) calls heard order =
        let last : List Call = heard.0 in
        let older : List Call = heard.1 in
        let ordered = subst (AreInOrder start new.clock.redundancy) heard.2 order in
        let rec = row a some before told risen past n older heard.4 (order_before start new.clock.redundancy last older ordered) in
        let same : a + suc n ≡ a + n + 1 = omega arith in
        let w = subst (λ (m : ℕ). IsServed IsTrue t edges new start m last older) same heard.3 in
        let goes = next_of a n rec.0 last older rec.1 w ordered in (
          rec.0,
          record {
            voted_at = subst (λ (m : ℕ). IsVotedAt m (then_true t a (suc n) rec.0) calls) (sym same) (subst (IsVotedAt (a + n + 1) (then_true t a (suc n) rec.0)) (sym heard.2) goes.0);
            told = heard.3.now + 4000;
            risen = subst (HaveRisen (heard.3.now + 4000)) (sym heard.2) (risen_by (a + suc n) last older heard.3 ordered);
            upto = omega (arith, heard.3.soon);
          },
        )
      where
        next_of : (a n : ℕ) (votes : List (Option Claim)) (last older : List Call) → IsRow a n votes older → IsServed IsTrue t edges new start (a + n + 1) last older → AreInOrder start new.clock.redundancy (last ++ older) → Goes (a + n) (then_true t a n votes) last older
        next_of a n votes last older is_row w order = finish (a + n) (then_true t a n votes) older last is_row.voted_at is_row.told is_row.risen (omega (arith, is_row.upto, is.steady.steady.least (a + n), is.steady.few)) w order

    -- as many as the reader asks for, and two more
    pub serves : (a : ℕ) → 1 ≤ a → 1 ≤ new.clock.reader_rules.lock_after → (before : List Call) (told : ℕ) → HaveRisen told before → told + 11000 < edges a → (calls : List Call) → AreServed IsTrue t edges new start a (suc (suc new.clock.reader_rules.lock_after)) calls before → AreInOrder start new.clock.redundancy calls
        → (u : UtcSecond) → IsSecond t (a + 1 + new.clock.reader_rules.lock_after) u → Announces edges new (a + 1 + new.clock.reader_rules.lock_after) u calls
    unfolding Goes
    serves a some enough before told risen past calls heard order u second =
        let L : ℕ = new.clock.reader_rules.lock_after in
        let last : List Call = heard.0 in
        let older : List Call = heard.1 in
        let ordered = subst (AreInOrder start new.clock.redundancy) heard.2 order in
        let rec = row a some before told risen past L older heard.4 (order_before start new.clock.redundancy last older ordered) in
        let same : a + suc L ≡ a + L + 1 = omega arith in
        let w = subst (λ (m : ℕ). IsServed IsTrue t edges new start m last older) same heard.3 in
        let tells = (finish (a + L) (then_true t a L rec.0) older last rec.1.voted_at rec.1.told rec.1.risen (omega (arith, rec.1.upto, is.steady.steady.least (a + L), is.steady.few)) w ordered).1 in
        let here : a + L + 1 ≡ a + 1 + L = omega arith in
        record {
          now = tells.now;
          later = tells.x;
          earlier = tells.y ++ older;
          are = heard.2 ∙ ap (λ (x : List Call). x ++ older) tells.are ∙ append_assoc tells.x (Tick tells.now ∷ tells.y) older;
          soon = subst (λ (m : ℕ). tells.now ≤ edges m + 98000) here tells.soon;
          beat = tells.beat;
          answer = tells.answer;
          says = tells.report ∙ locked_from_anywhere t new.clock.reader_rules new.table is.sound enough a (truth_at t (a + L)) rec.0 (then_true t a L rec.0) u second (ap (λ (n : ℕ). then_true t a n rec.0) (let count : suc L ≡ L + 1 = omega arith in count));
        }

    pub announces : (a : ℕ) → 1 ≤ a → 1 ≤ new.clock.reader_rules.lock_after → (before : List Call) (told : ℕ) → HaveRisen told before → told + 11000 < edges a → (calls : List Call) → AreWellHeard IsTrue t edges new start a (suc (suc new.clock.reader_rules.lock_after)) calls before → AreInOrder start new.clock.redundancy calls
        → (u : UtcSecond) → IsSecond t (a + 1 + new.clock.reader_rules.lock_after) u → Announces edges new (a + 1 + new.clock.reader_rules.lock_after) u calls
    announces a some enough before told risen past calls heard order u second =
        serves a some enough before told risen past calls (heard_serve IsTrue t edges new start a (suc (suc new.clock.reader_rules.lock_after)) calls before heard) order u second
