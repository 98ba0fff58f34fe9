-- A vote is carried by whole frames of more than f lines.
use Rattle.std.proofs.Common.{◌≡◌, ◌∙◌, ℕ, ◌+◌, ◌-◌, ◌*◌, ◌%◌, ◌^◌, ◌<◌, ◌≤◌, Bool, true, List, [], ◌∷◌, drop, Option, Some, sym, ap, subst, arith}
use Rattle.irig_sync.specs.Sync.{clock_gap}
use Rattle.irig_time.specs.Claims.{same_claim}
use Rattle.irig_time.specs.declared.claim.Claim.{Claim}
use Rattle.irig_time.specs.declared.rules.Rules.{Rules}
use Rattle.irig_vote.specs.Vote.{f_of}
use Rattle.irig_vote.proofs.CountLaws.{same_is}
use Rattle.irig_lines.specs.declared.lines.KeptClaim.{KeptClaim}
use Rattle.irig_lines.specs.declared.lines.Vote.{Vote}
use Rattle.irig_lines.specs.declared.setup.ClockRules.{ClockRules}
use Rattle.irig_lines.specs.Lines.{IfKept, IsFrameOf}
use Rattle.irig_lines.specs.Steps.{line_at, claim_kept, settled, first_us, last_us, agreed}
use Rattle.irig_lines.proofs.WholeLaws.{whole_of}
use Rattle.irig_lines.proofs.WidthLaws.{widest_few}
use Rattle.irig_timekeeper.specs.Keeping.{Keeping, vote_at}
use Rattle.irig_timekeeper.specs.Life.{Call, Made, after_calls, device_of, life_of, pulses_on, last_tick, AreInOrder}
use Rattle.irig_timekeeper.specs.Life.Call.{Tick}
use Rattle.irig_timekeeper.specs.Carried.{IsCarried, IsFrameNear}
use Rattle.irig_timekeeper.proofs.VoteLaws.{come, exact_time}
use Rattle.irig_timekeeper.proofs.LifeLaws.{AreLinesAt, IsEndAt, begins, lines_after}
use Rattle.irig_timekeeper.proofs.OrderLaws.{IsCandidateAt, EndsAt, agreed_by, agreed_on, agreeing, ends_at, many}

-- a frame that began its interval then may have its edge at this time, which its interval reaches
within : (e end half gap time now : ℕ) → e ≡ (end - half + gap) % 2 ^ 32 → e ≡ time % 2 ^ 32 → gap ≤ 2 * half → half ≤ 1449 → 10000 ≤ end → end ≤ now + 14000 → now ≤ end + 100000 → time ≤ now + 15449 → now ≤ time + 101449
    → (time ≤ end + half) × (end ≤ time + half)
within e end half gap time now at here near narrow some ahead soon ahead_too soon_too =
    let same : time ≡ end - half + gap = omega (arith, at, here, near, narrow, some, ahead, soon, ahead_too, soon_too) in
    (omega (arith, same, near, narrow, some), omega (arith, same, near, narrow, some))

first_at : (e half end : ℕ) → e ≡ end % 2 ^ 32 → half ≤ end → half ≤ 1449 → (e + 2 ^ 32 - half) % 2 ^ 32 ≡ (end - half) % 2 ^ 32
first_at e half end at some narrow = omega (arith, at, some, narrow)

module _ (new : Keeping) (start : ℕ) (begins : AreLinesAt new new (λ i. []) start start) (calls : List Call) (now : ℕ) (order : AreInOrder start new.clock.redundancy (Tick now ∷ calls)) where
  abbrev after : Keeping
  after = after_calls new calls

  module _ (x : KeptClaim) (is : IsCandidateAt new start begins calls now order x) (time : ℕ) (ends : EndsAt new start begins calls now order x is time) where
    near_time : (i : ℕ) → i < 5 → agreeing new start begins calls now order x is i ≡ true → IsFrameNear after.clock after.rules x.claim time now (pulses_on i calls)
    near_time i small agree =
        let a = agreed_by new start begins calls now order x is i small agree in
        let l = (lines_after new start begins calls now order).lines i small in
        let h = subst (λ (o : Option KeptClaim). IfKept (IsEndAt (pulses_on i calls) (last_tick start calls) now) after.clock after.rules o (pulses_on i calls)) a.keeps l.kept in
        let whole : h.0 ≡ whole_of (pulses_on i calls) = h.3.2 in
        let narrow : a.y.half_us ≤ 1449 = omega (arith, a.half_of.1, widest_few after.clock) in
        let end : ℕ = whole_of (pulses_on i calls) in
        let gap : ℕ = clock_gap (first_us a.y) (last_us x) in
        let first = first_at a.y.end_us a.y.half_us end a.ends (omega (arith, a.low, narrow)) narrow in
        let at = within (last_us x) end a.y.half_us gap time now (exact_time (last_us x) (end - a.y.half_us) (first_us a.y) (omega arith) first) ends.clock a.near narrow a.low a.ahead a.soon ends.ahead ends.soon in
        record {
          half = a.y.half_us;
          end = h.0;
          frame = subst (λ (claim : Claim). IsFrameOf after.clock after.rules claim a.y.half_us h.0 (pulses_on i calls)) (sym (same_is x.claim a.y.claim a.same)) h.2;
          least = omega (arith, whole, at.0);
          most = omega (arith, whole, at.1);
          soon = omega (arith, whole, a.soon);
        }

  vote_is_carried : (v : Vote) → vote_at after (now % 2 ^ 32) ≡ Some v → IsCarried after.clock after.rules v.claim now (λ i. pulses_on i calls)
  vote_is_carried v voted =
      let there = come (now % 2 ^ 32) (agreed after.clock (settled (now % 2 ^ 32) after.state.lines)) v voted in
      let on = agreed_on new start begins calls now order v there.0 in
      let end = ends_at new start begins calls now order on.x on.is in
      let same = (lines_after new start begins calls now order).same in
      let claims : v.claim ≡ on.x.claim = ap (λ (z : Vote). z.claim) on.parts.is in
      let counted = many new start begins calls now order on.x on.is in
      subst (λ (claim : Claim). IsCarried after.clock after.rules claim now (λ i. pulses_on i calls)) (sym claims) (record {
        carries = agreeing new start begins calls now order on.x on.is;
        many = (let f : f_of after.clock.redundancy ≡ f_of new.clock.redundancy = ap (λ (c : ClockRules). f_of c.redundancy) same.clock in omega (arith, counted, f));
        near = end.0;
        frames = λ i small agree. near_time on.x on.is end.0 end.1 i small agree;
      })

-- so in the life of a device
pub life_carries : (made : Made) (start now : ℕ) (calls : List Call) (v : Vote) → AreInOrder start made.clock.redundancy (Tick now ∷ calls) → vote_at (life_of made calls) (now % 2 ^ 32) ≡ Some v
    → IsCarried made.clock made.rules v.claim now (λ i. pulses_on i calls)
life_carries made start now calls v order voted =
    let new = device_of made in
    let lines_new = begins made.rules made.clock made.table made.lines start made.fresh in
    let same = (lines_after new start lines_new calls now order).same in
    subst (λ (x : Rules). IsCarried made.clock x v.claim now (λ i. pulses_on i calls)) same.rules
    (subst (λ (x : ClockRules). IsCarried x (life_of made calls).rules v.claim now (λ i. pulses_on i calls)) same.clock
    (vote_is_carried new start lines_new calls now order v voted))
