-- An audit that is kept was kept before each call.
use Rattle.std.specs.Prelude.{nat_lt, nat_le, count_by}
use Rattle.std.specs.List.{range_with_len}
use Rattle.std.proofs.Common.{◌≡◌, ℕ, ◌+◌, true, List, ◌∷◌}
use Rattle.std.proofs.lemmas.Bool.{and_from}
use Rattle.irig_vote.specs.declared.redundancy.Redundancy.{Redundancy}
use Rattle.irig_vote.specs.Vote.{f_of, ports_in}
use Rattle.irig_lines.specs.declared.setup.ClockRules.{ClockRules}
use Rattle.irig_timekeeper.specs.Life.{Call, last_tick}
use Rattle.irig_timekeeper.specs.Life.Call.{Hear, Tick}
use Rattle.irig_lives.specs.Decided.{have_risen, in_order}
use Rattle.irig_lives.proofs.DecidedLaws.{both}
use Rattle.irig_witness.specs.Witness.{TrueLines, is_doubted, is_kept, were_true}

order_before : (start : ℕ) (r : Redundancy) (call : Call) (calls : List Call) → in_order start r (call ∷ calls) ≡ true → in_order start r calls ≡ true
unfolding in_order
order_before start r (Hear port rise width) calls e = (both _ (in_order start r calls) (both (nat_lt port (ports_in r)) _ e).1).1
order_before start r (Tick now) calls e =
    let a = both (nat_le (last_tick start calls) now) _ e in
    let b = both (nat_lt (now + 504000) (last_tick start calls + 1800000000)) _ a.1 in
    (both (have_risen (now + 4000) calls) (in_order start r calls) b.1).1

true_before : (within f : ℕ) (x : TrueLines) (call : Call) (calls : List Call) → were_true within f x (call ∷ calls) ≡ true → were_true within f x calls ≡ true
true_before within f x (Hear port rise width) calls e = e
true_before within f x (Tick now) calls e = (both (nat_le (count_by (is_doubted within x calls now) (range_with_len 0 5)) f) (were_true within f x calls) e).1

pub kept_before : (c : ClockRules) (x : TrueLines) (start : ℕ) (call : Call) (calls : List Call) → is_kept c x start (call ∷ calls) ≡ true → is_kept c x start calls ≡ true
kept_before c x start call calls kept =
    let e = both (in_order start c.redundancy (call ∷ calls)) (were_true c.within.us (f_of c.redundancy) x (call ∷ calls)) kept in
    and_from _ _ (order_before start c.redundancy call calls e.0) (true_before c.within.us (f_of c.redundancy) x call calls e.1)
