use Rattle.std.proofs.Common.{rules, ◌≡◌, ℕ, ◌+◌, ◌-◌, ◌≤◌, ◌++◌, List, length, take, drop, arith, sym, subst, ap, ◌∙◌, length-drop, take-append-drop}
use Rattle.std.specs.Io.KnownBytes.{Appends}
use Rattle.std.proofs.KnownBytes.{Appends-trans, Appends-kept}
use Rattle.std.proofs.Math.Seq.{take-add}
use Rattle.std.proofs.lemmas.List.{take_all}
use Rattle.irig_device.specs.Watched.{AppendsPart}
use Rattle.irig_device.proofs.watched.Watched.write_all.Goals as goal

-- what is written of `l[n..]` goes behind the first n
take-more : (n m : ℕ) (l : List ℕ) → take n l ++ take m (take (length l - n) (drop n l)) ≡ take (n + m) l
take-more n m l =
    let whole : length (drop n l) ≤ length l - n = omega (arith, length-drop n l) in
    ap (λ rest. take n l ++ take m rest) (take_all _ _ whole) ∙ sym (take-add n m l)

pub loop-done-preserved : goal.loop-done-preserved
loop-done-preserved g c = (
  search rules,
  search rules,
  subst (Appends _ _) (take-more c.loop-done.done c.in_ok-count.count c.args.bytes.now)
      (Appends-trans _ _ _ _ _ c.loop-done.invariant.2 c.in_ok-count.ensures.taken),
)

pub returns-in_err-count-clause-err : goal.returns-in_err-count-clause-err
returns-in_err-count-clause-err g c =
    let part : AppendsPart _ _ c.args.bytes.now = record {
      front = take c.loop-done.done c.args.bytes.now;
      rest = drop c.loop-done.done c.args.bytes.now;
      whole = sym (take-append-drop c.loop-done.done c.args.bytes.now);
      wrote = Appends-kept _ _ _ _ c.loop-done.invariant.2 c.in_err-count.ensures.err;
    } in
    search (rules, part)
