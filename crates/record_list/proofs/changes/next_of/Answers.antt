use Rattle.std.proofs.Common.{◌++◌, ◌∙◌, ap, sym, arith}
use Rattle.record_list.specs.Changes.{said, said_until}
use Rattle.record_list.proofs.SeenLaws.{sees}
use Rattle.record_list.proofs.ReadLaws.{nothing-said}
use Rattle.record_list.proofs.changes.next_of.Goals as goal

pub returns-then-is_some-clause-says : goal.returns-then-is_some-clause-says
returns-then-is_some-clause-says c = λ others.
    c.loop-now.invariant.0 others
    ∙ sees c.args.until_ns c.args.pulses.now c.loop-now.now c.seen_at.result.high c.seen_at.result.next_ns others c.seen_at.ensures.later c.seen_at.ensures.within c.seen_at.ensures.stays
    ∙ ap (λ s. said s.levels ++ said_until c.args.until_ns c.args.pulses.now s.now others) (sym c.see-seen.ensures)

pub loop-now-preserved : goal.loop-now-preserved
loop-now-preserved c =
    let at = ap (λ s. s.now.at_ns) c.see-seen.ensures in (
      λ others.
          c.loop-now.invariant.0 others
          ∙ sees c.args.until_ns c.args.pulses.now c.loop-now.now c.seen_at.result.high c.seen_at.result.next_ns others c.seen_at.ensures.later c.seen_at.ensures.within c.seen_at.ensures.stays
          ∙ ap (λ s. said s.levels ++ said_until c.args.until_ns c.args.pulses.now s.now others) (sym c.see-seen.ensures)
          ∙ ap (λ l. l ++ said_until c.args.until_ns c.args.pulses.now c.see-seen.result.now others) (nothing-said c.see-seen.result.levels (sym c.if-is_some.ensures)),
      omega (arith, at, c.loop-now.invariant.1, c.seen_at.ensures.later),
      ap (λ s. s.now.is_begun) c.see-seen.ensures ∙ c.loop-now.invariant.2,
      ap (λ s. s.now.newest_ns) c.see-seen.ensures ∙ c.loop-now.invariant.3,
      ap (λ s. s.now.end_ns) c.see-seen.ensures ∙ c.loop-now.invariant.4,
    )
