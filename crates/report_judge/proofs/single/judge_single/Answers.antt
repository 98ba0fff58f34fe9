use Rattle.std.proofs.Common.{◌≡◌, ◌++◌, ◌∙◌, ◌||◌, [], take, false, Err, zero-le, ap, sym, subst, arith, rules}
use Rattle.std.proofs.lemmas.List.{length-append}
use Rattle.std.proofs.lemmas.Result.{err_from_is_err_and}
use Rattle.std.specs.Io.KnownBytes.{Consumes}
use Rattle.irig_device.specs.Watched.{device_of, has_failed}
use Rattle.report_judge.specs.declared.fault.JudgeFault.{JudgeFault}
use Rattle.report_judge.specs.declared.fault.JudgeFault.TheVariants.{Read}
use Rattle.report_judge.specs.Singles.{JudgedSingle, SingleRefused}
use Rattle.report_judge.proofs.ReadingLaws.{takes-nothing, takes-on, whole-known}
use Rattle.report_judge.proofs.SingleLaws.{begins, refused-known}
use Rattle.report_judge.proofs.single.judge_single.Goals as goal

pub loop-piece-init : goal.loop-piece-init
loop-piece-init g c = (
  c.requires.whole,
  record {
    file = [];
    took = takes-nothing (g.I.Read.remaining (device_of c.args.input.now));
    read = begins c.new.result c.new.ensures.top c.new.ensures.none;
    many = zero-le;
  },
)

pub returns-in_err-judged-clause-refused : goal.returns-in_err-judged-clause-refused
returns-in_err-judged-clause-refused g c =
    let so_far = c.loop-piece.invariant.1 in
    let p = err_from_is_err_and c.from_residual-in_err-judged.result c.from_residual-in_err-judged.ensures.1 in
    rw (p.1, p.2) (λ no. whole-known (λ t. SingleRefused c.args.asked.now t c.in_err-judged.field-0.0) _ _ so_far.file so_far.took
    (c.in_ok-count.ensures.end (search rules)) (c.in_err-judged.ensures.refuses so_far.file so_far.read))

pub returns-in_err-judged-clause-read : goal.returns-in_err-judged-clause-read
returns-in_err-judged-clause-read g c =
    let whole : has_failed c.read_some.new.self ≡ false = c.in_ok-count.ensures.note ∙ ap (λ b. b || false) c.loop-piece.invariant.0 in
    let p = err_from_is_err_and c.from_residual-in_err-judged.result c.from_residual-in_err-judged.ensures.1 in
    rw (p.1, p.2) (
      λ e. absurd (c.in_err-judged.ensures.device e),
      λ failed. absurd cc,
    )

pub returns-then-count-eq0-clause-judged : goal.returns-then-count-eq0-clause-judged
returns-then-count-eq0-clause-judged g c =
    let so_far = c.loop-piece.invariant.1 in
    whole-known (λ t. JudgedSingle c.args.asked.now t c.in_ok-judged.judged) _ _ so_far.file so_far.took
    (c.in_ok-count.ensures.end (search rules)) (c.in_ok-judged.ensures.judged so_far.file so_far.read)

pub returns-in_err-part-clause-refused : goal.returns-in_err-part-clause-refused
returns-in_err-part-clause-refused g c =
    let so_far = c.loop-piece.invariant.1 in
    let p = err_from_is_err_and c.from_residual-in_err-part.result c.from_residual-in_err-part.ensures.1 in
    rw (p.1, p.2) (λ no. refused-known c.args.asked.now _ _ (so_far.file ++ c.split_at.result.0.now) c.in_err-part.field-0.0
    (takes-on _ (g.I.Read.remaining (device_of c.loop-piece.input)) _ so_far.file c.split_at.result.0.now so_far.took
    (subst (Consumes _ (g.I.Read.remaining (device_of c.read_some.new.self))) (sym c.split_at.ensures.front) c.in_ok-count.ensures.taken))
    (c.in_err-part.ensures.refuses so_far.file so_far.read))

pub returns-in_err-part-clause-read : goal.returns-in_err-part-clause-read
returns-in_err-part-clause-read g c =
    let whole : has_failed c.read_some.new.self ≡ false = c.in_ok-count.ensures.note ∙ ap (λ b. b || false) c.loop-piece.invariant.0 in
    let p = err_from_is_err_and c.from_residual-in_err-part.result c.from_residual-in_err-part.ensures.1 in
    let is = p.1 in
    let of_part = p.2 in (
      λ e. let wrong : c.in_err-part.field-0.0 ≡ Read = cc in absurd (c.in_err-part.ensures.device (ap (λ (f : JudgeFault). Err f) wrong)),
      λ failed. absurd cc,
    )

pub loop-piece-preserved : goal.loop-piece-preserved
loop-piece-preserved g c =
    let so_far = c.loop-piece.invariant.1 in
    let whole : has_failed c.read_some.new.self ≡ false = c.in_ok-count.ensures.note ∙ ap (λ b. b || false) c.loop-piece.invariant.0 in (
      whole,
      record {
        file = so_far.file ++ c.split_at.result.0.now;
        took = takes-on _ (g.I.Read.remaining (device_of c.loop-piece.input)) _ so_far.file c.split_at.result.0.now so_far.took
            (subst (Consumes _ (g.I.Read.remaining (device_of c.read_some.new.self))) (sym c.split_at.ensures.front) c.in_ok-count.ensures.taken);
        read = c.in_ok-part.ensures.reads so_far.file so_far.read;
        many = omega (arith, so_far.many, length-append so_far.file c.split_at.result.0.now, c.split_at.ensures.front_len, c.if-count-eq0.false);
      },
    )
