use Rattle.std.proofs.Common.{◌≡◌, ◌++◌, ◌∙◌, ◌||◌, [], take, false, zero-le, ap, sym, subst, arith, rules}
use Rattle.std.proofs.lemmas.List.{length-append}
use Rattle.std.proofs.lemmas.Result.{err_from_is_err_and}
use Rattle.std.specs.Io.KnownBytes.{Consumes}
use Rattle.irig_device.specs.Watched.{device_of, has_failed}
use Rattle.report_judge.specs.declared.fault.JudgeFault.TheVariants.{Read}
use Rattle.report_judge.specs.Readings.{RefusedBy}
use Rattle.report_judge.proofs.ReadingLaws.{ended-known, never-read, never-read-from, refused-known, takes-nothing, takes-on, whole-known}
use Rattle.report_judge.proofs.run.judge.Goals as goal

pub loop-piece-init : goal.loop-piece-init
loop-piece-init g c = (
  c.requires.whole,
  record {
    text = [];
    took = takes-nothing (g.I.Read.remaining (device_of c.args.input.now));
    read = c.new-reading.ensures c.args.asked.now;
    many = zero-le;
  },
)

pub returns-in_err-judged-clause-refused : goal.returns-in_err-judged-clause-refused
returns-in_err-judged-clause-refused g c =
    let so_far = c.loop-piece.invariant.1 in
    let p = err_from_is_err_and c.from_residual-in_err-judged.result c.from_residual-in_err-judged.ensures.1 in
    rw (p.1, p.2) (λ no. whole-known (λ t. RefusedBy c.args.asked.now t c.in_err-judged.field-0.0) _ _ so_far.text so_far.took
    (c.in_ok-count.ensures.end (search rules)) (c.in_err-judged.ensures.refuses c.args.asked.now so_far.text so_far.read))

pub returns-in_err-judged-clause-read : goal.returns-in_err-judged-clause-read
returns-in_err-judged-clause-read g c =
    let so_far = c.loop-piece.invariant.1 in
    let whole : has_failed c.read_some.new.self ≡ false = c.in_ok-count.ensures.note ∙ ap (λ b. b || false) c.loop-piece.invariant.0 in
    let p = err_from_is_err_and c.from_residual-in_err-judged.result c.from_residual-in_err-judged.ensures.1 in
    let is = p.1 in
    let of_end = p.2 in
    let never = never-read c.args.asked.now so_far.text c.in_err-judged.field-0.0 (c.in_err-judged.ensures.refuses c.args.asked.now so_far.text so_far.read) in (
      λ e. let wrong : c.in_err-judged.field-0.0 ≡ Read = cc in absurd (never wrong),
      λ failed. absurd cc,
    )

pub returns-then-count-eq0-clause-end : goal.returns-then-count-eq0-clause-end
returns-then-count-eq0-clause-end g c =
    let so_far = c.loop-piece.invariant.1 in
    let none : c.in_ok-count.count ≡ 0 = search rules in
    ended-known _ (g.I.Read.remaining (device_of c.loop-piece.input)) _ so_far.text so_far.took
    (subst (λ n. Consumes (g.I.Read.remaining (device_of c.loop-piece.input)) (g.I.Read.remaining (device_of c.read_some.new.self)) (take n c.read_some.new.bytes)) none c.in_ok-count.ensures.taken) (c.in_ok-count.ensures.end none)

pub returns-in_err-reading-clause-refused : goal.returns-in_err-reading-clause-refused
returns-in_err-reading-clause-refused g c =
    let so_far = c.loop-piece.invariant.1 in
    let p = err_from_is_err_and c.from_residual-in_err-reading.result c.from_residual-in_err-reading.ensures.1 in
    rw (p.1, p.2) (λ no. refused-known c.args.asked.now _ _ (so_far.text ++ c.split_at.result.0.now) c.in_err-reading.field-0.0
    (takes-on _ (g.I.Read.remaining (device_of c.loop-piece.input)) _ so_far.text c.split_at.result.0.now so_far.took
    (subst (Consumes _ (g.I.Read.remaining (device_of c.read_some.new.self))) (sym c.split_at.ensures.front) c.in_ok-count.ensures.taken))
    (c.in_err-reading.ensures.refuses so_far.text so_far.read))

pub returns-in_err-reading-clause-read : goal.returns-in_err-reading-clause-read
returns-in_err-reading-clause-read g c =
    let so_far = c.loop-piece.invariant.1 in
    let whole : has_failed c.read_some.new.self ≡ false = c.in_ok-count.ensures.note ∙ ap (λ b. b || false) c.loop-piece.invariant.0 in
    let p = err_from_is_err_and c.from_residual-in_err-reading.result c.from_residual-in_err-reading.ensures.1 in
    let is = p.1 in
    let of_read = p.2 in
    let never = never-read-from c.args.asked.now (so_far.text ++ c.split_at.result.0.now) c.in_err-reading.field-0.0 (c.in_err-reading.ensures.refuses so_far.text so_far.read) in (
      λ e. let wrong : c.in_err-reading.field-0.0 ≡ Read = cc in absurd (never wrong),
      λ failed. absurd cc,
    )

pub loop-piece-preserved : goal.loop-piece-preserved
loop-piece-preserved g c =
    let so_far = c.loop-piece.invariant.1 in
    let whole : has_failed c.read_some.new.self ≡ false = c.in_ok-count.ensures.note ∙ ap (λ b. b || false) c.loop-piece.invariant.0 in (
      whole,
      record {
        text = so_far.text ++ c.split_at.result.0.now;
        took = takes-on _ (g.I.Read.remaining (device_of c.loop-piece.input)) _ so_far.text c.split_at.result.0.now so_far.took
            (subst (Consumes _ (g.I.Read.remaining (device_of c.read_some.new.self))) (sym c.split_at.ensures.front) c.in_ok-count.ensures.taken);
        read = c.in_ok-reading.ensures.reads so_far.text so_far.read;
        many = omega (arith, so_far.many, length-append so_far.text c.split_at.result.0.now, c.split_at.ensures.front_len, c.if-count-eq0.false);
      },
    )
