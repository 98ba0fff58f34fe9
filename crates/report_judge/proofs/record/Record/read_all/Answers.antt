use Rattle.std.proofs.Common.{◌≡◌, ◌++◌, ◌∙◌, ◌||◌, [], take, false, zero-le, ap, sym, subst, arith, rules}
use Rattle.std.proofs.lemmas.List.{length-append}
use Rattle.std.proofs.lemmas.Result.{err_from_is_err_and}
use Rattle.std.specs.Io.KnownBytes.{Consumes}
use Rattle.irig_device.specs.Watched.{device_of, has_failed}
use Rattle.report_judge.specs.Records.{HasReadSamples}
use Rattle.report_judge.proofs.ReadingLaws.{ended-known, takes-nothing, takes-on, whole-known}
use Rattle.report_judge.proofs.RecordLaws.{samples-known}
use Rattle.report_judge.proofs.record.Record.read_all.Goals as goal

pub loop-piece-init : goal.loop-piece-init
loop-piece-init g c = (
  c.requires.whole,
  record {
    text = [];
    took = takes-nothing (g.I.Read.remaining (device_of c.args.input.now));
    holds = λ asked config h. h;
    many = zero-le;
  },
)

pub returns-then-count-eq0-clause-reads : goal.returns-then-count-eq0-clause-reads
returns-then-count-eq0-clause-reads g c = λ asked config h.
    let so_far = c.loop-piece.invariant.1 in
    whole-known (λ s. HasReadSamples asked config s c.loop-piece.self) _ _ so_far.text so_far.took
    (c.in-Ok.ensures.end (search rules)) (so_far.holds asked config h)

pub returns-then-count-eq0-clause-end : goal.returns-then-count-eq0-clause-end
returns-then-count-eq0-clause-end g c =
    let so_far = c.loop-piece.invariant.1 in
    let none : c.in-Ok.count ≡ 0 = search rules in
    ended-known _ (g.I.Read.remaining (device_of c.loop-piece.input)) _ so_far.text so_far.took
    (subst (λ n. Consumes (g.I.Read.remaining (device_of c.loop-piece.input)) (g.I.Read.remaining (device_of c.read_some.new.self)) (take n c.read_some.new.bytes)) none c.in-Ok.ensures.taken) (c.in-Ok.ensures.end none)

pub returns-in_err-read-clause-refuses : goal.returns-in_err-read-clause-refuses
returns-in_err-read-clause-refuses g c =
    let so_far = c.loop-piece.invariant.1 in
    let p = err_from_is_err_and c.from_residual.result c.from_residual.ensures.1 in
    rw (p.1, p.2) (λ no asked config h. samples-known asked config _ _ (so_far.text ++ c.split_at.result.0.now) c.in_err-read.field-0.0
    (takes-on _ (g.I.Read.remaining (device_of c.loop-piece.input)) _ so_far.text c.split_at.result.0.now so_far.took
    (subst (Consumes _ (g.I.Read.remaining (device_of c.read_some.new.self))) (sym c.split_at.ensures.front) c.in-Ok.ensures.taken))
    (c.in_err-read.ensures.refuses asked config so_far.text (so_far.holds asked config h)))

pub returns-in_err-read-clause-read : goal.returns-in_err-read-clause-read
returns-in_err-read-clause-read g c =
    let whole : has_failed c.read_some.new.self ≡ false = c.in-Ok.ensures.note ∙ ap (λ b. b || false) c.loop-piece.invariant.0 in
    let p = err_from_is_err_and c.from_residual.result c.from_residual.ensures.1 in
    rw (p.1, p.2) (
      λ e. absurd (c.in_err-read.ensures.data_device e),
      λ failed. absurd cc,
    )

pub loop-piece-preserved : goal.loop-piece-preserved
loop-piece-preserved g c =
    let so_far = c.loop-piece.invariant.1 in
    let whole : has_failed c.read_some.new.self ≡ false = c.in-Ok.ensures.note ∙ ap (λ b. b || false) c.loop-piece.invariant.0 in (
      whole,
      record {
        text = so_far.text ++ c.split_at.result.0.now;
        took = takes-on _ (g.I.Read.remaining (device_of c.loop-piece.input)) _ so_far.text c.split_at.result.0.now so_far.took
            (subst (Consumes _ (g.I.Read.remaining (device_of c.read_some.new.self))) (sym c.split_at.ensures.front) c.in-Ok.ensures.taken);
        holds = λ asked config h. c.in_ok-read.ensures.reads asked config so_far.text (so_far.holds asked config h);
        many = omega (arith, so_far.many, length-append so_far.text c.split_at.result.0.now, c.split_at.ensures.front_len, c.if-count-eq0.false);
      },
    )
