use Rattle.std.proofs.Common.{◌≡◌, ◌++◌, ◌∙◌, ◌||◌, [], Ok, take, false, zero-le, ap, sym, subst, arith, rules}
use Rattle.std.proofs.lemmas.List.{length-append}
use Rattle.std.proofs.lemmas.Result.{err_from_is_err_and}
use Rattle.std.specs.Io.KnownBytes.{Consumes}
use Rattle.record_comtrade.specs.Reads.{value_of}
use Rattle.irig_device.specs.Watched.{device_of, has_failed}
use Rattle.report_judge.specs.Faults.{of_config}
use Rattle.report_judge.specs.Records.{TextRefused, configured}
use Rattle.report_judge.proofs.ReadingLaws.{ended-known, takes-nothing, takes-on, whole-known}
use Rattle.report_judge.proofs.RecordLaws.{config-goes, config-refused, config-whole, no-read-config}
use Rattle.report_judge.proofs.record.read_config.Goals as goal

pub loop-piece-init : goal.loop-piece-init
loop-piece-init g c = (
  c.requires.whole,
  record {
    text = [];
    took = takes-nothing (g.I.Read.remaining (device_of c.args.input.now));
    holds = λ more. sym (c.new-text.ensures more);
    many = zero-le;
  },
)

pub returns-in_err-config-clause-refused : goal.returns-in_err-config-clause-refused
returns-in_err-config-clause-refused g c =
    let so_far = c.loop-piece.invariant.1 in
    let p = err_from_is_err_and c.from_residual-in_err-config.result c.from_residual-in_err-config.ensures.1 in
    rw (p.1, p.2) (λ no. whole-known (λ t. TextRefused t (of_config c.in_err-config.field-0.0)) _ _ so_far.text so_far.took
    (c.in_ok-count.ensures.end (search rules)) (config-refused c.loop-piece.text so_far.text c.in_err-config.field-0.0 so_far.holds c.in_err-config.ensures.refuses))

pub returns-in_err-config-clause-read : goal.returns-in_err-config-clause-read
returns-in_err-config-clause-read g c =
    let whole : has_failed c.read_some.new.self ≡ false = c.in_ok-count.ensures.note ∙ ap (λ b. b || false) c.loop-piece.invariant.0 in
    let p = err_from_is_err_and c.from_residual-in_err-config.result c.from_residual-in_err-config.ensures.1 in
    rw (p.1, p.2) (
      λ e. absurd (no-read-config c.in_err-config.field-0.0 e),
      λ failed. absurd cc,
    )

pub returns-then-count-eq0-clause-says : goal.returns-then-count-eq0-clause-says
returns-then-count-eq0-clause-says g c =
    let so_far = c.loop-piece.invariant.1 in
    whole-known (λ t. configured t ≡ Ok (value_of c.in_ok-config.config)) _ _ so_far.text so_far.took
    (c.in_ok-count.ensures.end (search rules)) (config-whole c.loop-piece.text so_far.text so_far.holds ∙ c.in_ok-config.ensures.says)

pub returns-then-count-eq0-clause-end : goal.returns-then-count-eq0-clause-end
returns-then-count-eq0-clause-end g c =
    let so_far = c.loop-piece.invariant.1 in
    let none : c.in_ok-count.count ≡ 0 = search rules in
    ended-known _ (g.I.Read.remaining (device_of c.loop-piece.input)) _ so_far.text so_far.took
    (subst (λ n. Consumes (g.I.Read.remaining (device_of c.loop-piece.input)) (g.I.Read.remaining (device_of c.read_some.new.self)) (take n c.read_some.new.bytes)) none c.in_ok-count.ensures.taken) (c.in_ok-count.ensures.end none)

pub loop-piece-preserved : goal.loop-piece-preserved
loop-piece-preserved g c =
    let so_far = c.loop-piece.invariant.1 in
    let whole : has_failed c.read_some.new.self ≡ false = c.in_ok-count.ensures.note ∙ ap (λ b. b || false) c.loop-piece.invariant.0 in (
      whole,
      record {
        text = so_far.text ++ c.split_at.result.0.now;
        took = takes-on _ (g.I.Read.remaining (device_of c.loop-piece.input)) _ so_far.text c.split_at.result.0.now so_far.took
            (subst (Consumes _ (g.I.Read.remaining (device_of c.read_some.new.self))) (sym c.split_at.ensures.front) c.in_ok-count.ensures.taken);
        holds = config-goes c.loop-piece.text c.read.new.self so_far.text c.split_at.result.0.now so_far.holds c.in_ok-read.ensures;
        many = omega (arith, so_far.many, length-append so_far.text c.split_at.result.0.now, c.split_at.ensures.front_len, c.if-count-eq0.false);
      },
    )
