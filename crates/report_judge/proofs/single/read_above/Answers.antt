use Rattle.std.proofs.Common.{ℕ, List, ◌++◌, ◌∙◌, take, Option, IfSome, ap, subst, sym}
use Rattle.std.proofs.lemmas.Result.{err_from_is_err_and}
use Rattle.record_single.specs.declared.head.Found.{Found}
use Rattle.record_single.specs.Heads.{Finds}
use Rattle.report_judge.specs.Singles.{HasOpened, SingleRefusedFrom}
use Rattle.report_judge.proofs.ReadingLaws.{cut-whole}
use Rattle.report_judge.proofs.SingleLaws.{opens-at, single-refused-on}
use Rattle.report_judge.proofs.single.read_above.Goals as goal

pub returns-in_err-below-clause-refuses : goal.returns-in_err-below-clause-refuses
returns-in_err-below-clause-refuses c =
    let p = err_from_is_err_and c.from_residual-in_err-below.result c.from_residual-in_err-below.ensures.1 in
    rw (p.1, p.2) (λ file h.
    let front = take c.in-Some.found.taken c.args.bytes.now in
    let finds = subst (λ (f : Option Found). IfSome f (λ (f : Found). Finds c.args.head (take f.taken c.args.bytes.now) f.count c.read.new.self)) c.in-Some.is c.in_ok-found.ensures.finds in
    single-refused-on c.args.asked.now file c.args.bytes.now c.in-Some.found.taken c.in_err-below.field-0.0
    (c.in_err-below.ensures.refuses (file ++ front) (opens-at file front c.args.head c.read.new.self c.in-Some.found.count h finds)))

pub returns-in_err-read-clause-refuses : goal.returns-in_err-read-clause-refuses
returns-in_err-read-clause-refuses c =
    let p = err_from_is_err_and c.from_residual-in_err-read.result c.from_residual-in_err-read.ensures.1 in
    rw (p.1, p.2) (λ file h.
    let front = take c.in-Some.found.taken c.args.bytes.now in
    let finds = subst (λ (f : Option Found). IfSome f (λ (f : Found). Finds c.args.head (take f.taken c.args.bytes.now) f.count c.read.new.self)) c.in-Some.is c.in_ok-found.ensures.finds in
    let opened = c.in_ok-below.ensures.reads (file ++ front) (opens-at file front c.args.head c.read.new.self c.in-Some.found.count h finds) in
    subst (λ (t : List ℕ). SingleRefusedFrom c.args.asked.now t c.in_err-read.field-0.0)
    (ap (λ (l : List ℕ). (file ++ front) ++ l) c.split_at.ensures.back ∙ cut-whole file c.args.bytes.now c.in-Some.found.taken)
    (c.in_err-read.ensures.refuses c.args.asked.now (file ++ front) (subst (HasOpened c.args.asked.now (file ++ front)) (sym c.deref_mut.ensures.value) opened)))

pub returns-clause-reads : goal.returns-clause-reads
returns-clause-reads c = λ file h.
    let front = take c.in-Some.found.taken c.args.bytes.now in
    let finds = subst (λ (f : Option Found). IfSome f (λ (f : Found). Finds c.args.head (take f.taken c.args.bytes.now) f.count c.read.new.self)) c.in-Some.is c.in_ok-found.ensures.finds in
    let opened = c.in_ok-below.ensures.reads (file ++ front) (opens-at file front c.args.head c.read.new.self c.in-Some.found.count h finds) in
    subst (λ (t : List ℕ). HasOpened c.args.asked.now t c.read-2.new.self)
    (ap (λ (l : List ℕ). (file ++ front) ++ l) c.split_at.ensures.back ∙ cut-whole file c.args.bytes.now c.in-Some.found.taken)
    (c.in_ok-read.ensures.reads c.args.asked.now (file ++ front) (subst (HasOpened c.args.asked.now (file ++ front)) (sym c.deref_mut.ensures.value) opened))
