use Rattle.std.proofs.Common.{◌≡◌, [], ◌++◌, ◌∙◌, ap, sym, subst, rules}
use Rattle.std.specs.Prelude.{MatchResult}
use Rattle.std.proofs.lemmas.Result.{err_from_is_err_and}
use Rattle.record_list.specs.Changes.{said}
use Rattle.record_list.specs.Lists.{FaultSays, said_last, to_come}
use Rattle.record_list.proofs.ReadLaws.{hears-last}
use Rattle.record_list.proofs.changes.Changes.last.Goals as goal
use Rattle.record_list.proofs.changes.Changes.last.Goals.{then-not-is_empty+in_ok-hear+in_default-next-2, else-not-is_empty}

pub returns-in-Some-next : goal.returns-in-Some-next
returns-in-Some-next c =
    c.next.ensures.says [] ∙ ap (λ l. said l ++ to_come c.next.new.self []) c.in-Some-next.is

pub returns-in_err-hear : goal.returns-in_err-hear
returns-in_err-hear c =
    let p = err_from_is_err_and c.from_residual.result c.from_residual.ensures.1 in
    let on = c.next.ensures.says [] ∙ ap (λ l. said l ++ to_come c.next.new.self []) c.in_default-next.is in
    let hears = hears-last c.next.new.self c.number-number.result c.number-number.ensures (search rules) in
    rw (p.1, p.2) (subst (FaultSays c.in_err-hear.field-0.0) (sym (on ∙ hears)) (c.in_err-hear.ensures.refuses []))

pub returns-in-Some-next-2 : goal.returns-in-Some-next-2
returns-in-Some-next-2 c =
    let on = c.next.ensures.says [] ∙ ap (λ l. said l ++ to_come c.next.new.self []) c.in_default-next.is in
    let hears = hears-last c.next.new.self c.number-number.result c.number-number.ensures (search rules) in
    on ∙ hears ∙ c.in_ok-hear.ensures.says [] ∙ c.next-then-not-is_empty.ensures.says []
    ∙ ap (λ l. said l ++ to_come c.next-then-not-is_empty.new.self []) c.in-Some-next-2.is

pub returns : goal.returns
returns c =
    let on = c.next.ensures.says [] ∙ ap (λ l. said l ++ to_come c.next.new.self []) c.in_default-next.is in
    let ended = λ (e : to_come c.args.self.now [] ≡ to_come c.if-not-is_empty.self []).
    subst (λ l. MatchResult c.ended.result (λ last. l ≡ said_last last (to_come c.ended.new.self [])) (λ fault. FaultSays fault l)) (sym e) c.ended.ensures in
    elim c.if-not-is_empty.branch [
      | then-not-is_empty+in_ok-hear+in_default-next-2 w ↦
          let hears = hears-last c.next.new.self w.number-number.result w.number-number.ensures (search rules) in
          ended (on ∙ hears ∙ w.in_ok-hear.ensures.says [] ∙ w.next-then-not-is_empty.ensures.says []
          ∙ ap (λ l. said l ++ to_come w.next-then-not-is_empty.new.self []) w.in_default-next-2.is
          ∙ ap (λ s. to_come s []) (sym w.self-is))
      | else-not-is_empty w ↦ ended (on ∙ ap (λ s. to_come s []) (sym w.self-is))
    ]
