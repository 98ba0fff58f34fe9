use Rattle.std.proofs.Common.{◌≡◌, None, get_or, sym, ap, ◌∙◌, arith}
use Rattle.irig_time.specs.declared.stretches.Stretch.{Stretch}
use Rattle.irig_time.proofs.StretchLaws.{leap_told, none_told}
use Rattle.irig_time.proofs.stretches.leap_in.Goals as goal

abbrev nowhere : Stretch
nowhere = record { day = 0; seconds = 0; leap = None }

pub overflow_sub-next : goal.overflow_sub-next
overflow_sub-next c =
    let lookup = c.in_ok-next.ensures.lookup in
    let is : c.in_ok-next.next.now ≡ get_or c.args.stretches.now c.begun_on.result nowhere = lookup.4 (omega arith) nowhere in
    omega (arith, ap (λ (s : Stretch). s.day) is, c.begun_on.ensures.next nowhere lookup.3.0)

pub returns-in_err-next : goal.returns-in_err-next
returns-in_err-next c t index from =
    let past = c.in_err-next.ensures.lookup.3 in
    let none = none_told t.leaps t.start.day c.args.day c.begun_on.result c.args.stretches.now nowhere index (omega (arith, past, c.begun_on.ensures.within)) (c.begun_on.ensures.last nowhere) in
    c.from_residual.ensures ∙ sym none

pub returns-then-next-day-eq1 : goal.returns-then-next-day-eq1
returns-then-next-day-eq1 c t index from =
    let lookup = c.in_ok-next.ensures.lookup in
    let is : c.in_ok-next.next.now ≡ get_or c.args.stretches.now c.begun_on.result nowhere = lookup.4 (omega arith) nowhere in
    let told = leap_told t.leaps t.start.day c.args.day c.begun_on.result c.args.stretches.now nowhere index from lookup.3.0 (c.begun_on.ensures.last nowhere) (c.begun_on.ensures.next nowhere lookup.3.0) in
    ap (λ (s : Stretch). s.leap) is ∙ sym (told.0 (omega (arith, ap (λ (s : Stretch). s.day) is, c.if-next-day-eq1.true)))

pub returns-else-next-day-eq1 : goal.returns-else-next-day-eq1
returns-else-next-day-eq1 c t index from =
    let lookup = c.in_ok-next.ensures.lookup in
    let is : c.in_ok-next.next.now ≡ get_or c.args.stretches.now c.begun_on.result nowhere = lookup.4 (omega arith) nowhere in
    let told = leap_told t.leaps t.start.day c.args.day c.begun_on.result c.args.stretches.now nowhere index from lookup.3.0 (c.begun_on.ensures.last nowhere) (c.begun_on.ensures.next nowhere lookup.3.0) in
    sym (told.1 (λ next. c.if-next-day-eq1.false (omega (arith, ap (λ (s : Stretch). s.day) is, next))))
