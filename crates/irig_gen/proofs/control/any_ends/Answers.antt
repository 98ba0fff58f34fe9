use Rattle.std.proofs.Common.{◌≡◌, ℕ, ◌+◌, ◌≤◌, ◌<◌, eqb, false, pos, get_or, sym, ap, subst, ◌∙◌, arith}
use Rattle.std.specs.List.Sorted.{IsPartitionPoint}
use Rattle.irig_time.specs.Seconds.{minute_number}
use Rattle.irig_gen.specs.declared.zone.Change.{Change}
use Rattle.irig_gen.proofs.ZoneLaws.{any_is, next_is, none_next}
use Rattle.irig_gen.proofs.control.any_ends.Goals as goal

abbrev never : Change
never = record { at = record { day = 0; sod = 0 }; zone = record { half_hours = pos 0; dst = false } }

pub returns-in-Some : goal.returns-in-Some
returns-in-Some c =
    let xs = c.args.changes.now in
    let u = c.args.utc.now in
    let come = c.count_come.result in
    let lookup = c.in-Some.ensures.lookup in
    let point = subst (λ (m : ℕ). IsPartitionPoint (λ x. minute_number x.at ≤ m) (λ x. m < minute_number x.at) xs come) c.minute_at-minute.ensures c.count_come.ensures.point in
    let any = any_is 0 xs u come never c.requires c.count_come.ensures.within point in
    let is : c.in-Some.next.now ≡ get_or xs come never = lookup.4 (omega arith) never in
    let next = next_is u xs come never lookup.3.0 in
    let number : c.minute_number.result ≡ minute_number (get_or xs come never).at = c.minute_number.ensures ∙ ap (λ (x : Change). minute_number x.at) is in
    ap (λ (n : ℕ). eqb n (c.minute_at-minute.result + 1)) number ∙ ap (λ (m : ℕ). eqb (minute_number (get_or xs come never).at) (m + 1)) c.minute_at-minute.ensures ∙ sym (any ∙ next)

pub returns-in-None : goal.returns-in-None
returns-in-None c =
    let xs = c.args.changes.now in
    let u = c.args.utc.now in
    let come = c.count_come.result in
    let past = c.in-None.ensures.lookup.3 in
    let point = subst (λ (m : ℕ). IsPartitionPoint (λ x. minute_number x.at ≤ m) (λ x. m < minute_number x.at) xs come) c.minute_at-minute.ensures c.count_come.ensures.point in
    let any = any_is 0 xs u come never c.requires c.count_come.ensures.within point in
    sym (any ∙ none_next u xs come (omega (arith, past)))
