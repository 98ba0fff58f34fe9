use Rattle.std.proofs.Common.{None, ◌≡◌, ℕ, ◌+◌, ◌-◌, get_or, sym, ap, ◌∙◌, arith}
use Rattle.irig_time.specs.declared.stretches.Stretch.{Stretch}
use Rattle.irig_time.specs.Stretches.{Holds}
use Rattle.irig_time.proofs.StretchLaws.{held_until, held_for_ever}
use Rattle.irig_time.proofs.stretches.stretch_at.Goals as goal
use Rattle.irig_time.proofs.stretches.stretch_at.Goals.{in-Some, in-None}

abbrev nowhere : Stretch
nowhere = record { day = 0; seconds = 0; leap = None }

pub overflow_sub-last : goal.overflow_sub-last
overflow_sub-last c =
    let all = c.args.stretches.now in
    let k = c.begun-begun.result in
    let lookup = c.in-Some.ensures.lookup in
    let is : c.in-Some.next.now ≡ get_or all k nowhere = lookup.4 (omega arith) nowhere in
    let later = c.requires.later (k - 1) nowhere (omega (arith, lookup.3.0, c.begun-begun.ensures.some)) in
    let at : k - 1 + 1 ≡ k = omega (arith, c.begun-begun.ensures.some) in
    let day : (get_or all (k - 1 + 1) nowhere).day ≡ c.in-Some.next.now.day = ap (λ (i : ℕ). (get_or all i nowhere).day) at ∙ sym (ap (λ (s : Stretch). s.day) is) in
    omega (arith, later, day)

pub returns : goal.returns
returns c t index =
    let all = c.args.stretches.now in
    let k = c.begun-begun.result in
    let begun = c.begun-begun.ensures in
    let there : Holds t c.args.total (get_or all (k - 1) nowhere) c.match-get.last = elim c.match-get.branch [
      | in-Some w ↦
          let lookup = w.in-Some.ensures.lookup in
          let is : w.in-Some.next.now ≡ get_or all k nowhere = lookup.4 (omega arith) nowhere in
          let last : c.match-get.last ≡ (get_or all k nowhere).day - 1 = w.last-is ∙ ap (λ (s : Stretch). s.day - 1) is in
          rw last (held_until t all c.args.total k nowhere index begun.some lookup.3.0 (begun.last nowhere) (begun.next nowhere lookup.3.0))
      | in-None w ↦
          let past = w.in-None.ensures.lookup.3 in
          rw w.last-is (held_for_ever t all c.args.total k nowhere index (omega (arith, past, begun.within)) (begun.last nowhere))
    ] in
    there
