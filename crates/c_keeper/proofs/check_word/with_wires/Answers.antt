use mir.Val.{SFits}
use Rattle.std.proofs.Common.{rules, w16, ◌∙◌, ap}
use Rattle.std.proofs.lemmas.Int.{to_z-of_z}
use Rattle.c_numbers.proofs.CheckLaws.{led}
use Rattle.c_keeper.specs.CheckWord.{delay_number}
use Rattle.c_keeper.proofs.check_word.with_wires.Goals as goal

pub returns : goal.returns
returns c ns h =
    let delays = c.args.wires.now.delays in
    let fits_a : SFits w16 delays.a = search rules in
    let fits_b : SFits w16 delays.b = search rules in
    let fits_c : SFits w16 delays.c = search rules in
    let fits_d : SFits w16 delays.d = search rules in
    let fits_e : SFits w16 delays.e = search rules in
    let wanders = led c.from.ensures (c.with_first.ensures ns h) in
    let prefers = led c.from-2.ensures (c.with_first-2.ensures _ wanders) in
    let e = led (c.delay_number.ensures ∙ ap delay_number (to_z-of_z w16 delays.e fits_e)) (c.with_first-3.ensures _ prefers) in
    let d = led (c.delay_number-2.ensures ∙ ap delay_number (to_z-of_z w16 delays.d fits_d)) (c.with_first-4.ensures _ e) in
    let third = led (c.delay_number-3.ensures ∙ ap delay_number (to_z-of_z w16 delays.c fits_c)) (c.with_first-5.ensures _ d) in
    let b = led (c.delay_number-4.ensures ∙ ap delay_number (to_z-of_z w16 delays.b fits_b)) (c.with_first-6.ensures _ third) in
    let a = led (c.delay_number-5.ensures ∙ ap delay_number (to_z-of_z w16 delays.a fits_a)) (c.with_first-7.ensures _ b) in
    let drift = led c.from-3.ensures (c.with_first-8.ensures _ a) in
    led c.from-4.ensures (c.with_first-9.ensures _ drift)
