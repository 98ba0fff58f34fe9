use mir.Val.{SFits}
use Rattle.std.specs.Prelude.{IsTrue}
use Rattle.std.proofs.Common.{rules, w16, ◌≡◌, ◌↔◌, ◌∙◌, ℤ, Bool, true, false, sym, subst}
use Rattle.std.proofs.lemmas.Int.{to_z-of_z}
use Rattle.c_keeper.specs.Timekeepers.{IsDelay}
use Rattle.c_keeper.proofs.timekeeper.are_delays.Goals as goal
use Rattle.c_keeper.proofs.timekeeper.are_delays.Goals.{then-is_delay, else-is_delay, then-is_delay-2, else-is_delay-2, then-is_delay-3, else-is_delay-3}

never : ◌≡◌ {A = Bool} false true → ⊥
never h = absurd cc

pub returns-then-is_delay-4 : goal.returns-then-is_delay-4
returns-then-is_delay-4 c =
    let delays = c.args.delays.now in
    let fits_a : SFits w16 delays.a = search rules in
    let fits_b : SFits w16 delays.b = search rules in
    let fits_c : SFits w16 delays.c = search rules in
    let fits_d : SFits w16 delays.d = search rules in
    let fits_e : SFits w16 delays.e = search rules in
    elim c.if-is_delay-3.branch [
      | else-is_delay-3 w ↦ absurd (never (sym w.if-is_delay-3.false ∙ (sym w.value-is ∙ c.if-is_delay-4.true)))
      | then-is_delay-3 w ↦ elim c.if-is_delay-2.branch [
        | else-is_delay-2 v ↦ absurd (never (sym v.if-is_delay-2.false ∙ (sym v.value-is ∙ w.if-is_delay-3.true)))
        | then-is_delay-2 v ↦ elim c.if-is_delay.branch [
          | else-is_delay u ↦ absurd (never (sym u.if-is_delay.false ∙ (sym u.value-is ∙ v.if-is_delay-2.true)))
          | then-is_delay u ↦
              let a = subst (λ (x : ℤ). IsTrue c.is_delay.result ↔ IsDelay x) (to_z-of_z w16 delays.a fits_a) c.is_delay.ensures in
              let b = subst (λ (x : ℤ). IsTrue u.is_delay-then-is_delay.result ↔ IsDelay x) (to_z-of_z w16 delays.b fits_b) u.is_delay-then-is_delay.ensures in
              let third = subst (λ (x : ℤ). IsTrue v.is_delay-then-is_delay-2.result ↔ IsDelay x) (to_z-of_z w16 delays.c fits_c) v.is_delay-then-is_delay-2.ensures in
              let d = subst (λ (x : ℤ). IsTrue w.is_delay-then-is_delay-3.result ↔ IsDelay x) (to_z-of_z w16 delays.d fits_d) w.is_delay-then-is_delay-3.ensures in
              let e = subst (λ (x : ℤ). IsTrue c.is_delay-then-is_delay-4.result ↔ IsDelay x) (to_z-of_z w16 delays.e fits_e) c.is_delay-then-is_delay-4.ensures in
              (λ h. (a.0 u.if-is_delay.true, (b.0 (sym u.value-is ∙ v.if-is_delay-2.true), (third.0 (sym v.value-is ∙ w.if-is_delay-3.true), (d.0 (sym w.value-is ∙ c.if-is_delay-4.true), e.0 h)))), λ h. e.1 h.1.1.1.1)
        ]
      ]
    ]
