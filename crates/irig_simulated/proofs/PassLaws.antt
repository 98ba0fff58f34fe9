-- Time passes in parts: up to a time, and from there on.
use Rattle.std.proofs.Common.{◌≡◌, ◌∙◌, ℕ, zero, suc, ◌-◌, ◌<◌, ◌≤◌, Option, refl, sym, ap, arith, inl, inr}
use Rattle.std.specs.Prelude.{nat_lt}
use Rattle.std.proofs.lemmas.Bool.{cases_Bool, ltb-true, ltb-false}
use Rattle.irig_frame.specs.declared.symbol.Symbol.{Symbol}
use Rattle.irig_simulated.specs.Kinds.{Kind, MovesOn}
use Rattle.irig_simulated.specs.Courses.{Course, coming, happened, most_in, passed, played, stepped}
use Rattle.irig_simulated.proofs.StandsLaws.{played_done, played_on}
use Rattle.irig_simulated.proofs.StretchLaws.{due_few, happened_now, left, stepped_less, to_its_end}

module _ (k : Kind) (moves : MovesOn k) (signal : (line element : ℕ) → Option Symbol) where
  -- what is left has happened, whatever more may
  same_most : (stop a b : ℕ) (x : Course) → left k moves signal stop x < a → left k moves signal stop x < b → played k signal stop a x ≡ played k signal stop b x
  same_most stop zero b x few more = absurd (omega (arith, few))
  same_most stop (suc a) zero x few more = absurd (omega (arith, more))
  same_most stop (suc a) (suc b) x few more = elim (cases_Bool (nat_lt (coming x).time_us stop)) [
    | inl early ↦
        let fewer = stepped_less k moves signal stop x (ltb-true _ _ early) in
        rw early (same_most stop a b (stepped k signal x) (omega (arith, few, fewer)) (omega (arith, more, fewer)))
    | inr late ↦ rw late refl
  ]

  -- played to an earlier time first
  first_part : (time stop a b : ℕ) (x : Course) → time ≤ stop → left k moves signal stop x < b → played k signal stop b (played k signal time a x) ≡ played k signal stop b x
  first_part time stop zero b x less more = refl
  first_part time stop (suc a) zero x less more = absurd (omega (arith, more))
  first_part time stop (suc a) (suc b) x less more = elim (cases_Bool (nat_lt (coming x).time_us time)) [
    | inr late ↦ rw late refl
    | inl early ↦
        let now = ltb-true _ _ early in
        let fewer = stepped_less k moves signal stop x (omega (arith, now, less)) in
        let y = played k signal time a (stepped k signal x) in
        let on = first_part time stop a b (stepped k signal x) less (omega (arith, more, fewer)) in
        let more_left : left k moves signal stop y < b = less_left time stop a (stepped k signal x) b less (omega (arith, more, fewer)) in
        rw early (same_most stop (suc b) b y (omega (arith, more_left)) more_left ∙ on ∙ sym (played_on k signal stop b x (omega (arith, now, less))))
  ]
    where
      less_left : (time stop a : ℕ) (x : Course) (b : ℕ) → time ≤ stop → left k moves signal stop x < b → left k moves signal stop (played k signal time a x) < b
      less_left time stop zero x b less more = more
      less_left time stop (suc a) x b less more = elim (cases_Bool (nat_lt (coming x).time_us time)) [
        | inr late ↦ rw late more
        | inl early ↦
            let fewer = stepped_less k moves signal stop x (let now = ltb-true _ _ early in omega (arith, now, less)) in
            rw early (less_left time stop a (stepped k signal x) b less (omega (arith, more, fewer)))
      ]

  now_upto : (time a : ℕ) (x : Course) → x.now ≤ time → (played k signal time a x).now ≤ time
  now_upto time zero x upto = upto
  now_upto time (suc a) x upto = elim (cases_Bool (nat_lt (coming x).time_us time)) [
    | inr late ↦ rw late upto
    | inl early ↦
        let at = happened_now k moves signal (coming x).what (record x { now = (coming x).time_us }) in
        rw early (now_upto time a (stepped k signal x) (let now = ltb-true _ _ early in omega (arith, now, at)))
  ]

  -- what comes next does not show when time was passed up to last
  same_coming : (time : ℕ) (y : Course) → y.now ≤ time → time ≤ (coming y).time_us → (coming (record y { now = time })).time_us ≡ (coming y).time_us
  same_coming time y upto come = omega (arith, upto, come)

  same_step : (time : ℕ) (y : Course) → y.now ≤ time → time ≤ (coming y).time_us → stepped k signal (record y { now = time }) ≡ stepped k signal y
  same_step time y upto come = ap (λ (t : ℕ). stepped_at t) (same_coming time y upto come)
    where
      stepped_at : ℕ → Course
      stepped_at t = happened k signal (coming y).what (record y { now = t })

  same_course : (time stop m : ℕ) (y : Course) → y.now ≤ time → time ≤ (coming y).time_us
      → record (played k signal stop m (record y { now = time })) { now = stop } ≡ record (played k signal stop m y) { now = stop }
  same_course time stop zero y upto come = refl
  same_course time stop (suc m) y upto come =
      let at = same_coming time y upto come in
      elim (cases_Bool (nat_lt (coming y).time_us stop)) [
        | inl early ↦
            let now = ltb-true _ _ early in
            let one = played_on k signal stop m (record y { now = time }) (omega (arith, now, at)) in
            ap (λ (z : Course). record z { now = stop }) (one ∙ ap (played k signal stop m) (same_step time y upto come) ∙ sym (played_on k signal stop m y now))
        | inr late ↦
            let past = ltb-false _ _ late in
            let here = played_done k signal stop (suc m) (record y { now = time }) (omega (arith, past, at)) in
            ap (λ (z : Course). record z { now = stop }) here ∙ ap (λ (z : Course). record z { now = stop }) (sym (played_done k signal stop (suc m) y past))
      ]

  pub in_parts : (time stop : ℕ) (x : Course) → x.now ≤ time → time ≤ stop → passed k signal stop (passed k signal time x) ≡ passed k signal stop x
  in_parts time stop x upto less =
      let y = played k signal time (most_in (time - x.now)) x in
      let z = record y { now = time } in
      let all = most_in (stop - x.now) in
      let end = to_its_end k moves signal time x in
      let last = now_upto time (most_in (time - x.now)) x upto in
      let enough = same_most stop (most_in (stop - time)) all z (omega (arith, due_few z)) (omega (arith, due_few z, upto, less)) in
      ap (λ (v : Course). record v { now = stop }) enough ∙ same_course time stop all y last end
      ∙ ap (λ (v : Course). record v { now = stop }) (first_part time stop (most_in (time - x.now)) all x less (omega (arith, due_few x)))
