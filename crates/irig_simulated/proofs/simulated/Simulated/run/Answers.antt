use Rattle.std.proofs.Common.{◌≡◌, ◌∙◌, ℕ, zero, suc, ◌+◌, ◌-◌, ◌<◌, ◌≤◌, [], refl, ap, arith, subst, sym}
use Rattle.irig_wires.specs.declared.wires.Coming.{Coming}
use Rattle.irig_simulated.specs.Courses.{Course, coming, most_in, played, stepped}
use Rattle.irig_simulated.specs.Heard.{HaveMore, heard_of_most, heard_until}
use Rattle.irig_simulated.proofs.HeardLaws.{all_heard, heard_done, heard_next, more_heard, none_yet}
use Rattle.irig_simulated.proofs.StandsLaws.{coming_is, later_as, played_done, played_on}
use Rattle.irig_simulated.proofs.simulated.Simulated.run.Goals.{else-loop-test, then-loop-test+then-coming-stop_us}
use Rattle.irig_simulated.proofs.simulated.Simulated.run.Goals as goal

pub loop-preserved : goal.loop-preserved
loop-preserved g c =
    let stop = c.args.stop_us in
    let time = ap (λ (n : Coming). n.time_us) c.coming-coming.ensures in
    let at = c.in_ok-step.ensures.now in
    let early = c.if-coming-stop_us.false in (
      c.in_ok-step.ensures.same ∙ c.loop.invariant.0,
      omega (arith, c.loop.invariant.1, time, at),
      omega (arith, at, early),
      λ k signal symbol x of is.
          let was = c.loop.invariant.3 k signal symbol x of is in
          let most = most_in (stop - c.args.self.now.now_us) in
          let left : most - c.loop.counter ≡ suc (most - (c.loop.counter + 1)) = (let more = c.loop-test.true in omega (arith, more)) in
          let now : c.coming-coming.result ≡ coming was.0 = c.coming-coming.ensures ∙ coming_is c.loop.self k symbol was.0 was.1 in
          let less : (coming was.0).time_us < stop = (let t = ap (λ (n : Coming). n.time_us) now in omega (arith, early, t)) in (
            stepped k signal was.0,
            c.in_ok-step.ensures.stands k signal symbol was.0 of was.1,
            more_heard c.args.kept.now c.loop.kept c.step.new.kept _ _ _ _ was.2 c.in_ok-step.ensures.heard (heard_next k c.args.device signal stop (most - (c.loop.counter + 1)) (most - c.loop.counter) was.0 c.coming-coming.result now left less),
            sym (played_on k signal stop (most - (c.loop.counter + 1)) was.0 less) ∙ ap (λ (n : ℕ). played k signal stop n was.0) (sym left) ∙ was.3,
          ),
    )

pub loop-init : goal.loop-init
loop-init g c = (
  refl,
  omega arith,
  c.requires.forward,
  λ k signal symbol x of is.
      let stop = c.args.stop_us in
      let most = most_in (stop - c.args.self.now.now_us) in
      let all : most ≡ most - 0 = omega arith in
      (x, is, none_yet c.args.kept.now _ _ (ap (λ (n : ℕ). heard_of_most k c.args.device signal stop n x) (sym all)), ap (λ (n : ℕ). played k signal stop n x) (sym all)),
)

pub returns-clause-stands : goal.returns-clause-stands
returns-clause-stands g c k signal symbol x of is =
    let stop = c.args.stop_us in
    let was = c.loop.invariant.3 k signal symbol x of is in
    let most = most_in (stop - c.args.self.now.now_us) in
    let done : was.0 ≡ played k signal stop most x = elim c.loop-test.branch [
      | else-loop-test w ↦
          let none : most - c.loop.counter ≡ zero = (let over = w.loop-test.false in omega (arith, over)) in
          sym (ap (λ (n : ℕ). played k signal stop n was.0) none) ∙ was.3
      | then-loop-test+then-coming-stop_us w ↦
          let now : w.coming-coming.result ≡ coming was.0 = w.coming-coming.ensures ∙ coming_is c.loop.self k symbol was.0 was.1 in
          let past : stop ≤ (coming was.0).time_us = (let t = ap (λ (n : Coming). n.time_us) now in let late = w.if-coming-stop_us.true in omega (arith, late, t)) in
          sym (played_done k signal stop (most - c.loop.counter) was.0 past) ∙ was.3
    ] in
    let same : played k signal stop most x ≡ played k signal stop (most_in (stop - x.now)) x = ap (λ (n : ℕ). played k signal stop (most_in (stop - n)) x) is.now in
    later_as c.loop.self _ k symbol was.0 _ stop (ap (λ (y : Course). record y { now = stop }) (done ∙ same)) refl refl refl refl refl refl refl refl c.loop.invariant.2 was.1

pub returns-clause-heard : goal.returns-clause-heard
returns-clause-heard g c k signal symbol x of is =
    let stop = c.args.stop_us in
    let was = c.loop.invariant.3 k signal symbol x of is in
    let most = most_in (stop - c.args.self.now.now_us) in
    let none : heard_of_most k c.args.device signal stop (most - c.loop.counter) was.0 ≡ [] = elim c.loop-test.branch [
      | else-loop-test w ↦
          let none : most - c.loop.counter ≡ zero = (let over = w.loop-test.false in omega (arith, over)) in
          ap (λ (n : ℕ). heard_of_most k c.args.device signal stop n was.0) none
      | then-loop-test+then-coming-stop_us w ↦
          let now : w.coming-coming.result ≡ coming was.0 = w.coming-coming.ensures ∙ coming_is c.loop.self k symbol was.0 was.1 in
          let past : stop ≤ (coming was.0).time_us = (let t = ap (λ (n : Coming). n.time_us) now in let late = w.if-coming-stop_us.true in omega (arith, late, t)) in
          heard_done k c.args.device signal stop (most - c.loop.counter) was.0 past
    ] in
    let same : heard_of_most k c.args.device signal stop most x ≡ heard_until k c.args.device signal stop x = ap (λ (n : ℕ). heard_of_most k c.args.device signal stop (most_in (stop - n)) x) is.now in
    subst (HaveMore c.args.kept.now c.loop.kept) same (all_heard c.args.kept.now c.loop.kept _ _ was.2 none)
