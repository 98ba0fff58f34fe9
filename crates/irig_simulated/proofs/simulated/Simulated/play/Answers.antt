use Rattle.std.proofs.Common.{◌≡◌, ◌∙◌, ◌+◌, ◌*◌, suc, true, false, OnOk, Result, Ok, Err, refl, sym, ap, arith, subst}
use Rattle.irig_timekeeper.specs.Unfinished.{most}
use Rattle.irig_simulated.specs.Heard.{HaveMore, heard_until}
use Rattle.irig_simulated.specs.Quiet.{sent_at}
use Rattle.irig_simulated.specs.Simulations.{IsSimulationOf}
use Rattle.irig_simulated.proofs.PlayLaws.{PlaysOn, moves_on, not_yet, went_on}
use Rattle.irig_simulated.proofs.simulated.Simulated.play.Goals.{then-may_be_quiet+in_ok-run, else-may_be_quiet}
use Rattle.irig_simulated.proofs.simulated.Simulated.play.Goals as goal

if_ok : {T E : Type 0} {A B : Type 0} (r : Result T E) → OnOk r A → (A → B) → OnOk r B
if_ok (Ok t) a f = f a
if_ok (Err e) a f = tt

pub returns-clause-stands : goal.returns-clause-stands
returns-clause-stands g c = if_ok c.run-2.result c.run-2.ensures.stands (λ next k signal symbol x of is.
    let stop = c.args.stop_us in
    let n = c.args.second.now.number in
    let on : PlaysOn c.if-may_be_quiet.self k signal symbol stop x = elim c.if-may_be_quiet.branch [
      | else-may_be_quiet w ↦ not_yet c.args.self.now _ k signal symbol stop x w.self-is is
      | then-may_be_quiet+in_ok-run w ↦
          let so = w.if-may_be_quiet.true in
          subst (λ d. PlaysOn d k signal symbol stop x) (sym w.self-is)
          (went_on w.run.new.self w.hear_quiet.new.self c.args.second.now w.hear_quiet.result (n * 1000000 + 8000) (suc (sent_at n most)) stop w.hear_quiet.ensures.stands w.hear_quiet.ensures.none
          k signal symbol x of (moves_on c.args.self.now k symbol x is (c.may_be_quiet.ensures.unpolled so))
          (let early = c.may_be_quiet.ensures.early so in omega (arith, early, is.now)) (omega arith) (let whole = c.may_be_quiet.ensures.whole so in omega (arith, whole))
          (w.in_ok-run.ensures.stands k signal symbol x of is))
    ] in
    subst (IsSimulationOf c.run-2.new.self k symbol) on.same (next k signal symbol on.here of on.is))

pub returns-clause-heard : goal.returns-clause-heard
returns-clause-heard g c = if_ok c.run-2.result c.run-2.ensures.heard (λ next k signal symbol x of is.
    let stop = c.args.stop_us in
    let n = c.args.second.now.number in
    elim c.if-may_be_quiet.branch [
      | else-may_be_quiet w ↦
          subst (λ kept. HaveMore kept c.run-2.new.kept (heard_until k c.args.device signal stop x)) w.kept-is
          (next k signal symbol x of (subst (λ d. IsSimulationOf d k symbol x) (sym w.self-is) is))
      | then-may_be_quiet+in_ok-run w ↦
          let so = w.if-may_be_quiet.true in
          let one = w.in_ok-run.ensures.stands k signal symbol x of is in
          let none = c.may_be_quiet.ensures.keeps so in
          let on : PlaysOn w.hear_quiet.new.self k signal symbol stop x =
          went_on w.run.new.self w.hear_quiet.new.self c.args.second.now w.hear_quiet.result (n * 1000000 + 8000) (suc (sent_at n most)) stop w.hear_quiet.ensures.stands w.hear_quiet.ensures.none
          k signal symbol x of (moves_on c.args.self.now k symbol x is (c.may_be_quiet.ensures.unpolled so))
          (let early = c.may_be_quiet.ensures.early so in omega (arith, early, is.now)) (omega arith) (let whole = c.may_be_quiet.ensures.whole so in omega (arith, whole)) one in
          let then_is : IsSimulationOf c.if-may_be_quiet.self k symbol on.here = subst (λ d. IsSimulationOf d k symbol on.here) (sym w.self-is) on.is in
          record {
            keeps = (next k signal symbol on.here of then_is).keeps ∙ ap (λ kept. kept.keeps) w.kept-is ∙ (w.in_ok-run.ensures.heard k signal symbol x of is).keeps;
            pulses = λ keeps. absurd (let no_more : false ≡ true = sym none ∙ keeps in cc);
          }
    ])
