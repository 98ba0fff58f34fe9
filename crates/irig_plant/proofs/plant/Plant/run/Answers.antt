use Rattle.std.proofs.Common.{take}
use Rattle.irig_plant.specs.History.{with_events}
use Rattle.irig_plant.proofs.RunLaws.{accepted_step, stands_step, refused_at}
use Rattle.irig_plant.proofs.plant.Plant.run.Goals as goal

pub loop-index-preserved : goal.loop-index-preserved
loop-index-preserved g c =
    let l = c.loop-index in
    let events = c.args.events.now in
    let event = c.index-events-index in
    record {
      accepted = λ h p. accepted_step h events l.index event.result event.is c.loop-index-test.true (l.invariant.accepted h p)
          (c.in_default.ensures.accepted (with_events (take l.index events) h) (l.invariant.stands h p));
      stands = λ h p. stands_step c.apply.new.self h events l.index event.result event.is c.loop-index-test.true
          (c.in_default.ensures.stands (with_events (take l.index events) h) (l.invariant.stands h p));
    }

pub returns-in-Err-clause-refused : goal.returns-in-Err-clause-refused
returns-in-Err-clause-refused g c = λ h p.
    let i = c.loop-index.index in
    let events = c.args.events.now in
    refused_at h.setup events i c.index-events-index.result _ c.in-Err.fault c.index-events-index.is c.loop-index-test.true
    (c.in-Err.ensures.refused (with_events (take i events) h) (c.loop-index.invariant.stands h p))

pub returns-in-Err-clause-stands_before : goal.returns-in-Err-clause-stands_before
returns-in-Err-clause-stands_before g c = λ h p.
    c.in-Err.ensures.unchanged (with_events (take c.loop-index.index c.args.events.now) h) (c.loop-index.invariant.stands h p)
