use Rattle.std.proofs.Common.{◌≡◌, length, refl, sym, ◌∙◌, subst, arith}
use Rattle.std.proofs.lemmas.List.{get_or_default}
use Rattle.std.proofs.lemmas.List.Elements.{All-nil, All-push}
use Rattle.irig_time.specs.Tables.{TableValue}
use Rattle.irig_reader.specs.History.{new_history}
use Rattle.irig_reader.specs.Readers.{HasReaderHistory}
use Rattle.irig_plant.specs.declared.setup.ReaderSetup.{ReaderSetup}
use Rattle.irig_plant.specs.Schedule.{no_reader, setup_at}
use Rattle.irig_plant.specs.History.{IsTickedReader}
use Rattle.irig_plant.proofs.ListLaws.{each_push}
use Rattle.irig_plant.proofs.plant.Plant.new_readers.Goals as goal

pub loop-setup-init : goal.loop-setup-init
loop-setup-init g c = record {
  count = c.new-ticked.ensures.len;
  new = λ r d none. absurd (omega arith);
  wired = rw c.new-ticked.ensures.items (All-nil (λ x. x.reader.redundancy ≡ c.args.redundancy));
}

pub loop-setup-preserved : goal.loop-setup-preserved
loop-setup-preserved g c =
    let l = c.loop-setup in
    let readers = c.args.readers.now in
    let setup : c.setup-item.result ≡ setup_at readers l.setup-index = c.setup-item.is ∙ get_or_default readers l.setup-index _ no_reader c.loop-setup-test.true in
    let reader : HasReaderHistory c.fresh-reader.result (new_history c.args.rules (setup_at readers l.setup-index).rules (setup_at readers l.setup-index).table c.args.redundancy) =
    subst (λ (s : ReaderSetup). HasReaderHistory c.fresh-reader.result (new_history c.args.rules s.rules s.table c.args.redundancy)) setup
    (subst (λ (t : TableValue). HasReaderHistory c.fresh-reader.result (new_history c.args.rules c.setup-item.result.rules t c.args.redundancy)) c.copy.ensures c.fresh-reader.ensures.unfed) in
    record {
      count = omega (arith, c.in_ok-push.ensures.len);
      new = rw c.in_ok-push.ensures.items
          (each_push (λ r x. IsTickedReader (new_history c.args.rules (setup_at readers r).rules (setup_at readers r).table c.args.redundancy) 0 x)
          l.setup-index l.ticked.items _ (sym l.ticked.ok.0 ∙ l.invariant.count) l.invariant.new (record { reader = reader; ticked = refl }));
      wired = rw c.in_ok-push.ensures.items
          (All-push (λ x. x.reader.redundancy ≡ c.args.redundancy) l.ticked.items _ l.invariant.wired c.fresh-reader.ensures.ports);
    }

pub returns : goal.returns
returns g c =
    let l = c.loop-setup in
    let all : l.setup-index ≡ length c.args.readers.now = omega arith in
    record { count = l.invariant.count ∙ all; new = rw all at l.invariant.new; wired = l.invariant.wired }
