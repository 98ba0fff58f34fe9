use Rattle.std.proofs.Common.{◌≡◌, ◌∷◌, ◌∙◌, Some, refl, ap, subst}
use Rattle.irig_port.specs.Heard.{symbols_heard}
use Rattle.irig_port.proofs.LimitLaws.{within_heard}
use Rattle.irig_reader.specs.Rule.{step_of}
use Rattle.irig_reader.specs.Readers.{HasReaderHistory}
use Rattle.irig_reader.specs.History.{ReaderHistory, no_pulses, vote_at_tick}
use Rattle.irig_reader.specs.declared.report.Report.{Report}
use Rattle.irig_reader.specs.declared.report.Cause.TheVariants.{Voted}
use Rattle.irig_reader.proofs.VoteLaws.{vote_valid}
use Rattle.irig_reader.proofs.OneEdge.{voted_seconds}
use Rattle.irig_reader.proofs.reader.Reader.tick.Goals as goal

pub go_on-report-requires : goal.go_on-report-requires
go_on-report-requires g c =
    vote_valid _ _ c.vote-vote.result
    c.edge_within.ensures.valid c.edge_within-2.ensures.valid c.edge_within-3.ensures.valid c.edge_within-4.ensures.valid c.edge_within-5.ensures.valid c.vote-vote.ensures.value

pub returns-clause-told : goal.returns-clause-told
returns-clause-told g c history s =
    rw (c.edge_within.ensures.told history.rules (symbols_heard history.fed.a) s.a, c.edge_within-2.ensures.told history.rules (symbols_heard history.fed.b) s.b, c.edge_within-3.ensures.told history.rules (symbols_heard history.fed.c) s.c, c.edge_within-4.ensures.told history.rules (symbols_heard history.fed.d) s.d, c.edge_within-5.ensures.told history.rules (symbols_heard history.fed.e) s.e, s.limits)
    (simp within_heard)

pub returns-clause-report : goal.returns-clause-report
returns-clause-report g c history s =
    let told = returns-clause-told g c history s in
    let vote : c.vote-vote.result ≡ vote_at_tick history = c.vote-vote.ensures.value ∙ rw (told, s.redundancy) refl in
    c.go_on-report.ensures.report ∙ rw (vote, s.reader_rules, s.table, s.state) refl

pub returns-clause-after : goal.returns-clause-after
returns-clause-after g c history s =
    let read : ReaderHistory = record history { fed = no_pulses } in
    let told = returns-clause-told g c history s in
    let vote : c.vote-vote.result ≡ vote_at_tick history = c.vote-vote.ensures.value ∙ rw (told, s.redundancy) refl in
    let empty = c.go_on-report.ensures.votes read (record {
      a = c.edge_within.ensures.empty _ _ s.a;
      b = c.edge_within-2.ensures.empty _ _ s.b;
      c = c.edge_within-3.ensures.empty _ _ s.c;
      d = c.edge_within-4.ensures.empty _ _ s.d;
      e = c.edge_within-5.ensures.empty _ _ s.e;
      reader_rules = s.reader_rules;
      table = s.table;
      redundancy = s.redundancy;
      limits = s.limits;
      state = s.state;
    }) in
    subst (λ v. HasReaderHistory c.go_on-report.new.self (record read { votes = v ∷ history.votes })) vote empty

pub returns-clause-truth : goal.returns-clause-truth
returns-clause-truth g c t n u sound clean voted says =
    let self = c.args.self.now in
    let report = c.go_on-report.ensures.report ∙ ap (λ v. (step_of self.reader_rules self.table self.state v).report) c.vote-vote.ensures.value in
    voted_seconds t n _ _ _ _ self.redundancy u sound clean (subst (λ (r : Report). r.cause ≡ Voted) report voted) (subst (λ (r : Report). r.announce ≡ Some u) report says)
