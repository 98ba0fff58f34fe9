use Rattle.std.proofs.Common.{rules, ◌≡◌, ◌∙◌, Bool, true, false, Some, sym, ap, subst}
use Rattle.irig_reader.specs.declared.report.Cause.TheVariants.{Voted}
use Rattle.irig_reader.specs.declared.report.Lock.TheVariants.{Holdover}
use Rattle.irig_reader.specs.declared.report.Report.{Report}
use Rattle.irig_reader.specs.Rule.{state_of, step_of}
use Rattle.irig_reader.proofs.OneEdge.{voted_seconds}
use Rattle.irig_vote.specs.Vote.{vote_of}
use Rattle.c_numbers.specs.declared.reader.IrigReader.{IrigReader}
use Rattle.c_numbers.specs.Numbers.{sense_in}
use Rattle.c_reader.specs.Readers.{tells_in, IsAccepted, IsReaderOf}
use Rattle.c_numbers.specs.Voices.{voices_of}
use Rattle.c_numbers.specs.Reports.{report_in, voices_in}
use Rattle.irig_reader.specs.History.{ReaderHistory, after_tick, told_at_tick, vote_at_tick}
use Rattle.irig_reader.proofs.VoteLaws.{vote_valid}
use Rattle.irig_reader.proofs.CleanHearing.{clean_hearing}
use Rattle.irig_reader.proofs.HeldEdges.{held_since}
use Rattle.irig_reader.proofs.MarkedVotes.{held_at_tick}
use Rattle.irig_reader.specs.declared.rules.ReaderRules.{ReaderRules}
use Rattle.c_numbers.specs.declared.table.IrigTable.{IrigTable}
use Rattle.c_numbers.specs.LeapTables.{table_in}
use Rattle.c_numbers.specs.declared.setup.IrigSetup.{IrigSetup}
use Rattle.c_numbers.specs.CheckWord.{check_of}
use Rattle.c_numbers.specs.Setups.{limits_in, rules_in, reader_rules_in, redundancy_in, IsSetup}
use Rattle.c_numbers.specs.States.{IsState}
use Rattle.c_reader.proofs.TellsLaws.{tells_are}
use Rattle.c_reader.proofs.VoicesLaws.{voices_heard}
use Rattle.c_reader.proofs.reader.irig_c_reader_tick.Goals as goal

never : ◌≡◌ {A = Bool} false true → ⊥
never h = absurd cc

-- what a history leaves is accepted
accepts : (r : IrigReader) (h : ReaderHistory) → IsReaderOf r h → IsAccepted r
accepts r h s = record { setup = s.setup; is_state = s.is_state; sealed = s.sealed }

pub returns-in_default-clause-answered : goal.returns-in_default-clause-answered
returns-in_default-clause-answered c h s = absurd (never (c.in_default.ensures.accepted.1 (accepts c.args.reader.now h s)))

pub returns-in_default-clause-report : goal.returns-in_default-clause-report
returns-in_default-clause-report c h s = absurd (never (c.in_default.ensures.accepted.1 (accepts c.args.reader.now h s)))

pub returns-in_default-clause-after : goal.returns-in_default-clause-after
returns-in_default-clause-after c h s = absurd (never (c.in_default.ensures.accepted.1 (accepts c.args.reader.now h s)))

pub returns-in_default-clause-heard : goal.returns-in_default-clause-heard
returns-in_default-clause-heard c h s = absurd (never (c.in_default.ensures.accepted.1 (accepts c.args.reader.now h s)))

pub returns-in_default-clause-heard_truth : goal.returns-in_default-clause-heard_truth
returns-in_default-clause-heard_truth c h t n u s = absurd (never (c.in_default.ensures.accepted.1 (accepts c.args.reader.now h s)))

pub returns-in_default-clause-held : goal.returns-in_default-clause-held
returns-in_default-clause-held c h t n edges u s = absurd (never (c.in_default.ensures.accepted.1 (accepts c.args.reader.now h s)))

pub returns-in_default-clause-last : goal.returns-in_default-clause-last
returns-in_default-clause-last c h edges s = absurd (never (c.in_default.ensures.accepted.1 (accepts c.args.reader.now h s)))

pub step_of-step-requires-clause-valid : goal.step_of-step-requires-clause-valid
step_of-step-requires-clause-valid c =
    let claims = c.tells_of-tells.ensures.claims in
    vote_valid _ _ c.vote-vote.result claims.a claims.b claims.c claims.d claims.e c.vote-vote.ensures.value

pub returns-clause-report : goal.returns-clause-report
returns-clause-report c h s =
    let told : c.tells_of-tells.result ≡ told_at_tick h = c.tells_of-tells.ensures.told ∙ tells_are c.args.reader.now h s in
    let vote : c.vote-vote.result ≡ vote_at_tick h = cc in
    let reader_rules : c.reader_rules_of-reader_rules.result ≡ h.reader_rules = c.reader_rules_of-reader_rules.ensures ∙ s.reader_rules in
    let state : c.in-Some.state ≡ state_of h.reader_rules h.table h.votes = c.in-Some.ensures.is ∙ s.state in
    let table : table_in c.args.reader.now.table ≡ h.table = s.table in
    let step = c.step_of-step.ensures.step in
    let for_c = c.report_for_c.ensures in
    cc

pub returns-clause-after : goal.returns-clause-after
unfolding check_of
returns-clause-after c h s =
    let told : c.tells_of-tells.result ≡ told_at_tick h = c.tells_of-tells.ensures.told ∙ tells_are c.args.reader.now h s in
    let vote : c.vote-vote.result ≡ vote_at_tick h = cc in
    let reader_rules : c.reader_rules_of-reader_rules.result ≡ h.reader_rules = c.reader_rules_of-reader_rules.ensures ∙ s.reader_rules in
    let state : c.in-Some.state ≡ state_of h.reader_rules h.table h.votes = c.in-Some.ensures.is ∙ s.state in
    let table : table_in c.args.reader.now.table ≡ h.table = s.table in
    let step = c.step_of-step.ensures.step in
    let after : c.step_of-step.result.state ≡ state_of h.reader_rules h.table (after_tick h).votes = cc in
    let setup = c.empty.ensures.setup in
    let kept = c.empty.ensures.table in
    let ports = c.empty.ensures.ports in
    record {
      rules = ap (λ (x : IrigSetup). rules_in x) setup ∙ s.rules;
      limits = ap (λ (x : IrigSetup). limits_in x) setup ∙ s.limits;
      reader_rules = ap (λ (x : IrigSetup). reader_rules_in x) setup ∙ s.reader_rules;
      table = ap (λ (x : IrigTable). table_in x) kept ∙ s.table;
      redundancy = ap (λ (x : IrigSetup). redundancy_in x) setup ∙ s.redundancy;
      heard = ports;
      state = c.state_for_c-reader.ensures.is ∙ after;
      setup = subst (λ (x : IrigSetup). IsSetup x) (sym setup) s.setup;
      is_state = subst (λ (x : IrigSetup). IsState x.lock_after c.state_for_c-reader.result) (sym setup)
          (subst (λ (o : ReaderRules). IsState o.lock_after c.state_for_c-reader.result) c.reader_rules_of-reader_rules.ensures
          (c.state_for_c-reader.ensures.state c.reader_rules_of-reader_rules.result.lock_after c.step_of-step.ensures.counting));
      sealed = c.check_of-reader.ensures;
    }

pub returns-clause-heard : goal.returns-clause-heard
returns-clause-heard c h s =
    let r = c.args.reader.now in
    let said : voices_in c.report_for_c.result ≡ voices_of (tells_in r) (redundancy_in r.setup) (sense_in r.setup.sense) r.ports = search rules in
    said ∙ voices_heard r h s

pub returns-clause-truth : goal.returns-clause-truth
returns-clause-truth c t n u sound clean done voted says =
    let r = c.args.reader.now in
    let told : c.tells_of-tells.result ≡ tells_in r = c.tells_of-tells.ensures.told in
    let vote : c.vote-vote.result ≡ vote_of (tells_in r) (redundancy_in r.setup) = cc in
    let report : report_in c.report_for_c.result ≡ (step_of c.reader_rules_of-reader_rules.result (table_in r.table) c.in-Some.state (vote_of (tells_in r) (redundancy_in r.setup))).report = cc in
    voted_seconds t n c.reader_rules_of-reader_rules.result (table_in r.table) c.in-Some.state (tells_in r) (redundancy_in r.setup) u sound clean
    (subst (λ (x : Report). x.cause ≡ Voted) report voted) (subst (λ (x : Report). x.announce ≡ Some u) report says)

pub returns-clause-heard_truth : goal.returns-clause-heard_truth
returns-clause-heard_truth c h t n u s sound clean voted says =
    let report = returns-clause-report c h s in
    voted_seconds t n h.reader_rules h.table (state_of h.reader_rules h.table h.votes) (told_at_tick h) h.redundancy u sound ((clean_hearing t n h).1 clean)
    (subst (λ (x : Report). x.cause ≡ Voted) report voted) (subst (λ (x : Report). x.announce ≡ Some u) report says)

pub returns-clause-held : goal.returns-clause-held
returns-clause-held c h t n edges u s marked sound knows since some says =
    held_at_tick t n h edges u sound knows marked since some (subst (λ (x : Report). x.announce ≡ Some u) (returns-clause-report c h s) says)

pub returns-clause-last : goal.returns-clause-last
returns-clause-last c h edges s says =
    held_since h.reader_rules h.table (vote_at_tick h) h.votes edges (subst (λ (x : Report). x.lock ≡ Holdover edges) (returns-clause-report c h s) says)
