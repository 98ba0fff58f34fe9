use Rattle.std.proofs.Common.{not, ap, ◌∙◌}
use Rattle.serde_json.specs.View.{view}
use Rattle.scenario_values.specs.Names.{name_in}
use Rattle.scenario_values.proofs.NameLaws.{among_texts, too_few_or_many, without_name, named_twice, named_on, all_named}
use Rattle.scenario_values.proofs.names.reader_names.Goals as goal
use Rattle.scenario_values.proofs.names.reader_names.Goals.{then-not-one_to_sixteen-via-then-not-one_to_sixteen, then-not-one_to_sixteen-via-else-not-one_to_sixteen+then-not-have_names}

pub returns-then-not-one_to_sixteen : goal.returns-then-not-one_to_sixteen
returns-then-not-one_to_sixteen c = elim c.then-not-one_to_sixteen.branch [
  | then-not-one_to_sixteen-via-then-not-one_to_sixteen w ↦ too_few_or_many _ _ c.one_to_sixteen.ensures w.if-not-one_to_sixteen.true
  | then-not-one_to_sixteen-via-else-not-one_to_sixteen+then-not-have_names w ↦ without_name _ _ w.have_names.ensures w.if-not-have_names.true
]

pub returns-then-not-branch : goal.returns-then-not-branch
returns-then-not-branch c =
    named_twice _ _ _ _ _ _ c.loop-reader-test.true c.loop-reader.invariant (c.name_in.ensures ∙ ap (λ r. name_in (view r)) c.reader-item.is) (c.in_ok-add.ensures.new ∙ ap not (among_texts c.name_in.result.now c.loop-reader.names.keys)) c.if-not-branch.true

pub loop-reader-preserved : goal.loop-reader-preserved
loop-reader-preserved c =
    named_on _ _ _ _ _ _ _ c.loop-reader-test.true c.loop-reader.invariant (c.name_in.ensures ∙ ap (λ r. name_in (view r)) c.reader-item.is) (c.in_ok-add.ensures.new ∙ ap not (among_texts c.name_in.result.now c.loop-reader.names.keys)) c.if-not-branch.false (c.in_ok-add.ensures.added c.if-not-branch.false)

pub returns : goal.returns
returns c = all_named _ _ _ _ _ c.one_to_sixteen.ensures c.if-not-one_to_sixteen.false c.have_names.ensures c.if-not-have_names.false c.loop-reader-test.false c.loop-reader.invariant
