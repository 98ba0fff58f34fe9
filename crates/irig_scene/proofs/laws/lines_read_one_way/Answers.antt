use Rattle.irig_scene.proofs.NameLaws.{are_names_named}
use Rattle.report_log.proofs.LogLaws.{entry_is_shown, shown_once}
use Rattle.report_log.proofs.PortWordLaws.{port_is_shown, words_once}
use Rattle.irig_scene.proofs.TrueLines.{last_shows_nothing}
use Rattle.irig_scene.proofs.laws.lines_read_one_way.Goals as goal

pub returns-clause-entry : goal.returns-clause-entry
returns-clause-entry _ = λ names e named few known. entry_is_shown names e (are_names_named names named) few known

pub returns-clause-one_way : goal.returns-clause-one_way
returns-clause-one_way _ = λ names line r n q m time other named one two.
    let same = shown_once names line r n q m time other (are_names_named names named) one two in
    (same.reader, same.edge, same.time_is)

pub returns-clause-words : goal.returns-clause-words
returns-clause-words _ = λ names e named few known. port_is_shown names e few known

pub returns-clause-words_one_way : goal.returns-clause-words_one_way
returns-clause-words_one_way _ = λ names line r n q m words others named one two.
    let same = words_once names line r n q m words others (are_names_named names named) one two in
    (same.reader, same.edge, same.words_are)

pub returns-clause-last : goal.returns-clause-last
returns-clause-last _ = λ x refused named. last_shows_nothing x (are_names_named x.plan.names named) refused
