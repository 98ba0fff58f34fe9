use Rattle.report_log.proofs.PortWordLaws.{clean_by_words}
use Rattle.report_log.proofs.laws.words_show_clean_ticks.Goals as goal

pub returns : goal.returns
returns _ = clean_by_words
