use Rattle.record_stamp.specs.Notes.{unlocked_words}
use Rattle.record_stamp.proofs.notes.push_unlocked.Goals as goal

pub returns : goal.returns
unfolding unlocked_words
returns c =
    let word = c.power_word.ensures in
    let unit = c.unit_word.ensures in
    rw (word, unit) at c.push_parts.ensures
