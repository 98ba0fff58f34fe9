use Rattle.record_verdict.proofs.EndedLaws.{all_five}
use Rattle.record_verdict.proofs.ended.Ended.note_all.Goals as goal

pub returns : goal.returns
returns c all h =
    all_five _ c.args.unended.now c.args.second c.args.tales.now all _ _ _ _ _
    c.ended_by.ensures c.ended_by-2.ensures c.ended_by-3.ensures c.ended_by-4.ensures c.ended_by-5.ensures
    (c.note-5.ensures _ (c.note-4.ensures _ (c.note-3.ensures _ (c.note-2.ensures _ (c.note.ensures all h)))))
