use Rattle.irig_frame.specs.Encoder.{with_parts, parts_of}
use Rattle.irig_frame.proofs.EncodingLaws.{frame_reads, frame_spare, written_reads, written_spare}
use Rattle.irig_frame.proofs.OneFrame.{one_frame}
use Rattle.irig_frame.proofs.ReadingLaws.{decoded-reads}
use Rattle.irig_frame.proofs.encoder.encode.Goals as goal

pub returns-clause-reads : goal.returns-clause-reads
returns-clause-reads c =
    let e = c.frame_of.ensures in
    rw e.2 (frame_reads c.args.coded.now e.0 c.requires e.1)

pub returns-clause-spare : goal.returns-clause-spare
returns-clause-spare c =
    let e = c.frame_of.ensures in
    rw e.2 (frame_spare c.args.coded.now e.0 e.1)

pub returns-clause-round_trip : goal.returns-clause-round_trip
returns-clause-round_trip c =
    let e = c.frame_of.ensures in
    rw e.2 ((decoded-reads (with_parts e.0 (parts_of c.args.coded.now)) c.args.coded.now).1 (frame_reads c.args.coded.now e.0 c.requires e.1))

pub returns-clause-exact : goal.returns-clause-exact
returns-clause-exact c =
    one_frame _ _ c.args.coded.now (returns-clause-reads c) (written_reads c.args.coded.now c.requires) (returns-clause-spare c) (written_spare c.args.coded.now)
