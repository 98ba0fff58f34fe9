use Rattle.std.proofs.Common.{arith}
use Rattle.irig_scene.proofs.LogLaws.{on_ok}
use Rattle.report_found.specs.Soundness.{IsSoundAccount}
use Rattle.report_found.proofs.SoundLaws.{sound_at, ended_found_sound, still_sound}
use Rattle.report_found.proofs.book.Book.push_ended.Goals as goal

pub returns-then-reader-len-clause-sound : goal.returns-then-reader-len-clause-sound
returns-then-reader-len-clause-sound c =
    let xs = c.args.self.now.accounts in
    let sound : IsSoundAccount c.index.result.now = rw c.index.ensures (sound_at xs.items c.args.tick.now.entry.reader _ (omega (arith, c.if-reader-len.true, c.len.ensures, xs.ok.0)) c.args.self.now.sound) in
    on_ok c.push_ended.result _ _ (λ pushed. still_sound _ _ _ pushed (ended_found_sound c.args.tick.now.entry.reader c.args.self.now.ports c.index.result.now sound c.args.tick.now)) c.push_ended.ensures
