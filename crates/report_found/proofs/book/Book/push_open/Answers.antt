use Rattle.std.proofs.Common.{◌≡◌, ◌<◌, ◌∙◌, [], ap, length, arith}
use Rattle.std.proofs.lemmas.List.{get_or_default}
use Rattle.std.specs.Prelude.{slice_index_or}
use Rattle.report_found.specs.Accounts.{account_of}
use Rattle.report_found.specs.Findings.{open_found}
use Rattle.report_found.specs.Soundness.{IsSoundAccount}
use Rattle.report_found.proofs.GrowLaws.{list_more}
use Rattle.report_found.proofs.SoundLaws.{sound_at, open_found_sound, still_sound}
use Rattle.report_found.proofs.book.Book.push_open.Goals as goal

pub loop-reader-preserved : goal.loop-reader-preserved
loop-reader-preserved c =
    let xs = c.args.self.now.accounts in
    let ports = c.args.self.now.ports in
    let i = c.loop-reader.reader in
    let account = c.index-account.result.now in
    let below : i < length xs.items = omega (arith, c.loop-reader-test.true, c.readers-reader-end.ensures, xs.ok.0) in
    let sound : IsSoundAccount account = rw c.index-account.ensures (sound_at xs.items i _ below c.args.self.now.sound) in
    let same : account ≡ slice_index_or xs.items i (account_of []) = c.index-account.ensures ∙ get_or_default xs.items i account (account_of []) below in (
      list_more (λ r. open_found r ports (slice_index_or xs.items r (account_of []))) i _ _ _ _ c.loop-reader.invariant.0 c.in_ok-push_open.ensures (ap (open_found i ports) same),
      λ old. still_sound _ _ _ c.in_ok-push_open.ensures (open_found_sound i ports account sound) (c.loop-reader.invariant.1 old),
    )
