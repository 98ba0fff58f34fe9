use Rattle.std.proofs.Common.{◌∙◌, sym, subst}
use Rattle.record_lines.specs.Recordings.{HasPlayed}
use Rattle.record_lines.proofs.ChannelLaws.{steady_on, steady_same}
use Rattle.record_lines.specs.Passing.{IsTickedLater}
use Rattle.record_lines.proofs.PassLaws.{later_on, not_sooner}
use Rattle.record_lines.proofs.PlayLaws.{and_passes, none_of, nothing_played, same_played}
use Rattle.record_lines.proofs.recording.Recording.next_told.Goals as goal

pub returns-then-not-is_begun-clause-plays : goal.returns-then-not-is_begun-clause-plays
returns-then-not-is_begun-clause-plays g c made start seen played calls is =
    let begun = c.is_begun.ensures in
    nothing_played c.args.self.now c.is_begun.new.self made start seen played calls is begun.receiver begun.channels begun.held

pub returns-then-is_some-clause-plays : goal.returns-then-is_some-clause-plays
returns-then-is_some-clause-plays g c made start seen played calls is =
    let begun = c.is_begun.ensures in
    c.play_held-told.ensures.plays made start seen played calls (same_played c.args.self.now c.is_begun.new.self made start seen played calls is begun.receiver begun.channels begun.held)

pub returns-clause-plays : goal.returns-clause-plays
returns-clause-plays g c made start seen played calls is =
    let begun = c.is_begun.ensures in
    let none = none_of c.play_held-told.result (sym c.is_some.ensures ∙ c.if-is_some.false) in
    let has = c.play_held-told.ensures.plays made start seen played calls (same_played c.args.self.now c.is_begun.new.self made start seen played calls is begun.receiver begun.channels begun.held) in
    and_passes c.play_held-told.new.self c.pass_to_end.new.self made start seen (subst (λ told. HasPlayed c.play_held-told.new.self told made start seen) none has)
    c.pass_to_end.ensures.held c.pass_to_end.ensures.channels c.pass_to_end.result c.pass_to_end.ensures.ticks

pub returns-then-is_some-clause-steady : goal.returns-then-is_some-clause-steady
returns-then-is_some-clause-steady g c =
    let begun = steady_same c.args.self.now.channels c.is_begun.new.self.channels c.is_begun.ensures.channels in
    steady_on c.args.self.now.channels c.is_begun.new.self.channels c.play_held-told.new.self.channels begun c.play_held-told.ensures.steady

pub returns-clause-steady : goal.returns-clause-steady
returns-clause-steady g c =
    let begun = steady_same c.args.self.now.channels c.is_begun.new.self.channels c.is_begun.ensures.channels in
    let played = steady_on c.args.self.now.channels c.is_begun.new.self.channels c.play_held-told.new.self.channels begun c.play_held-told.ensures.steady in
    steady_on c.args.self.now.channels c.play_held-told.new.self.channels c.pass_to_end.new.self.channels played
    (steady_same c.play_held-told.new.self.channels c.pass_to_end.new.self.channels c.pass_to_end.ensures.channels)

pub returns-then-is_some-clause-later : goal.returns-then-is_some-clause-later
returns-then-is_some-clause-later g c =
    subst (λ r. IsTickedLater r c.play_held-told.new.self.receiver c.play_held-told.result) c.is_begun.ensures.receiver c.play_held-told.ensures.later

pub returns-clause-later : goal.returns-clause-later
returns-clause-later g c =
    let played = not_sooner c.is_begun.new.self.receiver c.play_held-told.new.self.receiver c.play_held-told.result c.play_held-told.ensures.later in
    subst (λ r. IsTickedLater r c.pass_to_end.new.self.receiver c.pass_to_end.result) c.is_begun.ensures.receiver
    (later_on c.is_begun.new.self.receiver c.play_held-told.new.self.receiver c.pass_to_end.new.self.receiver c.pass_to_end.result played c.pass_to_end.ensures.later)
