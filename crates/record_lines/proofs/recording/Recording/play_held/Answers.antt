use Rattle.std.proofs.Common.{rules, ◌≡◌, ◌∙◌, ◌≤◌, length, Some, slice_get, refl, sym, arith}
use Rattle.std.proofs.lemmas.Option.{slice_get_read}
use Rattle.record_lines.proofs.ChannelLaws.{steady_on}
use Rattle.record_lines.proofs.PassLaws.{later_on, not_sooner}
use Rattle.record_lines.proofs.PlayLaws.{all_played, has_told, steps}
use Rattle.record_lines.proofs.recording.Recording.play_held.Goals as goal

pub returns-then-is_some-clause-plays : goal.returns-then-is_some-clause-plays
returns-then-is_some-clause-plays g c made start seen played calls is =
    let on = c.loop-at.invariant.2 made start seen played calls is in
    has_told c.loop-at.self _ c.loop-at.at made start seen on.0 on.1 on.2 refl refl c.pass_to-told.result c.pass_to-told.ensures.ticks (sym c.is_some.ensures ∙ c.if-is_some.true) refl

pub loop-at-preserved : goal.loop-at-preserved
loop-at-preserved g c = (
  c.play.ensures.held ∙ c.loop-at.invariant.0,
  c.loop-at.invariant.1,
  λ made start seen played calls is.
      let on = c.loop-at.invariant.2 made start seen played calls is in
      let found : slice_get c.loop-at.self.held.changes.items c.loop-at.at ≡ Some c.index-change.result.now = slice_get_read c.loop-at.self.held.changes.items (length c.loop-at.self.held.changes.items) c.loop-at.at c.index-change.result.now refl (search rules) (search rules) in
      steps c.loop-at.self _ c.play.new.self c.index-change.result.now c.loop-at.at made start seen on.0 on.1 on.2 (c.play.ensures.played c.loop-at.at) refl refl c.pass_to-told.result c.pass_to-told.ensures.ticks (sym c.is_some.ensures ∙ c.if-is_some.false) found,
  steady_on c.args.self.now.channels c.loop-at.self.channels c.play.new.self.channels c.loop-at.invariant.3 c.play.ensures.steady,
  c.play.ensures.time ∙ c.loop-at.invariant.4,
  c.play.ensures.end ∙ c.loop-at.invariant.5,
  c.play.ensures.lines ∙ c.loop-at.invariant.6,
  (let later = not_sooner c.loop-at.self.receiver c.pass_to-told.new.self c.pass_to-told.result c.pass_to-told.ensures.later in
      omega (arith, c.loop-at.invariant.7, later, c.play.ensures.ticked)),
)

pub returns-clause-plays : goal.returns-clause-plays
returns-clause-plays g c made start seen played calls is =
    let on = c.loop-at.invariant.2 made start seen played calls is in
    let past : length c.loop-at.self.held.changes.items ≤ c.loop-at.at = search rules in
    all_played c.loop-at.self _ c.loop-at.at made start seen on.0 on.1 on.2 past refl refl c.clear.ensures.nothing

pub returns-then-is_some-clause-later : goal.returns-then-is_some-clause-later
returns-then-is_some-clause-later g c =
    later_on c.args.self.now.receiver c.loop-at.self.receiver c.pass_to-told.new.self c.pass_to-told.result c.loop-at.invariant.7 c.pass_to-told.ensures.later

pub returns-clause-later : goal.returns-clause-later
returns-clause-later g c = c.loop-at.invariant.7
