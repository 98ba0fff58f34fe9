use Rattle.std.proofs.Common.{◌≡◌, ◌∙◌, None, Some, refl, sym, subst, Option}
use Rattle.record_pulses.specs.declared.edge.Edge.{Edge}
use Rattle.record_pulses.specs.declared.edge.Pulse.{Pulse}
use Rattle.record_pulses.specs.Looks.{polarity_of}
use Rattle.record_lines.specs.Changes.{edge_of}
use Rattle.record_lines.specs.Channels.{AreChannelsOf, and_played}
use Rattle.record_lines.specs.Paces.{lines_at}
use Rattle.record_lines.specs.Passing.{HearsOn}
use Rattle.record_lines.specs.RecordedLines.{pulse_by}
use Rattle.record_lines.proofs.ChannelLaws.{steady_on, steady_same}
use Rattle.record_lines.proofs.PlayLaws.{plays_none, plays_one}
use Rattle.record_lines.proofs.recording.Recording.play.Goals as goal

pub returns-in_default-clause-played : goal.returns-in_default-clause-played
returns-in_default-clause-played g c place made start seen played calls is at =
    let line = c.args.change.line in
    plays_none c.args.self.now _ c.args.change place made start seen played calls is at refl (subst (λ (e : Edge). AreChannelsOf c.play.new.self seen (and_played line e played)) c.edge.ensures (c.play.ensures.new seen played is.lines)) refl

pub returns-then-tell-eq100-clause-held : goal.returns-then-tell-eq100-clause-held
returns-then-tell-eq100-clause-held g c = c.follow.ensures.held ∙ c.tell.ensures.held

pub returns-then-tell-eq100-clause-played : goal.returns-then-tell-eq100-clause-played
returns-then-tell-eq100-clause-played g c place made start seen played calls is at =
    let line = c.args.change.line in
    let pulse = c.in-Some.pulse in
    let after = subst (λ (e : Edge). AreChannelsOf c.play.new.self seen (and_played line e played)) c.edge.ensures (c.play.ensures.new seen played is.lines) in
    let ends = subst (λ (e : Edge). pulse_by (polarity_of None (seen line)) e (played line) ≡ Some pulse) c.edge.ensures (subst (λ (o : Option Pulse). o ≡ Some pulse) (c.play.ensures.pulse seen played is.lines) c.in-Some.is) in
    let told = subst (λ x. AreChannelsOf x seen (and_played line (edge_of c.args.change) played)) (sym c.tell.ensures.channels) after in
    let lines = subst (λ x. AreChannelsOf x seen (and_played line (edge_of c.args.change) played)) (sym c.follow.ensures.channels) (c.ends_at.ensures.new seen (and_played line (edge_of c.args.change) played) told) in
    let hears = subst (λ r. HearsOn c.args.self.now.receiver r line (lines_at c.args.self.now.time pulse.rise_us) pulse.width_us c.tell.result) (sym c.follow.ensures.receiver) c.tell.ensures.hears in
    plays_one c.args.self.now c.follow.new.self c.args.change place made start seen played calls is at (c.follow.ensures.held ∙ c.tell.ensures.held) lines pulse c.args.self.now.time c.tell.result ends hears

pub returns-else-tell-eq100-clause-held : goal.returns-else-tell-eq100-clause-held
returns-else-tell-eq100-clause-held g c = c.tell.ensures.held

pub returns-else-tell-eq100-clause-played : goal.returns-else-tell-eq100-clause-played
returns-else-tell-eq100-clause-played g c place made start seen played calls is at =
    let line = c.args.change.line in
    let pulse = c.in-Some.pulse in
    let after = subst (λ (e : Edge). AreChannelsOf c.play.new.self seen (and_played line e played)) c.edge.ensures (c.play.ensures.new seen played is.lines) in
    let ends = subst (λ (e : Edge). pulse_by (polarity_of None (seen line)) e (played line) ≡ Some pulse) c.edge.ensures (subst (λ (o : Option Pulse). o ≡ Some pulse) (c.play.ensures.pulse seen played is.lines) c.in-Some.is) in
    let lines = subst (λ x. AreChannelsOf x seen (and_played line (edge_of c.args.change) played)) (sym c.tell.ensures.channels) after in
    plays_one c.args.self.now c.tell.new.self c.args.change place made start seen played calls is at c.tell.ensures.held lines pulse c.args.self.now.time c.tell.result ends c.tell.ensures.hears

pub returns-then-tell-eq100-clause-steady : goal.returns-then-tell-eq100-clause-steady
returns-then-tell-eq100-clause-steady g c =
    let told = steady_on c.args.self.now.channels c.play.new.self c.tell.new.self.channels c.play.ensures.steady (steady_same c.play.new.self c.tell.new.self.channels c.tell.ensures.channels) in
    let ended = steady_on c.args.self.now.channels c.tell.new.self.channels c.ends_at.new.self told c.ends_at.ensures.steady in
    steady_on c.args.self.now.channels c.ends_at.new.self c.follow.new.self.channels ended (steady_same c.ends_at.new.self c.follow.new.self.channels c.follow.ensures.channels)

pub returns-else-tell-eq100-clause-steady : goal.returns-else-tell-eq100-clause-steady
returns-else-tell-eq100-clause-steady g c =
    steady_on c.args.self.now.channels c.play.new.self c.tell.new.self.channels c.play.ensures.steady (steady_same c.play.new.self c.tell.new.self.channels c.tell.ensures.channels)
