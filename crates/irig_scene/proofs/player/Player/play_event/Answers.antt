use Rattle.std.proofs.Common.{◌∷◌, [], None, Some, refl}
use Rattle.std.proofs.lemmas.Result.{err_from_is_err_and}
use Rattle.irig_scene.specs.ListenerRuns.{IsStageAt}
use Rattle.irig_scene.proofs.HeldText.{as_written, in_part}
use Rattle.irig_scene.proofs.PlayedLaws.{none_said}
use Rattle.irig_scene.proofs.PlayerLaws.{other_text, of_stage, refused_adds}
use Rattle.irig_scene.proofs.player.Player.play_event.Goals as goal

pub returns-in_err-write-in-Err-Refused-clause-plays : goal.returns-in_err-write-in-Err-Refused-clause-plays
returns-in_err-write-in-Err-Refused-clause-plays g c =
    let p = err_from_is_err_and c.from_residual.result c.from_residual.ensures.1 in
    rw (p.1, p.2) (λ x at.
    let sf = g.L.Listener.stands_for c.args.asked in
    let texts = g.L.Listener.texts c.args.asked in
    let start = other_text {g = g.P.Port} sf x c.args.self.now.stage (record c.args.self.now.stage { text = c.clear.new.self }) refl refl refl at.stage in
    in_part (IsStageAt {g = g.P.Port} sf) texts x (c.args.event ∷ []) c.play.new.self (Some c.in-Err-Refused.refusal) _ _ _ _ c.clear.ensures.bytes
    (refused_adds (IsStageAt {g = g.P.Port} sf) texts _ c.in-Err-Refused.refusal _ _ _ _ _ c.in-Err-Refused.field-0-is c.in-Err-Refused.ensures x start) c.in_err-write-in-Err-Refused.ensures.wrote)

pub returns-in-Err-Refused-clause-plays : goal.returns-in-Err-Refused-clause-plays
returns-in-Err-Refused-clause-plays g c = λ x at.
    let sf = g.L.Listener.stands_for c.args.asked in
    let texts = g.L.Listener.texts c.args.asked in
    let start = other_text {g = g.P.Port} sf x c.args.self.now.stage (record c.args.self.now.stage { text = c.clear.new.self }) refl refl refl at.stage in
    let wrote = c.in_ok-write-in-Err-Refused.ensures in
    of_stage {g = g.P.Port} sf texts x (c.args.event ∷ []) c.args.self.now _ (Some c.in-Err-Refused.refusal) _ _ refl at.second
    (as_written (IsStageAt {g = g.P.Port} sf) texts x (c.args.event ∷ []) c.play.new.self c.write.new.self (Some c.in-Err-Refused.refusal) _ _ _ _ c.clear.ensures.bytes
    (refused_adds (IsStageAt {g = g.P.Port} sf) texts _ c.in-Err-Refused.refusal _ _ _ _ _ c.in-Err-Refused.field-0-is c.in-Err-Refused.ensures x start) wrote.wrote
    (λ y h. other_text {g = g.P.Port} sf y c.play.new.self c.write.new.self wrote.listener wrote.plant wrote.lines h))

pub returns-in-Err-Failed-clause-plays : goal.returns-in-Err-Failed-clause-plays
returns-in-Err-Failed-clause-plays g c = λ x at. none_said (g.L.Listener.texts c.args.asked) x (c.args.event ∷ []) _

pub returns-in_err-write-clause-plays : goal.returns-in_err-write-clause-plays
returns-in_err-write-clause-plays g c =
    let p = err_from_is_err_and c.from_residual-in_err-write.result c.from_residual-in_err-write.ensures.1 in
    rw (p.1, p.2) (λ x at.
    let sf = g.L.Listener.stands_for c.args.asked in
    let texts = g.L.Listener.texts c.args.asked in
    let start = other_text {g = g.P.Port} sf x c.args.self.now.stage (record c.args.self.now.stage { text = c.clear.new.self }) refl refl refl at.stage in
    in_part (IsStageAt {g = g.P.Port} sf) texts x (c.args.event ∷ []) c.play.new.self None _ _ _ _ c.clear.ensures.bytes (c.in-Ok.ensures x start) c.in_err-write.ensures.wrote)

pub returns-clause-plays : goal.returns-clause-plays
returns-clause-plays g c = λ x at.
    let sf = g.L.Listener.stands_for c.args.asked in
    let texts = g.L.Listener.texts c.args.asked in
    let start = other_text {g = g.P.Port} sf x c.args.self.now.stage (record c.args.self.now.stage { text = c.clear.new.self }) refl refl refl at.stage in
    let wrote = c.in_ok-write.ensures in
    of_stage {g = g.P.Port} sf texts x (c.args.event ∷ []) c.args.self.now _ None _ _ refl at.second
    (as_written (IsStageAt {g = g.P.Port} sf) texts x (c.args.event ∷ []) c.play.new.self c.write-2.new.self None _ _ _ _ c.clear.ensures.bytes (c.in-Ok.ensures x start) wrote.wrote
    (λ y h. other_text {g = g.P.Port} sf y c.play.new.self c.write-2.new.self wrote.listener wrote.plant wrote.lines h))
