use Rattle.std.proofs.Common.{rules, ◌≡◌, ◌+◌, ◌≤◌, None, Some, refl, subst, arith}
use Rattle.std.proofs.lemmas.Result.{err_from_is_err_and}
use Rattle.irig_device.specs.Watched.{device_of}
use Rattle.irig_plant.specs.WholeSecond.{times}
use Rattle.irig_scene.specs.Scene.{second_in}
use Rattle.irig_scene.specs.ListenerRuns.{IsStageAt, IsPlayerAt, HoldsTextOf, held_by}
use Rattle.irig_scene.proofs.HeldText.{empty_has_room, none_written, none_held, held_fails, second_is_cut, refused_written, one_more_held, held_is_written, all_written}
use Rattle.irig_scene.proofs.PlayerLaws.{other_player, second_plays, refused_adds}
use Rattle.irig_scene.proofs.player.Player.play_seconds.Goals.{then-is_full+in_ok-write, else-is_full}
use Rattle.irig_scene.proofs.player.Player.play_seconds.Goals as goal

pub loop-init : goal.loop-init
loop-init g c = (
  search rules,
  λ x at. none_held (IsPlayerAt {g = g.P.Port} (g.L.Listener.stands_for c.args.asked)) (g.L.Listener.texts c.args.asked) x (second_in x.plan) _ _ _ c.clear.ensures.bytes at,
  empty_has_room _ c.clear.ensures.bytes,
)

pub returns-in_err-write-in-Err-Refused-clause-plays : goal.returns-in_err-write-in-Err-Refused-clause-plays
returns-in_err-write-in-Err-Refused-clause-plays g c =
    let p = err_from_is_err_and c.from_residual.result c.from_residual.ensures.1 in
    rw (p.1, p.2) (λ x at.
    let sf = g.L.Listener.stands_for c.args.asked in
    let texts = g.L.Listener.texts c.args.asked in
    let first = other_player {g = g.P.Port} sf (record c.args.self.now { stage = record c.args.self.now.stage { text = c.clear.new.self } }) c.args.self.now refl refl refl refl x at in
    let was = c.loop.invariant.1 x first in
    let b = c.loop.self in
    let d = record b { stage = c.play_all.new.stage } in
    let adds = refused_adds (IsStageAt {g = g.P.Port} sf) texts _ c.in-Err-Refused.refusal _ _ _ _ _ c.in-Err-Refused.field-0-is c.in-Err-Refused.ensures in
    second_is_cut (IsPlayerAt {g = g.P.Port} sf) texts x c.loop.counter c.args.count (second_in x.plan) b d (Some c.in-Err-Refused.refusal) _ _ _ _ _ c.loop-test.true was
    (second_plays {g = g.P.Port} sf texts x c.loop.counter b d (Some c.in-Err-Refused.refusal) _ _ _ refl c.deref.ensures.value was adds) c.in_err-write-in-Err-Refused.ensures.wrote)

pub returns-in-Err-Refused-clause-plays : goal.returns-in-Err-Refused-clause-plays
returns-in-Err-Refused-clause-plays g c = λ x at.
    let sf = g.L.Listener.stands_for c.args.asked in
    let texts = g.L.Listener.texts c.args.asked in
    let first = other_player {g = g.P.Port} sf (record c.args.self.now { stage = record c.args.self.now.stage { text = c.clear.new.self } }) c.args.self.now refl refl refl refl x at in
    let was = c.loop.invariant.1 x first in
    let b = c.loop.self in
    let d = record b { stage = c.play_all.new.stage } in
    let wrote = c.in_ok-write-in-Err-Refused.ensures in
    let adds = refused_adds (IsStageAt {g = g.P.Port} sf) texts _ c.in-Err-Refused.refusal _ _ _ _ _ c.in-Err-Refused.field-0-is c.in-Err-Refused.ensures in
    rw c.in-Err-Refused.field-0-is (refused_written (IsPlayerAt {g = g.P.Port} sf) texts x c.loop.counter c.args.count (second_in x.plan) b d (record b { stage = c.write.new.self }) c.in-Err-Refused.refusal _ _ _ _ _ c.loop-test.true was
    (second_plays {g = g.P.Port} sf texts x c.loop.counter b d (Some c.in-Err-Refused.refusal) _ _ _ refl c.deref.ensures.value was adds) wrote.wrote
    (λ y h. other_player {g = g.P.Port} sf (record b { stage = c.write.new.self }) d refl wrote.listener wrote.plant wrote.lines y h))

pub returns-in-Err-Failed-clause-plays : goal.returns-in-Err-Failed-clause-plays
returns-in-Err-Failed-clause-plays g c = λ x at.
    let sf = g.L.Listener.stands_for c.args.asked in
    let first = other_player {g = g.P.Port} sf (record c.args.self.now { stage = record c.args.self.now.stage { text = c.clear.new.self } }) c.args.self.now refl refl refl refl x at in
    let le : c.loop.counter ≤ c.args.count = omega (arith, c.loop-test.true) in
    held_fails (IsPlayerAt {g = g.P.Port} sf) (g.L.Listener.texts c.args.asked) x c.loop.counter c.args.count (second_in x.plan) _ _ _ _ _ le (c.loop.invariant.1 x first) (none_written _ _)

pub returns-in_err-write-clause-plays : goal.returns-in_err-write-clause-plays
returns-in_err-write-clause-plays g c =
    let p = err_from_is_err_and c.from_residual-in_err-write.result c.from_residual-in_err-write.ensures.1 in
    rw (p.1, p.2) (λ x at.
    let sf = g.L.Listener.stands_for c.args.asked in
    let texts = g.L.Listener.texts c.args.asked in
    let first = other_player {g = g.P.Port} sf (record c.args.self.now { stage = record c.args.self.now.stage { text = c.clear.new.self } }) c.args.self.now refl refl refl refl x at in
    let was = c.loop.invariant.1 x first in
    let b = c.loop.self in
    let d = record b { stage = c.play_all.new.stage } in
    second_is_cut (IsPlayerAt {g = g.P.Port} sf) texts x c.loop.counter c.args.count (second_in x.plan) b d None _ _ _ _ _ c.loop-test.true was
    (second_plays {g = g.P.Port} sf texts x c.loop.counter b d None _ _ _ refl c.deref.ensures.value was c.in-Ok.ensures) c.in_err-write.ensures.wrote)

pub loop-preserved : goal.loop-preserved
loop-preserved g c = (
  search rules,
  λ x at.
      let sf = g.L.Listener.stands_for c.args.asked in
      let texts = g.L.Listener.texts c.args.asked in
      let was = c.loop.invariant.1 x at in
      let b = c.loop.self in
      let d = record b { stage = c.play_all.new.stage } in
      let held = one_more_held (IsPlayerAt {g = g.P.Port} sf) texts x c.loop.counter (second_in x.plan) b d _ _ _ _ was
      (second_plays {g = g.P.Port} sf texts x c.loop.counter b d None _ _ _ refl c.deref.ensures.value was c.in-Ok.ensures) in
      elim c.if-is_full.branch [
        | then-is_full+in_ok-write w ↦ rw (w.self-is, w.output-is)
            (held_is_written (IsPlayerAt {g = g.P.Port} sf) texts x (times (c.loop.counter + 1) (second_in x.plan)) d _ _ _ _ _ _ held w.in_ok-write.ensures.wrote w.in_ok-write.ensures.empty
            (λ y h. other_player {g = g.P.Port} sf _ d refl w.in_ok-write.ensures.listener w.in_ok-write.ensures.plant w.in_ok-write.ensures.lines y h))
        | else-is_full w ↦ rw (w.self-is, w.output-is) held
      ],
  elim c.if-is_full.branch [
    | then-is_full+in_ok-write w ↦ rw w.self-is (empty_has_room _ w.in_ok-write.ensures.empty)
    | else-is_full w ↦ rw w.self-is (c.is_full.ensures.0 w.if-is_full.false)
  ],
)

pub returns-in_err-write-2-clause-plays : goal.returns-in_err-write-2-clause-plays
returns-in_err-write-2-clause-plays g c =
    let p = err_from_is_err_and c.from_residual-in_err-write-2.result c.from_residual-in_err-write-2.ensures.1 in
    let le : c.loop.counter ≤ c.args.count = omega (arith, c.loop.auto.counter-end) in
    rw (p.1, p.2) (λ x at.
    let sf = g.L.Listener.stands_for c.args.asked in
    let first = other_player {g = g.P.Port} sf (record c.args.self.now { stage = record c.args.self.now.stage { text = c.clear.new.self } }) c.args.self.now refl refl refl refl x at in
    held_fails (IsPlayerAt {g = g.P.Port} sf) (g.L.Listener.texts c.args.asked) x c.loop.counter c.args.count (second_in x.plan) _ _ _ _ _ le (c.loop.invariant.1 x first) c.in_err-write-2.ensures.wrote)

pub returns-clause-plays : goal.returns-clause-plays
returns-clause-plays g c = λ x at.
    let sf = g.L.Listener.stands_for c.args.asked in
    let texts = g.L.Listener.texts c.args.asked in
    let all : c.loop.counter ≡ c.args.count = omega (arith, c.loop-test.false, c.loop.auto.counter-end) in
    let first = other_player {g = g.P.Port} sf (record c.args.self.now { stage = record c.args.self.now.stage { text = c.clear.new.self } }) c.args.self.now refl refl refl refl x at in
    let held = subst (λ n. HoldsTextOf (IsPlayerAt {g = g.P.Port} sf) texts x (times n (second_in x.plan)) c.loop.self (held_by c.loop.self) (g.W.Write.contents (device_of c.args.output.now)) (g.W.Write.contents (device_of c.loop.output))) all (c.loop.invariant.1 x first) in
    let wrote = c.in_ok-write-2.ensures in
    all_written (IsPlayerAt {g = g.P.Port} sf) texts x (times c.args.count (second_in x.plan)) c.loop.self _ _ _ _ _ held wrote.wrote
    (λ y h. other_player {g = g.P.Port} sf _ c.loop.self refl wrote.listener wrote.plant wrote.lines y h)
