use Rattle.std.proofs.Common.{rules, ◌≡◌, ℕ, min, refl, subst, arith}
use Rattle.std.proofs.lemmas.Result.{err_from_is_err_and}
use Rattle.irig_device.specs.Watched.{device_of}
use Rattle.irig_station.specs.StationStandings.{first_part}
use Rattle.irig_station_scene.specs.StationScenes.{standing_in, station_scene}
use Rattle.irig_station_scene.proofs.StretchLaws.{HasPassed, all_passed, none_passed, part_passes, part_stops}
use Rattle.irig_station_scene.proofs.player.StationPlayer.play_stretch.Goals as goal

pub loop-left_us-init : goal.loop-left_us-init
loop-left_us-init g c =
    let asked = c.args.asked in (
      refl,
      λ x first at. none_passed g.L.StationListener.hears (g.L.StationListener.stands_for asked) (g.L.StationListener.texts asked) (g.met.L.StationListener.reads asked) first c.args.us x _ _ at,
    )

pub returns-in_err-play_at_once-clause-takes : goal.returns-in_err-play_at_once-clause-takes
returns-in_err-play_at_once-clause-takes g c =
    let p = err_from_is_err_and c.from_residual.result c.from_residual.ensures.1 in
    let asked = c.args.asked in
    rw (p.1, p.2) (λ x first at.
    let was = c.loop-left_us.invariant.1 x first at in
    let y = station_scene x.plan was.events in
    let is : c.min-part_us.result ≡ first_part c.loop-left_us.left_us (standing_in y) =
    subst (λ (n : ℕ). c.min-part_us.result ≡ min c.loop-left_us.left_us n) (c.left_us.ensures.value asked y was.stands) c.min-part_us.ensures in
    part_stops g.L.StationListener.hears (g.L.StationListener.stands_for asked) (g.L.StationListener.texts asked) (g.met.L.StationListener.reads asked) first (g.met.L.StationListener.stays asked) c.args.us c.loop-left_us.left_us c.min-part_us.result c.loop-left_us-test.true x _ _ _ _ _ was
    is c.in_err-play_at_once.field-0.0 (c.in_err-play_at_once.ensures.takes y first was.stands))

pub loop-left_us-preserved : goal.loop-left_us-preserved
loop-left_us-preserved g c =
    let asked = c.args.asked in (
      search rules,
      λ x first at.
          let was = c.loop-left_us.invariant.1 x first at in
          let y = station_scene x.plan was.events in
          let is : c.min-part_us.result ≡ first_part c.loop-left_us.left_us (standing_in y) =
          subst (λ (n : ℕ). c.min-part_us.result ≡ min c.loop-left_us.left_us n) (c.left_us.ensures.value asked y was.stands) c.min-part_us.ensures in
          part_passes g.L.StationListener.hears (g.L.StationListener.stands_for asked) (g.L.StationListener.texts asked) (g.met.L.StationListener.reads asked) first (g.met.L.StationListener.stays asked) c.args.us c.loop-left_us.left_us c.min-part_us.result c.loop-left_us-test.true x _ _ _ _ _ was
          is (c.in_ok-play_at_once.ensures.takes y first was.stands),
    )

pub returns-clause-takes : goal.returns-clause-takes
returns-clause-takes g c =
    let asked = c.args.asked in
    λ x first at.
    let none : c.loop-left_us.left_us ≡ 0 = (let over = c.loop-left_us-test.false in omega (arith, over)) in
    all_passed g.L.StationListener.hears (g.L.StationListener.stands_for asked) (g.L.StationListener.texts asked) (g.met.L.StationListener.reads asked) first c.args.us x _ _ _
    (subst (λ (left : ℕ). HasPassed g.L.StationListener.hears (g.L.StationListener.stands_for asked) (g.L.StationListener.texts asked) (g.met.L.StationListener.reads asked) first c.args.us left x c.loop-left_us.self (g.W.Write.contents (device_of c.args.output.now)) (g.W.Write.contents (device_of c.loop-left_us.output))) none (c.loop-left_us.invariant.1 x first at))

pub play_at_once-requires : goal.play_at_once-requires
play_at_once-requires g c =
    let most = c.left_us.ensures.most in
    let size : c.min-part_us.result ≡ min c.loop-left_us.left_us c.left_us.result = c.min-part_us.ensures in
    omega (arith, most, size)
