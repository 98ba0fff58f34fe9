use Rattle.std.proofs.Common.{◌≡◌, ◌++◌, ℤ, OnOk, string_bytes, subst, to_z, of_z, w16, w64, arith}
use Rattle.std.proofs.lemmas.Int.{ints}
use Rattle.record_stamp.specs.WordText.{reading_line}
use Rattle.record_stamp.proofs.text.push_reading.Goals as goal

pub returns : goal.returns
unfolding reading_line
returns c =
    let same : to_z w64 (of_z w64 c.args.late) ≡ c.args.late = omega (arith, ints) in
    let zone : to_z w16 (of_z w16 c.args.minutes) ≡ c.args.minutes = omega (arith, ints) in
    let call = c.push_reading_between in
    subst (λ (late : ℤ). OnOk call.result (string_bytes call.new.text ≡ string_bytes c.args.text.now ++ reading_line c.args.within c.args.minutes late))
    same
    (subst (λ (minutes : ℤ). OnOk call.result (string_bytes call.new.text ≡ string_bytes c.args.text.now ++ reading_line c.args.within minutes (to_z w64 (of_z w64 c.args.late))))
    zone call.ensures)
