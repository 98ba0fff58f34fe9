use Rattle.std.proofs.Common.{◌≡◌, ◌++◌, ℤ, OnOk, string_bytes, subst, to_z, of_z, w64, arith}
use Rattle.std.proofs.lemmas.Int.{ints}
use Rattle.record_stamp.specs.WordText.{other_date_line}
use Rattle.record_stamp.proofs.text.push_exchanged_line.Goals as goal

pub returns : goal.returns
unfolding other_date_line
returns c =
    let same : to_z w64 (of_z w64 c.args.late) ≡ c.args.late = omega (arith, ints) in
    subst (λ (late : ℤ). OnOk c.push_off_between.result (string_bytes c.push_off_between.new.text ≡ string_bytes c.args.text.now ++ other_date_line c.args.within late))
    same c.push_off_between.ensures
