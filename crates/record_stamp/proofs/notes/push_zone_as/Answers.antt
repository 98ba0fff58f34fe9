use Rattle.std.proofs.Common.{◌≡◌, ◌++◌, ℤ, OnOk, string_bytes, subst, to_z, of_z, w16, arith}
use Rattle.std.proofs.lemmas.Int.{ints}
use Rattle.record_stamp.specs.Notes.{zone_as}
use Rattle.record_stamp.proofs.notes.push_zone_as.Goals as goal

pub returns : goal.returns
unfolding zone_as
returns c =
    let zone : to_z w16 (of_z w16 c.args.minutes) ≡ c.args.minutes = omega (arith, ints) in
    let call = c.push_zone_between in
    subst (λ (minutes : ℤ). OnOk call.result (string_bytes call.new.text ≡ string_bytes c.args.text.now ++ zone_as minutes c.args.end.now)) zone call.ensures
