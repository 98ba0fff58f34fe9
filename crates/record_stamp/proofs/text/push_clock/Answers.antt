use Rattle.std.proofs.Common.{◌≡◌, ap, ◌∙◌, sym, subst, take}
use Rattle.std.specs.Str.{IsAscii}
use Rattle.std.proofs.lemmas.Str.{IsAscii-take}
use Rattle.record_stamp.proofs.text.push_clock.Goals as goal

pub push_ascii-requires : goal.push_ascii-requires
push_ascii-requires c =
    let is : c.split_at.result.0.now ≡ take 19 c.write_text-bytes.result = c.split_at.ensures.front ∙ ap (take 19) c.as_slice.ensures in
    subst IsAscii (sym is) (IsAscii-take c.write_text-bytes.result 19 c.write_text-bytes.ensures.ascii)
