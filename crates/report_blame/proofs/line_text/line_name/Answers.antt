use Rattle.std.proofs.Common.{◌≡◌, ◌∙◌, ◌<◌, ℕ, List, [], Bor, Option, Some, None, refl, ap, arith}
use Rattle.std.specs.Prelude.{◌==◌, slice_get, unwrap_or}
use Rattle.std.specs.List.{slice_split}
use Rattle.std.specs.Option.{option_map}
use Rattle.std.proofs.lemmas.Iterator.Splits.{YieldsList-from_str_split}
use Rattle.std.proofs.lemmas.Iterator.Consumers.{nth_from_yields_List}
use Rattle.report_blame.proofs.line_text.line_name.Goals as goal

now_or : (o : Option (Bor (List ℕ))) (d : Bor (List ℕ)) → d.now ≡ [] → (unwrap_or o d).now ≡ unwrap_or (option_map (λ (x : Bor (List ℕ)). x.now) o) []
now_or None d none = none
now_or (Some x) d none = refl

pub returns : goal.returns
returns c =
    let lines = c.args.lines.now in
    let ascii : 44 < 128 = omega arith in
    let pieces = YieldsList-from_str_split 44 lines ascii c.split.ensures.text c.split.ensures.has_more c.split.ensures.pattern in
    ap (λ (x : Bor (List ℕ)). x.now) c.unwrap_or.ensures
    ∙ now_or c.nth.result _ refl
    ∙ ap (λ o. unwrap_or o []) (nth_from_yields_List c.nth.result _ c.from.result c.nth.ensures.ran pieces)
    ∙ ap (λ n. unwrap_or (slice_get (slice_split (λ b. b == 44) lines) n) []) c.from.ensures
