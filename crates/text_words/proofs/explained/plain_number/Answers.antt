use Rattle.std.proofs.Common.{rules, ◌≡◌, Ok}
use Rattle.std.proofs.lemmas.Fmt.{parse-decimal}
use native.Mathlib.Omega.{arith}
use Rattle.text_words.proofs.explained.plain_number.Goals as goal

pub returns : goal.returns
returns c = λ n small same.
    let parsed : c.parse.result ≡ Ok n = parse-decimal 8 n _ _ small (omega (arith, small)) same c.parse.ensures.value.0 in
    search rules
