use Rattle.std.proofs.Common.{◌≡◌, ◌∙◌, ◌++◌, ℕ, List, OnOk, ap, subst}
use Rattle.std.specs.Prelude.{codes, string_bytes}
use Rattle.std.proofs.lemmas.List.{append_assoc}
use Rattle.report_verdict.specs.VerdictText.{contradict_words, jumps_more, moment_after}
use Rattle.report_verdict.proofs.text.push_jump.Goals as goal

pub returns : goal.returns
returns c =
    let old = string_bytes c.args.text.now in
    let front = moment_after (contradict_words c.args.lines) c.args.jump.now.before in
    let middle = moment_after (codes " is followed by ") c.args.jump.now.after in
    let end = jumps_more c.args.count in
    let one : string_bytes c.push_moment_after.new.text ≡ old ++ front =
    c.in_ok-push_moment_after.ensures ∙ ap (λ (w : List ℕ). old ++ moment_after w c.args.jump.now.before) c.contradict_words.ensures in
    let two : string_bytes c.push_moment_after-2.new.text ≡ (old ++ front) ++ middle =
    c.in_ok-push_moment_after-2.ensures ∙ ap (λ (bs : List ℕ). bs ++ middle) one in
    let whole : string_bytes c.push_moment_after-2.new.text ++ end ≡ old ++ (front ++ (middle ++ end)) =
    ap (λ (bs : List ℕ). bs ++ end) two ∙ append_assoc (old ++ front) middle end ∙ append_assoc old front (middle ++ end) in
    subst (λ (bs : List ℕ). OnOk c.push_count_of_jumps.result (string_bytes c.push_count_of_jumps.new.text ≡ bs)) whole c.push_count_of_jumps.ensures
