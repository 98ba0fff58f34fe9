use Rattle.std.proofs.Common.{rules, ◌≡◌, ◌∷◌, [], Ok, IsUtf8, codes, sym, ap, ◌∙◌}
use Rattle.json.specs.Lex.{tokens}
use Rattle.json.specs.Token.{end_object}
use Rattle.scenario_json.specs.Keys.{texts_of}
use Rattle.scenario_line.specs.PlainLine.{Gives, command_of_tokens, do_and}
use Rattle.scenario_line.proofs.PlainLaws.{line_is}
use Rattle.scenario_line.proofs.plain_line.PlainReader.command_of_line.Goals as goal

pub returns-then-eq : goal.returns-then-eq
returns-then-eq c =
    let names = texts_of c.args.names.now.keys in
    let text : (c.in_ok-text.text.now ≡ c.args.line.now) × IsUtf8 c.args.line.now = search rules in
    let lexed : c.in_ok-reader.reader ≡ tokens c.in_ok-text.text.now = search rules in
    let begun : c.in_ok-reader.reader ≡ do_and c.in_ok-word.word.now c.word_in.new.reader = search rules in
    let raw : c.in_ok-word.word.now ≡ codes "raw" = search rules in
    let all : tokens c.args.line.now ≡ do_and (codes "raw") c.word_in.new.reader = ap tokens (sym text.0) ∙ sym lexed ∙ begun ∙ ap (λ word. do_and word c.word_in.new.reader) raw in
    let said : command_of_tokens names (do_and (codes "raw") c.word_in.new.reader) ≡ Ok c.in_ok-raw_in.field-0 = search rules in
    line_is names c.args.line.now c.in_ok-raw_in.field-0 text.1 (ap (command_of_tokens names) all ∙ said)

pub returns-then-is_end : goal.returns-then-is_end
returns-then-is_end c =
    let names = texts_of c.args.names.now.keys in
    let text : (c.in_ok-text.text.now ≡ c.args.line.now) × IsUtf8 c.args.line.now = search rules in
    let lexed : c.in_ok-reader.reader ≡ tokens c.in_ok-text.text.now = search rules in
    let begun : c.in_ok-reader.reader ≡ do_and c.in_ok-word.word.now c.word_in.new.reader = search rules in
    let all : tokens c.args.line.now ≡ do_and c.in_ok-word.word.now c.word_in.new.reader = ap tokens (sym text.0) ∙ sym lexed ∙ begun in
    let given : Gives names c.in_ok-word.word.now c.word_in.new.reader c.command_in.new.reader c.in_ok-command.command = search rules in
    let ended : c.command_in.new.reader ≡ end_object ∷ [] = search rules in
    line_is names c.args.line.now c.in_ok-command.command text.1 (ap (command_of_tokens names) all ∙ given ended)
