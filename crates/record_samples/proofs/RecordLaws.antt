-- What calls of the readers say, one after another.
use Rattle.std.proofs.Common.{◌≡◌, ℕ, List, [], ◌∷◌, ◌++◌, Ok, refl, append_assoc, sym, ap, ◌∙◌}
use Rattle.std.proofs.lemmas.List.{append-nil}
use Rattle.record_comtrade.specs.declared.reading.ConfigText.{ConfigText}
use Rattle.record_comtrade.specs.declared.parts.Config.{Config}
use Rattle.record_comtrade.specs.Texts.{config_lines, lines_to_come}
use Rattle.record_comtrade.specs.Configs.{config_of, with_ok}
use Rattle.record_comtrade.specs.Reads.{value_of}
use Rattle.record_comtrade.specs.Data.{said}
use Rattle.record_comtrade.specs.Records.{ArePieces, Piece, bytes_of, text_after}
use Rattle.record_comtrade.proofs.RecordLaws.{pieces_lead}
use Rattle.record_samples.specs.declared.samples.Samples.{Samples}
use Rattle.record_samples.specs.Readers.{to_come}
use Rattle.record_samples.specs.Records.{AreCalls, Call, Chosen, IsSamplesOf, record_of, said_in, samples_after, samples_say, taken_by}

pub calls_lead : (reader : Samples) (calls : List Call) (more : List ℕ) → AreCalls reader calls
    → to_come reader (taken_by calls ++ more) ≡ said_in calls ++ to_come (samples_after reader calls) more
calls_lead reader [] more h = refl
calls_lead reader (call ∷ calls) more h =
    ap (to_come reader) (append_assoc call.taken (taken_by calls) more)
    ∙ h.0 (taken_by calls ++ more)
    ∙ ap (λ l. said call.levels ++ l) (calls_lead call.next calls more h.1)
    ∙ sym (append_assoc (said call.levels) (said_in calls) (to_come (samples_after call.next calls) more))

pub file_says : (first : ConfigText) (pieces : List Piece) (config : Config) (chosen : Chosen) (reader : Samples) (calls : List Call) (more : List ℕ)
    → ((text : List ℕ) → lines_to_come first text ≡ config_lines text) → ArePieces first pieces
    → config_of (lines_to_come (text_after first pieces) []) ≡ Ok (value_of config)
    → IsSamplesOf config chosen reader → AreCalls reader calls
    → record_of chosen (bytes_of pieces) (taken_by calls ++ more) ≡ Ok (said_in calls ++ to_come (samples_after reader calls) more)
file_says first pieces config chosen reader calls more at_top led says is_samples are_calls =
    let lines : config_lines (bytes_of pieces) ≡ lines_to_come (text_after first pieces) [] =
    sym (at_top (bytes_of pieces)) ∙ ap (lines_to_come first) (sym (append-nil (bytes_of pieces))) ∙ pieces_lead first pieces [] led in
    ap (λ l. with_ok (config_of l) (λ config. Ok (samples_say chosen (taken_by calls ++ more) config))) lines
    ∙ ap (λ r. with_ok r (λ config. Ok (samples_say chosen (taken_by calls ++ more) config))) says
    ∙ ap Ok (sym (is_samples (taken_by calls ++ more)) ∙ calls_lead reader calls more are_calls)
