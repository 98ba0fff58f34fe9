use Rattle.std.proofs.Common.{◌++◌, ap, ◌∙◌}
use Rattle.text_frame.specs.Reading.{reading_text}
use Rattle.text_frame.proofs.ReadingLaws.{cut_reading}
use Rattle.text_frame.proofs.reading.frame_lines.Goals as goal

pub returns-in-Ok-clause-lines : goal.returns-in-Ok-clause-lines
returns-in-Ok-clause-lines c =
    let kept = c.in_ok-symbols.ensures.ok in record {
      symbols = kept.0;
      shown = kept.1;
      said = c.in-Ok.ensures ∙ ap (λ before. before ++ reading_text c.args.rules c.as_slice.result.now) c.new-lines.ensures.bytes ∙ ap (λ s. reading_text c.args.rules s) (c.as_slice.ensures.value ∙ kept.2) ∙ cut_reading c.args.rules kept.0;
    }
