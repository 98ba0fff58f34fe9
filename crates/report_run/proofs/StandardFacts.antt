-- Known meanings, texts and runs of one of two small languages. The first counts lines, the second bytes.
-- A first line that begins with a 4 chooses the second.
use Rattle.std.proofs.Common.{◌≡◌, ℕ, ◌+◌, ◌-◌, Bool, true, false, List, [], ◌∷◌, ◌++◌, map, length, replicate, Some, None, Ok, Err, refl, sym, ◌∙◌, codes, inl, inr}
use Rattle.std.specs.Prelude.{◌==◌, ◌⊎◌, if◌then◌else◌}
use Rattle.text_faults.specs.declared.refusal.Refusal.TheVariants.{Json, NoPlant}
use Rattle.report_run.specs.declared.fault.SceneFault.TheVariants as fault
use Rattle.report_log.specs.Text.{refusal_text}
use Rattle.report_run.specs.Lines.{lines, first_lines, after_lines}
use Rattle.report_run.specs.Meanings.{Language, step, meaning, refusal_at, meaning_from, meaning_of}
use Rattle.report_run.specs.Texts.{Texts, whole_text}
use Rattle.report_run.specs.Runs.{RunFor}
use Rattle.report_run.specs.declared.either.EitherOutcome.{EitherOutcome}
use Rattle.report_run.specs.declared.either.EitherOutcome.TheVariants.{First, Second}
use Rattle.report_run.specs.Sides.{meaning_as}
use Rattle.report_run.specs.Choice.{either_of, either_texts, EndsForEither}
use Rattle.report_run.specs.Alone.{chooses, AnswersAs}
use Rattle.report_run.proofs.ChoiceLaws.{first_means, second_means, first_runs, second_runs}

-- ---- two languages

abbrev begins_with : ℕ → List ℕ → Bool
begins_with b [] = false
begins_with b (c ∷ cs) = c == b

-- a line that begins with "!" is refused by the first
abbrev counting : Language ℕ
counting = record {
  begin = λ line. if begins_with 33 line then Err Json else Ok 1;
  next = λ n line. if begins_with 33 line then record { scene = n; refusal = Some Json } else record { scene = n + 1; refusal = None };
}

abbrev measuring : Language ℕ
measuring = record {
  begin = λ line. Ok (length line);
  next = λ n line. record { scene = n + length line; refusal = None };
}

-- a dot for each line after the first
abbrev count_texts : Texts ℕ
count_texts = record {
  first = λ line. codes "first\n";
  said = λ n. replicate (n - 1) 46;
  closing = λ n. codes "|";
  end = λ n. codes "\ncounted\n";
}

abbrev measure_texts : Texts ℕ
measure_texts = record {
  first = λ line. line;
  said = λ n. [];
  closing = λ n. [];
  end = λ n. codes "\nmeasured\n";
}

abbrev ends_by : ℕ → ℕ → ℕ → Type 0
ends_by x n o = o ≡ x

abbrev by_four : List ℕ → Bool
by_four = begins_with 52

abbrev both : Language (ℕ ⊎ ℕ)
both = either_of by_four counting measuring

abbrev both_texts : Texts (ℕ ⊎ ℕ)
both_texts = either_texts by_four count_texts measure_texts

-- ---- what is chosen

-- the first line that is not blank chooses, a later one does not, and where there is none the first is
-- chosen
known_choices : map (chooses by_four) (codes "4ab\ncd\n" ∷ codes "\n \n4ab" ∷ codes "ab\n4cd" ∷ codes "\n\n" ∷ [] ∷ []) ≡ true ∷ true ∷ false ∷ false ∷ false ∷ []
unfolding lines
known_choices = refl

-- ---- what lines mean

known_meanings : map (meaning_of both) (codes "\n4ab\n!cd\n" ∷ codes "ab\n4cd" ∷ codes "ab\n!\ncd" ∷ codes "!ab" ∷ codes "4ab" ∷ codes " \n" ∷ [])
    ≡ meaning (Some (inr 6)) None ∷ meaning (Some (inl 2)) None ∷ meaning (Some (inl 1)) (Some (refusal_at 2 Json)) ∷ meaning None (Some (refusal_at 1 Json)) ∷ meaning (Some (inr 3)) None ∷ meaning None (Some (refusal_at 2 NoPlant)) ∷ []
unfolding lines step meaning_from
known_meanings = refl

-- so by the laws these alone mean
counts_alone : meaning_as {T = ℕ ⊎ ℕ} inl (meaning_of counting (codes "ab\n!\ncd")) ≡ meaning (Some (inl 1)) (Some (refusal_at 2 Json))
unfolding lines step meaning_from
counts_alone = sym (first_means by_four counting measuring (codes "ab\n!\ncd") refl) ∙ refl

measures_alone : meaning_as {T = ℕ ⊎ ℕ} inr (meaning_of measuring (codes "\n4ab\n!cd\n")) ≡ meaning (Some (inr 6)) None
unfolding lines step meaning_from
measures_alone = sym (second_means by_four counting measuring (codes "\n4ab\n!cd\n") refl) ∙ refl

-- ---- what is written

known_texts : map (whole_text both both_texts) (codes "\n4ab\n!cd\n" ∷ codes "ab\n4cd\n" ∷ codes "ab\ncd\n!" ∷ [])
    ≡ codes "4ab\nmeasured\n" ∷ codes "first\n.\ncounted\n" ∷ (codes "first\n.|" ++ refusal_text 3 Json) ∷ []
unfolding lines step meaning_from
known_texts = refl

-- ---- runs

-- a run of the second, whose input is read whole
measured : RunFor both (EndsForEither ends_by ends_by) both_texts (Ok (Second 5)) (codes "4ab\ncd\n") (Some (codes "4ab\ncd\n")) (Some []) (Some []) (Some (codes "4ab\nmeasured\n"))
unfolding lines step meaning_from
measured = (refl, record { accepted = refl; scene = inr 5; left = refl; ended = refl }, refl)

measured_alone : AnswersAs {P = EitherOutcome ℕ ℕ} Second (Ok (Second 5)) (λ answer. RunFor measuring ends_by measure_texts answer (codes "4ab\ncd\n") (Some (codes "4ab\ncd\n")) (Some []) (Some []) (Some (codes "4ab\nmeasured\n")))
unfolding lines
measured_alone = second_runs by_four counting measuring count_texts measure_texts ends_by ends_by (Ok (Second 5)) (codes "4ab\ncd\n") (Some (codes "4ab\ncd\n")) (Some []) (Some []) (Some (codes "4ab\nmeasured\n")) refl measured

-- a run of the first, whose third line is refused: the fourth is not read
refused : RunFor both (EndsForEither ends_by ends_by) both_texts (Err (fault.Refused 3 Json)) (codes "ab\ncd\n!\n4") (Some (codes "ab\ncd\n!\n4")) (Some (codes "4")) (Some []) (Some (codes "first\n.|" ++ refusal_text 3 Json))
unfolding lines step meaning_from first_lines after_lines
refused = (refl, refl, refl)

refused_alone : AnswersAs {P = EitherOutcome ℕ ℕ} First (Err (fault.Refused 3 Json)) (λ answer. RunFor counting ends_by count_texts answer (codes "ab\ncd\n!\n4") (Some (codes "ab\ncd\n!\n4")) (Some (codes "4")) (Some []) (Some (codes "first\n.|" ++ refusal_text 3 Json)))
unfolding lines
refused_alone = first_runs by_four counting measuring count_texts measure_texts ends_by ends_by (Err (fault.Refused 3 Json)) (codes "ab\ncd\n!\n4") (Some (codes "ab\ncd\n!\n4")) (Some (codes "4")) (Some []) (Some (codes "first\n.|" ++ refusal_text 3 Json)) refl refused
