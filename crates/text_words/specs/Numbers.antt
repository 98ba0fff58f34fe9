-- What is said of a number.
-- Source: docs/FAULTS.md.
use Rattle.std.specs.Prelude.{ℕ, List, ◌≡◌, ◌++◌, Option, Some, None, false, codes}
use Rattle.std.specs.Fmt.{decimal}
use Rattle.text_faults.specs.declared.meaning.Meaning.{Meaning}
use Rattle.text_faults.specs.declared.refusal.Refusal.{Refusal}
use Rattle.text_faults.specs.Numbers.{is_number}
use Rattle.text_faults.specs.Refusals.{number_of, name_of}

-- a meaning: its name, when it comes, a case of it, and what to do, a line each
abbrev pub meaning_text : Meaning → List ℕ
meaning_text m =
    m.name.now ++ (codes "\n" ++ (m.cause.now ++ (codes "\nfor example: " ++ (m.example.now
    ++ (codes "\nwhat to do:  " ++ (m.cure.now ++ codes "\n"))))))

-- the number, and a meaning; of a refusal's number one with its name
pub record IsOfNumber (n : ℕ) (text : List ℕ) : Type 0 where
  pub meaning : Meaning
  pub name : (refusal : Refusal) → number_of refusal ≡ n → meaning.name.now ≡ name_of refusal
  pub told : text ≡ decimal n ++ (codes " " ++ meaning_text meaning)

-- a number from 1 to 37 is explained so, and no other is
abbrev pub IsExplained : ℕ → Option (List ℕ) → Type 0
IsExplained n None = is_number n ≡ false
IsExplained n (Some text) = IsOfNumber n text
