-- What is written of lines that are played, by what is said of the scenes that they leave.
-- Source: docs/OUTPUT.md and docs/SCENARIOS.md.
use Rattle.std.specs.Prelude.{◌≡◌, ℕ, Bool, if◌then◌else◌, List, [], ◌++◌, not, unwrap_or, Option, Some, None}
use Rattle.std.specs.List.{find}
use Rattle.report_log.specs.Text.{refusal_text}
use Rattle.report_run.specs.Lines.{lines, is_blank}
use Rattle.report_run.specs.Meanings.{Language, Refused, Meaning, meaning_of}

-- what is said of the first line; of what happened up to a scene; of what is open where a line is
-- refused; and where the lines end without a refusal
pub record Texts (S : Type 0) : Type 0 where
  pub first : List ℕ → List ℕ
  pub said : S → List ℕ
  pub closing : S → List ℕ
  pub end : S → List ℕ

-- what is said of a scene stays, whatever a further line does
abbrev pub Stays : {S : Type 0} → Language S → Texts S → Type 0
Stays {S} lang t =
    (x : S) (line : List ℕ)
    → (more : List ℕ) × (t.said (lang.next x line).scene ≡ t.said x ++ more)

-- what comes last: what is open, if a line is refused, and else what ends the text
abbrev pub last_of : {S : Type 0} → Texts S → Bool → S → List ℕ
last_of t refused x = if refused then t.closing x else t.end x

-- the first line that is not blank
abbrev pub first_of : List (List ℕ) → List ℕ
first_of ls = unwrap_or (find (λ line. not (is_blank line)) ls) []

-- what is said of the first line and up to a scene; nothing before there is one
abbrev pub text_of : {S : Type 0} → Texts S → List ℕ → Option S → List ℕ
text_of t first None = []
text_of t first (Some x) = t.first first ++ t.said x

-- of what is open
abbrev pub closing_of : {S : Type 0} → Texts S → Option S → List ℕ
closing_of t None = []
closing_of t (Some x) = t.closing x

-- at the end of the lines
abbrev pub end_of : {S : Type 0} → Texts S → Option S → List ℕ
end_of t None = []
end_of t (Some x) = t.end x

-- what comes last: what is open and the refusal, if a line was refused
abbrev pub ending_of : {S : Type 0} → Texts S → Option Refused → Option S → List ℕ
ending_of t (Some k) at = closing_of t at ++ refusal_text k.line k.refusal
ending_of t None at = end_of t at

-- all that is said of what lines mean, the first of which is this
abbrev pub meaning_text : {S : Type 0} → Texts S → List ℕ → Meaning S → List ℕ
meaning_text t first m = text_of t first m.scene ++ ending_of t m.refused m.scene

-- all that is written for the bytes x
abbrev pub whole_text : {S : Type 0} → Language S → Texts S → List ℕ → List ℕ
whole_text lang t x = meaning_text t (first_of (lines x)) (meaning_of lang x)
