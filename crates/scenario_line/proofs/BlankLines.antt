-- A blank line says nothing: it is no JSON.
use Rattle.std.proofs.Common.{◌≡◌, ℕ, Bool, true, false, ◌||◌, ◌==◌, cond, List, [], ◌∷◌, None, Ok, Err, refl, ap, ◌∙◌, rules, inl, inr}
use Rattle.std.specs.Prelude.{option_and_then}
use Rattle.std.specs.List.{list_all}
use Rattle.std.specs.Str.{is_utf8}
use Rattle.std.proofs.lemmas.Bool.{cases_Bool, and_parts, or_cases}
use Rattle.json.specs.Lex.{lex, between, tokens, punctuate, fresh}
use Rattle.json.specs.Json.{value, if_last}
use Rattle.serde_json.specs.Read.{of_json, max_depth, read}
use Rattle.text_faults.specs.declared.refusal.Refusal.TheVariants as refusal
use Rattle.scenario_json.specs.Json.{json_of}
use Rattle.scenario_line.specs.declared.event_line.Command.{Command}
use Rattle.scenario_line.specs.EventLine.{command_in_line}
use Rattle.scenario_line.specs.PlantLine.{Plan, plan_in_line}

-- blanks, tabs and carriage returns alone
abbrev is_blank : List ℕ → Bool
is_blank line = list_all (λ b. b == 32 || b == 9 || b == 13) line

blank_lex : (l : List ℕ) → is_blank l ≡ true → lex between l ≡ []
unfolding lex
blank_lex [] h = refl
blank_lex (b ∷ bs) h =
    let parts = and_parts (b == 32 || b == 9 || b == 13) (is_blank bs) h in
    let rest = blank_lex bs parts.1 in
    elim (or_cases (b == 32 || b == 9) (b == 13) parts.0) [
      | inl other ↦ elim (or_cases (b == 32) (b == 9) other) [
        | inl blank ↦ let same : b ≡ 32 = search rules in rw same rest
        | inr tab ↦ let same : b ≡ 9 = search rules in rw same rest
      ]
      | inr end ↦ let same : b ≡ 13 = search rules in rw same rest
    ]

blank_tokens : (l : List ℕ) → is_blank l ≡ true → tokens l ≡ []
unfolding punctuate
blank_tokens l h = ap (punctuate fresh) (blank_lex l h)

no_value : value max_depth [] ≡ None
unfolding value
no_value = refl

blank_read : (l : List ℕ) → is_blank l ≡ true → read l ≡ None
blank_read l h =
    ap (λ ts. option_and_then of_json (option_and_then (λ p. if_last p.0 p.1) (value max_depth ts))) (blank_tokens l h)
    ∙ ap (λ o. option_and_then of_json (option_and_then (λ p. if_last p.0 p.1) o)) no_value

pub blank_json : (l : List ℕ) → is_blank l ≡ true → json_of l ≡ None
unfolding json_of
blank_json l h = elim (is_utf8 l) as (λ b. cond b (read l) None ≡ None) [ true ↦ blank_read l h | false ↦ refl ]

-- it is no plant line and no command
pub plant_not_blank : (l : List ℕ) (plan : Plan) → plan_in_line l ≡ Ok plan → is_blank l ≡ false
unfolding plan_in_line
plant_not_blank l plan h = elim (cases_Bool (is_blank l)) [
  | inl blank ↦ let none : Err refusal.Json ≡ Ok plan = rw (blank_json l blank) at h in absurd cc
  | inr said ↦ said
]

pub command_not_blank : (names : List (List ℕ)) (l : List ℕ) (c : Command) → command_in_line names l ≡ Ok c → is_blank l ≡ false
unfolding command_in_line
command_not_blank names l c h = elim (cases_Bool (is_blank l)) [
  | inl blank ↦ let none : Err refusal.Json ≡ Ok c = rw (blank_json l blank) at h in absurd cc
  | inr said ↦ said
]
