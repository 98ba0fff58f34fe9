-- The open stretches after an agreed second.
use Rattle.std.proofs.Common.{◌≡◌, ℕ, zero, suc, ◌<◌, true, false, List, [], ◌∷◌, Option, Some, None, refl, sym, subst, inl, inr, arith}
use Rattle.std.specs.Prelude.{IfSome}
use Rattle.std.proofs.lemmas.Bool.{and_parts, cases_Bool}
use Rattle.irig_time.specs.declared.claim.Claim.{Claim}
use Rattle.record_lines.specs.declared.second.RecordedSecond.{RecordedSecond}
use Rattle.report_log.specs.Offsets.{same_offset}
use Rattle.record_verdict.specs.declared.ended.Unended.{Unended}
use Rattle.record_verdict.specs.declared.stretch.AgreedSecond.{AgreedSecond}
use Rattle.record_verdict.specs.declared.stretch.Stretch.{Stretch}
use Rattle.record_verdict.specs.declared.tale.Kind.{Kind}
use Rattle.record_verdict.specs.declared.tale.Kind.TheVariants.{Agreed, AnotherSecond, AnotherMark, Late, Early, Faulty, Poor, Silent}
use Rattle.record_verdict.specs.declared.tale.Tale.{Tale}
use Rattle.record_verdict.specs.declared.tales.Tales.{Tales}
use Rattle.record_verdict.specs.Ended.{unended_after}
use Rattle.record_verdict.specs.Lines.{tales_of}
use Rattle.record_verdict.specs.Naming.{Names, SaysOf, tale_in, unended_in}
use Rattle.record_verdict.specs.Stretches.{begun, stretch_after, stretch_past, turns_late}
use Rattle.record_verdict.specs.Tales.{goes_on, kind_of, offset_of, same_kind}
use Rattle.record_verdict.specs.Verdicts.{agreed_second, unended_by, unended_of}

same_self : (k : Kind) → same_kind k k ≡ true
same_self Agreed = refl
same_self AnotherSecond = refl
same_self AnotherMark = refl
same_self Late = refl
same_self Early = refl
same_self Faulty = refl
same_self Poor = refl
same_self Silent = refl

is_agreed : (k : Kind) → same_kind k Agreed ≡ true → k ≡ Agreed
is_agreed Agreed e = refl
is_agreed AnotherSecond e = search e
is_agreed AnotherMark e = search e
is_agreed Late e = search e
is_agreed Early e = search e
is_agreed Faulty e = search e
is_agreed Poor e = search e
is_agreed Silent e = search e

-- an open stretch, if there is one, is of this line
abbrev pub IsOf : ℕ → Option Stretch → Type 0
IsOf line o = IfSome o (λ s. s.line ≡ line)

-- one that is new
new_says : (line : ℕ) (second : AgreedSecond) (tale : Tale) → same_kind (kind_of tale) Agreed ≡ false → SaysOf line second tale (begun line second tale)
new_says line second tale wrong = record { wrong = wrong; of_line = refl; last = refl; same = same_self (kind_of tale) }

past_says : (before : Option Stretch) (line : ℕ) (second : AgreedSecond) (tale : Tale) → IsOf line before → same_kind (kind_of tale) Agreed ≡ false
    → SaysOf line second tale (stretch_past before line second tale)
past_says None line second tale of wrong = new_says line second tale wrong
past_says (Some s) line second tale of wrong = elim (cases_Bool (goes_on s.tale tale)) [
  | inl goes ↦
      let parts = and_parts (same_kind (kind_of s.tale) (kind_of tale)) (same_offset (offset_of s.tale) (offset_of tale)) goes in
      rw goes (record { wrong = wrong; of_line = of; last = refl; same = parts.0 })
  | inr ends ↦ elim (cases_Bool (turns_late s second tale)) [
    | inl late ↦ rw (ends, late) (record { wrong = wrong; of_line = of; last = refl; same = same_self (kind_of tale) })
    | inr other ↦ rw (ends, other) (new_says line second tale wrong)
  ]
]

pub after_names : (before : Option Stretch) (line : ℕ) (second : AgreedSecond) (tale : Tale) → IsOf line before → Names line second tale (stretch_after before line second tale)
after_names before line second tale of = elim (cases_Bool (same_kind (kind_of tale) Agreed)) [
  | inl agreed ↦ rw agreed (is_agreed (kind_of tale) agreed)
  | inr wrong ↦ rw wrong (past_says before line second tale of wrong)
]

-- such an open stretch is of this line
still_of : (line : ℕ) (second : AgreedSecond) (tale : Tale) (o : Option Stretch) → Names line second tale o → IsOf line o
still_of line second tale None names = tt
still_of line second tale (Some s) names = names.of_line

-- so of each of the five
pub five_name : (line : ℕ) → line < 5 → (u : Unended) (second : AgreedSecond) (t : Tales) → IsOf line (unended_in line u) → Names line second (tale_in line t) (unended_in line (unended_after u second t))
five_name zero low u second t of = after_names u.a 0 second t.a of
five_name (suc zero) low u second t of = after_names u.b 1 second t.b of
five_name (suc (suc zero)) low u second t of = after_names u.c 2 second t.c of
five_name (suc (suc (suc zero))) low u second t of = after_names u.d 3 second t.d of
five_name (suc (suc (suc (suc zero)))) low u second t of = after_names u.e 4 second t.e of
five_name (suc (suc (suc (suc (suc line))))) low u second t of = absurd (omega (arith, low))

none_of : (line : ℕ) → line < 5 → (n : ℕ) → IsOf line (unended_in line (unended_of n []))
none_of zero low n = tt
none_of (suc zero) low n = tt
none_of (suc (suc zero)) low n = tt
none_of (suc (suc (suc zero))) low n = tt
none_of (suc (suc (suc (suc zero)))) low n = tt
none_of (suc (suc (suc (suc (suc line))))) low n = absurd (omega (arith, low))

of_line_by : (line : ℕ) → line < 5 → (n : ℕ) (u : Unended) (s : RecordedSecond) (vote : Option Claim) → IsOf line (unended_in line u) → IsOf line (unended_in line (unended_by n u s vote))
of_line_by line low n u s None of = of
of_line_by line low n u s (Some claim) of =
    still_of line (agreed_second s claim) (tale_in line (tales_of n claim s)) (unended_in line (unended_after u (agreed_second s claim) (tales_of n claim s)))
    (five_name line low u (agreed_second s claim) (tales_of n claim s) of)

of_line : (line : ℕ) → line < 5 → (n : ℕ) (ss : List RecordedSecond) → IsOf line (unended_in line (unended_of n ss))
of_line line low n [] = none_of line low n
of_line line low n (s ∷ ss) = of_line_by line low n (unended_of n ss) s s.vote (of_line line low n ss)

pub named : (n line : ℕ) (s : RecordedSecond) (before : List RecordedSecond) (claim : Claim) → line < 5 → s.vote ≡ Some claim
    → Names line (agreed_second s claim) (tale_in line (tales_of n claim s)) (unended_in line (unended_of n (s ∷ before)))
named n line s before claim low e =
    subst (λ vote. Names line (agreed_second s claim) (tale_in line (tales_of n claim s)) (unended_in line (unended_by n (unended_of n before) s vote))) (sym e)
    (five_name line low (unended_of n before) (agreed_second s claim) (tales_of n claim s) (of_line line low n before))
