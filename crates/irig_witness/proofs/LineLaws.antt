-- What an audit knows of a line is so.
use Rattle.std.specs.Prelude.{nat_le, max}
use Rattle.std.proofs.Common.{ℕ, ◌+◌, ◌≤◌, List, [], ◌∷◌, arith, inl, inr}
use Rattle.std.proofs.lemmas.Bool.{cases_Bool, leb-true}
use Rattle.irig_frame.specs.declared.symbol.Symbol.{Symbol}
use Rattle.irig_sync.specs.Lines.{Pulse, pulse_at}
use Rattle.irig_sync.specs.FaultyLines.{IsPulseOf}
use Rattle.irig_lines.specs.Lines.{ArePulsesLately}
use Rattle.irig_lives.specs.Decided.{is_pulse_of}
use Rattle.irig_lives.proofs.DecidedLaws.{pulse_is, lower}
use Rattle.irig_witness.specs.declared.line.LineWitness.{LineWitness}
use Rattle.irig_witness.specs.Witness.{new_witness, forgets, after_false, after_true, after_rise}

max_left : (a b n : ℕ) → max a b ≤ n → a ≤ n
max_left a b n h = omega (arith, h)

max_right : (a b n : ℕ) → max a b ≤ n → b ≤ n
max_right a b n h = omega (arith, h)

module _ (within : ℕ) (line : ℕ → Symbol) (edges : ℕ → ℕ) where
  -- it is untrue at ticks before `clear` alone
  pub record IsWitnessed (a : LineWitness) (ps : List Pulse) : Type 0 where
    pub all : (now : ℕ) → a.clear ≤ now → ArePulsesLately within line edges now a.next ps
    pub but_last : (now : ℕ) → a.clear ≤ now → a.again ≤ now → ArePulsesLately within line edges now a.before ps

  pub nothing_witnessed : IsWitnessed new_witness []
  nothing_witnessed = record { all = λ now h. tt; but_last = λ now h k. tt }

  module _ (a : LineWitness) (ps : List Pulse) (w : IsWitnessed a ps) (rise width : ℕ) where
    false_witnessed : IsWitnessed (after_false a rise) (pulse_at rise width ∷ ps)
    false_witnessed = record {
      all = λ now h. inl (omega (arith, max_right _ _ _ h), w.all now (max_left _ _ _ h));
      but_last = λ now h k. inl (omega (arith, max_right _ _ _ h), w.but_last now (max_left _ _ _ h) k);
    }

    next_witnessed : (j : ℕ) → IsPulseOf line edges within j (pulse_at rise width) → a.next ≤ j
        → IsWitnessed (record { next = j + 1; before = j; clear = a.clear; again = forgets rise; rise = rise }) (pulse_at rise width ∷ ps)
    next_witnessed j is less = record {
      all = λ now h. inr (j, omega arith, is, lower within line edges now a.next j ps less (w.all now h));
      but_last = λ now h k. inl (omega (arith, k), lower within line edges now a.next j ps less (w.all now h));
    }

    second_witnessed : (j : ℕ) → IsPulseOf line edges within j (pulse_at rise width) → a.before ≤ j
        → IsWitnessed (record { next = j + 1; before = j; clear = max a.clear a.again; again = forgets rise; rise = rise }) (pulse_at rise width ∷ ps)
    second_witnessed j is less = record {
      all = λ now h. inr (j, omega arith, is, lower within line edges now a.before j ps less (w.but_last now (max_left _ _ _ h) (max_right _ _ _ h)));
      but_last = λ now h k. inl (omega (arith, k), lower within line edges now a.before j ps less (w.but_last now (max_left _ _ _ h) (max_right _ _ _ h)));
    }

    true_witnessed : (j : ℕ) → IsPulseOf line edges within j (pulse_at rise width) → IsWitnessed (after_true a j rise) (pulse_at rise width ∷ ps)
    true_witnessed j is =
        elim (cases_Bool (nat_le a.next j)) [
          | inl fits ↦ rw fits (next_witnessed j is (leb-true _ _ fits))
          | inr not ↦ rw not (elim (cases_Bool (nat_le a.before j)) [
            | inl fits ↦ rw fits (second_witnessed j is (leb-true _ _ fits))
            | inr not ↦ rw not false_witnessed
          ])
        ]

    pub rise_witnessed : (j : ℕ) → IsWitnessed (after_rise within line edges a j rise width) (pulse_at rise width ∷ ps)
    rise_witnessed j =
        elim (cases_Bool (is_pulse_of within line edges j (pulse_at rise width))) [
          | inl fits ↦ rw fits (true_witnessed j (pulse_is within line edges j (pulse_at rise width) fits))
          | inr not ↦ rw not false_witnessed
        ]
