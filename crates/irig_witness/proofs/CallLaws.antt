-- What an audit says of a device's calls is so.
use Rattle.std.specs.Prelude.{◌==◌, ◌&&◌, nat_lt}
use Rattle.std.proofs.Common.{◌≡◌, ℕ, ◌≤◌, true, false, List, [], ◌∷◌, arith, inl, inr}
use Rattle.std.proofs.lemmas.Bool.{cases_Bool, leb-true}
use Rattle.irig_time.specs.declared.rules.Rules.{Rules}
use Rattle.irig_time.specs.Timelines.{TimelineValue}
use Rattle.irig_lines.specs.Lines.{IsLineOf, IsTrueLately}
use Rattle.irig_lines.specs.Steps.{is_pulse}
use Rattle.irig_timekeeper.specs.Life.{Call, pulses_on, AreTrueAtTicks}
use Rattle.irig_timekeeper.specs.Life.Call.{Hear, Tick}
use Rattle.irig_lives.proofs.DecidedLaws.{both}
use Rattle.irig_witness.specs.Witness.{TrueLines, WereTrueBeside, is_doubted, line_witness, were_true}
use Rattle.irig_witness.proofs.LineLaws.{IsWitnessed, nothing_witnessed, rise_witnessed}

not_before : (now clear : ℕ) → nat_lt now clear ≡ false → clear ≤ now
not_before now clear e = grind (arith, e)

module _ (within : ℕ) (x : TrueLines) where
  line_is : (line : ℕ) (calls : List Call) → IsWitnessed within (x.symbol line) x.edges (line_witness within x line calls) (pulses_on line calls)
  line_is line [] = nothing_witnessed within (x.symbol line) x.edges
  line_is line (Hear port rise width ∷ calls) =
      elim (cases_Bool (line == port && is_pulse width)) [
        | inl here ↦ rw here (rise_witnessed within (x.symbol line) x.edges (line_witness within x line calls) (pulses_on line calls) (line_is line calls) rise width (x.near rise))
        | inr other ↦ rw other (line_is line calls)
      ]
  line_is line (Tick now ∷ calls) = line_is line calls

  module _ (rules : Rules) (t : TimelineValue) (are : (line : ℕ) → IsLineOf rules t (x.symbol line)) where
    line_is_true : (now line : ℕ) (calls : List Call) → is_doubted within x calls now line ≡ false → IsTrueLately within rules t x.edges now (pulses_on line calls)
    line_is_true now line calls e = record {
      line = x.symbol line;
      next = (line_witness within x line calls).next;
      is_line = are line;
      are = (line_is line calls).all now (not_before _ _ e);
    }

    pub true_at_ticks : (f : ℕ) (calls : List Call) → were_true within f x calls ≡ true → AreTrueAtTicks (IsTrueLately within rules t x.edges) f calls
    true_at_ticks f [] e = tt
    true_at_ticks f (Hear port rise width ∷ calls) e = true_at_ticks f calls e
    true_at_ticks f (Tick now ∷ calls) e =
        let a = both _ _ e in (
          record {
            untrue = is_doubted within x calls now;
            few = leb-true _ _ a.0;
            true_lines = λ line less right. line_is_true now line calls right;
          },
          true_at_ticks f calls a.1,
        )

  -- what it says is so, whatever symbols it is compared with
  pub true_beside : (f : ℕ) (calls : List Call) → were_true within f x calls ≡ true → WereTrueBeside within f x calls
  true_beside f [] e = tt
  true_beside f (Hear port rise width ∷ calls) e = true_beside f calls e
  true_beside f (Tick now ∷ calls) e =
      let a = both _ _ e in (
        record {
          untrue = is_doubted within x calls now;
          few = leb-true _ _ a.0;
          true_lines = λ line less right. ((line_witness within x line calls).next, (line_is line calls).all now (not_before _ _ right));
        },
        true_beside f calls a.1,
      )
