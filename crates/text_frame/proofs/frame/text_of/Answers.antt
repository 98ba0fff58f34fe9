use Rattle.std.proofs.Common.{◌≡◌, ℕ, ◌+◌, ◌*◌, ◌/◌, ◌<◌, Some, slice_get, arith, refl, ap, sym, ◌∙◌, below_more}
use Rattle.std.specs.Prelude.{option_map}
use Rattle.std.proofs.lemmas.List.{length-set, length-replicate, get_or-replicate}
use Rattle.std.proofs.Math.ListN.{replicate}
use Rattle.std.proofs.lemmas.Option.{slice_get-get_or}
use Rattle.irig_frame.specs.declared.symbol.Symbol.TheVariants.{Zero}
use Rattle.irig_frame.specs.Symbols.{letter_of}
use Rattle.irig_frame.proofs.WritingLaws.{get-set_same, get-set_other}
use Rattle.text_frame.proofs.frame.text_of.Goals as goal

get-replicate : (n i x : ℕ) → i < n → slice_get (replicate n x) i ≡ Some x
get-replicate n i x h =
    slice_get-get_or (replicate n x) i x (omega (arith, length-replicate n x, h)) ∙ ap (λ (y : ℕ). Some y) (get_or-replicate n i x x h)

pub loop-place-init : goal.loop-place-init
loop-place-init c = record {
  len = refl;
  letters = λ i h. absurd (omega arith);
  blanks = λ group h. get-replicate 110 (11 * group + 10) 32 (omega arith);
}

pub loop-place-preserved : goal.loop-place-preserved
loop-place-preserved c =
    let s = c.loop-place.text in
    let i = c.loop-place.place in
    let x = c.letter.result in record {
      len = length-set s (i + i / 10) x ∙ c.loop-place.invariant.len;
      letters = below_more _ _
          (λ k h. get-set_other s (i + i / 10) (k + k / 10) x (λ e. omega (arith, e)) ∙ c.loop-place.invariant.letters k h)
          (get-set_same s (i + i / 10) x (omega (arith, c.loop-place.invariant.len))
          ∙ ap (λ (y : ℕ). Some y) c.letter.ensures ∙ sym (ap (λ symbol. option_map letter_of symbol) (slice_get-get_or c.args.frame.now i Zero (omega (arith, c.told-frame)))));
      blanks = λ group h. get-set_other s (i + i / 10) (11 * group + 10) x (λ e. omega (arith, e)) ∙ c.loop-place.invariant.blanks group h;
    }

pub returns : goal.returns
returns c =
    let s = c.loop-place.text in record {
      len = length-set s 109 10 ∙ c.loop-place.invariant.len;
      letters = λ i h. get-set_other s 109 (i + i / 10) 10 (λ e. omega (arith, e)) ∙ c.loop-place.invariant.letters i (omega arith);
      blanks = λ group h. get-set_other s 109 (11 * group + 10) 10 (λ e. omega (arith, e)) ∙ c.loop-place.invariant.blanks group h;
      newline = get-set_same s 109 10 (omega (arith, c.loop-place.invariant.len));
    }
