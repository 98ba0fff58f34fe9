-- What is said of a pulse that is as wide as no symbol does not matter.
use Rattle.std.proofs.Common.{◌≡◌, ◌∙◌, ℕ, false, refl, sym, ap, inl, inr}
use Rattle.irig_frame.specs.declared.symbol.Symbol.{Symbol}
use Rattle.irig_frame.specs.declared.symbol.Symbol.TheVariants.{Zero, One, Marker, Bad}
use Rattle.irig_frame.specs.Symbols.{symbol_of}
use Rattle.irig_lives.specs.Decided.{is_same}
use Rattle.irig_witness.specs.Witness.{IsSaidOf}

pub never_bad : (s : Symbol) → ¬ (s ≡ Bad) → is_same Bad s ≡ false
unfolding is_same
never_bad Zero good = refl
never_bad One good = refl
never_bad Marker good = refl
never_bad Bad good = absurd (good refl)

-- a pulse that is bad is the same as neither
pub bad_either : (pulse one other : Symbol) → pulse ≡ Bad → ¬ (one ≡ Bad) → ¬ (other ≡ Bad) → is_same pulse one ≡ is_same pulse other
bad_either pulse one other bad good good' = rw bad (never_bad one good ∙ sym (never_bad other good'))

pub said_same : (line : ℕ → Symbol) (element width : ℕ) (said : Symbol) → IsSaidOf line element width said → is_same (symbol_of width) said ≡ is_same (symbol_of width) (line element)
said_same line element width said (inl same) = ap (λ (s : Symbol). is_same (symbol_of width) s) same
said_same line element width said (inr h) = bad_either (symbol_of width) said (line element) h.0 h.1 h.2
