-- What is past the 101st symbol changes nothing.
use Rattle.std.proofs.Common.{◌≡◌, ℕ, ◌+◌, ◌<◌, List, [], ◌∷◌, ◌++◌, length, take, get_or, sym, ◌∙◌, inl, inr, arith, ap, nat_lt, length-append, append_assoc}
use Rattle.std.specs.Prelude.{if◌then◌else◌}
use Rattle.std.proofs.lemmas.List.{take_all, take-append-le, take_more, length-take-le, map-append}
use Rattle.std.proofs.lemmas.Bool.{cases_lt, cond_below, cond_above}
use Rattle.irig_frame.specs.declared.symbol.Symbol.{Symbol}
use Rattle.irig_frame.specs.Symbols.{symbol_of}
use Rattle.irig_time.specs.declared.rules.Rules.{Rules}
use Rattle.irig_port.specs.Heard.{with_symbol, symbols_of, symbols_heard}
use Rattle.irig_port.proofs.ToldLaws.{long_told}
use Rattle.irig_port.specs.Told.{told_of, told_of_widths}

pub told_of-heard : (rules : Rules) (ws : List ℕ) → told_of rules (symbols_heard ws) ≡ told_of_widths rules ws
told_of-heard rules ws =
    elim (cases_lt (length (symbols_of ws)) 101) [
      | inl h ↦ rw (take_all 101 (symbols_of ws) (omega arith))
      | inr h ↦
          let l : length (symbols_heard ws) ≡ 101 = length-take-le 101 (symbols_of ws) h in
          long_told rules (symbols_heard ws) (omega arith) ∙ sym (long_told rules (symbols_of ws) (omega arith))
    ]

-- one more, if n are kept
take-push : (n : ℕ) (s : List Symbol) (x : Symbol) → take n (s ++ x ∷ []) ≡ (if nat_lt (length (take n s)) n then take n s ++ x ∷ [] else take n s)
take-push n s x =
    elim (cases_lt (length s) n) [
      | inl h ↦
          rw (take_all n s (omega arith), take_all n (s ++ x ∷ []) (omega (arith, length-append s (x ∷ []))))
          (cond_below (length s) n _ _ h)
      | inr h ↦
          let l : length (take n s) ≡ n = length-take-le n s h in
          cond_above (length (take n s)) n _ _ _ (omega arith) (take-append-le n s (x ∷ []) h)
    ]

pub heard-push : (ws : List ℕ) (w : ℕ) → symbols_heard (ws ++ w ∷ []) ≡ with_symbol (symbols_heard ws) (symbol_of w)
heard-push ws w = ap (take 101) (map-append symbol_of ws (w ∷ [])) ∙ take-push 101 (symbols_of ws) (symbol_of w)

-- one more of a list of widths
pub heard-more : (w ws : List ℕ) (i : ℕ) → i < length ws
    → symbols_heard (w ++ take (i + 1) ws) ≡ with_symbol (symbols_heard (w ++ take i ws)) (symbol_of (get_or ws i 0))
heard-more w ws i h =
    ap (λ (rest : List ℕ). symbols_heard (w ++ rest)) (take_more ws i 0 h)
    ∙ (ap symbols_heard (sym (append_assoc w (take i ws) (get_or ws i 0 ∷ []))) ∙ heard-push (w ++ take i ws) (get_or ws i 0))
