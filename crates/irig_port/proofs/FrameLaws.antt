-- The first elements of a frame, none of them wrong, heard at once.
use Rattle.std.proofs.Common.{◌≡◌, ℕ, zero, suc, ◌+◌, ◌-◌, ◌*◌, ◌<◌, ◌≤◌, cond, List, [], ◌∷◌, ◌++◌, length, Option, Some, None, take, get_or, slice_get, refl, sym, ap, ◌∙◌, arith}
use Rattle.std.specs.Option.{option_or, option_map}
use Rattle.std.proofs.Math.Pow.{pow_mono}
use Rattle.std.proofs.lemmas.List.{take_all, take_more, length-take-le, length-map, map-append}
use Rattle.std.proofs.lemmas.Option.{slice_get-map, slice_get-get_or, slice_get_past}
use Rattle.irig_frame.specs.declared.fault.FrameFault.{FrameFault}
use Rattle.irig_frame.specs.declared.symbol.Symbol.{Symbol}
use Rattle.irig_frame.specs.Faults.{element_fault, first_wrong}
use Rattle.irig_frame.specs.Symbols.{symbol_of}
use Rattle.irig_frame.specs.Values.{is_one}
use Rattle.irig_port.specs.Heard.{symbols_of, symbols_heard}
use Rattle.irig_port.specs.Bits.{bits_from, time_bits, control_bits, IsOf}
use Rattle.irig_frame.proofs.ReadingLaws.{first_of}
use Rattle.irig_port.proofs.SumLaws.{first_wrong-push}
use Rattle.irig_port.proofs.BitLaws.{bit_of, bits-lt}

-- one element more at the front of the bits
pub bits-down : (ws : List ℕ) (e end : ℕ) → 0 < e → e ≤ end → end ≤ length ws
    → bits_from (e - 1) (end - (e - 1)) (symbols_of ws)
    ≡ 2 * bits_from e (end - e) (symbols_of ws) + cond (is_one (Some (symbol_of (get_or ws (e - 1) 0)))) 1 0
bits-down ws e end some within inside =
    let more : end - (e - 1) ≡ suc (end - e) = omega (arith, some, within) in
    let there : e - 1 + 1 ≡ e = omega (arith, some) in
    let here : slice_get (symbols_of ws) (e - 1) ≡ Some (symbol_of (get_or ws (e - 1) 0)) = slice_get-map symbol_of ws (e - 1) ∙ ap (option_map symbol_of) (slice_get-get_or ws (e - 1) 0 (omega (arith, some, within, inside))) in
    let step : bits_from (e - 1) (suc (end - e)) (symbols_of ws) ≡ cond (is_one (slice_get (symbols_of ws) (e - 1))) 1 0 + 2 * bits_from (e - 1 + 1) (end - e) (symbols_of ws) = refl in
    let moved : bits_from (e - 1 + 1) (end - e) (symbols_of ws) ≡ bits_from e (end - e) (symbols_of ws) = ap (λ (j : ℕ). bits_from j (end - e) (symbols_of ws)) there in
    let bit : ◌≡◌ {A = ℕ} (cond (is_one (slice_get (symbols_of ws) (e - 1))) 1 0) (cond (is_one (Some (symbol_of (get_or ws (e - 1) 0)))) 1 0) = ap (λ (o : Option Symbol). cond {A = ℕ} (is_one o) 1 0) here in
    ap (λ (n : ℕ). bits_from (e - 1) n (symbols_of ws)) more ∙ omega (arith, step, moved, bit)

-- the bits of at most 59 elements leave room for one more
pub bits-few : (s : List Symbol) (e n : ℕ) → n ≤ 59 → bits_from e n s < 576460752303423488
bits-few s e n few = omega (arith, bits-lt e n s, pow_mono few)

-- one element more
wrong-push : (ws : List ℕ) (i : ℕ) → i < length ws
    → first_wrong 0 (symbols_of (take (i + 1) ws)) ≡ option_or (first_wrong 0 (symbols_of (take i ws))) (element_fault i (symbol_of (get_or ws i 0)))
wrong-push ws i h =
    let kept : length (symbols_of (take i ws)) ≡ i = omega (arith, length-take-le i ws (omega (arith, h)), length-map (take i ws) symbol_of) in
    let there : 0 + length (symbols_of (take i ws)) ≡ i = omega (arith, kept) in
    let more : symbols_of (take (i + 1) ws) ≡ symbols_of (take i ws) ++ symbol_of (get_or ws i 0) ∷ [] = ap symbols_of (take_more ws i 0 h) ∙ map-append symbol_of (take i ws) (get_or ws i 0 ∷ []) in
    let step = first_wrong-push 0 (symbols_of (take i ws)) (symbol_of (get_or ws i 0)) in
    ap (first_wrong 0) more ∙ (step ∙ rw there refl)

pub right-push : (ws : List ℕ) (i : ℕ) → i < length ws → first_wrong 0 (symbols_of (take i ws)) ≡ None
    → element_fault i (symbol_of (get_or ws i 0)) ≡ None → first_wrong 0 (symbols_of (take (i + 1) ws)) ≡ None
right-push ws i h before own = wrong-push ws i h ∙ rw before own

pub right-back : (ws : List ℕ) (i : ℕ) → i < length ws → first_wrong 0 (symbols_of (take (i + 1) ws)) ≡ None
    → (first_wrong 0 (symbols_of (take i ws)) ≡ None) × (element_fault i (symbol_of (get_or ws i 0)) ≡ None)
right-back ws i h right =
    first_of (first_wrong 0 (symbols_of (take i ws))) (element_fault i (symbol_of (get_or ws i 0))) (sym (wrong-push ws i h) ∙ right)

-- past the last symbol no bit is set
bits-past : (i n : ℕ) (s : List Symbol) → length s ≤ i → bits_from i n s ≡ 0
bits-past i zero s h = refl
bits-past i (suc n) s h =
    let here : bit_of s i ≡ 0 = rw (slice_get_past s i h) refl in
    omega (arith, here, bits-past (i + 1) n s (omega (arith, h)))

bits-to-end : (k n i : ℕ) (s : List Symbol) → length s ≡ i + k → k ≤ n → bits_from i k s ≡ bits_from i n s
bits-to-end zero n i s ends h = sym (bits-past i n s (omega (arith, ends)))
bits-to-end (suc k) zero i s ends h = absurd (omega (arith, h))
bits-to-end (suc k) (suc n) i s ends h = omega (arith, bits-to-end k n (i + 1) s (omega (arith, ends)) (omega (arith, h)))

-- the numbers of such elements
pub of_right : (s : List Symbol) (n time control : ℕ) (wrong : Option FrameFault) → length s ≡ n → 60 ≤ n → n ≤ 100 → first_wrong 0 s ≡ None
    → wrong ≡ None → time ≡ bits_from 0 60 s → control ≡ bits_from 60 (n - 60) s → IsOf n time control wrong s
unfolding time_bits control_bits
of_right s n time control wrong is_n some few right none timed controlled = record {
  counted = sym is_n;
  few = omega (arith, is_n, few);
  timed = λ _. timed;
  controlled = λ _. controlled ∙ bits-to-end (n - 60) 40 60 s (omega (arith, is_n, some)) (omega (arith, few));
  lowest = λ _. none ∙ sym right;
}

-- nothing was heard before it
pub heard-first : (w ws : List ℕ) → length (symbols_heard w) ≡ 0 → length ws ≤ 100 → symbols_heard (w ++ ws) ≡ symbols_of ws
heard-first [] ws none few = take_all 101 (symbols_of ws) (omega (arith, few, length-map ws symbol_of))
heard-first (x ∷ w) ws none few = absurd (omega (arith, none))
