-- The ports that carried a vote, one after another.
use Rattle.std.proofs.Common.{◌≡◌, ℕ, suc, ◌+◌, Bool, true, false, List, [], ◌++◌, refl, sym, ap, ◌∙◌, append-nil, arith}
use Rattle.std.specs.Prelude.{not, ◌&&◌}
use Rattle.report_found.specs.declared.finding.Basis.{Basis}
use Rattle.report_found.specs.Findings.{lists_below, is_carrier_in}
use Rattle.report_blame.specs.Text.{none_below, numbered, carrier_text}
use Rattle.report_found.proofs.GrowLaws.{list_more}

and_false : (b : Bool) → (b && false) ≡ false
and_false true = refl
and_false false = refl

and_true : (b : Bool) → (b && true) ≡ b
and_true true = refl
and_true false = refl

none_more : (g : Basis) (n : ℕ) → none_below g (n + 1) ≡ (none_below g n && not (is_carrier_in g n))
none_more g n = let next : n + 1 ≡ suc n = omega arith in ap (none_below g) next

-- one that carried it is written
pub carrier_written : (lines : List ℕ) (g : Basis) (n : ℕ) (b0 b1 b2 : List ℕ) (first : Bool) → is_carrier_in g n ≡ true → first ≡ none_below g n
    → b1 ≡ b0 ++ lists_below (carrier_text lines g) n → b2 ≡ b1 ++ numbered lines first n
    → (false ≡ none_below g (n + 1)) × (b2 ≡ b0 ++ lists_below (carrier_text lines g) (n + 1))
carrier_written lines g n b0 b1 b2 first is was text grew =
    let here : carrier_text lines g n ≡ numbered lines (none_below g n) n = rw is refl in
    (sym (none_more g n ∙ ap (λ b. none_below g n && not b) is ∙ and_false (none_below g n)), list_more (carrier_text lines g) n b0 b1 b2 (numbered lines first n) text grew (ap (λ b. numbered lines b n) was ∙ sym here))

-- another is not
pub other_passed : (lines : List ℕ) (g : Basis) (n : ℕ) (b0 b1 : List ℕ) (first : Bool) → is_carrier_in g n ≡ false → first ≡ none_below g n
    → b1 ≡ b0 ++ lists_below (carrier_text lines g) n
    → (first ≡ none_below g (n + 1)) × (b1 ≡ b0 ++ lists_below (carrier_text lines g) (n + 1))
other_passed lines g n b0 b1 first is was text =
    let here : carrier_text lines g n ≡ [] = rw is refl in
    (was ∙ sym (none_more g n ∙ ap (λ b. none_below g n && not b) is ∙ and_true (none_below g n)), list_more (carrier_text lines g) n b0 b1 b1 [] text (sym (append-nil b1)) (sym here))
