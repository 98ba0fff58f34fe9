-- The loop over the widths of a line, by what it has and what is left.
use Rattle.std.proofs.Common.{◌≡◌, ℕ, List, [], ◌∷◌, ◌++◌, Option, Some, None, option_map, refl, sym, ap, ◌∙◌, ◌+◌, ◌<◌, length, take, slice_set, append-nil}
use Rattle.std.proofs.lemmas.List.{append_assoc, take_more_set}
use Rattle.json.specs.Token.{Token}
use Rattle.scenario_line.specs.PlainLine.{width_of, with_width, plain_widths}

-- widths before others, and what follows these
abbrev pub after : List ℕ → Option (List ℕ × List Token) → Option (List ℕ × List Token)
after front more = option_map (λ p. (front ++ p.0, p.1)) more

pub after_none : (more : Option (List ℕ × List Token)) → more ≡ after [] more
after_none None = refl
after_none (Some p) = refl

pushed : (front : List ℕ) (n : ℕ) (more : Option (List ℕ × List Token)) → after front (with_width (Some n) more) ≡ after (front ++ n ∷ []) more
pushed front n None = refl
pushed front n (Some p) = ap (λ ns. Some (ns, p.1)) (sym (append_assoc front (n ∷ []) p.0))

pub one_more : (front : List ℕ) (text : List ℕ) (n : ℕ) (ts : List Token) → width_of text ≡ Some n → after front (plain_widths (Token.number text ∷ ts)) ≡ after (front ++ n ∷ []) (plain_widths ts)
unfolding plain_widths
one_more front text n ts e = ap (λ o. after front (with_width o (plain_widths ts))) e ∙ pushed front n (plain_widths ts)

pub taken : (initial ts r : List Token) (widths : List ℕ) (count n : ℕ) (text : List ℕ)
    → plain_widths initial ≡ after (take count widths) (plain_widths ts) → ts ≡ Token.number text ∷ r → width_of text ≡ Some n → count < length widths
    → plain_widths initial ≡ after (take (count + 1) (slice_set widths count n)) (plain_widths r)
taken initial ts r widths count n text so_far next is within =
    so_far
    ∙ ap (λ ts. after (take count widths) (plain_widths ts)) next
    ∙ one_more (take count widths) text n r is
    ∙ ap (λ ns. after ns (plain_widths r)) (sym (take_more_set widths count n within))

pub ended : (initial ts r : List Token) (front : List ℕ) → plain_widths initial ≡ after front (plain_widths ts) → ts ≡ Token.end_array ∷ r → plain_widths initial ≡ Some (front, r)
unfolding plain_widths
ended initial ts r front so_far next =
    so_far ∙ ap (λ ts. after front (plain_widths ts)) next ∙ ap (λ ns. Some (ns, r)) (append-nil front)
