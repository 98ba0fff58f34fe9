-- Bytes that are read piece by piece, of any form.
use Rattle.std.proofs.Common.{◌≡◌, ℕ, List, [], ◌++◌, take, drop, refl, append_assoc, sym, ap, ◌∙◌, subst}
use Rattle.std.proofs.lemmas.List.{append-nil, take-append-drop}
use Rattle.report_judge.specs.declared.asked.Asked.{Asked}

-- of these bytes all but the rest was read
pub record IsPart {R : Type 0} (Has : Asked → List ℕ → R → Type 0) (old new : R) (bytes rest : List ℕ) : Type 0 where
  pub front : List ℕ
  pub whole : front ++ rest ≡ bytes
  pub reads : (asked : Asked) (text : List ℕ) → Has asked text old → Has asked (text ++ front) new

pub part-nothing : {R : Type 0} (Has : Asked → List ℕ → R → Type 0) (reader : R) (bytes : List ℕ) → IsPart Has reader reader bytes bytes
part-nothing Has reader bytes = record {
  front = [];
  whole = refl;
  reads = λ asked text h. subst (λ t. Has asked t reader) (sym (append-nil text)) h;
}

pub part-on : {R : Type 0} (Has : Asked → List ℕ → R → Type 0) (old here new : R) (bytes rest : List ℕ) (count : ℕ) → IsPart Has old here bytes rest
    → ((asked : Asked) (text : List ℕ) → Has asked text here → Has asked (text ++ take count rest) new)
    → IsPart Has old new bytes (drop count rest)
part-on Has old here new bytes rest count part reads = record {
  front = part.front ++ take count rest;
  whole = append_assoc part.front (take count rest) (drop count rest) ∙ ap (λ l. part.front ++ l) (take-append-drop count rest) ∙ part.whole;
  reads = λ asked text h.
      subst (λ t. Has asked t new) (append_assoc text part.front (take count rest))
      (reads asked (text ++ part.front) (part.reads asked text h));
}

pub part-whole : {R : Type 0} (Has : Asked → List ℕ → R → Type 0) (asked : Asked) (text : List ℕ) (old new : R) (bytes : List ℕ)
    → Has asked text old → IsPart Has old new bytes [] → Has asked (text ++ bytes) new
part-whole Has asked text old new bytes h part =
    subst (λ b. Has asked (text ++ b) new) (sym (append-nil part.front) ∙ part.whole) (part.reads asked text h)

-- a text whose rest is read goes on with all
pub part-text : (text front rest bytes more : List ℕ) → front ++ rest ≡ bytes → (text ++ bytes) ++ more ≡ (text ++ front) ++ (rest ++ more)
part-text text front rest bytes more whole =
    ap (λ b. (text ++ b) ++ more) (sym whole)
    ∙ ap (λ t. t ++ more) (sym (append_assoc text front rest))
    ∙ append_assoc (text ++ front) rest more
