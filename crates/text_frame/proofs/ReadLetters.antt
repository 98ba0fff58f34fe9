-- Reading the letters of a text one by one.
use Rattle.std.proofs.Common.{◌≡◌, ℕ, ◌<◌, ◌≤◌, ◌==◌, not, List, [], ◌∷◌, ◌++◌, length, take, map, All, refl, sym, ap, subst, ◌∙◌, arith, length-append}
use Rattle.std.proofs.lemmas.Bool.{ne_eqb}
use Rattle.std.proofs.lemmas.List.{length-take, map-append, take_all, take-append-le}
use Rattle.std.proofs.lemmas.List.Elements.{All-cons, All-head, All-nil, All-tail, filter-append}
use Rattle.irig_frame.specs.declared.symbol.Symbol.{Symbol}
use Rattle.irig_frame.specs.declared.symbol.Symbol.TheVariants.{Zero, One, Marker, Bad}
use Rattle.irig_frame.specs.Symbols.{letter_of}
use Rattle.text_frame.specs.Letters.{without_blanks, Shows}

-- the symbols that the front of a text shows, and what is kept of them
pub record HasRead (front : List ℕ) (kept : List Symbol) : Type 0 where
  pub past : List Symbol
  pub shown : Shows front past
  pub taken : kept ≡ take 101 past

abbrev pub IsLetter : ℕ → Type 0
IsLetter letter = (symbol : Symbol) × (letter ≡ letter_of symbol)

without_blanks-append : (front rest : List ℕ) → without_blanks (front ++ rest) ≡ without_blanks front ++ without_blanks rest
without_blanks-append front rest = filter-append (λ letter. not (letter == 32)) front rest

without_blanks-letter : (symbol : Symbol) → without_blanks (letter_of symbol ∷ []) ≡ letter_of symbol ∷ []
without_blanks-letter Zero = refl
without_blanks-letter One = refl
without_blanks-letter Marker = refl
without_blanks-letter Bad = refl

without_blanks-other : (letter : ℕ) (rest : List ℕ) → (letter ≡ 32 → ⊥) → without_blanks (letter ∷ rest) ≡ letter ∷ without_blanks rest
without_blanks-other letter rest other = rw (ne_eqb letter 32 other) refl

-- one more letter of a symbol
pub read-symbol : (front : List ℕ) (kept new : List Symbol) (letter : ℕ) (symbol : Symbol) → (read : HasRead front kept) → letter ≡ letter_of symbol
    → new ≡ take 101 (read.past ++ symbol ∷ []) → HasRead (front ++ letter ∷ []) new
read-symbol front kept new letter symbol read is taken = record {
  past = read.past ++ symbol ∷ [];
  shown =
      let last : without_blanks (letter ∷ []) ≡ letter_of symbol ∷ [] = ap (λ (l : ℕ). without_blanks (l ∷ [])) is ∙ without_blanks-letter symbol in
      without_blanks-append front (letter ∷ [])
      ∙ ap (λ (shown : List ℕ). shown ++ without_blanks (letter ∷ [])) read.shown
      ∙ ap (λ (shown : List ℕ). map letter_of read.past ++ shown) last
      ∙ sym (map-append letter_of read.past (symbol ∷ []));
  taken = taken;
}

-- the next symbol is kept if there is room, and else it changes nothing
pub take-room : (past kept : List Symbol) (symbol : Symbol) → kept ≡ take 101 past → length kept < 101
    → kept ++ symbol ∷ [] ≡ take 101 (past ++ symbol ∷ [])
take-room past kept symbol taken room =
    let short : length past < 101 = omega (arith, length-take 101 past, ap (λ (l : List Symbol). length l) taken) in
    ap (λ (l : List Symbol). l ++ symbol ∷ []) (taken ∙ take_all 101 past (omega arith))
    ∙ sym (take_all 101 (past ++ symbol ∷ []) (omega (arith, length-append past (symbol ∷ []))))

pub take-full : (past kept : List Symbol) (symbol : Symbol) → kept ≡ take 101 past → 101 ≤ length kept
    → kept ≡ take 101 (past ++ symbol ∷ [])
take-full past kept symbol taken full =
    taken ∙ sym (take-append-le 101 past (symbol ∷ []) (omega (arith, length-take 101 past, ap (λ (l : List Symbol). length l) taken)))

letters : (symbols : List Symbol) → All IsLetter (map letter_of symbols)
letters [] = All-nil IsLetter
letters (symbol ∷ symbols) = All-cons IsLetter (letter_of symbol) (map letter_of symbols) (symbol, refl) (letters symbols)

behind : (P : ℕ → Type 0) (front rest : List ℕ) (letter : ℕ) → All P (front ++ letter ∷ rest) → P letter
behind P [] rest letter all = All-head P letter rest all
behind P (first ∷ front) rest letter all = behind P front rest letter (All-tail P first (front ++ letter ∷ rest) all)

-- a letter of no symbol is in no text that shows symbols
pub strange-letter : (front rest : List ℕ) (letter : ℕ) (symbols : List Symbol) → (letter ≡ 32 → ⊥) → ((symbol : Symbol) → letter ≡ letter_of symbol → ⊥)
    → Shows (front ++ letter ∷ rest) symbols → ⊥
strange-letter front rest letter symbols other strange shown =
    let parts = without_blanks-append front (letter ∷ rest) ∙ ap (λ (behind : List ℕ). without_blanks front ++ behind) (without_blanks-other letter rest other) in
    let found = behind IsLetter (without_blanks front) (without_blanks rest) letter (subst (All IsLetter) (sym shown ∙ parts) (letters symbols)) in
    strange found.0 found.1
