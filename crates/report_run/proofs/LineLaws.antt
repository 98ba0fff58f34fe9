-- The lines of bytes that come in parts.
use Rattle.std.proofs.Common.{◌≡◌, ◌≢◌, ℕ, ◌<◌, List, [], ◌∷◌, ◌++◌, length, All, refl, ap, ◌∙◌, append_assoc, arith}
use Rattle.std.specs.List.{AllByRecursion}
use Rattle.std.proofs.lemmas.List.Elements.{recursion_from_All}
use Rattle.irig_device.specs.Lines.{HasNoNewline}
use Rattle.report_run.specs.Lines.{lines, onto_first, unlines}
use Rattle.report_log.proofs.LogLaws.{not_newline}

line_ends : (l : List ℕ) → AllByRecursion (λ b. b ≢ 10) l → (rest : List ℕ) → lines (l ++ 10 ∷ rest) ≡ l ∷ lines rest
unfolding lines
line_ends [] h rest = refl
line_ends (b ∷ bs) h rest = rw (not_newline b h.0, line_ends bs h.1 rest) refl

pub line_first : (l rest : List ℕ) → HasNoNewline l → lines ((l ++ 10 ∷ []) ++ rest) ≡ l ∷ lines rest
line_first l rest h = ap lines (append_assoc l (10 ∷ []) rest) ∙ line_ends l (recursion_from_All _ l h) rest

pub no_line : lines [] ≡ []
unfolding lines
no_line = refl

last_line : (b : ℕ) (bs : List ℕ) → AllByRecursion (λ b. b ≢ 10) (b ∷ bs) → lines (b ∷ bs) ≡ (b ∷ bs) ∷ []
unfolding lines
last_line b [] h = rw (not_newline b h.0) refl
last_line b (a ∷ bs) h = rw (not_newline b h.0, last_line a bs h.1) refl

pub one_line : (l : List ℕ) → HasNoNewline l → 0 < length l → lines l ≡ l ∷ []
one_line [] h some = absurd (omega arith)
one_line (b ∷ bs) h some = last_line b bs (recursion_from_All _ (b ∷ bs) h)

lines_join : (ls : List (List ℕ)) → AllByRecursion HasNoNewline ls → (rest : List ℕ) → lines (unlines ls ++ rest) ≡ ls ++ lines rest
lines_join [] h rest = refl
lines_join (l ∷ ls) h rest =
    let regrouped : unlines (l ∷ ls) ++ rest ≡ l ++ 10 ∷ (unlines ls ++ rest) = simp append_assoc in
    ap lines regrouped ∙ line_ends l (recursion_from_All _ l h.0) (unlines ls ++ rest) ∙ ap (λ more. l ∷ more) (lines_join ls h.1 rest)

pub lines_after : (ls : List (List ℕ)) (rest : List ℕ) → All HasNoNewline ls → lines (unlines ls ++ rest) ≡ ls ++ lines rest
lines_after ls rest h = lines_join ls (recursion_from_All HasNoNewline ls h) rest

-- ---- what begins with bytes without a newline

-- the first line of y begins with these bytes
pub record Opens (y front : List ℕ) : Type 0 where
  pub more : List ℕ
  pub others : List (List ℕ)
  pub is : lines y ≡ (front ++ more) ∷ others

front_grows : (b : ℕ) (ls : List (List ℕ)) → (more : List ℕ) × (others : List (List ℕ)) × (onto_first b ls ≡ (b ∷ more) ∷ others)
front_grows b [] = ([], [], refl)
front_grows b (l ∷ ls) = (l, ls, refl)

line_grows : (b : ℕ) (bs rest : List ℕ) → AllByRecursion (λ b. b ≢ 10) (b ∷ bs)
    → (more : List ℕ) × (others : List (List ℕ)) × (lines ((b ∷ bs) ++ rest) ≡ ((b ∷ bs) ++ more) ∷ others)
unfolding lines
line_grows b [] rest h = let r = front_grows b (lines rest) in (r.0, r.1, rw (not_newline b h.0) r.2)
line_grows b (a ∷ bs) rest h = let r = line_grows a bs rest h.1 in (r.0, r.1, rw (not_newline b h.0) (ap (onto_first b) r.2))

pub opens : (front rest y : List ℕ) → HasNoNewline front → 0 < length front → y ≡ front ++ rest → Opens y front
opens [] rest y h some e = absurd (omega arith)
opens (b ∷ bs) rest y h some e =
    let r = line_grows b bs rest (recursion_from_All _ (b ∷ bs) h) in
    record { more = r.0; others = r.1; is = ap lines e ∙ r.2 }
