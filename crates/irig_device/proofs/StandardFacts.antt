-- Known answers of a reader and a writer, and wrong ones, so that no field can be dropped or turned.
use Rattle.std.proofs.Common.{◌≡◌, ◌≢◌, ℕ, List, [], ◌∷◌, ◌++◌, length, Some, refl, sym, ap, ◌∙◌, arith, codes}
use Rattle.std.specs.Prelude.{slice_get, unwrap_or}
use Rattle.std.proofs.lemmas.List.{length-append}
use Rattle.std.proofs.lemmas.List.Elements.{recursion_from_All, All-from_recursion}
use Rattle.irig_device.specs.declared.line.LineEnd.TheVariants.{Newline, EndOfInput, TooLong}
use Rattle.irig_device.specs.Lines.{HasNoNewline, GivesLine, GivesPart}
use Rattle.irig_device.specs.Watched.{AppendsPart}

-- ---- a writer

-- a prefix of the text was written
front : AppendsPart (Some (codes "a")) (Some (codes "ab")) (codes "bc")
front = record { front = codes "b"; rest = codes "c"; whole = refl; wrote = refl }

-- and not another part of it, or more, or less than stood there
not_rest : ¬ AppendsPart (Some (codes "a")) (Some (codes "ac")) (codes "bc")
not_rest h =
    let is : codes "ac" ≡ codes "a" ++ h.front = h.wrote in
    let last : codes "c" ≡ h.front = cc in
    let whole : codes "bc" ≡ codes "c" ++ h.rest = h.whole ∙ ap (λ f. f ++ h.rest) (sym last) in
    omega (arith, ap (λ (bs : List ℕ). unwrap_or (slice_get bs 0) 0) whole)

not_more : ¬ AppendsPart (Some []) (Some (codes "bcd")) (codes "bc")
not_more h =
    let is : codes "bcd" ≡ h.front = h.wrote in
    let whole : codes "bc" ≡ codes "bcd" ++ h.rest = h.whole ∙ ap (λ f. f ++ h.rest) (sym is) in
    omega (arith, ap length whole)

not_less : ¬ AppendsPart (Some (codes "a")) (Some []) (codes "bc")
not_less h = omega (arith, ap length h.wrote)

-- ---- a reader

no_newline : HasNoNewline (codes "ab")
no_newline = All-from_recursion (λ b. b ≢ 10) (codes "ab") (search arith)

not_end : ¬ (Newline ≡ EndOfInput)
not_end e = absurd cc

-- a line with its newline, the last one without, and three bytes of one that is longer than two
whole_line : GivesLine Newline 2 (codes "ab") (Some (codes "ab\nc")) (Some (codes "c"))
whole_line = record { taken = refl; has_length = omega arith; whole = no_newline; at_end = λ e. absurd (not_end e) }

last_line : GivesLine EndOfInput 2 (codes "ab") (Some (codes "ab")) (Some [])
last_line = record { taken = refl; has_length = omega arith; whole = no_newline; at_end = λ e. refl }

long_line : GivesLine TooLong 1 (codes "ab") (Some (codes "abc\n")) (Some (codes "c\n"))
long_line = record { taken = refl; has_length = refl; whole = no_newline; at_end = λ e. absurd cc }

-- the newline is taken
not_left : ¬ GivesLine Newline 2 (codes "ab") (Some (codes "ab\nc")) (Some (codes "\nc"))
not_left h = omega (arith, ap length h.taken)

-- a line beyond its limit, and too much of a long one
not_long : ¬ GivesLine Newline 1 (codes "ab") (Some (codes "ab\nc")) (Some (codes "c"))
not_long h = omega (arith, h.has_length)

not_too_far : ¬ GivesLine TooLong 0 (codes "ab") (Some (codes "abc\n")) (Some (codes "c\n"))
not_too_far h = omega (arith, h.has_length)

-- two lines at once
not_two_lines : ¬ GivesLine EndOfInput 9 (codes "a\nb") (Some (codes "a\nb")) (Some [])
not_two_lines h = (recursion_from_All (λ b. b ≢ 10) (codes "a\nb") h.whole).1.0 refl

-- an end before the end
not_the_end : ¬ GivesLine EndOfInput 9 (codes "a") (Some (codes "ab")) (Some (codes "b"))
not_the_end h = omega (arith, ap length (h.at_end refl))

-- a part of a line, and not two lines, or fewer bytes than are gone
part : GivesPart (Some (codes "abc\n")) (Some (codes "c\n"))
part = record { part = codes "ab"; taken = refl; whole = no_newline }

not_over_a_line : ¬ GivesPart (Some (codes "a\nb")) (Some (codes "b"))
not_over_a_line h = from h.part h.taken h.whole
  where
    from : (p : List ℕ) → codes "a\nb" ≡ p ++ codes "b" → ¬ HasNoNewline p
    from [] e w = omega (arith, ap length e)
    from (x ∷ []) e w = omega (arith, ap length e)
    from (x ∷ y ∷ p) e w = let second : 10 ≡ y = cc in (recursion_from_All (λ b. b ≢ 10) (x ∷ y ∷ p) w).1.0 (sym second)

not_more_left : ¬ GivesPart (Some (codes "b")) (Some (codes "ab"))
not_more_left h = omega (arith, ap length h.taken, length-append h.part (codes "ab"))
