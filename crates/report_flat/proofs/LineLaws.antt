-- The line of an event is one line: visible bytes, not too many.
use Rattle.std.proofs.Common.{◌≡◌, ◌≢◌, ℕ, ◌+◌, ◌*◌, ◌<◌, ◌≤◌, true, ◌&&◌, List, [], ◌∷◌, ◌++◌, length, All, IsUtf8, refl, ◌∙◌, arith, codes, length-append}
use Rattle.std.specs.Prelude.{nat_lt}
use Rattle.std.specs.List.{AllByRecursion, list_all}
use Rattle.std.specs.Fmt.{decimal}
use Rattle.std.proofs.lemmas.Bool.{and_parts, and_from, ltb-true, lt-ltb}
use Rattle.std.proofs.lemmas.Fmt.{length-decimal-le}
use Rattle.std.proofs.lemmas.List.Elements.{recursion_from_All, All-from_recursion}
use Rattle.json.proofs.Printed.Utf8.{are_ascii, IsUtf8-are_ascii}
use Rattle.irig_plant.specs.declared.event.Event.{Event}
use Rattle.irig_plant.specs.declared.event.Event.TheVariants.{Tick, Raw, Restart}
use Rattle.scenario_values.specs.Names.{are_names}
use Rattle.report_log.specs.Text.{name_at}
use Rattle.report_log.proofs.LogLaws.{all_join}
use Rattle.report_log.proofs.WordLaws.{IsNumber, decimal_number}
use Rattle.report_flat.specs.EventText.{after_commas, numbers_text, event_line, IsLine, IsWritten}
use Rattle.report_flat.proofs.NameLaws.{IsPlain, reader_name}

-- ---- visible bytes

-- ASCII above the blank
abbrev IsVisible : ℕ → Type 0
IsVisible b = (32 < b) × (b < 128)

abbrev AreVisible : List ℕ → Type 0
AreVisible text = AllByRecursion IsVisible text

by_test : (l : List ℕ) → list_all (λ b. nat_lt 32 b && nat_lt b 128) l ≡ true → AreVisible l
by_test [] h = tt
by_test (b ∷ bs) h =
    let parts = and_parts (nat_lt 32 b && nat_lt b 128) (list_all (λ b. nat_lt 32 b && nat_lt b 128) bs) h in
    let tests = and_parts (nat_lt 32 b) (nat_lt b 128) parts.0 in
    ((ltb-true 32 b tests.0, ltb-true b 128 tests.1), by_test bs parts.1)

join : (a b : List ℕ) → AreVisible a → AreVisible b → AreVisible (a ++ b)
join a b h k = all_join IsVisible a b h k

digits_visible : (l : List ℕ) → IsNumber l → AreVisible l
digits_visible [] h = tt
digits_visible (b ∷ bs) h = ((omega (arith, h.0.0), omega (arith, h.0.1)), digits_visible bs h.1)

number_visible : (n : ℕ) → AreVisible (decimal n)
number_visible n = digits_visible (decimal n) (decimal_number n)

plain_visible : (l : List ℕ) → AllByRecursion IsPlain l → AreVisible l
plain_visible [] h = tt
plain_visible (b ∷ bs) h = ((h.0.low, h.0.high), plain_visible bs h.1)

more_visible : (ns : List ℕ) → AreVisible (after_commas ns)
more_visible [] = tt
more_visible (n ∷ ns) = join (44 ∷ decimal n) _ ((omega arith, omega arith), number_visible n) (more_visible ns)

numbers_visible : (ns : List ℕ) → AreVisible (numbers_text ns)
numbers_visible [] = tt
numbers_visible (n ∷ ns) = join (decimal n) _ (number_visible n) (more_visible ns)

-- a text, a name and the end of the line
named_visible : (front name : List ℕ) → AreVisible front → AreVisible name → AreVisible (front ++ (name ++ codes "\"}"))
named_visible front name h k = join front _ h (join name _ k (by_test (codes "\"}") refl))

pulses_visible : (number name numbers : List ℕ) → AreVisible number → AreVisible name → AreVisible numbers
    → AreVisible (codes "{\"do\":\"raw\",\"g\":" ++ (number ++ (codes ",\"r\":\"" ++ (name ++ (codes "\",\"widths\":[" ++ (numbers ++ codes "]}"))))))
pulses_visible number name numbers h k l =
    join (codes "{\"do\":\"raw\",\"g\":") _ (by_test (codes "{\"do\":\"raw\",\"g\":") refl) (join number _ h
    (join (codes ",\"r\":\"") _ (by_test (codes ",\"r\":\"") refl) (join name _ k
    (join (codes "\",\"widths\":[") _ (by_test (codes "\",\"widths\":[") refl) (join numbers _ l (by_test (codes "]}") refl))))))

name_visible : (names : List (List ℕ)) (r : ℕ) → are_names names ≡ true → AreVisible (name_at names r)
name_visible names r named = plain_visible (name_at names r) (reader_name names r named).plain

line_visible : (names : List (List ℕ)) (e : Event) → are_names names ≡ true → IsWritten names e → AreVisible (event_line names e)
unfolding event_line
line_visible names (Raw g r widths) named h = pulses_visible (decimal g) (name_at names r) (numbers_text widths) (number_visible g) (name_visible names r named) (numbers_visible widths)
line_visible names (Tick r) named h = let front = codes "{\"do\":\"tick\",\"r\":\"" in named_visible front (name_at names r) (by_test front refl) (name_visible names r named)
line_visible names (Restart r) named h = let front = codes "{\"do\":\"restart\",\"r\":\"" in named_visible front (name_at names r) (by_test front refl) (name_visible names r named)
line_visible names _ named h = absurd h

visible_ascii : (l : List ℕ) → AreVisible l → are_ascii l ≡ true
visible_ascii [] h = refl
visible_ascii (b ∷ bs) h = and_from _ _ (lt-ltb b 128 h.0.1) (visible_ascii bs h.1)

pub line_utf8 : (names : List (List ℕ)) (e : Event) → are_names names ≡ true → IsWritten names e → IsUtf8 (event_line names e)
line_utf8 names e named h = IsUtf8-are_ascii (event_line names e) (visible_ascii _ (line_visible names e named h))

visible_whole : (l : List ℕ) → AreVisible l → AllByRecursion (λ b. b ≢ 10) l
visible_whole [] h = tt
visible_whole (b ∷ bs) h = (λ e. omega (arith, h.0.0, e), visible_whole bs h.1)

line_whole : (names : List (List ℕ)) (e : Event) → are_names names ≡ true → IsWritten names e → All (λ b. b ≢ 10) (event_line names e)
line_whole names e named h = All-from_recursion (λ b. b ≢ 10) (event_line names e) (visible_whole _ (line_visible names e named h))

-- ---- how long it is

number_length : (n : ℕ) → n ≤ 4294967295 → length (decimal n) ≤ 10
number_length n h = length-decimal-le 10 n (omega arith) (omega arith) (omega arith)

more_length : (ns : List ℕ) → AllByRecursion (λ n. n ≤ 4294967295) ns → length (after_commas ns) ≤ 11 * length ns
more_length [] h = omega arith
more_length (n ∷ ns) h = omega (arith, length-append (44 ∷ decimal n) (after_commas ns), number_length n h.0, more_length ns h.1)

numbers_length : (ns : List ℕ) → AllByRecursion (λ n. n ≤ 4294967295) ns → length (numbers_text ns) ≤ 11 * length ns
numbers_length [] h = omega arith
numbers_length (n ∷ ns) h = omega (arith, length-append (decimal n) (after_commas ns), number_length n h.0, more_length ns h.1)

pulses_length : (number name numbers : List ℕ) → length number ≤ 10 → length name ≤ 16 → length numbers ≤ 11000
    → length (codes "{\"do\":\"raw\",\"g\":" ++ (number ++ (codes ",\"r\":\"" ++ (name ++ (codes "\",\"widths\":[" ++ (numbers ++ codes "]}")))))) ≤ 65536
pulses_length number name numbers few short many =
    let end : length (numbers ++ codes "]}") ≡ length numbers + 2 = length-append numbers (codes "]}") in
    let middle : length (name ++ (codes "\",\"widths\":[" ++ (numbers ++ codes "]}"))) ≡ length name + (12 + length (numbers ++ codes "]}")) =
    length-append name (codes "\",\"widths\":[" ++ (numbers ++ codes "]}")) ∙ omega arith in
    omega (arith, length-append number (codes ",\"r\":\"" ++ (name ++ (codes "\",\"widths\":[" ++ (numbers ++ codes "]}")))), middle, end)

line_short : (names : List (List ℕ)) (e : Event) → are_names names ≡ true → IsWritten names e → length (event_line names e) ≤ 65536
unfolding event_line
line_short names (Raw g r widths) named h =
    let range = recursion_from_All (λ n. n ≤ 4294967295) widths h.range in
    pulses_length (decimal g) (name_at names r) (numbers_text widths) (number_length g (omega (arith, h.generator))) (reader_name names r named).short (omega (arith, numbers_length widths range, h.few))
line_short names (Tick r) named h = omega (arith, length-append (name_at names r) (codes "\"}"), (reader_name names r named).short)
line_short names (Restart r) named h = omega (arith, length-append (name_at names r) (codes "\"}"), (reader_name names r named).short)
line_short names _ named h = absurd h

-- ---- how it begins

line_begins : (names : List (List ℕ)) (e : Event) → IsWritten names e → (more : List ℕ) × (event_line names e ≡ 123 ∷ more)
unfolding event_line
line_begins names (Raw g r widths) h = (_, refl)
line_begins names (Tick r) h = (_, refl)
line_begins names (Restart r) h = (_, refl)
line_begins names _ h = absurd h

pub is_line : (names : List (List ℕ)) (e : Event) → are_names names ≡ true → IsWritten names e → IsLine (event_line names e)
is_line names e named h =
    let first = line_begins names e h in
    record { more = first.0; begins = first.1; whole = line_whole names e named h; short = line_short names e named h }
