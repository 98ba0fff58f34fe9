-- Lines with their newline, in the parts that are pushed; the texts of the widths of a clock's pulses.
use Rattle.std.proofs.Common.{◌≡◌, ℕ, cond, List, [], ◌∷◌, ◌++◌, Result, Ok, Err, OnOk, refl, ap, ◌∙◌, codes, append_assoc}
use Rattle.std.specs.Prelude.{is_ok}
use Rattle.std.specs.Fmt.{decimal, digits}
use Rattle.irig_plant.specs.declared.event.Event.TheVariants.{Tick, Raw, Restart}
use Rattle.report_log.specs.Text.{name_at}
use Rattle.report_flat.specs.EventText.{numbers_text, event_line}

pub width_of_0 : decimal 2000 ≡ 50 ∷ 48 ∷ 48 ∷ 48 ∷ []
unfolding digits
width_of_0 = refl

pub width_of_1 : decimal 5000 ≡ 53 ∷ 48 ∷ 48 ∷ 48 ∷ []
unfolding digits
width_of_1 = refl

pub width_of_marker : decimal 8000 ≡ 56 ∷ 48 ∷ 48 ∷ 48 ∷ []
unfolding digits
width_of_marker = refl

pub tick_line : (names : List (List ℕ)) (r : ℕ) → event_line names (Tick r) ++ 10 ∷ [] ≡ codes "{\"do\":\"tick\",\"r\":\"" ++ (name_at names r ++ codes "\"}\n")
unfolding event_line
tick_line names r = ap (λ l. codes "{\"do\":\"tick\",\"r\":\"" ++ l) (append_assoc (name_at names r) (codes "\"}") (10 ∷ []))

pub restart_line : (names : List (List ℕ)) (r : ℕ) → event_line names (Restart r) ++ 10 ∷ [] ≡ codes "{\"do\":\"restart\",\"r\":\"" ++ (name_at names r ++ codes "\"}\n")
unfolding event_line
restart_line names r = ap (λ l. codes "{\"do\":\"restart\",\"r\":\"" ++ l) (append_assoc (name_at names r) (codes "\"}") (10 ∷ []))

regroup : (a b c d e f g h : List ℕ) → (a ++ (b ++ (c ++ (d ++ (e ++ (f ++ g)))))) ++ h ≡ a ++ (b ++ (c ++ (d ++ (e ++ (f ++ (g ++ h))))))
regroup a b c d e f g h = simp append_assoc

pulses_line : (names : List (List ℕ)) (g r : ℕ) (widths : List ℕ) → event_line names (Raw g r widths) ++ 10 ∷ []
    ≡ codes "{\"do\":\"raw\",\"g\":" ++ (decimal g ++ (codes ",\"r\":\"" ++ (name_at names r ++ (codes "\",\"widths\":[" ++ (numbers_text widths ++ codes "]}\n")))))
unfolding event_line
pulses_line names g r widths =
    regroup (codes "{\"do\":\"raw\",\"g\":") (decimal g) (codes ",\"r\":\"") (name_at names r) (codes "\",\"widths\":[") (numbers_text widths) (codes "]}") (10 ∷ [])

-- a text to which seven parts are added, the last if there is memory
seven_added : {E : Type 0} (result : Result (Unit {0}) E) (old one two three four five six new a b c d e f g : List ℕ) → one ≡ old ++ a → two ≡ one ++ b → three ≡ two ++ c → four ≡ three ++ d → five ≡ four ++ e → six ≡ five ++ f
    → new ≡ cond (is_ok result) (six ++ g) six → OnOk result (new ≡ old ++ (a ++ (b ++ (c ++ (d ++ (e ++ (f ++ g)))))))
seven_added (Ok u) old one two three four five six new a b c d e f g h1 h2 h3 h4 h5 h6 h7 = rw (h7, h6, h5, h4, h3, h2, h1) (simp append_assoc)
seven_added (Err u) old one two three four five six new a b c d e f g h1 h2 h3 h4 h5 h6 h7 = tt

pub pulses_added : {E : Type 0} (result : Result (Unit {0}) E) (names : List (List ℕ)) (g r : ℕ) (widths name old one two three four five six new : List ℕ) → name ≡ name_at names r → one ≡ old ++ codes "{\"do\":\"raw\",\"g\":"
    → two ≡ one ++ decimal g → three ≡ two ++ codes ",\"r\":\"" → four ≡ three ++ name → five ≡ four ++ codes "\",\"widths\":[" → six ≡ five ++ numbers_text widths
    → new ≡ cond (is_ok result) (six ++ codes "]}\n") six → OnOk result (new ≡ old ++ (event_line names (Raw g r widths) ++ 10 ∷ []))
pulses_added result names g r widths name old one two three four five six new is h1 h2 h3 h4 h5 h6 h7 =
    rw (pulses_line names g r widths)
    (seven_added result old one two three four five six new (codes "{\"do\":\"raw\",\"g\":") (decimal g) (codes ",\"r\":\"") (name_at names r) (codes "\",\"widths\":[") (numbers_text widths) (codes "]}\n") h1 h2 h3
    (h4 ∙ ap (λ l. three ++ l) is) h5 h6 h7)
