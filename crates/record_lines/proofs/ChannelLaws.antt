-- The lines of a recording after one of them changed.
use Rattle.std.specs.Prelude.{⊤, ◌==◌, Option, option_to_list, []}
use Rattle.std.proofs.Common.{◌≡◌, ◌≢◌, ℕ, zero, suc, ◌<◌, ◌≤◌, List, ◌∷◌, None, Some, slice_get, slice_set, length, sym, refl, ap, subst, ◌∙◌, inl, inr}
use Rattle.std.proofs.lemmas.Bool.{cases_Bool, eqb-true, eqb-false, eq-eqb, ne_eqb}
use Rattle.std.proofs.lemmas.Option.{same_Some}
use Rattle.irig_frame.proofs.WritingLaws.{get-set_same, get-set_other}
use Rattle.record_pulses.specs.declared.edge.Edge.{Edge}
use Rattle.record_lines.specs.declared.channel.Channel.{Channel}
use Rattle.record_lines.specs.declared.channels.Channels.{Channels}
use Rattle.record_lines.specs.Channels.{AreAsSteady, AreChannelsOf, AreChannelsTo, and_on, and_played}
use Rattle.record_lines.specs.Heard.{EndsOn, IsChannelTo, IsToldMore, RipensTo}
use Rattle.record_lines.proofs.HeardLaws.{channel_later}
use Rattle.record_lines.specs.RecordedLines.{IsRecordedLine}

-- the lines with another channel for one of them are lines of what was seen and played since
set_channel : (old : Channels) (line : ℕ) (x : Channel) (seen played since : ℕ → List Edge)
    → line < length old.all → AreChannelsOf old seen played
    → IsRecordedLine x.line None (seen line) (since line)
    → ((other : ℕ) → line ≢ other → since other ≡ played other)
    → (other : ℕ) (channel : Channel) → slice_get (slice_set old.all line x) other ≡ Some channel
    → IsRecordedLine channel.line None (seen other) (since other)
set_channel old line x seen played since small are is others other channel at = elim (cases_Bool (line == other)) [
  | inl same ↦
      let here : line ≡ other = eqb-true line other same in
      let x_is : x ≡ channel = same_Some x channel (sym (get-set_same old.all line x small) ∙ (ap (slice_get (slice_set old.all line x)) here ∙ at)) in
      subst (λ (j : ℕ). IsRecordedLine channel.line None (seen j) (since j)) here (subst (λ (c : Channel). IsRecordedLine c.line None (seen line) (since line)) x_is is)
  | inr differs ↦
      let not_here : line ≢ other = eqb-false line other differs in
      let was : slice_get old.all other ≡ Some channel = sym (get-set_other old.all line other x not_here) ∙ at in
      subst (λ (p : List Edge). IsRecordedLine channel.line None (seen other) p) (sym (others other not_here)) (are other channel was)
]

-- a line to which one change more was played
pub plays : (old : Channels) (line : ℕ) (x : Channel) (seen played : ℕ → List Edge) (edge : Edge) → line < length old.all → AreChannelsOf old seen played
    → IsRecordedLine x.line None (seen line) (edge ∷ played line) → (other : ℕ) (channel : Channel) → slice_get (slice_set old.all line x) other ≡ Some channel
    → IsRecordedLine channel.line None (seen other) (and_played line edge played other)
plays old line x seen played edge small are is =
    set_channel old line x seen played (and_played line edge played) small are (rw (eq-eqb line line refl) is) (λ other differs. rw (ne_eqb line other differs) refl)

-- a line of which nothing was played
pub stays : (old : Channels) (line : ℕ) (x : Channel) (seen played : ℕ → List Edge) → line < length old.all → AreChannelsOf old seen played
    → IsRecordedLine x.line None (seen line) (played line) → (other : ℕ) (channel : Channel) → slice_get (slice_set old.all line x) other ≡ Some channel
    → IsRecordedLine channel.line None (seen other) (played other)
stays old line x seen played small are is = set_channel old line x seen played played small are is (λ other differs. refl)

-- ---- what is told and seen

-- of the lines one is another channel now
module _ (R : ℕ → Channel → Type 0) (old : Channels) (line : ℕ) (x : Channel) (small : line < length old.all) (is : R line x) (others : (other : ℕ) (c : Channel) → line ≢ other → slice_get old.all other ≡ Some c → R other c) where
  set_one : (other : ℕ) (channel : Channel) → slice_get (slice_set old.all line x) other ≡ Some channel → R other channel
  set_one other channel at = elim (cases_Bool (line == other)) [
    | inl same ↦
        let here : line ≡ other = eqb-true line other same in
        let x_is : x ≡ channel = same_Some x channel (sym (get-set_same old.all line x small) ∙ (ap (slice_get (slice_set old.all line x)) here ∙ at)) in
        subst (λ (j : ℕ). R j channel) here (subst (R line) x_is is)
    | inr differs ↦
        let not_here : line ≢ other = eqb-false line other differs in
        others other channel not_here (sym (get-set_other old.all line other x not_here) ∙ at)
  ]

module _ (old : Channels) (line : ℕ) (x was : Channel) (glitch now : ℕ) (told seen played : ℕ → List Edge) (are : AreChannelsTo old glitch (Some now) told seen played) (small : line < length old.all) (at : slice_get old.all line ≡ Some was) where
  pub ripens_on : (time : ℕ) (edge : Option Edge) → now ≤ time → RipensTo was x time edge → (other : ℕ) (channel : Channel) → slice_get (slice_set old.all line x) other ≡ Some channel
      → IsChannelTo channel glitch (Some time) (told other) (and_on line (option_to_list edge) seen other) (played other)
  ripens_on time edge later ripens = set_one (λ other c. IsChannelTo c glitch (Some time) (told other) (and_on line (option_to_list edge) seen other) (played other)) old line x small
      (rw (eq-eqb line line refl) (ripens glitch now (told line) (seen line) (played line) (are line was at) later))
      (λ other c differs there. rw (ne_eqb line other differs) (channel_later c glitch now time (told other) (seen other) (played other) (are other c there) later))

  pub told_on : (level : Edge) (edge : Option Edge) → now ≤ level.time_ns → IsToldMore was x level edge → (other : ℕ) (channel : Channel) → slice_get (slice_set old.all line x) other ≡ Some channel
      → IsChannelTo channel glitch (Some level.time_ns) (and_on line (level ∷ []) told other) (and_on line (option_to_list edge) seen other) (played other)
  told_on level edge later is = set_one (λ other c. IsChannelTo c glitch (Some level.time_ns) (and_on line (level ∷ []) told other) (and_on line (option_to_list edge) seen other) (played other)) old line x small
      (rw (eq-eqb line line refl) (is glitch now (told line) (seen line) (played line) (are line was at) later))
      (λ other c differs there. rw (ne_eqb line other differs) (channel_later c glitch now level.time_ns (told other) (seen other) (played other) (are other c there) later))

-- one of the lines is as steady as it was, and the others are as they were
pub as_steady : (old : Channels) (line : ℕ) (x was : Channel) → line < length old.all → slice_get old.all line ≡ Some was → x.steady ≡ was.steady → (other : ℕ) (channel : Channel) → slice_get (slice_set old.all line x) other ≡ Some channel
    → (before : Channel) × (slice_get old.all other ≡ Some before) × (channel.steady ≡ before.steady)
as_steady old line x was small at same = set_one (λ other c. (before : Channel) × (slice_get old.all other ≡ Some before) × (c.steady ≡ before.steady)) old line x small (was, at, same) (λ other c differs there. (c, there, refl))

pub steady_on : (a b c : Channels) → AreAsSteady a b → AreAsSteady b c → AreAsSteady a c
steady_on a b c first second line channel at =
    let mid = second line channel at in
    let was = first line mid.0 mid.1 in
    (was.0, was.1, mid.2 ∙ was.2)

pub steady_same : (a b : Channels) → b ≡ a → AreAsSteady a b
steady_same a b same line channel at = (channel, ap (λ (c : Channels). slice_get c.all line) (sym same) ∙ at, refl)

-- what waited on a line comes out at the end
pub ends_on : (old : Channels) (line : ℕ) (x was : Channel) (glitch : ℕ) (told seen played : ℕ → List Edge) → AreChannelsTo old glitch None told seen played → line < length old.all → slice_get old.all line ≡ Some was → (edge : Option Edge)
    → EndsOn was x edge → (other : ℕ) (channel : Channel) → slice_get (slice_set old.all line x) other ≡ Some channel → IsChannelTo channel glitch None (told other) (and_on line (option_to_list edge) seen other) (played other)
ends_on old line x was glitch told seen played are small at edge ends =
    set_one (λ other c. IsChannelTo c glitch None (told other) (and_on line (option_to_list edge) seen other) (played other)) old line x small
    (rw (eq-eqb line line refl) (ends glitch (told line) (seen line) (played line) (are line was at)))
    (λ other c differs there. rw (ne_eqb line other differs) (are other c there))

-- ---- five of them

abbrev Every : (Channel → Type 0) → List Channel → Type 0
Every R [] = ⊤
Every R (c ∷ rest) = R c × Every R rest

every_one : (R : Channel → Type 0) (cs : List Channel) → Every R cs → (line : ℕ) (channel : Channel) → slice_get cs line ≡ Some channel → R channel
every_one R [] all line channel at = absurd cc
every_one R (c ∷ rest) all zero channel at = subst R (same_Some c channel at) all.0
every_one R (c ∷ rest) all (suc line) channel at = every_one R rest all.1 line channel at

pub five_of : (R : Channel → Type 0) (a b c d e : Channel) → R a → R b → R c → R d → R e → (line : ℕ) (channel : Channel) → slice_get (a ∷ b ∷ c ∷ d ∷ e ∷ []) line ≡ Some channel → R channel
five_of R a b c d e ra rb rc rd re = every_one R (a ∷ b ∷ c ∷ d ∷ e ∷ []) (ra, (rb, (rc, (rd, (re, tt)))))
