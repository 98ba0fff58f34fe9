-- A recording that is played is a recording of what was told of it.
use Rattle.std.specs.Prelude.{nat_lt, if◌then◌else◌, reverse, drop, length}
use Rattle.std.proofs.Common.{◌≡◌, ◌∙◌, ℕ, ◌<◌, ◌≤◌, arith, Bool, List, [], ◌∷◌, ◌++◌, Option, None, Some, slice_get, sym, ap, subst, refl, inl, inr}
use Rattle.std.proofs.lemmas.Bool.{cases_Bool}
use Rattle.std.proofs.lemmas.List.{append_assoc, append-nil, reverse-append}
use Rattle.std.proofs.lemmas.Option.{slice_get_cases}
use Rattle.irig_port.specs.declared.port.Port.{Ghosts}
use Rattle.irig_timekeeper.specs.Life.{Call}
use Rattle.irig_timekeeper.specs.Life.Call.{Hear, Tick}
use Rattle.irig_timekeeper.specs.Lived.{MadeOf}
use Rattle.record_levels.specs.declared.levels.Levels.{Levels}
use Rattle.record_pulses.specs.declared.edge.Edge.{Edge}
use Rattle.record_pulses.specs.declared.edge.Pulse.{Pulse}
use Rattle.record_pulses.specs.declared.steady.Steady.{Steady}
use Rattle.record_pulses.specs.Glitches.{AreInOrder, to_come, without_glitches}
use Rattle.record_pulses.specs.Pulses.{IsOneOf, pulse_ended, pulses_of}
use Rattle.record_lines.specs.declared.channel.Channel.{Channel}
use Rattle.record_lines.specs.declared.recording.Recording.{Recording}
use Rattle.record_lines.specs.declared.second.RecordedSecond.{RecordedSecond}
use Rattle.record_lines.specs.declared.told.ToldSecond.{ToldSecond}
use Rattle.record_lines.specs.Changes.{changes_on}
use Rattle.record_lines.specs.Channels.{AreAsSteady, AreChannelsOf, AreChannelsTo, level_in, told_of_lines}
use Rattle.record_lines.specs.Heard.{IsSteadyTo, MayCome}
use Rattle.record_lines.specs.Recordings.{AreOfLevels, AreOfLines, IsCarriedBy, IsOfLevels, IsOfLine, IsPlayedOn, IsPlayedTo, IsRecordingOf, IsShownAs, PlaysUpTo, newest, until_of}
use Rattle.record_lines.proofs.HeardLaws.{from_later, may_end}
use Rattle.record_lines.proofs.PlayLaws.{one_with}

-- a pulse is one of those with more changes
one_among : (p : Pulse) (polarity : Bool) (more edges : List Edge) → IsOneOf p (pulses_of polarity edges) → IsOneOf p (pulses_of polarity (more ++ edges))
one_among p polarity [] edges is = is
one_among p polarity (c ∷ more) edges is = one_with p (pulse_ended polarity c (more ++ edges)) (pulses_of polarity (more ++ edges)) (one_among p polarity more edges is)

-- what was played of a line is the beginning of what it has without glitches
all_of : (s : Steady) (glitch : ℕ) (until : Option ℕ) (told seen waiting played rest : List Edge) → IsSteadyTo s glitch until told seen → reverse seen ≡ waiting ++ played → MayCome until rest → AreInOrder rest
    → reverse (without_glitches glitch (told ++ rest)) ≡ (reverse (to_come s rest) ++ waiting) ++ played
all_of s glitch until told seen waiting played rest is here may order =
    let all = is.comes rest may order in
    ap reverse (sym all)
    ∙ (reverse-append seen (to_come s rest)
    ∙ (ap (λ xs. reverse (to_come s rest) ++ xs) here
    ∙ sym (append_assoc (reverse (to_come s rest)) waiting played)))

module _ {P : Type 0} {g : Ghosts P} (r : Recording P g) (five : 5 ≤ length r.channels.all) (glitch : ℕ) (told seen played : ℕ → List Edge) (made : MadeOf) (calls : List Call) (until : Option ℕ) (are : AreChannelsTo r.channels glitch until told seen played)
    (is : IsPlayedTo r r.held.played made 0 (newest seen) played calls) where
  of_levels : (line rise width : ℕ) → IsOfLine made (newest seen) played line rise width → IsOfLevels made glitch until told line rise width
  of_levels line rise width of =
      let small : line < length r.channels.all = let there = of.there in omega (arith, five, there) in
      let channel = get_channel line small in
      let steady = (are line channel.0 channel.1).steady in
      let waiting = changes_on line (drop r.held.played r.held.changes.items) in
      record {
        polarity = of.polarity;
        pulse = of.pulse;
        of = λ rest may order.
            subst (λ xs. IsOneOf of.pulse (pulses_of of.polarity xs)) (sym (all_of channel.0.steady glitch until (told line) (seen line) waiting (played line) rest steady (is.wait line) may order))
            (one_among of.pulse of.polarity (reverse (to_come channel.0.steady rest) ++ waiting) (played line) of.of);
        wide = of.wide;
        time = of.time;
        rises = of.rises;
      }
    where
      get_channel : (line : ℕ) → line < length r.channels.all → (c : Channel) × (slice_get r.channels.all line ≡ Some c)
      get_channel line small = elim (slice_get_cases r.channels.all line).1 [
        | inl found ↦ (found.0, found.2)
        | inr past ↦ absurd (let low = past.0 in omega (arith, small, low))
      ]

  pub all_levels : (told_calls : List Call) → AreOfLines made (newest seen) played told_calls → AreOfLevels made glitch until told told_calls
  all_levels [] of = tt
  all_levels (Hear line rise width ∷ rest) of = (of_levels line rise width of.0, all_levels rest of.1)
  all_levels (Tick now ∷ rest) of = all_levels rest of

-- ---- what was played

module _ {P : Type 0} {g : Ghosts P} (old new : Recording P g) (steady : AreAsSteady old.channels new.channels) (glitch : ℕ) (until : Option ℕ) (told seen played later : ℕ → List Edge) where
  channels_on : AreChannelsTo old.channels glitch until told seen played → AreChannelsOf new.channels (newest seen) later → AreChannelsTo new.channels glitch until told seen later
  channels_on are lines line channel at =
      let was = steady line channel at in
      let is = (are line was.0 was.1).steady in
      record {
        steady = subst (λ s. IsSteadyTo s glitch until (told line) (seen line)) (sym was.2) is;
        line = lines line channel at;
      }

module _ {P : Type 0} {g : Ghosts P} (old new : Recording P g) (steady : AreAsSteady old.channels new.channels) (time : new.now_ns ≡ old.now_ns) (ended : new.end_us ≡ old.end_us) (lines : new.lines ≡ old.lines) where
  same_until : until_of new.end_us new.now_ns ≡ until_of old.end_us old.now_ns
  same_until = ap (λ n. until_of new.end_us n) time ∙ ap (λ e. until_of e old.now_ns) ended

  keeps : (second : Option ToldSecond) → PlaysUpTo old new second → (made : MadeOf) (glitch : ℕ) (told : ℕ → List Edge) → IsRecordingOf old made glitch told → IsRecordingOf new made glitch told
  keeps second plays made glitch told is =
      let has = plays made 0 (newest is.seen) is.played is.calls is.is in
      record {
        seen = is.seen;
        played = has.played;
        calls = has.calls;
        count = lines ∙ is.count;
        channels = subst (λ u. AreChannelsTo new.channels glitch u told is.seen has.played) (sym same_until) (channels_on old new steady glitch (until_of old.end_us old.now_ns) told is.seen is.played has.played is.channels has.is.lines);
        is = has.is;
      }

  carries : 5 ≤ length new.channels.all → (second : ToldSecond) (shown : RecordedSecond) → PlaysUpTo old new (Some second) → IsShownAs shown second → (made : MadeOf) (glitch : ℕ) (told : ℕ → List Edge) → IsRecordingOf old made glitch told
      → IsCarriedBy made glitch (until_of old.end_us old.now_ns) told shown
  carries five second shown plays so made glitch told is =
      let has = plays made 0 (newest is.seen) is.played is.calls is.is in
      let of = has.of second refl in
      let channels = channels_on old new steady glitch (until_of old.end_us old.now_ns) told is.seen is.played has.played is.channels has.is.lines in
      record {
        at = second;
        shown = so;
        calls = of.calls;
        tells = of.told;
        are = all_levels new five glitch told is.seen has.played made has.calls (until_of old.end_us old.now_ns) channels has.is of.calls of.are;
      }

  pub on_none : PlaysUpTo old new None → IsPlayedOn old new None
  on_none plays = record {
    is = keeps None plays;
    carried = λ made glitch told is. tt;
  }

  pub on_one : 5 ≤ length new.channels.all → (second : ToldSecond) (shown : RecordedSecond) → PlaysUpTo old new (Some second) → IsShownAs shown second → IsPlayedOn old new (Some shown)
  on_one five second shown plays so = record {
    is = keeps (Some second) plays;
    carried = λ made glitch told is. carries five second shown plays so made glitch told is;
  }

-- ---- what is carried stays so

-- whatever may come after more, may come
abbrev pub MayFollow : (before until : Option ℕ) → List Edge → Type 0
MayFollow before until more = (rest : List Edge) → MayCome until rest → AreInOrder rest → MayCome before (more ++ rest) × AreInOrder (more ++ rest)

module _ (made : MadeOf) (glitch : ℕ) (before until : Option ℕ) (told more : ℕ → List Edge) (may : (line : ℕ) → MayFollow before until (more line)) where
  levels_stay : (calls : List Call) → AreOfLevels made glitch before told calls → AreOfLevels made glitch until (λ line. told line ++ more line) calls
  levels_stay [] are = tt
  levels_stay (Hear line rise width ∷ calls) are = (
    record {
      polarity = are.0.polarity;
      pulse = are.0.pulse;
      of = λ rest comes order.
          let follow = may line rest comes order in
          subst (λ xs. IsOneOf are.0.pulse (pulses_of are.0.polarity (reverse (without_glitches glitch xs)))) (sym (append_assoc (told line) (more line) rest)) (are.0.of (more line ++ rest) follow.0 follow.1);
      wide = are.0.wide;
      time = are.0.time;
      rises = are.0.rises;
    },
    levels_stay calls are.1,
  )
  levels_stay (Tick now ∷ calls) are = levels_stay calls are

  pub carried_stays : (second : RecordedSecond) → IsCarriedBy made glitch before told second → IsCarriedBy made glitch until (λ line. told line ++ more line) second
  carried_stays second is = record {
    at = is.at;
    shown = is.shown;
    calls = is.calls;
    tells = is.tells;
    are = levels_stay is.calls is.are;
  }

-- levels of lines that follow in order
may_follow_levels : (lines now : ℕ) (levels : Levels) → now ≤ levels.time_ns → (line : ℕ) → MayFollow (Some now) (Some levels.time_ns) (if nat_lt line lines then level_in levels line ∷ [] else [])
may_follow_levels lines now levels later line rest comes order = elim (cases_Bool (nat_lt line lines)) [
  | inl there ↦ rw there ((later, from_later now levels.time_ns rest later comes), (comes, order))
  | inr gone ↦ rw gone (from_later now levels.time_ns rest later comes, order)
]

told_more : (lines : ℕ) (levels : Levels) (told : ℕ → List Edge) (line : ℕ) → told line ++ (if nat_lt line lines then level_in levels line ∷ [] else []) ≡ told_of_lines lines levels told line
told_more lines levels told line = elim (cases_Bool (nat_lt line lines)) [
  | inl there ↦ rw there refl
  | inr gone ↦ rw gone (append-nil (told line))
]

module _ (made : MadeOf) (glitch : ℕ) (until : Option ℕ) (told other : ℕ → List Edge) (same : (line : ℕ) → told line ≡ other line) where
  levels_same : (calls : List Call) → AreOfLevels made glitch until told calls → AreOfLevels made glitch until other calls
  levels_same [] are = tt
  levels_same (Hear line rise width ∷ calls) are = (
    record {
      polarity = are.0.polarity;
      pulse = are.0.pulse;
      of = λ rest comes order. subst (λ xs. IsOneOf are.0.pulse (pulses_of are.0.polarity (reverse (without_glitches glitch (xs ++ rest))))) (same line) (are.0.of rest comes order);
      wide = are.0.wide;
      time = are.0.time;
      rises = are.0.rises;
    },
    levels_same calls are.1,
  )
  levels_same (Tick now ∷ calls) are = levels_same calls are

  carried_same : (second : RecordedSecond) → IsCarriedBy made glitch until told second → IsCarriedBy made glitch until other second
  carried_same second is = record {
    at = is.at;
    shown = is.shown;
    calls = is.calls;
    tells = is.tells;
    are = levels_same is.calls is.are;
  }

pub stays_levels : (made : MadeOf) (glitch now lines : ℕ) (levels : Levels) (told : ℕ → List Edge) (second : RecordedSecond) → IsCarriedBy made glitch (Some now) told second → now ≤ levels.time_ns
    → IsCarriedBy made glitch (Some levels.time_ns) (told_of_lines lines levels told) second
stays_levels made glitch now lines levels told second is later =
    let more : ℕ → List Edge = λ line. if nat_lt line lines then level_in levels line ∷ [] else [] in
    carried_same made glitch (Some levels.time_ns) (λ line. told line ++ more line) (told_of_lines lines levels told) (told_more lines levels told) second
    (carried_stays made glitch (Some now) (Some levels.time_ns) told more (may_follow_levels lines now levels later) second is)

-- nothing follows after the end
may_follow_end : (until : Option ℕ) → MayFollow until None []
may_follow_end until rest comes order = subst (λ xs. MayCome until xs × AreInOrder xs) (sym comes) (may_end until, tt)

pub stays_end : (made : MadeOf) (glitch : ℕ) (until : Option ℕ) (told : ℕ → List Edge) (second : RecordedSecond) → IsCarriedBy made glitch until told second → IsCarriedBy made glitch None told second
stays_end made glitch until told second is =
    carried_same made glitch None (λ line. told line ++ []) told (λ line. append-nil (told line)) second
    (carried_stays made glitch until None told (λ line. []) (λ line. may_follow_end until) second is)
