-- A change of a recording is played.
use Rattle.std.specs.Prelude.{◌==◌, drop, is_some, length}
use Rattle.std.proofs.Common.{◌≡◌, ◌∙◌, ℕ, ◌+◌, ◌≤◌, arith, Bool, true, false, List, [], ◌∷◌, ◌++◌, Option, None, Some, slice_get, sym, ap, subst, refl, inl, inr}
use Rattle.std.proofs.lemmas.Bool.{cases_Bool, eq-eqb}
use Rattle.std.proofs.lemmas.List.{append_assoc, drop_more}
use Rattle.std.proofs.Math.ListN.{drop_of_length-le}
use Rattle.std.proofs.lemmas.Option.{get_or_from_slice_get, same_Some, slice_get_within}
use Rattle.irig_port.specs.declared.port.Port.{Ghosts}
use Rattle.irig_lines.specs.Delays.{delay_at}
use Rattle.irig_lines.specs.declared.setup.ClockRules.{ClockRules}
use Rattle.irig_timekeeper.specs.Life.{Call}
use Rattle.irig_timekeeper.specs.Life.Call.{Hear, Tick}
use Rattle.irig_timekeeper.specs.Lived.{MadeOf}
use Rattle.record_pulses.specs.declared.edge.Edge.{Edge}
use Rattle.record_pulses.specs.declared.edge.Pulse.{Pulse}
use Rattle.record_pulses.specs.Looks.{polarity_of}
use Rattle.record_pulses.specs.Pulses.{IsOneOf, pulse_ended, pulses_of, with_pulse}
use Rattle.record_lines.specs.declared.change.Change.{Change}
use Rattle.record_lines.specs.declared.change.Held.{Held}
use Rattle.record_lines.specs.declared.pace.LinesTime.{LinesTime}
use Rattle.record_lines.specs.declared.channels.Channels.{Channels}
use Rattle.record_lines.specs.declared.receiver.Receiver.{Receiver}
use Rattle.record_lines.specs.declared.told.ToldSecond.{ToldSecond}
use Rattle.record_lines.specs.declared.recording.Recording.{Recording}
use Rattle.record_lines.specs.Changes.{changes_on, edge_of}
use Rattle.record_lines.specs.Channels.{AreChannelsOf, and_played}
use Rattle.record_lines.specs.Paces.{lines_at}
use Rattle.record_lines.specs.Passing.{HearsIf, HearsOn, TicksUntil, ticks_after}
use Rattle.record_lines.specs.Receivers.{IsReceiverOf, told_rise}
use Rattle.record_lines.specs.RecordedLines.{pulse_by}
use Rattle.record_lines.specs.Recordings.{AreOfLines, HasPlayed, IsOfLine, IsOfRecording, IsPlayedTo, PlaysOn}
use Rattle.record_lines.specs.Times.{risen_at}
use Rattle.irig_timekeeper.proofs.OrderLaws.{five}
use Rattle.record_lines.proofs.HearLaws.{may_be_told}

-- ---- more is played

-- a pulse is one of those with one more
pub one_with : (p : Pulse) (o : Option Pulse) (pulses : List Pulse) → IsOneOf p pulses → IsOneOf p (with_pulse o pulses)
one_with p None pulses is = is
one_with p (Some q) pulses is = inr is

one_later : (p : Pulse) (polarity : Bool) (line other : ℕ) (edge : Edge) (played : ℕ → List Edge) → IsOneOf p (pulses_of polarity (played other)) → IsOneOf p (pulses_of polarity (and_played line edge played other))
one_later p polarity line other edge played is = elim (cases_Bool (line == other)) [
  | inl same ↦ rw same (one_with p (pulse_ended polarity edge (played other)) (pulses_of polarity (played other)) is)
  | inr differs ↦ rw differs is
]

module _ (made : MadeOf) (seen played : ℕ → List Edge) (line : ℕ) (edge : Edge) where
  of_later : (other rise width : ℕ) → IsOfLine made seen played other rise width → IsOfLine made seen (and_played line edge played) other rise width
  of_later other rise width is = record {
    there = is.there;
    polarity = is.polarity;
    known = is.known;
    pulse = is.pulse;
    of = one_later is.pulse is.polarity line other edge played is.of;
    wide = is.wide;
    time = is.time;
    rises = is.rises;
  }

  pub all_later : (calls : List Call) → AreOfLines made seen played calls → AreOfLines made seen (and_played line edge played) calls
  all_later [] are = tt
  all_later (Hear other rise width ∷ calls) are = (of_later other rise width are.0, all_later calls are.1)
  all_later (Tick now ∷ calls) are = all_later calls are

-- ---- what waits

drop_at : {A : Type 0} (xs : List A) (n : ℕ) (x : A) → slice_get xs n ≡ Some x → drop n xs ≡ x ∷ drop (n + 1) xs
drop_at xs n x e = drop_more xs n x (slice_get_within xs n x e) ∙ ap (λ y. y ∷ drop (n + 1) xs) (get_or_from_slice_get xs n x x e)

-- without the first of them
first_played : (c : Change) (rest : List Change) (line : ℕ) (played : ℕ → List Edge) → changes_on line (c ∷ rest) ++ played line ≡ changes_on line rest ++ and_played c.line (edge_of c) played line
first_played c rest line played = elim (cases_Bool (c.line == line)) [
  | inl same ↦ rw same (append_assoc (changes_on line rest) (edge_of c ∷ []) (played line))
  | inr differs ↦ rw differs (append_assoc (changes_on line rest) [] (played line))
]

-- ---- what is told

-- a pulse that ends with a change by a polarity that is known
record EndsBy (polarity : Option Bool) (edge : Edge) (before : List Edge) (pulse : Pulse) : Type 0 where
  known : Bool
  is : polarity ≡ Some known
  ended : pulse_ended known edge before ≡ Some pulse

ends_by : (polarity : Option Bool) (edge : Edge) (before : List Edge) (pulse : Pulse) → pulse_by polarity edge before ≡ Some pulse → EndsBy polarity edge before pulse
ends_by None edge before pulse e = absurd cc
ends_by (Some known) edge before pulse e = record { known = known; is = refl; ended = e }

-- the calls after a change was played
pub record HasCalls {P : Type 0} {g : Ghosts P} (r : Receiver P g) (made : MadeOf) (start : ℕ) (seen played : ℕ → List Edge) : Type 0 where
  pub calls : List Call
  pub is : IsReceiverOf r made start calls
  pub are : AreOfLines made seen played calls

module _ {P : Type 0} {g : Ghosts P} (old new : Receiver P g) (made : MadeOf) (start : ℕ) (seen played : ℕ → List Edge) (calls : List Call) (is : IsReceiverOf old made start calls) (are : AreOfLines made seen played calls)
    (line : ℕ) (edge : Edge) (pulse : Pulse) (time : LinesTime) (ends : pulse_by (polarity_of None (seen line)) edge (played line) ≡ Some pulse) where
  heard_if : (place : ℕ) (o : Option ℕ) → told_rise old line (lines_at time pulse.rise_us) pulse.width_us ≡ o → HearsIf old new o line pulse.width_us place → HasCalls new made start seen (and_played line edge played)
  heard_if place None told hears = record {
    calls = calls;
    is = subst (λ r. IsReceiverOf r made start calls) (sym hears.1) is;
    are = all_later made seen played line edge calls are;
  }
  heard_if place (Some risen) told hears =
      let may = may_be_told old line (lines_at time pulse.rise_us) pulse.width_us risen told in
      let by = ends_by (polarity_of None (seen line)) edge (played line) pulse ends in
      record {
        calls = Hear line risen pulse.width_us ∷ calls;
        is = (hears made start calls is).is;
        are = (
          record {
            there = omega (arith, may.there, five old.clock.redundancy);
            polarity = by.known;
            known = by.is;
            pulse = pulse;
            of = rw (eq-eqb line line refl, by.ended) (inl refl);
            wide = refl;
            time = time;
            rises = subst (λ (c : ClockRules). risen_at (lines_at time pulse.rise_us) (delay_at c.delays line) ≡ Some risen) is.clock may.at;
          },
          all_later made seen played line edge calls are,
        );
      }

  pub heard : (place : ℕ) → HearsOn old new line (lines_at time pulse.rise_us) pulse.width_us place → HasCalls new made start seen (and_played line edge played)
  heard place hears = heard_if place (told_rise old line (lines_at time pulse.rise_us) pulse.width_us) refl hears

-- ---- a recording

module _ {P : Type 0} {g : Ghosts P} (old new : Recording P g) (c : Change) (place : ℕ) (made : MadeOf) (start : ℕ) (seen played : ℕ → List Edge) (calls : List Call) (is : IsPlayedTo old place made start seen played calls)
    (at : slice_get old.held.changes.items place ≡ Some c) (held : new.held ≡ old.held) (lines : AreChannelsOf new.channels seen (and_played c.line (edge_of c) played)) where
  pub played_on : HasCalls new.receiver made start seen (and_played c.line (edge_of c) played) → (more : List Call) × IsPlayedTo new (place + 1) made start seen (and_played c.line (edge_of c) played) more
  played_on has = (
    has.calls,
    record {
      receiver = has.is;
      lines = lines;
      told = has.are;
      wait = λ line.
          is.wait line
          ∙ (ap (λ cs. changes_on line cs ++ played line) (drop_at old.held.changes.items place c at)
          ∙ (first_played c (drop (place + 1) old.held.changes.items) line played
          ∙ ap (λ (h : Held). changes_on line (drop (place + 1) h.changes.items) ++ and_played c.line (edge_of c) played line) (sym held)));
    },
  )

  -- no pulse ended with it
  pub plays_none : new.receiver ≡ old.receiver → (more : List Call) × IsPlayedTo new (place + 1) made start seen (and_played c.line (edge_of c) played) more
  plays_none same = played_on (record {
    calls = calls;
    is = subst (λ r. IsReceiverOf r made start calls) (sym same) is.receiver;
    are = all_later made seen played c.line (edge_of c) calls is.told;
  })

  -- a pulse ended with it, and was told
  pub plays_one : (pulse : Pulse) (time : LinesTime) (told : ℕ) → pulse_by (polarity_of None (seen c.line)) (edge_of c) (played c.line) ≡ Some pulse
      → HearsOn old.receiver new.receiver c.line (lines_at time pulse.rise_us) pulse.width_us told → (more : List Call) × IsPlayedTo new (place + 1) made start seen (and_played c.line (edge_of c) played) more
  plays_one pulse time told ends hears = played_on (heard old.receiver new.receiver made start seen played calls is.receiver is.told c.line (edge_of c) pulse time ends told hears)

-- ---- time passes

ticks_are : (made : MadeOf) (seen played : ℕ → List Edge) (times : List ℕ) (calls : List Call) → AreOfLines made seen played calls → AreOfLines made seen played (ticks_after times calls)
ticks_are made seen played [] calls are = are
ticks_are made seen played (now ∷ times) calls are = ticks_are made seen played times calls are

module _ {P : Type 0} {g : Ghosts P} (old new : Recording P g) (place : ℕ) (made : MadeOf) (start : ℕ) (seen played : ℕ → List Edge) (calls : List Call) (is : IsPlayedTo old place made start seen played calls) (held : new.held.changes ≡ old.held.changes)
    (channels : new.channels ≡ old.channels) where
  with_calls : (more : List Call) → IsReceiverOf new.receiver made start more → AreOfLines made seen played more → IsPlayedTo new place made start seen played more
  with_calls more receiver are = record {
    receiver = receiver;
    lines = subst (λ (c : Channels). AreChannelsOf c seen played) (sym channels) is.lines;
    told = are;
    wait = λ line. is.wait line ∙ ap (λ cs. changes_on line (drop place cs.items) ++ played line) (sym held);
  }

  -- to a time, up to which nothing is told
  pub passes : (told : Option ToldSecond) → TicksUntil old.receiver new.receiver told → is_some told ≡ false → (more : List Call) × IsPlayedTo new place made start seen played more
  passes (Some second) ticks none = absurd cc
  passes None ticks none =
      let on = ticks made start calls is.receiver in
      (ticks_after on.0 calls, with_calls (ticks_after on.0 calls) on.1.is (ticks_are made seen played on.0 calls is.told))

  -- or up to a second that is told
  tells : (told : ToldSecond) → TicksUntil old.receiver new.receiver (Some told) → (more : List Call) × IsPlayedTo new place made start seen played more × IsOfRecording made seen played told
  tells told ticks =
      let on = ticks made start calls is.receiver in
      let all = told.at_us ∷ on.times in (
        ticks_after all calls,
        with_calls (ticks_after all calls) on.is (ticks_are made seen played all calls is.told),
        record {
          calls = ticks_after on.times calls;
          told = on.told;
          are = ticks_are made seen played on.times calls is.told;
        },
      )

  pub has_told : (told : Option ToldSecond) → TicksUntil old.receiver new.receiver told → is_some told ≡ true → new.held.played ≡ place → HasPlayed new told made start seen
  has_told None ticks some here = absurd cc
  has_told (Some told) ticks some here =
      let on = tells told ticks in
      record {
        played = played;
        calls = on.0;
        is = subst (λ n. IsPlayedTo new n made start seen played on.0) (sym here) on.1;
        of = λ second same. subst (IsOfRecording made seen played) (same_Some told second same) on.2;
      }

-- ---- all was played

pub none_left : {A : Type 0} (xs : List A) (n : ℕ) → xs ≡ [] → drop n xs ≡ []
none_left xs n e = ap (drop n) e ∙ drop_of_length-le [] (omega arith)

module _ {P : Type 0} {g : Ghosts P} (old new : Recording P g) (place : ℕ) (made : MadeOf) (start : ℕ) (seen played : ℕ → List Edge) (calls : List Call) (is : IsPlayedTo old place made start seen played calls) where
  pub all_played : length old.held.changes.items ≤ place → new.receiver ≡ old.receiver → new.channels ≡ old.channels → new.held.changes.items ≡ [] → HasPlayed new None made start seen
  all_played past receiver channels nothing = record {
    played = played;
    calls = calls;
    is = record {
      receiver = subst (λ r. IsReceiverOf r made start calls) (sym receiver) is.receiver;
      lines = subst (λ (c : Channels). AreChannelsOf c seen played) (sym channels) is.lines;
      told = is.told;
      wait = λ line.
          is.wait line
          ∙ (ap (λ cs. changes_on line cs ++ played line) (drop_of_length-le old.held.changes.items past)
          ∙ ap (λ cs. changes_on line cs ++ played line) (sym (none_left new.held.changes.items new.held.played nothing)));
    };
    of = λ second same. absurd cc;
  }

-- ---- time passes to a change, which is played

pub steps : {P : Type 0} {g : Ghosts P} (old mid new : Recording P g) (c : Change) (place : ℕ) (made : MadeOf) (start : ℕ) (seen played : ℕ → List Edge) (calls : List Call) → IsPlayedTo old place made start seen played calls
    → PlaysOn mid new c place → mid.held.changes ≡ old.held.changes → mid.channels ≡ old.channels → (told : Option ToldSecond) → TicksUntil old.receiver mid.receiver told → is_some told ≡ false → slice_get mid.held.changes.items place ≡ Some c
    → (later : ℕ → List Edge) × (more : List Call) × IsPlayedTo new (place + 1) made start seen later more
steps old mid new c place made start seen played calls is plays held channels told ticks none at =
    let past = passes old mid place made start seen played calls is held channels told ticks none in
    let on = plays made start seen played past.0 past.1 at in
    (and_played c.line (edge_of c) played, on.0, on.1)

-- ---- what is as it was

module _ {P : Type 0} {g : Ghosts P} (old new : Recording P g) (made : MadeOf) (start : ℕ) (seen played : ℕ → List Edge) (calls : List Call) where
  pub same_played : IsPlayedTo old old.held.played made start seen played calls → new.receiver ≡ old.receiver → new.channels ≡ old.channels → new.held ≡ old.held → IsPlayedTo new new.held.played made start seen played calls
  same_played is receiver channels held = record {
    receiver = subst (λ r. IsReceiverOf r made start calls) (sym receiver) is.receiver;
    lines = subst (λ (c : Channels). AreChannelsOf c seen played) (sym channels) is.lines;
    told = is.told;
    wait = λ line. is.wait line ∙ ap (λ (h : Held). changes_on line (drop h.played h.changes.items) ++ played line) (sym held);
  }

  pub nothing_played : IsPlayedTo old old.held.played made start seen played calls → new.receiver ≡ old.receiver → new.channels ≡ old.channels → new.held ≡ old.held → HasPlayed new None made start seen
  nothing_played is receiver channels held = record {
    played = played;
    calls = calls;
    is = same_played is receiver channels held;
    of = λ second same. absurd cc;
  }

-- after all was played time passes
pub and_passes : {P : Type 0} {g : Ghosts P} (mid new : Recording P g) (made : MadeOf) (start : ℕ) (seen : ℕ → List Edge) → HasPlayed mid None made start seen → new.held ≡ mid.held → new.channels ≡ mid.channels → (told : Option ToldSecond)
    → TicksUntil mid.receiver new.receiver told → HasPlayed new told made start seen
and_passes mid new made start seen has held channels None ticks =
    let on = passes mid new mid.held.played made start seen has.played has.calls has.is (ap (λ (h : Held). h.changes) held) channels None ticks refl in
    record {
      played = has.played;
      calls = on.0;
      is = subst (λ n. IsPlayedTo new n made start seen has.played on.0) (sym (ap (λ (h : Held). h.played) held)) on.1;
      of = λ second same. absurd cc;
    }
and_passes mid new made start seen has held channels (Some told) ticks =
    has_told mid new mid.held.played made start seen has.played has.calls has.is (ap (λ (h : Held). h.changes) held) channels (Some told) ticks refl (ap (λ (h : Held). h.played) held)

-- up to a time at which nothing was told
pub none_of : (told : Option ToldSecond) → is_some told ≡ false → told ≡ None
none_of None none = refl
none_of (Some second) none = absurd cc
