-- More of a recording is told, and seen.
use Rattle.std.specs.Prelude.{◌==◌, if◌then◌else◌, drop, reverse, length, option_to_list, nat_lt, IsTrue, ◌-◌, ◌*◌}
use Rattle.std.proofs.Common.{◌≡◌, ◌≢◌, ◌∙◌, ℕ, ◌+◌, ◌<◌, ◌≤◌, arith, Bool, true, false, List, [], ◌∷◌, ◌++◌, Option, None, Some, sym, ap, subst, refl, inl, inr}
use Rattle.std.proofs.lemmas.Bool.{cases_Bool, eqb-true, eqb-false, lt-ltb, le-ltb, ltb-true, ltb-false, leb-true, le-leb}
use Rattle.std.proofs.lemmas.List.{append_assoc, append-nil, drop-append-le, reverse-append}
use Rattle.irig_port.specs.declared.port.Port.{Ghosts}
use Rattle.irig_vote.specs.Vote.{ports_in}
use Rattle.irig_timekeeper.specs.Life.{Call}
use Rattle.irig_timekeeper.specs.Life.Call.{Hear, Tick}
use Rattle.irig_timekeeper.specs.Lived.{MadeOf}
use Rattle.record_levels.specs.declared.levels.Levels.{Levels}
use Rattle.record_pulses.specs.declared.edge.Edge.{Edge}
use Rattle.record_pulses.specs.Looks.{heard_of, polarity_by, polarity_of}
use Rattle.record_lines.specs.declared.change.Change.{Change}
use Rattle.record_lines.specs.declared.change.Held.{Held}
use Rattle.record_lines.specs.declared.channels.Channels.{Channels}
use Rattle.record_lines.specs.declared.recording.Recording.{Recording}
use Rattle.record_lines.specs.Changes.{changes_on, edge_of}
use Rattle.record_lines.specs.Channels.{AreChannelsTo, LineEnds, LineIsTold, LineRipens, and_on, level_in, no_edges, told_of_lines}
use Rattle.record_lines.specs.Helds.{HoldsMore, has_room, room, waiting_on}
use Rattle.record_lines.specs.Receivers.{IsReceiverOf}
use Rattle.record_lines.specs.Recordings.{AreOfLines, IsNewRecording, IsToldLevel, IsEndedOn, IsToldLevels, IsToldOn, IsToldTo, SeesMore, newest, until_of}
use Rattle.record_lines.specs.Heard.{IsChannelTo}
use Rattle.record_lines.proofs.HeardLaws.{channel_ends, channel_later}
use Rattle.record_lines.proofs.PlayLaws.{none_left, same_played}

-- ---- what waits

-- one change more
changes_more : (line : ℕ) (xs : List Change) (c : Change) → changes_on line (xs ++ c ∷ []) ≡ (if c.line == line then edge_of c ∷ [] else []) ++ changes_on line xs
changes_more line [] c = sym (append-nil (if c.line == line then edge_of c ∷ [] else []))
changes_more line (x ∷ xs) c =
    let own = if x.line == line then edge_of x ∷ [] else [] in
    let one = if c.line == line then edge_of c ∷ [] else [] in
    ap (λ ys. ys ++ own) (changes_more line xs c) ∙ append_assoc one (changes_on line xs) own

one_on : (c : Change) (line other : ℕ) (edge : Edge) → c.line ≡ line → edge_of c ≡ edge → (if c.line == other then edge_of c ∷ [] else []) ≡ (if line == other then edge ∷ [] else [])
one_on c line other edge here is = ap (λ n. if n == other then edge_of c ∷ [] else []) here ∙ ap (λ (e : Edge). if line == other then e ∷ [] else []) is

pub holds_one : (old new : Held) (line : ℕ) (edge : Edge) (o : Option Edge) (c : Change) → o ≡ Some edge → c.line ≡ line → edge_of c ≡ edge → (0 < room old → new.changes.items ≡ old.changes.items ++ c ∷ []) → new.played ≡ old.played → room old ≤ room new + 1
    → HoldsMore old new line o
holds_one old new line edge o c some here is more played fits = record {
  played = played;
  fits = fits;
  wait = λ has other.
      ap (λ n. changes_on other (drop n new.changes.items)) played
      ∙ (ap (λ xs. changes_on other (drop old.played xs)) (more has)
      ∙ (ap (changes_on other) (drop-append-le old.played old.changes.items (c ∷ []) old.few)
      ∙ (changes_more other (drop old.played old.changes.items) c
      ∙ (ap (λ xs. xs ++ waiting_on other old) (one_on c line other edge here is)
      ∙ ap (λ (p : Option Edge). (if line == other then option_to_list p else []) ++ waiting_on other old) (sym some)))));
}

pub holds_none : (old : Held) (line : ℕ) (o : Option Edge) → o ≡ None → HoldsMore old old line o
holds_none old line o none = record {
  played = refl;
  fits = omega arith;
  wait = λ has other. sym (ap (λ xs. xs ++ waiting_on other old) (nothing other));
}
  where
    nothing : (other : ℕ) → (if line == other then option_to_list o else []) ≡ []
    nothing other = elim (cases_Bool (line == other)) [ inl same ↦ rw (same, none) refl | inr differs ↦ rw differs refl ]

-- ---- what is seen

-- a polarity that is known stays
known_on : (xs : List Edge) (edge : Option Edge) (polarity : Bool) → polarity_of None (reverse xs) ≡ Some polarity → polarity_of None (reverse (xs ++ option_to_list edge)) ≡ Some polarity
known_on xs None polarity known = subst (λ ys. polarity_of None (reverse ys) ≡ Some polarity) (sym (append-nil xs)) known
known_on xs (Some c) polarity known =
    let all = reverse xs in
    ap (polarity_of None) (reverse-append xs (c ∷ [])) ∙ ap (λ p. polarity_by p (heard_of true c all) (heard_of false c all)) known

known_of : (line other : ℕ) (edge : Option Edge) (seen : ℕ → List Edge) (polarity : Bool) → polarity_of None (newest seen other) ≡ Some polarity → polarity_of None (newest (and_on line (option_to_list edge) seen) other) ≡ Some polarity
known_of line other edge seen polarity known = elim (cases_Bool (line == other)) [
  | inl same ↦ rw same (known_on (seen other) edge polarity known)
  | inr differs ↦ rw differs known
]

told_still : (made : MadeOf) (line : ℕ) (edge : Option Edge) (seen played : ℕ → List Edge) (calls : List Call) → AreOfLines made (newest seen) played calls → AreOfLines made (newest (and_on line (option_to_list edge) seen)) played calls
told_still made line edge seen played [] are = tt
told_still made line edge seen played (Hear other rise width ∷ calls) are = (
  record {
    there = are.0.there;
    polarity = are.0.polarity;
    known = known_of line other edge seen are.0.polarity are.0.known;
    pulse = are.0.pulse;
    of = are.0.of;
    wide = are.0.wide;
    time = are.0.time;
    rises = are.0.rises;
  },
  told_still made line edge seen played calls are.1,
)
told_still made line edge seen played (Tick now ∷ calls) are = told_still made line edge seen played calls are

newest_one : (xs : List Edge) (edge : Option Edge) → reverse (xs ++ option_to_list edge) ≡ option_to_list edge ++ reverse xs
newest_one xs None = ap reverse (append-nil xs)
newest_one xs (Some c) = reverse-append xs (c ∷ [])

newest_of : (line other : ℕ) (edge : Option Edge) (seen : ℕ → List Edge) → newest (and_on line (option_to_list edge) seen) other ≡ (if line == other then option_to_list edge else []) ++ newest seen other
newest_of line other edge seen = elim (cases_Bool (line == other)) [
  | inl same ↦ rw same (newest_one (seen other) edge)
  | inr differs ↦ rw differs refl
]

module _ {P : Type 0} {g : Ghosts P} (old new : Recording P g) (line : ℕ) (edge : Option Edge) (glitch : ℕ) (until : Option ℕ) (told seen played : ℕ → List Edge) (receiver : new.receiver ≡ old.receiver) (holds : HoldsMore old.held new.held line edge) (has : 0 < room old.held)
    (are : AreChannelsTo new.channels glitch until told (and_on line (option_to_list edge) seen) played) where
  pub sees_on : SeesMore old new seen (and_on line (option_to_list edge) seen) played
  sees_on made start calls is = record {
    receiver = subst (λ r. IsReceiverOf r made start calls) (sym receiver) is.receiver;
    lines = λ other channel at. (are other channel at).line;
    told = told_still made line edge seen played calls is.told;
    wait = λ other.
        let more = if line == other then option_to_list edge else [] in
        newest_of line other edge seen
        ∙ (ap (λ xs. more ++ xs) (is.wait other)
        ∙ (sym (append_assoc more (waiting_on other old.held) (played other))
        ∙ ap (λ xs. xs ++ played other) (sym (holds.wait has other))));
  }

-- ---- a level

-- what is told and seen of each line may be said in another way
pub said_so : (channels : Channels) (glitch : ℕ) (until : Option ℕ) (told other seen played : ℕ → List Edge) → ((line : ℕ) → told line ≡ other line) → AreChannelsTo channels glitch until told seen played → AreChannelsTo channels glitch until other seen played
said_so channels glitch until told other seen played same are line channel at = subst (λ xs. IsChannelTo channel glitch until xs (seen line) (played line)) (same line) (are line channel at)

-- time passes, and nothing is told
pub all_later : (channels : Channels) (glitch now time : ℕ) (told seen played : ℕ → List Edge) → AreChannelsTo channels glitch (Some now) told seen played → now ≤ time → AreChannelsTo channels glitch (Some time) told seen played
all_later channels glitch now time told seen played are later line channel at = channel_later channel glitch now time (told line) (seen line) (played line) (are line channel at) later

-- a level of a line is told: what was ripe is seen, and what comes out with it
pub told_level : {P : Type 0} {g : Ghosts P} (old mid new : Recording P g) (ripened told_more : Channels) (line : ℕ) (level : Edge) (ripe lasting : Option Edge) → LineRipens old.channels ripened line level.time_ns ripe → mid.channels ≡ ripened
    → mid.receiver ≡ old.receiver → HoldsMore old.held mid.held line ripe → LineIsTold mid.channels told_more line level lasting → new.channels ≡ told_more → new.receiver ≡ mid.receiver → HoldsMore mid.held new.held line lasting
    → IsToldLevel old new line level
told_level old mid new ripened told_more line level ripe lasting ripens at_mid receiver holds told at_new receiver_new holds_new glitch now all seen played are later has =
    let first = and_on line (option_to_list ripe) seen in
    let then_seen = and_on line (option_to_list lasting) first in
    let are_mid = subst (λ c. AreChannelsTo c glitch (Some level.time_ns) all first played) (sym at_mid) (ripens glitch now all seen played are later) in
    let are_new = subst (λ c. AreChannelsTo c glitch (Some level.time_ns) (and_on line (level ∷ []) all) then_seen played) (sym at_new) (told glitch level.time_ns all first played are_mid (omega arith)) in
    let fits = holds.fits in
    record {
      more = then_seen;
      are = are_new;
      sees = λ made start calls is.
          sees_on mid new line lasting glitch (Some level.time_ns) (and_on line (level ∷ []) all) first played receiver_new holds_new (omega (arith, has, fits)) are_new made start calls
          (sees_on old mid line ripe glitch (Some level.time_ns) all seen played receiver holds (omega (arith, has)) are_mid made start calls is);
    }

-- ---- levels of all lines

-- those of the first so many and of one more
next_line : (levels : Levels) (told : ℕ → List Edge) (k line : ℕ) → and_on k (level_in levels k ∷ []) (told_of_lines k levels told) line ≡ told_of_lines (k + 1) levels told line
next_line levels told k line = elim (cases_Bool (k == line)) [
  | inl same ↦
      let here : k ≡ line = eqb-true k line same in
      rw (same, nat_lt_no line k (omega (arith, here)), lt-ltb line (k + 1) (omega (arith, here))) (ap (λ n. told line ++ level_in levels n ∷ []) here)
  | inr differs ↦ rw differs (ap (λ b. if b then told line ++ level_in levels line ∷ [] else told line) (same_lt line k (eqb-false k line differs)))
]
  where
    nat_lt_no : (a b : ℕ) → b ≤ a → nat_lt a b ≡ false
    nat_lt_no a b low = le-ltb a b low

    same_lt : (a b : ℕ) → b ≢ a → nat_lt a b ≡ nat_lt a (b + 1)
    same_lt a b other = elim (cases_Bool (nat_lt a b)) [
      | inl less ↦ less ∙ sym (lt-ltb a (b + 1) (let it = ltb-true a b less in omega (arith, it)))
      | inr more ↦ more ∙ sym (le-ltb a (b + 1) (let it = ltb-false a b more in let ne = other in omega (arith, it, ne)))
    ]

-- levels were told of the first so many lines of a recording, up to the last one
pub record HasTold {P : Type 0} {g : Ghosts P} (old now : Recording P g) (levels : Levels) (lines last : ℕ) : Type 0 where
  pub last_is : last ≡ old.lines
  pub few : last ≤ 5
  pub within : lines ≤ last
  pub same : now.lines ≡ old.lines
  pub time : now.now_ns ≡ levels.time_ns
  pub goes : now.end_us ≡ old.end_us
  pub told : (glitch : ℕ) (told seen played : ℕ → List Edge) → AreChannelsTo old.channels glitch (Some old.now_ns) told seen played → old.now_ns ≤ levels.time_ns → IsTrue (has_room old.held)
      → IsToldTo old now glitch (Some levels.time_ns) (told_of_lines lines levels told) seen played
  pub fits : IsTrue (has_room old.held) → 2 * (last - lines) ≤ room now.held

has_ten : (h : Held) → IsTrue (has_room h) → 10 ≤ room h
has_ten h has = let it = leb-true (length h.changes.items + 10) 4096 has in omega (arith, it)

pub told_none : {P : Type 0} {g : Ghosts P} (old now : Recording P g) (levels : Levels) (last : ℕ) → last ≡ old.lines → last ≤ 5 → now.lines ≡ old.lines → now.channels ≡ old.channels → now.receiver ≡ old.receiver → now.held ≡ old.held → now.now_ns ≡ levels.time_ns → now.end_us ≡ old.end_us → HasTold old now levels 0 last
told_none old now levels last last_is few same channels receiver held time goes = record {
  time = time;
  goes = goes;
  last_is = last_is;
  few = few;
  within = omega arith;
  same = same;
  told = λ glitch told seen played are later has. record {
    more = seen;
    are = said_so now.channels glitch (Some levels.time_ns) told (told_of_lines 0 levels told) seen played (λ line. none_yet told line)
        (subst (λ c. AreChannelsTo c glitch (Some levels.time_ns) told seen played) (sym channels) (all_later old.channels glitch old.now_ns levels.time_ns told seen played are later));
    sees = λ made start calls is. same_played old now made start (newest seen) played calls is receiver channels held;
  };
  fits = λ has. let ten = has_ten old.held has in let it = ap room held in omega (arith, ten, few, it);
}
  where
    none_yet : (told : ℕ → List Edge) (line : ℕ) → told line ≡ told_of_lines 0 levels told line
    none_yet told line = rw (le-ltb line 0 (omega arith)) refl

pub told_one : {P : Type 0} {g : Ghosts P} (old mid new : Recording P g) (levels : Levels) (line last : ℕ) (level : Edge) → HasTold old mid levels line last → line < last → level ≡ level_in levels line → IsToldLevel mid new line level
    → room mid.held ≤ room new.held + 2 → new.lines ≡ mid.lines → new.now_ns ≡ mid.now_ns → new.end_us ≡ mid.end_us → HasTold old new levels (line + 1) last
told_one old mid new levels line last level has less is one fits same time_same goes_same = record {
  time = time_same ∙ has.time;
  goes = goes_same ∙ has.goes;
  last_is = has.last_is;
  few = has.few;
  within = omega (arith, less);
  same = same ∙ has.same;
  told = λ glitch told seen played are later roomy.
      let before = has.told glitch told seen played are later roomy in
      let left = has.fits roomy in
      let time : levels.time_ns ≤ level.time_ns = let it = ap (λ (e : Edge). e.time_ns) is in omega (arith, it) in
      let on = one glitch levels.time_ns (told_of_lines line levels told) before.more played before.are time (omega (arith, left, less)) in
      record {
        more = on.more;
        are = said_so new.channels glitch (Some levels.time_ns) (and_on line (level_in levels line ∷ []) (told_of_lines line levels told)) (told_of_lines (line + 1) levels told) on.more played (next_line levels told line)
            (subst (λ (e : Edge). AreChannelsTo new.channels glitch (Some e.time_ns) (and_on line (e ∷ []) (told_of_lines line levels told)) on.more played) is on.are);
        sees = λ made start calls played_to. on.sees made start calls (before.sees made start calls played_to);
      };
  fits = λ roomy. let left = has.fits roomy in omega (arith, left, fits, less);
}

pub told_all : {P : Type 0} {g : Ghosts P} (old now : Recording P g) (levels : Levels) (line last : ℕ) → HasTold old now levels line last → last ≤ line → IsToldLevels old now levels
told_all old now levels line last has end glitch told seen played are later roomy =
    let all : line ≡ old.lines = let w = has.within in let l = has.last_is in omega (arith, w, l, end) in
    subst (λ n. IsToldTo old now glitch (Some levels.time_ns) (told_of_lines n levels told) seen played) all (has.told glitch told seen played are later roomy)

-- ---- a recording of what was told

-- levels more were told of it
pub recording_told : {P : Type 0} {g : Ghosts P} (old now : Recording P g) (levels : Levels) (line last : ℕ) → HasTold old now levels line last → last ≤ line → IsToldOn old now levels
recording_told old now levels line last has end made glitch told is goes later roomy =
    let old_until : until_of old.end_us old.now_ns ≡ Some old.now_ns = ap (λ e. until_of e old.now_ns) goes in
    let until : Some levels.time_ns ≡ until_of now.end_us now.now_ns = sym (ap (λ e. until_of e now.now_ns) (has.goes ∙ goes) ∙ ap Some has.time) in
    let on = told_all old now levels line last has end glitch told is.seen is.played (subst (λ u. AreChannelsTo old.channels glitch u told is.seen is.played) old_until is.channels) later roomy in
    record {
      seen = on.more;
      played = is.played;
      calls = is.calls;
      count = has.same ∙ is.count;
      channels = subst (λ u. AreChannelsTo now.channels glitch u (told_of_lines (ports_in made.clock.redundancy) levels told) on.more is.played) until
          (subst (λ n. AreChannelsTo now.channels glitch (Some levels.time_ns) (told_of_lines n levels told) on.more is.played) is.count on.are);
      is = on.sees made 0 is.calls is.is;
    }

-- ---- its end

-- what waited on the first so many lines came out, up to the last one
pub record HasEnded {P : Type 0} {g : Ghosts P} (old now : Recording P g) (lines last : ℕ) : Type 0 where
  pub few : last ≤ 5
  pub within : lines ≤ last
  pub same : now.lines ≡ old.lines
  pub ended : (glitch : ℕ) (told seen played : ℕ → List Edge) → AreChannelsTo old.channels glitch None told seen played → IsTrue (has_room old.held) → IsToldTo old now glitch None told seen played
  pub fits : IsTrue (has_room old.held) → last - lines ≤ room now.held

pub ended_none : {P : Type 0} {g : Ghosts P} (old : Recording P g) (last : ℕ) → last ≤ 5 → HasEnded old old 0 last
ended_none old last few = record {
  few = few;
  within = omega arith;
  same = refl;
  ended = λ glitch told seen played are has. record { more = seen; are = are; sees = λ made start calls is. is };
  fits = λ has. let ten = has_ten old.held has in omega (arith, ten, few);
}

pub ended_one : {P : Type 0} {g : Ghosts P} (old mid new : Recording P g) (out : Channels) (line last : ℕ) (edge : Option Edge) → HasEnded old mid line last → line < last → LineEnds mid.channels out line edge → new.channels ≡ out
    → new.receiver ≡ mid.receiver → HoldsMore mid.held new.held line edge → new.lines ≡ mid.lines → HasEnded old new (line + 1) last
ended_one old mid new out line last edge has less ends at receiver holds same = record {
  few = has.few;
  within = omega (arith, less);
  same = same ∙ has.same;
  ended = λ glitch told seen played are roomy.
      let before = has.ended glitch told seen played are roomy in
      let left = has.fits roomy in
      let are_new = subst (λ c. AreChannelsTo c glitch None told (and_on line (option_to_list edge) before.more) played) (sym at) (ends glitch told before.more played before.are) in
      record {
        more = and_on line (option_to_list edge) before.more;
        are = are_new;
        sees = λ made start calls is. sees_on mid new line edge glitch None told before.more played receiver holds (omega (arith, left, less)) are_new made start calls (before.sees made start calls is);
      };
  fits = λ roomy. let left = has.fits roomy in let fits = holds.fits in omega (arith, left, fits, less);
}

pub recording_ended : {P : Type 0} {g : Ghosts P} (old mid now : Recording P g) (line last time : ℕ) → HasEnded old mid line last → now.channels ≡ mid.channels → now.receiver ≡ mid.receiver → now.held ≡ mid.held → now.lines ≡ mid.lines
    → now.end_us ≡ Some time → IsEndedOn old now
recording_ended old mid now line last time has channels receiver held same end made glitch told is roomy =
    let until : None ≡ until_of now.end_us now.now_ns = sym (ap (λ e. until_of e now.now_ns) end) in
    let are : AreChannelsTo old.channels glitch None told is.seen is.played = λ line channel at. channel_ends channel glitch (until_of old.end_us old.now_ns) (told line) (is.seen line) (is.played line) (is.channels line channel at) in
    let on = has.ended glitch told is.seen is.played are roomy in
    record {
      seen = on.more;
      played = is.played;
      calls = is.calls;
      count = same ∙ (has.same ∙ is.count);
      channels = subst (λ u. AreChannelsTo now.channels glitch u told on.more is.played) until (subst (λ c. AreChannelsTo c glitch None told on.more is.played) (sym channels) on.are);
      is = same_played mid now made 0 (newest on.more) is.played is.calls (on.sees made 0 is.calls is.is) receiver channels held;
    }

-- ---- its beginning

pub recording_new : {P : Type 0} {g : Ghosts P} (r : Recording P g) (made : MadeOf) (glitch : ℕ) → IsReceiverOf r.receiver made 0 [] → r.lines ≡ ports_in made.clock.redundancy → AreChannelsTo r.channels glitch (Some 0) no_edges no_edges no_edges
    → r.held.changes.items ≡ [] → room r.held ≡ 4096 → r.now_ns ≡ 0 → r.end_us ≡ None → IsNewRecording r made glitch
recording_new r made glitch receiver count channels nothing free now goes =
    let until : Some 0 ≡ until_of r.end_us r.now_ns = sym (ap (λ e. until_of e r.now_ns) goes ∙ ap Some now) in
    record {
      is = record {
        seen = no_edges;
        played = no_edges;
        calls = [];
        count = count;
        channels = subst (λ u. AreChannelsTo r.channels glitch u no_edges no_edges no_edges) until channels;
        is = record {
          receiver = receiver;
          lines = λ line channel at. (channels line channel at).line;
          told = tt;
          wait = λ line. sym (ap (λ cs. changes_on line cs ++ []) (none_left r.held.changes.items r.held.played nothing));
        };
      };
      now = now;
      goes = goes;
      room = le-leb (length r.held.changes.items + 10) 4096 (omega (arith, free));
    }
