-- What is heard of a recording, level by level.
use Rattle.std.proofs.Common.{◌≡◌, ◌∙◌, ℕ, ◌≤◌, Bool, List, [], ◌∷◌, Option, Some, None, IsTrue, is_some, sym, ap, subst, arith, max}
use Rattle.std.specs.Prelude.{string_bytes}
use Rattle.irig_vote.specs.declared.redundancy.Redundancy.{Redundancy}
use Rattle.irig_vote.specs.Vote.{ports_in}
use Rattle.irig_timekeeper.specs.Lived.{MadeOf}
use Rattle.record_levels.specs.declared.levels.Levels.{Levels}
use Rattle.record_pulses.specs.declared.edge.Edge.{Edge}
use Rattle.record_lines.specs.declared.second.RecordedSecond.{RecordedSecond}
use Rattle.record_lines.specs.Channels.{no_edges, told_of_lines}
use Rattle.record_lines.specs.Helds.{has_room}
use Rattle.record_lines.specs.Recordings.{IsEndedOn, IsNewRecording, IsPlayedOn, IsRecordingOf, IsToldOn, until_of}
use Rattle.record_verdict.specs.declared.verdict.Verdict.{Verdict}
use Rattle.record_verdict.specs.Verdicts.{IsVerdictOf, first_agreed}
use Rattle.report_verdict.specs.declared.line_seen.LineSeen.{LineSeen}
use Rattle.record_lines.proofs.OnLaws.{stays_end, stays_levels}
use Rattle.report_judge.specs.declared.asked.Asked.{Asked}
use Rattle.report_judge.specs.declared.hearing.Hearing.{Hearing}
use Rattle.report_judge.specs.declared.hearing.Judged.{Judged}
use Rattle.report_judge.specs.Channels.{redundancy_of}
use Rattle.report_judge.specs.Hearings.{AreCarried, EndsOn, HasHeard, HearsOn, IsTaking, IsVerdictOn, IsVerdictText, TakesOn, glitch_of, last_time, told_by}

-- seconds that were carried stay so behind levels more
pub carried_on : (made : MadeOf) (glitch now lines : ℕ) (levels : Levels) (told : ℕ → List Edge) (seconds : List RecordedSecond) → now ≤ levels.time_ns → AreCarried made glitch (Some now) told seconds
    → AreCarried made glitch (Some levels.time_ns) (told_of_lines lines levels told) seconds
carried_on made glitch now lines levels told [] later are = tt
carried_on made glitch now lines levels told (second ∷ seconds) later are =
    (stays_levels made glitch now lines levels told second are.0 later, carried_on made glitch now lines levels told seconds later are.1)

-- and behind the end
pub carried_to_end : (made : MadeOf) (glitch : ℕ) (until : Option ℕ) (told : ℕ → List Edge) (seconds : List RecordedSecond) → AreCarried made glitch until told seconds → AreCarried made glitch None told seconds
carried_to_end made glitch until told [] are = tt
carried_to_end made glitch until told (second ∷ seconds) are =
    (stays_end made glitch until told second are.0, carried_to_end made glitch until told seconds are.1)

-- ---- what is taken

until_same : (a b : Option ℕ) (m n : ℕ) → a ≡ b → m ≡ n → until_of b n ≡ until_of a m
until_same a b m n e t = sym (ap (λ x. until_of x m) e ∙ ap (until_of b) t)

-- the next second that the recording shows
pub takes_one : (old new : Hearing) (second : RecordedSecond) → IsPlayedOn old.recording new.recording (Some second) → new.recording.now_ns ≡ old.recording.now_ns → new.recording.end_us ≡ old.recording.end_us
    → ((n : ℕ) (seconds : List RecordedSecond) → IsVerdictOf old.verdict n seconds → IsVerdictOf new.verdict n (second ∷ seconds)) → TakesOn old new
takes_one old new second played time end verdict made glitch told is =
    let until = until_same new.recording.end_us old.recording.end_us new.recording.now_ns old.recording.now_ns end time in
    record {
      recording = played.is made glitch told is.recording;
      seconds = second ∷ is.seconds;
      verdict = verdict (ports_in made.clock.redundancy) is.seconds is.verdict;
      carried = subst (λ u. AreCarried made glitch u told (second ∷ is.seconds)) until (played.carried made glitch told is.recording, is.carried);
    }

-- it shows no more
pub takes_none : (old new : Hearing) → IsPlayedOn old.recording new.recording None → new.recording.now_ns ≡ old.recording.now_ns → new.recording.end_us ≡ old.recording.end_us → new.verdict ≡ old.verdict → TakesOn old new
takes_none old new played time end verdict made glitch told is =
    let until = until_same new.recording.end_us old.recording.end_us new.recording.now_ns old.recording.now_ns end time in
    record {
      recording = played.is made glitch told is.recording;
      seconds = is.seconds;
      verdict = subst (λ v. IsVerdictOf v (ports_in made.clock.redundancy) is.seconds) (sym verdict) is.verdict;
      carried = subst (λ u. AreCarried made glitch u told is.seconds) until is.carried;
    }

pub then_takes : (a b c : Hearing) → TakesOn a b → TakesOn b c → TakesOn a c
then_takes a b c first second made glitch told is = second made glitch told (first made glitch told is)

-- ---- levels

-- levels were told, and what they show was taken
pub hears_levels : (old mid new : Hearing) (levels : Levels) → IsToldOn old.recording mid.recording levels → mid.recording.end_us ≡ old.recording.end_us → mid.recording.now_ns ≡ max old.recording.now_ns levels.time_ns → mid.verdict ≡ old.verdict
    → TakesOn mid new → new.recording.now_ns ≡ mid.recording.now_ns → new.recording.end_us ≡ mid.recording.end_us → IsTrue (has_room new.recording.held) → HearsOn old new levels
hears_levels old mid new levels told end now verdict takes time ended room made glitch before is later =
    let lines = ports_in made.clock.redundancy in
    let forward : old.recording.now_ns ≤ levels.time_ns = let t = is.time in omega (arith, t, later) in
    let at_mid : mid.recording.now_ns ≡ levels.time_ns = omega (arith, now, forward) in
    let goes : mid.recording.end_us ≡ None = end ∙ is.goes in
    let until_old : until_of old.recording.end_us old.recording.now_ns ≡ Some (last_time before) = ap (λ e. until_of e old.recording.now_ns) is.goes ∙ ap Some is.time in
    let until_mid : Some levels.time_ns ≡ until_of mid.recording.end_us mid.recording.now_ns = sym (ap (λ e. until_of e mid.recording.now_ns) goes ∙ ap Some at_mid) in
    let were = subst (λ u. AreCarried made glitch u (told_by lines before) is.taking.seconds) until_old is.taking.carried in
    let mid_is : IsTaking mid made glitch (told_by lines (levels ∷ before)) = record {
      recording = told made glitch (told_by lines before) is.taking.recording is.goes forward is.room;
      seconds = is.taking.seconds;
      verdict = subst (λ v. IsVerdictOf v lines is.taking.seconds) (sym verdict) is.taking.verdict;
      carried = subst (λ u. AreCarried made glitch u (told_by lines (levels ∷ before)) is.taking.seconds) until_mid (carried_on made glitch (last_time before) lines levels (told_by lines before) is.taking.seconds later were);
    } in
    record {
      taking = takes made glitch (told_by lines (levels ∷ before)) mid_is;
      goes = ended ∙ goes;
      time = time ∙ at_mid;
      room = room;
    }

-- the recording ended, and what that shows was taken
pub hears_end : (old mid new : Hearing) (time : ℕ) → IsEndedOn old.recording mid.recording → mid.recording.end_us ≡ Some time → mid.verdict ≡ old.verdict → TakesOn mid new → EndsOn old new
hears_end old mid new time ended end verdict takes made glitch levels is =
    let lines = ports_in made.clock.redundancy in
    let told = told_by lines levels in
    let until_mid : None ≡ until_of mid.recording.end_us mid.recording.now_ns = sym (ap (λ e. until_of e mid.recording.now_ns) end) in
    takes made glitch told (record {
      recording = ended made glitch told is.taking.recording is.room;
      seconds = is.taking.seconds;
      verdict = subst (λ v. IsVerdictOf v lines is.taking.seconds) (sym verdict) is.taking.verdict;
      carried = subst (λ u. AreCarried made glitch u told is.taking.seconds) until_mid (carried_to_end made glitch (until_of old.recording.end_us old.recording.now_ns) told is.taking.seconds is.taking.carried);
    })

-- ---- by what is asked

-- nothing was heard
pub heard_nothing : (asked : Asked) (lines : ℕ) (redundancy : Redundancy) (made : MadeOf) (ports glitch : ℕ) (h : Hearing) → IsNewRecording h.recording made glitch → glitch ≡ glitch_of asked → made.rules ≡ asked.rules → made.clock.redundancy ≡ redundancy
    → redundancy_of lines ≡ Some redundancy → ports ≡ ports_in redundancy → IsVerdictOf h.verdict ports [] → h.as_json ≡ asked.as_json → HasHeard asked lines [] h
heard_nothing asked lines redundancy made ports glitch h new lasts rules same is count verdict form = record {
  made = made;
  for = record { rules = rules; redundancy = is ∙ ap Some (sym same) };
  heard = record {
    taking = record {
      recording = subst (λ n. IsRecordingOf h.recording made n no_edges) lasts new.is;
      seconds = [];
      verdict = subst (λ n. IsVerdictOf h.verdict n []) (count ∙ ap ports_in (sym same)) verdict;
      carried = tt;
    };
    goes = new.goes;
    time = new.now;
    room = new.room;
  };
  form = form;
}

-- levels more were heard
pub hears_more : (asked : Asked) (lines : ℕ) (before : List Levels) (levels : Levels) (old new : Hearing) → HasHeard asked lines before old → HearsOn old new levels → last_time before ≤ levels.time_ns → new.as_json ≡ old.as_json
    → HasHeard asked lines (levels ∷ before) new
hears_more asked lines before levels old new has hears later form = record {
  made = has.made;
  for = has.for;
  heard = hears has.made (glitch_of asked) before has.heard later;
  form = form ∙ has.form;
}

-- the recording has ended, and the verdict is shown
pub shows_verdict : (said : Verdict → List ℕ) (asked : Asked) (lines : ℕ) (levels : List Levels) (old new : Hearing) (judged : Judged) → HasHeard asked lines levels old → EndsOn old new → new.as_json ≡ old.as_json
    → (seen : List LineSeen) × IsVerdictText (said new.verdict) new.as_json new.verdict seen (string_bytes judged.text)
    → ((n : ℕ) (seconds : List RecordedSecond) → IsVerdictOf new.verdict n seconds → judged.is_decided ≡ is_some (first_agreed seconds))
    → IsVerdictOn said asked lines levels judged
shows_verdict said asked lines levels old new judged has ends form shown decided =
    let count = ports_in has.made.clock.redundancy in
    let taking = ends has.made (glitch_of asked) levels has.heard in
    record {
      made = has.made;
      for = has.for;
      seconds = taking.seconds;
      carried = carried_to_end has.made (glitch_of asked) (until_of new.recording.end_us new.recording.now_ns) (told_by count levels) taking.seconds taking.carried;
      verdict = new.verdict;
      of = taking.verdict;
      text = (shown.0, subst (λ (b : Bool). IsVerdictText (said new.verdict) b new.verdict shown.0 (string_bytes judged.text)) (form ∙ has.form) shown.1);
      decided = decided count taking.seconds taking.verdict;
    }
