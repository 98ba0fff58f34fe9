-- What is read of a table, piece by piece.
use Rattle.std.proofs.Common.{◌≡◌, ◌≢◌, ℕ, List, [], ◌∷◌, ◌++◌, length, Option, Some, None, Result, Ok, Err, IsTrue, IsFalse, true, false, refl, append_assoc, sym, ap, ◌∙◌, subst}
use Rattle.std.specs.Prelude.{is_some, not, string_bytes}
use Rattle.std.specs.Global.{Vec}
use Rattle.std.proofs.lemmas.List.{append-nil}
use Rattle.std.proofs.lemmas.Option.{same_Some}
use Rattle.record_levels.specs.declared.levels.Levels.{Levels}
use Rattle.record_text.specs.Lines.{lines_on}
use Rattle.record_cells.specs.declared.volts.Threshold.{Threshold}
use Rattle.record_table.specs.declared.clock.Clock.{Clock}
use Rattle.record_table.specs.declared.head.Head.{Head}
use Rattle.record_table.specs.declared.head.HeadFault.{HeadFault}
use Rattle.record_table.specs.declared.head.HeadFault.TheVariants as title
use Rattle.record_table.specs.declared.head.Stage.{Stage}
use Rattle.record_table.specs.declared.head.Stage.TheVariants.{Below}
use Rattle.record_table.specs.declared.head.Stage.TheVariants as stage
use Rattle.record_table.specs.declared.changes.Changes.{Changes}
use Rattle.record_table.specs.declared.name.Name.{Name}
use Rattle.record_table.specs.declared.now.Fault.{Fault}
use Rattle.record_table.specs.Heads.{HeadEnd, is_over, value_of}
use Rattle.record_table.specs.Titles.{bytes_of}
use Rattle.record_table.specs.Changes.{Said, said}
use Rattle.record_table.specs.Changes.Said.{Change, Refused, Ends}
use Rattle.record_table.specs.Order.{AreInOrder}
use Rattle.record_table.specs.Tables.{HeadFaultFits, IsAtTop, IsBelow, IsReady, Leads, LeadsOn, below, below_by, fault_of, reading_by, to_come}
use Rattle.record_table.proofs.FileLaws.{over-stays, top-is}
use Rattle.record_table.proofs.OrderLaws.{in-order}
use Rattle.record_lines.specs.declared.second.RecordedSecond.{RecordedSecond}
use Rattle.record_verdict.specs.Verdicts.{IsVerdictOf, first_agreed}
use Rattle.report_verdict.specs.declared.line_seen.LineSeen.{LineSeen}
use Rattle.report_judge.specs.declared.asked.Asked.{Asked}
use Rattle.report_judge.specs.declared.channels.ChannelFault.{ChannelFault}
use Rattle.report_judge.specs.declared.fault.JudgeFault.TheVariants.{Table}
use Rattle.report_judge.specs.declared.hearing.Hearing.{Hearing}
use Rattle.report_judge.specs.declared.hearing.Judged.{Judged}
use Rattle.report_judge.specs.declared.table.Rows.{Rows}
use Rattle.report_judge.specs.Channels.{channel_bytes, places_named, texts_of}
use Rattle.report_judge.specs.Faults.{of_title}
use Rattle.report_judge.specs.Forms.{begins_dump, begins_table}
use Rattle.report_judge.specs.Hearings.{EndsOn, HasHeard, HearsOn, IsVerdictText, nothing_else}
use Rattle.report_judge.specs.Readings.{RefusedBy, RefusedFrom}
use Rattle.report_judge.specs.Tables.{HasReadRows, HasReadTitle, JudgedTable, columns_of, rows_say, rows_say_at, title_of, told}
use Rattle.report_judge.proofs.HearingLaws.{hears_more, shows_verdict}
use Rattle.report_judge.proofs.PartLaws.{IsPart, part-text}
use Rattle.report_judge.proofs.ReadingLaws.{follows-last, newest-time}

-- ---- the line of names

pub begins-title : (first : Head) → IsAtTop first → HasReadTitle [] first
begins-title first h more = sym (top-is first more h)

-- some bytes more of a head
pub title-leads : (old new : Head) (text taken : List ℕ) → HasReadTitle text old → LeadsOn old taken new → HasReadTitle (text ++ taken) new
title-leads old new text taken h led more = ap title_of (append_assoc text taken more) ∙ h (taken ++ more) ∙ led more

-- a head that is over is that of whatever follows
title-is : (text : List ℕ) (reader : Head) (more : List ℕ) → HasReadTitle text reader → IsTrue (is_over reader.stage)
    → title_of (text ++ more) ≡ record { head = value_of reader; lines = lines_on reader.lines more }
title-is text reader more h over = h more ∙ over-stays (value_of reader) (lines_on reader.lines more) over

pub columns-are : (names : Option (List ℕ)) (text : List ℕ) (reader : Head) (more : List ℕ) (places : Result (List ℕ) ChannelFault)
    → HasReadTitle text reader → IsTrue (is_over reader.stage) → places_named (bytes_of reader.names.items) names ≡ places
    → columns_of names (text ++ more) ≡ places
columns-are names text reader more places h over is =
    ap (λ (e : HeadEnd). places_named e.head.names names) (title-is text reader more h over) ∙ is

-- channels are chosen by their names
pub column-by-name : (names : Option (List ℕ)) (columns : List Name) (all : List (Vec ℕ)) (found : Result (List ℕ) ChannelFault)
    → texts_of all ≡ bytes_of columns → places_named (texts_of all) names ≡ found → places_named (bytes_of columns) names ≡ found
column-by-name names columns all found same is = ap (λ l. places_named l names) (sym same) ∙ is

-- why nothing is read below a head
fault-fits-by : (head : Head) (fault : HeadFault) (at : Stage) → head.stage ≡ at → fault_of at ≡ Some fault → HeadFaultFits head fault
fault-fits-by head fault stage.Above is h = subst (HeadFaultFits head) (same_Some title.Unended fault h) is
fault-fits-by head fault (stage.Below clock) is h = absurd cc
fault-fits-by head fault (stage.Refused refusal) is h = subst (HeadFaultFits head) (same_Some (title.Refused refusal) fault h) is

pub fault-fits : (head : Head) (fault : HeadFault) → fault_of head.stage ≡ Some fault → HeadFaultFits head fault
fault-fits head fault h = fault-fits-by head fault head.stage refl h

ready-by : (head : Head) (at : Stage) → head.stage ≡ at → fault_of at ≡ None → IsReady head
ready-by head stage.Above is h = absurd cc
ready-by head (stage.Below clock) is h = (clock, is)
ready-by head (stage.Refused refusal) is h = absurd cc

pub is-ready : (head : Head) → fault_of head.stage ≡ None → IsReady head
is-ready head h = ready-by head head.stage refl h

pub refused-title : (asked : Asked) (text : List ℕ) (reader : Head) (fault : HeadFault)
    → HasReadTitle text reader → IsTrue (is_over reader.stage) → HeadFaultFits reader fault
    → RefusedFrom asked text (of_title fault)
refused-title asked text reader title.Memory h over fits more = tt
refused-title asked text reader title.Unended h over fits more = absurd (let no : false ≡ true = sym (ap is_over fits) ∙ over in cc)
refused-title asked text reader (title.Refused refusal) h over fits more =
    ap (λ (e : HeadEnd). e.head.stage) (title-is text reader more h over) ∙ fits

-- ---- below it

title-says : (asked : Asked) (text : List ℕ) (reader : Head) (places : List ℕ) (clock : Clock) (changes : Changes) (more : List ℕ)
    → HasReadTitle text reader → reader.stage ≡ Below clock
    → places_named (bytes_of reader.names.items) (channel_bytes asked.channels) ≡ Ok places
    → IsBelow reader asked.threshold places clock changes
    → rows_say asked (text ++ more) ≡ Some (to_come changes more)
title-says asked text reader places clock changes more h is chosen is_below =
    let over : IsTrue (is_over reader.stage) = ap is_over is in
    let end : HeadEnd = record { head = value_of reader; lines = lines_on reader.lines more } in
    ap (λ p. rows_say_at asked.threshold p (text ++ more)) (columns-are (channel_bytes asked.channels) text reader more (Ok places) h over chosen)
    ∙ ap (below asked.threshold places) (title-is text reader more h over)
    ∙ ap (λ s. below_by s asked.threshold places end) is
    ∙ ap Some (sym (is_below more))

pub begins-rows : (asked : Asked) (text : List ℕ) (reader : Head) (places : List ℕ) (rows : Rows)
    → HasReadTitle text reader → IsReady reader
    → places_named (bytes_of reader.names.items) (channel_bytes asked.channels) ≡ Ok places
    → ((clock : Clock) → reader.stage ≡ Below clock → IsBelow reader asked.threshold places clock rows.changes)
    → HasHeard asked (length places) [] rows.hearing
    → HasReadRows asked text rows
begins-rows asked text reader places rows h ready chosen is_below heard =
    record {
      levels = [];
      says = λ more. title-says asked text reader places ready.0 rows.changes more h ready.1 chosen (is_below ready.0 ready.1);
      places = places;
      chosen = λ more. columns-are (channel_bytes asked.channels) text reader more (Ok places) h (ap is_over ready.1) chosen;
      heard = heard;
    }

-- ---- the levels of what is said

-- levels, if there are some, are the newest
abbrev with-levels : Option Levels → List Levels → List Levels
with-levels None before = before
with-levels (Some levels) before = levels ∷ before

told-more : (before : List Levels) (levels : Option Levels) (rest : List Said)
    → told before ++ (said levels ++ rest) ≡ told (with-levels levels before) ++ rest
told-more before None rest = refl
told-more before (Some levels) rest = sym (append_assoc (told before) (Change levels ∷ []) rest)

-- what is said after levels follows the newest of them
order-after : (before : List Levels) (rest : List Said) → AreInOrder None (told before ++ rest) → AreInOrder (newest-time before) rest
order-after [] rest h = h
order-after (levels ∷ before) rest h =
    (order-after before (Change levels ∷ rest) (subst (AreInOrder None) (append_assoc (told before) (Change levels ∷ []) rest) h)).1

hears-rows : (asked : Asked) (lines : ℕ) (before : List Levels) (rest : List Said) (levels : Option Levels) (old new : Hearing)
    → HasHeard asked lines before old → AreInOrder None (told before ++ (said levels ++ rest))
    → ((heard : Levels) → levels ≡ Some heard → HearsOn old new heard) → (levels ≡ None → new ≡ old) → new.as_json ≡ old.as_json
    → HasHeard asked lines (with-levels levels before) new
hears-rows asked lines before rest None old new has order some none form =
    subst (HasHeard asked lines before) (sym (none refl)) has
hears-rows asked lines before rest (Some levels) old new has order some none form =
    hears_more asked lines before levels old new has (some levels refl)
    (follows-last before levels.time_ns (order-after before (Change levels ∷ rest) order).0) form

-- all that a table says is in order
rows-in-order-by : (at : Stage) (threshold : Option Threshold) (places : List ℕ) (end : HeadEnd) (all : List Said)
    → below_by at threshold places end ≡ Some all → AreInOrder None all
rows-in-order-by stage.Above threshold places end all is = absurd cc
rows-in-order-by (stage.Below clock) threshold places end all is =
    subst (AreInOrder None) (same_Some _ all is) (in-order (reading_by clock threshold end.head places) end.lines)
rows-in-order-by (stage.Refused refusal) threshold places end all is = absurd cc

rows-in-order-at : (threshold : Option Threshold) (places : Result (List ℕ) ChannelFault) (text : List ℕ) (all : List Said)
    → rows_say_at threshold places text ≡ Some all → AreInOrder None all
rows-in-order-at threshold (Ok places) text all is = rows-in-order-by (title_of text).head.stage threshold places (title_of text) all is
rows-in-order-at threshold (Err fault) text all is = absurd cc

rows-in-order : (asked : Asked) (text : List ℕ) (all : List Said)
    → rows_say asked text ≡ Some all → AreInOrder None all
rows-in-order asked text all is = rows-in-order-at asked.threshold (columns_of (channel_bytes asked.channels) text) text all is

-- ---- bytes more

-- bytes were read, and the levels that they say were heard
module _ (asked : Asked) (text taken : List ℕ) (old new : Rows) (levels : Option Levels) (h : HasReadRows asked text old) (led : Leads old.changes taken levels new.changes) where
  says-more : (more : List ℕ) → rows_say asked ((text ++ taken) ++ more) ≡ Some (told h.levels ++ (said levels ++ to_come new.changes more))
  says-more more = ap (rows_say asked) (append_assoc text taken more)
      ∙ h.says (taken ++ more)
      ∙ ap (λ l. Some (told h.levels ++ l)) (led more)

  pub reads-rows : ((heard : Levels) → levels ≡ Some heard → HearsOn old.hearing new.hearing heard) → (levels ≡ None → new.hearing ≡ old.hearing) → new.hearing.as_json ≡ old.hearing.as_json
      → HasReadRows asked (text ++ taken) new
  reads-rows some none form = record {
    levels = with-levels levels h.levels;
    says = λ more. says-more more ∙ ap Some (told-more h.levels levels (to_come new.changes more));
    places = h.places;
    chosen = λ more. ap (columns_of (channel_bytes asked.channels)) (append_assoc text taken more) ∙ h.chosen (taken ++ more);
    heard = hears-rows asked (length h.places) h.levels (to_come new.changes []) levels old.hearing new.hearing h.heard
        (rows-in-order asked ((text ++ taken) ++ []) (told h.levels ++ (said levels ++ to_come new.changes [])) (says-more []))
        some none form;
  }

pub refuses-rows : (asked : Asked) (text : List ℕ) (old here : Rows) (bytes rest : List ℕ) (fault : Fault)
    → HasReadRows asked text old → IsPart HasReadRows old here bytes rest
    → ((more : List ℕ) → to_come here.changes (rest ++ more) ≡ Refused fault ∷ [])
    → RefusedFrom asked (text ++ bytes) (Table fault)
refuses-rows asked text old here bytes rest fault h part refuses more =
    let on = part.reads asked text h in (
      on.levels,
      ap (rows_say asked) (part-text text part.front rest bytes more part.whole)
          ∙ on.says (rest ++ more)
          ∙ ap (λ l. Some (told on.levels ++ l)) (refuses more),
    )

-- ---- at the end

-- what the last line says was heard, the recording has ended, and the verdict is shown
pub ends-rows : (asked : Asked) (text : List ℕ) (rows : Rows) (first last : Option Levels) (time : ℕ) (here heard ended : Hearing) (judged : Judged)
    → IsTrue (begins_table text) → HasReadRows asked text rows
    → to_come rows.changes [] ≡ said first ++ (said last ++ Ends time ∷ [])
    → ((l : Levels) → first ≡ Some l → HearsOn rows.hearing here l) → (first ≡ None → here ≡ rows.hearing) → here.as_json ≡ rows.hearing.as_json
    → ((l : Levels) → last ≡ Some l → HearsOn here heard l) → (last ≡ None → heard ≡ here) → heard.as_json ≡ here.as_json
    → EndsOn heard ended → ended.as_json ≡ heard.as_json
    → (seen : List LineSeen) × IsVerdictText [] ended.as_json ended.verdict seen (string_bytes judged.text)
    → ((n : ℕ) (seconds : List RecordedSecond) → IsVerdictOf ended.verdict n seconds → judged.is_decided ≡ is_some (first_agreed seconds))
    → JudgedTable asked text judged
ends-rows asked text rows first last time here heard ended judged begins h ends some none form some_last none_last form_last end form_at_end shown decided =
    let names = channel_bytes asked.channels in
    let whole = sym (append-nil text) in
    let count = length h.places in
    let before = with-levels first h.levels in
    let all = with-levels last before in
    let says : rows_say asked text ≡ Some (told h.levels ++ (said first ++ (said last ++ Ends time ∷ []))) = ap (rows_say asked) whole ∙ h.says [] ∙ ap (λ l. Some (told h.levels ++ l)) ends in
    let says_last : rows_say asked text ≡ Some (told before ++ (said last ++ Ends time ∷ [])) = says ∙ ap Some (told-more h.levels first (said last ++ Ends time ∷ [])) in
    let has = hears-rows asked count h.levels (said last ++ Ends time ∷ []) first rows.hearing here h.heard (rows-in-order asked text _ says) some none form in
    let has_all = hears-rows asked count before (Ends time ∷ []) last here heard has (rows-in-order asked text _ says_last) some_last none_last form_last in
    record {
      begins = begins;
      levels = all;
      end = time;
      says = says_last ∙ ap Some (told-more before last (Ends time ∷ []));
      places = h.places;
      chosen = ap (columns_of names) whole ∙ h.chosen [];
      verdict = shows_verdict nothing_else asked count all heard ended judged has_all end form_at_end shown decided;
    }

pub refused-at-last : (asked : Asked) (text : List ℕ) (rows : Rows) (fault : Fault)
    → HasReadRows asked text rows → to_come rows.changes [] ≡ Refused fault ∷ []
    → RefusedBy asked text (Table fault)
refused-at-last asked text rows fault h refuses = (
  h.levels,
  ap (rows_say asked) (sym (append-nil text)) ∙ h.says [] ∙ ap (λ l. Some (told h.levels ++ l)) refuses,
)

-- ---- the form

-- a text that begins as a table goes on so
pub goes-on-table : (text more : List ℕ) → IsTrue (begins_table text) → IsTrue (begins_table (text ++ more))
goes-on-table [] more h = absurd (let no : false ≡ true = h in cc)
goes-on-table (b ∷ bs) more h = h

-- what does not begin as a dump is a table
pub other-form : (bytes : List ℕ) → length bytes ≢ 0 → IsFalse (begins_dump bytes) → IsTrue (begins_table bytes)
other-form [] some h = absurd (some refl)
other-form (b ∷ bs) some h = ap not h
