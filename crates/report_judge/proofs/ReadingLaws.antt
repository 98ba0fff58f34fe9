-- What is read of a recording, piece by piece.
use Rattle.std.proofs.Common.{◌≡◌, ◌≤◌, ℕ, Bool, List, [], ◌∷◌, ◌++◌, map, take, drop, length, Option, Some, None, Result, Ok, Err, IsTrue, IsFalse, IsSome, IfOk, IfSome, is_some, true, false, refl, append_assoc, sym, ap, ◌∙◌, subst, arith, codes}
use Rattle.std.specs.Prelude.{if◌then◌else◌, nat_lt, slice_index_or, string_bytes}
use Rattle.std.specs.Str.{bytes_eq}
use Rattle.std.proofs.lemmas.Slice.Eq.{bytes_eq-Decides}
use Rattle.std.specs.Global.{Vec}
use Rattle.std.specs.Io.KnownBytes.{Consumes, IsAtEnd}
use Rattle.std.proofs.lemmas.List.{append-nil, length-append, take-append-drop}
use Rattle.std.proofs.lemmas.Option.{same_Some}
use Rattle.record_levels.specs.Limits.{Follows}
use Rattle.record_levels.specs.declared.levels.Levels.{Levels}
use Rattle.record_text.specs.Words.{kept, word_on, words_on}
use Rattle.record_vcd.specs.declared.unit.Unit.{Unit}
use Rattle.record_vcd.specs.declared.head.Head.{Head}
use Rattle.record_vcd.specs.declared.changes.Changes.{Changes}
use Rattle.record_vcd.specs.declared.changes.HeadFault.{HeadFault}
use Rattle.record_vcd.specs.declared.changes.HeadFault.TheVariants as head
use Rattle.record_vcd.specs.declared.now.Fault.{Fault}
use Rattle.record_vcd.specs.declared.wire.Wire.{Wire}
use Rattle.record_vcd.specs.declared.section.Section.{Section}
use Rattle.record_vcd.specs.declared.section.Section.TheVariants.{Between, Timescale, Var, Definitions, Other, Over}
use Rattle.record_vcd.specs.Sections.{is_over, wires_of}
use Rattle.record_vcd.specs.Heads.{HeadEnd, HeadValue, closed, head_from, step, taken_by, value_of}
use Rattle.record_vcd.specs.Changes.{Said, changes_of, said}
use Rattle.record_vcd.specs.Changes.Said.{Change, Refused, Ends}
use Rattle.record_vcd.specs.Order.{AreInOrder}
use Rattle.record_vcd.specs.Dumps.{HeadFaultFits, IsAtTop, IsBelow, IsReady, Leads, LeadsOn, below, below_by, codes_by, to_come}
use Rattle.record_vcd.proofs.FileLaws.{codes-same, over-stays, top-is}
use Rattle.record_vcd.proofs.OrderLaws.{in-order}
use Rattle.record_lines.specs.declared.second.RecordedSecond.{RecordedSecond}
use Rattle.record_verdict.specs.Verdicts.{IsVerdictOf, first_agreed}
use Rattle.report_verdict.specs.declared.line_seen.LineSeen.{LineSeen}
use Rattle.report_judge.specs.declared.asked.Asked.{Asked}
use Rattle.report_judge.specs.declared.channels.ChannelFault.{ChannelFault}
use Rattle.report_judge.specs.declared.fault.JudgeFault.{JudgeFault}
use Rattle.report_judge.specs.declared.fault.JudgeFault.TheVariants.{Head as HeadRefused, Dump, Read}
use Rattle.report_judge.specs.declared.hearing.Hearing.{Hearing}
use Rattle.report_judge.specs.declared.hearing.Judged.{Judged}
use Rattle.report_judge.specs.declared.reading.Below.{Below}
use Rattle.report_judge.specs.declared.reading.Stage.{Stage}
use Rattle.report_judge.specs.Channels.{channel_bytes, names_of, places_named, places_of, texts_of}
use Rattle.report_judge.specs.Faults.{of_head}
use Rattle.report_judge.specs.Forms.{begins_dump}
use Rattle.report_judge.specs.Hearings.{EndsOn, HasHeard, HearsOn, IsVerdictText, last_time, nothing_else}
use Rattle.report_judge.specs.Readings.{AreChanges, HasReadBelow, HasReadHead, HasReadTo, JudgedDump, RefusedBy, RefusedFrom, head_of, judged_places, levels_after, said_at, said_of_lines}
use Rattle.report_judge.proofs.HearingLaws.{hears_more, shows_verdict}
use Rattle.report_judge.proofs.PartLaws.{IsPart, part-text}

-- ---- the head

pub begins-head : (first : Head) → IsAtTop first → HasReadHead [] first
begins-head first h more = sym (top-is first more h)

-- some bytes more of a head
pub head-leads : (old new : Head) (text taken : List ℕ) → HasReadHead text old → LeadsOn old taken new → HasReadHead (text ++ taken) new
head-leads old new text taken h led more = ap head_of (append_assoc text taken more) ∙ h (taken ++ more) ∙ led more

-- a head that is over is that of whatever follows
pub over-is : (text : List ℕ) (reader : Head) (more : List ℕ) → HasReadHead text reader → IsTrue (is_over reader.section)
    → head_of (text ++ more) ≡ record { head = value_of reader; words = words_on reader.words more }
over-is text reader more h over = h more ∙ over-stays (value_of reader) (words_on reader.words more) over

pub places-are : (names : Option (List ℕ)) (text : List ℕ) (reader : Head) (more : List ℕ) (places : Result (List ℕ) ChannelFault)
    → HasReadHead text reader → IsTrue (is_over reader.section) → places_of (wires_of reader.wires.items) names ≡ places
    → judged_places names (text ++ more) ≡ places
places-are names text reader more places h over is =
    ap (λ (e : HeadEnd). places_of e.head.wires names) (over-is text reader more h over) ∙ is

-- ---- below it

of-unit : (unit : Option Unit) → IsSome unit → (u : Unit) × (unit ≡ Some u)
of-unit (Some u) h = (u, refl)
of-unit None h = absurd (let none : false ≡ true = h in cc)

below-says : (names : Option (List ℕ)) (text : List ℕ) (reader : Head) (places : List ℕ) (unit : Unit) (changes : Changes) (more : List ℕ)
    → HasReadHead text reader → IsTrue (is_over reader.section) → reader.unit ≡ Some unit
    → places_of (wires_of reader.wires.items) names ≡ Ok places
    → IsBelow reader places unit changes
    → said_of_lines names (text ++ more) ≡ Some (to_come changes more)
below-says names text reader places unit changes more h over has_unit chosen is_below =
    let end : HeadEnd = record { head = value_of reader; words = words_on reader.words more } in
    ap (λ p. said_at p (text ++ more)) (places-are names text reader more (Ok places) h over chosen)
    ∙ ap (below places) (over-is text reader more h over)
    ∙ ap (λ b. if b then below_by reader.unit places end else None) over
    ∙ ap (λ u. below_by u places end) has_unit
    ∙ ap (λ c. Some (changes_of (map (λ place. slice_index_or c place []) places) unit (words_on reader.words more))) (codes-same reader.wires.items)
    ∙ ap Some (sym (is_below more))

pub begins-below : (asked : Asked) (text : List ℕ) (reader : Head) (places : List ℕ) (below : Below)
    → HasReadHead text reader → IsReady reader
    → places_of (wires_of reader.wires.items) (channel_bytes asked.channels) ≡ Ok places
    → ((unit : Unit) → reader.unit ≡ Some unit → IsBelow reader places unit below.changes)
    → HasHeard asked (length places) [] below.hearing
    → HasReadBelow asked text below
begins-below asked text reader places below h ready chosen is_below heard =
    let names = channel_bytes asked.channels in
    let unit = of-unit reader.unit ready.1 in
    record {
      said = [];
      says = λ more. below-says names text reader places unit.0 below.changes more h ready.0 unit.1 chosen (is_below unit.0 unit.1);
      changes = tt;
      places = places;
      chosen = λ more. places-are names text reader more (Ok places) h ready.0 chosen;
      heard = heard;
    }

-- wires are chosen by their names
pub chosen-by-name : (names : Option (List ℕ)) (wires : List Wire) (all : List (Vec ℕ)) (found : Result (List ℕ) ChannelFault)
    → texts_of all ≡ names_of (wires_of wires) → places_named (texts_of all) names ≡ found → places_of (wires_of wires) names ≡ found
chosen-by-name names wires all found same is = ap (λ l. places_named l names) (sym same) ∙ is

-- a head that is over, and below which nothing is read
pub refused-head : (asked : Asked) (text : List ℕ) (reader : Head) (fault : HeadFault)
    → HasReadHead text reader → IsTrue (is_over reader.section) → HeadFaultFits reader fault
    → RefusedFrom asked text (of_head fault)
refused-head asked text reader head.Memory h over fits more = tt
refused-head asked text reader head.Unended h over fits more = absurd (let no : false ≡ true = sym fits ∙ over in cc)
refused-head asked text reader head.NoTimescale h over fits more =
    let is = over-is text reader more h over in
    (ap (λ (e : HeadEnd). is_over e.head.section) is ∙ over, ap (λ (e : HeadEnd). e.head.unit) is ∙ fits.1)

-- ---- the levels of what is said

-- one more of them is the newest
newest-level : (before : List Levels) (others : List Said) (levels : Levels)
    → levels_after before (others ++ Change levels ∷ []) ≡ levels ∷ levels_after before others
newest-level before [] levels = refl
newest-level before (Change other ∷ others) levels = newest-level (other ∷ before) others levels
newest-level before (Refused fault ∷ others) levels = newest-level before others levels
newest-level before (Ends time ∷ others) levels = newest-level before others levels

-- what is said says one more
changes-more : (others : List Said) (levels : Levels) → AreChanges others → AreChanges (others ++ Change levels ∷ [])
changes-more [] levels are = tt
changes-more (Change other ∷ others) levels are = changes-more others levels are
changes-more (Refused fault ∷ others) levels are = absurd are
changes-more (Ends time ∷ others) levels are = absurd are

-- when the newest of some levels came
abbrev pub newest-time : List Levels → Option ℕ
newest-time [] = None
newest-time (levels ∷ before) = Some levels.time_ns

pub follows-last : (before : List Levels) (time : ℕ) → Follows (newest-time before) time → last_time before ≤ time
follows-last [] time follows = omega arith
follows-last (levels ∷ before) time follows = let later = follows.0 in omega (arith, later)

-- levels that a dump says next do not come before those that it said last
no-sooner : (before : List Levels) (others : List Said) (levels : Levels) (rest : List Said)
    → AreChanges others → AreInOrder (newest-time before) (others ++ Change levels ∷ rest)
    → last_time (levels_after before others) ≤ levels.time_ns
no-sooner before [] levels rest are order = follows-last before levels.time_ns order.0
no-sooner before (Change other ∷ others) levels rest are order = no-sooner (other ∷ before) others levels rest are order.1
no-sooner before (Refused fault ∷ others) levels rest are order = absurd are
no-sooner before (Ends time ∷ others) levels rest are order = absurd are

-- all that a dump says is in order
said-in-order-by : (over : Bool) (unit : Option Unit) (places : List ℕ) (end : HeadEnd) (all : List Said)
    → (if over then below_by unit places end else None) ≡ Some all → AreInOrder None all
said-in-order-by true (Some unit) places end all is =
    subst (AreInOrder None) (same_Some _ all is) (in-order (codes_by end.head.wires places) unit end.words)
said-in-order-by true None places end all is = absurd cc
said-in-order-by false unit places end all is = absurd cc

said-in-order-at : (places : Result (List ℕ) ChannelFault) (text : List ℕ) (all : List Said)
    → said_at places text ≡ Some all → AreInOrder None all
said-in-order-at (Ok places) text all is =
    said-in-order-by (is_over (head_of text).head.section) (head_of text).head.unit places (head_of text) all is
said-in-order-at (Err fault) text all is = absurd cc

said-in-order : (names : Option (List ℕ)) (text : List ℕ) (all : List Said)
    → said_of_lines names text ≡ Some all → AreInOrder None all
said-in-order names text all is = said-in-order-at (judged_places names text) text all is

-- ---- bytes more

-- what levels, if there are some, add to what was said
module _ (asked : Asked) (lines : ℕ) (others rest : List Said) (are : AreChanges others) where
  pub changes-by : (levels : Option Levels) → AreChanges (others ++ said levels)
  changes-by None = subst AreChanges (sym (append-nil others)) are
  changes-by (Some levels) = changes-more others levels are

  pub hears-by : (levels : Option Levels) (old new : Hearing) → HasHeard asked lines (levels_after [] others) old
      → AreInOrder None (others ++ (said levels ++ rest))
      → ((heard : Levels) → levels ≡ Some heard → HearsOn old new heard) → (levels ≡ None → new ≡ old) → new.as_json ≡ old.as_json
      → HasHeard asked lines (levels_after [] (others ++ said levels)) new
  hears-by None old new has order some none form =
      subst (λ o. HasHeard asked lines (levels_after [] o) new) (sym (append-nil others)) (subst (HasHeard asked lines (levels_after [] others)) (sym (none refl)) has)
  hears-by (Some levels) old new has order some none form =
      subst (λ l. HasHeard asked lines l new) (sym (newest-level [] others levels))
      (hears_more asked lines (levels_after [] others) levels old new has (some levels refl) (no-sooner [] others levels rest are order) form)

-- bytes were read, and the levels that they say were heard
module _ (asked : Asked) (text taken : List ℕ) (old new : Below) (levels : Option Levels) (h : HasReadBelow asked text old) (led : Leads old.changes taken levels new.changes) where
  says-more : (more : List ℕ) → said_of_lines (channel_bytes asked.channels) ((text ++ taken) ++ more) ≡ Some (h.said ++ (said levels ++ to_come new.changes more))
  says-more more = ap (said_of_lines (channel_bytes asked.channels)) (append_assoc text taken more)
      ∙ h.says (taken ++ more)
      ∙ ap (λ l. Some (h.said ++ l)) (led more)

  pub reads-below : ((heard : Levels) → levels ≡ Some heard → HearsOn old.hearing new.hearing heard) → (levels ≡ None → new.hearing ≡ old.hearing) → new.hearing.as_json ≡ old.hearing.as_json
      → HasReadBelow asked (text ++ taken) new
  reads-below some none form = record {
    said = h.said ++ said levels;
    says = λ more. says-more more ∙ ap Some (sym (append_assoc h.said (said levels) (to_come new.changes more)));
    changes = changes-by asked (length h.places) h.said (to_come new.changes []) h.changes levels;
    places = h.places;
    chosen = λ more. ap (judged_places (channel_bytes asked.channels)) (append_assoc text taken more) ∙ h.chosen (taken ++ more);
    heard = hears-by asked (length h.places) h.said (to_come new.changes []) h.changes levels old.hearing new.hearing h.heard
        (said-in-order (channel_bytes asked.channels) ((text ++ taken) ++ []) (h.said ++ (said levels ++ to_come new.changes [])) (says-more []))
        some none form;
  }

pub refuses-below : (asked : Asked) (text : List ℕ) (old here : Below) (bytes rest : List ℕ) (fault : Fault)
    → HasReadBelow asked text old → IsPart HasReadBelow old here bytes rest
    → ((more : List ℕ) → to_come here.changes (rest ++ more) ≡ Refused fault ∷ [])
    → RefusedFrom asked (text ++ bytes) (Dump fault)
refuses-below asked text old here bytes rest fault h part refuses more =
    let names = channel_bytes asked.channels in
    let on = part.reads asked text h in (
      on.said,
      ap (said_of_lines names) (part-text text part.front rest bytes more part.whole)
          ∙ on.says (rest ++ more)
          ∙ ap (λ l. Some (on.said ++ l)) (refuses more),
    )

-- ---- at the end

-- what the last bytes say was heard, the recording has ended, and the verdict is shown
pub ends-below : (asked : Asked) (text : List ℕ) (below : Below) (levels : Option Levels) (time : ℕ) (heard ended : Hearing) (judged : Judged)
    → IsTrue (begins_dump text) → HasReadBelow asked text below
    → to_come below.changes [] ≡ said levels ++ Ends time ∷ []
    → ((l : Levels) → levels ≡ Some l → HearsOn below.hearing heard l) → (levels ≡ None → heard ≡ below.hearing) → heard.as_json ≡ below.hearing.as_json
    → EndsOn heard ended → ended.as_json ≡ heard.as_json
    → (seen : List LineSeen) × IsVerdictText [] ended.as_json ended.verdict seen (string_bytes judged.text)
    → ((n : ℕ) (seconds : List RecordedSecond) → IsVerdictOf ended.verdict n seconds → judged.is_decided ≡ is_some (first_agreed seconds))
    → JudgedDump asked text judged
ends-below asked text below levels time heard ended judged begins h ends some none form end form_at_end shown decided =
    let names = channel_bytes asked.channels in
    let whole = sym (append-nil text) in
    let says : said_of_lines names text ≡ Some (h.said ++ (said levels ++ Ends time ∷ [])) = ap (said_of_lines names) whole ∙ h.says [] ∙ ap (λ l. Some (h.said ++ l)) ends in
    let has = hears-by asked (length h.places) h.said (Ends time ∷ []) h.changes levels below.hearing heard h.heard (said-in-order names text (h.said ++ (said levels ++ Ends time ∷ [])) says) some none form in
    record {
      begins = begins;
      said = h.said ++ said levels;
      end = time;
      says = says ∙ ap Some (sym (append_assoc h.said (said levels) (Ends time ∷ [])));
      places = h.places;
      chosen = ap (judged_places names) whole ∙ h.chosen [];
      verdict = shows_verdict nothing_else asked (length h.places) (levels_after [] (h.said ++ said levels)) heard ended judged has end form_at_end shown decided;
    }

pub refused-at-end : (asked : Asked) (text : List ℕ) (below : Below) (fault : Fault)
    → HasReadBelow asked text below → to_come below.changes [] ≡ Refused fault ∷ []
    → RefusedBy asked text (Dump fault)
refused-at-end asked text below fault h refuses = (
  h.said,
  ap (said_of_lines (channel_bytes asked.channels)) (sym (append-nil text)) ∙ h.says [] ∙ ap (λ l. Some (h.said ++ l)) refuses,
)

-- one byte more makes no end of a section of a word
not-end : (word : List ℕ) → ¬ (word ++ 120 ∷ [] ≡ codes "$end")
not-end [] e = omega (arith, ap length e)
not-end (a ∷ []) e = omega (arith, ap length e)
not-end (a ∷ b ∷ []) e = omega (arith, ap length e)
not-end (a ∷ b ∷ c ∷ []) e = omega (arith, ap (λ (l : List ℕ). slice_index_or l 3 0) e)
not-end (a ∷ b ∷ c ∷ d ∷ more) e = omega (arith, ap length e, length-append more (120 ∷ []))

no-end-by : (long : Bool) (word : List ℕ) → nat_lt (length word) 256 ≡ long → ¬ ((if long then word ++ 120 ∷ [] else word) ≡ codes "$end")
no-end-by true word is e = not-end word e
no-end-by false word is e = absurd (let wrong : false ≡ true = sym is ∙ ap (λ (w : List ℕ). nat_lt (length w) 256) e in cc)

is-false : (b : Bool) → ¬ (b ≡ true) → b ≡ false
is-false true h = absurd (h refl)
is-false false h = refl

no-end : (word : List ℕ) → bytes_eq (kept word 120) (codes "$end") ≡ false
no-end word = is-false (bytes_eq (kept word 120) (codes "$end")) (λ e. no-end-by (nat_lt (length word) 256) word refl ((bytes_eq-Decides (kept word 120) (codes "$end")).0 e))

opens : (a b c : Bool) → is_over (if a then Timescale else (if b then Var else (if c then Definitions else Other))) ≡ false
opens true b c = refl
opens false true c = refl
opens false false true = refl
opens false false false = refl

taken-open : (section : Section) (word : List ℕ) (v : HeadValue) → is_over v.section ≡ false → is_over section ≡ false → is_over (taken_by section word v).section ≡ false
taken-open Between word v h s = opens (bytes_eq word (codes "$timescale")) (bytes_eq word (codes "$var")) (bytes_eq word (codes "$enddefinitions"))
taken-open Timescale word v h s = h
taken-open Var word v h s = h
taken-open Definitions word v h s = h
taken-open Other word v h s = h
taken-open Over word v h s = h

-- a word that is no end leaves a head open
stays-open : (v : HeadValue) (line : ℕ) (word : List ℕ) → is_over v.section ≡ false → bytes_eq word (codes "$end") ≡ false
    → is_over (head_from v (word_on line word)).head.section ≡ false
stays-open v line [] shut differs = shut
stays-open v line (b ∷ bs) shut differs =
    ap (λ over. is_over (if over then record { head = v; words = record { text = b ∷ bs; line = line } ∷ [] } else head_from (step v (b ∷ bs)) []).head.section) shut
    ∙ ap (λ end. is_over (if end then closed v else taken_by v.section (b ∷ bs) v).section) differs
    ∙ taken-open v.section (b ∷ bs) v shut shut

pub unended : (asked : Asked) (text : List ℕ) (reader : Head) → HasReadHead text reader → IsFalse (is_over reader.section)
    → RefusedBy asked text (HeadRefused head.Unended)
unended asked text reader h shut = (
  120 ∷ [],
  ap (λ (e : HeadEnd). is_over e.head.section) (h (120 ∷ [])) ∙ stays-open (value_of reader) reader.words.line (kept reader.words.word.items 120) shut (no-end reader.words.word.items),
)

-- a text that begins so goes on
pub goes-on : (text more : List ℕ) → IsTrue (begins_dump text) → IsTrue (begins_dump (text ++ more))
goes-on [] more h = absurd (let no : false ≡ true = h in cc)
goes-on (b ∷ bs) more h = h

-- a part of the bytes, and the rest
pub cut-whole : (text bytes : List ℕ) (count : ℕ) → (text ++ take count bytes) ++ drop count bytes ≡ text ++ bytes
cut-whole text bytes count =
    append_assoc text (take count bytes) (drop count bytes) ∙ ap (λ l. text ++ l) (take-append-drop count bytes)

-- what is refused by a part is refused by all
pub refused-on : (asked : Asked) (text bytes : List ℕ) (count : ℕ) (fault : JudgeFault)
    → RefusedFrom asked (text ++ take count bytes) fault → RefusedFrom asked (text ++ bytes) fault
refused-on asked text bytes count fault h more =
    subst (λ t. RefusedBy asked t fault)
    (sym (append_assoc (text ++ take count bytes) (drop count bytes) more) ∙ ap (λ t. t ++ more) (cut-whole text bytes count))
    (h (drop count bytes ++ more))

-- of what was answered more is known
pub if-ok-on : {A B : Type 0} (P Q : A → Type 0) (r : Result A B) → ((x : A) → P x → Q x) → IfOk r P → IfOk r Q
if-ok-on P Q (Ok x) on h = on x h
if-ok-on P Q (Err e) on h = tt

-- ---- of a device

pub takes-nothing : (old : Option (List ℕ)) → Consumes old old []
takes-nothing None = tt
takes-nothing (Some left) = refl

pub ended-known : (a b c : Option (List ℕ)) (text : List ℕ) → Consumes a b text → Consumes b c [] → IsAtEnd b → IfSome a (λ _. IsAtEnd c)
ended-known None b c text took nothing end = tt
ended-known (Some all) None c text took nothing end = absurd took
ended-known (Some all) (Some left) None text took nothing end = absurd nothing
ended-known (Some all) (Some left) (Some rest) text took nothing end = sym nothing ∙ end

-- what can't be read is not refused
pub never-read : (asked : Asked) (text : List ℕ) (fault : JudgeFault) → RefusedBy asked text fault → ¬ (fault ≡ Read)
never-read asked text fault h e = subst (λ f. RefusedBy asked text f) e h

pub never-read-from : (asked : Asked) (text : List ℕ) (fault : JudgeFault) → RefusedFrom asked text fault → ¬ (fault ≡ Read)
never-read-from asked text fault h e = never-read asked (text ++ []) fault (h []) e

pub refused-known : (asked : Asked) (old new : Option (List ℕ)) (text : List ℕ) (fault : JudgeFault)
    → Consumes old new text → RefusedFrom asked text fault → IfSome old (λ all. RefusedBy asked all fault)
refused-known asked None new text fault took refused = tt
refused-known asked (Some all) None text fault took refused = absurd took
refused-known asked (Some all) (Some left) text fault took refused = subst (λ t. RefusedBy asked t fault) (sym took) (refused left)

pub whole-known : (P : List ℕ → Type 0) (old new : Option (List ℕ)) (text : List ℕ)
    → Consumes old new text → IsAtEnd new → P text → IfSome old P
whole-known P None new text took end h = tt
whole-known P (Some all) None text took end h = absurd took
whole-known P (Some all) (Some left) text took end h = subst P (sym (took ∙ ap (λ l. text ++ l) end ∙ append-nil text)) h

-- of a device that had `old` left, and has `new` left, so many pieces were read
pub record HasReadFrom (asked : Asked) (old new : Option (List ℕ)) (stage : Stage) (pieces : ℕ) : Type 0 where
  pub text : List ℕ
  pub took : Consumes old new text
  pub read : HasReadTo asked text stage
  pub many : pieces ≤ length text

pub takes-on : (a b c : Option (List ℕ)) (text piece : List ℕ) → Consumes a b text → Consumes b c piece → Consumes a c (text ++ piece)
takes-on None b c text piece first second = tt
takes-on (Some all) None c text piece first second = absurd first
takes-on (Some all) (Some left) None text piece first second = absurd second
takes-on (Some all) (Some left) (Some rest) text piece first second =
    first ∙ ap (λ l. text ++ l) second ∙ sym (append_assoc text piece rest)
