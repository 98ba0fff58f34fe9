-- The text of a log, and the last line of a run.
-- Source: docs/OUTPUT.md.
use Rattle.std.specs.Prelude.{ℕ, Bool, false, not, ◌||◌, if◌then◌else◌, List, [], ◌∷◌, ◌++◌, filter, codes, map, slice_get, unwrap_or, Option, Some, None, is_some, String, string_bytes}
use Rattle.std.specs.declared.alloc.Global.{Global}
use Rattle.std.specs.List.{flat_map}
use Rattle.std.specs.Fmt.{decimal}
use Rattle.irig_time.specs.declared.second.UtcSecond.{UtcSecond}
use Rattle.irig_time.specs.declared.claim.Claim.{Claim}
use Rattle.irig_time.specs.Seconds.{same_second}
use Rattle.irig_time.specs.Claims.{same_mark}
use Rattle.irig_time.specs.TextValues.{second_text}
use Rattle.irig_port.specs.declared.told.Told.{Told}
use Rattle.irig_port.specs.declared.told.Told.TheVariants as tells
use Rattle.irig_time.specs.MarkWords.{mark_word}
use Rattle.text_faults.specs.PortFaults.{fault_text}
use Rattle.irig_vote.specs.Vote.{ports_of}
use Rattle.irig_reader.specs.declared.report.Lock.{Lock}
use Rattle.irig_reader.specs.declared.report.Lock.TheVariants.{Unlocked, Acquiring, Locked, Holdover}
use Rattle.irig_reader.specs.declared.report.Cause.{Cause}
use Rattle.irig_reader.specs.declared.report.Cause.TheVariants as cause
use Rattle.irig_reader.specs.declared.report.Report.{Report}
use Rattle.irig_plant.specs.declared.entry.Entry.{Entry}
use Rattle.irig_plant.specs.declared.audit.Audit.{Audit}
use Rattle.irig_plant.specs.declared.audit.Audit.TheVariants.{Kept, Broken, FalseTable}
use Rattle.text_faults.specs.declared.refusal.Refusal.{Refusal}
use Rattle.text_faults.specs.Refusals.{number_of, name_of}
use Rattle.report_log.specs.declared.shown.Shown.{Shown}

-- the texts of some strings, as scenario_json has them, on which this crate does not stand
abbrev pub texts_of : List (String Global) → List (List ℕ)
texts_of strings = map string_bytes strings

-- ---- the words of an entry

-- whether the reader is locked, with the votes so far or the edges since the last
abbrev pub lock_text : Lock → List ℕ
lock_text Unlocked = codes "unlocked"
lock_text (Acquiring votes) = codes "acquiring:" ++ decimal votes
lock_text Locked = codes "locked"
lock_text (Holdover age) = codes "holdover:" ++ decimal age

-- why it announces, or does not
abbrev pub cause_text : Cause → List ℕ
cause_text cause.Voted = codes "voted"
cause_text cause.Held = codes "held"
cause_text cause.Acquiring = codes "acquiring"
cause_text cause.NoVote = codes "no-vote"
cause_text cause.Expired = codes "expired"
cause_text cause.LeapGuard = codes "leap-guard"
cause_text cause.Jump = codes "jump"
cause_text cause.RangeEnd = codes "range-end"

-- the second that is announced, or a dash
abbrev pub time_shown_text : Option UtcSecond → List ℕ
time_shown_text None = codes "-"
time_shown_text (Some second) = second_text second

-- the name of a reader by its number, and nothing past the last
abbrev pub name_at : List (List ℕ) → ℕ → List ℕ
name_at names reader = unwrap_or (slice_get names reader) []

-- ---- the log

-- TIME LOCK CAUSE, after a blank
abbrev pub report_text : Report → List ℕ
report_text report =
    codes " " ++ (time_shown_text report.announce
    ++ (codes " " ++ (lock_text report.lock
    ++ (codes " " ++ (cause_text report.cause ++ codes "\n")))))

-- EDGE READER TIME LOCK CAUSE
unfoldable pub entry_text : List (List ℕ) → Entry → List ℕ
entry_text names entry =
    decimal entry.edge ++ (codes " " ++ (name_at names entry.reader ++ report_text entry.report))

-- a line for each entry with an announcement, or for each entry if all are shown
unfoldable pub entries_text : List (List ℕ) → Bool → List Entry → List ℕ
entries_text names all entries =
    flat_map (entry_text names) (filter (λ entry. all || is_some entry.report.announce) entries)

-- ---- what ports told

-- a claim: as its second if that is not the true one, else as its mark if that is not, else as
-- right
abbrev pub claim_word : Option Claim → Claim → List ℕ
claim_word None claim = second_text claim.at
claim_word (Some truth) claim =
    if not (same_second claim.at truth.at) then second_text claim.at
    else (if not (same_mark claim.mark truth.mark) then mark_word claim.mark else codes "ok")

-- what a port told, as a word
abbrev pub port_word : Option Claim → Told → List ℕ
port_word truth tells.Silence = codes "silence"
port_word truth (tells.Fault fault) = codes "fault:" ++ fault_text (codes ":") fault
port_word truth (tells.Poor quality) = codes "poor:" ++ decimal quality
port_word truth (tells.Claim claim) = claim_word truth claim

-- a word a port, each after a blank
abbrev pub words_text : Option Claim → List Told → List ℕ
words_text truth ports = flat_map (λ told. codes " " ++ port_word truth told) ports

-- EDGE READER WORD WORD WORD, after a blank; five words of five ports
unfoldable pub port_line : List (List ℕ) → Entry → List ℕ
port_line names entry =
    codes " " ++ (decimal entry.edge ++ (codes " " ++ (name_at names entry.reader
    ++ (words_text entry.truth (ports_of entry.told entry.redundancy) ++ codes "\n"))))

-- of a tick the line of its entry, if it has one, and then that of its ports
abbrev pub tick_text : List (List ℕ) → Bool → Entry → List ℕ
tick_text names all entry = entries_text names all (entry ∷ []) ++ port_line names entry

-- so of each tick
unfoldable pub ticks_text : List (List ℕ) → Bool → List Entry → List ℕ
ticks_text names all entries = flat_map (tick_text names all) entries

-- entries alone, the silent ones too if `all`
abbrev pub entries_alone : Bool → Shown
entries_alone all = record { all = all; ports = false }

-- the lines of entries, and of what ports told there if that is shown
abbrev pub lines_text : List (List ℕ) → Shown → List Entry → List ℕ
lines_text names shown entries =
    if shown.ports then ticks_text names shown.all entries
    else entries_text names shown.all entries

-- ---- the last line

-- whether the premises were kept, else the first broken place or the least reader whose table is
-- false
unfoldable pub audit_text : List (List ℕ) → Audit → List ℕ
audit_text names Kept = codes "premises kept\n"
audit_text names (Broken reader edge) =
    codes "premises broken: edge " ++ (decimal edge
    ++ (codes " reader " ++ (name_at names reader ++ codes "\n")))
audit_text names (FalseTable reader) =
    codes "premises broken: table of reader " ++ (name_at names reader ++ codes "\n")

-- the line's number, and the number and name of its refusal
unfoldable pub refusal_text : ℕ → Refusal → List ℕ
refusal_text line refusal =
    codes "refused: line " ++ (decimal line ++ (codes ": " ++ (decimal (number_of refusal)
    ++ (codes " " ++ (name_of refusal ++ codes "\n")))))
