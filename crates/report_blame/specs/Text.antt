-- The text of who lied and what it cost: a line of each finding, and totals.
-- Source: docs/OUTPUT.md.
use Rattle.std.specs.Prelude.{ℕ, zero, suc, ◌-◌, Bool, true, not, ◌&&◌, ◌==◌, if◌then◌else◌, List, [], length, slice_get, unwrap_or, ◌++◌, codes, Option, Some, None}
use Rattle.std.specs.Fmt.{decimal}
use Rattle.std.specs.List.{flat_map, slice_split}
use Rattle.irig_reader.specs.declared.report.Cause.{Cause}
use Rattle.irig_reader.specs.declared.report.Cause.TheVariants as cause
use Rattle.report_log.specs.Text.{cause_text, name_at, port_word}
use Rattle.report_log.specs.Whens.{when_text, offsets_text}
use Rattle.report_found.specs.declared.account.Account.{Account}
use Rattle.report_found.specs.declared.account.PortAccount.{PortAccount}
use Rattle.report_found.specs.declared.finding.Finding.{Finding}
use Rattle.report_found.specs.declared.finding.Basis.{Basis}
use Rattle.report_found.specs.declared.finding.PortWrong.{PortWrong}
use Rattle.report_found.specs.declared.finding.Untrue.{Untrue}
use Rattle.report_found.specs.declared.finding.Wrong.{Wrong}
use Rattle.report_found.specs.declared.finding.Wrong.TheVariants as wrong
use Rattle.report_found.specs.declared.kind.Kind.{Kind}
use Rattle.report_found.specs.declared.kind.Kind.TheVariants.{Agreed, Silent, Faulty, Poor, AnotherSecond, AnotherMark}
use Rattle.report_found.specs.Accounts.{port_of}
use Rattle.report_found.specs.Findings.{lists_below, is_carrier_in}
use Rattle.report_found.specs.Kinds.{same_kind, is_lie}
use Rattle.irig_station_scene.specs.StationText.{off_text}
use Rattle.report_blame.specs.declared.reach.Reach.{Reach}

-- ---- words of a scenario, or of a recording of these lines: their names, after one another with a
-- comma between them, and none of a scenario

-- whether it is no recording
abbrev pub is_scenario : List ℕ → Bool
is_scenario lines = length lines == 0

-- what is not the second that begins; of a recording nobody knows more than what most lines told
abbrev pub untrue_word : List ℕ → List ℕ
untrue_word lines = if is_scenario lines then codes "untrue" else codes "unlike most lines"

-- the same of seconds that were announced
abbrev pub untrue_seconds : List ℕ → List ℕ
untrue_seconds lines =
    if is_scenario lines then codes " announced untrue seconds"
    else codes " announced seconds unlike most lines"

-- the name of a line
abbrev pub line_name : List ℕ → ℕ → List ℕ
line_name lines port = unwrap_or (slice_get (slice_split (λ b. b == 44) lines) port) []

-- a port, by that name if there is one
abbrev pub port_text : List ℕ → ℕ → List ℕ
port_text lines port =
    if length (line_name lines port) == 0 then codes "port " ++ decimal port
    else line_name lines port

-- ---- parts of lines

-- what a port did wrong
abbrev pub kind_text : Kind → List ℕ
kind_text Agreed = codes "agreed"
kind_text Silent = codes "was silent"
kind_text Faulty = codes "was faulty"
kind_text Poor = codes "was poor"
kind_text AnotherSecond = codes "told another second"
kind_text AnotherMark = codes "told another mark"

-- how far what a port claimed was from the true second, if it claimed another one
abbrev pub distance_text : PortWrong → List ℕ
distance_text w =
    if same_kind w.kind AnotherSecond
    then offsets_text w.offsets.steady w.offsets.first w.offsets.last else []

-- the first of the words, as in the log's port line, unless nothing came
abbrev pub first_text : PortWrong → List ℕ
first_text w =
    if same_kind w.kind Silent then []
    else codes ", first " ++ port_word w.truth w.told

-- how many seconds were announced, and how many of them were untrue
unfoldable pub seconds_text : List ℕ → ℕ → ℕ → List ℕ
seconds_text lines announced untrue =
    if announced == 0 then codes "nothing\n"
    else (if announced == 1
    then (if untrue == 0 then codes "1 second\n"
    else codes "1 second, " ++ (untrue_word lines ++ codes "\n"))
    else (if untrue == 0 then decimal announced ++ codes " seconds\n"
    else decimal announced
    ++ (codes " seconds, " ++ (decimal untrue
    ++ (codes " of them " ++ (untrue_word lines ++ codes "\n"))))))

-- what a cause means, in a few words
abbrev pub meaning_text : Cause → List ℕ
meaning_text cause.Voted = codes "most ports told the second that had just ended"
meaning_text cause.Held = codes "there was no vote, and the reader counted on"
meaning_text cause.Acquiring = codes "not yet enough votes in a row"
meaning_text cause.NoVote = codes "there was no vote, and nothing to count from"
meaning_text cause.Expired = codes "there was no vote for longer than the holdover"
meaning_text cause.LeapGuard = codes "a month ended, and nothing told if a leap second came, or the frames and the leap table contradicted one another"
meaning_text cause.Jump = codes "the vote was for another second than the one that followed"
meaning_text cause.RangeEnd = codes "the next second would have been after 2099-12-30"

-- ---- what a port told

-- what the reader with this name announced meanwhile; untrue seconds are only counted beside a lie
unfoldable pub price_text : List ℕ → List ℕ → PortWrong → List ℕ
price_text lines name w =
    codes "; " ++ (name ++ (codes " announced "
    ++ seconds_text lines w.announced (if is_lie w.kind then w.untrue else 0)))

-- what a port of a reader with this name told
unfoldable pub port_wrong_text : List ℕ → List ℕ → PortWrong → List ℕ
port_wrong_text lines name w =
    port_text lines w.port ++ (codes " of " ++ (name ++ (codes " " ++ (kind_text w.kind
    ++ (distance_text w ++ (first_text w ++ price_text lines name w))))))

-- ---- what a reader announced

-- nothing, for this cause
unfoldable pub silence_text : List ℕ → Cause → List ℕ
silence_text name cause =
    name ++ (codes " announced nothing: "
    ++ (cause_text cause ++ (codes ", " ++ (meaning_text cause ++ codes "\n"))))

-- whether no port below this one told what was voted
abbrev pub none_below : Basis → ℕ → Bool
none_below g zero = true
none_below g (suc n) = none_below g n && not (is_carrier_in g n)

-- a port, after a comma unless it is the first
abbrev pub numbered : List ℕ → Bool → ℕ → List ℕ
numbered lines is_first port =
    if is_first then port_text lines port else codes ", " ++ port_text lines port

-- of a port that told it
abbrev pub carrier_text : List ℕ → Basis → ℕ → List ℕ
carrier_text lines g port =
    if is_carrier_in g port then numbered lines (none_below g port) port else []

-- what untrue seconds rest on: a vote that was no true one, else the reader's table
unfoldable pub basis_text : List ℕ → Basis → List ℕ
basis_text lines g =
    if g.is_true then codes ", held by its table\n"
    else codes ", as " ++ (lists_below (carrier_text lines g) 5
    ++ (codes " told at edge " ++ (decimal g.edge ++ codes "\n")))

-- the rest of the line, with the vote if there was one
abbrev pub basis_line : List ℕ → Option Basis → List ℕ
basis_line lines None = codes "\n"
basis_line lines (Some g) = basis_text lines g

-- untrue seconds of the reader
unfoldable pub untrue_text : List ℕ → List ℕ → Untrue → List ℕ
untrue_text lines name u =
    name ++ (untrue_seconds lines
    ++ (offsets_text u.offsets.steady u.offsets.first u.offsets.last ++ basis_line lines u.basis))

-- ---- lines

-- what was wrong, of a reader with this name
abbrev pub wrong_text : List ℕ → List ℕ → Wrong → List ℕ
wrong_text lines name (wrong.Port w) = port_wrong_text lines name w
wrong_text lines name (wrong.Silence cause) = silence_text name cause
wrong_text lines name (wrong.Untrue u) = untrue_text lines name u

-- when and what, of readers with these names
abbrev pub finding_text : List ℕ → List (List ℕ) → Finding → List ℕ
finding_text lines names f =
    when_text f.first f.last f.first_second f.last_second
    ++ wrong_text lines (name_at names f.reader) f.wrong

-- one line after another
abbrev pub findings_text : List ℕ → List (List ℕ) → List Finding → List ℕ
findings_text lines names found = flat_map (finding_text lines names) found

-- ---- totals

-- how often the reader ticked, and what it announced
unfoldable pub totals_line : List ℕ → List ℕ → Account → List ℕ
totals_line lines name x =
    name ++ (codes ": " ++ (decimal x.edges ++ (codes " edges, " ++ (decimal x.announced
    ++ (codes " announced, " ++ (decimal x.untrue
    ++ (codes " " ++ (untrue_word lines ++ (codes ", " ++ (decimal (x.edges - x.announced)
    ++ codes " silent\n"))))))))))

-- how often a port told each kind
unfoldable pub port_totals_line : List ℕ → List ℕ → ℕ → PortAccount → List ℕ
port_totals_line lines name port x =
    port_text lines port ++ (codes " of " ++ (name ++ (codes ": "
    ++ (decimal x.agreed ++ (codes " agreed, " ++ (decimal x.silent ++ (codes " silent, "
    ++ (decimal x.faulty ++ (codes " faulty, " ++ (decimal x.poor ++ (codes " poor, "
    ++ (decimal x.another_second ++ (codes " another second, "
    ++ (decimal x.another_mark ++ codes " another mark\n"))))))))))))))

-- how far off the seconds lay that a device announced: the least and the greatest distance, as in
-- the log, and the greatest bound
unfoldable pub edges_line : List ℕ → Reach → List ℕ
edges_line name x =
    codes "edges of " ++ (name ++ (codes ": " ++ (off_text x.least.behind_us x.least.before_us
    ++ (codes " to " ++ (off_text x.greatest.behind_us x.greatest.before_us
    ++ (codes " us off, bound at most " ++ (decimal x.bound_us ++ codes " us\n")))))))

-- nothing of readers, and of a device that announced nothing
abbrev pub reach_text : List ℕ → Option Reach → List ℕ
reach_text name None = []
reach_text name (Some x) = edges_line name x

-- the totals of the reader or device, how far off its seconds lay, and the totals of each port
abbrev pub total_lines : List ℕ → List ℕ → Option Reach → ℕ → Account → List ℕ
total_lines lines name reach ports x =
    totals_line lines name x
    ++ (reach_text name reach
    ++ lists_below (λ port. port_totals_line lines name port (port_of port x)) ports)
