-- What a reader of a list still has to say, after it has taken some bytes.
use Rattle.std.proofs.Common.{◌≡◌, ◌≤◌, ℕ, ◌+◌, ◌-◌, Bool, List, ◌∷◌, ◌++◌, take, drop, [], Option, None, Some, true, false, length, refl, append_assoc, sym, ap, ◌∙◌, subst, arith}
use Rattle.std.specs.Prelude.{if◌then◌else◌, nat_eq, nat_lt}
use Rattle.std.specs.Option.{is_some}
use Rattle.std.proofs.Math.Seq.{take-add}
use Rattle.std.proofs.lemmas.Bool.{eqb-true, ltb-false, ltb-true}
use Rattle.std.proofs.lemmas.List.{take-append-drop}
use Rattle.record_levels.specs.declared.levels.Levels.{Levels}
use Rattle.record_text.specs.declared.lines.Lines.{Lines}
use Rattle.record_text.specs.Lines.{Line, line_on, lines_from, lines_on, with_line}
use Rattle.record_list.specs.declared.changes.Changes.{Changes}
use Rattle.record_list.specs.declared.now.Fault.{Fault}
use Rattle.record_list.specs.declared.now.ListFault.{ListFault}
use Rattle.record_list.specs.declared.now.Now.{Now}
use Rattle.record_list.specs.declared.pulse.Pulse.{Pulse}
use Rattle.record_list.specs.declared.row.Reason.TheVariants.{Many}
use Rattle.record_list.specs.Changes.{Reading, Said, ended, kept, refusal, said, said_from, said_until, said_while, step, unless_refuses, until}
use Rattle.record_list.specs.Changes.Said.{Refused}
use Rattle.record_list.specs.Changes.Step.{Goes, Refuses}
use Rattle.record_list.specs.Lists.{FaultSays, line_of, reading_of, said_of, to_come, to_come_by, unless_refused}

-- what no levels say
pub nothing-said : (levels : Option Levels) → is_some levels ≡ false → said levels ≡ []
nothing-said None e = refl
nothing-said (Some levels) e = absurd (let p : true ≡ false = e in cc)

-- ---- levels that are sure

from-says : (reading : Reading) (pulses : List Pulse) (now next : Now) (levels : Option Levels) (lines : List Line) → next.newest_ns ≡ now.newest_ns
    → ((others : Now → List Said) → said_until (until now) pulses now others ≡ said levels ++ said_until (until now) pulses next others)
    → said_from reading pulses now lines ≡ said levels ++ said_from reading pulses next lines
from-says reading pulses now next levels [] same says =
    says (ended reading.above pulses)
    ∙ ap (λ t. said levels ++ said_until (t - 1000000000) pulses next (ended reading.above pulses)) (sym same)
from-says reading pulses now next levels (line ∷ lines) same says =
    let others : Now → List Said = λ n. unless_refuses (step reading.ports pulses n line) (λ more later. said_from reading more later lines) in
    says others
    ∙ ap (λ t. said levels ++ said_until (t - 1000000000) pulses next others) (sym same)

pub next-says : (old : Changes) (here : Now) (levels : Option Levels) → old.refusal ≡ None → here.newest_ns ≡ old.here.newest_ns
    → ((others : Now → List Said) → said_until (until old.here) old.pulses.items old.here others ≡ said levels ++ said_until (until old.here) old.pulses.items here others)
    → (more : List ℕ) → to_come old more ≡ said levels ++ to_come (record old { here = here }) more
next-says old here levels goes same says more =
    ap (λ r. unless_refused r (said_from (reading_of old) old.pulses.items old.here (lines_on old.lines more))) goes
    ∙ from-says (reading_of old) old.pulses.items old.here here levels (lines_on old.lines more) same says
    ∙ sym (ap (λ r. said levels ++ unless_refused r (said_from (reading_of old) old.pulses.items here (lines_on old.lines more))) goes)

-- what is sure was said
pub settled : (time : ℕ) (pulses : List Pulse) (now : Now) (others : Now → List Said) → time ≤ now.at_ns → said_until time pulses now others ≡ others now
settled time pulses now others past =
    let none : time - now.at_ns ≡ 0 = omega (arith, past) in
    ap (λ n. said_while n pulses now others) none

-- ---- a line

-- a line was heard, and let go
pub line-goes : (old new : Changes) (number : ℕ) → old.refusal ≡ None → until old.here ≤ old.here.at_ns
    → step old.chosen.ports.items old.pulses.items old.here (line_of old number) ≡ Goes new.pulses.items new.here
    → new.refusal ≡ None → new.above ≡ old.above → new.chosen.ports.items ≡ old.chosen.ports.items
    → new.lines.text.items ≡ [] → new.lines.number ≡ old.lines.number → new.lines.is_after_cr ≡ old.lines.is_after_cr
    → (more : List ℕ) → to_come_by (Some number) old more ≡ to_come new more
line-goes old new number goes past steps went above ports text same after more =
    let rest = lines_from old.lines.is_after_cr old.lines.number [] more in
    let reading = reading_of old in
    let others : List Pulse → Now → List Said = λ p n. said_from reading p n rest in
    ap (λ r. unless_refused r (said_from reading old.pulses.items old.here (line_of old number ∷ rest))) goes
    ∙ settled (until old.here) old.pulses.items old.here (λ next. unless_refuses (step reading.ports old.pulses.items next (line_of old number)) others) past
    ∙ ap (λ s. unless_refuses s others) steps
    ∙ ap (λ a. said_from (record { above = a; ports = old.chosen.ports.items }) new.pulses.items new.here rest) (sym above)
    ∙ ap (λ p. said_from (record { above = new.above; ports = p }) new.pulses.items new.here rest) (sym ports)
    ∙ ap (λ c. said_from (reading_of new) new.pulses.items new.here (lines_from c old.lines.number [] more)) (sym after)
    ∙ ap (λ n. said_from (reading_of new) new.pulses.items new.here (lines_from new.lines.is_after_cr n [] more)) (sym same)
    ∙ ap (λ t. said_from (reading_of new) new.pulses.items new.here (lines_from new.lines.is_after_cr new.lines.number t more)) (sym text)
    ∙ sym (ap (λ r. unless_refused r (said_from (reading_of new) new.pulses.items new.here (lines_on new.lines more))) went)

pub line-refuses : (old : Changes) (number : ℕ) (fault : Fault) → old.refusal ≡ None → until old.here ≤ old.here.at_ns
    → step old.chosen.ports.items old.pulses.items old.here (line_of old number) ≡ Refuses fault
    → (more : List ℕ) → to_come_by (Some number) old more ≡ Refused fault ∷ []
line-refuses old number fault goes past steps more =
    let rest = lines_from old.lines.is_after_cr old.lines.number [] more in
    let reading = reading_of old in
    let others : List Pulse → Now → List Said = λ p n. said_from reading p n rest in
    ap (λ r. unless_refused r (said_from reading old.pulses.items old.here (line_of old number ∷ rest))) goes
    ∙ settled (until old.here) old.pulses.items old.here (λ next. unless_refuses (step reading.ports old.pulses.items next (line_of old number)) others) past
    ∙ ap (λ s. unless_refuses s others) steps

-- ---- a pulse more

no-bit-by : (bit : ℕ) (b : Bool) → nat_eq bit 0 ≡ b → (bit ≡ 0 → ⊥) → b ≡ false
no-bit-by bit true e h = absurd (h (eqb-true bit 0 e))
no-bit-by bit false e h = refl

no-bit : (bit : ℕ) → (bit ≡ 0 → ⊥) → nat_eq bit 0 ≡ false
no-bit bit h = no-bit-by bit (nat_eq bit 0) refl h

many-by : (count : ℕ) (b : Bool) → nat_lt count 2048 ≡ b → 2048 ≤ count → b ≡ false
many-by count true e h = absurd (omega (arith, ltb-true count 2048 e, h))
many-by count false e h = refl

few-by : (count : ℕ) (b : Bool) → nat_lt count 2048 ≡ b → count ≤ 2047 → b ≡ true
few-by count true e h = refl
few-by count false e h = absurd (omega (arith, ltb-false count 2048 e, h))

kept-by : (b c : Bool) (pulses : List Pulse) (now : Now) (line : ℕ) (pulse : Pulse) → nat_eq pulse.bit 0 ≡ b → nat_lt (length pulses) 2048 ≡ c
    → kept pulses now line pulse ≡ (if b then Goes pulses now else (if c then Goes (pulses ++ pulse ∷ []) now else Refuses (refusal line Many)))
kept-by b c pulses now line pulse is few =
    ap (λ x. if x then Goes pulses now else (if nat_lt (length pulses) 2048 then Goes (pulses ++ pulse ∷ []) now else Refuses (refusal line Many))) is
    ∙ ap (λ x. if b then Goes pulses now else (if x then Goes (pulses ++ pulse ∷ []) now else Refuses (refusal line Many))) few

pub keeps-no-more : (pulses left : List Pulse) (now : Now) (line : ℕ) (pulse : Pulse) → left ≡ pulses → (pulse.bit ≡ 0 → ⊥) → 2048 ≤ length left
    → kept pulses now line pulse ≡ Refuses (refusal line Many)
keeps-no-more pulses left now line pulse same some many =
    let count : 2048 ≤ length pulses = subst (λ l. 2048 ≤ length l) same many in
    kept-by false false pulses now line pulse (no-bit pulse.bit some) (many-by (length pulses) (nat_lt (length pulses) 2048) refl count)

pub keeps-one-more : (pulses left : List Pulse) (now : Now) (line : ℕ) (pulse : Pulse) → left ≡ pulses → (pulse.bit ≡ 0 → ⊥) → length left ≤ 2047
    → kept pulses now line pulse ≡ Goes (left ++ pulse ∷ []) now
keeps-one-more pulses left now line pulse same some few =
    let count : length pulses ≤ 2047 = subst (λ l. length l ≤ 2047) same few in
    kept-by false true pulses now line pulse (no-bit pulse.bit some) (few-by (length pulses) (nat_lt (length pulses) 2048) refl count)
    ∙ ap (λ l. Goes (l ++ pulse ∷ []) now) (sym same)

pub keeps-those : (pulses left : List Pulse) (now : Now) (line : ℕ) (pulse : Pulse) → left ≡ pulses → pulse.bit ≡ 0
    → kept pulses now line pulse ≡ Goes left now
keeps-those pulses left now line pulse same none =
    ap (λ n. if nat_eq n 0 then Goes pulses now else (if nat_lt (length pulses) 2048 then Goes (pulses ++ pulse ∷ []) now else Refuses (refusal line Many))) none
    ∙ ap (λ l. Goes l now) (sym same)

-- ---- bytes more

-- where levels that are none were sure, the reader has come on
pub rests-on : (first here mid : Changes) (bytes : List ℕ) (count : ℕ) (levels : Option Levels) → is_some levels ≡ false
    → ((more : List ℕ) → to_come first (take count bytes ++ more) ≡ to_come here more)
    → ((more : List ℕ) → to_come here more ≡ said levels ++ to_come mid more)
    → (more : List ℕ) → to_come first (take count bytes ++ more) ≡ to_come mid more
rests-on first here mid bytes count levels none so_far says more =
    so_far more ∙ says more ∙ ap (λ l. l ++ to_come mid more) (nothing-said levels none)

-- where a front of the bytes has led, the next ones lead on from there
pub leads-on : (first here : Changes) (lines : Lines) (bytes rest : List ℕ) (count n : ℕ) (ended : Option ℕ) (line : ℕ)
    → ended ≡ Some line
    → ((more : List ℕ) → to_come first (take count bytes ++ more) ≡ to_come here more)
    → rest ≡ drop count bytes
    → ((more : List ℕ) → lines_on here.lines (take n rest ++ more) ≡ with_line ended lines more)
    → (more : List ℕ) → to_come first (take (count + n) bytes ++ more) ≡ to_come_by (Some line) (record here { lines = lines }) more
leads-on first here lines bytes rest count n ended line has_ended so_far is takes more =
    ap (λ l. to_come first (l ++ more)) (take-add count n bytes)
    ∙ ap (to_come first) (append_assoc (take count bytes) (take n (drop count bytes)) more)
    ∙ so_far (take n (drop count bytes) ++ more)
    ∙ ap (λ l. said_of here (lines_on here.lines (take n l ++ more))) (sym is)
    ∙ ap (said_of here) (takes more)
    ∙ ap (λ e. to_come_by e (record here { lines = lines }) more) has_ended

-- what holds of a front and whatever follows holds of all the bytes
pub of-all : (first : Changes) (bytes : List ℕ) (count : ℕ) (fault : ListFault)
    → ((more : List ℕ) → FaultSays fault (to_come first (take count bytes ++ more)))
    → (more : List ℕ) → FaultSays fault (to_come first (bytes ++ more))
of-all first bytes count fault holds more =
    subst (λ l. FaultSays fault (to_come first l))
    (sym (append_assoc (take count bytes) (drop count bytes) more) ∙ ap (λ l. l ++ more) (take-append-drop count bytes))
    (holds (drop count bytes ++ more))

-- ---- the end of the text

-- a line that is open at the end of the text is a line
last-line : (number : ℕ) (text : List ℕ) → nat_eq (length text) 0 ≡ false → line_on number text ≡ record { text = text; number = number } ∷ []
last-line number [] e = absurd (let p : true ≡ false = e in cc)
last-line number (b ∷ bs) e = refl

-- at the end of the text that line is heard
pub hears-last : (changes : Changes) (number : ℕ) → number ≡ changes.lines.number → nat_eq (length changes.lines.text.items) 0 ≡ false
    → to_come changes [] ≡ to_come_by (Some number) changes []
hears-last changes number same e =
    ap (said_of changes) (last-line changes.lines.number changes.lines.text.items e)
    ∙ ap (λ n. to_come_by (Some n) changes []) (sym same)

-- where none is open, and what is sure was said, the end is said
pub rests : (changes : Changes) → changes.lines.text.items ≡ [] → changes.refusal ≡ None → until changes.here ≤ changes.here.at_ns
    → to_come changes [] ≡ ended changes.above changes.pulses.items changes.here
rests changes none goes past =
    ap (λ r. unless_refused r (said_from (reading_of changes) changes.pulses.items changes.here (lines_on changes.lines []))) goes
    ∙ ap (λ t. said_from (reading_of changes) changes.pulses.items changes.here (line_on changes.lines.number t)) none
    ∙ settled (until changes.here) changes.pulses.items changes.here (ended changes.above changes.pulses.items) past
