-- What is read of a disturbance record, piece by piece.
use Rattle.std.proofs.Common.{◌≡◌, ◌≤◌, ◌<◌, ℕ, zero, suc, All, Bool, true, false, List, [], ◌∷◌, ◌++◌, take, drop, length, Option, Some, None, Result, Ok, Err, IfSome, inl, inr, refl, append_assoc, sym, ap, ◌∙◌, subst, arith}
use Rattle.std.specs.Prelude.{◌&&◌, is_some, nat_lt, string_bytes}
use Rattle.std.proofs.lemmas.Bool.{ltb-true}
use Rattle.std.specs.Global.{Vec}
use Rattle.std.specs.Io.KnownBytes.{Consumes}
use Rattle.std.proofs.lemmas.List.{append-nil, take-append-drop}
use Rattle.record_levels.specs.declared.levels.Levels.{Levels}
use Rattle.record_comtrade.specs.declared.fault.ConfigFault.{ConfigFault}
use Rattle.record_comtrade.specs.declared.fault.ConfigFault.TheVariants as config
use Rattle.record_comtrade.specs.declared.reader.DataFault.{DataFault}
use Rattle.record_comtrade.specs.declared.reader.DataFault.TheVariants as samples
use Rattle.record_comtrade.specs.declared.reading.ConfigText.{ConfigText}
use Rattle.record_comtrade.specs.Texts.{config_lines, lines_to_come}
use Rattle.record_comtrade.specs.Configs.{ConfigValue, config_of}
use Rattle.record_comtrade.specs.Reads.{FaultFits, ReadsOn, value_of}
use Rattle.record_comtrade.specs.Samples.{Said}
use Rattle.record_comtrade.specs.Samples.Said.{Change, Refused, Ends}
use Rattle.record_comtrade.specs.Data.{FaultSays, said}
use Rattle.record_samples.specs.declared.samples.End.{End}
use Rattle.record_samples.specs.Readers.{IsEnd, Leads, to_come}
use Rattle.record_samples.specs.Order.{AreLater}
use Rattle.record_samples.specs.Records.{Chosen, samples_say}
use Rattle.record_samples.proofs.OrderLaws.{in-order}
use Rattle.record_lines.specs.declared.second.RecordedSecond.{RecordedSecond}
use Rattle.record_verdict.specs.Verdicts.{IsVerdictOf, first_agreed}
use Rattle.report_verdict.specs.declared.line_seen.LineSeen.{LineSeen}
use Rattle.report_judge.specs.declared.asked.Asked.{Asked}
use Rattle.report_judge.specs.declared.channels.ChannelFault.{ChannelFault}
use Rattle.report_judge.specs.declared.fault.JudgeFault.{JudgeFault}
use Rattle.report_judge.specs.declared.fault.JudgeFault.TheVariants.{Read, ReadSamples}
use Rattle.report_judge.specs.declared.hearing.Hearing.{Hearing}
use Rattle.report_judge.specs.declared.hearing.Judged.{Judged}
use Rattle.report_judge.specs.declared.record.Record.{Record}
use Rattle.report_judge.specs.Channels.{channel_bytes, places_named, texts_of}
use Rattle.report_judge.specs.Faults.{of_config, of_samples}
use Rattle.report_judge.specs.Hearings.{EndsOn, HasHeard, HearsOn, IsVerdictText, last_time}
use Rattle.report_judge.specs.Records.{AreLevels, ConfigRefused, HasReadSamples, JudgedRecord, JudgedSamples, RecordRefused, SamplesRefused, SamplesRefusedFrom, SamplesSay, TextRefused, are_digital, chosen_by, configured, levels_in, record_names, record_places, said_beside}
use Rattle.report_judge.proofs.HearingLaws.{hears_more, shows_verdict}

-- of a device that had `old` left, and has `new` left, bytes of which this holds were read in so many pieces
pub record HasTaken (P : List ℕ → Type 0) (old new : Option (List ℕ)) (pieces : ℕ) : Type 0 where
  pub text : List ℕ
  pub took : Consumes old new text
  pub holds : P text
  pub many : pieces ≤ length text

-- ---- the configuration

-- a reader of a configuration has read this
abbrev pub HasReadConfig : ConfigText → (text : List ℕ) → Type 0
HasReadConfig reader text = (more : List ℕ) → config_lines (text ++ more) ≡ lines_to_come reader more

pub config-goes : (old new : ConfigText) (text bytes : List ℕ) → HasReadConfig old text → ReadsOn old bytes new → HasReadConfig new (text ++ bytes)
config-goes old new text bytes h on more = ap config_lines (append_assoc text bytes more) ∙ h (bytes ++ more) ∙ on more

pub config-whole : (reader : ConfigText) (text : List ℕ) → HasReadConfig reader text → configured text ≡ config_of (lines_to_come reader [])
config-whole reader text h = ap config_of (ap config_lines (sym (append-nil text)) ∙ h [])

pub config-refused : (reader : ConfigText) (text : List ℕ) (fault : ConfigFault) → HasReadConfig reader text → FaultFits fault (config_of (lines_to_come reader [])) → TextRefused text (of_config fault)
config-refused reader text config.Memory h fits = tt
config-refused reader text (config.Refused fault) h fits = config-whole reader text h ∙ fits

-- ---- channels

-- channels are chosen by their names
pub channels-by-name : (asked : Asked) (config : ConfigValue) (all : List (Vec ℕ)) (found : Result (List ℕ) ChannelFault)
    → texts_of all ≡ record_names (channel_bytes asked.channels) config → places_named (texts_of all) (channel_bytes asked.channels) ≡ found
    → record_places asked config ≡ found
channels-by-name asked config all found same is = ap (λ l. places_named l (channel_bytes asked.channels)) (sym same) ∙ is

both : (b c : Bool) → (b && c) ≡ true → (b ≡ true) × (c ≡ true)
both true c e = (refl, e)
both false c e = absurd (let p : false ≡ true = e in cc)

-- where all places are of digital channels, each is
pub all_digital : (digitals : ℕ) (places : List ℕ) → are_digital digitals places ≡ true → All (λ place. place < digitals) places
all_digital digitals [] e k d h = absurd (omega (arith, h))
all_digital digitals (place ∷ places) e zero d h = ltb-true place digitals (both (nat_lt place digitals) (are_digital digitals places) e).0
all_digital digitals (place ∷ places) e (suc k) d h =
    all_digital digitals places (both (nat_lt place digitals) (are_digital digitals places) e).1 k d (omega (arith, h))

-- ---- the order of levels

-- levels that samples say next do not come before those that they said last
no-sooner : (before : List Levels) (others : List Said) (levels : Levels) (rest : List Said)
    → AreLevels others → AreLater (last_time before) (others ++ Change levels ∷ rest)
    → last_time (levels_in before others) ≤ levels.time_ns
no-sooner before [] levels rest are order = order.0
no-sooner before (Change other ∷ others) levels rest are order = no-sooner (other ∷ before) others levels rest are order.1
no-sooner before (Refused fault ∷ others) levels rest are order = absurd are
no-sooner before (Ends time ∷ others) levels rest are order = absurd are

-- all that samples say of lines is in order
said-in-order : (asked : Asked) (config : ConfigValue) (bytes : List ℕ) (places : List ℕ) (all : List Said)
    → SamplesSay asked config bytes places all → AreLater 0 all
said-in-order asked config bytes places all h = subst (AreLater 0) h.says (in-order config h.channels bytes)

-- ---- samples

-- one more of the levels is the newest
newest-level : (before : List Levels) (others : List Said) (levels : Levels)
    → levels_in before (others ++ Change levels ∷ []) ≡ levels ∷ levels_in before others
newest-level before [] levels = refl
newest-level before (Change other ∷ others) levels = newest-level (other ∷ before) others levels
newest-level before (Refused fault ∷ others) levels = newest-level before others levels
newest-level before (Ends time ∷ others) levels = newest-level before others levels

levels-more : (others : List Said) (levels : Levels) → AreLevels others → AreLevels (others ++ Change levels ∷ [])
levels-more [] levels are = tt
levels-more (Change other ∷ others) levels are = levels-more others levels are
levels-more (Refused fault ∷ others) levels are = absurd are
levels-more (Ends time ∷ others) levels are = absurd are

-- what levels, if there are some, add to what was said
module _ (asked : Asked) (lines : ℕ) (others rest : List Said) (are : AreLevels others) where
  levels-by : (levels : Option Levels) → AreLevels (others ++ said levels)
  levels-by None = subst AreLevels (sym (append-nil others)) are
  levels-by (Some levels) = levels-more others levels are

  hears-by : (levels : Option Levels) (old new : Hearing) → HasHeard asked lines (levels_in [] others) old
      → AreLater 0 (others ++ (said levels ++ rest))
      → ((heard : Levels) → levels ≡ Some heard → HearsOn old new heard) → (levels ≡ None → new ≡ old) → new.as_json ≡ old.as_json
      → HasHeard asked lines (levels_in [] (others ++ said levels)) new
  hears-by None old new has order some none form =
      subst (λ o. HasHeard asked lines (levels_in [] o) new) (sym (append-nil others)) (subst (HasHeard asked lines (levels_in [] others)) (sym (none refl)) has)
  hears-by (Some levels) old new has order some none form =
      subst (λ l. HasHeard asked lines l new) (sym (newest-level [] others levels))
      (hears_more asked lines (levels_in [] others) levels old new has (some levels refl) (no-sooner [] others levels rest are order) form)

-- what is said may be said in another way
says-so : (asked : Asked) (config : ConfigValue) (one other : List ℕ) (places : List ℕ) (all same : List Said)
    → one ≡ other → all ≡ same → SamplesSay asked config one places all → SamplesSay asked config other places same
says-so asked config one other places all same is is_said h =
    subst (λ s. SamplesSay asked config s places same) is (subst (SamplesSay asked config one places) is_said h)

pub begins-samples : (asked : Asked) (config : ConfigValue) (reader : Record) (places : List ℕ) (channels : Chosen)
    → value_of reader.config ≡ config → record_places asked config ≡ Ok places → chosen_by asked.threshold config places ≡ Ok channels
    → ((more : List ℕ) → to_come reader.samples more ≡ samples_say channels more config)
    → HasHeard asked (length places) [] reader.hearing
    → HasReadSamples asked config [] reader
begins-samples asked config reader places channels is judged chosen says heard = record {
  is = is;
  places = places;
  said = [];
  says = λ more. record { judged = judged; channels = channels; chosen = chosen; says = sym (says more) };
  levels = tt;
  heard = heard;
}

-- samples were read, and the levels that they say were heard
module _ (asked : Asked) (config : ConfigValue) (bytes taken : List ℕ) (old new : Record) (levels : Option Levels) (h : HasReadSamples asked config bytes old) (led : Leads old.samples taken levels new.samples) where
  says-more : (more : List ℕ) → SamplesSay asked config ((bytes ++ taken) ++ more) h.places (h.said ++ (said levels ++ to_come new.samples more))
  says-more more = says-so asked config (bytes ++ (taken ++ more)) ((bytes ++ taken) ++ more) h.places _ _
      (sym (append_assoc bytes taken more)) (ap (λ l. h.said ++ l) (led more)) (h.says (taken ++ more))

  reads-samples : new.config ≡ old.config → ((heard : Levels) → levels ≡ Some heard → HearsOn old.hearing new.hearing heard) → (levels ≡ None → new.hearing ≡ old.hearing) → new.hearing.as_json ≡ old.hearing.as_json
      → HasReadSamples asked config (bytes ++ taken) new
  reads-samples same some none form = record {
    is = ap value_of same ∙ h.is;
    places = h.places;
    said = h.said ++ said levels;
    says = λ more. says-so asked config ((bytes ++ taken) ++ more) ((bytes ++ taken) ++ more) h.places _ _
        refl (sym (append_assoc h.said (said levels) (to_come new.samples more))) (says-more more);
    levels = levels-by asked (length h.places) h.said (to_come new.samples []) h.levels levels;
    heard = hears-by asked (length h.places) h.said (to_come new.samples []) h.levels levels old.hearing new.hearing h.heard
        (said-in-order asked config ((bytes ++ taken) ++ []) h.places _ (says-more []))
        some none form;
  }

-- of these bytes all but the rest was read
pub record ReadsPart (old new : Record) (bytes rest : List ℕ) : Type 0 where
  pub front : List ℕ
  pub whole : front ++ rest ≡ bytes
  pub reads : (asked : Asked) (config : ConfigValue) (before : List ℕ) → HasReadSamples asked config before old → HasReadSamples asked config (before ++ front) new

pub part-nothing : (reader : Record) (bytes : List ℕ) → ReadsPart reader reader bytes bytes
part-nothing reader bytes = record {
  front = [];
  whole = refl;
  reads = λ asked config before h. subst (λ s. HasReadSamples asked config s reader) (sym (append-nil before)) h;
}

pub part-on : (old here new : Record) (bytes rest : List ℕ) (count : ℕ) (levels : Option Levels) → ReadsPart old here bytes rest
    → Leads here.samples (take count rest) levels new.samples → new.config ≡ here.config
    → ((heard : Levels) → levels ≡ Some heard → HearsOn here.hearing new.hearing heard) → (levels ≡ None → new.hearing ≡ here.hearing) → new.hearing.as_json ≡ here.hearing.as_json
    → ReadsPart old new bytes (drop count rest)
part-on old here new bytes rest count levels part led same some none form = record {
  front = part.front ++ take count rest;
  whole = append_assoc part.front (take count rest) (drop count rest) ∙ ap (λ l. part.front ++ l) (take-append-drop count rest) ∙ part.whole;
  reads = λ asked config before h.
      subst (λ s. HasReadSamples asked config s new) (append_assoc before part.front (take count rest))
      (reads-samples asked config (before ++ part.front) (take count rest) here new levels (part.reads asked config before h) led same some none form);
}

pub part-whole : (asked : Asked) (config : ConfigValue) (before : List ℕ) (old new : Record) (bytes : List ℕ)
    → HasReadSamples asked config before old → ReadsPart old new bytes [] → HasReadSamples asked config (before ++ bytes) new
part-whole asked config before old new bytes h part =
    subst (λ b. HasReadSamples asked config (before ++ b) new) (sym (append-nil part.front) ∙ part.whole) (part.reads asked config before h)

pub part-refuses : (asked : Asked) (config : ConfigValue) (before : List ℕ) (old here : Record) (bytes rest : List ℕ) (fault : DataFault)
    → HasReadSamples asked config before old → ReadsPart old here bytes rest
    → ((more : List ℕ) → FaultSays fault (to_come here.samples (rest ++ more)))
    → SamplesRefusedFrom asked config (before ++ bytes) (of_samples fault)
part-refuses asked config before old here bytes rest samples.Memory h part refuses more = tt
part-refuses asked config before old here bytes rest (samples.Refused fault) h part refuses more =
    let on = part.reads asked config before h in (
      on.places,
      on.said,
      says-so asked config ((before ++ part.front) ++ (rest ++ more)) ((before ++ bytes) ++ more) on.places _ _
          (sym (append_assoc (before ++ part.front) rest more) ∙ ap (λ t. t ++ more) (append_assoc before part.front rest ∙ ap (λ b. before ++ b) part.whole))
          (ap (λ l. on.said ++ l) (refuses more)) (on.says (rest ++ more)),
    )

-- these samples lead from one reader to another
abbrev pub GoesOn : (old new : Record) → (bytes : List ℕ) → Type 0
GoesOn old new bytes = (asked : Asked) (config : ConfigValue) → HasReadSamples asked config [] old → HasReadSamples asked config bytes new

-- ---- at the end

pub ends-samples : (asked : Asked) (config : ConfigValue) (bytes : List ℕ) (reader : Record) (end : End) (heard ended : Hearing) (judged : Judged)
    → HasReadSamples asked config bytes reader → to_come reader.samples [] ≡ said end.levels ++ Ends end.time_ns ∷ []
    → ((l : Levels) → end.levels ≡ Some l → HearsOn reader.hearing heard l) → (end.levels ≡ None → heard ≡ reader.hearing) → heard.as_json ≡ reader.hearing.as_json
    → EndsOn heard ended → ended.as_json ≡ heard.as_json
    → (seen : List LineSeen) × IsVerdictText (said_beside asked config ended.verdict) ended.as_json ended.verdict seen (string_bytes judged.text)
    → ((n : ℕ) (seconds : List RecordedSecond) → IsVerdictOf ended.verdict n seconds → judged.is_decided ≡ is_some (first_agreed seconds))
    → JudgedSamples asked config bytes judged
ends-samples asked config bytes reader end heard ended judged h ends some none form ends_on form_at_end shown decided =
    let says = says-so asked config (bytes ++ []) bytes h.places _ _ (append-nil bytes) (ap (λ l. h.said ++ l) ends) (h.says []) in
    let has = hears-by asked (length h.places) h.said (Ends end.time_ns ∷ []) h.levels end.levels reader.hearing heard h.heard
    (said-in-order asked config bytes h.places _ says) some none form in
    record {
      places = h.places;
      said = h.said ++ said end.levels;
      end = end.time_ns;
      says = says-so asked config bytes bytes h.places _ _ refl (sym (append_assoc h.said (said end.levels) (Ends end.time_ns ∷ []))) says;
      verdict = shows_verdict (said_beside asked config) asked (length h.places) (levels_in [] (h.said ++ said end.levels)) heard ended judged has ends_on form_at_end shown decided;
    }

pub refused-at-last : (asked : Asked) (config : ConfigValue) (bytes : List ℕ) (reader : Record) (fault : DataFault)
    → HasReadSamples asked config bytes reader → IsEnd (Err fault) (to_come reader.samples []) → SamplesRefused asked config bytes (of_samples fault)
refused-at-last asked config bytes reader samples.Memory h refuses = tt
refused-at-last asked config bytes reader (samples.Refused fault) h refuses = (
  h.places,
  h.said ++ said refuses.0,
  says-so asked config (bytes ++ []) bytes h.places _ _ (append-nil bytes)
      (ap (λ l. h.said ++ l) refuses.1 ∙ sym (append_assoc h.said (said refuses.0) (Refused fault ∷ []))) (h.says []),
)

-- ---- faults of no device

abbrev refusal : (A : Type 0) → JudgeFault → Result A JudgeFault
refusal A fault = Err fault

pub no-device-config : {A : Type 0} (fault : ConfigFault) → ¬ (refusal A (of_config fault) ≡ refusal A ReadSamples)
no-device-config config.Memory e = absurd cc
no-device-config (config.Refused fault) e = absurd cc

pub no-read-config : {A : Type 0} (fault : ConfigFault) → ¬ (refusal A (of_config fault) ≡ refusal A Read)
no-read-config config.Memory e = absurd cc
no-read-config (config.Refused fault) e = absurd cc

pub no-device-samples : {A : Type 0} (fault : DataFault) → ¬ (refusal A (of_samples fault) ≡ refusal A ReadSamples)
no-device-samples samples.Memory e = absurd cc
no-device-samples (samples.Refused fault) e = absurd cc

pub no-read-samples : {A : Type 0} (fault : DataFault) → ¬ (refusal A (of_samples fault) ≡ refusal A Read)
no-read-samples samples.Memory e = absurd cc
no-read-samples (samples.Refused fault) e = absurd cc

-- ---- of two devices

-- what is refused by a front is refused by all
pub samples-known : (asked : Asked) (config : ConfigValue) (old new : Option (List ℕ)) (bytes : List ℕ) (fault : JudgeFault)
    → Consumes old new bytes → SamplesRefusedFrom asked config bytes fault → IfSome old (λ all. SamplesRefused asked config all fault)
samples-known asked config None new bytes fault took refused = tt
samples-known asked config (Some all) None bytes fault took refused = absurd took
samples-known asked config (Some all) (Some left) bytes fault took refused =
    subst (λ s. SamplesRefused asked config s fault) (sym took) (refused left)

pub by-config : (asked : Asked) (config : ConfigValue) (text bytes : Option (List ℕ)) (fault : JudgeFault)
    → IfSome text (λ t. configured t ≡ Ok config) → ConfigRefused asked config fault → RecordRefused asked text bytes fault
by-config asked config None bytes fault is refused = inl tt
by-config asked config (Some t) bytes fault is refused = inr (inl (config, is, refused))

pub by-samples : (asked : Asked) (config : ConfigValue) (text bytes : Option (List ℕ)) (fault : JudgeFault)
    → IfSome text (λ t. configured t ≡ Ok config) → IfSome bytes (λ s. SamplesRefused asked config s fault) → RecordRefused asked text bytes fault
by-samples asked config None bytes fault is refused = inl tt
by-samples asked config (Some t) None fault is refused = inr (inr tt)
by-samples asked config (Some t) (Some s) fault is refused = inr (inr (config, is, refused))

pub judged-both : (asked : Asked) (config : ConfigValue) (text bytes : Option (List ℕ)) (judged : Judged)
    → IfSome text (λ t. configured t ≡ Ok config) → IfSome bytes (λ s. JudgedSamples asked config s judged)
    → IfSome text (λ t. IfSome bytes (λ s. JudgedRecord asked t s judged))
judged-both asked config None bytes judged is are = tt
judged-both asked config (Some t) None judged is are = tt
judged-both asked config (Some t) (Some s) judged is are = (config, is, are)

-- what holds of known bytes leads to what holds of them
pub if-known : (P Q : List ℕ → Type 0) (bytes : Option (List ℕ)) → ((s : List ℕ) → P s → Q s) → IfSome bytes P → IfSome bytes Q
if-known P Q None leads h = tt
if-known P Q (Some s) leads h = leads s h
