-- What is read of a single file, piece by piece.
use Rattle.std.proofs.Common.{◌≡◌, ◌≤◌, ◌<◌, ℕ, ◌+◌, ◌-◌, List, [], ◌∷◌, ◌++◌, take, drop, length, Option, Some, None, Result, Ok, Err, IfSome, inl, inr, refl, append_assoc, sym, ap, ◌∙◌, subst, arith, zero, suc}
use Rattle.std.specs.Io.KnownBytes.{Consumes}
use Rattle.std.proofs.lemmas.List.{append-nil, length-append}
use Rattle.std.proofs.lemmas.Option.{same_Some}
use Rattle.record_comtrade.specs.declared.fault.ConfigFault.{ConfigFault}
use Rattle.record_comtrade.specs.declared.fault.ConfigFault.TheVariants as config
use Rattle.record_comtrade.specs.Configs.{ConfigValue, config_of}
use Rattle.record_comtrade.specs.Reads.{FaultFits, value_of}
use Rattle.record_comtrade.specs.Texts.{config_lines, lines_to_come}
use Rattle.record_single.specs.declared.head.HeadFault.{HeadFault}
use Rattle.record_single.specs.declared.head.HeadFault.TheVariants as single
use Rattle.record_single.specs.declared.parts.Head.{Head}
use Rattle.record_single.specs.Heads.{Finds, GoesOn, IsAtTop, Opened, opened_file, to_find}
use Rattle.record_single.specs.Singles.{Parts, limited, parts_of}
use Rattle.record_single.specs.Singles.Parts.{Whole}
use Rattle.record_single.specs.Singles.Parts.{NoSamples as WithoutSamples}
use Rattle.report_judge.specs.declared.asked.Asked.{Asked}
use Rattle.report_judge.specs.declared.fault.JudgeFault.{JudgeFault}
use Rattle.report_judge.specs.declared.fault.JudgeFault.TheVariants.{LongLine, Memory, Read, ReadSamples}
use Rattle.report_judge.specs.declared.hearing.Judged.{Judged}
use Rattle.report_judge.specs.declared.single.Below.{Below}
use Rattle.report_judge.specs.declared.single.Part.{Part}
use Rattle.report_judge.specs.declared.single.Part.TheVariants as part
use Rattle.report_judge.specs.Faults.{of_config, of_single}
use Rattle.report_judge.specs.Records.{ConfigRefused, HasReadSamples, JudgedSamples, SamplesRefused, SamplesRefusedFrom}
use Rattle.report_judge.proofs.ReadingLaws.{cut-whole}
use Rattle.report_judge.specs.Singles.{HasOpened, HasReadHead, HasReadPart, IsOpened, JudgedParts, JudgedSingle, PartsRefused, SingleRefused, SingleRefusedFrom, less}

-- ---- parts that were opened

-- a file whose samples were found has the two texts
opened-whole : (parts : Parts) (opened : Opened) → opened_file parts ≡ Some opened
    → (text : List ℕ) × (config_lines text ≡ opened.lines) × (parts ≡ Whole text opened.count opened.rest)
opened-whole (Whole text count rest) opened is =
    let same = same_Some _ opened is in (text, ap (λ (o : Opened). o.lines) same, ap (λ (o : Opened). Whole text o.count o.rest) same)
opened-whole WithoutSamples opened is = absurd cc

judged-parts : (asked : Asked) (parts : Parts) (opened : Opened) (config : ConfigValue) (judged : Judged) → opened_file parts ≡ Some opened
    → config_of opened.lines ≡ Ok config → JudgedSamples asked config (limited opened.count opened.rest) judged → JudgedParts asked parts judged
judged-parts asked parts opened config judged is says judged_is =
    let whole = opened-whole parts opened is in
    subst (λ p. JudgedParts asked p judged) (sym whole.2) (config, ap config_of whole.1 ∙ says, judged_is)

parts-refused-by-text : (asked : Asked) (parts : Parts) (opened : Opened) (fault : ConfigFault) → opened_file parts ≡ Some opened
    → FaultFits fault (config_of opened.lines) → PartsRefused asked parts (of_config fault)
parts-refused-by-text asked parts opened config.Memory is fits =
    let whole = opened-whole parts opened is in subst (λ p. PartsRefused asked p Memory) (sym whole.2) (inl tt)
parts-refused-by-text asked parts opened (config.Refused fault) is fits =
    let whole = opened-whole parts opened is in
    subst (λ p. PartsRefused asked p (of_config (config.Refused fault))) (sym whole.2) (inl (ap config_of whole.1 ∙ fits))

parts-refused-by-config : (asked : Asked) (parts : Parts) (opened : Opened) (config : ConfigValue) (fault : JudgeFault) → opened_file parts ≡ Some opened
    → config_of opened.lines ≡ Ok config → ConfigRefused asked config fault → PartsRefused asked parts fault
parts-refused-by-config asked parts opened config fault is says refused =
    let whole = opened-whole parts opened is in
    subst (λ p. PartsRefused asked p fault) (sym whole.2) (inr (inl (config, ap config_of whole.1 ∙ says, refused)))

parts-refused-by-samples : (asked : Asked) (parts : Parts) (opened : Opened) (config : ConfigValue) (fault : JudgeFault) → opened_file parts ≡ Some opened
    → config_of opened.lines ≡ Ok config → SamplesRefused asked config (limited opened.count opened.rest) fault → PartsRefused asked parts fault
parts-refused-by-samples asked parts opened config fault is says refused =
    let whole = opened-whole parts opened is in
    subst (λ p. PartsRefused asked p fault) (sym whole.2) (inr (inr (config, ap config_of whole.1 ∙ says, refused)))

-- ---- so many bytes

take-parts : (n : ℕ) (xs ys : List ℕ) → take n (xs ++ ys) ≡ take n xs ++ take (n - length xs) ys
take-parts zero [] ys = refl
take-parts (suc n) [] ys = let e : suc n - length {A = ℕ} [] ≡ suc n = omega arith in ap (λ (k : ℕ). take k ys) (sym e)
take-parts zero (x ∷ xs) ys = let e : 0 - length (x ∷ xs) ≡ 0 = omega arith in ap (λ (k : ℕ). take k ys) (sym e)
take-parts (suc n) (x ∷ xs) ys =
    let e : suc n - length (x ∷ xs) ≡ n - length xs = omega arith in
    ap (λ (l : List ℕ). x ∷ l) (take-parts n xs ys ∙ ap (λ (k : ℕ). take n xs ++ take k ys) (sym e))

limited-parts : (count : Option ℕ) (xs ys : List ℕ) → limited count (xs ++ ys) ≡ limited count xs ++ limited (less count (length xs)) ys
limited-parts None xs ys = refl
limited-parts (Some n) xs ys = take-parts n xs ys

less-again : (count : Option ℕ) (m n : ℕ) → less (less count m) n ≡ less count (m + n)
less-again None m n = refl
less-again (Some k) m n = ap Some (let e : (k - m) - n ≡ k - (m + n) = omega arith in e)

-- ---- above the samples

pub begins : (head : Head) → IsAtTop head → head.line.items ≡ [] → HasReadHead [] head
begins head top none = record { finds = λ more. sym (top more); line = let l : length head.line.items ≡ 0 = ap length none in omega (arith, l) }

pub goes-above : (file bytes : List ℕ) (old new : Head) → HasReadHead file old → GoesOn old bytes new → length new.line.items ≤ length old.line.items + length bytes
    → HasReadHead (file ++ bytes) new
goes-above file bytes old new h on line = record {
  finds = λ more. ap (λ f. opened_file (parts_of f)) (append_assoc file bytes more) ∙ h.finds (bytes ++ more) ∙ on more;
  line = omega (arith, h.line, line, length-append file bytes);
}

pub opens-at : (file taken : List ℕ) (old new : Head) (count : Option ℕ) → HasReadHead file old → Finds old taken count new → IsOpened (file ++ taken) new count
opens-at file taken old new count h finds more =
    ap (λ f. opened_file (parts_of f)) (append_assoc file taken more) ∙ h.finds (taken ++ more) ∙ finds more

pub refused-above : (asked : Asked) (file bytes : List ℕ) (old : Head) (fault : HeadFault) → HasReadHead file old
    → (fault ≡ single.Long → 67108864 < length old.line.items + length bytes) → SingleRefusedFrom asked (file ++ bytes) (of_single fault)
refused-above asked file bytes old single.Memory h long more = inl tt
refused-above asked file bytes old single.Long h long more =
    inl (omega (arith, long refl, h.line, length-append file bytes, length-append (file ++ bytes) more))

none-opened : (parts : Parts) → opened_file parts ≡ None → parts ≡ WithoutSamples
none-opened (Whole text count rest) is = absurd cc
none-opened WithoutSamples is = refl

pub ends-above : (asked : Asked) (file : List ℕ) (head : Head) → HasReadHead file head → parts_of file ≡ WithoutSamples
ends-above asked file head h =
    none-opened (parts_of file) (ap (λ f. opened_file (parts_of f)) (sym (append-nil file)) ∙ h.finds [])

-- what is refused by a part is refused by all
pub single-refused-on : (asked : Asked) (file bytes : List ℕ) (count : ℕ) (fault : JudgeFault)
    → SingleRefusedFrom asked (file ++ take count bytes) fault → SingleRefusedFrom asked (file ++ bytes) fault
single-refused-on asked file bytes count fault refused more =
    subst (λ (t : List ℕ). SingleRefused asked t fault)
    (sym (append_assoc (file ++ take count bytes) (drop count bytes) more) ∙ ap (λ (t : List ℕ). t ++ more) (cut-whole file bytes count))
    (refused (drop count bytes ++ more))

-- ---- in the samples

pub opens-config : (asked : Asked) (file : List ℕ) (head : Head) (count : Option ℕ) (fault : ConfigFault) → IsOpened file head count
    → FaultFits fault (config_of (lines_to_come head.text [])) → SingleRefusedFrom asked file (of_config fault)
opens-config asked file head count fault opened fits more = inr (parts-refused-by-text asked (parts_of (file ++ more)) _ fault (opened more) fits)

pub opens-record : (asked : Asked) (file : List ℕ) (head : Head) (count : Option ℕ) (config : ConfigValue) (fault : JudgeFault) → IsOpened file head count
    → config_of (lines_to_come head.text []) ≡ Ok config → ConfigRefused asked config fault → SingleRefusedFrom asked file fault
opens-record asked file head count config fault opened says refused more =
    inr (parts-refused-by-config asked (parts_of (file ++ more)) _ config fault (opened more) says refused)

limited-nothing : (count : Option ℕ) → limited count [] ≡ []
limited-nothing None = refl
limited-nothing (Some zero) = refl
limited-nothing (Some (suc n)) = refl

less-nothing : (count : Option ℕ) → count ≡ less count 0
less-nothing None = refl
less-nothing (Some n) = ap Some (let e : n ≡ n - 0 = omega arith in e)

pub opens : (asked : Asked) (file : List ℕ) (head : Head) (count : Option ℕ) (config : ConfigValue) (below : Below) → IsOpened file head count
    → config_of (lines_to_come head.text []) ≡ Ok config → HasReadSamples asked config [] below.record → below.left ≡ count
    → HasOpened asked file below
opens asked file head count config below opened says reads left = record {
  config = config;
  lines = lines_to_come head.text [];
  count = count;
  front = [];
  finds = opened;
  says = says;
  reads = subst (λ s. HasReadSamples asked config s below.record) (sym (limited-nothing count)) reads;
  left = left ∙ less-nothing count;
}

pub goes-below : (asked : Asked) (file bytes : List ℕ) (old new : Below) (h : HasOpened asked file old)
    → HasReadSamples asked h.config (limited h.count h.front ++ limited old.left bytes) new.record → new.left ≡ less old.left (length bytes)
    → HasOpened asked (file ++ bytes) new
goes-below asked file bytes old new h reads left = record {
  config = h.config;
  lines = h.lines;
  count = h.count;
  front = h.front ++ bytes;
  finds = λ more. ap (λ f. opened_file (parts_of f)) (append_assoc file bytes more) ∙ h.finds (bytes ++ more)
      ∙ ap (λ r. Some (record { lines = h.lines; count = h.count; rest = r })) (sym (append_assoc h.front bytes more));
  says = h.says;
  reads = subst (λ s. HasReadSamples asked h.config s new.record)
      (ap (λ l. limited h.count h.front ++ limited l bytes) h.left ∙ sym (limited-parts h.count h.front bytes)) reads;
  left = left ∙ ap (λ l. less l (length bytes)) h.left ∙ less-again h.count (length h.front) (length bytes)
      ∙ ap (less h.count) (sym (length-append h.front bytes));
}

pub refused-below : (asked : Asked) (file bytes : List ℕ) (old : Below) (fault : JudgeFault) (h : HasOpened asked file old)
    → SamplesRefusedFrom asked h.config (limited h.count h.front ++ limited old.left bytes) fault
    → SingleRefusedFrom asked (file ++ bytes) fault
refused-below asked file bytes old fault h refused more =
    let all : limited h.count (h.front ++ (bytes ++ more)) ≡ (limited h.count h.front ++ limited old.left bytes) ++ limited (less old.left (length bytes)) more =
    limited-parts h.count h.front (bytes ++ more)
    ∙ ap (λ l. limited h.count h.front ++ limited l (bytes ++ more)) (sym h.left)
    ∙ ap (λ l. limited h.count h.front ++ l) (limited-parts old.left bytes more)
    ∙ sym (append_assoc (limited h.count h.front) (limited old.left bytes) (limited (less old.left (length bytes)) more)) in
    inr (parts-refused-by-samples asked (parts_of ((file ++ bytes) ++ more)) _ h.config fault
    (ap (λ f. opened_file (parts_of f)) (append_assoc file bytes more) ∙ h.finds (bytes ++ more)) h.says
    (subst (λ s. SamplesRefused asked h.config s fault) (sym all) (refused (limited (less old.left (length bytes)) more))))

at-end : (asked : Asked) (file : List ℕ) (below : Below) (h : HasOpened asked file below)
    → opened_file (parts_of file) ≡ Some (record { lines = h.lines; count = h.count; rest = h.front })
at-end asked file below h =
    ap (λ f. opened_file (parts_of f)) (sym (append-nil file)) ∙ h.finds []
    ∙ ap (λ r. Some (record { lines = h.lines; count = h.count; rest = r })) (append-nil h.front)

pub judged-below : (asked : Asked) (file : List ℕ) (below : Below) (judged : Judged) (h : HasOpened asked file below)
    → JudgedSamples asked h.config (limited h.count h.front) judged → JudgedSingle asked file judged
judged-below asked file below judged h is = judged-parts asked (parts_of file) _ h.config judged (at-end asked file below h) h.says is

pub refused-at-end : (asked : Asked) (file : List ℕ) (below : Below) (fault : JudgeFault) (h : HasOpened asked file below)
    → SamplesRefused asked h.config (limited h.count h.front) fault → SingleRefused asked file fault
refused-at-end asked file below fault h is = inr (parts-refused-by-samples asked (parts_of file) _ h.config fault (at-end asked file below h) h.says is)

-- ---- of a device

-- of a device that had `old` left, and has `new` left, this was read, in so many pieces
pub record HasReadFrom (asked : Asked) (old new : Option (List ℕ)) (at : Part) (pieces : ℕ) : Type 0 where
  pub file : List ℕ
  pub took : Consumes old new file
  pub read : HasReadPart asked file at
  pub many : pieces ≤ length file

-- what is refused by a front is refused by all
pub refused-known : (asked : Asked) (old new : Option (List ℕ)) (bytes : List ℕ) (fault : JudgeFault)
    → Consumes old new bytes → SingleRefusedFrom asked bytes fault → IfSome old (λ all. SingleRefused asked all fault)
refused-known asked None new bytes fault took refused = tt
refused-known asked (Some all) None bytes fault took refused = absurd took
refused-known asked (Some all) (Some left) bytes fault took refused =
    subst (λ s. SingleRefused asked s fault) (sym took) (refused left)
