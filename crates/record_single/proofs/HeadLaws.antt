-- A single file in pieces.
use Rattle.std.proofs.Common.{◌≡◌, ℕ, suc, ◌+◌, ◌<◌, ◌≤◌, if◌then◌else◌, Bool, true, false, List, [], ◌∷◌, ◌++◌, length, take, drop, Option, Some, None, nat_eq, refl, append_assoc, ap, sym, ◌∙◌, arith}
use Rattle.std.proofs.Math.Seq.{take-add, take-length}
use Rattle.std.proofs.lemmas.List.{append-nil}
use Rattle.record_comtrade.specs.declared.reading.ConfigText.{ConfigText}
use Rattle.record_comtrade.specs.Reads.{ReadsOn}
use Rattle.record_comtrade.specs.Texts.{config_lines, lines_to_come}
use Rattle.record_single.specs.declared.parts.Head.{Head}
use Rattle.record_single.specs.declared.section.Section.{Section}
use Rattle.record_single.specs.Sections.{place_in, section_of}
use Rattle.record_single.specs.Singles.{Parts, cut_by, cut_from, parts_of, with_front}
use Rattle.record_single.specs.Singles.Parts.{Whole, NoSamples}
use Rattle.record_single.specs.Heads.{AreCalls, Call, Closes, Finds, GoesOn, Leads, Opened, bytes_of, closed, head_after, opened, opened_file, to_find}

-- the first of bytes that end no line, and the others
first_goes : (b : ℕ) (bs : List ℕ) → place_in 10 (b ∷ bs) ≡ suc (length bs) → (nat_eq b 10 ≡ false) × (place_in 10 bs ≡ length bs)
first_goes b bs e =
    (elim (nat_eq b 10) as (λ v. (if v then 0 else place_in 10 bs + 1) ≡ suc (length bs) → (v ≡ false) × (place_in 10 bs ≡ length bs)) [
      | true ↦ λ e. absurd (omega (arith, e))
      | false ↦ λ e. (refl, omega (arith, e))
    ]) e

one_more : (is_config : Bool) (line : List ℕ) (b : ℕ) (bytes : List ℕ) → nat_eq b 10 ≡ false
    → cut_from is_config line (b ∷ bytes) ≡ cut_from is_config (line ++ b ∷ []) bytes
one_more is_config line b bytes e =
    ap (λ v. if v then cut_by (section_of (line ++ b ∷ [])) is_config (line ++ b ∷ []) bytes (λ next. cut_from next [] bytes)
    else cut_from is_config (line ++ b ∷ []) bytes) e

-- bytes within a line
pub within : (is_config : Bool) (line bytes more : List ℕ) → place_in 10 bytes ≡ length bytes
    → cut_from is_config line (bytes ++ more) ≡ cut_from is_config (line ++ bytes) more
within is_config line [] more e = ap (λ t. cut_from is_config t more) (sym (append-nil line))
within is_config line (b ∷ bs) more e =
    let f = first_goes b bs e in
    one_more is_config line b (bs ++ more) f.0
    ∙ within is_config (line ++ b ∷ []) bs more f.1
    ∙ ap (λ t. cut_from is_config t more) (append_assoc line (b ∷ []) bs)

closing : (is_config : Bool) (line : List ℕ) (b : ℕ) (more : List ℕ) → nat_eq b 10 ≡ true
    → cut_from is_config line (b ∷ more) ≡ cut_by (section_of (line ++ b ∷ [])) is_config (line ++ b ∷ []) more (λ next. cut_from next [] more)
closing is_config line b more e =
    ap (λ v. if v then cut_by (section_of (line ++ b ∷ [])) is_config (line ++ b ∷ []) more (λ next. cut_from next [] more)
    else cut_from is_config (line ++ b ∷ []) more) e

-- the bytes up to its end, and with it
pub ends : (is_config : Bool) (line bytes more : List ℕ) → place_in 10 bytes < length bytes
    → cut_from is_config line (take (place_in 10 bytes + 1) bytes ++ more)
    ≡ cut_by (section_of (line ++ take (place_in 10 bytes + 1) bytes)) is_config (line ++ take (place_in 10 bytes + 1) bytes) more (λ next. cut_from next [] more)
ends is_config line [] more h = absurd (omega (arith, h))
ends is_config line (b ∷ bs) more h =
    (elim (nat_eq b 10) as (λ v. v ≡ nat_eq b 10 → (if v then 0 else place_in 10 bs + 1) < suc (length bs)
    → cut_from is_config line (take ((if v then 0 else place_in 10 bs + 1) + 1) (b ∷ bs) ++ more)
    ≡ cut_by (section_of (line ++ take ((if v then 0 else place_in 10 bs + 1) + 1) (b ∷ bs))) is_config (line ++ take ((if v then 0 else place_in 10 bs + 1) + 1) (b ∷ bs)) more (λ next. cut_from next [] more)) [
      | true ↦ λ e h. closing is_config line b more (sym e)
      | false ↦ λ e h.
          let p : (place_in 10 bs + 1) + 1 ≡ suc (place_in 10 bs + 1) = omega arith in
          ap (λ k. cut_from is_config line (take k (b ∷ bs) ++ more)) p
          ∙ one_more is_config line b (take (place_in 10 bs + 1) bs ++ more) (sym e)
          ∙ ends is_config (line ++ b ∷ []) bs more (omega (arith, h))
          ∙ ap (λ t. cut_by (section_of t) is_config t more (λ next. cut_from next [] more)) (append_assoc line (b ∷ []) (take (place_in 10 bs + 1) bs))
          ∙ ap (λ k. cut_by (section_of (line ++ take k (b ∷ bs))) is_config (line ++ take k (b ∷ bs)) more (λ next. cut_from next [] more)) (sym p)
    ]) refl h

-- ---- the line that is open

pub goes_on : (head next : Head) (bytes : List ℕ) → place_in 10 bytes ≡ length bytes → next.text ≡ head.text → next.is_config ≡ head.is_config
    → next.line.items ≡ head.line.items ++ bytes → GoesOn head bytes next
goes_on head next bytes e text section line more =
    ap (opened head.text) (within head.is_config head.line.items bytes more e)
    ∙ ap (λ t. opened t (cut_from head.is_config (head.line.items ++ bytes) more)) (sym text)
    ∙ ap (λ c. opened next.text (cut_from c (head.line.items ++ bytes) more)) (sym section)
    ∙ ap (λ l. opened next.text (cut_from next.is_config l more)) (sym line)

-- a reader that has the whole line is closed
has_line : (head next : Head) (bytes front : List ℕ) → place_in 10 bytes < length bytes → front ≡ take (place_in 10 bytes + 1) bytes
    → next.text ≡ head.text → next.is_config ≡ head.is_config → next.line.items ≡ head.line.items ++ front
    → (more : List ℕ) → to_find head (take (place_in 10 bytes + 1) bytes ++ more) ≡ closed next more
has_line head next bytes front h is text section line more =
    ap (opened head.text) (ends head.is_config head.line.items bytes more h)
    ∙ ap (λ f. opened head.text (cut_by (section_of (head.line.items ++ f)) head.is_config (head.line.items ++ f) more (λ n. cut_from n [] more))) (sym is)
    ∙ ap (λ t. opened t (cut_by (section_of (head.line.items ++ front)) head.is_config (head.line.items ++ front) more (λ n. cut_from n [] more))) (sym text)
    ∙ ap (λ c. opened next.text (cut_by (section_of (head.line.items ++ front)) c (head.line.items ++ front) more (λ n. cut_from n [] more))) (sym section)
    ∙ ap (λ l. opened next.text (cut_by (section_of l) next.is_config l more (λ n. cut_from n [] more))) (sym line)

pub leads_by : (head whole next : Head) (bytes front : List ℕ) (count : ℕ) (found : Option (Option ℕ)) → count ≡ place_in 10 bytes → count < length bytes
    → front ≡ take (count + 1) bytes → whole.text ≡ head.text → whole.is_config ≡ head.is_config → whole.line.items ≡ head.line.items ++ front
    → Closes whole found next → Leads head (take (count + 1) bytes) found next
leads_by head whole next bytes front count None is h front_is text section line closes = λ more.
    ap (λ n. to_find head (take (n + 1) bytes ++ more)) is
    ∙ has_line head whole bytes front (omega (arith, h, is)) (front_is ∙ ap (λ n. take (n + 1) bytes) is) text section line more
    ∙ closes more
leads_by head whole next bytes front count (Some bytes_of_samples) is h front_is text section line closes = λ more.
    ap (λ n. to_find head (take (n + 1) bytes ++ more)) is
    ∙ has_line head whole bytes front (omega (arith, h, is)) (front_is ∙ ap (λ n. take (n + 1) bytes) is) text section line more
    ∙ closes more

-- ---- the configuration

-- a line more of it
pub told_front : (text next : ConfigText) (line : List ℕ) (parts : Parts) → ReadsOn text line next
    → opened text (with_front line parts) ≡ opened next parts
told_front text next line (Whole config count rest) on = ap (λ l. Some (record { lines = l; count = count; rest = rest })) (on config)
told_front text next line NoSamples on = refl

pub told_nothing : (text : ConfigText) (parts : Parts) → opened text (with_front [] parts) ≡ opened text parts
told_nothing text (Whole config count rest) = refl
told_nothing text NoSamples = refl

-- where nothing was read
pub told_first : (text : ConfigText) (parts : Parts) → ((more : List ℕ) → lines_to_come text more ≡ config_lines more) → opened text parts ≡ opened_file parts
told_first text (Whole config count rest) first = ap (λ l. Some (record { lines = l; count = count; rest = rest })) (first config)
told_first text NoSamples first = refl

-- ---- where a front of the bytes has led, the next ones lead on from there

joined : (first here : Head) (bytes rest : List ℕ) (count n : ℕ) → ((more : List ℕ) → to_find first (take count bytes ++ more) ≡ to_find here more)
    → rest ≡ drop count bytes → (more : List ℕ) → to_find first (take (count + n) bytes ++ more) ≡ to_find here (take n rest ++ more)
joined first here bytes rest count n so_far is more =
    ap (λ l. to_find first (l ++ more)) (take-add count n bytes)
    ∙ ap (to_find first) (append_assoc (take count bytes) (take n (drop count bytes)) more)
    ∙ so_far (take n (drop count bytes) ++ more)
    ∙ ap (λ l. to_find here (take n l ++ more)) (sym is)

pub goes_further : (first here next : Head) (bytes rest : List ℕ) (count n : ℕ) (found : Option (Option ℕ))
    → ((more : List ℕ) → to_find first (take count bytes ++ more) ≡ to_find here more) → rest ≡ drop count bytes
    → found ≡ None → Leads here (take n rest) found next → (more : List ℕ) → to_find first (take (count + n) bytes ++ more) ≡ to_find next more
goes_further first here next bytes rest count n None so_far is none leads more = joined first here bytes rest count n so_far is more ∙ leads more
goes_further first here next bytes rest count n (Some found) so_far is none leads more = absurd cc

pub finds_behind : (first here next : Head) (bytes rest : List ℕ) (count n : ℕ) (found : Option (Option ℕ)) (samples : Option ℕ)
    → ((more : List ℕ) → to_find first (take count bytes ++ more) ≡ to_find here more) → rest ≡ drop count bytes
    → found ≡ Some samples → Leads here (take n rest) found next → Finds first (take (count + n) bytes) samples next
finds_behind first here next bytes rest count n None samples so_far is some leads more = absurd cc
finds_behind first here next bytes rest count n (Some found) samples so_far is some leads more =
    joined first here bytes rest count n so_far is more ∙ leads more
    ∙ (let e : found ≡ samples = cc in ap (λ c. Some (record { lines = lines_to_come next.text []; count = c; rest = more })) e)

pub goes_whole : (first here : Head) (bytes : List ℕ) (count : ℕ) → ((more : List ℕ) → to_find first (take count bytes ++ more) ≡ to_find here more)
    → count ≡ length bytes → GoesOn first bytes here
goes_whole first here bytes count so_far is more =
    ap (λ l. to_find first (l ++ more)) (sym (ap (λ n. take n bytes) is ∙ take-length bytes)) ∙ so_far more

-- ---- calls

pub calls_lead : (head : Head) (calls : List Call) (more : List ℕ) → AreCalls head calls
    → to_find head (bytes_of calls ++ more) ≡ to_find (head_after head calls) more
calls_lead head [] more h = refl
calls_lead head (call ∷ calls) more h =
    ap (to_find head) (append_assoc call.taken (bytes_of calls) more)
    ∙ h.0 (bytes_of calls ++ more)
    ∙ calls_lead call.next calls more h.1
