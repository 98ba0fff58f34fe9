-- Samples in pieces.
use Rattle.std.proofs.Common.{◌≡◌, ℕ, ◌+◌, ◌<◌, take, Result, List, [], ◌∷◌, ◌++◌, length, Option, Some, None, true, false, nat_eq, drop, refl, append_assoc, eq-eqb, sym, ap, ◌∙◌, arith}
use Rattle.std.specs.Prelude.{not, ◌&&◌}
use Rattle.std.specs.Option.{is_some}
use Rattle.std.proofs.Math.Seq.{take-add}
use Rattle.std.proofs.lemmas.Bool.{ne_eqb}
use Rattle.record_levels.specs.declared.levels.Levels.{Levels}
use Rattle.record_comtrade.specs.declared.clock.Reason.{Reason}
use Rattle.std.proofs.lemmas.List.{append-nil, length-append}
use Rattle.record_comtrade.specs.declared.data.Data.{Data}
use Rattle.record_comtrade.specs.declared.now.Now.{Now}
use Rattle.record_comtrade.specs.declared.now.SampleFault.{SampleFault}
use Rattle.record_comtrade.specs.declared.now.Step.{Step}
use Rattle.record_comtrade.specs.declared.now.Step.TheVariants.{Goes}
use Rattle.record_comtrade.specs.Times.{time_of}
use Rattle.record_comtrade.specs.Samples.{Plan, counted, high_of, mark_of, said_by, said_by_time, said_from, samples_by, samples_from, stays, step, step_by}
use Rattle.record_comtrade.specs.Data.{Leads, plan_of, said, to_come, unless_refused}

below : (m n : ℕ) → m < n → nat_eq m n ≡ false
below m n h = ne_eqb m n (λ e. omega (arith, h, e))

longer : (begun : List ℕ) (b : ℕ) → length (begun ++ b ∷ []) ≡ length begun + 1
longer begun b = length-append begun (b ∷ [])

one_more : (size : ℕ) (begun : List ℕ) (b : ℕ) (bytes : List ℕ) → length begun + 1 < size
    → samples_from size begun (b ∷ bytes) ≡ samples_from size (begun ++ b ∷ []) bytes
one_more size begun b bytes h = ap (λ w. samples_by w (begun ++ b ∷ []) (λ next. samples_from size next bytes)) (below (length begun + 1) size h)

-- bytes within a sample
pub opens : (size : ℕ) (begun xs more : List ℕ) → length begun + length xs < size
    → samples_from size begun (xs ++ more) ≡ samples_from size (begun ++ xs) more
opens size begun [] more h = ap (λ o. samples_from size o more) (sym (append-nil begun))
opens size begun (b ∷ bs) more h =
    one_more size begun b (bs ++ more) (omega (arith, h))
    ∙ opens size (begun ++ b ∷ []) bs more (omega (arith, h, longer begun b))
    ∙ ap (λ o. samples_from size o more) (append_assoc begun (b ∷ []) bs)

-- bytes that end one
pub fills : (size : ℕ) (begun xs more : List ℕ) → length begun + length xs ≡ size → length begun < size
    → samples_from size begun (xs ++ more) ≡ (begun ++ xs) ∷ samples_from size [] more
fills size begun [] more h l = absurd (omega (arith, h, l))
fills size begun (b ∷ []) more h l =
    ap (λ w. samples_by w (begun ++ b ∷ []) (λ next. samples_from size next more)) (eq-eqb (length begun + 1) size (omega (arith, h)))
fills size begun (b ∷ c ∷ bs) more h l =
    one_more size begun b ((c ∷ bs) ++ more) (omega (arith, h))
    ∙ fills size (begun ++ b ∷ []) (c ∷ bs) more (omega (arith, h, longer begun b)) (omega (arith, h, longer begun b))
    ∙ ap (λ s. s ∷ samples_from size [] more) (append_assoc begun (b ∷ []) (c ∷ bs))

-- what a whole sample says, and what is said after it
pub heard : (reader : Data) (sample : List ℕ) (is : Step) (more : List ℕ)
    → reader.refusal ≡ None → reader.begun.items ≡ [] → length sample ≡ reader.size → 0 < reader.size
    → is ≡ step (plan_of reader) reader.here reader.digital.items sample
    → to_come reader (sample ++ more)
    ≡ said_by is (λ next. said_from (plan_of reader) next (drop reader.offset sample) (samples_from reader.size [] more))
heard reader sample is more goes none whole some same =
    ap (λ r. unless_refused r (said_from (plan_of reader) reader.here reader.digital.items (samples_from reader.size reader.begun.items (sample ++ more)))) goes
    ∙ ap (λ o. said_from (plan_of reader) reader.here reader.digital.items (samples_from reader.size o (sample ++ more))) none
    ∙ ap (said_from (plan_of reader) reader.here reader.digital.items) (let e : 0 + length sample ≡ reader.size = omega (arith, whole) in fills reader.size [] sample more e some)
    ∙ ap (λ s. said_by s (λ next. said_from (plan_of reader) next (drop reader.offset sample) (samples_from reader.size [] more))) (sym same)

-- a reader that goes on after it
pub goes_on : (plan : Plan) (size : ℕ) (refusal : Option SampleFault) (now : Now) (digital new : List ℕ) (begun more : List ℕ)
    → refusal ≡ None → begun ≡ [] → new ≡ digital
    → said_from plan now digital (samples_from size [] more) ≡ unless_refused refusal (said_from plan now new (samples_from size begun more))
goes_on plan size refusal now digital new begun more goes none same =
    ap (λ d. said_from plan now d (samples_from size [] more)) (sym same)
    ∙ ap (λ o. said_from plan now new (samples_from size o more)) (sym none)
    ∙ ap (λ r. unless_refused r (said_from plan now new (samples_from size begun more))) (sym goes)

-- bytes that end a sample that was begun are as good as the whole sample where none was
pub ends_one : (size : ℕ) (begun bytes sample none more : List ℕ) → length begun + length bytes ≡ size → length begun < size
    → sample ≡ begun ++ bytes → none ≡ []
    → samples_from size begun (bytes ++ more) ≡ samples_from size none (sample ++ more)
ends_one size begun bytes sample none more whole less is none_is =
    let l : length sample ≡ length begun + length bytes = ap length is ∙ length-append begun bytes in
    let e : 0 + length sample ≡ size = omega (arith, whole, l) in
    let some : 0 < size = omega (arith, less) in
    fills size begun bytes more whole less
    ∙ ap (λ s. s ∷ samples_from size [] more) (sym is)
    ∙ sym (fills size [] sample more e some)
    ∙ ap (λ o. samples_from size o (sample ++ more)) (sym none_is)

-- where a front of the bytes has led, the next ones lead on from there
pub leads_on : (first here next : Data) (bytes rest : List ℕ) (count n : ℕ) (levels : Option Levels)
    → ((more : List ℕ) → to_come first (take count bytes ++ more) ≡ to_come here more)
    → rest ≡ drop count bytes → Leads here (take n rest) levels next
    → (more : List ℕ) → to_come first (take (count + n) bytes ++ more) ≡ said levels ++ to_come next more
leads_on first here next bytes rest count n levels so_far is leads more =
    ap (λ l. to_come first (l ++ more)) (take-add count n bytes)
    ∙ ap (to_come first) (append_assoc (take count bytes) (take n (drop count bytes)) more)
    ∙ so_far (take n (drop count bytes) ++ more)
    ∙ ap (λ l. to_come here (take n l ++ more)) (sym is)
    ∙ leads more

-- what no levels say
pub nothing_said : (levels : Option Levels) → is_some levels ≡ false → said levels ≡ []
nothing_said None e = refl
nothing_said (Some levels) e = absurd (let p : true ≡ false = e in cc)

pub begun_ends : (reader : Data) (bytes sample none : List ℕ) → length reader.begun.items + length bytes ≡ reader.size
    → sample ≡ reader.begun.items ++ bytes → none ≡ [] → (more : List ℕ)
    → to_come reader (bytes ++ more)
    ≡ unless_refused reader.refusal (said_from (plan_of reader) reader.here reader.digital.items (samples_from reader.size none (sample ++ more)))
begun_ends reader bytes sample none whole is none_is more =
    ap (λ s. unless_refused reader.refusal (said_from (plan_of reader) reader.here reader.digital.items s))
    (ends_one reader.size reader.begun.items bytes sample none more whole reader.is_begun is none_is)

-- the same channels are no change
pub same_stays : (count : ℕ) (chosen before digital : List ℕ) → nat_eq count 0 ≡ false → digital ≡ before
    → true ≡ stays count (high_of chosen before) (high_of chosen digital)
same_stays count chosen before digital e same =
    sym (ap (λ b. not b && nat_eq (high_of chosen before) (high_of chosen digital)) e
    ∙ eq-eqb (high_of chosen before) (high_of chosen digital) (ap (high_of chosen) (sym same)))

pub judged_goes : (plan : Plan) (now next : Now) (digital sample new : List ℕ) → new ≡ drop plan.offset sample
    → true ≡ stays now.count (high_of plan.chosen digital) (high_of plan.chosen new) → next ≡ counted now (mark_of sample)
    → Goes next ≡ step plan now digital sample
judged_goes plan now next digital sample new same e next_is =
    ap Goes next_is
    ∙ ap (λ b. step_by b plan (counted now (mark_of sample)) (high_of plan.chosen (drop plan.offset sample))) e
    ∙ ap (λ d. step_by (stays now.count (high_of plan.chosen digital) (high_of plan.chosen d)) plan (counted now (mark_of sample)) (high_of plan.chosen (drop plan.offset sample))) same

pub judged_says : (plan : Plan) (now next : Now) (digital sample new : List ℕ) (high : ℕ) (time : Result ℕ Reason) (is : Step) → new ≡ drop plan.offset sample
    → false ≡ stays now.count (high_of plan.chosen digital) (high_of plan.chosen new) → next ≡ counted now (mark_of sample)
    → high ≡ high_of plan.chosen new → time ≡ time_of plan.rates plan.clock next.first next.here → is ≡ said_by_time next high time
    → is ≡ step plan now digital sample
judged_says plan now next digital sample new high time is same e next_is high_is time_is said_is =
    let then_now = counted now (mark_of sample) in
    said_is
    ∙ ap (said_by_time next high) time_is
    ∙ ap (λ n. said_by_time n high (time_of plan.rates plan.clock n.first n.here)) next_is
    ∙ ap (λ h. step_by false plan then_now h) (high_is ∙ ap (high_of plan.chosen) same)
    ∙ ap (λ b. step_by b plan then_now (high_of plan.chosen (drop plan.offset sample))) e
    ∙ ap (λ d. step_by (stays now.count (high_of plan.chosen digital) (high_of plan.chosen d)) plan then_now (high_of plan.chosen (drop plan.offset sample))) same
