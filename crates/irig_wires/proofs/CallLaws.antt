-- What a line brings by its calls.
use Rattle.std.proofs.Common.{◌≡◌, ◌∙◌, ℕ, ◌+◌, ◌≤◌, ◌⊎◌, true, List, [], ◌∷◌, Option, Some, None, refl, ap, arith, inl, inr}
use Rattle.irig_wires.specs.declared.wire.Flight.{Flight}
use Rattle.irig_wires.specs.declared.wire.Wire.{Wire}
use Rattle.irig_wires.specs.Wires.{ended, flight_of, sent, taken, most_late_us}
use Rattle.irig_wires.specs.Calls.{Call, Sending, called, wire_after, with_flight, brought, carried, sendings, as_sent, AreBy, AreApart, AreElements, IsLeftAlone}
use Rattle.irig_wires.specs.Calls.Call.{Pull, Plug, BeLate, Send, Add, Take}
use Rattle.irig_wires.proofs.WireLaws.{sent_busy, sent_free, sent_flight, added_busy, added_flight, taken_busy, taken_free}

-- no call takes the place of a pulse: it stays until it has ended and is taken
pub stays : (call : Call) (wire : Wire) (flight : Flight) → wire.flight ≡ Some flight → ((called call wire).flight ≡ Some flight) ⊎ ((now : ℕ) × (call ≡ Take now) × (flight.end_us ≤ now))
stays Pull wire flight on = inl on
stays Plug wire flight on = inl on
stays (BeLate late) wire flight on = inl on
stays (Send now width) wire flight on = inl (ap (λ (w : Wire). w.flight) (sent_busy now width wire flight on) ∙ on)
stays (Add now width) wire flight on = inl (ap (λ (w : Wire). w.flight) (added_busy now width wire flight on) ∙ on)
stays (Take now) wire flight on = elim (taken_busy now wire flight on) [
  | inl h ↦ inr (now, refl, h.2)
  | inr h ↦ inl (ap (λ (w : Wire). w.flight) h.0 ∙ on)
]

-- ---- one pulse behind another

later : (flights : List Flight) (s t : ℕ) → s ≤ t → AreApart s flights → AreApart t flights
later [] s t before apart = apart
later (flight ∷ flights) s t before apart = (omega (arith, apart.0), apart.1)

-- what was brought has ended by the time of the last call, and when what is on its way rises
pub record IsInTurn (time : ℕ) (flight : Option Flight) (flights : List Flight) : Type 0 where
  pub past : AreApart time flights
  pub next : (x : Flight) → flight ≡ Some x → AreApart x.rise_us flights

on_later : (s t : ℕ) (flight : Option Flight) (flights : List Flight) → s ≤ t → IsInTurn s flight flights → IsInTurn t flight flights
on_later s t flight flights before turn = record { past = later flights s t before turn.past; next = turn.next }

-- a pulse that rises now, or none that is new, is behind what was brought
comes_behind : (now time : ℕ) (old new : Option Flight) (flights : List Flight) → now ≤ time → IsInTurn now old flights
    → ((x : Flight) → new ≡ Some x → (old ≡ Some x) ⊎ ((now ≤ x.rise_us) × (now ≤ x.end_us))) → IsInTurn time new flights
comes_behind now time old new flights by turn from = record {
  past = later flights now time by turn.past;
  next = λ x on. elim (from x on) [ inl was ↦ turn.next x was | inr h ↦ later flights now x.rise_us h.0 turn.past ];
}

-- what is taken has ended
takes_behind : (now time : ℕ) (wire : Wire) (flights : List Flight) → now ≤ time → IsInTurn now wire.flight flights → IsInTurn time (taken now wire).flight (with_flight (ended now wire.flight) flights)
takes_behind now time wire flights by turn = go wire.flight refl
  where
    same : (taken now wire ≡ wire) × (ended now wire.flight ≡ None) → IsInTurn time (taken now wire).flight (with_flight (ended now wire.flight) flights)
    same h = rw (h.0, h.1) (on_later now time wire.flight flights by turn)

    go : (o : Option Flight) → wire.flight ≡ o → IsInTurn time (taken now wire).flight (with_flight (ended now wire.flight) flights)
    go None free = same (taken_free now wire free)
    go (Some flight) busy = elim (taken_busy now wire flight busy) [
      | inl h ↦ rw (h.0, h.1) (record {
        past = (let past = h.2 in omega arith, turn.next flight busy);
        next = λ x on. absurd (cc);
      })
      | inr h ↦ same (h.0, h.1)
    ]

pub in_turn : (late time : ℕ) (calls : List Call) → AreBy time calls → IsInTurn time (wire_after late calls).flight (brought late calls)
in_turn late time [] by = record { past = by; next = λ x on. by }
in_turn late time (Pull ∷ calls) by = in_turn late time calls by
in_turn late time (Plug ∷ calls) by = in_turn late time calls by
in_turn late time (BeLate more ∷ calls) by = in_turn late time calls by
in_turn late time (Send now width ∷ calls) by =
    let wire = wire_after late calls in
    comes_behind now time wire.flight (sent now width wire).flight (brought late calls) by.0 (in_turn late now calls by.1) (sent_flight now width wire)
in_turn late time (Add now width ∷ calls) by =
    let wire = wire_after late calls in
    comes_behind now time wire.flight _ (brought late calls) by.0 (in_turn late now calls by.1) (added_flight now width wire)
in_turn late time (Take now ∷ calls) by =
    takes_behind now time (wire_after late calls) (brought late calls) by.0 (in_turn late now calls by.1)

-- ---- a line that is left alone

-- it is plugged in, as late as at first, and has brought or brings all that was sent
record Brings (late : ℕ) (wire : Wire) (flights : List Flight) (all : List Sending) : Type 0 where
  in_now : wire.is_plugged ≡ true
  same : wire.late_us ≡ late
  each : with_flight wire.flight flights ≡ as_sent late all

-- what was sent last has ended when the next is sent
ended_before : (late now width : ℕ) (all : List Sending) (flight : Flight) (flights : List Flight) → late ≤ most_late_us → AreElements (record { time = now; width = width } ∷ all)
    → flight ∷ flights ≡ as_sent late all → flight.end_us ≤ now
ended_before late now width [] flight flights few elements each = absurd (cc)
ended_before late now width (sending ∷ all) flight flights few elements each =
    let last : flight ≡ flight_of (sending.time + late) sending.width = cc in
    rw last (omega (arith, elements.1, elements.2.0))

sent_once_more : (late now width : ℕ) (wire : Wire) (flights : List Flight) (all : List Sending) → late ≤ most_late_us → AreElements (record { time = now; width = width } ∷ all)
    → ended now wire.flight ≡ None → Brings late wire flights all → Brings late (sent now width wire) flights (record { time = now; width = width } ∷ all)
sent_once_more late now width wire flights all few elements none brings = go wire.flight refl
  where
    go : (o : Option Flight) → wire.flight ≡ o → Brings late (sent now width wire) flights (record { time = now; width = width } ∷ all)
    go None free =
        let old : flights ≡ as_sent late all = rw free at brings.each in
        rw (sent_free now width wire brings.in_now free) (record { in_now = brings.in_now; same = brings.same; each = rw (brings.same, old) refl })
    go (Some flight) busy =
        let past = ended_before late now width all flight flights few elements (rw busy at brings.each) in
        elim (taken_busy now wire flight busy) [
          | inl h ↦ absurd (let on = h.1 in cc)
          | inr h ↦ absurd (let ahead = h.2 in omega (arith, past))
        ]

taken_once_more : (late now : ℕ) (wire : Wire) (flights : List Flight) (all : List Sending) → Brings late wire flights all → Brings late (taken now wire) (with_flight (ended now wire.flight) flights) all
taken_once_more late now wire flights all brings = go wire.flight refl
  where
    same : (taken now wire ≡ wire) × (ended now wire.flight ≡ None) → Brings late (taken now wire) (with_flight (ended now wire.flight) flights) all
    same h = rw (h.0, h.1) brings

    go : (o : Option Flight) → wire.flight ≡ o → Brings late (taken now wire) (with_flight (ended now wire.flight) flights) all
    go None free = same (taken_free now wire free)
    go (Some flight) busy = elim (taken_busy now wire flight busy) [
      | inl h ↦ rw (h.0, h.1) (record { in_now = brings.in_now; same = brings.same; each = rw busy at brings.each })
      | inr h ↦ same (h.0, h.1)
    ]

brings_all : (late : ℕ) (calls : List Call) → late ≤ most_late_us → IsLeftAlone late calls → AreElements (sendings calls) → Brings late (wire_after late calls) (brought late calls) (sendings calls)
brings_all late [] few alone elements = record { in_now = refl; same = refl; each = refl }
brings_all late (Send now width ∷ calls) few alone elements =
    sent_once_more late now width (wire_after late calls) (brought late calls) (sendings calls) few elements alone.0 (brings_all late calls few alone.1 elements.2)
brings_all late (Take now ∷ calls) few alone elements =
    taken_once_more late now (wire_after late calls) (brought late calls) (sendings calls) (brings_all late calls few alone elements)
brings_all late (Pull ∷ calls) few alone elements = absurd alone
brings_all late (Plug ∷ calls) few alone elements = absurd alone
brings_all late (BeLate more ∷ calls) few alone elements = absurd alone
brings_all late (Add now width ∷ calls) few alone elements = absurd alone

-- ---- laws

pub apart : (late time : ℕ) (calls : List Call) → AreBy time calls → AreApart time (brought late calls)
apart late time calls by = (in_turn late time calls by).past

pub next_apart : (late time : ℕ) (calls : List Call) (flight : Flight) → AreBy time calls → (wire_after late calls).flight ≡ Some flight → AreApart flight.rise_us (brought late calls)
next_apart late time calls flight by on = (in_turn late time calls by).next flight on

pub loses_none : (late : ℕ) (calls : List Call) → late ≤ most_late_us → IsLeftAlone late calls → AreElements (sendings calls) → carried late calls ≡ as_sent late (sendings calls)
loses_none late calls few alone elements = (brings_all late calls few alone elements).each
