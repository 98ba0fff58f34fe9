-- In each second of a station a generator's frame ends with a marker, if it sends one, whatever its fault.
use Rattle.std.proofs.Common.{◌≡◌, ◌∙◌, ℕ, zero, suc, ◌+◌, ◌-◌, ◌/◌, ◌%◌, ◌==◌, true, List, [], ◌∷◌, length, Option, Some, None, refl, sym, ap, inl, inr, ℤ}
use Rattle.std.specs.Prelude.{map, nat_lt, option_and_then, slice_get}
use Rattle.std.specs.Option.{option_map}
use Rattle.std.proofs.lemmas.Bool.{cases_Bool}
use Rattle.std.proofs.lemmas.Option.{same_Some, slice_get-map}
use Rattle.irig_frame.specs.declared.symbol.Symbol.{Symbol}
use Rattle.irig_frame.specs.declared.symbol.Symbol.TheVariants.{Marker}
use Rattle.irig_frame.specs.Encoder.{frame_of_coded}
use Rattle.irig_control.specs.declared.control.Control.{Control}
use Rattle.irig_control.specs.declared.parity.Parity.{Parity}
use Rattle.irig_sync.specs.Sync.{is_marker_symbol}
use Rattle.irig_time.specs.declared.second.UtcSecond.{UtcSecond}
use Rattle.irig_time.specs.Frames.{frame_of_second}
use Rattle.irig_time.specs.Timelines.{TimelineValue, second_at}
use Rattle.irig_gen.specs.declared.fault.GenFault.{GenFault}
use Rattle.irig_gen.specs.Faults.{sent_edge}
use Rattle.irig_gen.specs.Frames.{GeneratorValue}
use Rattle.irig_gen.specs.Sent.{frame_of, frame_with, sent_from, sent_of}
use Rattle.irig_simulated.specs.Seconds.{symbol_at}
use Rattle.irig_station.specs.declared.event.Event.{Event}
use Rattle.irig_station.specs.declared.event.Event.TheVariants.{Pass, Fault, Repair, Pull, Plug, Late, Pulse, Tick, Restart, Stamp}
use Rattle.irig_station.specs.StationSetups.{StationSetup}
use Rattle.irig_station.specs.StationStandings.{StationStanding, StationStep, devices_gone, has_begun_if_due, is_at_edge, lacks_second, part_gone, part_us, time_gone}
use Rattle.irig_station.specs.StationPlay.{play_event, standing_after, unless_device, unless_source}
use Rattle.irig_station.specs.SentSeconds.{SentSecond, second_sent, sent_second, signal_by, symbol_of_sent}

-- ---- one frame

frame_ends : (parity : Parity) (u : UtcSecond) (half_hours : ℤ) (k : Control) → symbol_at (frame_of_second parity u half_hours k) 99 ≡ Marker
unfolding frame_of_second frame_of_coded
frame_ends parity u half_hours k = refl

frame_with_ends : (fault : Option GenFault) (g : GeneratorValue) (t : TimelineValue) (second : Option UtcSecond) (frame : List Symbol) → frame_with fault g t second ≡ Some frame → symbol_at frame 99 ≡ Marker
frame_with_ends fault g t None frame is = absurd cc
frame_with_ends fault g t (Some u) frame is = ap (λ (s : List Symbol). symbol_at s 99) (sym (same_Some _ frame is)) ∙ frame_ends _ u _ _

from_ends : (g : GeneratorValue) (t : TimelineValue) (edge : Option ℕ) (frame : List Symbol) → sent_from edge g t ≡ Some frame → symbol_at frame 99 ≡ Marker
unfolding frame_of
from_ends g t None frame is = absurd cc
from_ends g t (Some edge) frame is = frame_with_ends g.fault g t (second_at t edge) frame is

sent_ends : (g : GeneratorValue) (t : TimelineValue) (frame : List Symbol) → sent_of g t ≡ Some frame → symbol_at frame 99 ≡ Marker
unfolding sent_of
sent_ends g t frame is = from_ends g t (sent_edge g.fault g.edge g.since) frame is

-- ---- what generators send at the end of each second that has begun

abbrev pub EndWithMarkers : List (List SentSecond) → Type 0
EndWithMarkers seconds = (g e : ℕ) (x : Symbol) → e % 100 ≡ 99 → signal_by seconds g e ≡ Some x → is_marker_symbol x ≡ true

symbol_ends : (t : TimelineValue) (source : GeneratorValue) (o : Option (List Symbol)) (x : Symbol) → sent_of source t ≡ o → option_map (λ frame. symbol_at frame 99) o ≡ Some x → is_marker_symbol x ≡ true
symbol_ends t source None x is on = absurd cc
symbol_ends t source (Some frame) x is on = ap is_marker_symbol (sym (same_Some (symbol_at frame 99) x on) ∙ sent_ends source t frame is)

line_ends : (t : TimelineValue) (o : Option GeneratorValue) (x : Symbol) → option_and_then (symbol_of_sent 99) (option_map (sent_second t) o) ≡ Some x → is_marker_symbol x ≡ true
line_ends t None x on = absurd cc
line_ends t (Some source) x on = symbol_ends t source (sent_of source t) x refl on

next_ends : (t : TimelineValue) (sources : List GeneratorValue) (seconds : List (List SentSecond)) → EndWithMarkers seconds → EndWithMarkers (map (sent_second t) sources ∷ seconds)
next_ends t sources seconds all g e x last on = elim (cases_Bool (e / 100 == length seconds)) [
  | inr older ↦
      let same : second_sent (map (sent_second t) sources ∷ seconds) (e / 100) ≡ second_sent seconds (e / 100) = rw older refl in
      all g e x last (ap (λ (xs : List SentSecond). option_and_then (symbol_of_sent (e % 100)) (slice_get xs g)) (sym same) ∙ on)
  | inl newest ↦
      let same : second_sent (map (sent_second t) sources ∷ seconds) (e / 100) ≡ map (sent_second t) sources = rw newest refl in
      line_ends t (slice_get sources g) x
      (ap (option_and_then (symbol_of_sent 99)) (sym (slice_get-map (sent_second t) sources g))
      ∙ ap (λ (n : ℕ). option_and_then (symbol_of_sent n) (slice_get (map (sent_second t) sources) g)) (sym last)
      ∙ ap (λ (xs : List SentSecond). option_and_then (symbol_of_sent (e % 100)) (slice_get xs g)) (sym same) ∙ on)
]

-- ---- after events

module _ (s : StationSetup) where
  abbrev Ends : StationStanding → Type 0
  Ends x = EndWithMarkers x.seconds

  devices_end : (stop devices : ℕ) (x : StationStanding) → Ends x → Ends (devices_gone s stop devices x)
  devices_end stop zero x all = all
  devices_end stop (suc q) x all = devices_end stop q x all

  begun_ends : (x : StationStanding) → Ends x → Ends (has_begun_if_due s x)
  begun_ends x all = elim (cases_Bool (is_at_edge x)) [
    | inr not_yet ↦ rw not_yet all
    | inl due ↦ rw due (next_ends s.times x.generators x.seconds all)
  ]

  time_ends : (parts us : ℕ) (x : StationStanding) → Ends x → Ends (time_gone s parts us x).standing
  time_ends zero us x all = all
  time_ends (suc parts) us x all = elim (cases_Bool (us == 0)) [
    | inl over ↦ rw over all
    | inr more ↦ elim (cases_Bool (lacks_second s x)) [
      | inl end ↦ rw (more, end) all
      | inr goes ↦
          let begun = has_begun_if_due s x in
          let part = part_us us begun in
          rw (more, goes) (time_ends parts (us - part) (part_gone s (begun.now + part) begun) (devices_end (begun.now + part) (length s.devices) begun (begun_ends x all)))
    ]
  ]

  if_device : (q : ℕ) (x : StationStanding) (rest : StationStep) → Ends x → Ends rest.standing → Ends (unless_device s q x rest).standing
  if_device q x rest all go = elim (cases_Bool (nat_lt q (length s.devices))) [
    | inl there ↦ rw there go
    | inr none ↦ rw none all
  ]

  if_source : (g : ℕ) (x : StationStanding) (rest : StationStep) → Ends x → Ends rest.standing → Ends (unless_source s g x rest).standing
  if_source g x rest all go = elim (cases_Bool (nat_lt g (length s.generators))) [
    | inl there ↦ rw there go
    | inr none ↦ rw none all
  ]

  plays_end : (e : Event) (x : StationStanding) → Ends x → Ends (play_event s e x).standing
  plays_end (Pass us) x all = time_ends _ us x all
  plays_end (Fault g kind) x all = if_source g x _ all all
  plays_end (Repair g) x all = if_source g x _ all all
  plays_end (Pull g q) x all = if_device q x _ all (if_source g x _ all all)
  plays_end (Plug g q) x all = if_device q x _ all (if_source g x _ all all)
  plays_end (Late g q us) x all = if_device q x _ all (if_source g x _ all all)
  plays_end (Pulse g q width) x all = if_device q x _ all (if_source g x _ all all)
  plays_end (Tick q) x all = if_device q x _ all all
  plays_end (Restart q) x all = if_device q x _ all all
  plays_end (Stamp q ago) x all = if_device q x _ all (elim (cases_Bool (nat_lt x.now ago)) [
    | inl early ↦ rw early all
    | inr past ↦ rw past all
  ])

  pub all_end : (ev : List Event) → EndWithMarkers (standing_after s ev).seconds
  all_end [] = λ g e x last on. absurd (let none : None ≡ Some x = on in cc)
  all_end (e ∷ ev) = plays_end e (standing_after s ev) (all_end ev)
