-- The widths of the pulses of frames are such as a line can carry.
use Rattle.std.proofs.Common.{◌≡◌, ℕ, zero, suc, ◌≤◌, List, [], ◌∷◌, length, map, All, Option, Some, None, ◌∙◌, arith}
use Rattle.std.specs.Prelude.{slice_set}
use Rattle.std.specs.List.{AllByRecursion}
use Rattle.std.proofs.lemmas.List.{length-map, length-set}
use Rattle.std.proofs.lemmas.List.Elements.{recursion_from_All, All-from_recursion}
use Rattle.std.proofs.lemmas.List.FromFn.{length-map-range_with_len}
use Rattle.irig_control.specs.declared.parity.Parity.{Parity}
use Rattle.irig_control.specs.Parity.{with_parity}
use Rattle.irig_frame.specs.declared.symbol.Symbol.{Symbol}
use Rattle.irig_frame.specs.declared.symbol.Symbol.TheVariants.{Zero, One, Marker, Bad}
use Rattle.irig_frame.specs.declared.coded.Coded.{Coded}
use Rattle.irig_frame.specs.Symbols.{width_of}
use Rattle.irig_frame.specs.Encoder.{blank_at, blank_frame, parts_of, frame_of_coded}
use Rattle.irig_frame.proofs.WritingLaws.{length-with_parts}
use Rattle.irig_gen.specs.declared.fault.GenFault.{GenFault}
use Rattle.irig_gen.specs.Frames.{GeneratorValue}
use Rattle.irig_gen.specs.Faults.{sent_edge}
use Rattle.irig_gen.specs.Sent.{frame_with, frame_of, sent_from, sent_of}
use Rattle.irig_time.specs.declared.second.UtcSecond.{UtcSecond}
use Rattle.irig_time.specs.Frames.{frame_of_second}
use Rattle.irig_time.specs.Timelines.{TimelineValue, second_at}
use Rattle.irig_plant.specs.declared.event.Event.{Event}
use Rattle.irig_plant.specs.Schedule.{Setup, generator_at, pulses_sent, pulses_sent_at}
use Rattle.irig_plant.specs.Widths.{widths_of}

abbrev pub AreWidths : List ℕ → Type 0
AreWidths ws = (length ws ≤ 1000) × All (λ w. w ≤ 4294967295) ws

abbrev IsFew : Option (List Symbol) → Type 0
IsFew None = Rattle.std.specs.Prelude.⊤
IsFew (Some s) = length s ≡ 100

coded_length : (c : Coded) → length (frame_of_coded c) ≡ 100
unfolding frame_of_coded
coded_length c = length-with_parts (parts_of c) blank_frame ∙ length-map-range_with_len blank_at 0 100

parity_length : (p : Parity) (s : List Symbol) → length s ≡ 100 → length (with_parity p s) ≡ 100
parity_length p s h = length-set s 75 _ ∙ h

frame_few : (fault : Option GenFault) (g : GeneratorValue) (t : TimelineValue) (o : Option UtcSecond) → IsFew (frame_with fault g t o)
unfolding frame_of_second
frame_few fault g t None = tt
frame_few fault g t (Some u) = parity_length g.rules.parity _ (coded_length _)

edge_few : (fault : Option GenFault) (g : GeneratorValue) (t : TimelineValue) (edge : ℕ) → IsFew (frame_of fault g t edge)
unfolding frame_of
edge_few fault g t edge = frame_few fault g t (second_at t edge)

from_few : (o : Option ℕ) (g : GeneratorValue) (t : TimelineValue) → IsFew (sent_from o g t)
from_few None g t = tt
from_few (Some edge) g t = edge_few g.fault g t edge

sent_few : (g : GeneratorValue) (t : TimelineValue) → IsFew (sent_of g t)
unfolding sent_of
sent_few g t = from_few (sent_edge g.fault g.edge g.since) g t

width_small : (s : Symbol) → width_of s ≤ 4294967295
width_small Zero = omega arith
width_small One = omega arith
width_small Marker = omega arith
width_small Bad = omega arith

widths_small : (s : List Symbol) → AllByRecursion (λ w. w ≤ 4294967295) (map width_of s)
widths_small [] = tt
widths_small (x ∷ xs) = (width_small x, widths_small xs)

frame_can : (o : Option (List Symbol)) → IsFew o → AreWidths (widths_of o)
frame_can None h = (omega arith, All-from_recursion _ [] tt)
frame_can (Some s) h = (let few : length (map width_of s) ≡ length s = length-map s width_of in omega (arith, few, h), All-from_recursion _ (map width_of s) (widths_small s))

pub pulses_can : (s : Setup) (g : ℕ) (ev : List Event) → AreWidths (pulses_sent s g ev)
pulses_can s g ev = frame_can (sent_of (generator_at s g ev) s.times) (sent_few (generator_at s g ev) s.times)

pub pulses_at_can : (s : Setup) (g edge : ℕ) (ev : List Event) → AreWidths (pulses_sent_at s g edge ev)
pulses_at_can s g edge ev = frame_can (frame_of None (generator_at s g ev) s.times edge) (edge_few None (generator_at s g ev) s.times edge)

set_small : (ws : List ℕ) (at width : ℕ) → width ≤ 4294967295 → AllByRecursion (λ w. w ≤ 4294967295) ws → AllByRecursion (λ w. w ≤ 4294967295) (slice_set ws at width)
set_small [] at width h all = tt
set_small (w ∷ ws) zero width h all = (h, all.1)
set_small (w ∷ ws) (suc at) width h all = (all.0, set_small ws at width h all.1)

pub damaged_can : (at width : ℕ) (ws : List ℕ) → width ≤ 4294967295 → AreWidths ws → AreWidths (slice_set ws at width)
damaged_can at width ws h can = (
  let same : length (slice_set ws at width) ≡ length ws = length-set ws at width in omega (arith, same, can.0),
  All-from_recursion _ (slice_set ws at width) (set_small ws at width h (recursion_from_All _ ws can.1)),
)
