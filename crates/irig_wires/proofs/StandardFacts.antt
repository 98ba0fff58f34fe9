-- The definitions at known values.
use Rattle.std.specs.Prelude.{pos, negsuc, map}
use Rattle.std.proofs.Common.{◌≡◌, ℕ, List, [], ◌∷◌, Option, Some, None, refl, arith}
use Rattle.irig_wires.specs.declared.wire.Flight.{Flight}
use Rattle.irig_wires.specs.declared.wire.Wire.{Wire}
use Rattle.irig_wires.specs.declared.wires.Wires.{Wires}
use Rattle.irig_wires.specs.declared.wires.Ending.{Ending}
use Rattle.irig_wires.specs.declared.wires.Coming.{Coming}
use Rattle.irig_wires.specs.declared.wires.Happening.TheVariants.{End, Tick, Send}
use Rattle.irig_wires.specs.Oscillator.{counter_at, edges_by, rate_of, time_of}
use Rattle.irig_wires.specs.Wires.{added, made_late, plugged, pulled, sent, wire_at, wires_of, with_wire}
use Rattle.irig_wires.specs.Happenings.{next_end, coming_of}
use Rattle.irig_wires.specs.Order.{ComesFirst, EndsFirst, behind_end}
use Rattle.irig_wires.specs.Calls.{Call, LineCall, AreBy, AreApart, AreElements, AreOnLines, IsLeftAlone, brought, calls_on, carried, sendings, wire_after, wires_after}
use Rattle.irig_wires.specs.Calls.Call.{Take, Add, Pull}
use Rattle.irig_wires.specs.Calls.Call.{Send as Sends}

-- ---- an oscillator

pub known_rates : map rate_of (pos 0 ∷ pos 20 ∷ negsuc 69 ∷ pos 1000 ∷ negsuc 999 ∷ []) ≡ 1000000 ∷ 1000020 ∷ 999930 ∷ 1001000 ∷ 999000 ∷ []
known_rates = refl

-- one that gains 20 us a second shows one count more each 50 ms; it passes over one then
abbrev fast : ℕ → ℕ
fast time = counter_at 4290000000 1000020 time

pub known_fast : map fast (0 ∷ 1 ∷ 49999 ∷ 50000 ∷ 6300000 ∷ []) ≡ 4290000000 ∷ 4290000001 ∷ 4290049999 ∷ 4290050001 ∷ 4296300126 ∷ []
known_fast = refl

-- one that loses 70 shows one less each 14,286 us: it stands for one of them
abbrev slow : ℕ → ℕ
slow time = counter_at 0 999930 time

pub known_slow : map slow (0 ∷ 1 ∷ 2 ∷ 14285 ∷ 14286 ∷ 14287 ∷ 1000000 ∷ 49500000 ∷ []) ≡ 0 ∷ 0 ∷ 1 ∷ 14284 ∷ 14284 ∷ 14285 ∷ 999930 ∷ 49496535 ∷ []
known_slow = refl

-- asked back: what was passed over is shown when the next count is, what was shown from the start at 0
pub known_first_times : (map (time_of 4290000000 1000020) (4289999999 ∷ 4290000000 ∷ 4290000001 ∷ 4290049999 ∷ 4290050000 ∷ 4290050001 ∷ 4290050002 ∷ []) ≡ 0 ∷ 0 ∷ 1 ∷ 49999 ∷ 50000 ∷ 50000 ∷ 50001 ∷ [])
    × (map (time_of 0 999930) (0 ∷ 1 ∷ 14284 ∷ 14285 ∷ 999930 ∷ []) ≡ 0 ∷ 2 ∷ 14285 ∷ 14287 ∷ 1000000 ∷ [])
known_first_times = (refl, refl)

-- a day of it
pub known_edges : (edges_by 4290000000 1000020 6 ≡ 4296000120) × (edges_by 4290000000 1000020 86400 ≡ 90691728000) × (counter_at 4290000000 1000020 86400000000 ≡ 90691728000)
known_edges = (refl, refl, refl)

-- ---- three lines that are 0, 350 and 700 us late

abbrev at_rest : Wires
at_rest = wires_of (0 ∷ 350 ∷ 700 ∷ [])

-- generators send a pulse on each
abbrev sent_on : (now width : ℕ) → Wires → (line : ℕ) → Wires
sent_on now width wires line = with_wire wires line (sent now width (wire_at wires line))

abbrev all_sent : (now width : ℕ) → Wires → Wires
all_sent now width wires = sent_on now width (sent_on now width (sent_on now width wires 0) 1) 2

abbrev on_their_way : Wires → List (Option Flight)
on_their_way wires = wires.a.flight ∷ wires.b.flight ∷ wires.c.flight ∷ wires.d.flight ∷ wires.e.flight ∷ []

abbrev flight : (rise end : ℕ) → Flight
flight rise end = record { rise_us = rise; end_us = end }

abbrev ending : (line rise end : ℕ) → Ending
ending line rise end = record { line = line; flight = flight rise end }

-- a marker is sent at 0
abbrev marked : Wires
marked = all_sent 0 8000 at_rest

pub known_marked : on_their_way marked ≡ Some (flight 0 8000) ∷ Some (flight 350 8350) ∷ Some (flight 700 8700) ∷ None ∷ None ∷ []
known_marked = refl

abbrev ends : (line rise end : ℕ) → Coming
ends line rise end = record { time_us = end; what = End (ending line rise end) }

abbrev ticks : ℕ → Coming
ticks time = record { time_us = time; what = Tick }

abbrev sends : ℕ → Coming
sends time = record { time_us = time; what = Send }

-- it ends on one line after another; a tick that falls on the second end comes behind it
abbrev one_ended : Wires
one_ended = behind_end marked (ending 0 0 8000)

abbrev two_ended : Wires
two_ended = behind_end one_ended (ending 1 350 8350)

abbrev three_ended : Wires
three_ended = behind_end two_ended (ending 2 700 8700)

pub known_order : (coming_of marked (Some 8350) 10000 ≡ ends 0 0 8000) × (coming_of one_ended (Some 8350) 10000 ≡ ends 1 350 8350)
    × (coming_of two_ended (Some 8350) 10000 ≡ ticks 8350) × (coming_of two_ended None 10000 ≡ ends 2 700 8700) × (coming_of three_ended None 10000 ≡ sends 10000) × (next_end three_ended ≡ None)
known_order = (refl, refl, refl, refl, refl, refl)

-- a tick that falls on a sending comes before it, and an end before a tick
pub known_together : (coming_of three_ended (Some 10000) 10000 ≡ ticks 10000) × (coming_of three_ended (Some 10001) 10000 ≡ sends 10000) × (coming_of marked (Some 8000) 8000 ≡ ends 0 0 8000)
known_together = (refl, refl, refl)

pub known_not_first : ¬ ComesFirst marked (Some 8000) 10000 (ticks 8000) × ¬ ComesFirst marked None 10000 (ends 1 350 8350)
known_not_first = (λ h. absurd (let later = (h.is_tick refl).1 0 (flight 0 8000) (omega arith, refl) in omega (arith, later)), λ h. absurd (let not_before = h.ends 0 (flight 0 8000) (omega arith, refl) in omega (arith, not_before)))

-- of two that end at one time, on line 2 and on line 1, that of line 1 is first, and the other next
abbrev equal_ends : Wires
equal_ends = sent_on 0 2650 (sent_on 300 2000 at_rest 2) 1

pub known_equal : (on_their_way equal_ends ≡ None ∷ Some (flight 350 3000) ∷ Some (flight 1000 3000) ∷ None ∷ None ∷ []) × (next_end equal_ends ≡ Some (ending 1 350 3000))
    × (next_end (behind_end equal_ends (ending 1 350 3000)) ≡ Some (ending 2 1000 3000)) × ¬ EndsFirst equal_ends (ending 2 1000 3000)
known_equal = (refl, refl, refl, λ h. absurd (let later = h.lowest 1 (flight 350 3000) (omega arith, refl) (omega arith) in omega (arith, later)))

-- ---- a cable is out, and in again

-- line 1 is out at 10 ms, and in again at 11: it brings nothing of that element, and the next one
abbrev pulled_out : Wires
pulled_out = with_wire three_ended 1 (pulled (wire_at three_ended 1))

abbrev without_it : Wires
without_it = all_sent 10000 2000 pulled_out

abbrev plugged_in : Wires
plugged_in = with_wire without_it 1 (plugged (wire_at without_it 1))

abbrev ended_again : Wires
ended_again = behind_end (behind_end plugged_in (ending 0 10000 12000)) (ending 2 10700 12700)

pub known_pulled : (on_their_way without_it ≡ Some (flight 10000 12000) ∷ None ∷ Some (flight 10700 12700) ∷ None ∷ None ∷ []) × (on_their_way plugged_in ≡ on_their_way without_it)
    × (on_their_way (all_sent 20000 5000 ended_again) ≡ Some (flight 20000 25000) ∷ Some (flight 20350 25350) ∷ Some (flight 20700 25700) ∷ None ∷ None ∷ [])
known_pulled = (refl, refl, refl)

-- what is on its way still comes when the cable is out, or later than before; what is sent then is later
abbrev on_line_1 : Wire
on_line_1 = wire_at marked 1

pub known_on_its_way : ((pulled on_line_1).flight ≡ Some (flight 350 8350)) × ((made_late 1999 on_line_1).flight ≡ Some (flight 350 8350))
    × ((sent 10000 8000 (made_late 1999 (wire_at three_ended 1))).flight ≡ Some (flight 11999 19999))
known_on_its_way = (refl, refl, refl)

-- ---- a pulse by hand

-- 3 ms from 29 ms on, on line 2: the marker at 30 ms is lost there. So is one by hand on a busy line; on a
-- line whose cable is out it comes
abbrev by_hand : Wires
by_hand = with_wire ended_again 2 (added 29000 3000 (wire_at ended_again 2))

pub known_by_hand : (on_their_way (all_sent 30000 8000 by_hand) ≡ Some (flight 30000 38000) ∷ Some (flight 30350 38350) ∷ Some (flight 29000 32000) ∷ None ∷ None ∷ [])
    × ((added 7000 5 on_line_1).flight ≡ Some (flight 350 8350)) × ((added 9500 5 (wire_at pulled_out 1)).flight ≡ Some (flight 9500 9505))
known_by_hand = (refl, refl, refl)

-- ---- a line by its calls, the newest first

-- three elements on a line that is left alone, 350 us late
abbrev left_alone : List Call
left_alone = Sends 20000 5000 ∷ Take 12350 ∷ Sends 10000 2000 ∷ Take 8350 ∷ Sends 0 8000 ∷ []

pub known_carried : (brought 350 left_alone ≡ flight 10350 12350 ∷ flight 350 8350 ∷ []) × (carried 350 left_alone ≡ flight 20350 25350 ∷ flight 10350 12350 ∷ flight 350 8350 ∷ [])
known_carried = (refl, refl)

-- it meets what the laws ask
pub known_alone : IsLeftAlone 350 left_alone × AreElements (sendings left_alone) × AreBy 20000 left_alone × AreApart 20000 (brought 350 left_alone)
known_alone = ((refl, (refl, (refl, tt))), (omega arith, omega arith, (omega arith, omega arith, (omega arith, tt, tt))), (omega arith, (omega arith, (omega arith, (omega arith, (omega arith, tt))))), (omega arith, (omega arith, tt)))

-- a microsecond before its end nothing is taken; on a line 1,999 us late a pulse of 8,002 us costs the next
pub known_limits : (brought 350 (Take 8349 ∷ Sends 0 8000 ∷ []) ≡ []) × (carried 1999 (Sends 10000 2000 ∷ Take 10000 ∷ Sends 0 8002 ∷ []) ≡ flight 1999 10001 ∷ [])
    × (carried 1999 (Sends 10000 2000 ∷ Take 10000 ∷ Sends 0 8000 ∷ []) ≡ flight 11999 13999 ∷ flight 1999 9999 ∷ [])
known_limits = (refl, refl, refl)

-- a pulse by hand or a cable that is out is not left alone
pub known_touched : ¬ IsLeftAlone 350 (Add 0 5 ∷ []) × ¬ IsLeftAlone 350 (Pull ∷ left_alone) × ¬ IsLeftAlone 350 (Sends 10000 2000 ∷ Sends 0 8000 ∷ [])
known_touched = (λ h. h, λ h. h, λ h. absurd (let none = h.0 in cc))

-- ---- the lines of a device by their calls

abbrev some_calls : List LineCall
some_calls = record { line = 2; call = Add 29000 3000 } ∷ record { line = 1; call = Sends 20000 5000 } ∷ record { line = 0; call = Sends 20000 5000 } ∷ record { line = 0; call = Pull } ∷ []

abbrev behind_them : Wires
behind_them = wires_after (0 ∷ 350 ∷ 700 ∷ []) some_calls

pub known_lines : (on_their_way behind_them ≡ None ∷ Some (flight 20350 25350) ∷ Some (flight 29000 32000) ∷ None ∷ None ∷ []) × (calls_on 0 some_calls ≡ Sends 20000 5000 ∷ Pull ∷ []) × (calls_on 4 some_calls ≡ [])
    × (wire_at behind_them 0 ≡ wire_after 0 (calls_on 0 some_calls)) × (wire_at behind_them 1 ≡ wire_after 350 (calls_on 1 some_calls)) × AreOnLines some_calls
known_lines = (refl, refl, refl, refl, refl, (omega arith, (omega arith, (omega arith, (omega arith, tt)))))
