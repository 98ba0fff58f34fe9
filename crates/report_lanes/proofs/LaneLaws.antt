-- What one tick more does to the open lanes of a reader, and of all readers.
use Rattle.std.proofs.Common.{◌≡◌, ℕ, ◌<◌, List, ◌∷◌, length, get_or, set, Option, Some, refl, ap, sym, ◌∙◌, arith}
use Rattle.irig_plant.proofs.ListLaws.{each_set}
use Rattle.report_found.specs.declared.tick.Tick.{Tick as TickOf}
use Rattle.report_found.specs.Books.{with_tick}
use Rattle.report_found.proofs.BookLaws.{other_ticks, own_ticks}
use Rattle.report_lanes.specs.declared.drawer.Drawer.{Drawer}
use Rattle.report_lanes.specs.declared.lane.Lane.{Lane}
use Rattle.report_lanes.specs.declared.reader.ReaderLanes.{ReaderLanes}
use Rattle.report_lanes.specs.Lanes.{grown, lane_of, stood_at, told_at, open_of}
use Rattle.report_lanes.specs.OpenLanes.{AreOpen}

-- ---- of a reader

-- a lane with a tick more
pub lane_more : (seen : TickOf → Lane) (t : TickOf) (ts : List TickOf) (before : Option Lane) (now lane : Lane)
    → lane ≡ grown before now → before ≡ lane_of seen ts → now ≡ seen t → ◌≡◌ {A = Option Lane} (Some lane) (lane_of seen (t ∷ ts))
lane_more seen t ts before now lane is was same = rw (is, was, same) refl

pub same_open : (stood a b c d e : Option Lane) (ts : List TickOf)
    → stood ≡ lane_of stood_at ts → a ≡ lane_of (told_at 0) ts → b ≡ lane_of (told_at 1) ts → c ≡ lane_of (told_at 2) ts
    → d ≡ lane_of (told_at 3) ts → e ≡ lane_of (told_at 4) ts
    → ◌≡◌ {A = ReaderLanes} (record { stood = stood; a = a; b = b; c = c; d = d; e = e }) (open_of ts)
same_open stood a b c d e ts h0 h1 h2 h3 h4 h5 = rw (h0, h1, h2, h3, h4, h5) refl

-- ---- of all

-- those of one reader are others
pub each_grown : (n : ℕ) (ticks : ℕ → List TickOf) (t : TickOf) (xs : List ReaderLanes) (x y : ReaderLanes) → length xs ≡ n → t.entry.reader < n
    → ((k : ℕ) (d : ReaderLanes) → k < n → get_or xs k d ≡ open_of (ticks k)) → x ≡ get_or xs t.entry.reader x
    → (x ≡ open_of (ticks t.entry.reader) → y ≡ open_of (t ∷ ticks t.entry.reader))
    → (k : ℕ) (d : ReaderLanes) → k < n → get_or (set xs t.entry.reader y) k d ≡ open_of (with_tick t ticks k)
each_grown n ticks t xs x y size low h is exact =
    let r = t.entry.reader in
    each_set (λ k z. z ≡ open_of (ticks k)) (λ k z. z ≡ open_of (with_tick t ticks k)) n xs r y (omega (arith, size, low)) h
    (λ k z q e. e ∙ sym (ap open_of (other_ticks t ticks k q)))
    (exact (is ∙ h r x low) ∙ sym (ap open_of (own_ticks t ticks)))

-- lanes of some ticks are those of the same ticks
pub same_lanes : (d : Drawer) (n : ℕ) (f g : ℕ → List TickOf) → ((r : ℕ) → f r ≡ g r) → AreOpen d n f → AreOpen d n g
same_lanes d n f g same h = record { count = h.count; each = λ r o lt. h.each r o lt ∙ ap open_of (same r) }
