-- The table of the code against the marker places, element by element.
use Rattle.std.proofs.Common.{◌≡◌, ℕ, ◌<◌, true, cond, eqb, slice_index_or, refl, sym, subst}
use Rattle.std.proofs.lemmas.Bool.{agree_below_at, eqb-true}
use Rattle.irig_frame.specs.FieldTable.{is_marker_place}
use Rattle.irig_port.specs.declared.table.Widths.{Widths}
use Rattle.irig_port.specs.declared.table.TheConstants.{WIDTHS}

abbrev row_at : Widths → ℕ → Widths
row_at r i = slice_index_or WIDTHS i r

pub right_least : (r : Widths) (i : ℕ) → i < 100 → r ≡ row_at r i → r.least_us ≡ cond (is_marker_place i) 6500 500
right_least r i h is =
    let right : eqb (row_at r i).least_us (cond (is_marker_place i) 6500 500) ≡ true = agree_below_at (λ k. eqb (row_at r k).least_us (cond (is_marker_place k) 6500 500)) (λ _. true) 100 i refl h in
    eqb-true _ _ (subst (λ (k : Widths). eqb k.least_us (cond (is_marker_place i) 6500 500) ≡ true) (sym is) right)

pub right_count : (r : Widths) (i : ℕ) → i < 100 → r ≡ row_at r i → r.count_us ≡ cond (is_marker_place i) 3000 6000
right_count r i h is =
    let right : eqb (row_at r i).count_us (cond (is_marker_place i) 3000 6000) ≡ true = agree_below_at (λ k. eqb (row_at r k).count_us (cond (is_marker_place k) 3000 6000)) (λ _. true) 100 i refl h in
    eqb-true _ _ (subst (λ (k : Widths). eqb k.count_us (cond (is_marker_place i) 3000 6000) ≡ true) (sym is) right)
