-- The value of some places of a frame.
-- Source: IRIG Standard 200-16, format B: the sum of the weights where a one stands.
use Rattle.std.specs.Prelude.{ℕ, ◌<◌, Bool, true, false, List, Option, Some, slice_get, sum, sum_by, map, filter, All}
use Rattle.irig_frame.specs.declared.symbol.Symbol.{Symbol}
use Rattle.irig_frame.specs.declared.symbol.Symbol.TheVariants.{One}
use Rattle.irig_frame.specs.FieldTable.{TableEntry}

-- whether there is a symbol and it is a 1
abbrev pub is_one : Option Symbol → Bool
is_one (Some One) = true
is_one _ = false

-- whether the frame has a one at the place
abbrev pub is_one_at : List Symbol → TableEntry → Bool
is_one_at s p = is_one (slice_get s p.element)

-- the field value: the sum, over the places, of the weight where the frame has a one
abbrev pub value : List TableEntry → List Symbol → ℕ
value places s = sum (map (λ p. p.weight) (filter (is_one_at s) places))

-- the sum of all weights, which no value passes
abbrev pub weights : List TableEntry → ℕ
weights places = sum_by (λ p. p.weight) places

-- the places lie among the first n elements
abbrev pub IsInFrame : ℕ → List TableEntry → Type 0
IsInFrame n places = All (λ p. p.element < n) places
