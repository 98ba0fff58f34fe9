use Rattle.std.proofs.Common.{◌≡◌, ℕ, ◌+◌, ◌<◌, List, [], ◌∷◌, ◌++◌, take, length, map, get_or, add-one, sym, ap, ◌∙◌, arith}
use Rattle.std.proofs.Math.Seq.{take-suc}
use Rattle.std.proofs.lemmas.List.{get_or-map, map-append}
use Rattle.std.proofs.lemmas.List.Elements.{All-get_or}
use Rattle.record_vcd.specs.declared.wire.Wire.{Wire}
use Rattle.record_vcd.specs.Meanings.{codes_at, codes_of}
use Rattle.record_vcd.proofs.chosen.Chosen.new.Goals as goal

-- a wire more, at the next place
next-wire : (wires chosen new : List Wire) (wire copy : Wire) (places : List ℕ) (i : ℕ)
    → i < length places → get_or places i 0 < length wires
    → codes_of chosen ≡ codes_at wires (take i places)
    → wire ≡ get_or wires (get_or places i 0) wire → copy.code.items ≡ wire.code.items → new ≡ chosen ++ copy ∷ []
    → codes_of new ≡ codes_at wires (take (i + 1) places)
next-wire wires chosen new wire copy places i within there so_far is same pushed =
    let f : ℕ → List ℕ = λ place. get_or (codes_of wires) place [] in
    ap codes_of pushed
    ∙ map-append (λ w. w.code.items) chosen (copy ∷ [])
    ∙ ap (λ l. l ++ copy.code.items ∷ []) so_far
    ∙ ap (λ c. codes_at wires (take i places) ++ c ∷ []) (same ∙ ap (λ w. w.code.items) is ∙ sym (get_or-map (λ w. w.code.items) wires (get_or places i 0) wire [] there))
    ∙ sym (map-append f (take i places) (get_or places i 0 ∷ []))
    ∙ ap (map f) (sym (take-suc places i 0 within))
    ∙ ap (λ n. map f (take n places)) (sym (add-one i))

pub loop-place-preserved : goal.loop-place-preserved
loop-place-preserved c = (
  omega (arith, c.in_ok-push.ensures.len, c.loop-place.invariant.0),
  next-wire c.args.wires.now c.loop-place.chosen.items c.push.new.self.items c.index-wires-place.result (record { name = c.in_ok-name.name; code = c.in_ok-code.code }) c.args.places.now c.loop-place.place-index
      c.loop-place-test.true (All-get_or (λ place. place < length c.args.wires.now) c.args.places.now c.loop-place.place-index 0 c.loop-place-test.true c.requires.places)
      c.loop-place.invariant.1 c.index-wires-place.is (c.in_ok-code.ensures ∙ c.as_slice-in-loop-place.ensures.value) c.in_ok-push.ensures.items,
)
