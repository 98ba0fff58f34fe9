use Rattle.std.proofs.Common.{◌∙◌, None, ap, subst, arith}
use Rattle.record_short.specs.Searches.{IsFound, beginning_with, unlike}
use Rattle.record_short.proofs.SearchLaws.{three_more}
use Rattle.record_short.proofs.search.Search.found.Goals as goal

pub loop-place-preserved : goal.loop-place-preserved
loop-place-preserved c =
    let s = c.args.self.now in
    let seen = c.args.seen.now in
    let n = c.loop-place.place in
    let p = c.beginning_by-plain.result in
    let inserted = c.unlike-inserted.ensures ∙ ap (λ b. unlike b p None) (c.beginning_with.ensures ∙ ap (λ l. beginning_with s seen l n) c.insertion.ensures) in
    let deleted = c.unlike-deleted.ensures ∙ ap (λ b. unlike b p c.unlike-inserted.result) (c.beginning_with-in-loop-place.ensures ∙ ap (λ l. beginning_with s seen l n) c.deletion.ensures) in
    record {
      found = subst (λ all. IsFound c.note-in-loop-place-2.new.self all) (three_more s seen n p c.unlike-inserted.result c.unlike-deleted.result c.beginning_by-plain.ensures inserted deleted)
          (c.note-in-loop-place-2.ensures.found _ (c.note-in-loop-place.ensures.found _ (c.note.ensures.found _ c.loop-place.invariant.found)));
      few = omega (arith, c.note.ensures.few, c.note-in-loop-place.ensures.few, c.note-in-loop-place-2.ensures.few, c.loop-place.invariant.few);
    }
