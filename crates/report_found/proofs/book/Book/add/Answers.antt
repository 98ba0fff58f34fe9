use Rattle.std.proofs.Common.{◌≡◌, ◌+◌, ◌<◌, ◌∷◌, ◌∙◌, get_or, length, ap, sym, subst, arith}
use Rattle.std.proofs.Math.Logic.{∥∥₁_map}
use Rattle.std.proofs.lemmas.List.{get_or_default}
use Rattle.std.proofs.lemmas.List.Elements.{All-set}
use Rattle.report_found.specs.declared.account.Account.{Account}
use Rattle.report_found.specs.Soundness.{IsSoundAccount}
use Rattle.report_found.proofs.BookLaws.{each_added}
use Rattle.report_found.proofs.SoundLaws.{sound_at}
use Rattle.report_found.proofs.book.Book.add.Goals as goal

pub after-account-requires-clause-account : goal.after-account-requires-clause-account
after-account-requires-clause-account c =
    let xs = c.args.self.now.accounts in
    let low : c.args.tick.now.entry.reader < length xs.items = omega (arith, c.if-reader-len.false, c.len.ensures, xs.ok.0) in
    rw c.index-2.ensures (sound_at xs.items c.args.tick.now.entry.reader _ low c.args.self.now.sound)

pub invariant_of-self : goal.invariant_of-self
invariant_of-self c = record {
  few = c.args.self.now.few;
  sound = ∥∥₁_map c.args.self.now.sound (λ all. All-set IsSoundAccount c.args.self.now.accounts.items c.args.tick.now.entry.reader _ c.after-account.ensures.sound all);
}

pub returns-clause-added : goal.returns-clause-added
returns-clause-added c = λ readers ticks has low.
    let xs = c.args.self.now.accounts in
    let t = c.args.tick.now in
    let r = t.entry.reader in
    let x = c.index-2.result.now in
    let inside : r < length xs.items = omega (arith, low, has.count, xs.ok.0) in
    let same : c.index.result.now ≡ x = c.index.ensures ∙ get_or_default xs.items r c.index.result.now x inside ∙ sym c.index-2.ensures in
    record {
      count = has.count;
      each = each_added readers ticks t xs.items x c.after-account.result (sym xs.ok.0 ∙ has.count) low has.each c.index-2.ensures
          (λ was. c.after-account.ensures.exact (ticks r) was
          (let edges : x.edges ≡ length (ticks r) = ap (λ (a : Account). a.edges) was in
          let number : c.in-Some.number ≡ x.edges + 1 = c.in-Some.ensures.1 ∙ ap (λ (a : Account). a.edges + 1) same in
          omega (arith, edges, number)));
    }
