use Rattle.std.proofs.Common.{◌≡◌, ◌∙◌, ℕ, List, length, Option, Some, suc, refl, sym, ap, ltb-true, slice_get, option_and_then}
use Rattle.std.specs.Option.{option_map}
use Rattle.std.proofs.lemmas.Option.{slice_get_read}
use Rattle.irig_frame.specs.declared.symbol.Symbol.{Symbol}
use Rattle.irig_sync.specs.Sync.{is_marker_symbol}
use Rattle.irig_simulated.specs.declared.second.LineSecond.{LineSecond}
use Rattle.irig_simulated.specs.declared.second.Second.{Second}
use Rattle.irig_simulated.specs.QuietLines.{IsFound, SendsTrueFrame}
use Rattle.irig_simulated.specs.Seconds.{symbol_at, symbol_in, symbol_sent, true_in}
use Rattle.irig_simulated.proofs.second.Second.sends_true_frame.Goals as goal

-- so with a line of the second that is known
of_line : (s : Second) (line : ℕ) (x : LineSecond) (frame : List Symbol) → slice_get s.lines.items line ≡ Some x → x.sent ≡ Some frame → IsFound frame x.truth → SendsTrueFrame s line
of_line s line x frame there sent found =
    let truth : (place : ℕ) → true_in s line place ≡ symbol_at x.truth place = λ place. ap (λ (o : Option LineSecond). symbol_in place (option_map (λ l. l.truth) o)) there in
    let marks : (place : ℕ) → is_marker_symbol (true_in s line place) ≡ is_marker_symbol (symbol_at x.truth place) = λ place. ap is_marker_symbol (truth place) in
    record {
      sends = λ place less.
          ap (λ (o : Option LineSecond). option_and_then (symbol_sent place) o) there
          ∙ ap (λ (o : Option (List Symbol)). option_map (λ f. symbol_at f place) o) sent
          ∙ ap (λ (y : Symbol). Some y) (found.same place less ∙ sym (truth place));
      first = marks 0 ∙ found.first;
      apart = λ place less marked. marks (suc place) ∙ found.apart place less (sym (marks place) ∙ marked);
      last = marks 98 ∙ found.last;
    }

pub returns-in-Some-sent : goal.returns-in-Some-sent
returns-in-Some-sent c = λ yes.
    let lookup = c.in-Some.ensures.lookup in
    let value = c.deref.ensures.value in
    let from = c.from.ensures in
    let read = slice_get_read c.deref.result.now (length c.deref.result.now) c.from.result c.in-Some.line.now refl (ltb-true _ _ (sym lookup.0)) lookup.1 in
    of_line c.args.self.now c.args.line c.in-Some.line.now c.in-Some-sent.frame (cc) c.in-Some-sent.is (c.is_true_frame.ensures yes)
