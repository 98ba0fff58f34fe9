-- What it is for a reader to have a history.
use Rattle.std.specs.Prelude.{◌≡◌}
use Rattle.irig_port.specs.declared.port.Port.{Ghosts}
use Rattle.irig_port.specs.Heard.{symbols_heard}
use Rattle.irig_reader.specs.declared.reader.Reader.{Reader}
use Rattle.irig_reader.specs.Rule.{state_of}
use Rattle.irig_reader.specs.History.{ReaderHistory}

-- the reader is where its history leaves it
pub record HasReaderHistory {P : Type 0} {g : Ghosts P} (reader : Reader P g)
    (history : ReaderHistory)
    : Type 0 where
  pub a : g.stands_for reader.a history.rules (symbols_heard history.fed.a)
  pub b : g.stands_for reader.b history.rules (symbols_heard history.fed.b)
  pub c : g.stands_for reader.c history.rules (symbols_heard history.fed.c)
  pub d : g.stands_for reader.d history.rules (symbols_heard history.fed.d)
  pub e : g.stands_for reader.e history.rules (symbols_heard history.fed.e)
  pub reader_rules : reader.reader_rules ≡ history.reader_rules
  pub table : reader.table ≡ history.table
  pub redundancy : reader.redundancy ≡ history.redundancy
  pub limits : reader.limits ≡ history.limits
  pub state : reader.state ≡ state_of history.reader_rules history.table history.votes

-- a fact of each history that the reader may have
abbrev pub ForReaderHistory : {P : Type 0} {g : Ghosts P} → Reader P g → (ReaderHistory → Type 0)
    → Type 0
ForReaderHistory reader fact =
    (history : ReaderHistory) → HasReaderHistory reader history → fact history

-- the reader then has the history that this makes of the one that it had
abbrev pub Advances : {P : Type 0} {g : Ghosts P} → Reader P g → Reader P g
    → (ReaderHistory → ReaderHistory) → Type 0
Advances old new next = ForReaderHistory old (λ history. HasReaderHistory new (next history))
