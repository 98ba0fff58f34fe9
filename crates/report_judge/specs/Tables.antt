-- What is read of a table, and how it is judged.
-- Source: docs/irig.1, judge; the definitions of tables are those of record_table.
use Rattle.std.specs.Prelude.{◌≡◌, ℕ, IsTrue, IsFalse, List, [], ◌∷◌, ◌++◌, length, Option, Some, None, Result, Ok, Err}
use Rattle.record_levels.specs.declared.levels.Levels.{Levels}
use Rattle.record_text.specs.Lines.{lines_of}
use Rattle.record_cells.specs.declared.volts.Threshold.{Threshold}
use Rattle.record_table.specs.declared.head.Head.{Head}
use Rattle.record_table.specs.Heads.{HeadEnd, head_end, head_from, is_over, top}
use Rattle.record_table.specs.Changes.{Said}
use Rattle.record_table.specs.Changes.Said.{Change, Ends}
use Rattle.record_table.specs.Tables.{table_of, to_come}
use Rattle.report_judge.specs.declared.asked.Asked.{Asked}
use Rattle.report_judge.specs.declared.channels.ChannelFault.{ChannelFault}
use Rattle.report_judge.specs.declared.hearing.Judged.{Judged}
use Rattle.report_judge.specs.declared.table.Rows.{Rows}
use Rattle.report_judge.specs.Channels.{channel_bytes, places_named}
use Rattle.report_judge.specs.Forms.{begins_table}
use Rattle.report_judge.specs.Hearings.{HasHeard, IsVerdictOn, nothing_else}

-- what stands above the rows of a text, and the lines below it
abbrev pub title_of : (text : List ℕ) → HeadEnd
title_of text = head_from top (lines_of text)

-- the places of the channels that are judged of a text
abbrev pub columns_of : (names : Option (List ℕ)) → (text : List ℕ) → Result (List ℕ) ChannelFault
columns_of names text = places_named (title_of text).head.names names

-- what a table says of the channels at these places, if there are such: of levels, or of voltages by a
-- threshold
abbrev pub rows_say_at : Option Threshold → Result (List ℕ) ChannelFault → (text : List ℕ) → Option (List Said)
rows_say_at threshold (Ok places) text = table_of threshold places text
rows_say_at threshold (Err fault) text = None

-- what a text says of the lines that are judged
abbrev pub rows_say : Asked → (text : List ℕ) → Option (List Said)
rows_say asked text = rows_say_at asked.threshold (columns_of (channel_bytes asked.channels) text) text

-- these levels, the newest first, were said one after another
abbrev pub told : List Levels → List Said
told [] = []
told (levels ∷ before) = told before ++ Change levels ∷ []

-- ---- as far as it was read

-- this reader of a head has read this text
abbrev pub HasReadTitle : (text : List ℕ) → Head → Type 0
HasReadTitle text reader = (more : List ℕ) → title_of (text ++ more) ≡ head_end reader more

-- what reads this text comes to its end before that of the line of names
abbrev pub IsUntitled : (text : List ℕ) → Type 0
IsUntitled text = (reader : Head) × HasReadTitle text reader × IsFalse (is_over reader.stage)

-- this text was read, up to below its line of names, and the lines that are judged have heard what it says
pub record HasReadRows (asked : Asked) (text : List ℕ) (rows : Rows) : Type 0 where
  pub levels : List Levels
  pub says : (more : List ℕ) → rows_say asked (text ++ more)
      ≡ Some (told levels ++ to_come rows.changes more)
  pub places : List ℕ
  pub chosen : (more : List ℕ) → columns_of (channel_bytes asked.channels) (text ++ more) ≡ Ok places
  pub heard : HasHeard asked (length places) levels rows.hearing

-- ---- at its end

-- this table was judged to its end: what is shown is the verdict on the lines that are judged, by all the
-- levels that it says of them
pub record JudgedTable (asked : Asked) (text : List ℕ) (judged : Judged) : Type 0 where
  pub begins : IsTrue (begins_table text)
  pub levels : List Levels
  pub end : ℕ
  pub says : rows_say asked text ≡ Some (told levels ++ Ends end ∷ [])
  pub places : List ℕ
  pub chosen : columns_of (channel_bytes asked.channels) text ≡ Ok places
  pub verdict : IsVerdictOn nothing_else asked (length places) levels judged
