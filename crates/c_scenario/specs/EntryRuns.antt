-- A run that keeps the entries of its log: what stands while it goes on, and when it has ended.
-- Source: docs/OUTPUT.md, docs/C.md; this project's profile.
use Rattle.std.specs.Prelude.{◌≡◌, ℕ, true, List, [], ◌∷◌, Option, Some, None}
use Rattle.irig_plant.specs.declared.entry.Entry.{Entry}
use Rattle.irig_scene.specs.declared.run.Run.{Run}
use Rattle.irig_scene.specs.Scene.{Scene}
use Rattle.irig_scene.specs.Texts.{no_texts}
use Rattle.irig_scene.specs.ListenerRuns.{RanTo}
use Rattle.c_scenario.specs.declared.entry.IrigEntry.{IrigEntry}
use Rattle.c_scenario.specs.declared.entry_log.EntryLog.{EntryLog}
use Rattle.c_scenario.specs.Entries.{entry_for, heard_in}

-- the first of some entries
abbrev pub first_of : List Entry → Option IrigEntry
first_of (e ∷ es) = Some (entry_for e)
first_of [] = None

-- what is kept is the log of a scene
abbrev pub HoldsEntries : EntryLog → Scene → Type 0
HoldsEntries log x = log.entries.items ≡ heard_in (Some x)

-- a run of the text that keeps them
pub record HasHeardEntries (text : List ℕ) (run : Run EntryLog) : Type 0 where
  pub left : Option (List ℕ)
  pub wrote : List ℕ
  pub ran : RanTo HoldsEntries true no_texts run.answer run.listener run.starts.items
      (Some text) left (Some []) (Some wrote)
