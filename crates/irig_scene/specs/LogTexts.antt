-- The log as what a listener says.
-- Source: docs/OUTPUT.md.
use Rattle.std.specs.Prelude.{[], Some}
use Rattle.report_log.specs.declared.shown.Shown.{Shown}
use Rattle.report_log.specs.Text.{lines_text}
use Rattle.irig_scene.specs.Listening.{entries_by}
use Rattle.irig_scene.specs.Scene.{verdict_text}
use Rattle.irig_scene.specs.Texts.{Texts}

-- the lines of each tick, and the audit at the end
abbrev pub log_texts : Shown → Texts
log_texts shown = record {
  first = λ line. [];
  event = λ plan e ev. lines_text plan.names shown (entries_by plan.setup e ev);
  closing = λ x. [];
  end = λ x. verdict_text (Some x);
}
