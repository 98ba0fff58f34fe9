-- What the entries of a run vouch for, by its verdict.
use Rattle.std.proofs.Common.{All, ◌≡◌, ℕ, List, [], ◌∷◌, ◌++◌, Option, Some, refl, ap, sym, ◌∙◌, append_assoc, arith}
use Rattle.irig_plant.specs.declared.audit.Audit.{Audit}
use Rattle.irig_plant.specs.declared.audit.Audit.TheVariants.{Kept, Broken, FalseTable}
use Rattle.irig_plant.specs.declared.event.Event.TheVariants.{Tick}
use Rattle.irig_plant.specs.Schedule.{log_of, entry_of}
use Rattle.irig_plant.specs.Truth.{IsTruthful}
use Rattle.irig_plant.proofs.AuditLaws.{kept_is}
use Rattle.irig_plant.proofs.BrokenLogs.{breaks_at, log_grows}
use Rattle.irig_plant.proofs.KeptLaws.{kept_log_is_true}
use Rattle.irig_scene.specs.Scene.{Scene, audit_in, meaning_of}
use Rattle.irig_scene.proofs.TrueLines.{lines_true, scene_sound}
use Rattle.c_scenario.specs.declared.entry.IrigVerdict.{IrigVerdict}
use Rattle.c_scenario.specs.Entries.{verdict_by}
use Rattle.c_scenario.specs.TrueEntries.{AreTrueBefore}

kind_kept : (a : Audit) → (verdict_by a).kind ≡ 1 → a ≡ Kept
kind_kept Kept one = refl
kind_kept (Broken r e) one = absurd (omega (arith, one))
kind_kept (FalseTable r) one = absurd (omega (arith, one))

pub true_if_kept : (text : List ℕ) (verdict : IrigVerdict) (at : Scene) → (meaning_of text).scene ≡ Some at → verdict ≡ verdict_by (audit_in at) → verdict.kind ≡ 1 → All (IsTruthful at.plan.setup.times) (log_of at.plan.setup at.events)
true_if_kept text verdict at is same one =
    lines_true text at is ((kept_is at.plan.setup at.events).0 (kind_kept (audit_in at) (ap (λ (v : IrigVerdict). v.kind) (sym same) ∙ one)))

kind_broken : (a : Audit) → (verdict_by a).kind ≡ 2 → a ≡ Broken (verdict_by a).reader (verdict_by a).edge
kind_broken Kept two = absurd (omega (arith, two))
kind_broken (Broken r e) two = refl
kind_broken (FalseTable r) two = absurd (omega (arith, two))

true_before : (at : Scene) (text : List ℕ) (r n : ℕ) → (meaning_of text).scene ≡ Some at → audit_in at ≡ Broken r n → AreTrueBefore at r n
true_before at text r n is broken =
    let s = at.plan.setup in
    let h = breaks_at s at.events r n broken in
    let grown = log_grows s h.later (Tick r ∷ h.earlier) in
    record {
      before = log_of s h.earlier;
      entry = entry_of s r h.earlier;
      later = grown.entries;
      log = ap (log_of s) h.is ∙ grown.log ∙ append_assoc (log_of s h.earlier) (entry_of s r h.earlier ∷ []) grown.entries;
      of_reader = refl;
      of_edge = h.edge;
      are_true = kept_log_is_true s h.earlier (scene_sound text at is).plan.timeline h.kept;
    }

pub true_until_broken : (text : List ℕ) (verdict : IrigVerdict) (at : Scene) → (meaning_of text).scene ≡ Some at → verdict ≡ verdict_by (audit_in at) → verdict.kind ≡ 2 → AreTrueBefore at verdict.reader verdict.edge
true_until_broken text verdict at is same two =
    rw same (true_before at text (verdict_by (audit_in at)).reader (verdict_by (audit_in at)).edge is (kind_broken (audit_in at) (ap (λ (v : IrigVerdict). v.kind) (sym same) ∙ two)))
