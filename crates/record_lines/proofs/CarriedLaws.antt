-- What a receiver's lines agree on at a tick.
use Rattle.std.proofs.Common.{◌≡◌, ℕ, ◌%◌, ◌^◌, List, ◌∷◌, Some, sym, subst}
use Rattle.irig_port.specs.declared.port.Port.{Ghosts}
use Rattle.irig_lines.specs.declared.lines.Lines.{Lines}
use Rattle.irig_lines.specs.declared.lines.Vote.{Vote}
use Rattle.irig_timekeeper.specs.Carried.{IsCarried}
use Rattle.irig_timekeeper.specs.Keeping.{new_keeping, vote_at}
use Rattle.irig_timekeeper.specs.Life.{Call, after_calls, pulses_on}
use Rattle.irig_timekeeper.specs.Life.Call.{Tick}
use Rattle.irig_timekeeper.specs.Lived.{MadeOf, keeping_after, made_with}
use Rattle.irig_timekeeper.proofs.CarriedLaws.{life_carries}
use Rattle.record_lines.specs.declared.receiver.Receiver.{Receiver}
use Rattle.record_lines.specs.Receivers.{IsReceiverOf}

pub receiver_carries : {P : Type 0} {g : Ghosts P} (receiver : Receiver P g) (made : MadeOf) (start now : ℕ) (calls : List Call) (vote : Vote) → IsReceiverOf receiver made start (Tick now ∷ calls) → vote_at (keeping_after made calls) (now % 2 ^ 32) ≡ Some vote
    → IsCarried made.clock made.rules vote.claim now (λ line. pulses_on line calls)
receiver_carries receiver made start now calls vote is voted =
    life_carries (made_with made is.lived.lines is.lived.fresh) start now calls vote is.order
    (subst (λ (lines : Lines). vote_at (after_calls (new_keeping made.rules made.clock made.table lines) calls) (now % 2 ^ 32) ≡ Some vote) (sym is.lived.none) voted)
