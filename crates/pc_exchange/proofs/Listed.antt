-- A record that a push met staging lists each write once: the sequences rise, as its session sent them.
use Rattle.std.proofs.Common.{ℕ, ◌<◌, Bool, true, false, cond, not, List, [], ◌∷◌, sym, ◌∙◌, subst, arith}
use Rattle.pc_base.specs.declared.entry.Entry.{Entry}
use Rattle.pc_base.specs.declared.transaction.TxnId.{TxnId}
use Rattle.pc_desk.specs.OwnLog.{IsOwnLog, LogMeaning}
use Rattle.pc_exchange.proofs.HeardKinds.{history_of, is_run, known_there}
use Rattle.pc_implicit.proofs.Agreed.{open_there}
use Rattle.pc_implicit.proofs.Did.{session_at}
use Rattle.pc_implicit.proofs.FirstStages.{first_staged}
use Rattle.pc_implicit.proofs.FoundThere.{staging_heard}
use Rattle.pc_implicit.proofs.PutsSent.{orderly}
use Rattle.pc_implicit.proofs.StageWords.{WasStagedAs}
use Rattle.pc_implicit.proofs.WriteLists.{Rise}
use Rattle.pc_base.specs.declared.actor.ActorId.TheVariants as actors
use Rattle.pc_proto.specs.declared.event.Event.{Event}
use Rattle.pc_world.proofs.Prefixes.{run_front}
use Rattle.pc_world.specs.Known.{Known, known_of}
use Rattle.pc_world.specs.Known.Writes.{Write, is_proved, listed_as, unproved}
use Rattle.pc_world.specs.Local.{Head}
use Rattle.pc_world.specs.Run.{IsRun}
use Rattle.pc_world.specs.Send.Recovery.{WasStaging}
use Rattle.std.specs.Prelude.{⊤}

-- The sequences of the listed writes rise from above this one.
abbrev pub SeqsRise : ℕ → List (List ℕ × ℕ) → Type 0
SeqsRise n [] = ⊤
SeqsRise n (w ∷ ws) = (n < w.1) × SeqsRise w.1 ws

seqs-lower : (m n : ℕ) (ws : List (List ℕ × ℕ)) → m < n → SeqsRise n ws → SeqsRise m ws
seqs-lower m n [] low rise = tt
seqs-lower m n (w ∷ ws) low rise = (omega (arith, low, rise.0), rise.1)

-- writes that rise do so as they are listed, whichever of them are proved
listed-rise : (n : ℕ) (ws : List Write) → Rise n ws → SeqsRise n (listed_as (unproved ws))
listed-rise n [] rise = tt
listed-rise n (w ∷ ws) rise = by (not (is_proved w)) (listed-rise w.seq ws rise.1)
  where
    by : (b : Bool) → SeqsRise w.seq (listed_as (unproved ws)) → SeqsRise n (listed_as (cond b (w ∷ unproved ws) (unproved ws)))
    by true later = (rise.0, later)
    by false later = seqs-lower n w.seq (listed_as (unproved ws)) rise.0 later

module _ (head : Head) (history : List (Entry Event)) (run : IsRun head history) where
  -- so does what a stage that was sent lists
  staged-rises : (id : TxnId) (epoch ts : ℕ) (writes : List (List ℕ × ℕ)) → WasStagedAs history id epoch ts writes → SeqsRise 0 writes
  staged-rises id epoch ts writes staged =
      let first = first_staged head history run staged.stage staged.sent in
      let before : IsRun head first.before = run_front head first.before (first.a ∷ first.later) (subst (IsRun head) first.whole run) in
      let k = session_at head staged.stage.meta.id first.before in
      let order = orderly head first.before before (actors.Session staged.stage.meta.id.session) first.new.t (open_there k first.new.t first.new.opened) in
      subst (SeqsRise 0) (sym first.new.in_flight ∙ staged.writes_are) (listed-rise 0 first.new.t.writes order.rise)

-- what the actor heard to be staged lists each write once
pub staging_rises : {C : Type 0} (l : LogMeaning C) (log : IsOwnLog l) (id : TxnId) (epoch ts : ℕ) (writes : List (List ℕ × ℕ)) → WasStaging (known_of l.part.own).heard id epoch ts writes → SeqsRise 0 writes
staging_rises l log id epoch ts writes was =
    staged-rises l.head (history_of l log) (is_run l log) id epoch ts writes
    (staging_heard l.head (history_of l log) (is_run l log) l.part.id id epoch ts writes (subst (λ (k : Known). WasStaging k.heard id epoch ts writes) (sym (known_there l log)) was))
