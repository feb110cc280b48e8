-- What a transaction that is not decided did stands in its own intents: a read of it finds its last write of a key.
use Rattle.std.proofs.Common.{◌≡◌, ℕ, List, ◌∷◌, ◌++◌, append_assoc, map, inl, inr, None, Some, Contains, sym, ap, subst, ◌∙◌}
use Rattle.std.proofs.lemmas.List.Elements.{Contains-append_left, Contains-append_right}
use Rattle.std.specs.List.{AllByRecursion as Each}
use Rattle.pc_base.specs.declared.entry.Entry.{Entry}
use Rattle.pc_base.specs.declared.transaction.TxnId.{TxnId}
use Rattle.pc_implicit.proofs.Did.{writes_are_done}
use Rattle.pc_implicit.proofs.OwnStanding.{own_intents_stand}
use Rattle.pc_implicit.proofs.SessionCommits.{written as write_of}
use Rattle.pc_implicit.proofs.SessionReads.{ByPut, ByQuery, HadDone, WasEvaluated, WasProved, last_seq_done}
use Rattle.pc_implicit.specs.Decided.{decision}
use Rattle.pc_implicit.specs.Replied.{WasProven, WasReplied}
use Rattle.pc_implicit.specs.Writes.{OwnStand, home_of, own_intent, txns_of, writes_on}
use Rattle.pc_lists.proofs.Lists.{contains_head}
use Rattle.pc_proto.specs.declared.event.Event.{Event}
use Rattle.pc_proto.specs.declared.event.Event.TheVariants as events
use Rattle.pc_proto.specs.declared.record.Intent.{Intent}
use Rattle.pc_proto.specs.declared.reply.Reply.{Reply}
use Rattle.pc_proto.specs.declared.reply.Reply.TheVariants as replies
use Rattle.pc_proto.specs.declared.request.Request.{Request}
use Rattle.pc_proto.specs.declared.request.Request.TheVariants as requests
use Rattle.pc_serial.proofs.Laid.{IsPartLaid, RisesFrom, laid, laid-append, laid-known, laid-left, laid-rises, laid-writes, own-found, own-none}
use Rattle.pc_serial.proofs.Written.{LastWrite, LeavesKey}
use Rattle.pc_world.specs.After.{state_at}
use Rattle.pc_world.specs.Evaluation.Get.{own_value}
use Rattle.pc_world.specs.Known.Transactions.{Txn}
use Rattle.pc_world.specs.Local.{Head}
use Rattle.pc_world.specs.Operations.{Operation, operations_of}
use Rattle.pc_world.specs.RangeOf.{range_of}
use Rattle.pc_world.specs.Run.{IsRun}

module _ (head : Head) (history : List (Entry Event)) (run : IsRun head history) where
  -- what a transaction laid at a key is what its session knows that it wrote there
  pub laid-is : (id : TxnId) (t : Txn) → Contains (txns_of head id history) t → t.id ≡ id → (key : List ℕ) → laid key (operations_of history id) ≡ writes_on key t.writes
  laid-is id t mine named key =
      sym (laid-writes key (operations_of history id)) ∙ ap (laid key) (writes_are_done head history run id t mine named).same ∙ laid-known key t.writes

  -- and its sequences rise
  pub done-rises : (id : TxnId) (t : Txn) → Contains (txns_of head id history) t → t.id ≡ id → (key : List ℕ) → RisesFrom 0 (laid key (operations_of history id))
  done-rises id t mine named key =
      let done = writes_are_done head history run id t mine named in
      subst (RisesFrom 0) (ap (laid key) (sym done.same) ∙ laid-writes key (operations_of history id)) (laid-rises key 0 (map write_of t.writes) done.rise)

  was-replied : (range : ℕ) (request : Request) (told : Reply) → WasEvaluated head history range request told → WasReplied history request told
  was-replied range request told w = record {
    send = w.at.send;
    listed = subst (λ h. Contains h w.at.send) (sym w.whole) (Contains-append_left w.before (w.e ∷ w.later) w.at.send w.at.listed);
    number = w.at.number;
    range = range;
    sends = w.at.sends;
    eval = w.e;
    evaluated = subst (λ h. Contains h w.e) (sym w.whole) (Contains-append_right w.before (w.e ∷ w.later) w.e (contains_head w.e w.later));
    told = w.at.evaluates ∙ ap (λ a. events.Eval a w.at.number told) (sym w.at.whose);
  }

  -- a write that was proved was written or found
  was-proven : (id : TxnId) (epoch seq : ℕ) (key : List ℕ) (at : ℕ) → WasProved head history id epoch seq key at → WasProven history id epoch key seq at
  was-proven id epoch seq key at (ByPut meta asked value whose epoch_is w) =
      inl (record {
        meta = meta;
        asked = asked;
        value = value;
        whose = whose;
        epoch_is = epoch_is;
        replied = was-replied (range_of head.splits key) (requests.Put meta seq asked key value) (replies.Written at) w;
      })
  was-proven id epoch seq key at (ByQuery by w) = inr (record { by = by; replied = was-replied (range_of head.splits key) (requests.Query id epoch seq at key by) replies.Found w })

  module _ (id : TxnId) (epoch : ℕ) (done : List Operation) (had : HadDone head history id epoch done) (undecided : decision (home_of head id history) ≡ None) (key : List ℕ) where
    stands : OwnStand head history had.t key
    stands = own_intents_stand head history had.t key run (subst (λ i. Contains (txns_of head i history) had.t) (sym had.named) had.mine)

    no-home : decision (home_of head had.t.id history) ≡ None
    no-home = ap (λ i. decision (home_of head i history)) had.named ∙ undecided

    own-same : own_intent head had.t.id key history ≡ own_intent head id key history
    own-same = ap (λ i. own_intent head i key history) had.named

    -- an own intent of the epoch has the first writes of what was done
    part-laid : (i : Intent) → own_intent head id key history ≡ Some i → IsPartLaid epoch key done i
    part-laid i own of_epoch =
        let front = stands.front no-home i (own-same ∙ own) (of_epoch ∙ sym had.same_epoch) in (
          front.rest ++ laid key had.part.rest,
          ap (laid key) had.part.whole
              ∙ laid-append key (operations_of history id) had.part.rest
              ∙ ap (λ ws. ws ++ laid key had.part.rest) (laid-is id had.t had.mine had.named key ∙ sym front.whole)
              ∙ append_assoc i.history front.rest (laid key had.part.rest),
          (front.first, front.some),
        )

    -- what the transaction's own writes say to a read that sees them
    pub own-says : (seq : ℕ) (last : LastWrite key done) → seq ≡ last_seq_done done → RisesFrom 0 (laid key done) → (at : ℕ) → WasProved head history id epoch last.seq key at
        → own_value id epoch seq key (state_at head (range_of head.splits key) history) ≡ Some last.value
    own-says seq last seq_is rises at proved =
        let w = was-proven id epoch last.seq key at proved in
        let s = stands.written no-home last.seq at (subst (λ i. WasProven history i had.t.epoch key last.seq at) (sym had.named) (subst (λ n. WasProven history id n key last.seq at) (sym had.same_epoch) w)) in
        let own : own_intent head id key history ≡ Some s.0 = sym own-same ∙ s.1 in
        own-found id epoch seq key done (state_at head (range_of head.splits key) history) last s.0 own (s.2.epoch ∙ had.same_epoch) (part-laid s.0 own) s.2.has seq_is rises

    -- and where it did not write the key, they say nothing
    pub own-silent : (seq : ℕ) → Each (LeavesKey key) done → own_value id epoch seq key (state_at head (range_of head.splits key) history) ≡ None
    own-silent seq leaves = own-none id epoch seq key done (state_at head (range_of head.splits key) history) part-laid (laid-left key done leaves)
