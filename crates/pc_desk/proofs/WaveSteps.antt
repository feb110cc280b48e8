-- A wave that is taken from the outbox message by message, and what became of it, taken in outcome by outcome.
use Rattle.std.proofs.Common.{◌≡◌, ℕ, ◌<◌, ◌≤◌, inl, inr, All, Contains, List, [], ◌∷◌, ◌++◌, length, map, true, Result, Ok, Err, refl, sym, ap, subst, ◌∙◌}
use Rattle.std.proofs.lemmas.List.{append-nil, append_assoc, map-append}
use Rattle.std.proofs.lemmas.List.Elements.{All-contains, All-head, All-nil, All-push, All-tail, All-weaker, Contains-append_left, Contains-append_right}
use Rattle.pc_base.specs.declared.actor.ActorId.{ActorId}
use Rattle.pc_desk.specs.declared.answered.Answered.{Answered}
use Rattle.pc_desk.specs.Desk.{DeskMeaning, HasKept, HasTakenFirst, IsReadyToGo, Posted, WaitingMessage}
use Rattle.pc_desk.specs.OwnLog.{IsOwnLog, LogMeaning, Took}
use Rattle.pc_desk.specs.Waiting.{IsBehindAll}
use Rattle.pc_desk.specs.Wave.{AreRisingMessages, GoesOut, HasJoined, HasKeptAll, HasStoppedFor, HasTakenAllIn, HasTakenIn, HasTakenWave, IsReply, KnowsOutcome, MayGo, answered_by, answers_in, posted_in, posted_of}
use Rattle.pc_history.specs.declared.named.Named.{Ghosts}
use Rattle.pc_history.specs.declared.view.Known.{Known as KnownEntry}
use Rattle.pc_history.specs.declared.view.Part.{Part}
use Rattle.pc_history.specs.Meanings.{NoteMeaning}
use Rattle.pc_history.specs.Parts.{uses_left, with_uses, without_uses}
use Rattle.pc_lists.proofs.Lists.{all_from_contains, contains_head}
use Rattle.pc_proto.specs.declared.event.Event.{Event}
use Rattle.pc_proto.specs.Stamps.{request_stamps}
use Rattle.pc_range.specs.declared.commit_world.CommitWorld.{CommitWorld}
use Rattle.pc_range.specs.declared.message.Message.{Message}
use Rattle.pc_range.specs.declared.message.ReplyMsg.{ReplyMsg}
use Rattle.pc_range.specs.declared.message.ServeFault.{ServeFault}
use Rattle.pc_range.specs.declared.message.ServeFault.TheVariants as faults
use Rattle.pc_serving.specs.declared.delivery.Delivery.{Delivery}
use Rattle.pc_serving.specs.Delivery.{MayBeServed}
use Rattle.pc_world.specs.Local.{Head}
use Rattle.pc_world.specs.Stamps.{AllBelowGreatest}

-- ---- a wave is taken

-- a note without uses is its own copy, and is the same after it was copied
pub plain_rest : (note : List (KnownEntry Event)) → note ≡ with_uses 0 note → without_uses 0 note ≡ note
plain_rest [] is = refl
plain_rest (k ∷ ks) is = ap (without_uses 0) is ∙ sym is

pub plain_still : (note after : List (KnownEntry Event)) → note ≡ with_uses 0 note → after ≡ without_uses 0 note → after ≡ with_uses 0 after
plain_still note after is same = let on : after ≡ note = same ∙ plain_rest note is in on ∙ (is ∙ ap (with_uses 0) (sym on))

rising_push : (ms : List Posted) (m : Posted) → AreRisingMessages ms → All (λ (p : Posted). p.number < m.number) ms → AreRisingMessages (ms ++ m ∷ [])
rising_push [] m rising below = (All-nil (λ (later : Posted). m.number < later.number), tt)
rising_push (p ∷ ms) m rising below = (
  All-push (λ (later : Posted). p.number < later.number) ms m rising.0 (All-head (λ (x : Posted). x.number < m.number) p ms below),
  rising_push ms m rising.1 (All-tail (λ (x : Posted). x.number < m.number) p ms below),
)

module _ {C N : Type 0} {G : Ghosts N CommitWorld} where
  -- the first of the messages that wait may go
  pub may_go : (v old : DeskMeaning C) (splits : List (List ℕ)) (w : WaitingMessage) (m : Message N G) → v ≡ old → splits ≡ v.log.head.splits → w.sender ≡ m.sender → w.posted ≡ posted_of m → IsReadyToGo v.log.part.id splits w → MayGo old m
  may_go v old splits w m same cut sender is ready =
      subst (λ (d : DeskMeaning C). MayGo d m) same (record {
        whose = sym sender ∙ ready.whose;
        there = subst (λ s. m.range ≤ length s) cut (subst (λ (p : Posted). p.range ≤ length splits) is ready.there);
        use_left = subst (λ (p : Posted). 1 ≤ p.uses) is ready.use_left;
        below = subst (λ (p : Posted). AllBelowGreatest (request_stamps p.request)) is ready.below;
      })

  pub taken_none : (d : DeskMeaning C) → HasTakenWave {N = N} {G = G} d d []
  taken_none d = record { whole = refl; rest = refl; rising = tt; later = All-nil (λ (m : Posted). All (λ (p : Posted). m.number < p.number) d.posted); each = All-nil (GoesOut d) }

  pub taken_one : (old mid new : DeskMeaning C) (wave after : List (Delivery N G)) (m : Message N G) (note : List (KnownEntry Event)) → HasTakenWave old mid wave → HasTakenFirst mid new (posted_of m) → MayGo mid m → IsBehindAll old.log.part.own note → note ≡ with_uses 0 note
      → HasJoined wave after m note → HasTakenWave old new after
  taken_one old mid new wave after m note so_far first may behind plain joins =
      subst (HasTakenWave old new) (sym joins.behind) (record {
        whole =
            so_far.whole
            ∙ (ap (λ ps. posted_in wave ++ ps) (first.first ∙ ap (λ (x : Message N G). posted_of x ∷ new.posted) (sym joins.message_is))
            ∙ (sym (append_assoc (posted_in wave) (posted_of joins.joined.message ∷ []) new.posted)
            ∙ ap (λ ps. ps ++ new.posted) (sym (map-append (λ (d : Delivery N G). posted_of d.message) wave (joins.joined ∷ [])))));
        rest = first.rest ∙ ap (λ (d : DeskMeaning C). record d { posted = new.posted }) so_far.rest;
        rising = subst AreRisingMessages (sym all-posted) (rising_push (posted_in wave) (posted_of joins.joined.message) so_far.rising (subst (λ (x : Message N G). All (λ (p : Posted). p.number < x.number) (posted_in wave)) (sym joins.message_is) below));
        later = subst (All (λ (p : Posted). All (λ (q : Posted). p.number < q.number) new.posted)) (sym all-posted)
            (All-push (λ (p : Posted). All (λ (q : Posted). p.number < q.number) new.posted) (posted_in wave) (posted_of joins.joined.message) rest-later (subst (λ (x : Message N G). All (λ (q : Posted). x.number < q.number) new.posted) (sym joins.message_is) first.later));
        each = All-push (GoesOut old) wave joins.joined so_far.each goes;
      })
    where
      all-posted : posted_in (wave ++ joins.joined ∷ []) ≡ posted_in wave ++ posted_of joins.joined.message ∷ []
      all-posted = map-append (λ (d : Delivery N G). posted_of d.message) wave (joins.joined ∷ [])

      mid-later : All (λ (p : Posted). All (λ (q : Posted). p.number < q.number) (posted_of m ∷ new.posted)) (posted_in wave)
      mid-later = subst (λ ps. All (λ (p : Posted). All (λ (q : Posted). p.number < q.number) ps) (posted_in wave)) first.first so_far.later

      below : All (λ (p : Posted). p.number < m.number) (posted_in wave)
      below = All-weaker (λ (p : Posted). All (λ (q : Posted). p.number < q.number) (posted_of m ∷ new.posted)) (λ (p : Posted). p.number < m.number) (λ p all. All-head (λ (q : Posted). p.number < q.number) (posted_of m) new.posted all) (posted_in wave) mid-later

      rest-later : All (λ (p : Posted). All (λ (q : Posted). p.number < q.number) new.posted) (posted_in wave)
      rest-later =
          All-weaker (λ (p : Posted). All (λ (q : Posted). p.number < q.number) (posted_of m ∷ new.posted)) (λ (p : Posted). All (λ (q : Posted). p.number < q.number) new.posted) (λ p all. All-tail (λ (q : Posted). p.number < q.number) (posted_of m) new.posted all) (posted_in wave) mid-later

      may-then : MayGo (record old { posted = mid.posted }) m
      may-then = subst (λ (d : DeskMeaning C). MayGo d m) so_far.rest may

      may-go : MayGo old joins.joined.message
      may-go = subst (MayGo old) (sym joins.message_is) (record { whose = may-then.whose; there = may-then.there; use_left = may-then.use_left; below = may-then.below })

      goes : GoesOut old joins.joined
      goes = record {
        whose = may-go.whose;
        may = record { there = may-go.there; use_left = may-go.use_left; below = may-go.below };
        behind = subst (IsBehindAll old.log.part.own) (plain ∙ sym joins.note_is) behind;
      }

-- ---- what became of it is taken in

-- The actor took a note that tells this, and nothing else was done.
abbrev TookIn : {C : Type 0} → List (KnownEntry Event) → DeskMeaning C → DeskMeaning C → Type 0
TookIn note old new = new ≡ record old { log = record old.log { part = record old.log.part { known = old.log.part.known ++ note } } }

module _ {N : Type 0} {G : Ghosts N CommitWorld} where
  knows-on : (was now : Part Event) → ((k : KnownEntry Event) → Contains was.known k → Contains now.known k) → (o : Result (ReplyMsg N) (ServeFault N G)) → KnowsOutcome was o → KnowsOutcome now o
  knows-on was now more (Ok r) knows = λ k there. more k (knows k there)
  knows-on was now more (Err (faults.Full at last message)) knows = λ k there. more k (knows k there)
  knows-on was now more (Err faults.NoMemory) knows = absurd knows

  answers-push : (done : List (Result (ReplyMsg N) (ServeFault N G))) (r : ReplyMsg N) → answers_in (done ++ Ok r ∷ []) ≡ answers_in done ++ answered_by r ∷ []
  answers-push [] r = refl
  answers-push (Ok x ∷ done) r = ap (λ l. answered_by x ∷ l) (answers-push done r)
  answers-push (Err f ∷ done) r = answers-push done r

module _ {C N : Type 0} {G : Ghosts N CommitWorld} where
  learnt-one : (old mid new : DeskMeaning C) (done : List (Result (ReplyMsg N) (ServeFault N G))) (o : Result (ReplyMsg N) (ServeFault N G)) → HasTakenAllIn old mid done → ((k : KnownEntry Event) → Contains mid.log.part.known k → Contains new.log.part.known k) → KnowsOutcome new.log.part o
      → HasTakenAllIn old new (done ++ o ∷ [])
  learnt-one old mid new done o so_far more knows = record {
    more = λ k there. more k (so_far.more k there);
    knows = All-push (KnowsOutcome new.log.part) done o (All-weaker (KnowsOutcome mid.log.part) (KnowsOutcome new.log.part) (knows-on mid.log.part new.log.part more) done so_far.knows) knows;
  }

  -- So far the replies before those that are left are kept.
  pub record KeptSoFar (old now : DeskMeaning C) (all left : List (Result (ReplyMsg N) (ServeFault N G))) : Type 0 where
    pub done : List (Result (ReplyMsg N) (ServeFault N G))
    pub whole : all ≡ done ++ left
    pub kept : HasKeptAll old now done

  pub kept_none : (old : DeskMeaning C) (all : List (Result (ReplyMsg N) (ServeFault N G))) → IsOwnLog old.log → KeptSoFar old old all all
  kept_none old all log = record {
    done = [];
    whole = refl;
    kept = record { rest = ap (λ rs. record old { replies = rs }) (sym (append-nil old.replies)); learnt = record { more = λ k there. there; knows = All-nil (KnowsOutcome old.log.part) }; log = log };
  }

  pub kept_one : (old mid new : DeskMeaning C) (all left : List (Result (ReplyMsg N) (ServeFault N G))) (r : ReplyMsg N) → KeptSoFar old mid all (Ok r ∷ left) → HasKept mid new (answered_by r) r.note.known → KeptSoFar old new all left
  kept_one old mid new all left r so_far kept = record {
    done = so_far.done ++ Ok r ∷ [];
    whole = so_far.whole ∙ sym (append_assoc so_far.done (Ok r ∷ []) left);
    kept = record {
      rest =
          kept.kept
          ∙ (ap (λ (d : DeskMeaning C). record d { log = record d.log { part = record d.log.part { known = mid.log.part.known ++ r.note.known } }; replies = d.replies ++ answered_by r ∷ [] }) so_far.kept.rest
          ∙ (ap (λ rs. record old { log = record old.log { part = record old.log.part { known = mid.log.part.known ++ r.note.known } }; replies = rs })
          (append_assoc old.replies (answers_in so_far.done) (answered_by r ∷ []) ∙ ap (λ rs. old.replies ++ rs) (sym (answers-push so_far.done r)))
          ∙ ap (λ ks. record old { log = record old.log { part = record old.log.part { known = ks } }; replies = old.replies ++ answers_in (so_far.done ++ Ok r ∷ []) }) (sym known-now)));
      learnt = learnt-one old mid new so_far.done (Ok r) so_far.kept.learnt (λ k there. subst (λ l. Contains l k) (sym known-now) (Contains-append_left mid.log.part.known r.note.known k there))
          (λ k there. subst (λ l. Contains l k) (sym known-now) (Contains-append_right mid.log.part.known r.note.known k there));
      log = kept.log;
    };
  }
    where
      known-now : new.log.part.known ≡ mid.log.part.known ++ r.note.known
      known-now = ap (λ (d : DeskMeaning C). d.log.part.known) kept.kept

  pub kept_all : (old now : DeskMeaning C) (all left : List (Result (ReplyMsg N) (ServeFault N G))) → left ≡ [] → KeptSoFar old now all left → HasKeptAll old now all
  kept_all old now all left none so_far = subst (HasKeptAll old now) (sym (so_far.whole ∙ (ap (λ l. so_far.done ++ l) none ∙ append-nil so_far.done))) so_far.kept

  pub next_is_reply : (old now : DeskMeaning C) (all left : List (Result (ReplyMsg N) (ServeFault N G))) (o : Result (ReplyMsg N) (ServeFault N G)) → All IsReply all → KeptSoFar old now all (o ∷ left) → IsReply o
  next_is_reply old now all left o replies so_far = All-contains IsReply all o replies (subst (λ l. Contains l o) (sym so_far.whole) (Contains-append_right so_far.done (o ∷ left) o (contains_head o left)))

  -- So far the outcomes before those that are left are known, and nothing else has changed.
  pub record LearntSoFar (old now : DeskMeaning C) (all left : List (Result (ReplyMsg N) (ServeFault N G))) : Type 0 where
    pub done : List (Result (ReplyMsg N) (ServeFault N G))
    pub whole : all ≡ done ++ left
    pub rest : now ≡ record old { log = record old.log { part = record old.log.part { known = now.log.part.known } } }
    pub learnt : HasTakenAllIn old now done

  pub learnt_none : (old : DeskMeaning C) (all : List (Result (ReplyMsg N) (ServeFault N G))) → LearntSoFar old old all all
  learnt_none old all = record { done = []; whole = refl; rest = refl; learnt = record { more = λ k there. there; knows = All-nil (KnowsOutcome old.log.part) } }

  took-in : (old new : DeskMeaning C) (o : Result (ReplyMsg N) (ServeFault N G)) (note : List (KnownEntry Event)) → TookIn note old new → (((k : KnownEntry Event) → Contains note k → Contains new.log.part.known k) → KnowsOutcome new.log.part o) → HasTakenIn old new o
  took-in old new o note took knows = record {
    rest = took ∙ ap (λ ks. record old { log = record old.log { part = record old.log.part { known = ks } } }) (sym known-now);
    more = λ k there. subst (λ l. Contains l k) (sym known-now) (Contains-append_left old.log.part.known note k there);
    knows = knows (λ k there. subst (λ l. Contains l k) (sym known-now) (Contains-append_right old.log.part.known note k there));
  }
    where
      known-now : new.log.part.known ≡ old.log.part.known ++ note
      known-now = ap (λ (d : DeskMeaning C). d.log.part.known) took

  -- a reply is taken in
  pub taken_in_reply : (old v : DeskMeaning C) (after : LogMeaning C) (o : Result (ReplyMsg N) (ServeFault N G)) (r : ReplyMsg N) (note : NoteMeaning Head Event) → o ≡ Ok r → note ≡ r.note → v ≡ old → Took note.known v.log after → HasTakenIn old (record v { log = after }) o
  taken_in_reply old v after o r note is note-is same took =
      subst (HasTakenIn old (record v { log = after })) (sym is)
      (took-in old (record v { log = after }) (Ok r) note.known
      (ap (λ (l : LogMeaning C). record v { log = l }) took.told_this ∙ ap (λ (d : DeskMeaning C). record d { log = record d.log { part = record d.log.part { known = d.log.part.known ++ note.known } } }) same)
      (λ all. subst (λ (n : NoteMeaning Head Event). (k : KnownEntry Event) → Contains n.known k → Contains after.part.known k) note-is all))

  -- and a message that was given back
  pub taken_in_back : (old v : DeskMeaning C) (one after : LogMeaning C) (fault : ServeFault N G) (at : ℕ) (last note : NoteMeaning Head Event) (message : Message N G) → fault ≡ faults.Full at last message → note ≡ message.note → v ≡ old → Took last.known v.log one → Took note.known one after
      → HasTakenIn old (record v { log = after }) (Err fault)
  taken_in_back old v one after fault at last note message is note-is same took then =
      subst (λ f. HasTakenIn old (record v { log = after }) (Err f)) (sym is)
      (took-in old (record v { log = after }) (Err (faults.Full at last message)) (last.known ++ note.known)
      (ap (λ (l : LogMeaning C). record v { log = l }) (then.told_this ∙ ap (λ (l : LogMeaning C). record l { part = record l.part { known = l.part.known ++ note.known } }) took.told_this)
      ∙ (ap (λ ks. record v { log = record v.log { part = record v.log.part { known = ks } } }) (append_assoc v.log.part.known last.known note.known)
      ∙ ap (λ (d : DeskMeaning C). record d { log = record d.log { part = record d.log.part { known = d.log.part.known ++ (last.known ++ note.known) } } }) same))
      (λ all. subst (λ (n : NoteMeaning Head Event). (k : KnownEntry Event) → Contains (last.known ++ n.known) k → Contains after.part.known k) note-is all))

  -- one more is taken in
  pub learnt_more : (old mid new : DeskMeaning C) (all left : List (Result (ReplyMsg N) (ServeFault N G))) (o : Result (ReplyMsg N) (ServeFault N G)) → LearntSoFar old mid all (o ∷ left) → HasTakenIn mid new o → LearntSoFar old new all left
  learnt_more old mid new all left o so_far took = record {
    done = so_far.done ++ o ∷ [];
    whole = so_far.whole ∙ sym (append_assoc so_far.done (o ∷ []) left);
    rest = took.rest ∙ ap (λ (d : DeskMeaning C). record d { log = record d.log { part = record d.log.part { known = new.log.part.known } } }) so_far.rest;
    learnt = learnt-one old mid new so_far.done o so_far.learnt took.more took.knows;
  }

  pub stopped_for : (old v now : DeskMeaning C) (after : LogMeaning C) (all left : List (Result (ReplyMsg N) (ServeFault N G))) → v ≡ now → left ≡ [] → LearntSoFar old now all left → after ≡ record v.log { stopped = true } → HasStoppedFor old (record v { log = after }) all
  stopped_for old v now after all left same none so_far halted =
      subst (HasStoppedFor old (record v { log = after })) (sym (so_far.whole ∙ (ap (λ l. so_far.done ++ l) none ∙ append-nil so_far.done)))
      (subst (λ (d : DeskMeaning C). HasStoppedFor old d so_far.done) (sym (ap (λ (l : LogMeaning C). record v { log = l }) halted ∙ ap (λ (d : DeskMeaning C). record d { log = record d.log { stopped = true } }) same))
      (record { rest = ap (λ (d : DeskMeaning C). record d { log = record d.log { stopped = true } }) so_far.rest; learnt = record { more = so_far.learnt.more; knows = so_far.learnt.knows } }))
