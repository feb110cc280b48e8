-- What an actor heard is of the kind that its message asks for, and whose intents it met was begun: by the fine history in which its own list
-- stands.
use Rattle.std.proofs.Common.{◌≡◌, ℕ, ◌≤◌, ◌<◌, Contains, List, [], ◌∷◌, ◌++◌, Some, refl, sym, ap, subst, ◌∙◌, arith}
use Rattle.std.proofs.lemmas.List.{append-nil, append_assoc}
use Rattle.pc_base.specs.declared.actor.ActorId.TheVariants as actors
use Rattle.pc_base.specs.declared.entry.Entry.{Entry}
use Rattle.pc_base.specs.declared.transaction.TxnId.{TxnId}
use Rattle.pc_base.specs.Timestamp.{greatest}
use Rattle.pc_desk.specs.OwnLog.{IsOwnLog, LogMeaning}
use Rattle.pc_exchange.proofs.PastEpochs.{past_stage_then, past_then}
use Rattle.pc_implicit.proofs.Agreed.{agreed, owned}
use Rattle.pc_implicit.proofs.Anchored.{anchor_stays}
use Rattle.pc_implicit.proofs.Answering.{reply_is_one}
use Rattle.pc_implicit.proofs.ReplyKinds.{replies_have_kinds}
use Rattle.pc_implicit.proofs.Hearing.{IsSo, heard_is_so, now_is_so}
use Rattle.pc_implicit.proofs.Holders.{anchored_begun, holder_anchored}
use Rattle.pc_implicit.proofs.Shown.{WasAnswered}
use Rattle.pc_implicit.specs.Writes.{txns_of}
use Rattle.pc_lists.proofs.Each.{each-contains}
use Rattle.pc_proto.specs.declared.event.Event.{Event}
use Rattle.pc_proto.specs.declared.meta.TxnMeta.{TxnMeta}
use Rattle.pc_proto.specs.declared.reply.Reply.TheVariants as replies
use Rattle.pc_proto.specs.declared.request.Request.{Request}
use Rattle.pc_proto.specs.declared.request.Request.TheVariants as requests
use Rattle.pc_proto.specs.Replies.{is_undecided_status, status_ts}
use Rattle.pc_wave.specs.Standing.{IsPastWhereUndecided}
use Rattle.pc_world.proofs.Kept.{run_top}
use Rattle.pc_world.proofs.Prefixes.{run_front}
use Rattle.pc_world.specs.After.{known_at, state_at}
use Rattle.pc_world.specs.Answering.{MayAnswer}
use Rattle.pc_world.specs.Committed.{anchor_in}
use Rattle.pc_world.specs.Evaluation.{reply}
use Rattle.pc_world.specs.Exchange.{IsPossibleReply}
use Rattle.pc_world.specs.Known.{Known, known_of}
use Rattle.pc_world.specs.Known.Traffic.{Heard}
use Rattle.pc_world.specs.Known.Transactions.{Txn}
use Rattle.pc_world.specs.Run.{IsRun}
use Rattle.pc_world.specs.StageFate.{SentStage}

-- an anchor stays
pub anchor_longer : (id : TxnId) (anchor : List ℕ) (front back : List (Entry Event)) → anchor_in id front ≡ Some anchor → anchor_in id (front ++ back) ≡ Some anchor
anchor_longer id anchor front [] is = ap (anchor_in id) (append-nil front) ∙ is
anchor_longer id anchor front (e ∷ back) is =
    sym (ap (anchor_in id) (append_assoc front (e ∷ []) back))
    ∙ anchor_longer id anchor (front ++ e ∷ []) back (anchor_stays id front e anchor is)

module _ {C : Type 0} (l : LogMeaning C) (log : IsOwnLog l) where
  -- the history in which the list stands
  abbrev pub history_of : List (Entry Event)
  history_of = log.stands.history

  pub is_run : IsRun l.head history_of
  is_run = log.stands.fine

  -- what the actor knows there is what it knows by its list
  pub known_there : known_at l.head l.part.id history_of ≡ known_of l.part.own
  known_there = ap known_of log.stands.list

  -- what was heard was answered so
  pub answered : (h : Heard) → Contains (known_of l.part.own).heard h → WasAnswered l.head history_of l.part.id h.number h.request h.reply
  answered h there =
      each-contains (IsSo l.head history_of l.part.id) (known_at l.head l.part.id history_of).heard h (heard_is_so l.head history_of is_run l.part.id)
      (subst (λ (k : Known). Contains k.heard h) (sym known_there) there)

  answered_now : (h : Heard) → Contains (known_of l.part.own).heard_now h → WasAnswered l.head history_of l.part.id h.number h.request h.reply
  answered_now h there =
      each-contains (IsSo l.head history_of l.part.id) (known_at l.head l.part.id history_of).heard_now h (now_is_so l.head history_of is_run l.part.id)
      (subst (λ (k : Known). Contains k.heard_now h) (sym known_there) there)

  run_then : (h : Heard) (w : WasAnswered l.head history_of l.part.id h.number h.request h.reply) → IsRun l.head w.front
  run_then h w = run_front l.head w.front w.back (subst (IsRun l.head) (sym w.whole) is_run)

  -- a reply that was heard is one that its message may be answered by
  pub heard_kind : (h : Heard) → Contains (known_of l.part.own).heard h → MayAnswer h.request h.reply
  heard_kind h there =
      let w = answered h there in
      subst (MayAnswer h.request) (sym w.answers) (replies_have_kinds l.head w.front w.range h.request)

  -- a record that is not final is past what commits a transaction of the actor in an epoch that it has not left
  pub heard_past : (h : Heard) → Contains (known_of l.part.own).heard h → (t : Txn) → Contains (known_of l.part.own).txns t → IsPastWhereUndecided t h.request h.reply
  heard_past h there t mine = by h.request refl
    where
      w : WasAnswered l.head history_of l.part.id h.number h.request h.reply
      w = answered h there

      by : (r : Request) → h.request ≡ r → IsPastWhereUndecided t r h.reply
      by (requests.Stage meta ts now writes locks) is = λ whose low view status past.
          let stage : SentStage = record { meta = meta; ts = ts; now = now; writes = writes; locks = locks } in
          let told : reply (requests.Stage meta ts now writes locks) (state_at l.head w.range w.front) ≡ replies.Status view = sym (w.answers ∙ ap (λ q. reply q (state_at l.head w.range w.front)) is) ∙ status in
          let known : Contains (known_at l.head l.part.id history_of).txns t = subst (λ (k : Known). Contains k.txns t) (sym known_there) mine in
          let of : l.part.id ≡ actors.Session t.id.session = (owned l.part.id _ (known_at l.head l.part.id history_of).txns t (agreed l.head history_of is_run l.part.id).numbered known).0 in
          let here : Contains (txns_of l.head meta.id history_of) t = subst (λ a. Contains (known_at l.head a history_of).txns t) (of ∙ ap (λ (i : TxnId). actors.Session i.session) (sym whose)) known in
          past_stage_then l.head w.front w.back (subst (IsRun l.head) (sym w.whole) is_run) w.range stage t (subst (λ history. Contains (txns_of l.head meta.id history) t) (sym w.whole) here) (sym whose) low view told past
      by (requests.Commit meta ts locks) is = λ whose low undecided.
          let told : h.reply ≡ reply (requests.Commit meta ts locks) (state_at l.head w.range w.front) = w.answers ∙ ap (λ q. reply q (state_at l.head w.range w.front)) is in
          let known : Contains (known_at l.head l.part.id history_of).txns t = subst (λ (k : Known). Contains k.txns t) (sym known_there) mine in
          let of : l.part.id ≡ actors.Session t.id.session = (owned l.part.id _ (known_at l.head l.part.id history_of).txns t (agreed l.head history_of is_run l.part.id).numbered known).0 in
          let here : Contains (txns_of l.head meta.id history_of) t = subst (λ a. Contains (known_at l.head a history_of).txns t) (of ∙ ap (λ (i : TxnId). actors.Session i.session) (sym whose)) known in
          let past =
          past_then l.head w.front w.back (subst (IsRun l.head) (sym w.whole) is_run) w.range meta ts locks t (subst (λ history. Contains (txns_of l.head meta.id history) t) (sym w.whole) here) (sym whose) low
          (ap is_undecided_status (sym told) ∙ undecided) in
          subst (λ r. ts < status_ts r) (sym told) past
      by r is = tt

  -- also one that was heard in the open call
  pub heard_now_kind : (h : Heard) → Contains (known_of l.part.own).heard_now h → MayAnswer h.request h.reply
  heard_now_kind h there =
      let w = answered_now h there in
      subst (MayAnswer h.request) (sym w.answers) (replies_have_kinds l.head w.front w.range h.request)

  -- and that some state of a range gives
  pub heard_possible : (h : Heard) → Contains (known_of l.part.own).heard h → IsPossibleReply h.request h.reply
  heard_possible h there =
      let w = answered h there in
      subst (IsPossibleReply h.request) (sym w.answers) (reply_is_one l.head w.front w.range h.request)

  -- the holder of an intent that was met was begun, where it is of the actor itself
  pub heard_begun : (session : ℕ) → l.part.id ≡ actors.Session session → (h : Heard) → Contains (known_of l.part.own).heard_now h → (holder : TxnMeta) (ts : ℕ) (key : List ℕ) → h.reply ≡ replies.Conflict holder ts key
      → holder.id.session ≡ session → holder.id.number ≤ (known_of l.part.own).begun
  heard_begun session whose h there holder ts key met mine =
      let w = answered_now h there in
      let first : anchor_in holder.id w.front ≡ Some holder.anchor = holder_anchored l.head w.front (run_then h w) w.range h.request holder ts key (sym w.answers ∙ met) in
      let low = anchored_begun l.head history_of is_run holder.id holder.anchor (ap (anchor_in holder.id) (sym w.whole) ∙ anchor_longer holder.id holder.anchor w.front w.back first) in
      let same : actors.Session holder.id.session ≡ l.part.id = ap (λ n. actors.Session n) mine ∙ sym whose in
      subst (λ (k : Known). holder.id.number ≤ k.begun) (ap (λ id. known_at l.head id history_of) same ∙ known_there) low

  -- what the actor knows of timestamps is below the greatest
  pub top_below : (known_of l.part.own).top < greatest
  top_below =
      let top = run_top l.head l.part.id history_of is_run in
      let short = log.stands.short in
      subst (λ (k : Known). k.top < greatest) known_there (omega (arith, top, short))
