-- A heartbeat whose transaction nothing may have committed is answered by a record that was not committed: by the fine history in which the
-- actor's own list stands.
use Rattle.std.proofs.Common.{◌≡◌, ℕ, Bool, true, false, List, [], ◌∷◌, ◌++◌, map, Some, Contains, IsTrue, refl, sym, ap, subst, ◌∙◌}
use Rattle.std.proofs.lemmas.Bool.{and_from, eq-eqb}
use Rattle.std.proofs.lemmas.List.Elements.{All-weaker}
use Rattle.std.specs.Option.{option_map_or}
use Rattle.pc_base.specs.declared.actor.ActorId.TheVariants as actors
use Rattle.pc_base.specs.declared.transaction.TxnId.{TxnId}
use Rattle.pc_base.specs.Transaction.{same_txn}
use Rattle.pc_coord.specs.Events.{IsAnsweredAlive, ShowsUncommitted}
use Rattle.pc_desk.specs.OwnLog.{IsOwnLog, LogMeaning}
use Rattle.pc_exchange.proofs.HeardKinds.{heard_kind, history_of, is_run, known_there}
use Rattle.pc_implicit.proofs.Agreed.{agreed, open_there, owned}
use Rattle.pc_implicit.proofs.Commits.{IsDecided, decided_is_committed, heard_decided}
use Rattle.pc_implicit.proofs.Did.{session_at}
use Rattle.pc_implicit.proofs.Ended.{over_uncommitted}
use Rattle.pc_implicit.proofs.KnownOver.{IsKnownOver, over_of}
use Rattle.pc_implicit.proofs.OpenOver.{IsOpenHere, open_untold}
use Rattle.pc_implicit.proofs.StagesKnown.{dead_more, refused_more}
use Rattle.pc_lists.proofs.Same.{same_txn-self}
use Rattle.pc_proto.specs.declared.meta.TxnMeta.{TxnMeta}
use Rattle.pc_proto.specs.declared.reply.Reply.{Reply}
use Rattle.pc_proto.specs.declared.reply.Reply.TheVariants as replies
use Rattle.pc_proto.specs.declared.request.Request.{Request}
use Rattle.pc_proto.specs.declared.request.Request.TheVariants as requests
use Rattle.pc_proto.specs.declared.view.View.{View}
use Rattle.pc_proto.specs.declared.view.View.TheVariants as views
use Rattle.pc_proto.specs.Replies.{view_in}
use Rattle.pc_proto.specs.Requests.{is_about}
use Rattle.pc_proto.specs.Views.{is_committed_at}
use Rattle.pc_world.specs.After.{known_at}
use Rattle.pc_world.specs.Answering.{IsOfSome, IsRecordReply, MayAnswer}
use Rattle.pc_world.specs.Known.{Known, first_if, known_of, open_txn}
use Rattle.pc_world.specs.Known.Traffic.{Heard, Sent}
use Rattle.pc_world.specs.Known.Transactions.{Txn}
use Rattle.pc_world.specs.StageFate.{IsDead, IsUncommitted, OnCommit, OnStage, WasCommitRefused}
use Rattle.pc_world.specs.Views.{WasCommitted, shows_committed}

-- ---- what stays so

-- what is known to have come to nothing stays so
stage_more : (id : TxnId) (heard more : List Heard) (r : Request) → OnStage id (IsDead heard) r → OnStage id (IsDead (heard ++ more)) r
stage_more id heard more (requests.Stage meta ts now writes locks) on = λ same. dead_more heard more (record { meta = meta; ts = ts; now = now; writes = writes; locks = locks }) (on same)
stage_more id heard more r on = tt

commit_more : (id : TxnId) (heard more : List Heard) (r : Request) → OnCommit id (WasCommitRefused heard) r → OnCommit id (WasCommitRefused (heard ++ more)) r
commit_more id heard more (requests.Commit meta ts locks) on = λ same. refused_more heard more (record { meta = meta; ts = ts; locks = locks }) (on same)
commit_more id heard more r on = tt

uncommitted_more : (id : TxnId) (sent : List Sent) (heard more : List Heard) → IsUncommitted id sent heard → IsUncommitted id sent (heard ++ more)
uncommitted_more id sent heard more u = record {
  stages = All-weaker (λ m. OnStage id (IsDead heard) m.request) (λ m. OnStage id (IsDead (heard ++ more)) m.request) (λ m on. stage_more id heard more m.request on) sent u.stages;
  commits = All-weaker (λ m. OnCommit id (WasCommitRefused heard) m.request) (λ m. OnCommit id (WasCommitRefused (heard ++ more)) m.request) (λ m on. commit_more id heard more m.request on) sent u.commits;
}

-- what is done to each transaction is done to the open one
pub first_mapped : (f : Txn → Txn) (b : Bool) (txns : List Txn) (t : Txn) → first_if b txns ≡ Some t → first_if b (map f txns) ≡ Some (f t)
first_mapped f true [] t is = absurd cc
first_mapped f true (u ∷ txns) t is = let same : u ≡ t = cc in ap (λ u. Some (f u)) same
first_mapped f false [] t is = absurd cc
first_mapped f false (u ∷ txns) t is = absurd cc

-- ---- what the actor heard

module _ {C : Type 0} (l : LogMeaning C) (log : IsOwnLog l) where
  abbrev now_known : Known
  now_known = known_of l.part.own

  known_open : (t : Txn) → open_txn now_known ≡ Some t → Contains (known_at l.head l.part.id (history_of l log)).txns t
  known_open t opened = subst (λ (k : Known). Contains k.txns t) (sym (known_there l log)) (open_there now_known t opened)

  open_session : (t : Txn) → open_txn now_known ≡ Some t → l.part.id ≡ actors.Session t.id.session
  open_session t opened = (owned l.part.id _ (known_at l.head l.part.id (history_of l log)).txns t (agreed l.head (history_of l log) (is_run l log) l.part.id).numbered (known_open t opened)).0

  module _ (h : Heard) (there : Contains now_known.heard h) (t : Txn) (opened : open_txn now_known ≡ Some t) (none : IsUncommitted t.id now_known.sent now_known.heard) (meta : TxnMeta) (ts now : ℕ) (asked : h.request ≡ requests.Beat meta ts now) (whose : meta.id ≡ t.id) where
    own_session : l.part.id ≡ actors.Session t.id.session
    own_session = open_session t opened

    session_known : session_at l.head t.id (history_of l log) ≡ now_known
    session_known = ap (λ a. known_at l.head a (history_of l log)) (sym own_session) ∙ known_there l log

    over : IsKnownOver (session_at l.head t.id (history_of l log)) t.id
    over = subst (λ k. IsKnownOver k t.id) (sym session_known) (over_of now_known t.id none)

    open_here : IsOpenHere (session_at l.head t.id (history_of l log)) t.id
    open_here = subst (λ k. IsOpenHere k t.id) (sym session_known) (record { t = t; opened = opened; named = refl })

    none_committed : (epoch at : ℕ) (locks : List (List ℕ)) → h.reply ≡ replies.Status (views.Committed epoch at locks) → ⊥
    none_committed epoch at locks told =
        let about : is_about t.id h.request ≡ true = ap (is_about t.id) asked ∙ ap (λ id. same_txn id t.id) whose ∙ same_txn-self t.id in
        let shown : IsTrue (shows_committed t.id at h) =
        and_from (is_about t.id h.request) (option_map_or (is_committed_at at) (view_in h.reply) false) about
        (ap (λ r. option_map_or (is_committed_at at) (view_in r) false) told ∙ eq-eqb at at refl) in
        let was : WasCommitted now_known.heard t.id at = (there.0, h, there.1, there.2, shown) in
        let decided : IsDecided l.head (history_of l log) t.id at =
        heard_decided l.head (history_of l log) (is_run l log) l.part.id t.id at (subst (λ (k : Known). WasCommitted k.heard t.id at) (sym (known_there l log)) was) in
        over_uncommitted l.head (history_of l log) (is_run l log) t.id over (open_untold l.head (history_of l log) (is_run l log) t.id open_here) at
        (decided_is_committed l.head (history_of l log) t.id at decided)

    beat_uncommitted : ShowsUncommitted h.reply
    beat_uncommitted = by h.reply refl (subst (λ q. MayAnswer q h.reply) asked (heard_kind l log h there))
      where
        by_view : (view : View) → h.reply ≡ replies.Status view → IsOfSome view → ShowsUncommitted (replies.Status view)
        by_view (views.Pending epoch at) told some = tt
        by_view (views.Aborted epoch why locks) told some = tt
        by_view (views.Committed epoch at locks) told some = absurd (none_committed epoch at locks told)
        by_view (views.Staging epoch at writes) told some = tt
        by_view views.Nothing told some = some

        by : (told : Reply) → h.reply ≡ told → IsRecordReply told → ShowsUncommitted told
        by (replies.Status view) told kind = by_view view told kind
        by other told kind = absurd kind

  -- a heartbeat is answered by no commit, as its session knew it before
  pub answered_alive : (h : Heard) → Contains now_known.heard h → (k : Known) → now_known.sent ≡ k.sent → now_known.heard ≡ k.heard ++ h ∷ [] → ((t : Txn) → open_txn k ≡ Some t → (u : Txn) × (open_txn now_known ≡ Some u) × (u.id ≡ t.id))
      → IsAnsweredAlive k h.request h.reply
  answered_alive h there k sent heard open_on = by h.request refl
    where
      by : (r : Request) → h.request ≡ r → IsAnsweredAlive k r h.reply
      by (requests.Beat meta ts now) asked = λ t opened whose none.
          let u = open_on t opened in
          let more : IsUncommitted t.id k.sent (k.heard ++ h ∷ []) = uncommitted_more t.id k.sent k.heard (h ∷ []) none in
          let later : IsUncommitted u.0.id now_known.sent now_known.heard =
          subst (λ ms. IsUncommitted u.0.id ms now_known.heard) (sym sent) (subst (λ hs. IsUncommitted u.0.id k.sent hs) (sym heard) (subst (λ id. IsUncommitted id k.sent (k.heard ++ h ∷ [])) (sym u.2) more)) in
          beat_uncommitted h there u.0 u.1 later meta ts now asked (whose ∙ sym u.2)
      by r asked = tt
