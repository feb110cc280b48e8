-- The write that made a transaction restart was told to its session, and a refresh met it.
use Rattle.std.proofs.Common.{◌≡◌, ℕ, Bool, true, false, cond, if◌then◌else◌, inl, inr, List, [], ◌∷◌, ◌++◌, Option, None, Some, Any, Contains, refl, sym, ap, subst, ◌∙◌}
use Rattle.std.proofs.lemmas.List.{append-nil, append_assoc}
use Rattle.std.proofs.lemmas.List.Elements.{Contains-append_left, Contains-push}
use Rattle.pc_base.specs.declared.actor.ActorId.{ActorId}
use Rattle.pc_base.specs.declared.entry.Entry.{Entry}
use Rattle.pc_base.specs.declared.span.Span.{Span}
use Rattle.pc_base.specs.declared.transaction.TxnId.{TxnId}
use Rattle.pc_history.specs.Own.{named_in}
use Rattle.pc_implicit.proofs.Commits.{act_of}
use Rattle.pc_implicit.proofs.Doing.{Does, same_or_not, told_by_row}
use Rattle.pc_implicit.proofs.Hearing.{IsSo, now_is_so}
use Rattle.pc_implicit.proofs.HeardViews.{replied_of}
use Rattle.pc_implicit.proofs.Written.{replied_more}
use Rattle.pc_implicit.specs.Restarts.{WasRestarted}
use Rattle.pc_lists.proofs.Each.{each-contains}
use Rattle.pc_lists.proofs.Lists.{contains_cons, contains_in_map, contains_nil, contains_tail}
use Rattle.pc_proto.specs.declared.answer.Answer.{Answer}
use Rattle.pc_proto.specs.declared.answer.Answer.TheVariants as answers
use Rattle.pc_proto.specs.declared.event.Event.{Event}
use Rattle.pc_proto.specs.declared.event.Event.TheVariants as events
use Rattle.pc_proto.specs.declared.record.Intent.{Intent}
use Rattle.pc_proto.specs.declared.reply.Reply.{Reply}
use Rattle.pc_proto.specs.declared.reply.Reply.TheVariants as replies
use Rattle.pc_proto.specs.declared.request.Request.{Request}
use Rattle.pc_proto.specs.declared.request.Request.TheVariants as requests
use Rattle.pc_proto.specs.Intents.{first_other}
use Rattle.pc_proto.specs.Place.{Place, after, is_decided, view_of}
use Rattle.pc_proto.specs.RecordRows.{push_reply}
use Rattle.pc_proto.specs.RecordRows.Push.{Verdict, There, Refuse, Doubt, Do, push, push_verdict}
use Rattle.pc_proto.specs.Table.{place_of}
use Rattle.pc_world.proofs.Knowing.{known_other, known_same}
use Rattle.pc_world.proofs.Prefixes.{run_induction}
use Rattle.pc_world.specs.After.{known_at, state_at}
use Rattle.pc_world.specs.Evaluation.{reply}
use Rattle.pc_world.specs.Evaluation.Get.{found_at, get_blocker, get_reply}
use Rattle.pc_world.specs.Evaluation.Put.{PutOutcome, Lands, Meets, Stands, outcome_of_put, put_reply}
use Rattle.pc_world.specs.Evaluation.Query.{write_stands}
use Rattle.pc_world.specs.Evaluation.Scan.{rows_in, scan_reply}
use Rattle.pc_world.specs.Known.{Known, told_first, txn_begun, txns_after, txns_told}
use Rattle.pc_world.specs.Known.Statements.{Statement}
use Rattle.pc_world.specs.Known.Traffic.{Heard, heard_by, replies_to}
use Rattle.pc_world.specs.Known.Transactions.{Txn, txn_heard, txn_sent, txn_told}
use Rattle.pc_world.specs.Local.{Head}
use Rattle.pc_world.specs.RangeState.{RangeState}
use Rattle.pc_world.specs.Run.{IsRun, protocol}
use Rattle.pc_world.specs.Tell.End.{IsUnrefreshed, MayTellRestart}

-- ---- only a refresh is answered that a write stands in its way

-- The request is a refresh.
pub record IsRefreshOfSpan (request : Request) : Type 0 where
  pub id : TxnId
  pub from : ℕ
  pub to : ℕ
  pub span : Span
  pub is : request ≡ requests.Refresh id from to span

-- The reply says that a write stands in a refresh's way.
unrefreshes : Reply → Bool
unrefreshes (replies.Unrefreshed key ts) = true
unrefreshes r = false

either-not : (b : Bool) (r q : Reply) → unrefreshes r ≡ false → unrefreshes q ≡ false → unrefreshes (if b then r else q) ≡ false
either-not true r q x y = x
either-not false r q x y = y

pushed-not : (v : Verdict) (before later : Place) → unrefreshes (push_reply v before later) ≡ false
unfolding unrefreshes
pushed-not There before later = refl
pushed-not Refuse before later = refl
pushed-not Doubt before later = refl
pushed-not Do before later = refl

refresh-only : (request : Request) (s : RangeState) → unrefreshes (reply request s) ≡ true → IsRefreshOfSpan request
unfolding unrefreshes
refresh-only (requests.Get id epoch seq ts key) s is = absurd (no (get_blocker id ts key s) (sym is))
  where
    no : (blocker : Option Intent) → true ≡ unrefreshes (get_reply blocker key (found_at id epoch seq ts key s)) → ⊥
    no None h = cc h
    no (Some i) h = cc h
refresh-only (requests.Scan id epoch seq ts span) s is = absurd (no (first_other span ts id s.intents) (sym is))
  where
    no : (blocker : Option (List ℕ × Intent)) → true ≡ unrefreshes (scan_reply blocker (rows_in id epoch seq ts span s)) → ⊥
    no None h = cc h
    no (Some e) h = cc h
refresh-only (requests.Put meta seq ts key value) s is = absurd (no (outcome_of_put meta seq ts key value s) (sym is))
  where
    no : (o : PutOutcome) → true ≡ unrefreshes (put_reply key o) → ⊥
    no (Meets i) h = cc h
    no (Stands at) h = cc h
    no (Lands i) h = cc h
refresh-only (requests.Refresh id from to span) s is = record { id = id; from = from; to = to; span = span; is = refl }
refresh-only (requests.Query id epoch seq ts key by) s is =
    let both : false ≡ true = sym (either-not (write_stands id epoch seq ts key s) replies.Found replies.Missing refl refl) ∙ is in absurd (cc both)
refresh-only (requests.Push holder by level now goal) s is =
    let p = place_of holder.id s.table in
    let v = push_verdict holder level now goal p in
    let both : false ≡ true =
    sym (either-not (is_decided p) (replies.Status (view_of p)) (push_reply v p (after p (push holder by level now goal p))) refl (pushed-not v p (after p (push holder by level now goal p)))) ∙ is in
    absurd (cc both)
refresh-only (requests.Remove id anchor) s is =
    let p = place_of id s.table in
    let both : false ≡ true = sym (either-not (is_decided p) replies.Removed (replies.Status (view_of p)) refl refl) ∙ is in absurd (cc both)
refresh-only request s is = absurd (cc is)

-- ---- along a run

-- The session was told to restart for this write, and a refresh met it.
abbrev pub IsSoRestarted : List (Entry Event) → ActorId → Txn → Type 0
IsSoRestarted history actor t = (key : List ℕ) (ts : ℕ) → t.restart ≡ Some (key, ts) → WasRestarted history actor key ts

restarted-more : (history : List (Entry Event)) (e : Entry Event) (actor : ActorId) (key : List ℕ) (ts : ℕ) → WasRestarted history actor key ts → WasRestarted (history ++ e ∷ []) actor key ts
restarted-more history e actor key ts w = record {
  tell = w.tell;
  told = Contains-append_left history (e ∷ []) w.tell w.told;
  whose = w.whose;
  tells = w.tells;
  refresher = w.refresher;
  from = w.from;
  to = w.to;
  span = w.span;
  refused = replied_more history e (requests.Refresh w.refresher w.from w.to w.span) (replies.Unrefreshed key ts) w.refused;
}

pub restarted_along : (front back : List (Entry Event)) (actor : ActorId) (key : List ℕ) (ts : ℕ) → WasRestarted front actor key ts → WasRestarted (front ++ back) actor key ts
restarted_along front [] actor key ts w = subst (λ h. WasRestarted h actor key ts) (sym (append-nil front)) w
restarted_along front (e ∷ es) actor key ts w = subst (λ h. WasRestarted h actor key ts) (append_assoc front (e ∷ []) es) (restarted_along (front ++ e ∷ []) es actor key ts (restarted-more front e actor key ts w))

module _ (head : Head) where
  -- One more entry of the session.
  module _ (history : List (Entry Event)) (run : IsRun head history) (e : Entry Event) (k : Known) (heard : (P : Heard → Type 0) → Any P k.heard_now → (h : Heard) × IsSo head history e.actor h × P h)
      (before : (t : Txn) → Contains k.txns t → IsSoRestarted history e.actor t) where
    Later : Txn → Type 0
    Later u = IsSoRestarted (history ++ e ∷ []) e.actor u

    as-before : (t u : Txn) → Contains k.txns t → u.restart ≡ t.restart → Later u
    unfolding Later
    as-before t u there same key ts is = restarted-more history e e.actor key ts (before t there key ts (sym same ∙ is))

    -- what the answer to a refresh was
    met-write : (key : List ℕ) (ts : ℕ) (h : Heard) → IsSo head history e.actor h → IsUnrefreshed key ts h.reply → e.event ≡ events.Tell (answers.Restart key ts) → WasRestarted (history ++ e ∷ []) e.actor key ts
    unfolding unrefreshes
    met-write key ts h so unrefreshed tells =
        let told : h.reply ≡ replies.Unrefreshed key ts = reply-is h.reply unrefreshed in
        let r = refresh-only h.request (state_at head so.range so.front) (ap unrefreshes (sym so.answers ∙ told)) in
        record {
          tell = e;
          told = Contains-push history e;
          whose = refl;
          tells = tells;
          refresher = r.id;
          from = r.from;
          to = r.to;
          span = r.span;
          refused =
              replied_more history e (requests.Refresh r.id r.from r.to r.span) (replies.Unrefreshed key ts)
              (replied_of head history e.actor h so (requests.Refresh r.id r.from r.to r.span) (replies.Unrefreshed key ts) r.is told);
        }
      where
        reply-is : (r : Reply) → IsUnrefreshed key ts r → r ≡ replies.Unrefreshed key ts
        reply-is (replies.Unrefreshed at_key at) same = ap (λ x. replies.Unrefreshed x at) same.0 ∙ ap (replies.Unrefreshed key) same.1
        reply-is r same = absurd same

    restart-now : (key : List ℕ) (ts : ℕ) → e.event ≡ events.Tell (answers.Restart key ts) → Does head e.actor k (events.Tell (answers.Restart key ts)) → WasRestarted (history ++ e ∷ []) e.actor key ts
    restart-now key ts is may =
        let row : MayTellRestart k may.s key ts = told_by_row head e.actor k (answers.Restart key ts) may (λ h. cc h) (λ h. cc h) in
        let met = heard (λ h. IsUnrefreshed key ts h.reply) row.heard in
        met-write key ts met.0 met.1 met.2 is

    told-first : (answer : Answer) → e.event ≡ events.Tell answer → Does head e.actor k (events.Tell answer) → (t : Txn) (replied : List Heard) → Later (txn_told answer replied t)
    unfolding Later
    told-first (answers.Restart at_key at) is may t replied key ts same =
        let both : ◌≡◌ {A = Option (List ℕ × ℕ)} (Some (at_key, at)) (Some (key, ts)) = same in
        let pair : ◌≡◌ {A = List ℕ × ℕ} (at_key, at) (key, ts) = cc both in
        let here = restart-now at_key at is may in
        subst (λ (w : List ℕ × ℕ). WasRestarted (history ++ e ∷ []) e.actor w.0 w.1) pair here
    told-first answer is may t replied key ts same = absurd (cc same)

    tell-later : (answer : Answer) → e.event ≡ events.Tell answer → Does head e.actor k (events.Tell answer) → (u : Txn) → Contains (txns_told answer k) u → Later u
    unfolding Later
    tell-later (answers.Begun id ts) is may u there =
        elim (contains_cons (txn_begun k.statement id ts) k.txns u there) [
          | inl same ↦ λ key at restarted. absurd (new k.statement key at (ap (λ (x : Txn). x.restart) same ∙ restarted))
          | inr old ↦ as-before u u old refl
        ]
      where
        new : (s : Option Statement) (key : List ℕ) (at : ℕ) → (txn_begun s id ts).restart ≡ Some (key, at) → ⊥
        new None key at h = cc h
        new (Some s) key at h = cc h
    tell-later answer is may u there = by k.is_open k.txns refl there
      where
        by : (b : Bool) (txns : List Txn) → k.txns ≡ txns → Contains (cond b (told_first answer (replies_to k.sent_now k.heard_now) txns) txns) u → Later u
        by true [] whole there = absurd (contains_nil u there)
        by true (t ∷ ts) whole there =
            elim (contains_cons (txn_told answer (replies_to k.sent_now k.heard_now) t) ts u there) [
              | inl same ↦ subst Later same (told-first answer is may t (replies_to k.sent_now k.heard_now))
              | inr later ↦ as-before u u (subst (λ l. Contains l u) (sym whole) (contains_tail t ts u later)) refl
            ]
        by false txns whole there = as-before u u (subst (λ l. Contains l u) (sym whole) there) refl

    event-later : (event : Event) → e.event ≡ event → Does head e.actor k event → (h : Option Heard) (u : Txn) → Contains (txns_after event h k) u → Later u
    unfolding Later
    event-later (events.Send number range request) is may h u there = let from = contains_in_map (txn_sent request) k.txns u there in as-before from.0 u from.1 (ap (λ (x : Txn). x.restart) (sym from.2))
    event-later (events.Hear number step) is may h u there = let from = contains_in_map (txn_heard k.sent h) k.txns u there in as-before from.0 u from.1 (ap (λ (x : Txn). x.restart) (sym from.2))
    event-later (events.Tell answer) is may h u there = tell-later answer is may u there
    event-later event is may h u there = as-before u u there refl

  AreRestarted : List (Entry Event) → Type 0
  AreRestarted history = (actor : ActorId) (t : Txn) → Contains (known_at head actor history).txns t → IsSoRestarted history actor t

  -- the write that made a transaction restart was told so, and met by a refresh
  pub restarted_so : (history : List (Entry Event)) → IsRun head history → (actor : ActorId) (t : Txn) → Contains (known_at head actor history).txns t → IsSoRestarted history actor t
  unfolding AreRestarted Later
  restarted_so = run_induction head AreRestarted (λ actor t there. absurd (contains_nil t there)) (λ history e run may all actor u there.
      elim (same_or_not e.actor actor) [
        | inl same ↦
            let k = known_at head e.actor history in
            subst (λ a. IsSoRestarted (history ++ e ∷ []) a u) same
            (event-later history run e k
            (λ P some. let (n, h, inside, at, p) = some in (h, each-contains (IsSo head history e.actor) k.heard_now h (now_is_so head history run e.actor) (n, inside, at), p))
            (all e.actor) e.event refl (act_of head history e may)
            (heard_by e.event (named_in (protocol head) history e.event) k.sent) u
            (subst (λ (l : Known). Contains l.txns u) (known_same head e.actor history e refl) (subst (λ a. Contains (known_at head a (history ++ e ∷ [])).txns u) (sym same) there)))
        | inr differ ↦
            let old = subst (λ (l : Known). Contains l.txns u) (known_other head actor history e differ) there in
            λ key ts is. restarted-more history e actor key ts (all actor u old key ts is)
      ])
