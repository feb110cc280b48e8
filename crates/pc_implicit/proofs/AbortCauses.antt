-- Each abort has the cause that it names.
use Rattle.std.proofs.Common.{◌≡◌, ℕ, ◌+◌, true, inl, inr, List, [], ◌∷◌, ◌++◌, Option, None, Some, Contains, refl, sym, ap, subst, ◌∙◌}
use Rattle.std.proofs.lemmas.List.{append_assoc}
use Rattle.pc_implicit.proofs.StagedAs.{staged_along}
use Rattle.pc_base.specs.declared.actor.ActorId.TheVariants as actors
use Rattle.pc_base.specs.declared.entry.Entry.{Entry}
use Rattle.pc_base.specs.declared.transaction.Priority.{Priority}
use Rattle.pc_base.specs.declared.transaction.TxnId.{TxnId}
use Rattle.pc_base.specs.declared.transaction.Who.{Who}
use Rattle.pc_history.specs.History.{MayFollow}
use Rattle.pc_history.specs.Own.{named_in}
use Rattle.pc_implicit.proofs.AbortedFrom.{AbortsBy, ByAbort, ByPush, ByRecover, aborted_from}
use Rattle.pc_implicit.proofs.Agreed.{agreed, open_there, owned}
use Rattle.pc_implicit.proofs.Doing.{Does}
use Rattle.pc_implicit.proofs.EvaluatedAt.{sent_at}
use Rattle.pc_implicit.proofs.FoundThere.{staging_heard}
use Rattle.pc_implicit.proofs.HeardViews.{replied_of, so_of}
use Rattle.pc_implicit.proofs.HomeOver.{ChangesPlace, home_over}
use Rattle.pc_implicit.proofs.Homes.{home_is, home_on}
use Rattle.pc_implicit.proofs.Metas.{subject_anchored}
use Rattle.pc_implicit.proofs.Restarted.{restarted_along, restarted_so}
use Rattle.pc_implicit.proofs.StagesRefuted.{listed_there}
use Rattle.pc_implicit.proofs.StaysOrRefuted.{replied_along}
use Rattle.pc_implicit.specs.Causes.{HasItsCause, IsCauseAt, IsFoundMissing, IsGivenUpBy, IsPushedBy}
use Rattle.pc_implicit.specs.Decided.{decision}
use Rattle.pc_implicit.specs.Reads.{RangeEvaluated}
use Rattle.pc_implicit.specs.Restarts.{WasRestarted}
use Rattle.pc_implicit.specs.Stages.{WasStaged}
use Rattle.pc_implicit.specs.Writes.{home_of}
use Rattle.pc_proto.specs.declared.call.Call.TheVariants as calls
use Rattle.pc_proto.specs.declared.event.Event.{Event}
use Rattle.pc_proto.specs.declared.event.Event.TheVariants as events
use Rattle.pc_proto.specs.declared.fate.Finding.TheVariants as findings
use Rattle.pc_proto.specs.declared.fate.Goal.TheVariants as goals
use Rattle.pc_proto.specs.declared.meta.TxnMeta.{TxnMeta}
use Rattle.pc_proto.specs.declared.record.Standing.TheVariants as standings
use Rattle.pc_proto.specs.declared.record.Status.{Status}
use Rattle.pc_proto.specs.declared.reply.Reply.TheVariants as replies
use Rattle.pc_proto.specs.declared.request.Request.{Request}
use Rattle.pc_proto.specs.declared.request.Request.TheVariants as requests
use Rattle.pc_proto.specs.declared.why.Why.{Why}
use Rattle.pc_proto.specs.declared.why.Why.TheVariants as whys
use Rattle.pc_proto.specs.RecordRows.Push.{wins}
use Rattle.pc_proto.specs.RecordRows.Reached.{is_staged_at, status_of}
use Rattle.pc_proto.specs.Requests.{subject}
use Rattle.pc_world.proofs.Prefixes.{run_front, run_induction}
use Rattle.pc_world.specs.After.{known_at, place_at}
use Rattle.pc_world.specs.Known.{call_of, open_txn}
use Rattle.pc_world.specs.Known.Traffic.{reply_in}
use Rattle.pc_world.specs.Local.{Head}
use Rattle.pc_world.specs.Named.{request_in, request_named}
use Rattle.pc_world.specs.Run.{IsRun, protocol}
use Rattle.pc_world.specs.Send.Abort.{MaySendAbort, own_cause}
use Rattle.pc_world.specs.Send.Recovery.{MaySendRecover}

-- a cause is one in every longer history
caused-more : (head : Head) (history : List (Entry Event)) (e : Entry Event) (id : TxnId) (why : Why) → HasItsCause head history id why → HasItsCause head (history ++ e ∷ []) id why
caused-more head history e id why c = record {
  before = c.before;
  e = c.e;
  later = c.later ++ e ∷ [];
  whole = ap (λ h. h ++ e ∷ []) c.whole ∙ append_assoc c.before (c.e ∷ c.later) (e ∷ []);
  aborts = c.aborts;
  cause = c.cause;
}

-- a rollback's cause is its own
given-up : (head : Head) (before : List (Entry Event)) → IsRun head before → (e : Entry Event) (id : TxnId) (why : Why) → IsGivenUpBy head before e id why → IsCauseAt head before e id why
given-up head before run e id (whys.Refresh key ts) g = (
  g,
  subst (λ h. WasRestarted h (actors.Session id.session) key ts) (sym g.sent)
      (restarted_along g.front (g.send ∷ g.back) (actors.Session id.session) key ts
      (restarted_so head g.front (run_front head g.front (g.send ∷ g.back) (subst (IsRun head) g.sent run)) (actors.Session id.session) g.t
      (open_there (known_at head (actors.Session id.session) g.front) g.t g.opened) key ts (restart-of g.t.restart g.cause))),
)
  where
    restart-of : (restart : Option (List ℕ × ℕ)) → whys.Refresh key ts ≡ own_cause restart → restart ≡ Some (key, ts)
    restart-of None same = absurd cc
    restart-of (Some w) same =
        let keys : key ≡ w.0 = cc same in
        let times : ts ≡ w.1 = cc same in
        sym (ap (λ x. Some (x, ts)) keys ∙ ap (λ x. Some (w.0, x)) times)
given-up head before run e id whys.Client g = g
given-up head before run e id (whys.Pushed by) g = absurd (no-push g.t.restart g.cause)
  where
    no-push : (restart : Option (List ℕ × ℕ)) → whys.Pushed by ≡ own_cause restart → ⊥
    no-push None same = absurd cc
    no-push (Some w) same = absurd cc
given-up head before run e id (whys.Missing key by) g = absurd (no-miss g.t.restart g.cause)
  where
    no-miss : (restart : Option (List ℕ × ℕ)) → whys.Missing key by ≡ own_cause restart → ⊥
    no-miss None same = absurd cc
    no-miss (Some w) same = absurd cc

-- One more entry, which changes the transaction's record.
module _ (head : Head) (history : List (Entry Event)) (run : IsRun head history) (e : Entry Event) (id : TxnId)
    (c : ChangesPlace head history e id (home_of head id history) (home_of head id (history ++ e ∷ []))) where
  evaluates : (request : Request) → c.ev.request ≡ request → RangeEvaluated head history c.ev.range (λ asked reply. asked ≡ request) e
  evaluates request is = record {
    evaluated = c.ev.there;
    request = c.ev.request;
    asked = ap request_named (ap (named_in (protocol head) history) c.is ∙ c.ev.named) ∙ ap request_in c.ev.sends;
    reply = c.told;
    told = ap reply_in c.is;
    is = is;
  }

  place-is : home_of head id history ≡ place_at head c.ev.range id history
  place-is =
      let anchored = subject_anchored head history run c.ev.send c.ev.listed c.number c.ev.range c.ev.request id c.ev.sends c.about in
      subst (λ r. home_of head id history ≡ place_at head r id history) (sym anchored.there) (home_is head id history anchored.anchor anchored.anchored)

  pushed-so : (holder : TxnMeta) (by : Who) (level : Priority) (now : ℕ) → c.ev.request ≡ requests.Push holder by level now goals.Abort → wins holder level now (home_of head id history) ≡ true
      → IsPushedBy head history e id by
  pushed-so holder by level now asks won = record {
    range = c.ev.range;
    holder = holder;
    level = level;
    now = now;
    push = evaluates (requests.Push holder by level now goals.Abort) asks;
    whose = let both : Some holder.id ≡ Some id = sym (ap subject asks) ∙ c.about in cc both;
    won = subst (λ p. wins holder level now p ≡ true) place-is won;
  }

  missing-so : (other : TxnId) (epoch ts : ℕ) (anchor key : List ℕ) (by : Who) → c.ev.request ≡ requests.Recover other epoch ts anchor (findings.Missing key by)
      → is_staged_at (home_of head id history) epoch ts ≡ true → IsFoundMissing head history e id key by
  missing-so other epoch ts anchor key by asks staged =
      let whose : other ≡ id = let both : Some other ≡ Some id = sym (ap subject asks) ∙ c.about in cc both in
      let is : c.ev.request ≡ requests.Recover id epoch ts anchor (findings.Missing key by) = asks ∙ ap (λ i. requests.Recover i epoch ts anchor (findings.Missing key by)) whose in
      let a = c.ev.send in
      let at = sent_at head history run a c.ev.listed in
      let joined : at.before ++ (a ∷ at.later) ≡ history = sym at.whole in
      let front : IsRun head at.before = run_front head at.before (a ∷ at.later) (subst (IsRun head) at.whole run) in
      let act : Does head a.actor (known_at head a.actor at.before) (events.Send c.number c.ev.range (requests.Recover id epoch ts anchor (findings.Missing key by))) =
      subst (Does head a.actor (known_at head a.actor at.before)) (c.ev.sends ∙ ap (events.Send c.number c.ev.range) is) at.does in
      let row : MaySendRecover a.actor (known_at head a.actor at.before) id epoch ts anchor (findings.Missing key by) = act.row in
      let (n, h, inside, here, missed) = row.found.1 in
      let seen = staging_heard head at.before front a.actor id epoch ts row.writes row.staging in
      record {
        range = c.ev.range;
        epoch = epoch;
        ts = ts;
        anchor = anchor;
        recovery = evaluates (requests.Recover id epoch ts anchor (findings.Missing key by)) is;
        staging = subst (λ p. is_staged_at p epoch ts ≡ true) place-is staged;
        stage = seen.stage;
        sent = subst (λ l. WasStaged l seen.stage) joined (staged_along at.before (a ∷ at.later) seen.stage seen.sent);
        whose = seen.whose;
        epoch_is = seen.epoch_is;
        ts_is = seen.ts_is;
        seq = missed.seq;
        listed = subst (λ ws. Contains ws (key, missed.seq)) (sym seen.writes_are) (listed_there key missed.seq row.writes missed.listed);
        missed =
            replied_along at.before (a ∷ at.later) history joined (requests.Query id epoch missed.seq ts key by) replies.Missing
            (replied_of head at.before a.actor h (so_of head at.before front a.actor h (n, inside, here)) (requests.Query id epoch missed.seq ts key by) replies.Missing missed.asked missed.told);
      }

  given-up-so : (meta : TxnMeta) (why : Why) (locks : List (List ℕ)) → c.ev.request ≡ requests.Abort meta why locks → IsGivenUpBy head history e id why
  given-up-so meta why locks asks =
      let a = c.ev.send in
      let sends : a.event ≡ events.Send c.number c.ev.range (requests.Abort meta why locks) = c.ev.sends ∙ ap (events.Send c.number c.ev.range) asks in
      let at = sent_at head history run a c.ev.listed in
      let front : IsRun head at.before = run_front head at.before (a ∷ at.later) (subst (IsRun head) at.whole run) in
      let k = known_at head a.actor at.before in
      let act : Does head a.actor k (events.Send c.number c.ev.range (requests.Abort meta why locks)) = subst (Does head a.actor k) sends at.does in
      let row : MaySendAbort k meta why locks = act.row in
      let t = row.t in
      let whose : t.id ≡ id = let both : Some meta.id ≡ Some id = sym (ap subject asks) ∙ c.about in sym (ap (λ (m : TxnMeta). m.id) row.whose.same) ∙ cc both in
      let knows = agreed head at.before front a.actor in
      let own : a.actor ≡ actors.Session t.id.session = (owned a.actor (k.begun + 1) k.txns t knows.numbered (open_there k t row.opened)).0 in
      let actor : a.actor ≡ actors.Session id.session = own ∙ ap (λ (i : TxnId). actors.Session i.session) whose in
      record {
        range = c.ev.range;
        meta = meta;
        locks = locks;
        abort = evaluates (requests.Abort meta why locks) asks;
        front = at.before;
        send = a;
        back = at.later;
        sent = at.whole;
        number = c.number;
        sends = sends;
        t = t;
        opened = subst (λ x. open_txn (known_at head x at.before) ≡ Some t) actor row.opened;
        whose = whose;
        asked = subst (λ x. call_of (known_at head x at.before) ≡ Some calls.Rollback) actor row.asked;
        cause = row.cause;
      }

  -- what the entry aborts has the cause that it names
  aborts-now : (why : Why) → AbortsBy (home_of head id history) c.ev.request why → IsCauseAt head history e id why
  aborts-now why (ByAbort meta locks asks) = given-up head history run e id why (given-up-so meta why locks asks)
  aborts-now why (ByPush holder by level now asks same won) = subst (IsCauseAt head history e id) (sym same) (pushed-so holder by level now asks won)
  aborts-now why (ByRecover other epoch ts anchor key by asks same staged) = subst (IsCauseAt head history e id) (sym same) (missing-so other epoch ts anchor key by asks staged)

module _ (head : Head) where
  -- Each abort has its cause.
  abbrev AreCaused : List (Entry Event) → Type 0
  AreCaused history = (id : TxnId) (why : Why) (epoch ts : ℕ) → decision (home_of head id history) ≡ Some (status_of (standings.Aborted why) epoch ts) → HasItsCause head history id why

  -- a transaction that was not decided before the entry has its cause in it
  now-caused : (history : List (Entry Event)) (e : Entry Event) → IsRun head history → MayFollow (protocol head) history e → (id : TxnId) (why : Why) (epoch ts : ℕ) → decision (home_of head id history) ≡ None
      → decision (home_of head id (history ++ e ∷ [])) ≡ Some (status_of (standings.Aborted why) epoch ts) → HasItsCause head (history ++ e ∷ []) id why
  now-caused history e run may id why epoch ts none decided =
      let s : Status = status_of (standings.Aborted why) epoch ts in
      elim (home_over head history run e may id) [
        | inl same ↦ let both : None ≡ Some s = sym none ∙ ap decision (sym same) ∙ decided in absurd cc
        | inr c ↦
            let from = aborted_from c.ev.request (home_of head id history) in
            elim (from.says s why (ap decision (sym c.changed) ∙ decided) refl) [
              | inl before ↦ let both : None ≡ Some s = sym none ∙ before in absurd cc
              | inr by ↦
                  record {
                    before = history;
                    e = e;
                    later = [];
                    whole = refl;
                    aborts = record { undecided = none; epoch = epoch; ts = ts; aborted = decided };
                    cause = aborts-now head history run e id c why by;
                  }
            ]
      ]

  are-caused : (history : List (Entry Event)) → IsRun head history → AreCaused history
  are-caused = run_induction head AreCaused (λ id why epoch ts decided. absurd cc) (λ history e run may all id why epoch ts decided.
      by history e run may all id why epoch ts decided (decision (home_of head id history)) refl)
    where
      by : (history : List (Entry Event)) (e : Entry Event) → IsRun head history → MayFollow (protocol head) history e → AreCaused history → (id : TxnId) (why : Why) (epoch ts : ℕ)
          → decision (home_of head id (history ++ e ∷ [])) ≡ Some (status_of (standings.Aborted why) epoch ts) → (o : Option Status) → decision (home_of head id history) ≡ o → HasItsCause head (history ++ e ∷ []) id why
      by history e run may all id why epoch ts decided None none = now-caused history e run may id why epoch ts none decided
      by history e run may all id why epoch ts decided (Some s) before =
          let both : Some s ≡ Some (status_of (standings.Aborted why) epoch ts) = sym ((home_on head id history e).decided s before) ∙ decided in
          caused-more head history e id why (all id why epoch ts (before ∙ both))

  pub aborts_have_causes : (history : List (Entry Event)) (id : TxnId) (why : Why) (epoch ts : ℕ) → IsRun head history → decision (home_of head id history) ≡ Some (status_of (standings.Aborted why) epoch ts)
      → HasItsCause head history id why
  aborts_have_causes history id why epoch ts run decided = are-caused history run id why epoch ts decided
