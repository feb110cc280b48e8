-- What has become of a commit that was sent: its transaction is decided, or it has all its writes proved still, or its record is past it.
use Rattle.std.proofs.Common.{◌≡◌, ℕ, ◌+◌, ◌<◌, nat_le, Bool, true, false, cond, ◌&&◌, not, ◌⊎◌, inl, inr, List, [], ◌∷◌, ◌++◌, Option, None, Some, Contains, refl, sym, ap, subst, ◌∙◌, arith}
use Rattle.std.proofs.lemmas.Bool.{and_cases, leb-false}
use Rattle.std.proofs.lemmas.List.Elements.{All-contains, Contains-push, Contains-push_cases}
use Rattle.std.specs.List.{AllByRecursion as Each}
use Rattle.pc_base.specs.declared.actor.ActorId.{ActorId}
use Rattle.pc_base.specs.declared.actor.ActorId.TheVariants as actors
use Rattle.pc_base.specs.declared.entry.Entry.{Entry}
use Rattle.pc_base.specs.declared.transaction.TxnId.{TxnId}
use Rattle.pc_base.specs.Transaction.{same_txn}
use Rattle.pc_history.specs.History.{MayFollow}
use Rattle.pc_implicit.proofs.Agreed.{agreed, one_txn}
use Rattle.pc_implicit.proofs.Anchored.{commit_anchored}
use Rattle.pc_implicit.proofs.Commits.{act_of, heard_decided}
use Rattle.pc_implicit.proofs.Doing.{Does}
use Rattle.pc_implicit.proofs.Hearing.{IsSo, heard_is_so}
use Rattle.pc_implicit.proofs.Homes.{home_is, home_on}
use Rattle.pc_implicit.proofs.Lift.{over}
use Rattle.pc_implicit.proofs.Metas.{subject_anchored}
use Rattle.pc_implicit.proofs.PutsSent.{all-each}
use Rattle.pc_implicit.proofs.Refusals.{sent_known}
use Rattle.pc_implicit.proofs.Turns.{IsAnswered, Restarted, Turn, WentOn, Wrote, comes_from}
use Rattle.pc_implicit.proofs.Views.{Stands, places_go_on, undecided_from}
use Rattle.pc_implicit.proofs.WriteLists.{IsAlike, alike_each}
use Rattle.pc_implicit.specs.Decided.{IsNotBelow, decision, epoch_of, time_of}
use Rattle.pc_implicit.specs.Writes.{home_of, txns_of}
use Rattle.pc_lists.proofs.Each.{each-contains}
use Rattle.pc_lists.proofs.Lists.{contains_nil}
use Rattle.pc_lists.proofs.Same.{same_txn-self}
use Rattle.pc_proto.specs.declared.answer.Answer.TheVariants as answers
use Rattle.pc_proto.specs.declared.event.Event.{Event}
use Rattle.pc_proto.specs.declared.event.Event.TheVariants as events
use Rattle.pc_proto.specs.declared.meta.TxnMeta.{TxnMeta}
use Rattle.pc_proto.specs.declared.record.Standing.TheVariants as standings
use Rattle.pc_proto.specs.declared.record.Status.{Status}
use Rattle.pc_proto.specs.declared.request.Request.TheVariants as requests
use Rattle.pc_proto.specs.Place.{Place, Nothing, Kept, Marked, Stay, Become, after, is_final, view_of}
use Rattle.pc_proto.specs.RecordRows.{answer}
use Rattle.pc_proto.specs.RecordRows.Reached.{status_of}
use Rattle.pc_proto.specs.Replies.{is_undecided_status}
use Rattle.pc_proto.specs.Views.{is_final_view}
use Rattle.pc_world.proofs.Knowing.{run_push}
use Rattle.pc_world.proofs.Prefixes.{run_induction}
use Rattle.pc_world.specs.After.{known_at, place_at, state_at}
use Rattle.pc_world.specs.Committed.{anchor_in}
use Rattle.pc_world.specs.Evaluation.{reply}
use Rattle.pc_world.specs.Known.Traffic.{Heard, Sent}
use Rattle.pc_world.specs.Known.Transactions.{Txn}
use Rattle.pc_world.specs.Known.Writes.{IsProvedBy, Write}
use Rattle.pc_world.specs.Local.{Head}
use Rattle.pc_world.specs.Run.{IsRun, protocol}
use Rattle.pc_world.specs.Send.Commit.{MaySendCommit}
use Rattle.pc_world.specs.StageFate.{IsUncommitted, OnCommit, SentCommit, WasCommitRefused}

-- The place is past this epoch or timestamp.
abbrev pub IsBeyond : ℕ → ℕ → Place → Type 0
IsBeyond epoch ts p = (epoch < epoch_of p) ⊎ (ts < time_of p)

pub beyond-on : (epoch ts : ℕ) (p q : Place) → IsNotBelow p q → IsBeyond epoch ts p → IsBeyond epoch ts q
beyond-on epoch ts p q rises h =
    let epochs = rises.epoch in
    let times = rises.ts in
    elim h [ inl later ↦ inl (omega (arith, later, epochs)) | inr above ↦ inr (omega (arith, above, times)) ]

-- a place is decided or it is not
pub decided_or_not : (p : Place) → ((s : Status) × (decision p ≡ Some s)) ⊎ (decision p ≡ None)
decided_or_not p = by (decision p) refl
  where
    by : (o : Option Status) → decision p ≡ o → ((s : Status) × (decision p ≡ Some s)) ⊎ (decision p ≡ None)
    by None is = inr is
    by (Some s) is = inl (s, is)

-- a record that is not decided, and that a commit leaves so, is past it
passes : (meta : TxnMeta) (ts : ℕ) (locks : List (List ℕ)) (p : Place) → decision p ≡ None → is_undecided_status (answer (requests.Commit meta ts locks) p) ≡ true → IsBeyond meta.epoch ts p
passes meta ts locks Nothing none h = absurd cc
passes meta ts locks (Kept r) none h = by (is_final r.status.standing) refl (nat_le r.status.epoch meta.epoch && nat_le r.status.ts ts) refl h
  where
    by : (b : Bool) → is_final r.status.standing ≡ b → (c : Bool) → (nat_le r.status.epoch meta.epoch && nat_le r.status.ts ts) ≡ c
        → not (is_final_view (view_of (after (Kept r) (cond b Stay (cond c (Become (record { meta = meta; status = status_of standings.Committed meta.epoch ts; activity = r.activity; writes = []; locks = locks })) Stay))))) ≡ true
        → IsBeyond meta.epoch ts (Kept r)
    by true final c reached h = let both : Some r.status ≡ None = ap (λ b. cond b (Some r.status) None) (sym final) ∙ none in absurd cc
    by false final true reached h = absurd cc
    by false final false reached h =
        elim (and_cases (nat_le r.status.epoch meta.epoch) (nat_le r.status.ts ts) reached) [
          | inl epoch ↦ inl (leb-false r.status.epoch meta.epoch epoch)
          | inr time ↦ inr (leb-false r.status.ts ts time)
        ]
passes meta ts locks (Marked s) none h = absurd cc

module _ (head : Head) (history : List (Entry Event)) (run : IsRun head history) where
  refused-at : (actor : ActorId) (h : Heard) → IsSo head history actor h → (meta : TxnMeta) (ts : ℕ) (locks : List (List ℕ)) → decision (home_of head meta.id history) ≡ None
      → h.request ≡ requests.Commit meta ts locks → is_undecided_status h.reply ≡ true → IsBeyond meta.epoch ts (home_of head meta.id history)
  refused-at actor h so meta ts locks none asked unsettled =
      let sends : so.send.event ≡ events.Send h.number so.range (requests.Commit meta ts locks) = so.sends ∙ ap (events.Send h.number so.range) asked in
      let anchored = subject_anchored head history run so.send so.listed h.number so.range (requests.Commit meta ts locks) meta.id sends refl in
      let there : place_at head so.range meta.id history ≡ home_of head meta.id history =
      ap (λ r. place_at head r meta.id history) anchored.there ∙ sym (home_is head meta.id history anchored.anchor anchored.anchored) in
      let p = place_at head so.range meta.id so.front in
      let told : h.reply ≡ answer (requests.Commit meta ts locks) p = so.answers ∙ ap (λ r. reply r (state_at head so.range so.front)) asked in
      let stands : Stands p (place_at head so.range meta.id history) = subst (λ x. Stands p (place_at head so.range meta.id x)) so.whole (over _ (places_go_on meta.id) head so.range so.front so.back) in
      let past : IsBeyond meta.epoch ts p = passes meta ts locks p (undecided_from p (place_at head so.range meta.id history) stands (ap decision there ∙ none)) (ap is_undecided_status (sym told) ∙ unsettled) in
      subst (IsBeyond meta.epoch ts) there (beyond-on meta.epoch ts p (place_at head so.range meta.id history) stands.rises past)

  -- the record of a transaction that is not decided is past each commit that its session heard to be refused
  pub refused_beyond : (actor : ActorId) (c : SentCommit) → decision (home_of head c.meta.id history) ≡ None → WasCommitRefused (known_at head actor history).heard c → IsBeyond c.meta.epoch c.ts (home_of head c.meta.id history)
  refused_beyond actor c none (n, h, inside, at, refuses) =
      refused-at actor h (each-contains (IsSo head history actor) (known_at head actor history).heard h (heard_is_so head history run actor) (n, inside, at)) c.meta c.ts c.locks none refuses.asked refuses.unsettled

  -- where a session knows its transaction uncommitted, and it is not decided, the record is past each commit that was sent
  uncommitted-beyond : (a : Entry Event) → Contains history a → (number range : ℕ) (meta : TxnMeta) (ts : ℕ) (locks : List (List ℕ)) → a.event ≡ events.Send number range (requests.Commit meta ts locks)
      → (id : TxnId) → meta.id ≡ id → decision (home_of head meta.id history) ≡ None
      → IsUncommitted id (known_at head (actors.Session meta.id.session) history).sent (known_at head (actors.Session meta.id.session) history).heard → IsBeyond meta.epoch ts (home_of head meta.id history)
  uncommitted-beyond a there number range meta ts locks is id whose none uncommitted =
      let actor = actors.Session meta.id.session in
      let same : a.actor ≡ actor = (commit_anchored head history run a there number range meta ts locks is).whose in
      let m : Sent = record { number = number; range = range; request = requests.Commit meta ts locks } in
      let sent : Contains (known_at head actor history).sent m = subst (λ x. Contains (known_at head x history).sent m) same (sent_known head history run a there number range (requests.Commit meta ts locks) is) in
      let on : OnCommit id (WasCommitRefused (known_at head actor history).heard) (requests.Commit meta ts locks) =
      All-contains (λ (x : Sent). OnCommit id (WasCommitRefused (known_at head actor history).heard) x.request) (known_at head actor history).sent m uncommitted.commits sent in
      refused_beyond actor (record { meta = meta; ts = ts; locks = locks }) none (on (ap (λ i. same_txn i id) whose ∙ same_txn-self id))

-- What has become of a commit of this epoch and timestamp: its transaction is decided; or it is of the present epoch, each write of which
-- is proved at or below its timestamp; or the record is past it.
pub data Became (home : Place) (epoch ts : ℕ) (t : Txn) : Type 0 where
  IsOver : (s : Status) → decision home ≡ Some s → Became home epoch ts t
  IsInForce : epoch ≡ t.epoch → Each (IsProvedBy ts) t.writes → Became home epoch ts t
  IsPassed : IsBeyond epoch ts home → Became home epoch ts t

module _ (head : Head) where
  proved-alike : (New : Write → ℕ → Type 0) (ts : ℕ) (w x : Write) → IsProvedBy ts w → IsAlike New w x → IsProvedBy ts x
  proved-alike New ts w x (n, p, inside, at, low) like = let there = like.kept p (n, inside, at) in (there.0, p, there.1, there.2, low)

  -- over one more entry
  became-turn : (history : List (Entry Event)) → IsRun head history → (e : Entry Event) → (a : Entry Event) → Contains history a
      → (number range : ℕ) (meta : TxnMeta) (ts : ℕ) (locks : List (List ℕ)) → a.event ≡ events.Send number range (requests.Commit meta ts locks) → (t u : Txn) → t.id ≡ meta.id
      → Became (home_of head meta.id history) meta.epoch ts t → Turn history e (known_at head (actors.Session meta.id.session) history) t u → Became (home_of head meta.id (history ++ e ∷ [])) meta.epoch ts u
  became-turn history run e a there number range meta ts locks is t u same b turn =
      let stands = home_on head meta.id history e in
      let home = home_of head meta.id history in
      let later = home_of head meta.id (history ++ e ∷ []) in
      let gone : IsUncommitted t.id (known_at head (actors.Session meta.id.session) history).sent (known_at head (actors.Session meta.id.session) history).heard → Became later meta.epoch ts u =
      λ uncommitted. elim (decided_or_not home) [
        | inl decided ↦ IsOver decided.0 (stands.decided decided.0 decided.1)
        | inr none ↦ IsPassed (beyond-on meta.epoch ts home later stands.rises (uncommitted-beyond head history run a there number range meta ts locks is t.id (sym same) none uncommitted))
      ] in
      elim b [
        | IsOver s decided ↦ IsOver s (stands.decided s decided)
        | IsPassed beyond ↦ IsPassed (beyond-on meta.epoch ts home later stands.rises beyond)
        | IsInForce epoch proved ↦ elim turn [
          | WentOn more alike ↦ IsInForce (epoch ∙ sym more) (alike_each (IsAnswered history t) (IsProvedBy ts) (IsProvedBy ts) (proved-alike (IsAnswered history t) ts) t.writes u.writes alike proved)
          | Wrote w f more writes ↦ gone f.uncommitted
          | Restarted r next writes ↦ gone r.uncommitted
        ]
      ]

  -- of the commit that is sent
  became-now : (history : List (Entry Event)) → IsRun head history → (e : Entry Event) → MayFollow (protocol head) history e
      → (number range : ℕ) (meta : TxnMeta) (ts : ℕ) (locks : List (List ℕ)) → e.event ≡ events.Send number range (requests.Commit meta ts locks) → e.actor ≡ actors.Session meta.id.session → (t u : Txn)
      → Contains (txns_of head meta.id history) t → t.id ≡ meta.id → Turn history e (known_at head (actors.Session meta.id.session) history) t u → Became (home_of head meta.id (history ++ e ∷ [])) meta.epoch ts u
  became-now history run e may number range meta ts locks is own t u inside same turn =
      let k = known_at head (actors.Session meta.id.session) history in
      let stands = home_on head meta.id history e in
      let act : Does head e.actor (known_at head e.actor history) (events.Send number range (requests.Commit meta ts locks)) = subst (Does head e.actor (known_at head e.actor history)) is (act_of head history e may) in
      let row = subst (λ x. MaySendCommit (known_at head x history) (record { meta = meta; ts = ts; locks = locks })) own act.row in
      let t_is : row.t ≡ t =
      one_txn (actors.Session meta.id.session) (k.begun + 1) k.txns row.t t (agreed head history run (actors.Session meta.id.session)).numbered row.mine inside (ap (λ (m : TxnMeta). m.id) (sym row.whose.same) ∙ sym same) in
      let epoch : meta.epoch ≡ t.epoch = ap (λ (m : TxnMeta). m.epoch) row.whose.same ∙ ap (λ (x : Txn). x.epoch) t_is in
      elim row.decided [
        | inl decides ↦
            let proved : Each (IsProvedBy ts) t.writes = subst (λ (x : Txn). Each (IsProvedBy ts) x.writes) t_is (all-each (IsProvedBy ts) row.t.writes decides.proved) in
            elim turn [
              | WentOn more alike ↦ IsInForce (epoch ∙ sym more) (alike_each (IsAnswered history t) (IsProvedBy ts) (IsProvedBy ts) (proved-alike (IsAnswered history t) ts) t.writes u.writes alike proved)
              | Wrote w f more writes ↦ let both : events.Send number range (requests.Commit meta ts locks) ≡ events.Send f.number f.range (requests.Put f.meta w.seq f.ts w.key w.value) = sym is ∙ f.sends in absurd cc
              | Restarted r next writes ↦ let both : events.Send number range (requests.Commit meta ts locks) ≡ events.Tell (answers.Restart r.key r.ts) = sym is ∙ r.tells in absurd cc
            ]
        | inr heard ↦
            let d = heard_decided head history run (actors.Session meta.id.session) row.t.id ts heard in
            let who : row.t.id ≡ meta.id = ap (λ (m : TxnMeta). m.id) (sym row.whose.same) in
            let decided : decision (home_of head row.t.id history) ≡ Some (status_of standings.Committed d.epoch ts) = ap decision (home_is head row.t.id history d.anchor d.anchored) ∙ d.decided in
            IsOver (status_of standings.Committed d.epoch ts) (stands.decided (status_of standings.Committed d.epoch ts) (subst (λ i. decision (home_of head i history) ≡ Some (status_of standings.Committed d.epoch ts)) who decided))
      ]

  abbrev AllBecame : List (Entry Event) → Type 0
  AllBecame history = (a : Entry Event) → Contains history a → (number range : ℕ) (meta : TxnMeta) (ts : ℕ) (locks : List (List ℕ)) → a.event ≡ events.Send number range (requests.Commit meta ts locks)
      → (t : Txn) → Contains (txns_of head meta.id history) t → t.id ≡ meta.id → Became (home_of head meta.id history) meta.epoch ts t

  -- what has become of each commit that was sent
  pub commits_sent : (history : List (Entry Event)) → IsRun head history → (a : Entry Event) → Contains history a
      → (number range : ℕ) (meta : TxnMeta) (ts : ℕ) (locks : List (List ℕ)) → a.event ≡ events.Send number range (requests.Commit meta ts locks)
      → (t : Txn) → Contains (txns_of head meta.id history) t → t.id ≡ meta.id → Became (home_of head meta.id history) meta.epoch ts t
  commits_sent = run_induction head AllBecame (λ a there. absurd (contains_nil a there)) (λ history e run may all a there number range meta ts locks is u inside same.
      elim (comes_from head history run e may (actors.Session meta.id.session) u inside) [
        | inl b ↦ elim (Contains-push_cases history e a there) [
          | inl before ↦
              let anchored = (commit_anchored head history run a before number range meta ts locks is).anchor in
              let both : None ≡ Some meta.anchor = sym b.new.anchor ∙ ap (λ i. anchor_in i history) same ∙ anchored in absurd cc
          | inr now ↦
              let both : events.Tell (answers.Begun u.id b.ts) ≡ events.Send number range (requests.Commit meta ts locks) = sym b.tells ∙ ap (λ (x : Entry Event). x.event) now ∙ is in absurd cc
        ]
        | inr c ↦
            let id : c.t.id ≡ meta.id = sym c.same ∙ same in
            elim (Contains-push_cases history e a there) [
              | inl before ↦ became-turn history run e a before number range meta ts locks is c.t u id (all a before number range meta ts locks is c.t c.there id) c.turn
              | inr now ↦
                  let sends : e.event ≡ events.Send number range (requests.Commit meta ts locks) = ap (λ (x : Entry Event). x.event) now ∙ is in
                  let own = (commit_anchored head (history ++ e ∷ []) (run_push head history e run may) e (Contains-push history e) number range meta ts locks sends).whose in
                  became-now history run e may number range meta ts locks sends own c.t u c.there id c.turn
            ]
      ])
