-- What the open transaction may send.
use Rattle.std.proofs.Common.{◌≡◌, ℕ, ◌==◌, true, false, ◌⊎◌, inl, inr, List, [], ◌∷◌, map, length, Option, Some, None, refl, sym, ap, ◌∙◌, subst, arith, All, Any, Contains, IsTrue}
use Rattle.std.specs.List.{list_any}
use Rattle.std.specs.Option.{option_map_or}
use Rattle.std.proofs.lemmas.Bool.{and_from, and_parts, eq-eqb}
use Rattle.std.proofs.lemmas.List.Elements.{All-contains}
use Rattle.std.proofs.lemmas.Option.{same_Some}
use Rattle.pc_base.specs.declared.actor.ActorId.{ActorId}
use Rattle.pc_base.specs.declared.span.Span.{Span}
use Rattle.pc_base.specs.declared.span.Span.TheVariants.{One}
use Rattle.pc_base.specs.Span.{contains, same_key}
use Rattle.pc_flight.proofs.Holding.{flights_hold}
use Rattle.pc_flight.specs.declared.write.WriteInFlight.{WriteInFlight}
use Rattle.pc_flight.specs.InFlight.{FlightStands}
use Rattle.pc_lists.proofs.Anywhere.{any_of}
use Rattle.pc_proto.specs.declared.call.Call.TheVariants as calls
use Rattle.pc_proto.specs.declared.reply.Reply.{Reply}
use Rattle.pc_proto.specs.declared.reply.Reply.TheVariants as replies
use Rattle.pc_proto.specs.declared.view.View.TheVariants as views
use Rattle.pc_proto.specs.declared.why.Why.{Why}
use Rattle.pc_proto.specs.Replies.{is_undecided_status, view_in}
use Rattle.pc_proto.specs.Requests.{is_about}
use Rattle.pc_proto.specs.Views.{is_committed_at}
use Rattle.pc_staging.proofs.Allowing.{allows}
use Rattle.pc_staging.proofs.Deciding.{over_yes}
use Rattle.pc_staging.specs.Kept.{is_just, is_over, is_passed_by, is_staged_and_proved}
use Rattle.pc_staging.specs.Standing.{WasStagedAt}
use Rattle.pc_txn.proofs.Keeping.{free_over}
use Rattle.pc_txn.proofs.Late.{kept_above}
use Rattle.pc_txn.proofs.Laying.{known_one, place_is, seq_is, value_is}
use Rattle.pc_txn.specs.declared.txn.OpenTxn.{OpenTxn}
use Rattle.pc_txn.specs.Opened.{next_put, own_abort, own_commit, own_get, own_scan, put_at}
use Rattle.pc_txn.proofs.Written.{one_of_seq}
use Rattle.pc_txn.specs.Standing.{StandsAbove, IsStageHere, IsUndecidedOf, TxnStands}
use Rattle.pc_txn.specs.Writing.{WasAskedAt}
use Rattle.pc_follows.specs.EarlyTell.{IsCommitKnown}
use Rattle.pc_world.specs.Known.{Known, call_of, open_txn}
use Rattle.pc_world.specs.Known.Reads.{IsGoodAt}
use Rattle.pc_world.specs.Known.Traffic.{Heard}
use Rattle.pc_world.specs.Known.Transactions.{Txn}
use Rattle.pc_world.specs.Known.Writes.{IsProvedBy, Write, last_seq_of}
use Rattle.pc_world.specs.MaySend.{MaySendRow}
use Rattle.pc_world.specs.RangeOf.{pieces}
use Rattle.pc_world.specs.Send.Abort.{own_cause}
use Rattle.pc_world.specs.Send.Put.{AsksFor}
use Rattle.pc_world.specs.Send.Reading.{IsReadOf}
use Rattle.pc_world.specs.StageFate.{IsLate, IsUncommitted, SentCommit, SentStage}
use Rattle.pc_world.specs.Tell.End.{IsImplicit}
use Rattle.pc_world.specs.Views.{WasCommitted, shows_committed}

not_committed : (ts : ℕ) (reply : Reply) → is_undecided_status reply ≡ true → option_map_or (is_committed_at ts) (view_in reply) false ≡ true → ⊥
not_committed ts (replies.Status (views.Pending epoch at)) is e = cc
not_committed ts (replies.Status views.Nothing) is e = cc
not_committed ts (replies.Status (views.Staging epoch at writes)) is e = cc
not_committed ts (replies.Status (views.Committed epoch at locks)) is e = cc
not_committed ts (replies.Status (views.Aborted epoch why locks)) is e = cc
not_committed ts reply is e = absurd cc

pub uncommitted : (t : Txn) (heard : List Heard) → All (IsUndecidedOf t) heard → (ts : ℕ) → WasCommitted heard t.id ts → ⊥
uncommitted t heard undecided ts was =
    let f = any_of (IsUndecidedOf t) (λ h. IsTrue (shows_committed t.id ts h)) heard undecided was in
    let parts = and_parts (is_about t.id f.0.request) (option_map_or (is_committed_at ts) (view_in f.0.reply) false) f.2 in
    not_committed ts f.0.reply (f.1 parts.0).undecided parts.1

-- where each stage that is kept is late, a transaction is not committed by a stage
unstaged : (k : Known) (stages : List SentStage) (commit : Option SentCommit) (t : Txn) (x : OpenTxn) → TxnStands k stages commit t x → All (IsLate k.heard) stages → (ts : ℕ) → IsImplicit k t ts → ⊥
unstaged k stages commit t x st late ts i =
    let above : Any (StandsAbove k.heard t ts) t.writes =
    elim (st.staged ts i.staging) [ inl kept ↦ kept_above k.heard t stages ts st.late late kept | inr above ↦ above ] in
    let f = any_of (IsProvedBy ts) (StandsAbove k.heard t ts) t.writes i.proved above in
    f.2.above f.1

-- an open transaction that stands, and of which each stage that is kept is late, is not decided
pub undecided : (k : Known) (stages : List SentStage) (commit : Option SentCommit) (t : Txn) (x : OpenTxn) → TxnStands k stages commit t x → All (IsLate k.heard) stages → open_txn k ≡ Some t → (other : Txn) (ts : ℕ) → IsCommitKnown k other ts → ⊥
undecided k stages commit t x st late opened other ts decided =
    let same : t ≡ other = same_Some t other (sym opened ∙ decided.opened) in
    let stands : TxnStands k stages commit other x = subst (λ t. TxnStands k stages commit t x) same st in
    elim decided.why [
      | inl committed ↦ uncommitted other k.heard stands.views ts committed
      | inr implicit ↦ unstaged k stages commit other x stands late ts implicit
    ]

-- where it is committed by a stage, it was last heard to stage at its write timestamp, and nothing is in flight
implicit_kept : (k : Known) (stages : List SentStage) (commit : Option SentCommit) (t : Txn) (x : OpenTxn) → TxnStands k stages commit t x → (ts : ℕ) → IsImplicit k t ts → is_staged_and_proved x.in_flight t.write_ts x.staging ≡ true
implicit_kept k stages commit t x st ts i = and_from (length x.in_flight == 0) (is_just t.write_ts x.staging.staged) (none x.in_flight st.flight) (elim (st.staged ts i.staging) [ inl kept ↦ there kept | inr above ↦ absurd (refuted above) ])
  where
    refuted : Any (StandsAbove k.heard t ts) t.writes → ⊥
    refuted above = let f = any_of (IsProvedBy ts) (StandsAbove k.heard t ts) t.writes i.proved above in f.2.above f.1

    none : (ws : List WriteInFlight) → FlightStands ws t → (length ws == 0) ≡ true
    none [] f = refl
    none (w ∷ ws) f = absurd (allows.waits k t (w ∷ ws) ts f (λ e. absurd cc) i)

    there : Any (λ (s : SentStage). s.ts ≡ ts) stages → is_just t.write_ts x.staging.staged ≡ true
    there (n, s, inside, at, is) =
        let late : IsLate k.heard s → Any (StandsAbove k.heard t s.ts) t.writes = All-contains (λ s. IsLate k.heard s → Any (StandsAbove k.heard t s.ts) t.writes) stages s st.late (n, inside, at) in
        let here : IsStageHere k.heard x.staging.staged t s =
        All-contains (λ s. (IsLate k.heard s → ⊥) → IsStageHere k.heard x.staging.staged t s) stages s st.live (n, inside, at)
        (λ is_late. refuted (subst (λ n. Any (StandsAbove k.heard t n) t.writes) is (late is_late))) in
        ap (is_just t.write_ts) (here.heard_last (subst (λ n. WasStagedAt k.heard t n) (sym is) i.staging)) ∙ eq-eqb s.ts t.write_ts here.at_write_ts

-- so where that question is answered no, it is not decided
pub untold : (k : Known) (stages : List SentStage) (commit : Option SentCommit) (t : Txn) (x : OpenTxn) → TxnStands k stages commit t x → is_staged_and_proved x.in_flight t.write_ts x.staging ≡ false → open_txn k ≡ Some t → (other : Txn) (ts : ℕ) → IsCommitKnown k other ts → ⊥
untold k stages commit t x st none opened other ts decided =
    let same : t ≡ other = same_Some t other (sym opened ∙ decided.opened) in
    let stands : TxnStands k stages commit other x = subst (λ t. TxnStands k stages commit t x) same st in
    elim decided.why [
      | inl committed ↦ uncommitted other k.heard stands.views ts committed
      | inr implicit ↦
          let is : is_staged_and_proved x.in_flight t.write_ts x.staging ≡ true = implicit_kept k stages commit t x st ts (subst (λ t. IsImplicit k t ts) (sym same) implicit) in
          absurd cc
    ]

-- and nothing of it can have committed, where no stage is kept and no commit is out
pub is_uncommitted : (k : Known) (t : Txn) (x : OpenTxn) → TxnStands k [] None t x → IsUncommitted t.id k.sent k.heard
is_uncommitted k t x st = over_yes k [] None t x.staging st.staging (free_over k t x.staging st.staging)

module _ (splits : List (List ℕ)) (actor : ActorId) (k : Known) (stages : List SentStage) (commit : Option SentCommit) (t : Txn) (x : OpenTxn) (st : TxnStands k stages commit t x) where
  module _ (opened : open_txn k ≡ Some t) where
    read_of : (span : Span) → list_any (λ f. contains span f.key) x.in_flight ≡ false → IsReadOf t t.id t.epoch (last_seq_of t.writes) t.read_ts span
    read_of span none = record {
      whose = refl;
      epoch_now = refl;
      own_writes = refl;
      at_read_ts = refl;
      proved = flights_hold.read span x.in_flight t.writes st.flight.in_flight none;
    }

    -- it reads where none of its writes is in flight
    pub may_get : (key : List ℕ) → list_any (λ f. contains (One key) f.key) x.in_flight ≡ false → call_of k ≡ Some (calls.Get key) → MaySendRow splits actor k (own_get x key)
    may_get key none asked = subst (λ x. MaySendRow splits actor k (own_get x key)) (sym st.same) (record { t = t; opened = opened; asked = asked; read = read_of (One key) none })

    pub may_scan : (whole span : Span) → list_any (λ f. contains span f.key) x.in_flight ≡ false → call_of k ≡ Some (calls.Scan whole) → Contains (map (λ p. p.1) (pieces splits whole)) span → MaySendRow splits actor k (own_scan x span)
    may_scan whole span none asked cut =
        subst (λ x. MaySendRow splits actor k (own_scan x span)) (sym st.same) (record { t = t; whole = whole; opened = opened; asked = asked; cut = cut; read = read_of span none })

    -- and writes, where no write of the key is in flight and nothing can have committed
    pub may_next : (key : List ℕ) (value : Option (List ℕ)) → list_any (λ f. same_key f.key key) x.in_flight ≡ false → is_over x.staging ≡ true → AsksFor (call_of k) key value → MaySendRow splits actor k (next_put x key value)
    may_next key value none over asks =
        subst (λ x. MaySendRow splits actor k (next_put x key value)) (sym st.same)
        (inl (record {
          t = t;
          opened = opened;
          asked = asks;
          whose = refl;
          next = refl;
          at_write_ts = refl;
          earlier = flights_hold.first key x.in_flight t.writes st.flight.in_flight none;
          uncommitted = over_yes k stages commit t x.staging st.staging over;
        }))

    -- and aborts in a rollback
    pub may_abort : (why : Why) (anchor : List ℕ) → t.anchor ≡ Some anchor → call_of k ≡ Some calls.Rollback → why ≡ own_cause t.restart → is_over x.staging ≡ true → MaySendRow splits actor k (own_abort x why anchor)
    may_abort why anchor anchored asked cause over =
        subst (λ x. MaySendRow splits actor k (own_abort x why anchor)) (sym st.same)
        (record {
          t = t;
          opened = opened;
          asked = asked;
          whose = record { anchored = anchored; same = refl };
          uncommitted = over_yes k stages commit t x.staging st.staging over;
          cause = cause;
          all_locks = refl;
        })

    -- it commits where nothing is in flight, no earlier stage or commit stands in the way, and its reads are good
    pub may_commit : (anchor : List ℕ) → Contains k.txns t → x.in_flight ≡ [] → is_passed_by x.staging ≡ true → t.anchor ≡ Some anchor → call_of k ≡ Some calls.Commit → All (IsGoodAt t.id k.heard t.write_ts) t.reads
        → MaySendRow splits actor k (own_commit x anchor)
    may_commit anchor mine none passed anchored asked good =
        subst (λ x. MaySendRow splits actor k (own_commit x anchor)) (sym st.same)
        (record {
          t = t;
          mine = mine;
          whose = record { anchored = anchored; same = refl };
          all_locks = refl;
          decided = inl (allows.commits k stages commit t x.staging t.write_ts st.staging (subst (λ f. FlightStands f t) none st.flight) passed
              (record {
                may = inl (opened, asked);
                at_write_ts = refl;
                good = record { begun = omega (arith, st.begun, st.behind); reads = good };
              }));
        })

  -- the timestamp is the write timestamp, or the write went out at it before
  goes_at : (f : WriteInFlight) (there : Contains x.in_flight f) (ts : ℕ) → (ts ≡ t.write_ts) ⊎ WasAskedAt t f.seq ts → (ts ≡ t.write_ts) ⊎ Contains (known_one k stages commit t x st f there).w.asked ts
  goes_at f there ts (inl now) = inl now
  goes_at f there ts (inr (n, v, inside, at, before)) =
      let u = known_one k stages commit t x st f there in
      let same : v ≡ u.w = one_of_seq t.writes st.writes.by_sequence v u.w (n, inside, at) u.written (before.0 ∙ sym (seq_is k stages commit t x st f there)) in
      inr (subst (λ (w : Write). Contains w.asked ts) same before.1)

  -- a write that is in flight goes out again
  pub may_again : (f : WriteInFlight) (anchor : List ℕ) (ts : ℕ) → Contains k.txns t → Contains x.in_flight f → t.anchor ≡ Some anchor → (ts ≡ t.write_ts) ⊎ WasAskedAt t f.seq ts → MaySendRow splits actor k (put_at x anchor ts f)
  may_again f anchor ts mine there anchored when =
      let u = known_one k stages commit t x st f there in
      subst (λ x. MaySendRow splits actor k (put_at x anchor ts f)) (sym st.same)
      (inr (record {
        t = t;
        w = u.w;
        mine = mine;
        whose = record { anchored = anchored; same = refl };
        written = u.written;
        unproved = u.unproved;
        same_sequence = sym (seq_is k stages commit t x st f there);
        same_place = sym (place_is k stages commit t x st f there);
        same_value = sym (value_is k stages commit t x st f there);
        again_at = goes_at f there ts when;
      }))
