-- A message of an open call that met an intent has its round, or its holder blocks the call.
use Rattle.std.proofs.Common.{◌≡◌, ℕ, ◌≤◌, ◌==◌, ◌&&◌, Bool, true, false, ◌⊎◌, inl, inr, List, [], ◌∷◌, length, map, find, Option, Some, None, IfSome, refl, sym, ap, ◌∙◌, subst, arith, All, Contains, nat_le, cond}
use Rattle.std.specs.List.{list_all}
use Rattle.std.specs.Prelude.{⊤}
use Rattle.std.proofs.lemmas.Bool.{ne_eqb, leb-true}
use Rattle.std.proofs.lemmas.List.Elements.{All-append, All-cons, All-contains, All-head, All-map, All-nil, All-weaker, Contains-append_right}
use Rattle.std.proofs.lemmas.Option.{same_Some}
use Rattle.pc_world.specs.Counting.{AtLeast}
use Rattle.pc_base.specs.declared.limits.TheConstants.{MOST_CONFLICTS}
use Rattle.pc_call.specs.Beaten.{HasBeatenIn}
use Rattle.pc_call.specs.Setting.{Setting}
use Rattle.pc_base.specs.declared.span.Span.{Span}
use Rattle.pc_base.specs.declared.transaction.TxnId.{TxnId}
use Rattle.pc_call.proofs.Beating.{not_nil}
use Rattle.pc_call.proofs.Facts.{open_is}
use Rattle.pc_call.proofs.Holders.{holder_counted}
use Rattle.pc_call.proofs.Lists.{all_unmapped}
use Rattle.pc_call.specs.declared.purpose.Purpose.{Purpose}
use Rattle.pc_call.specs.declared.purpose.Purpose.TheVariants as purposes
use Rattle.pc_call.specs.Opening.{reader_of}
use Rattle.pc_call.specs.Sending.{IsConflictNow, read_at}
use Rattle.pc_call.specs.Serving.{AreReadsOf, HasBeatenBy, InCall, KeepsStages, LaysLast, LaysNext, SendsAgain, Serves, StageStands, holder_met, out_of, write_call}
use Rattle.pc_call.specs.Waiting.{BeginsBehindProofs}
use Rattle.pc_follows.specs.EarlyTell.{IsCommitKnown}
use Rattle.pc_lists.proofs.Lists.{contains_nil}
use Rattle.pc_proto.specs.declared.call.Call.{Call}
use Rattle.pc_proto.specs.declared.call.Call.TheVariants as calls
use Rattle.pc_proto.specs.declared.meta.TxnMeta.{TxnMeta}
use Rattle.pc_proto.specs.declared.reply.Reply.{Reply}
use Rattle.pc_proto.specs.declared.reply.Reply.TheVariants as replies
use Rattle.pc_proto.specs.declared.request.Request.{Request}
use Rattle.pc_proto.specs.declared.request.Request.TheVariants as requests
use Rattle.pc_proto.specs.Replies.{holder_in}
use Rattle.pc_proto.specs.Stamps.{request_stamps}
use Rattle.pc_reads.specs.ReadsStanding.{refresh_to}
use Rattle.pc_staging.specs.Kept.{is_just}
use Rattle.pc_txn.proofs.Rows.{undecided, untold}
use Rattle.pc_txn.specs.Counted.{IsCounted}
use Rattle.pc_flight.specs.declared.write.WriteInFlight.{WriteInFlight}
use Rattle.pc_txn.specs.declared.txn.OpenTxn.{OpenTxn}
use Rattle.pc_txn.specs.Opened.{next_put, own_abort, own_commit, own_get, own_put, own_scan, put_at}
use Rattle.pc_txn.specs.Queries.{own_query}
use Rattle.pc_txn.specs.Silence.{own_beat}
use Rattle.pc_txn.specs.Staged.{stage_now}
use Rattle.pc_wave.proofs.Changed.{found_all, found_passes}
use Rattle.pc_wave.proofs.Dues.{may_be_due}
use Rattle.pc_wave.proofs.Rounds.{due_round, first_found}
use Rattle.pc_wave.specs.Course.{Course}
use Rattle.pc_wave.specs.declared.message.Message.{Message}
use Rattle.pc_wave.specs.declared.message.Progress.{Progress}
use Rattle.pc_wave.specs.declared.message.Progress.TheVariants as progresses
use Rattle.pc_wave.specs.declared.step.Step.TheVariants as steps
use Rattle.pc_wave.specs.Due.{IsRoundDue, MayBeDue}
use Rattle.pc_wave.specs.Messages.{conflict_by, first_in_conflict, has_answer, is_in_conflict, is_to_send, progress_has_answer, progress_in_conflict, step_by, step_of, step_in}
use Rattle.pc_wave.specs.Standing.{IsAsFar, MessageStands, MetConflict}
use Rattle.pc_world.specs.Answering.{MayAnswer}
use Rattle.pc_world.specs.Known.{Known}
use Rattle.pc_world.specs.Known.Statements.{Statement}
use Rattle.pc_world.specs.Known.Traffic.{Heard}
use Rattle.pc_world.specs.Known.Transactions.{Txn}
use Rattle.pc_world.specs.MayTell.{is_past_range}
use Rattle.pc_world.specs.RangeOf.{pieces}
use Rattle.pc_world.specs.StageFate.{IsLate, SentStage, stage_request}
use Rattle.pc_world.specs.Tell.Refusal.{MayBlock, MetEight, IsConflictOf}

-- The call may be told that it is blocked: it reads or writes.
pub record IsBlockable (s : Statement) : Type 0 where
  pub may : MayBlock s.call
  pub other : s.call ≡ calls.Commit → ⊥
  pub within : is_past_range s ≡ false

-- Where the request may meet an intent, it is another's, and it reads where its reader does.
pub record IsOurs (t : Txn) (reader : Option ℕ) (r : Request) : Type 0 where
  pub other : (holder : TxnMeta) (ts : ℕ) (key : List ℕ) → MayAnswer r (replies.Conflict holder ts key) → holder.id ≡ t.id → ⊥
  pub reads : reader ≡ read_at r

-- a request that meets no intent and reads nothing is so
still_ours : (t : Txn) (r : Request) → None ≡ read_at r → ((holder : TxnMeta) (ts : ℕ) (key : List ℕ) → MayAnswer r (replies.Conflict holder ts key) → ⊥) → IsOurs t None r
still_ours t r reads none = record { other = λ holder ts at may e. none holder ts at may; reads = reads }

module _ (set : Setting) (k : Known) (t : Txn) (x : OpenTxn) (s : Statement) (stages : List SentStage) (same : x.id ≡ t.id) where
  every : {X : Type 0} (P : X → Type 0) → ((x : X) → P x) → (xs : List X) → All P xs
  every P all [] = All-nil P
  every P all (x ∷ xs) = All-cons P x xs (all x) (every P all xs)

  read_ours : (r : Request) → Some x.reads.ts ≡ read_at r → ((holder : TxnMeta) (ts : ℕ) (key : List ℕ) → MayAnswer r (replies.Conflict holder ts key) → holder.id ≡ x.id → ⊥) → IsOurs t (Some x.reads.ts) r
  read_ours r reads none = record { other = λ holder ts at may e. none holder ts at may (e ∙ sym same); reads = reads }

  reads_ours : (call : Call) (rs : List Request) → AreReadsOf set.splits x call rs → All (IsOurs t (Some x.reads.ts)) rs
  reads_ours (calls.Get key) rs e =
      subst (λ rs. All (IsOurs t (Some x.reads.ts)) rs) (sym e) (All-cons (IsOurs t (Some x.reads.ts)) (own_get x key) [] (read_ours (own_get x key) refl (λ holder ts at may own. may own)) (All-nil (IsOurs t (Some x.reads.ts))))
  reads_ours (calls.Scan span) rs e =
      subst (λ rs. All (IsOurs t (Some x.reads.ts)) rs) (sym e)
      (All-map (IsOurs t (Some x.reads.ts)) (λ p. own_scan x p.1) (pieces set.splits span) (every (λ p. IsOurs t (Some x.reads.ts) (own_scan x p.1)) (λ p. read_ours (own_scan x p.1) refl (λ holder ts at may own. may own)) (pieces set.splits span)))
  reads_ours call rs e = absurd e

  put_ours : (anchor : List ℕ) (ts : ℕ) (w : WriteInFlight) → IsOurs t None (put_at x anchor ts w)
  put_ours anchor ts w = record { other = λ holder at key may e. may (e ∙ sym same); reads = refl }

  next_ours : (key : List ℕ) (value : Option (List ℕ)) → IsOurs t None (next_put x key value)
  next_ours key value = record { other = λ holder at place may e. may (e ∙ sym same); reads = refl }

  again_ours : (call : Call) (all : Bool) (ms : List Message) → All (SendsAgain call all k t x) ms → All (λ m. IsOurs t None m.request) ms
  again_ours call all ms again = All-weaker (SendsAgain call all k t x) (λ m. IsOurs t None m.request) (λ m a. subst (IsOurs t None) (sym a.said) (put_ours a.anchor a.ts a.w)) ms again

  stage_ours : (anchor : List ℕ) (ms : List Message) → StageStands k s t x stages anchor ms → All (λ m. IsOurs t None m.request) ms
  stage_ours anchor [] stands = All-nil (λ m. IsOurs t None m.request)
  stage_ours anchor (m ∷ []) (inl next) =
      All-cons (λ m. IsOurs t None m.request) m [] (subst (IsOurs t None) (sym next.said) (still_ours t (stage_now x anchor s.reading) refl (λ holder ts at may. may))) (All-nil (λ m. IsOurs t None m.request))
  stage_ours anchor (m ∷ []) (inr out) =
      All-cons (λ m. IsOurs t None m.request) m [] (subst (IsOurs t None) (sym out.said) (still_ours t (stage_request out.one) refl (λ holder ts at may. may))) (All-nil (λ m. IsOurs t None m.request))
  stage_ours anchor (m ∷ other ∷ more) stands = absurd stands

  one_ours : (r : Option ℕ) (ms : List Message) (m : Message) (q : Request) → ms ≡ m ∷ [] → m.request ≡ q → IsOurs t r q → All (λ m. IsOurs t r m.request) ms
  one_ours r ms m q one said ours =
      let P : Message → Type 0 = λ m. IsOurs t r m.request in
      subst (λ ms. All P ms) (sym one) (All-cons P m [] (subst (IsOurs t r) (sym said) ours) (All-nil P))

  write_ours : (key : List ℕ) (value : Option (List ℕ)) (ms : List Message) (m : Message) → ms ≡ m ∷ [] → LaysNext k s t x key value m ⊎ LaysLast k t x key value m → All (λ m. IsOurs t None m.request) ms
  write_ours key value ms m one (inl l) = one_ours None ms m (next_put x key value) one l.said (next_ours key value)
  write_ours key value ms m one (inr l) = one_ours None ms m (own_put x l.anchor l.w) one l.said (put_ours l.anchor x.write_ts l.w)

  ours : (p : Purpose) (ms : List Message) → (k.heard_now ≡ [] → ⊥) → Serves set k s t x stages p ms → All (λ m. IsOurs t (reader_of p x) m.request) ms
  ours (purposes.Beat call reading) ms some r = absurd (some r.unheard)
  ours (purposes.Prove call all) ms some r = again_ours call all ms r.again
  ours purposes.Read ms some r = all_unmapped (IsOurs t (Some x.reads.ts)) (λ m. m.request) ms (reads_ours s.call (map (λ m. m.request) ms) r.asked)
  ours purposes.Write ms some w = write_ours w.key w.value ms w.m w.one w.lays
  ours (purposes.Refresh n puts) ms some r =
      all_unmapped (IsOurs t None) (λ m. m.request) ms
      (subst (λ rs. All (IsOurs t None) rs) (sym r.asked)
      (All-map (IsOurs t None) (refresh_to x.id x.reads.ts x.write_ts) x.reads.spans
      (every (λ span. IsOurs t None (refresh_to x.id x.reads.ts x.write_ts span)) (λ span. still_ours t (refresh_to x.id x.reads.ts x.write_ts span) refl (λ holder ts at may. may)) x.reads.spans)))
  ours (purposes.Stage n) ms some r =
      subst (λ ms. All (λ (m : Message). IsOurs t None m.request) ms) (sym r.wave.whole)
      (All-append (λ m. IsOurs t None m.request) r.wave.puts r.wave.stage (again_ours calls.Commit true r.wave.puts r.wave.again) (stage_ours r.commits.anchor r.wave.stage r.wave.stands))
  ours (purposes.Query n holder puts) ms some r = one_ours None ms r.m (own_query x r.w.key r.w.seq) r.asks r.said (still_ours t (own_query x r.w.key r.w.seq) refl (λ holder ts at may. may))
  ours (purposes.Commit n) ms some c = one_ours None ms c.m (own_commit x c.commits.anchor) c.one c.said (still_ours t (own_commit x c.commits.anchor) refl (λ holder ts at may. may))
  ours (purposes.LastBeat answer reading) ms some r =
      one_ours None ms r.m (own_beat x reading r.gives_up.anchor) r.one r.said (still_ours t (own_beat x reading r.gives_up.anchor) refl (λ holder ts at may. may))
  ours (purposes.Abort why) ms some a = one_ours None ms a.m (own_abort x why a.anchor) a.one a.said (still_ours t (own_abort x why a.anchor) refl (λ holder ts at may. may))

-- a read was at a timestamp that it has
read_stamp : (top : ℕ) (r : Request) → All (λ ts. ts ≤ top) (request_stamps r) → IfSome (read_at r) (λ ts. ts ≤ top)
read_stamp top (requests.Get id epoch seq ts key) low = All-head (λ ts. ts ≤ top) ts [] low
read_stamp top (requests.Scan id epoch seq ts span) low = All-head (λ ts. ts ≤ top) ts [] low
read_stamp top r low = tt

-- a call that reads or writes is blockable
pub reads_blockable : (splits : List (List ℕ)) (x : OpenTxn) (s : Statement) (call : Call) (rs : List Request) → s.call ≡ call → AreReadsOf splits x call rs → IsBlockable s
reads_blockable splits x s (calls.Get key) rs is e = subst (λ c. IsBlockable (record { call = c; reading = s.reading })) (sym is) (record { may = tt; other = λ e. cc; within = refl })
reads_blockable splits x s (calls.Scan span) rs is e = subst (λ c. IsBlockable (record { call = c; reading = s.reading })) (sym is) (record { may = tt; other = λ e. cc; within = refl })
reads_blockable splits x s call rs is e = absurd e

pub writes_blockable : (s : Statement) (key : List ℕ) (value : Option (List ℕ)) → s.call ≡ write_call key value → IsBlockable s
writes_blockable s key None is = subst (λ c. IsBlockable (record { call = c; reading = s.reading })) (sym is) (record { may = tt; other = λ e. cc; within = refl })
writes_blockable s key (Some value) is = subst (λ c. IsBlockable (record { call = c; reading = s.reading })) (sym is) (record { may = tt; other = λ e. cc; within = refl })

pub proves_blockable : (s : Statement) (call : Call) → s.call ≡ call → BeginsBehindProofs call → IsBlockable s
proves_blockable s (calls.Get key) is begins = subst (λ c. IsBlockable (record { call = c; reading = s.reading })) (sym is) (record { may = tt; other = λ e. cc; within = refl })
proves_blockable s (calls.Scan span) is begins = subst (λ c. IsBlockable (record { call = c; reading = s.reading })) (sym is) (record { may = tt; other = λ e. cc; within = refl })
proves_blockable s (calls.Put key value) is begins = writes_blockable s key (Some value) is
proves_blockable s (calls.Delete key) is begins = writes_blockable s key None is
proves_blockable s call is begins = absurd begins

eighth_by : (b : Bool) (o : Option TxnId) (number : ℕ) (conflict : Reply) (holder : TxnId) → conflict_by (cond b o None) number conflict ≡ steps.Blocked holder → (b ≡ true) × (o ≡ Some holder)
eighth_by true (Some other) number conflict holder e = (refl, cc)
eighth_by true None number conflict holder e = absurd cc
eighth_by false o number conflict holder e = absurd cc

blocked_first : (first to_send : Option Message) (b : Bool) (holder : TxnId) → step_by first to_send b ≡ steps.Blocked holder → (m : Message) × (first ≡ Some m)
blocked_first (Some m) to_send b holder e = (m, refl)
blocked_first None (Some m) b holder e = absurd cc
blocked_first None None true holder e = absurd cc
blocked_first None None false holder e = absurd cc

-- The message met a conflict.
pub record HasMetOne (c : Course) (k : Known) (m : Message) : Type 0 where
  pub number : ℕ
  pub conflict : Reply
  pub progress : m.progress ≡ progresses.Met number conflict
  pub met : MetConflict c k number m.request conflict

met_as : (c : Course) (k : Known) (m : Message) (p : Progress) → m.progress ≡ p → progress_in_conflict p ≡ true → IsAsFar c k m.request m.conflicts p → HasMetOne c k m
met_as c k m progresses.ToSend e is far = absurd cc
met_as c k m (progresses.Sent number) e is far = absurd cc
met_as c k m (progresses.Met number conflict) e is far = record { number = number; conflict = conflict; progress = e; met = far }
met_as c k m (progresses.Answered number reply) e is far = absurd cc

conflict_unanswered : (p : Progress) → progress_in_conflict p ≡ true → progress_has_answer p ≡ false
conflict_unanswered (progresses.Met number conflict) is = refl
conflict_unanswered progresses.ToSend is = absurd cc
conflict_unanswered (progresses.Sent number) is = absurd cc
conflict_unanswered (progresses.Answered number reply) is = absurd cc

pub not_empty : (fs : List WriteInFlight) (f : WriteInFlight) → Contains fs f → (length fs == 0) ≡ false
not_empty [] f there = absurd (contains_nil f there)
not_empty (g ∷ fs) f there = ne_eqb (length (g ∷ fs)) 0 (λ e. absurd (omega (arith, e)))

module _ (session clock count : ℕ) (set : Setting) (k : Known) (x : OpenTxn) (p : Purpose) (ms : List Message) (counted : IsCounted session clock count k) (w : InCall set k x p ms) where
  same_id : x.id ≡ w.t.id
  same_id = ap (λ x. x.id) w.stands.same

  all_ours : (k.heard_now ≡ [] → ⊥) → All (λ m. IsOurs w.t (reader_of p x) m.request) ms
  all_ours some = ours set k w.t x w.s w.stages same_id p ms some w.serves

  -- where a message met an intent, something was heard
  pub met_some : (number : ℕ) (r : Request) (conflict : Reply) → MetConflict set.course k number r conflict → k.heard_now ≡ [] → ⊥
  met_some number r conflict met none = not_nil met.before met.h met.later (sym met.whole ∙ none)

  heard_low : (h : Heard) → Contains k.heard_now h → All (λ ts. ts ≤ k.top) (request_stamps h.request)
  heard_low h there =
      All-contains (λ h. All (λ ts. ts ≤ k.top) (request_stamps h.request)) k.heard h counted.heard_low (subst (λ hs. Contains hs h) (sym w.split.heard) (Contains-append_right w.split.heard_first k.heard_now h there))

  -- the purpose of a message that met an intent is no heartbeat, nor what follows one
  module _ (m : Message) (found : find is_in_conflict ms ≡ Some m) (number : ℕ) (conflict : Reply) (met : MetConflict set.course k number m.request conflict) where
    kind : MayAnswer m.request (replies.Conflict met.holder met.ts met.key)
    kind = subst (MayAnswer m.request) met.is met.kind

    some : k.heard_now ≡ [] → ⊥
    some = met_some number m.request conflict met

    in_conflict : is_in_conflict m ≡ true
    in_conflict = found_passes is_in_conflict ms m found

    alone : {A : Type 0} (y : Message) (q : Request) → ms ≡ y ∷ [] → y.request ≡ q → (MayAnswer q (replies.Conflict met.holder met.ts met.key) → ⊥) → A
    alone y q one said none =
        absurd (found_all is_in_conflict (λ (m : Message). MayAnswer m.request (replies.Conflict met.holder met.ts met.key) → ⊥) ms m found
        (subst (λ ms. All (λ (m : Message). MayAnswer m.request (replies.Conflict met.holder met.ts met.key) → ⊥) ms) (sym one)
        (All-cons (λ (m : Message). MayAnswer m.request (replies.Conflict met.holder met.ts met.key) → ⊥) y [] (λ may. none (subst (λ q. MayAnswer q (replies.Conflict met.holder met.ts met.key)) said may))
        (All-nil (λ (m : Message). MayAnswer m.request (replies.Conflict met.holder met.ts met.key) → ⊥)))) kind)

    pub has_beaten : HasBeatenIn set.course.loses k w.t
    has_beaten = by p w.serves w.beaten
      where
        by : (q : Purpose) → Serves set k w.s w.t x w.stages q ms → (set.course.loses ≡ false → HasBeatenBy q k w.t) → HasBeatenIn set.course.loses k w.t
        by (purposes.Beat call reading) r b = absurd (some r.unheard)
        by (purposes.Prove call all) r b = b
        by purposes.Read r b = b
        by purposes.Write r b = b
        by (purposes.Refresh n puts) r b = b
        by (purposes.Stage n) r b = b
        by (purposes.Query n holder puts) r b = b
        by (purposes.Commit n) r b = b
        by (purposes.LastBeat answer reading) r b = alone r.m (own_beat x reading r.gives_up.anchor) r.one r.said (λ may. may)
        by (purposes.Abort why) r b = b

    -- the transaction is not decided
    not_decided : (other : Txn) (ts : ℕ) → IsCommitKnown k other ts → ⊥
    not_decided = by p refl w.kept w.serves
      where
        late : All (IsLate k.heard) w.stages → (other : Txn) (ts : ℕ) → IsCommitKnown k other ts → ⊥
        late all = undecided k w.stages (out_of p ms) w.t x w.stands all (open_is k w.t w.open_in)

        bare : w.stages ≡ [] → (other : Txn) (ts : ℕ) → IsCommitKnown k other ts → ⊥
        bare none = late (subst (λ ss. All (IsLate k.heard) ss) (sym none) (All-nil (IsLate k.heard)))

        flies : (f : WriteInFlight) → Contains x.in_flight f → (other : Txn) (ts : ℕ) → IsCommitKnown k other ts → ⊥
        flies f there = untold k w.stages (out_of p ms) w.t x w.stands (ap (λ b. b && is_just w.t.write_ts x.staging.staged) (not_empty x.in_flight f there)) (open_is k w.t w.open_in)

        by : (q : Purpose) → p ≡ q → KeepsStages q k w.stages → Serves set k w.s w.t x w.stages q ms → (other : Txn) (ts : ℕ) → IsCommitKnown k other ts → ⊥
        by (purposes.Beat call reading) e kept r = bare kept
        by (purposes.Prove call all) e kept r = bare kept
        by purposes.Read e kept r = bare kept
        by purposes.Write e kept r = bare kept
        by (purposes.Refresh n puts) e kept r = late kept
        by (purposes.Stage n) e kept r = found_all is_in_conflict (λ m. MayAnswer m.request (replies.Conflict met.holder met.ts met.key) → is_in_conflict m ≡ true → (other : Txn) (ts : ℕ) → IsCommitKnown k other ts → ⊥) ms m found (subst (λ ms. All P ms) (sym r.wave.whole) (All-append P r.wave.puts r.wave.stage (All-weaker (SendsAgain calls.Commit true k w.t x) P puts r.wave.puts r.wave.again) (staged r.wave.stage r.wave.stands))) kind in_conflict
          where
            P : Message → Type 0
            P m = MayAnswer m.request (replies.Conflict met.holder met.ts met.key) → is_in_conflict m ≡ true → (other : Txn) (ts : ℕ) → IsCommitKnown k other ts → ⊥

            puts : (m : Message) → SendsAgain calls.Commit true k w.t x m → P m
            puts m a may is = flies a.w (a.there (conflict_unanswered m.progress is))

            staged : (ys : List Message) → StageStands k w.s w.t x w.stages r.commits.anchor ys → All P ys
            staged [] stands = All-nil P
            staged (y ∷ []) (inl next) = All-cons P y [] (λ may is. absurd (subst (λ q. MayAnswer q (replies.Conflict met.holder met.ts met.key)) next.said may)) (All-nil P)
            staged (y ∷ []) (inr out) = All-cons P y [] (λ may is. absurd (subst (λ q. MayAnswer q (replies.Conflict met.holder met.ts met.key)) out.said may)) (All-nil P)
            staged (y ∷ other ∷ more) stands = absurd stands
        by (purposes.Query n holder puts) e kept r = flies r.w r.there
        by (purposes.Commit n) e kept r = late kept
        by (purposes.LastBeat answer reading) e kept r = late kept
        by (purposes.Abort why) e kept r = bare kept

  -- a conflict whose round is due was met now
  pub round_due : (number : ℕ) (conflict : Reply) → step_of ms ≡ steps.Round number conflict → IsConflictNow set.course k number conflict (reader_of p x)
  round_due number conflict due =
      let f = due_round ms number conflict due in
      let m : Message = f.0 in
      let found : find is_in_conflict ms ≡ Some m = (first_found ms m f.1).0 in
      let stands_m : MessageStands set.course k m = found_all is_in_conflict (MessageStands set.course k) ms m found w.wave.stand in
      let met : MetConflict set.course k number m.request conflict = subst (λ p. IsAsFar set.course k m.request m.conflicts p) f.2.progress stands_m.as_far in
      let our : IsOurs w.t (reader_of p x) m.request = found_all is_in_conflict (λ m. IsOurs w.t (reader_of p x) m.request) ms m found (all_ours (met_some number m.request conflict met)) in
      let holder_is : holder_met m.progress ≡ Some met.holder.id = ap holder_met f.2.progress ∙ ap holder_in met.is in
      let one = holder_counted met.holder.id is_in_conflict ms m found holder_is in
      let is_due : IsRoundDue set.course k number conflict = subst (MayBeDue set.course k ms) due (may_be_due set.course k ms w.wave) in
      let there : Contains k.heard_now met.h = subst (λ hs. Contains hs met.h) (sym met.whole) (Contains-append_right met.before (met.h ∷ met.later) met.h (0, omega arith, refl)) in
      let reads : reader_of p x ≡ read_at met.h.request = our.reads ∙ ap read_at (sym met.reply.asked) in
      record {
        s = w.s;
        opened = w.opened;
        t = w.t;
        open_is = open_is k w.t w.open_in;
        undecided = not_decided m found number conflict met;
        beaten = has_beaten m found number conflict met;
        holder = met.holder;
        ts = met.ts;
        key = met.key;
        is = met.is;
        other = our.other met.holder met.ts met.key (subst (MayAnswer m.request) met.is met.kind);
        h = met.h;
        there = there;
        numbered = met.reply.numbered;
        told = met.reply.told;
        reads = reads;
        low = subst (λ o. IfSome o (λ ts. ts ≤ k.top)) (sym reads) (read_stamp k.top met.h.request (heard_low met.h there));
        due = is_due;
        pushes = omega (arith, one, w.paced.pushes met.holder.id);
        behind = w.paced.behind met.holder.id;
      }

  -- The first message that met an intent blocks the call by its eighth, or waits for its round.
  pub record HasBlock : Type 0 where
    pub m : Message
    pub found : find is_in_conflict ms ≡ Some m
    pub number : ℕ
    pub conflict : Reply
    pub progress : m.progress ≡ progresses.Met number conflict
    pub met : MetConflict set.course k number m.request conflict
    pub often : AtLeast (IsConflictOf m.request) m.conflicts k.heard_now

  pub blocked_due : (holder : TxnId) → step_of ms ≡ steps.Blocked holder → HasBlock × MetEight holder k.heard_now
  blocked_due holder due =
      let f = blocked_first (first_in_conflict ms) (find is_to_send ms) (list_all has_answer ms) holder due in
      let m : Message = f.0 in
      let found : find is_in_conflict ms ≡ Some m = (first_found ms m f.1).0 in
      let stands_m : MessageStands set.course k m = found_all is_in_conflict (MessageStands set.course k) ms m found w.wave.stand in
      let has : HasMetOne set.course k m = met_as set.course k m m.progress refl (found_passes is_in_conflict ms m found) stands_m.as_far in
      let eight : MetEight holder k.heard_now = subst (MayBeDue set.course k ms) due (may_be_due set.course k ms w.wave) in
      (record { m = m; found = found; number = has.number; conflict = has.conflict; progress = has.progress; met = has.met; often = stands_m.counted.heard }, eight)

  -- it is the eighth of the first message that met an intent
  pub blocked_eighth : (holder : TxnId) → step_of ms ≡ steps.Blocked holder → (b : HasBlock) → (MOST_CONFLICTS ≤ b.m.conflicts) × (holder_in b.conflict ≡ Some holder)
  blocked_eighth holder due b =
      let f = blocked_first (first_in_conflict ms) (find is_to_send ms) (list_all has_answer ms) holder due in
      let found : find is_in_conflict ms ≡ Some f.0 = (first_found ms f.0 f.1).0 in
      let same : f.0 ≡ b.m = same_Some f.0 b.m (sym found ∙ b.found) in
      let first : first_in_conflict ms ≡ Some b.m = f.1 ∙ ap (λ m. Some m) same in
      let is : step_in b.m.conflicts b.m.progress ≡ steps.Blocked holder = sym (ap (λ o. step_by o (find is_to_send ms) (list_all has_answer ms)) first) ∙ due in
      let parts = eighth_by (nat_le MOST_CONFLICTS b.m.conflicts) (holder_in b.conflict) b.number b.conflict holder (sym (ap (step_in b.m.conflicts) b.progress) ∙ is) in
      (leb-true MOST_CONFLICTS b.m.conflicts parts.0, parts.1)

  pub round_blocks : (number : ℕ) (conflict : Reply) → step_of ms ≡ steps.Round number conflict → HasBlock
  round_blocks number conflict due =
      let f = due_round ms number conflict due in
      let m : Message = f.0 in
      let found : find is_in_conflict ms ≡ Some m = (first_found ms m f.1).0 in
      let stands_m : MessageStands set.course k m = found_all is_in_conflict (MessageStands set.course k) ms m found w.wave.stand in
      record { m = m; found = found; number = number; conflict = conflict; progress = f.2.progress; often = stands_m.counted.heard; met = subst (λ p. IsAsFar set.course k m.request m.conflicts p) f.2.progress stands_m.as_far }

  -- The call is no commit, and no stage and no commit of it is kept.
  pub record IsBlockedCall : Type 0 where
    pub able : IsBlockable w.s
    pub none_out : out_of p ms ≡ None
    pub none_kept : w.stages ≡ []
    pub beaten : HasBeatenIn set.course.loses k w.t

  -- Only a stage may be blocked beside such a call.
  abbrev pub IsStage : Purpose → Type 0
  IsStage (purposes.Stage n) = ⊤
  IsStage p = ⊥

  pub blocked_call : HasBlock → IsStage p ⊎ IsBlockedCall
  blocked_call b = by p refl w.kept w.serves
    where
      beat : HasBeatenIn set.course.loses k w.t
      beat = has_beaten b.m b.found b.number b.conflict b.met

      refreshes : (rs : List Request) → rs ≡ map (refresh_to x.id x.reads.ts x.write_ts) x.reads.spans → All (λ r. MayAnswer r (replies.Conflict b.met.holder b.met.ts b.met.key) → ⊥) rs
      refreshes rs e =
          let P : Request → Type 0 = λ r. MayAnswer r (replies.Conflict b.met.holder b.met.ts b.met.key) → ⊥ in
          subst (λ rs. All P rs) (sym e) (All-map P (refresh_to x.id x.reads.ts x.write_ts) x.reads.spans (no_span x.reads.spans))
        where
          no_span : (spans : List Span) → All (λ span. MayAnswer (refresh_to x.id x.reads.ts x.write_ts span) (replies.Conflict b.met.holder b.met.ts b.met.key) → ⊥) spans
          no_span [] = All-nil (λ (span : Span). MayAnswer (refresh_to x.id x.reads.ts x.write_ts span) (replies.Conflict b.met.holder b.met.ts b.met.key) → ⊥)
          no_span (span ∷ spans) = All-cons (λ (span : Span). MayAnswer (refresh_to x.id x.reads.ts x.write_ts span) (replies.Conflict b.met.holder b.met.ts b.met.key) → ⊥) span spans (λ may. may) (no_span spans)

      by : (q : Purpose) → p ≡ q → KeepsStages q k w.stages → Serves set k w.s w.t x w.stages q ms → IsStage p ⊎ IsBlockedCall
      by (purposes.Beat call reading) e kept r = absurd (met_some b.number b.m.request b.conflict b.met r.unheard)
      by (purposes.Prove call all) e kept r = inr (record { able = proves_blockable w.s call r.asked r.begins; none_out = ap (λ q. out_of q ms) e; none_kept = kept; beaten = beat })
      by purposes.Read e kept r = inr (record { able = reads_blockable set.splits x w.s w.s.call (map (λ m. m.request) ms) refl r.asked; none_out = ap (λ q. out_of q ms) e; none_kept = kept; beaten = beat })
      by purposes.Write e kept r = inr (record { able = writes_blockable w.s r.key r.value r.call; none_out = ap (λ q. out_of q ms) e; none_kept = kept; beaten = beat })
      by (purposes.Refresh n puts) e kept r =
          absurd (found_all is_in_conflict (λ (m : Message). MayAnswer m.request (replies.Conflict b.met.holder b.met.ts b.met.key) → ⊥) ms b.m b.found (all_unmapped (λ r. MayAnswer r (replies.Conflict b.met.holder b.met.ts b.met.key) → ⊥) (λ (m : Message). m.request) ms (refreshes (map (λ m. m.request) ms) r.asked)) (kind b.m b.found b.number b.conflict b.met))
      by (purposes.Stage n) e kept r = inl (subst IsStage (sym e) tt)
      by (purposes.Query n holder puts) e kept r = alone b.m b.found b.number b.conflict b.met r.m (own_query x r.w.key r.w.seq) r.asks r.said (λ may. may)
      by (purposes.Commit n) e kept r = alone b.m b.found b.number b.conflict b.met r.m (own_commit x r.commits.anchor) r.one r.said (λ may. may)
      by (purposes.LastBeat answer reading) e kept r = alone b.m b.found b.number b.conflict b.met r.m (own_beat x reading r.gives_up.anchor) r.one r.said (λ may. may)
      by (purposes.Abort why) e kept r = alone b.m b.found b.number b.conflict b.met r.m (own_abort x why r.anchor) r.one r.said (λ may. may)
