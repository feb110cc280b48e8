-- What the messages of an open call ask for, by their purpose.
use Rattle.std.proofs.Common.{◌≡◌, ℕ, Bool, true, false, inl, inr, All, Contains, List, [], ◌∷◌, map, Option, None, Some, refl, sym, ap, subst, ◌∙◌}
use Rattle.std.proofs.lemmas.List.Elements.{All-cons, All-nil, All-weaker}
use Rattle.pc_base.specs.declared.span.Span.{Span}
use Rattle.pc_call.specs.declared.purpose.Purpose.{Purpose}
use Rattle.pc_call.specs.declared.purpose.Purpose.TheVariants as purposes
use Rattle.pc_call.specs.Serving.{AreReadsOf, SendsAgain, Serves, write_call}
use Rattle.pc_call.specs.Setting.{Setting}
use Rattle.pc_call.specs.Waiting.{BeginsBehindProofs}
use Rattle.pc_coord.specs.Coming.{goes_by_sequence}
use Rattle.pc_follows.specs.AgainInOneWave.{goes_alone}
use Rattle.pc_lists.proofs.Lists.{contains_cons, contains_nil}
use Rattle.pc_base.specs.declared.transaction.TxnId.{TxnId}
use Rattle.pc_proto.specs.declared.answer.Answer.{Answer}
use Rattle.pc_proto.specs.declared.call.Call.{Call}
use Rattle.pc_proto.specs.declared.call.Call.TheVariants as calls
use Rattle.pc_proto.specs.declared.meta.TxnMeta.{TxnMeta}
use Rattle.pc_proto.specs.declared.reply.Reply.{Reply}
use Rattle.pc_proto.specs.declared.reply.Reply.TheVariants as replies
use Rattle.pc_proto.specs.declared.request.Request.{Request}
use Rattle.pc_proto.specs.declared.request.Request.TheVariants as requests
use Rattle.pc_proto.specs.Replies.{is_conflict}
use Rattle.pc_proto.specs.Requests.{is_put, round_of}
use Rattle.pc_reads.specs.ReadsStanding.{refresh_to}
use Rattle.pc_session.proofs.PipedRounds.{leaves_rounds}
use Rattle.pc_txn.specs.declared.txn.OpenTxn.{OpenTxn}
use Rattle.pc_txn.specs.Opened.{own_get, own_scan}
use Rattle.pc_wave.specs.declared.message.Message.{Message}
use Rattle.pc_world.specs.Answering.{MayAnswer}
use Rattle.pc_world.specs.Known.{Known}
use Rattle.pc_world.specs.Known.Statements.{Statement}
use Rattle.pc_world.specs.Known.Transactions.{Txn}
use Rattle.pc_world.specs.RangeOf.{pieces}
use Rattle.pc_world.specs.StageFate.{SentStage}
use Rattle.pc_world.specs.Tell.Refusal.{MayBlock}

-- Of the message, the request is so.
abbrev pub AsksSo : (Request → Bool) → Message → Type 0
AsksSo test m = test m.request ≡ true

pub all_one : (P : Message → Type 0) (ms : List Message) (m : Message) → ms ≡ m ∷ [] → P m → All P ms
all_one P ms m one is = subst (All P) (sym one) (All-cons P m [] is (All-nil P))

module _ (test : Request → Bool) where
  pub all_as : {X : Type 0} (f : X → Request) (ms : List Message) (xs : List X) → ((x : X) → test (f x) ≡ true) → map (λ m. m.request) ms ≡ map f xs → All (AsksSo test) ms
  all_as f [] xs is same = All-nil (AsksSo test)
  all_as f (m ∷ ms) [] is same = absurd cc
  all_as f (m ∷ ms) (x ∷ xs) is same =
      let here : m.request ≡ f x = cc in
      let later : map (λ (m : Message). m.request) ms ≡ map f xs = cc in
      All-cons (AsksSo test) m ms (ap test here ∙ is x) (all_as f ms xs is later)

-- The request meets no intent: it is none that reads or writes.
abbrev pub meets_none : Request → Bool
meets_none (requests.Get id epoch seq ts key) = false
meets_none (requests.Scan id epoch seq ts span) = false
meets_none (requests.Put meta seq ts key value) = false
meets_none request = true

pub never_meets : (r : Request) → meets_none r ≡ true → (reply : Reply) (holder : TxnMeta) (ts : ℕ) (key : List ℕ) → reply ≡ replies.Conflict holder ts key → MayAnswer r reply → ⊥
never_meets (requests.Get id epoch seq at own) none reply holder ts key is may = absurd cc
never_meets (requests.Scan id epoch seq at span) none reply holder ts key is may = absurd cc
never_meets (requests.Put meta seq at own value) none reply holder ts key is may = absurd cc
never_meets (requests.Refresh id from to span) none reply holder ts key is may = subst (MayAnswer (requests.Refresh id from to span)) is may
never_meets (requests.Commit meta at locks) none reply holder ts key is may = subst (MayAnswer (requests.Commit meta at locks)) is may
never_meets (requests.Abort meta why locks) none reply holder ts key is may = subst (MayAnswer (requests.Abort meta why locks)) is may
never_meets (requests.Beat meta at now) none reply holder ts key is may = subst (MayAnswer (requests.Beat meta at now)) is may
never_meets (requests.Stage meta at now writes locks) none reply holder ts key is may = subst (MayAnswer (requests.Stage meta at now writes locks)) is may
never_meets (requests.Query id epoch seq at own by) none reply holder ts key is may = subst (MayAnswer (requests.Query id epoch seq at own by)) is may
never_meets (requests.Push meta by level now goal) none reply holder ts key is may = subst (MayAnswer (requests.Push meta by level now goal)) is may
never_meets (requests.Recover id epoch at anchor finding) none reply holder ts key is may = subst (MayAnswer (requests.Recover id epoch at anchor finding)) is may
never_meets (requests.Resolve id own fate) none reply holder ts key is may = subst (MayAnswer (requests.Resolve id own fate)) is may
never_meets (requests.Remove id anchor) none reply holder ts key is may = subst (MayAnswer (requests.Remove id anchor)) is may
never_meets requests.Records none reply holder ts key is may = subst (MayAnswer requests.Records) is may

pub meets_not : (r : Request) → meets_none r ≡ true → (reply : Reply) → is_conflict reply ≡ true → MayAnswer r reply → ⊥
meets_not r none (replies.Conflict holder ts key) is may = never_meets r none (replies.Conflict holder ts key) holder ts key refl may
meets_not r none reply is may = absurd cc

-- ---- calls that go by no sequence

module _ (set : Setting) (k : Known) (s : Statement) (t : Txn) (x : OpenTxn) (stages : List SentStage) where
  read_leaves : (call : Call) (ms : List Message) → AreReadsOf set.splits x call (map (λ m. m.request) ms) → All (AsksSo leaves_rounds) ms
  read_leaves (calls.Get key) ms asked = all_as leaves_rounds (λ key. own_get x key) ms (key ∷ []) (λ key. refl) asked
  read_leaves (calls.Scan span) ms asked = all_as leaves_rounds (λ (p : ℕ × Span). own_scan x p.1) ms (pieces set.splits span) (λ p. refl) asked
  read_leaves call ms asked = absurd asked

  -- their messages leave the rounds as they are, but for conflicts
  pub leaves_all : (p : Purpose) (ms : List Message) → goes_by_sequence p ≡ false → Serves set k s t x stages p ms → All (AsksSo leaves_rounds) ms
  leaves_all (purposes.Beat call reading) ms isnt r = all_one (AsksSo leaves_rounds) ms r.m r.one (ap leaves_rounds r.said)
  leaves_all (purposes.Prove call all) ms isnt r = All-weaker (SendsAgain call all k t x) (AsksSo leaves_rounds) (λ m a. ap leaves_rounds a.said) ms r.again
  leaves_all purposes.Read ms isnt r = read_leaves s.call ms r.asked
  leaves_all purposes.Write ms isnt r = all_one (AsksSo leaves_rounds) ms r.m r.one (elim r.lays [ inl next ↦ ap leaves_rounds next.said | inr last ↦ ap leaves_rounds last.said ])
  leaves_all (purposes.Refresh n puts) ms isnt r = all_as leaves_rounds (refresh_to x.id x.reads.ts x.write_ts) ms x.reads.spans (λ span. refl) r.asked
  leaves_all (purposes.Stage n) ms isnt r = absurd cc
  leaves_all (purposes.Query n holder puts) ms isnt r = absurd cc
  leaves_all (purposes.Commit n) ms isnt r = all_one (AsksSo leaves_rounds) ms r.m r.one (ap leaves_rounds r.said)
  leaves_all (purposes.LastBeat answer reading) ms isnt r = absurd cc
  leaves_all (purposes.Abort why) ms isnt r = all_one (AsksSo leaves_rounds) ms r.m r.one (ap leaves_rounds r.said)

  -- a call that goes by sequence commits
  pub sequence_commits : (p : Purpose) (ms : List Message) → goes_by_sequence p ≡ true → Serves set k s t x stages p ms → s.call ≡ calls.Commit
  sequence_commits (purposes.Stage n) ms is r = r.commits.call
  sequence_commits (purposes.Query n holder puts) ms is r = r.commits.call
  sequence_commits (purposes.LastBeat answer reading) ms is r = r.gives_up.call
  sequence_commits p ms is r = absurd cc

  -- ---- a rollback puts nothing

  no_write : (key : List ℕ) (value : Option (List ℕ)) → calls.Rollback ≡ write_call key value → ⊥
  no_write key None e = cc
  no_write key (Some value) e = cc

  no_begin : (call : Call) → BeginsBehindProofs call → call ≡ calls.Rollback → ⊥
  no_begin (calls.Get key) begins e = cc
  no_begin (calls.Scan span) begins e = cc
  no_begin (calls.Put key value) begins e = cc
  no_begin (calls.Delete key) begins e = cc
  no_begin call begins e = begins

  no_read : (call : Call) (ms : List Message) → AreReadsOf set.splits x call (map (λ m. m.request) ms) → call ≡ calls.Rollback → ⊥
  no_read (calls.Get key) ms asked e = cc
  no_read (calls.Scan span) ms asked e = cc
  no_read call ms asked e = asked

  no_block : (call : Call) → MayBlock call → call ≡ calls.Rollback → ⊥
  no_block calls.Rollback asks e = asks
  no_block (calls.Get key) asks e = cc
  no_block (calls.Scan span) asks e = cc
  no_block (calls.Put key value) asks e = cc
  no_block (calls.Delete key) asks e = cc
  no_block calls.Commit asks e = cc
  no_block call asks e = asks

  pub rollback_puts_none : (p : Purpose) (ms : List Message) → s.call ≡ calls.Rollback → Serves set k s t x stages p ms → All (λ m. is_put m.request ≡ false) ms
  rollback_puts_none (purposes.Beat call reading) ms rolls r = absurd (no_block call r.asks (sym (ap (λ (s : Statement). s.call) r.asked) ∙ rolls))
  rollback_puts_none (purposes.Prove call all) ms rolls r = absurd (no_begin call r.begins (sym r.asked ∙ rolls))
  rollback_puts_none purposes.Read ms rolls r = absurd (no_read s.call ms r.asked rolls)
  rollback_puts_none purposes.Write ms rolls r = absurd (no_write r.key r.value (sym rolls ∙ r.call))
  rollback_puts_none (purposes.Refresh n puts) ms rolls r = absurd (let e : calls.Rollback ≡ calls.Commit = sym rolls ∙ r.commits.call in cc e)
  rollback_puts_none (purposes.Stage n) ms rolls r = absurd (let e : calls.Rollback ≡ calls.Commit = sym rolls ∙ r.commits.call in cc e)
  rollback_puts_none (purposes.Query n holder puts) ms rolls r = absurd (let e : calls.Rollback ≡ calls.Commit = sym rolls ∙ r.commits.call in cc e)
  rollback_puts_none (purposes.Commit n) ms rolls r = absurd (let e : calls.Rollback ≡ calls.Commit = sym rolls ∙ r.commits.call in cc e)
  rollback_puts_none (purposes.LastBeat answer reading) ms rolls r = absurd (let e : calls.Rollback ≡ calls.Commit = sym rolls ∙ r.gives_up.call in cc e)
  rollback_puts_none (purposes.Abort why) ms rolls r = all_one (λ m. is_put m.request ≡ false) ms r.m r.one (ap is_put r.said)

  -- ---- what meets no intent

  pub refresh_meets_none : (n : ℕ) (puts ms : List Message) → Serves set k s t x stages (purposes.Refresh n puts) ms → All (AsksSo meets_none) ms
  refresh_meets_none n puts ms r = all_as meets_none (refresh_to x.id x.reads.ts x.write_ts) ms x.reads.spans (λ span. refl) r.asked

  pub commit_meets_none : (n : ℕ) (ms : List Message) → Serves set k s t x stages (purposes.Commit n) ms → All (AsksSo meets_none) ms
  commit_meets_none n ms r = all_one (AsksSo meets_none) ms r.m r.one (ap meets_none r.said)

  -- ---- what goes alone

  pub refresh_alone : (n : ℕ) (puts ms : List Message) → Serves set k s t x stages (purposes.Refresh n puts) ms → All (AsksSo goes_alone) ms
  refresh_alone n puts ms r = all_as goes_alone (refresh_to x.id x.reads.ts x.write_ts) ms x.reads.spans (λ span. refl) r.asked

  pub beat_alone : (answer : Answer) (reading : ℕ) (ms : List Message) → Serves set k s t x stages (purposes.LastBeat answer reading) ms → All (AsksSo goes_alone) ms
  beat_alone answer reading ms r = all_one (AsksSo goes_alone) ms r.m r.one (ap goes_alone r.said)

  -- a query of an own write names a transaction
  pub query_round : (n : ℕ) (holder : TxnId) (puts ms : List Message) → Serves set k s t x stages (purposes.Query n holder puts) ms → (request : Request) → Contains (map (λ m. m.request) ms) request → round_of request ≡ None → ⊥
  query_round n holder puts ms r request there plain =
      let one : Contains (r.m.request ∷ []) request = subst (λ ms. Contains (map (λ (m : Message). m.request) ms) request) r.asks there in
      let same : r.m.request ≡ request = elim (contains_cons r.m.request [] request one) [ inl here ↦ here | inr none ↦ absurd (contains_nil request none) ] in
      let e : Some x.id ≡ None = sym (ap round_of (sym same ∙ r.said)) ∙ plain in
      cc e
