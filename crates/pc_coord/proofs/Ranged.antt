-- What a session sends is for one range, and stays so.
use Rattle.std.proofs.Common.{◌≡◌, ℕ, Bool, true, false, cond, ◌⊎◌, inl, inr, List, [], ◌∷◌, filter, find, map, Option, Some, None, refl, sym, subst, All, Any}
use Rattle.std.specs.List.{list_all}
use Rattle.std.proofs.lemmas.List.Elements.{All-append, All-cons, All-contains, All-head, All-map, All-nil, All-push, All-tail, All-weaker}
use Rattle.pc_base.specs.declared.span.Span.{Span}
use Rattle.pc_base.specs.declared.span.Span.TheVariants.{One}
use Rattle.pc_base.specs.declared.transaction.TxnId.{TxnId}
use Rattle.pc_proto.specs.Requests.{is_commit}
use Rattle.pc_base.specs.Rising.{AreRising}
use Rattle.pc_call.proofs.Lists.{all_unmapped}
use Rattle.pc_call.specs.declared.purpose.Purpose.{Purpose}
use Rattle.pc_call.specs.declared.purpose.Purpose.TheVariants as purposes
use Rattle.pc_call.specs.Learned.{known_asked, known_heard, known_sent, known_told}
use Rattle.pc_call.specs.Serving.{AreReadsOf, InCall, LaysLast, LaysNext, SendsAgain, Serves, StageStands, StageWave}
use Rattle.pc_call.specs.Setting.{Setting}
use Rattle.pc_coord.proofs.Counting.{said_own}
use Rattle.pc_coord.specs.Beside.{IsBeside, IsLaterBeside}
use Rattle.pc_coord.specs.Coordination.{Coordination}
use Rattle.pc_coord.specs.Ranged.{IsRanged, ReadsInOne}
use Rattle.pc_lists.proofs.Lists.{all_from_contains}
use Rattle.pc_proto.specs.declared.answer.Answer.{Answer}
use Rattle.pc_proto.specs.declared.answer.Answer.TheVariants as answers
use Rattle.pc_proto.specs.declared.call.Call.{Call}
use Rattle.pc_proto.specs.declared.call.Call.TheVariants as calls
use Rattle.pc_proto.specs.declared.reply.Reply.{Reply}
use Rattle.pc_proto.specs.declared.reply.Reply.TheVariants as replies
use Rattle.pc_proto.specs.declared.request.Request.{Request}
use Rattle.pc_proto.specs.declared.request.Request.TheVariants as requests
use Rattle.pc_reads.specs.ReadsStanding.{refresh_to}
use Rattle.pc_txn.specs.declared.txn.OpenTxn.{OpenTxn}
use Rattle.pc_txn.specs.Opened.{own_get, own_scan}
use Rattle.pc_wave.proofs.Changed.{found_all}
use Rattle.pc_wave.proofs.Sending.{sends_first}
use Rattle.pc_wave.specs.declared.message.Message.{Message}
use Rattle.pc_wave.specs.declared.step.Step.TheVariants as steps
use Rattle.pc_wave.specs.Messages.{first_in_conflict, has_answer, is_to_send, step_of}
use Rattle.pc_wave.specs.Standing.{goes_beside}
use Rattle.pc_world.proofs.Pieces.{pieces-lie}
use Rattle.pc_world.specs.Known.{Known, told_first, txn_begun, txns_told}
use Rattle.pc_world.specs.Known.Statements.{Statement}
use Rattle.pc_world.specs.Known.Reads.{Read, read_heard, reads_heard, reads_told}
use Rattle.pc_world.specs.Known.Traffic.{Heard, Sent, is_reply_to_one, replies_to, request_sent}
use Rattle.pc_world.specs.Known.Transactions.{Txn, txn_heard, txn_sent, txn_told}
use Rattle.pc_world.specs.RangeOf.{IsForOne, LiesInOne, pieces, range_of}

module _ (splits : List (List ℕ)) where
  -- what a reply read lies where its request does
  read_in_one : (request : Request) (reply : Reply) → IsForOne splits request → All (λ r. LiesInOne splits r.span) (read_heard request reply)
  read_in_one (requests.Get id epoch seq ts key) (replies.Value origin value) one =
      All-cons (λ (r : Read). LiesInOne splits r.span) (record { span = One key; ts = ts }) [] (range_of splits key, refl) (All-nil (λ (r : Read). LiesInOne splits r.span))
  read_in_one (requests.Scan id epoch seq ts span) (replies.Rows rows) one =
      All-cons (λ (r : Read). LiesInOne splits r.span) (record { span = span; ts = ts }) [] one (All-nil (λ (r : Read). LiesInOne splits r.span))
  read_in_one request reply one = All-nil (λ (r : Read). LiesInOne splits r.span)

  reads_in_one : (hs : List Heard) → All (λ h. IsForOne splits h.request) hs → All (λ r. LiesInOne splits r.span) (reads_heard hs)
  reads_in_one [] a = All-nil (λ (r : Read). LiesInOne splits r.span)
  reads_in_one (h ∷ hs) a =
      All-append (λ (r : Read). LiesInOne splits r.span) (read_heard h.request h.reply) (reads_heard hs) (read_in_one h.request h.reply (All-head (λ h. IsForOne splits h.request) h hs a)) (reads_in_one hs (All-tail (λ h. IsForOne splits h.request) h hs a))

  filtered : {X : Type 0} (P : X → Type 0) (test : X → Bool) (xs : List X) → All P xs → All P (filter test xs)
  filtered P test [] a = All-nil P
  filtered P test (x ∷ xs) a =
      elim (test x) as (λ b. All P (cond b (x ∷ filter test xs) (filter test xs)))
      [ true ↦ All-cons P x (filter test xs) (All-head P x xs a) (filtered P test xs (All-tail P x xs a)) | false ↦ filtered P test xs (All-tail P x xs a) ]

  told_reads : (answer : Answer) (replied : List Heard) (reads : List Read) → All (λ h. IsForOne splits h.request) replied → All (λ r. LiesInOne splits r.span) reads → All (λ r. LiesInOne splits r.span) (reads_told answer replied reads)
  told_reads (answers.Value value) replied reads a b = All-append (λ (r : Read). LiesInOne splits r.span) reads (reads_heard replied) b (reads_in_one replied a)
  told_reads (answers.Rows rows) replied reads a b = All-append (λ (r : Read). LiesInOne splits r.span) reads (reads_heard replied) b (reads_in_one replied a)
  told_reads (answers.Restart key ts) replied reads a b = All-nil (λ (r : Read). LiesInOne splits r.span)
  told_reads answer replied reads a b = b

  first_told : (answer : Answer) (replied : List Heard) (txns : List Txn) → All (λ h. IsForOne splits h.request) replied → All (ReadsInOne splits) txns → All (ReadsInOne splits) (told_first answer replied txns)
  first_told answer replied [] a b = All-nil (ReadsInOne splits)
  first_told answer replied (t ∷ txns) a b =
      All-cons (ReadsInOne splits) (txn_told answer replied t) txns (told_reads answer replied t.reads a (All-head (ReadsInOne splits) t txns b)) (All-tail (ReadsInOne splits) t txns b)

  opened_told : (answer : Answer) (is_open : Bool) (replied : List Heard) (txns : List Txn) → All (λ h. IsForOne splits h.request) replied → All (ReadsInOne splits) txns → All (ReadsInOne splits) (cond is_open (told_first answer replied txns) txns)
  opened_told answer true replied txns a b = first_told answer replied txns a b
  opened_told answer false replied txns a b = b

  begun_reads : (s : Option Statement) (id : TxnId) (ts : ℕ) → ReadsInOne splits (txn_begun s id ts)
  begun_reads None id ts = All-nil (λ (r : Read). LiesInOne splits r.span)
  begun_reads (Some s) id ts = All-nil (λ (r : Read). LiesInOne splits r.span)

  txns_ranged : (answer : Answer) (k : Known) → IsRanged splits k → All (ReadsInOne splits) (txns_told answer k)
  txns_ranged (answers.Begun id ts) k r = All-cons (ReadsInOne splits) (txn_begun k.statement id ts) k.txns (begun_reads k.statement id ts) r.reads
  txns_ranged answer k r = opened_told answer k.is_open (replies_to k.sent_now k.heard_now) k.txns (filtered (λ h. IsForOne splits h.request) (is_reply_to_one k.sent_now) k.heard_now r.heard) r.reads

  module _ (k : Known) (r : IsRanged splits k) where
    pub ranged_asked : (call : Call) (reading : ℕ) → IsRanged splits (known_asked call reading k)
    ranged_asked call reading = record { heard = All-nil (λ (h : Heard). IsForOne splits h.request); sent = r.sent; reads = r.reads }

    pub ranged_sent : (number range : ℕ) (request : Request) → IsForOne splits request → IsRanged splits (known_sent number range request k)
    ranged_sent number range request one = record {
      heard = r.heard;
      sent = All-push (λ (m : Sent). IsForOne splits m.request) k.sent (record { number = number; range = range; request = request }) r.sent one;
      reads = All-map (ReadsInOne splits) (txn_sent request) k.txns (All-weaker (ReadsInOne splits) (λ t. ReadsInOne splits (txn_sent request t)) (λ t a. a) k.txns r.reads);
    }

    pub ranged_heard : (h : Heard) → request_sent h.number k.sent ≡ Some h.request → IsRanged splits (known_heard h k)
    ranged_heard h said = record {
      heard = All-push (λ (h : Heard). IsForOne splits h.request) k.heard_now h r.heard (said_own (IsForOne splits) h.number h.request k.sent r.sent said);
      sent = r.sent;
      reads = All-map (ReadsInOne splits) (txn_heard k.sent (Some h)) k.txns (All-weaker (ReadsInOne splits) (λ t. ReadsInOne splits (txn_heard k.sent (Some h) t)) (λ t a. a) k.txns r.reads);
    }

    pub ranged_told : (answer : Answer) → IsRanged splits (known_told answer k)
    ranged_told answer = record { heard = r.heard; sent = r.sent; reads = txns_ranged answer k r }

beside_one : (splits : List (List ℕ)) (request : Request) → goes_beside request ≡ true → IsForOne splits request
beside_one splits (requests.Scan id epoch seq ts span) e = absurd cc
beside_one splits (requests.Refresh id from to span) e = absurd cc
beside_one splits request e = tt

commit_one : (splits : List (List ℕ)) (request : Request) → is_commit request ≡ true → IsForOne splits request
commit_one splits (requests.Scan id epoch seq ts span) e = absurd cc
commit_one splits (requests.Refresh id from to span) e = absurd cc
commit_one splits request e = tt

aside_one : (c : Coordination) (start : Known) (splits : List (List ℕ)) (request : Request) → IsBeside c start request → IsForOne splits request
aside_one c start splits request is = elim is.kind [ inl beside ↦ beside_one splits request beside | inr commits ↦ commit_one splits request commits.1 ]

mapped_reads : (splits : List (List ℕ)) (ts us : List Txn) → map (λ t. t.reads) us ≡ map (λ t. t.reads) ts → All (ReadsInOne splits) ts → All (ReadsInOne splits) us
mapped_reads splits ts us same a = all_unmapped (λ rs. All (λ (r : Read). LiesInOne splits r.span) rs) (λ t. t.reads) us (subst (λ rs. All (λ rs. All (λ (r : Read). LiesInOne splits r.span) rs) rs) (sym same) (All-map (λ rs. All (λ (r : Read). LiesInOne splits r.span) rs) (λ t. t.reads) ts a))

-- what is sent and heard beside a coordinator is for one range each
pub ranged-beside : {l : Bool} (c : Coordination) (splits : List (List ℕ)) (start k : Known) → IsLaterBeside l c start k → IsRanged splits start → IsRanged splits k
ranged-beside c splits start k later r = record {
  heard =
      subst (λ hs. All (λ (h : Heard). IsForOne splits h.request) hs) (sym later.heard_now)
      (All-append (λ (h : Heard). IsForOne splits h.request) start.heard_now later.heard_more r.heard (All-weaker (λ h. IsBeside c start h.request) (λ h. IsForOne splits h.request) (λ h is. aside_one c start splits h.request is) later.heard_more later.heard_beside));
  sent =
      subst (λ ms. All (λ (m : Sent). IsForOne splits m.request) ms) (sym later.sent)
      (All-append (λ (m : Sent). IsForOne splits m.request) start.sent later.sent_more r.sent (All-weaker (λ m. IsBeside c start m.request) (λ m. IsForOne splits m.request) (λ m is. aside_one c start splits m.request is) later.sent_more later.sent_beside));
  reads = mapped_reads splits start.txns k.txns later.txns.reads r.reads;
}

module _ (set : Setting) (k : Known) (x : OpenTxn) (p : Purpose) (ms : List Message) (rising : AreRising set.splits) (ranged : IsRanged set.splits k) (w : InCall set k x p ms) where
  abbrev LiesForOne : Message → Type 0
  LiesForOne m = IsForOne set.splits m.request

  one_of : (m : Message) → ms ≡ m ∷ [] → IsForOne set.splits m.request → All LiesForOne ms
  one_of m one is = subst (λ ms. All LiesForOne ms) (sym one) (All-cons LiesForOne m [] is (All-nil LiesForOne))

  pieces_lie : (span : Span) → All (λ p. IsForOne set.splits (own_scan x p.1)) (pieces set.splits span)
  pieces_lie span =
      all_from_contains (λ (p : ℕ × Span). IsForOne set.splits (own_scan x p.1)) (pieces set.splits span) (λ p there. (p.0, pieces-lie set.splits span p rising there))

  reads_one : (call : Call) (rs : List Request) → AreReadsOf set.splits x call rs → All (IsForOne set.splits) rs
  reads_one (calls.Get key) rs e = subst (λ rs. All (IsForOne set.splits) rs) (sym e) (All-cons (IsForOne set.splits) (own_get x key) [] tt (All-nil (IsForOne set.splits)))
  reads_one (calls.Scan span) rs e = subst (λ rs. All (IsForOne set.splits) rs) (sym e) (All-map (IsForOne set.splits) (λ p. own_scan x p.1) (pieces set.splits span) (pieces_lie span))
  reads_one call rs e = absurd e

  writes_one : (key : List ℕ) (value : Option (List ℕ)) (m : Message) → LaysNext k w.s w.t x key value m ⊎ LaysLast k w.t x key value m → LiesForOne m
  writes_one key value m (inl l) = subst (IsForOne set.splits) (sym l.said) tt
  writes_one key value m (inr l) = subst (IsForOne set.splits) (sym l.said) tt

  own_reads : ReadsInOne set.splits w.t
  own_reads = All-head (ReadsInOne set.splits) w.t w.open_in.others (subst (λ ts. All (ReadsInOne set.splits) ts) w.open_in.first ranged.reads)

  of_read : (span : Span) → Any (λ r. r.span ≡ span) w.t.reads → LiesInOne set.splits span
  of_read span read = any_in w.t.reads own_reads read
    where
      any_in : (rs : List Read) → All (λ r. LiesInOne set.splits r.span) rs → Any (λ r. r.span ≡ span) rs → LiesInOne set.splits span
      any_in rs a (i, r, inside, at, same) = subst (LiesInOne set.splits) same (All-contains (λ (r : Read). LiesInOne set.splits r.span) rs r a (i, inside, at))

  spans_one : All (LiesInOne set.splits) x.reads.spans
  spans_one = All-weaker (λ span. Any (λ r. r.span ≡ span) w.t.reads) (LiesInOne set.splits) of_read x.reads.spans w.stands.reads.of_reads

  stages_one : (anchor : List ℕ) (stage : List Message) → StageStands k w.s w.t x w.stages anchor stage → All LiesForOne stage
  stages_one anchor [] s = All-nil LiesForOne
  stages_one anchor (m ∷ []) (inl s) = All-cons LiesForOne m [] (subst (IsForOne set.splits) (sym s.said) tt) (All-nil LiesForOne)
  stages_one anchor (m ∷ []) (inr s) = All-cons LiesForOne m [] (subst (IsForOne set.splits) (sym s.said) tt) (All-nil LiesForOne)
  stages_one anchor (m ∷ other ∷ more) s = absurd s

  wave_one : (anchor : List ℕ) → StageWave set.course.loses k w.s w.t x w.stages anchor ms → All LiesForOne ms
  wave_one anchor v =
      subst (λ ms. All LiesForOne ms) (sym v.whole)
      (All-append LiesForOne v.puts v.stage (All-weaker (SendsAgain calls.Commit true k w.t x) LiesForOne (λ m a. subst (IsForOne set.splits) (sym a.said) tt) v.puts v.again) (stages_one anchor v.stage v.stands))

  all_one : (p : Purpose) → Serves set k w.s w.t x w.stages p ms → All LiesForOne ms
  all_one (purposes.Beat call reading) s = one_of s.m s.one (subst (IsForOne set.splits) (sym s.said) tt)
  all_one (purposes.Prove call all) s = All-weaker (SendsAgain call all k w.t x) LiesForOne (λ m a. subst (IsForOne set.splits) (sym a.said) tt) ms s.again
  all_one purposes.Read s = all_unmapped (IsForOne set.splits) (λ m. m.request) ms (reads_one w.s.call _ s.asked)
  all_one purposes.Write s = one_of s.m s.one (writes_one s.key s.value s.m s.lays)
  all_one (purposes.Refresh n puts) s =
      all_unmapped (IsForOne set.splits) (λ m. m.request) ms
      (subst (λ rs. All (IsForOne set.splits) rs) (sym s.asked) (All-map (IsForOne set.splits) (refresh_to x.id x.reads.ts x.write_ts) x.reads.spans spans_one))
  all_one (purposes.Stage n) s = wave_one s.commits.anchor s.wave
  all_one (purposes.Query n holder puts) s = one_of s.m s.asks (subst (IsForOne set.splits) (sym s.said) tt)
  all_one (purposes.Commit n) s = one_of s.m s.one (subst (IsForOne set.splits) (sym s.said) tt)
  all_one (purposes.LastBeat answer reading) s = one_of s.m s.one (subst (IsForOne set.splits) (sym s.said) tt)
  all_one (purposes.Abort why) s = one_of s.m s.one (subst (IsForOne set.splits) (sym s.said) tt)

  -- what is sent is for one range
  pub sends_one : (request : Request) → step_of ms ≡ steps.Send request → IsForOne set.splits request
  sends_one request due =
      let f = sends_first (first_in_conflict ms) (find is_to_send ms) (list_all has_answer ms) request due in
      subst (IsForOne set.splits) f.2 (found_all is_to_send LiesForOne ms f.0 f.1 (all_one p w.serves))
