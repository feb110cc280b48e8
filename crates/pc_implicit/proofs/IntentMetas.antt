-- What is so of the meta of each intent in a range, and of that which a put brings, stays so over evaluation, and is so of the holder that a
-- reply names.
use Rattle.std.proofs.Common.{ℕ, Bool, true, false, ◌&&◌, ◌==◌, not, nat_le, if◌then◌else◌, List, filter, Option, None, Some, IfSome}
use Rattle.std.specs.List.{AllByRecursion as Each}
use Rattle.std.specs.Option.{option_map_or}
use Rattle.std.specs.Cmp.Lexicographic.{slice_cmp}
use Rattle.std.specs.Ordering.{nat_cmp}
use Rattle.std.specs.Prelude.{⊤}
use Rattle.pc_base.specs.declared.span.Span.{Span}
use Rattle.pc_base.specs.declared.transaction.TxnId.{TxnId}
use Rattle.pc_base.specs.Span.{contains, key_below, same_key}
use Rattle.pc_base.specs.Transaction.{same_txn}
use Rattle.pc_lists.proofs.Each.{each-at, each-choose, each-filter, each-insert, each-without}
use Rattle.pc_proto.specs.declared.fate.Fate.{Fate}
use Rattle.pc_proto.specs.declared.fate.Fate.TheVariants as fates
use Rattle.pc_proto.specs.declared.meta.TxnMeta.{TxnMeta}
use Rattle.pc_proto.specs.declared.record.Intent.{Intent}
use Rattle.pc_proto.specs.declared.reply.Origin.{Origin}
use Rattle.pc_proto.specs.declared.reply.Reply.{Reply}
use Rattle.pc_proto.specs.declared.reply.Reply.TheVariants as replies
use Rattle.pc_proto.specs.declared.request.Request.{Request}
use Rattle.pc_proto.specs.declared.request.Request.TheVariants as requests
use Rattle.pc_proto.specs.Intents.{first_other, fresh, grown, intent_at, kept_if, lesser_key, other_at, own_at}
use Rattle.pc_proto.specs.Place.{Place}
use Rattle.pc_proto.specs.RecordRows.{push_reply}
use Rattle.pc_proto.specs.RecordRows.Push.{Verdict, There, Refuse, Doubt, Do}
use Rattle.pc_world.proofs.Stamps.Searches.{some-kept}
use Rattle.pc_world.specs.Evaluation.{intents_after, reply}
use Rattle.pc_world.specs.Evaluation.Get.{found_at, get_blocker, get_reply}
use Rattle.pc_world.specs.Evaluation.IntentChange.{IntentChange, Leave, Lay, Drop, intents_with}
use Rattle.pc_world.specs.Evaluation.Put.{PutOutcome, Stands, Lands, first_outcome, laid, outcome_of_put, overtaken, own_outcome, put_change, put_reply, write_ts}
use Rattle.pc_world.specs.Evaluation.Refresh.{refresh_reply}
use Rattle.pc_world.specs.Evaluation.Resolve.{change_for}
use Rattle.pc_world.specs.Evaluation.Scan.{rows_in, scan_reply}
use Rattle.pc_world.specs.RangeState.{RangeState}

-- The meta that a request brings with it.
abbrev pub meta_named : Request → Option TxnMeta
meta_named (requests.Put meta seq ts key value) = Some meta
meta_named (requests.Beat meta ts now) = Some meta
meta_named (requests.Stage meta ts now writes locks) = Some meta
meta_named (requests.Commit meta ts locks) = Some meta
meta_named (requests.Abort meta why locks) = Some meta
meta_named (requests.Push holder by level now goal) = Some holder
meta_named _ = None

-- The metas in a reply are so: that of a holder, and each that is listed.
abbrev pub AreInReply : (TxnMeta → Type 0) → Reply → Type 0
AreInReply P (replies.Conflict holder ts key) = P holder
AreInReply P (replies.Listed metas) = Each P metas
AreInReply P reply = ⊤

module _ (P : TxnMeta → Type 0) where
  Own : Intent → Type 0
  Own i = P i.meta

  -- What a change lays is so.
  Lays : IntentChange → Type 0
  Lays (Lay i) = Own i
  Lays Leave = ⊤
  Lays Drop = ⊤

  found : (test : Intent → Bool) (key : List ℕ) (intents : List (List ℕ × Intent)) → Each (λ e. P e.1.meta) intents → IfSome (kept_if test (intent_at key intents)) Own
  unfolding Own
  found test key intents a = some-kept Own test (intent_at key intents) (each-at Own same_key key intents a)

  with-change : (key : List ℕ) (c : IntentChange) (intents : List (List ℕ × Intent)) → Lays c → Each (λ e. P e.1.meta) intents → Each (λ e. P e.1.meta) (intents_with key c intents)
  unfolding Lays Own
  with-change key Leave intents h a = a
  with-change key (Lay i) intents h a = each-insert Own (slice_cmp nat_cmp) key i intents h a
  with-change key Drop intents h a = each-without Own same_key key intents a

  laid-has : (meta : TxnMeta) (seq ts : ℕ) (value : Option (List ℕ)) (own : Option Intent) → P meta → IfSome own Own → Own (laid meta seq ts value own)
  unfolding Own
  laid-has meta seq ts value None h a = h
  laid-has meta seq ts value (Some i) h a = by (i.meta.epoch == meta.epoch)
    where
      by : (b : Bool) → Own (if b then grown seq ts value i else fresh meta seq ts value)
      by true = a
      by false = h

  own-lays : (meta : TxnMeta) (seq ts : ℕ) (key : List ℕ) (value : Option (List ℕ)) (own : Option Intent) (s : RangeState) → P meta → IfSome own Own → Lays (put_change (own_outcome meta seq ts key value own s))
  unfolding Lays
  own-lays meta seq ts key value own s h a = by (overtaken meta seq own) (laid meta seq (write_ts meta ts key own s) value own) (laid-has meta seq (write_ts meta ts key own s) value own h a)
    where
      by : (b : Bool) (i : Intent) → Own i → Lays (put_change (if b then Stands (option_map_or (λ j. j.ts) own 0) else Lands i))
      by true i is = tt
      by false i is = is

  put-lays : (other : Option Intent) (outcome : PutOutcome) → Lays (put_change outcome) → Lays (put_change (first_outcome other outcome))
  unfolding Lays
  put-lays None outcome h = h
  put-lays (Some i) outcome h = tt

  settled-lays : (fate : Fate) (own : Option Intent) → IfSome own Own → Lays (change_for fate own)
  unfolding Lays Own
  settled-lays fate None a = tt
  settled-lays (fates.Committed epoch ts) (Some i) a = tt
  settled-lays fates.Aborted (Some i) a = tt
  settled-lays (fates.Pending ts) (Some i) a = a

  pub intents-have : (request : Request) (s : RangeState) → IfSome (meta_named request) P → Each (λ e. P e.1.meta) s.intents → Each (λ e. P e.1.meta) (intents_after request s)
  intents-have (requests.Put meta seq ts key value) s h a =
      with-change key (put_change (outcome_of_put meta seq ts key value s)) s.intents
      (put-lays (other_at meta.id key s.intents) (own_outcome meta seq ts key value (own_at meta.id key s.intents) s)
      (own-lays meta seq ts key value (own_at meta.id key s.intents) s h (found (λ i. same_txn i.meta.id meta.id) key s.intents a))) a
  intents-have (requests.Resolve id key fate) s h a =
      with-change key (change_for fate (own_at id key s.intents)) s.intents
      (settled-lays fate (own_at id key s.intents) (found (λ i. same_txn i.meta.id id) key s.intents a)) a
  intents-have request s h a = a

  get-has : (blocker : Option Intent) (key : List ℕ) (what : Origin × Option (List ℕ)) → IfSome blocker Own → AreInReply P (get_reply blocker key what)
  unfolding Own
  get-has None key what a = tt
  get-has (Some i) key what a = a

  OwnEntry : List ℕ × Intent → Type 0
  OwnEntry e = P e.1.meta

  lesser-has : (best : Option (List ℕ × Intent)) (e : List ℕ × Intent) → IfSome best OwnEntry → OwnEntry e → IfSome (lesser_key best e) OwnEntry
  lesser-has None e h a = a
  lesser-has (Some best) e h a = by (key_below e.0 best.0)
    where
      by : (b : Bool) → IfSome (if b then Some e else Some best) OwnEntry
      by true = a
      by false = h

  scan-has : (blocker : Option (List ℕ × Intent)) (rows : List (List ℕ × Origin × List ℕ)) → IfSome blocker OwnEntry → AreInReply P (scan_reply blocker rows)
  unfolding OwnEntry
  scan-has None rows a = tt
  scan-has (Some e) rows a = a

  put-has : (key : List ℕ) (other : Option Intent) (meta : TxnMeta) (seq ts : ℕ) (value : Option (List ℕ)) (own : Option Intent) (s : RangeState) → IfSome other Own → AreInReply P (put_reply key (first_outcome other (own_outcome meta seq ts key value own s)))
  unfolding Own
  put-has key (Some i) meta seq ts value own s a = a
  put-has key None meta seq ts value own s a = by (overtaken meta seq own)
    where
      by : (b : Bool) → AreInReply P (put_reply key (if b then Stands (option_map_or (λ j. j.ts) own 0) else Lands (laid meta seq (write_ts meta ts key own s) value own)))
      by true = tt
      by false = tt

  -- a reply that names no transaction
  pub refresh-has : (w : Option (List ℕ × ℕ)) → AreInReply P (refresh_reply w)
  refresh-has None = tt
  refresh-has (Some w) = tt

  pub reply-either : (b : Bool) (r q : Reply) → AreInReply P r → AreInReply P q → AreInReply P (if b then r else q)
  reply-either true r q x y = x
  reply-either false r q x y = y

  pub push-has : (v : Verdict) (before later : Place) → AreInReply P (push_reply v before later)
  push-has There before later = tt
  push-has Refuse before later = tt
  push-has Doubt before later = tt
  push-has Do before later = tt

  -- in the reply to a get
  pub get-names : (id : TxnId) (epoch seq ts : ℕ) (key : List ℕ) (s : RangeState) → Each (λ e. P e.1.meta) s.intents → AreInReply P (reply (requests.Get id epoch seq ts key) s)
  unfolding Own
  get-names id epoch seq ts key s a =
      get-has (get_blocker id ts key s) key (found_at id epoch seq ts key s)
      (some-kept Own (λ i. nat_le i.ts ts) (other_at id key s.intents) (found (λ i. not (same_txn i.meta.id id)) key s.intents a))

  -- to a scan
  pub scan-names : (id : TxnId) (epoch seq ts : ℕ) (span : Span) (s : RangeState) → Each (λ e. P e.1.meta) s.intents → AreInReply P (reply (requests.Scan id epoch seq ts span) s)
  unfolding OwnEntry
  scan-names id epoch seq ts span s a =
      scan-has (first_other span ts id s.intents) (rows_in id epoch seq ts span s)
      (each-choose OwnEntry lesser_key lesser-has None (filter (λ e. contains span e.0 && (nat_le e.1.ts ts && not (same_txn e.1.meta.id id))) s.intents) tt
      (each-filter OwnEntry (λ e. contains span e.0 && (nat_le e.1.ts ts && not (same_txn e.1.meta.id id))) s.intents a))

  -- and to a put
  pub put-names : (meta : TxnMeta) (seq ts : ℕ) (key : List ℕ) (value : Option (List ℕ)) (s : RangeState) → Each (λ e. P e.1.meta) s.intents → AreInReply P (reply (requests.Put meta seq ts key value) s)
  unfolding Own
  put-names meta seq ts key value s a =
      put-has key (other_at meta.id key s.intents) meta seq ts value (own_at meta.id key s.intents) s (found (λ i. not (same_txn i.meta.id meta.id)) key s.intents a)
