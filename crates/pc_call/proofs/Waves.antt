-- The refreshes of a commit make one wave.
use Rattle.std.proofs.Common.{◌≡◌, ℕ, Bool, true, false, ◌⊎◌, inl, inr, List, [], ◌∷◌, ◌++◌, map, Some, refl, sym, ap, ◌∙◌, subst, All, Any, Contains}
use Rattle.std.proofs.lemmas.List.Elements.{All-append, All-cons, All-head, All-map, All-nil, All-tail, All-weaker}
use Rattle.std.proofs.lemmas.Option.{same_Some}
use Rattle.pc_call.specs.Setting.{Setting}
use Rattle.pc_base.specs.declared.span.Span.{Span}
use Rattle.pc_call.proofs.Facts.{open_is}
use Rattle.pc_call.proofs.Hearing.{of_request}
use Rattle.pc_call.proofs.Unsent.{plain_sent}
use Rattle.pc_call.specs.declared.later.LaterPut.{LaterPut}
use Rattle.pc_call.specs.Stages.{KeepsOutbox}
use Rattle.pc_call.specs.declared.purpose.Purpose.{Purpose}
use Rattle.pc_call.specs.declared.purpose.Purpose.TheVariants as purposes
use Rattle.pc_call.specs.Serving.{AreReadsOf, InCall, LaysLast, LaysNext, SendsAgain, Serves, ServesWrite, StageStands}
use Rattle.pc_lists.proofs.Anywhere.{any_weaker}
use Rattle.pc_lists.proofs.Lists.{contains_cons, contains_nil}
use Rattle.pc_proto.specs.declared.call.Call.{Call}
use Rattle.pc_proto.specs.declared.call.Call.TheVariants as calls
use Rattle.pc_proto.specs.declared.reply.Reply.{Reply}
use Rattle.pc_proto.specs.declared.request.Request.{Request}
use Rattle.pc_reads.specs.ReadsStanding.{refresh_to}
use Rattle.pc_txn.specs.Counted.{IsCounted}
use Rattle.pc_txn.specs.declared.txn.OpenTxn.{OpenTxn}
use Rattle.pc_txn.specs.Opened.{own_get, own_scan}
use Rattle.pc_wave.specs.declared.message.Message.{Message}
use Rattle.pc_wave.specs.declared.message.Progress.{Progress}
use Rattle.pc_wave.specs.declared.message.Progress.TheVariants as progresses
use Rattle.pc_wave.specs.Messages.{is_to_send, progress_to_send, wave_awaits}
use Rattle.pc_wave.specs.Standing.{IsAsFar, IsHeardTo, IsMessageAt, MessageStands}
use Rattle.pc_wave.specs.Course.{Course}
use Rattle.pc_follows.specs.Refreshes.{AreAllAsked, IsOfWholeRefresh, RefreshesInOneWave}
use Rattle.pc_world.specs.Known.{Known}
use Rattle.pc_world.specs.Known.Traffic.{Heard}
use Rattle.pc_world.specs.Known.Transactions.{Txn}
use Rattle.pc_world.specs.RangeOf.{pieces}
use Rattle.pc_proto.specs.Requests.{is_put}

every : {X : Type 0} (P : X → Type 0) → ((x : X) → P x) → (xs : List X) → All P xs
every P all [] = All-nil P
every P all (x ∷ xs) = All-cons P x xs (all x) (every P all xs)

-- a message that is not to be sent went out in the call
went_out : (c : Course) (k : Known) (request : Request) (conflicts : ℕ) (pr : Progress) → is_put request ≡ false → progress_to_send pr ≡ false
    → IsAsFar c k request conflicts pr → Any (λ m. m.request ≡ request) k.sent_now
went_out c k request conflicts progresses.ToSend none out far = absurd cc
went_out c k request conflicts (progresses.Sent number) none out far = any_weaker (IsMessageAt number request) (λ m. m.request ≡ request) (λ m at. at.asked) k.sent_now (subst (λ ms. Any (IsMessageAt number request) ms) (plain_sent c.pipelines k request none) far.0.out.now)
went_out c k request conflicts (progresses.Met number conflict) none out far = any_weaker (IsMessageAt number request) (λ m. m.request ≡ request) (λ m at. at.asked) k.sent_now (subst (λ ms. Any (IsMessageAt number request) ms) (plain_sent c.pipelines k request none) far.out.now)
went_out c k request conflicts (progresses.Answered number reply) none out far = any_weaker (IsMessageAt number request) (λ m. m.request ≡ request) (λ m at. at.asked) k.sent_now (subst (λ ms. Any (IsMessageAt number request) ms) (plain_sent c.pipelines k request none) far.0.out.now)

reads_whole : (set : Setting) (k : Known) (x : OpenTxn) (call : Call) (rs : List Request) → AreReadsOf set.splits x call rs → All (IsOfWholeRefresh k) rs
reads_whole set k x (calls.Get key) rs e = subst (λ rs. All (IsOfWholeRefresh k) rs) (sym e) (All-cons (IsOfWholeRefresh k) (own_get x key) [] tt (All-nil (IsOfWholeRefresh k)))
reads_whole set k x (calls.Scan span) rs e =
    subst (λ rs. All (IsOfWholeRefresh k) rs) (sym e)
    (All-map (IsOfWholeRefresh k) (λ p. own_scan x p.1) (pieces set.splits span) (every (λ p. IsOfWholeRefresh k (own_scan x p.1)) (λ p. tt) (pieces set.splits span)))
reads_whole set k x call rs e = absurd e

module _ (session clock count : ℕ) (set : Setting) (k : Known) (x : OpenTxn) (p : Purpose) (ms : List Message) (counted : IsCounted session clock count k) (w : InCall set k x p ms) (out : All (λ m. is_to_send m ≡ false) ms)
    (later : List LaterPut) (outbox : KeepsOutbox set.course.loses k x later ms) where
  abbrev asks : Span → Request
  asks span = refresh_to x.id x.reads.ts x.write_ts span

  -- each span of the messages was asked to be refreshed
  asked_of : (spans : List Span) (xs : List Message) → map (λ m. m.request) xs ≡ map asks spans → All (MessageStands set.course k) xs → All (λ m. is_to_send m ≡ false) xs → (span : Span) → Contains spans span → Any (λ m. m.request ≡ asks span) k.sent_now
  asked_of [] xs same stand out span there = absurd (contains_nil span there)
  asked_of (one ∷ spans) [] same stand out span there = absurd cc
  asked_of (one ∷ spans) (y ∷ xs) same stand out span there =
      let first : y.request ≡ asks one = cc in
      let rest : map (λ (m : Message). m.request) xs ≡ map asks spans = cc in
      let st = All-head (MessageStands set.course k) y xs stand in
      elim (contains_cons one spans span there) as (λ c. Any (λ m. m.request ≡ asks span) k.sent_now) [
        | inl is ↦ subst (λ q. Any (λ m. m.request ≡ q) k.sent_now) (first ∙ ap asks is) (went_out set.course k y.request y.conflicts y.progress (ap is_put first) (All-head (λ m. is_to_send m ≡ false) y xs out) st.as_far)
        | inr behind ↦ asked_of spans xs rest (All-tail (MessageStands set.course k) y xs stand) (All-tail (λ m. is_to_send m ≡ false) y xs out) span behind
      ]

  one_whole : (other : Message) → ms ≡ other ∷ [] → IsOfWholeRefresh k other.request → All (IsOfWholeRefresh k) (map (λ m. m.request) ms)
  one_whole other one whole = subst (λ ms. All (IsOfWholeRefresh k) (map (λ (m : Message). m.request) ms)) (sym one) (All-cons (IsOfWholeRefresh k) other.request [] whole (All-nil (IsOfWholeRefresh k)))

  write_whole : (r : ServesWrite k w.s w.t x ms) → LaysNext k w.s w.t x r.key r.value r.m ⊎ LaysLast k w.t x r.key r.value r.m → All (IsOfWholeRefresh k) (map (λ m. m.request) ms)
  write_whole r (inl l) = one_whole r.m r.one (subst (IsOfWholeRefresh k) (sym l.said) tt)
  write_whole r (inr l) = one_whole r.m r.one (subst (IsOfWholeRefresh k) (sym l.said) tt)

  puts_whole : (call : Call) (all : Bool) (ys : List Message) → All (SendsAgain call all k w.t x) ys → All (λ m. IsOfWholeRefresh k m.request) ys
  puts_whole call all ys again = All-weaker (SendsAgain call all k w.t x) (λ m. IsOfWholeRefresh k m.request) (λ m a. subst (IsOfWholeRefresh k) (sym a.said) tt) ys again

  stage_whole : (anchor : List ℕ) (stage : List Message) → StageStands k w.s w.t x w.stages anchor stage → All (λ m. IsOfWholeRefresh k m.request) stage
  stage_whole anchor [] left = All-nil (λ (m : Message). IsOfWholeRefresh k m.request)
  stage_whole anchor (m ∷ []) (inl next) = All-cons (λ (m : Message). IsOfWholeRefresh k m.request) m [] (subst (IsOfWholeRefresh k) (sym next.said) tt) (All-nil (λ (m : Message). IsOfWholeRefresh k m.request))
  stage_whole anchor (m ∷ []) (inr out) = All-cons (λ (m : Message). IsOfWholeRefresh k m.request) m [] (subst (IsOfWholeRefresh k) (sym out.said) tt) (All-nil (λ (m : Message). IsOfWholeRefresh k m.request))
  stage_whole anchor (m ∷ other ∷ more) none = absurd none

  all_whole : (q : Purpose) → p ≡ q → Serves set k w.s w.t x w.stages q ms → All (IsOfWholeRefresh k) (map (λ m. m.request) ms)
  all_whole (purposes.Beat call reading) e r = one_whole r.m r.one (subst (IsOfWholeRefresh k) (sym r.said) tt)
  all_whole (purposes.Prove call all) e r = All-map (IsOfWholeRefresh k) (λ (m : Message). m.request) ms (puts_whole call all ms r.again)
  all_whole (purposes.Stage n) e r =
      subst (λ ms. All (IsOfWholeRefresh k) (map (λ (m : Message). m.request) ms)) (sym r.wave.whole)
      (All-map (IsOfWholeRefresh k) (λ (m : Message). m.request) (r.wave.puts ++ r.wave.stage) (All-append (λ (m : Message). IsOfWholeRefresh k m.request) r.wave.puts r.wave.stage (puts_whole calls.Commit true r.wave.puts r.wave.again) (stage_whole r.commits.anchor r.wave.stage r.wave.stands)))
  all_whole (purposes.Query n holder puts) e r = one_whole r.m r.asks (subst (IsOfWholeRefresh k) (sym r.said) tt)
  all_whole (purposes.LastBeat answer reading) e r = one_whole r.m r.one (subst (IsOfWholeRefresh k) (sym r.said) tt)
  all_whole purposes.Read e r = reads_whole set k x w.s.call (map (λ m. m.request) ms) r.asked
  all_whole purposes.Write e r = write_whole r r.lays
  all_whole (purposes.Refresh n puts) e r =
      let all : AreAllAsked k x.id x.reads.ts x.write_ts = λ t opened.
      let same : w.t ≡ t = same_Some w.t t (sym (open_is k w.t w.open_in) ∙ opened) in
      subst (λ (t : Txn). All (λ r. Any (λ m. m.request ≡ asks r.span) k.sent_now) t.reads) same
      (All-weaker (λ r. Contains x.reads.spans r.span) (λ r. Any (λ m. m.request ≡ asks r.span) k.sent_now) (λ read there. asked_of x.reads.spans ms r.asked w.wave.stand out read.span there) w.t.reads w.stands.reads.kept) in
      subst (λ rs. All (IsOfWholeRefresh k) rs) (sym r.asked) (All-map (IsOfWholeRefresh k) asks x.reads.spans (every (λ span. IsOfWholeRefresh k (asks span)) (λ span. all) x.reads.spans))
  all_whole (purposes.Commit n) e r = one_whole r.m r.one (subst (IsOfWholeRefresh k) (sym r.said) tt)
  all_whole (purposes.Abort why) e r = one_whole r.m r.one (subst (IsOfWholeRefresh k) (sym r.said) tt)

  -- a reply to a refresh is heard once all were asked, where the messages of the wave went out before
  pub in_one_wave : (number : ℕ) (reply : Reply) (h : Heard) → wave_awaits number ms ≡ true → IsHeardTo k number reply h → RefreshesInOneWave k (Some h)
  in_one_wave number reply h waited is = of_request session clock count set k x p ms counted w number reply h waited is (IsOfWholeRefresh k) (all_whole p refl w.serves)
