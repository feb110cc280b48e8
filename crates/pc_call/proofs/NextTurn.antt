-- Where writes are pipelined and no conflict waits, a call goes on as no refused stage passed over an eighth conflict; an own write is asked for where it blocks
-- the call.
use Rattle.std.proofs.Common.{◌≡◌, ℕ, ◌<◌, true, false, ◌⊎◌, inl, inr, List, [], ◌∷◌, find, None, Some, refl, sym, ap, ◌∙◌, subst, All, Any, IsTrue, map}
use Rattle.std.proofs.lemmas.List.Elements.{All-append, All-cons, All-contains, All-nil, All-weaker}
use Rattle.pc_base.specs.declared.transaction.TxnId.{TxnId}
use Rattle.pc_call.proofs.Facts.{open_is}
use Rattle.pc_call.proofs.FoundBlocked.{first_met}
use Rattle.pc_call.proofs.Lists.{all_unmapped}
use Rattle.pc_call.proofs.Resending.{one_unasked, still_unqueried, write_unasked}
use Rattle.pc_call.proofs.StageLists.{found_front}
use Rattle.pc_call.proofs.StillReplies.{is_still, reads_still, refreshes_still}
use Rattle.pc_call.specs.Beside.{is_query}
use Rattle.pc_call.specs.declared.purpose.Purpose.{Purpose}
use Rattle.pc_call.specs.declared.purpose.Purpose.TheVariants as purposes
use Rattle.pc_call.specs.Met.{AreMetBy, ArePassedBelow, HasMetConflict}
use Rattle.pc_call.specs.Serving.{InCall, SendsAgain, Serves, ServesQuery, StageStands, is_last_beat, out_of}
use Rattle.pc_call.specs.Setting.{Setting}
use Rattle.pc_call.specs.Waiting.{SendsWrite}
use Rattle.pc_follows.specs.CallMessages.{IsQueryOfOwn}
use Rattle.pc_follows.specs.OwnQueries.{MayHaveWrite}
use Rattle.pc_follows.specs.PipelinedRounds.{AreAllOver, IsInNextTurn, MayGoOn}
use Rattle.pc_lists.proofs.Anywhere.{any_weaker}
use Rattle.pc_lists.proofs.Same.{same_txn-self}
use Rattle.pc_proto.specs.declared.call.Call.TheVariants as calls
use Rattle.pc_proto.specs.declared.request.Request.{Request}
use Rattle.pc_proto.specs.declared.request.Request.TheVariants as requests
use Rattle.pc_proto.specs.Requests.{is_put_of}
use Rattle.pc_base.specs.Transaction.{same_txn}
use Rattle.pc_staging.proofs.Deciding.{late_stages}
use Rattle.pc_staging.proofs.Hears.{own_each}
use Rattle.pc_staging.specs.Standing.{WasStageSent}
use Rattle.pc_txn.proofs.Puts.{puts-own}
use Rattle.pc_txn.specs.declared.txn.OpenTxn.{OpenTxn}
use Rattle.pc_txn.specs.Opened.{meta_now, put_at}
use Rattle.pc_txn.specs.Queries.{own_query}
use Rattle.pc_txn.specs.Standing.{IsStageHere, TxnStands}
use Rattle.pc_wave.proofs.Changed.{found_all}
use Rattle.pc_wave.specs.declared.message.Message.{Message}
use Rattle.pc_wave.specs.Messages.{is_in_conflict, is_to_send}
use Rattle.pc_wave.specs.Standing.{MessageStands, goes_beside}
use Rattle.pc_world.specs.Known.{Known}
use Rattle.pc_world.specs.Known.Traffic.{Sent}
use Rattle.pc_world.specs.StageFate.{IsLate, IsStageWith, stage_request}

module _ (k : Known) (below : ArePassedBelow k) where
  goes_on : AreAllOver k ⊎ ⊥ → MayGoOn k
  goes_on (inl over) = record { over = over; below = below }
  goes_on (inr none) = absurd none

  -- a request of a wave, but an own query, goes out where the call may go on
  plain_turn : (r : Request) → goes_beside r ≡ false → is_query r ≡ false → AreAllOver k ⊎ IsQueryOfOwn k r → IsInNextTurn k r
  plain_turn (requests.Push holder by level now goal) own none turn = absurd cc
  plain_turn (requests.Recover id epoch ts anchor finding) own none turn = absurd cc
  plain_turn (requests.Resolve id key fate) own none turn = absurd cc
  plain_turn (requests.Query id epoch seq ts key by) own none turn = absurd cc
  plain_turn (requests.Beat meta ts now) own none turn = tt
  plain_turn r own none turn = goes_on turn

module _ (set : Setting) (k : Known) (x : OpenTxn) (p : Purpose) (ms : List Message) (w : InCall set k x p ms) where
  -- ---- an own query

  module _ (n : ℕ) (holder : TxnId) (puts : List Message) (e : p ≡ purposes.Query n holder puts) (r : ServesQuery set.course n holder puts k w.s w.t x w.stages ms) where
    st : TxnStands k w.stages None w.t x
    st = subst (λ o. TxnStands k w.stages o w.t x) (ap (λ q. out_of q ms) e) w.stands

    id_is : x.id ≡ w.t.id
    id_is = ap (λ (x : OpenTxn). x.id) st.same

    first : (m : Message) × (find is_in_conflict r.wave.puts ≡ Some m) × HasMetConflict m r.next.next.conflict
    first = first_met r.wave.puts r.next.next.conflict r.next.next.later (subst (AreMetBy r.wave.puts) r.next.next.waits r.wave.waiting)

    in_whole : find is_in_conflict puts ≡ Some first.0
    in_whole = subst (λ ms. find is_in_conflict ms ≡ Some first.0) (sym r.wave.whole) (found_front is_in_conflict r.wave.puts r.wave.stage first.0 first.1)

    sends : SendsWrite r.w first.0
    sends = r.first first.0 in_whole

    own : SendsAgain calls.Commit true k w.t x first.0
    own = found_all is_in_conflict (SendsAgain calls.Commit true k w.t x) r.wave.puts first.0 first.1 r.wave.again

    -- the next conflict is that of its put
    seq_is : own.w.seq ≡ r.w.seq
    seq_is = let same : requests.Put sends.0 r.w.seq sends.1 r.w.key r.w.value ≡ put_at x own.anchor own.ts own.w = sym sends.2 ∙ own.said in cc

    put_is : is_put_of x.id x.epoch own.w.seq first.0.request ≡ true
    put_is = ap (is_put_of x.id x.epoch own.w.seq) own.said ∙ puts-own (meta_now x own.anchor) own.w.seq own.ts own.w.key own.w.value

    of_it : IsTrue (is_put_of x.id x.epoch r.w.seq r.next.next.conflict.request)
    of_it = subst (λ q. IsTrue (is_put_of x.id x.epoch r.w.seq q)) first.2.asked (subst (λ i. IsTrue (is_put_of x.id x.epoch i first.0.request)) seq_is put_is)

    here : IsStageHere k.heard x.staging.staged w.t r.one
    here = All-contains (λ s. (IsLate k.heard s → ⊥) → IsStageHere k.heard x.staging.staged w.t s) w.stages r.one st.live r.kept r.live

    whose : IsTrue (same_txn r.one.meta.id x.id)
    whose = ap (λ id. same_txn id x.id) ((All-contains (WasStageSent k.sent w.t.id) w.stages r.one st.staging.sent r.kept).whose ∙ sym id_is) ∙ same_txn-self x.id

    may_have : MayHaveWrite k x.epoch r.w.seq x.write_ts r.w.key r.one
    may_have = record {
      epoch_same = (own_each k.heard w.t w.stages x.staging.stages st.staging.kept r.one r.kept).1 ∙ sym (ap (λ (x : OpenTxn). x.epoch) st.same);
      ts_same = here.at_write_ts ∙ sym (ap (λ (x : OpenTxn). x.write_ts) st.same);
      listed = r.listed;
      not_late = r.live;
    }

    -- The message is a stage that may have the write.
    abbrev Stages : Sent → Type 0
    Stages m = IsStageWith x.id (MayHaveWrite k x.epoch r.w.seq x.write_ts r.w.key) m.request

    -- its stage, which is not late, went out in the call
    staged : (stage : List Message) → StageStands k w.s w.t x w.stages r.commits.anchor stage → Any Stages k.sent_now
    staged [] left = absurd (r.live (All-contains (IsLate k.heard) w.stages r.one left.late r.kept))
    staged (m ∷ []) (inl next) =
        absurd (r.live (All-contains (λ s. IsLate k.heard s × (s.ts < w.t.write_ts)) w.stages r.one (late_stages k w.stages None w.t x.staging st.staging next.passed) r.kept).0)
    staged (m ∷ []) (inr out) =
        elim (All-contains (λ other. (other ≡ out.one) ⊎ IsLate k.heard other) w.stages r.one out.others r.kept) as (λ e. Any Stages k.sent_now) [
          | inl same ↦
              any_weaker (λ (m : Sent). m.request ≡ stage_request out.one) Stages
              (λ m is. subst (IsStageWith x.id (MayHaveWrite k x.epoch r.w.seq x.write_ts r.w.key)) (ap stage_request same ∙ sym is) (whose, may_have)) k.sent_now out.here
          | inr late ↦ absurd (r.live late)
        ]
    staged (m ∷ other ∷ rest) both = absurd both

    query_turn : IsInNextTurn k (own_query x r.w.key r.w.seq)
    query_turn = inl ((w.t, open_is k w.t w.open_in, sym id_is), record { holder = holder; block = r.next; of = of_it; stage = staged r.wave.stage r.wave.stands })

  -- ---- what goes out next

  module _ (m : Message) (found : find is_to_send ms ≡ Some m) where
    alone : (y : Message) → ms ≡ y ∷ [] → y ≡ m
    alone y one = found_all is_to_send (λ z. y ≡ z) ms m found (subst (λ ms. All (λ z. y ≡ z) ms) (sym one) (All-cons (λ z. y ≡ z) y [] refl (All-nil (λ z. y ≡ z))))

    stage_unasked : (anchor : List ℕ) (stage : List Message) → StageStands k w.s w.t x w.stages anchor stage → All (λ m. is_query m.request ≡ false) stage
    stage_unasked anchor [] left = All-nil (λ m. is_query m.request ≡ false)
    stage_unasked anchor (y ∷ []) (inl next) = All-cons (λ m. is_query m.request ≡ false) y [] (ap is_query next.said) (All-nil (λ m. is_query m.request ≡ false))
    stage_unasked anchor (y ∷ []) (inr out) = All-cons (λ m. is_query m.request ≡ false) y [] (ap is_query out.said) (All-nil (λ m. is_query m.request ≡ false))
    stage_unasked anchor (y ∷ other ∷ rest) both = absurd both

    still_unasked : All (λ q. is_still q ≡ true) (map (λ m. m.request) ms) → All (λ m. is_query m.request ≡ false) ms
    still_unasked still = All-weaker (λ m. is_still m.request ≡ true) (λ m. is_query m.request ≡ false) (λ m is. still_unqueried m.request is) ms (all_unmapped (λ q. is_still q ≡ true) (λ (m : Message). m.request) ms still)

    plainly : is_last_beat p ≡ false → All (λ m. is_query m.request ≡ false) ms → AreAllOver k ⊎ IsQueryOfOwn k m.request → IsInNextTurn k m.request
    plainly goes unasked turn =
        plain_turn k (w.below goes) m.request (found_all is_to_send (MessageStands set.course k) ms m found w.wave.stand).no_round (found_all is_to_send (λ m. is_query m.request ≡ false) ms m found unasked) turn

    pub in_turn : AreAllOver k ⊎ IsQueryOfOwn k m.request → IsInNextTurn k m.request
    in_turn turn = by p refl w.serves
      where
        by : (q : Purpose) → p ≡ q → Serves set k w.s w.t x w.stages q ms → IsInNextTurn k m.request
        by (purposes.Beat call reading) e r = plainly (ap is_last_beat e) (one_unasked set k x p ms w r.m r.one (ap is_query r.said)) turn
        by (purposes.Prove call all) e r = plainly (ap is_last_beat e) (All-weaker (SendsAgain call all k w.t x) (λ m. is_query m.request ≡ false) (λ m a. ap is_query a.said) ms r.again) turn
        by purposes.Read e r = plainly (ap is_last_beat e) (still_unasked (reads_still set.splits x w.s.call (map (λ (m : Message). m.request) ms) r.asked)) turn
        by purposes.Write e r = plainly (ap is_last_beat e) (write_unasked set k x p ms w r) turn
        by (purposes.Refresh n puts) e r = plainly (ap is_last_beat e) (still_unasked (refreshes_still x (map (λ (m : Message). m.request) ms) r.asked)) turn
        by (purposes.Stage n) e r =
            plainly (ap is_last_beat e)
            (subst (λ ms. All (λ (m : Message). is_query m.request ≡ false) ms) (sym r.wave.whole)
            (All-append (λ m. is_query m.request ≡ false) r.wave.puts r.wave.stage (All-weaker (SendsAgain calls.Commit true k w.t x) (λ m. is_query m.request ≡ false) (λ m a. ap is_query a.said) r.wave.puts r.wave.again) (stage_unasked r.commits.anchor r.wave.stage r.wave.stands)))
            turn
        by (purposes.Query n holder puts) e r =
            subst (λ (m : Message). IsInNextTurn k m.request) (alone r.m r.asks) (subst (IsInNextTurn k) (sym r.said) (query_turn n holder puts e r))
        by (purposes.Commit n) e r = plainly (ap is_last_beat e) (one_unasked set k x p ms w r.m r.one (ap is_query r.said)) turn
        by (purposes.LastBeat answer reading) e r = subst (λ (m : Message). IsInNextTurn k m.request) (alone r.m r.one) (subst (IsInNextTurn k) (sym r.said) tt)
        by (purposes.Abort why) e r = plainly (ap is_last_beat e) (one_unasked set k x p ms w r.m r.one (ap is_query r.said)) turn
